-- Messages that come to nodes, and that are delivered or dropped.
use Rattle.std.proofs.Common.{◌≡◌, ◌∙◌, ℕ, zero, suc, ◌+◌, ◌-◌, ◌<◌, Bool, true, false, cond, ◌&&◌, List, [], ◌∷◌, ◌++◌, length, Option, Some, None, Ok, Err, refl, sym, ap, subst, arith}
use Rattle.std.specs.Prelude.{◌^◌, Result, nat_lt, slice_get, slice_set}
use Rattle.std.proofs.lemmas.List.{length-set}
use Rattle.ct_values.specs.declared.config.Config.{Config}
use Rattle.ct_frame.specs.declared.event.Event.{Event}
use Rattle.ct_frame.specs.declared.event.Event.TheVariants as event
use Rattle.ct_frame.specs.declared.frame.Frame.{Frame}
use Rattle.ct_call.specs.Rules.{Rules}
use Rattle.ct_rules_cluster.specs.Cluster.{Cluster, Delivered, Dropped, Fate, Sent, is_up, node_at, sent_at, World}
use Rattle.ct_rules_cluster.specs.Steps.{Stepped, deliver, done, drop, fed, fed_of, frames_of, if_counted, is_counted, lines_of, put, repeat, with_fate, with_node}
use Rattle.ct_rules_cluster.specs.declared.step.Line.{Line}
use Rattle.ct_rules_cluster.specs.declared.step.Line.TheVariants as line
use Rattle.ct_rules_cluster.specs.declared.step.StepFault.{StepFault}
use Rattle.ct_rules_cluster.specs.declared.step.StepFault.TheVariants as fault
use Rattle.ct_rules_node.specs.Steps.{stepped}
use Rattle.ct_rules_node.specs.Turn.{Turn}
use Rattle.ct_world.specs.World.{Applies, cluster_of, world_of}
use Rattle.ct_world.specs.declared.parts.Parts.{Parts}

-- ---- lists

set_before : {X : Type 0} (xs ys : List X) (k : ℕ) (z : X) → k < length xs → slice_set (xs ++ ys) k z ≡ slice_set xs k z ++ ys
set_before [] ys k z l = absurd (omega (arith, l))
set_before (x ∷ xs) ys zero z l = refl
set_before (x ∷ xs) ys (suc k) z l = ap (λ (l : List _). x ∷ l) (set_before xs ys k z (omega (arith, l)))

got_before : {X : Type 0} (xs ys : List X) (k : ℕ) (x : X) → slice_get xs k ≡ Some x → slice_get (xs ++ ys) k ≡ Some x
got_before [] ys k x e = absurd (cc)
got_before (y ∷ xs) ys zero x e = e
got_before (y ∷ xs) ys (suc k) x e = got_before xs ys k x e

got_within : {X : Type 0} (xs : List X) (k : ℕ) (x : X) → slice_get xs k ≡ Some x → k < length xs
got_within [] k x e = absurd (cc)
got_within (y ∷ xs) zero x e = omega arith
got_within (y ∷ xs) (suc k) x e = (let l = got_within xs k x e in omega (arith, l))

-- ---- a step that goes on

-- what comes of a step that is not refused, changed by this
abbrev then_by : (Stepped → Stepped) → Result Stepped StepFault → Result Stepped StepFault
then_by g (Ok x) = Ok (g x)
then_by g (Err f) = Err f

-- a step with another fate of a message
abbrev fated : ℕ → Sent → Fate → Stepped → Stepped
fated k s f x = record { cluster = with_fate k s f x.cluster; lines = x.lines }

fate_counted : (k : ℕ) (s : Sent) (f : Fate) (w : Cluster) → is_counted (with_fate k s f w) ≡ is_counted w
unfolding with_fate is_counted
fate_counted zero s f w = refl
fate_counted (suc k) s f w = ap (λ (l : ℕ). nat_lt l (2 ^ 62) && nat_lt w.ticket (2 ^ 62) && nat_lt w.calls (2 ^ 62)) (length-set w.sent k (record s { fate = f }))

counted_fated : (k : ℕ) (s : Sent) (f : Fate) (x : Stepped) → if_counted (fated k s f x) ≡ then_by (fated k s f) (if_counted x)
unfolding if_counted
counted_fated k s f x = ap (λ (b : Bool). cond b (Ok (fated k s f x)) (Err fault.Exhausted)) (fate_counted k s f x.cluster) ∙ by (is_counted x.cluster)
  where
    by : (b : Bool) → cond b (Ok (fated k s f x)) (Err fault.Exhausted) ≡ then_by (fated k s f) (cond b (Ok x) (Err fault.Exhausted))
    by true = refl
    by false = refl

-- a message that was sent before has its fate beside those that are sent now
put_fated : (n : ℕ) (t : Turn) (own : List Line) (k : ℕ) (s r : Sent) (f : Fate) (w : Cluster) → sent_at k w ≡ Some r → put n t own (with_fate k s f w) ≡ fated k s f (put n t own w)
unfolding put with_node with_fate sent_at
put_fated n t own zero s r f w at = absurd (cc)
put_fated n t own (suc k) s r f w at = (λ i. record {
  cluster = record (with_node n t.node w) { sent = sym (set_before w.sent (frames_of t.outs) k (record s { fate = f }) (got_within w.sent k r at)) i };
  lines = own ++ lines_of n (length-set w.sent k (record s { fate = f }) i + 1) t.outs;
})

fated_of : (n : ℕ) (own : List Line) (k : ℕ) (s r : Sent) (f : Fate) (w : Cluster) (o : Option Turn) → sent_at k w ≡ Some r → fed_of n own (with_fate k s f w) o ≡ then_by (fated k s f) (fed_of n own w o)
unfolding fed_of
fated_of n own k s r f w None at = refl
fated_of n own k s r f w (Some t) at = ap if_counted (put_fated n t own k s r f w at) ∙ counted_fated k s f (put n t own w)

fate_node : (n k : ℕ) (s : Sent) (f : Fate) (w : Cluster) → node_at n (with_fate k s f w) ≡ node_at n w
unfolding with_fate node_at
fate_node n zero s f w = refl
fate_node n (suc k) s f w = refl

fed_fated : (c : Config) (rules : Rules) (n : ℕ) (e : Event) (own : List Line) (k : ℕ) (s r : Sent) (f : Fate) (w : Cluster) → sent_at k w ≡ Some r → fed c rules n e own (with_fate k s f w) ≡ then_by (fated k s f) (fed c rules n e own w)
unfolding fed
fed_fated c rules n e own k s r f w at =
    ap (λ (x : _). fed_of n own (with_fate k s f w) (stepped c rules n e x)) (fate_node n k s f w) ∙ fated_of n own k s r f w (stepped c rules n e (node_at n w)) at

-- ---- messages that were sent before a step

counted_same : (s x : Stepped) → if_counted s ≡ Ok x → s ≡ x
unfolding if_counted
counted_same s x e = by (is_counted s.cluster) e
  where
    by : (b : Bool) → cond b (Ok s) (Err fault.Exhausted) ≡ Ok x → s ≡ x
    by true k = cc
    by false k = absurd (cc)

fed_of_keeps : (n : ℕ) (own : List Line) (w : Cluster) (o : Option Turn) (x : Stepped) (k : ℕ) (s : Sent) → fed_of n own w o ≡ Ok x → sent_at k w ≡ Some s → sent_at k x.cluster ≡ Some s
unfolding fed_of put with_node sent_at
fed_of_keeps n own w None x k s ok at = absurd (cc)
fed_of_keeps n own w (Some t) x zero s ok at = absurd (cc)
fed_of_keeps n own w (Some t) x (suc k) s ok at = subst (λ (y : Stepped). slice_get y.cluster.sent k ≡ Some s) (counted_same (put n t own w) x ok) (got_before w.sent (frames_of t.outs) k s at)

-- they are still there
pub fed_keeps : (c : Config) (rules : Rules) (n : ℕ) (e : Event) (own : List Line) (w : Cluster) (x : Stepped) (k : ℕ) (s : Sent) → fed c rules n e own w ≡ Ok x → sent_at k w ≡ Some s → sent_at k x.cluster ≡ Some s
unfolding fed
fed_keeps c rules n e own w x k s ok at = fed_of_keeps n own w (stepped c rules n e (node_at n w)) x k s ok at

-- ---- the fate of a message of the parts

less_one : (k : ℕ) → suc k - 1 ≡ k
less_one k = omega arith

fated_parts : (k : ℕ) (s r : Sent) (f : Fate) (p : Parts) → sent_at k (cluster_of p) ≡ Some r → with_fate k s f (cluster_of p) ≡ cluster_of (record p { mail = slice_set p.mail (k - 1) (record s { fate = f }) })
unfolding with_fate sent_at
fated_parts zero s r f p at = absurd (cc)
fated_parts (suc k) s r f p at = sym (ap (λ (j : ℕ). cluster_of (record p { mail = slice_set p.mail j (record s { fate = f }) })) (less_one k))

-- ---- messages that come

-- the rule's own words, where a refusal is the same
same_refusal : {X : Type 0} (lines : X → List Line) (f : StepFault) (rule other : Result Stepped StepFault) (v w : World) → (rule ≡ Err f → other ≡ Err f) → Applies lines (Err f) rule v w → Applies lines (Err f) other v w
same_refusal lines fault.NoMemory rule other v w h a = a
same_refusal lines _ rule other v w h a = (h a.0, a.1)

module _ (rules : Rules) (k : ℕ) (s : Sent) (f : Frame) (old : Parts) (at : sent_at k (cluster_of old) ≡ Some s) (same : s.frame ≡ f) where
  up_rule : is_up f.receiver (cluster_of old) ≡ true → deliver old.config rules k (cluster_of old) (sent_at k (cluster_of old)) ≡ then_by (fated k s Delivered) (fed old.config rules f.receiver (event.Arrive f) [] (cluster_of old))
  unfolding deliver
  up_rule up =
      subst (λ (g : Frame). is_up g.receiver (cluster_of old) ≡ true → deliver old.config rules k (cluster_of old) (sent_at k (cluster_of old)) ≡ then_by (fated k s Delivered) (fed old.config rules g.receiver (event.Arrive g) [] (cluster_of old))) same
      (λ u. ap (deliver old.config rules k (cluster_of old)) at
      ∙ ap (λ (b : Bool). cond b (fed old.config rules s.frame.receiver (event.Arrive s.frame) [] (with_fate k s Delivered (cluster_of old))) (done (line.Lost k ∷ []) (with_fate k s Dropped (cluster_of old)))) u
      ∙ fed_fated old.config rules s.frame.receiver (event.Arrive s.frame) [] k s s Delivered (cluster_of old) at) up

  -- a message that is delivered
  pub delivered : (mid new : Parts) (lines : List Line) → is_up f.receiver (cluster_of old) ≡ true → fed old.config rules f.receiver (event.Arrive f) [] (cluster_of old) ≡ Ok (record { cluster = cluster_of mid; lines = lines }) → world_of mid ≡ record (world_of old) { cluster = cluster_of mid } →
      new ≡ record mid { mail = slice_set mid.mail (k - 1) (record s { fate = Delivered }) } →
      (deliver old.config rules k (cluster_of old) (sent_at k (cluster_of old)) ≡ Ok (record { cluster = cluster_of new; lines = lines })) × (world_of new ≡ record (world_of old) { cluster = cluster_of new })
  delivered mid new lines up ok kept is =
      let there = fed_keeps old.config rules f.receiver (event.Arrive f) [] (cluster_of old) (record { cluster = cluster_of mid; lines = lines }) k s ok at in
      let c : mid.config ≡ old.config = ap (λ (v : World). v.config) kept in
      subst (λ (q : Parts). (deliver old.config rules k (cluster_of old) (sent_at k (cluster_of old)) ≡ Ok (record { cluster = cluster_of q; lines = lines })) × (world_of q ≡ record (world_of old) { cluster = cluster_of q })) (sym is) (
        up_rule up ∙ ap (then_by (fated k s Delivered)) ok ∙ ap (λ (v : Cluster). Ok (record { cluster = v; lines = lines })) (fated_parts k s s Delivered mid there),
        (λ i. record { config = c i; cluster = cluster_of (record mid { mail = slice_set mid.mail (k - 1) (record s { fate = Delivered }) }) }),
      )

  -- one that the node does not take
  pub undelivered : {X : Type 0} (lines : X → List Line) (e : StepFault) (new : Parts) → is_up f.receiver (cluster_of old) ≡ true → Applies lines (Err e) (fed old.config rules f.receiver (event.Arrive f) [] (cluster_of old)) (world_of old) (world_of new) →
      Applies lines (Err e) (deliver old.config rules k (cluster_of old) (sent_at k (cluster_of old))) (world_of old) (world_of new)
  undelivered lines e new up a = same_refusal lines e _ _ (world_of old) (world_of new) (λ r. up_rule up ∙ ap (then_by (fated k s Delivered)) r) a

  -- one whose receiver is down
  pub lost : is_up f.receiver (cluster_of old) ≡ false → (new : Parts) → new ≡ record old { mail = slice_set old.mail (k - 1) (record s { fate = Dropped }) } →
      (deliver old.config rules k (cluster_of old) (sent_at k (cluster_of old)) ≡ Ok (record { cluster = cluster_of new; lines = line.Lost k ∷ [] })) × (world_of new ≡ record (world_of old) { cluster = cluster_of new })
  unfolding deliver done
  lost down new is =
      let d : is_up s.frame.receiver (cluster_of old) ≡ false = ap (λ (g : Frame). is_up g.receiver (cluster_of old)) same ∙ down in
      subst (λ (q : Parts). (deliver old.config rules k (cluster_of old) (sent_at k (cluster_of old)) ≡ Ok (record { cluster = cluster_of q; lines = line.Lost k ∷ [] })) × (world_of q ≡ record (world_of old) { cluster = cluster_of q })) (sym is) (
        ap (deliver old.config rules k (cluster_of old)) at
            ∙ ap (λ (b : Bool). cond b (fed old.config rules s.frame.receiver (event.Arrive s.frame) [] (with_fate k s Delivered (cluster_of old))) (done (line.Lost k ∷ []) (with_fate k s Dropped (cluster_of old)))) d
            ∙ ap (λ (v : Cluster). Ok (record { cluster = v; lines = line.Lost k ∷ [] })) (fated_parts k s s Dropped old at),
        refl,
      )

  -- one that comes again
  pub again : is_up f.receiver (cluster_of old) ≡ true → repeat old.config rules k (cluster_of old) (sent_at k (cluster_of old)) ≡ fed old.config rules f.receiver (event.Arrive f) [] (cluster_of old)
  unfolding repeat
  again up =
      subst (λ (g : Frame). is_up g.receiver (cluster_of old) ≡ true → repeat old.config rules k (cluster_of old) (sent_at k (cluster_of old)) ≡ fed old.config rules g.receiver (event.Arrive g) [] (cluster_of old)) same
      (λ u. ap (repeat old.config rules k (cluster_of old)) at
      ∙ ap (λ (b : Bool). cond b (fed old.config rules s.frame.receiver (event.Arrive s.frame) [] (cluster_of old)) (done (line.Lost k ∷ []) (cluster_of old))) u) up

  -- one that comes again to a node that is down
  pub again_lost : is_up f.receiver (cluster_of old) ≡ false → repeat old.config rules k (cluster_of old) (sent_at k (cluster_of old)) ≡ Ok (record { cluster = cluster_of old; lines = line.Lost k ∷ [] })
  unfolding repeat done
  again_lost down =
      let d : is_up s.frame.receiver (cluster_of old) ≡ false = ap (λ (g : Frame). is_up g.receiver (cluster_of old)) same ∙ down in
      ap (repeat old.config rules k (cluster_of old)) at
      ∙ ap (λ (b : Bool). cond b (fed old.config rules s.frame.receiver (event.Arrive s.frame) [] (cluster_of old)) (done (line.Lost k ∷ []) (cluster_of old))) d

  -- one that is dropped
  pub dropped : (new : Parts) → new ≡ record old { mail = slice_set old.mail (k - 1) (record s { fate = Dropped }) } →
      (drop k (cluster_of old) (sent_at k (cluster_of old)) ≡ Ok (record { cluster = cluster_of new; lines = [] })) × (world_of new ≡ record (world_of old) { cluster = cluster_of new })
  unfolding drop done
  dropped new is =
      subst (λ (q : Parts). (drop k (cluster_of old) (sent_at k (cluster_of old)) ≡ Ok (record { cluster = cluster_of q; lines = [] })) × (world_of q ≡ record (world_of old) { cluster = cluster_of q })) (sym is)
      (ap (drop k (cluster_of old)) at ∙ ap (λ (v : Cluster). Ok (record { cluster = v; lines = [] })) (fated_parts k s s Dropped old at), refl)
