-- Steps that are taken, and make one entry of a node.
use Rattle.std.proofs.Common.{◌≡◌, ℕ, zero, suc, ◌+◌, ◌<◌, ◌≤◌, Bool, true, cond, not, List, [], ◌∷◌, ◌++◌, length, set, Option, None, Some, arith, refl, sym, ap, ◌∙◌, subst, ⊎_elim}
use Rattle.std.proofs.lemmas.Bool.{and_from, and_parts, cases_eq, eq-eqb, lt-ltb, ne_eqb}
use Rattle.std.proofs.lemmas.List.Folds.{list_all-append}
use Rattle.std.specs.List.{list_all}
use Rattle.std.specs.Prelude.{nat_lt}
use Rattle.ct_values.specs.Words.{is_this_node}
use Rattle.ct_call.specs.Rules.{Rules}
use Rattle.ct_values.specs.declared.client.ClientOp.{ClientOp}
use Rattle.ct_values.specs.declared.config.Config.{Config}
use Rattle.ct_frame.specs.Fields.{ascends}
use Rattle.ct_frame.specs.declared.event.Event.{Event}
use Rattle.ct_frame.specs.declared.event.Event.TheVariants as event
use Rattle.ct_frame.specs.declared.event.Out.{Out}
use Rattle.ct_frame.specs.declared.event.Out.TheVariants as out
use Rattle.ct_rules_node.specs.Coming.{is_allowed_op}
use Rattle.ct_rules_node.specs.Node.{is_among}
use Rattle.ct_rules_node.specs.Refusals.{first_of, refused_if}
use Rattle.ct_rules_node.specs.Steps.{stepped}
use Rattle.ct_rules_node.specs.Turn.{Turn}
use Rattle.ct_rules_cluster.specs.Cluster.{Cluster, Delivered, Dropped, Fate, Sent, Waiting, is_delivered, is_delivered_fate, is_up, is_waiting, is_waiting_fate, node_at, sent_at}
use Rattle.ct_rules_cluster.specs.Faults.{fault_of, is_allowed, lock_held, no_such_node, no_such_nodes, node_down, not_delivered, not_holder, not_member, not_waiting}
use Rattle.ct_rules_cluster.specs.Steps.{deliver, done, frames_of, is_counted, put, recover, repeat, steps, with_fate, with_node}
use Rattle.ct_rules_cluster.specs.declared.step.Line.{Line}
use Rattle.ct_rules_cluster.specs.declared.step.Line.TheVariants as line
use Rattle.ct_rules_cluster.specs.declared.step.Step.{Step}
use Rattle.ct_rules_cluster.specs.declared.step.Step.TheVariants as step
use Rattle.ct_rules_cluster.specs.declared.step.StepFault.TheVariants as fault
use Rattle.ct_journal.specs.Schedules.{after_step, arrival_of, given_by, keeps_all_up, made_by, none_made, noted_of, outs_in, with_made}
use Rattle.ct_law_journal_schedule.proofs.Taking.{after_taken, fed_counted, with_none}
use Rattle.ct_law_journal_schedule.specs.Scheduling.{yields}
use Rattle.ct_law_journal_reach.specs.Making.{after_steps, comes_by, is_not_dropped}

-- these steps are taken, and make one entry of a node
pub record Makes (c : Config) (rules : Rules) (w : Cluster) (ss : List Step) (n : ℕ) (e : Event) (t : Turn) (v : Cluster) : Type 0 where
  pub makes : made_by c rules (Some w) ss ≡ Some (record { node = n; entry = record { event = e; outs = t.outs } } ∷ [])
  pub after : after_steps c rules (Some w) ss ≡ Some v

-- none of these was dropped
abbrev pub AllKept : List Sent → Type 0
AllKept ss = list_all (λ (s : Sent). is_not_dropped s.fate) ss ≡ true

-- ---- a step that is taken

pub one_made : (c : Config) (rules : Rules) (w v : Cluster) (s : Step) (n : ℕ) (e : Event) (t : Turn) → after_step c rules w s ≡ Some v → given_by w s ≡ record { node = n; event = e } ∷ [] → stepped c rules n e (node_at n w) ≡ Some t → Makes c rules w (s ∷ []) n e t v
unfolding made_by noted_of outs_in with_made none_made after_steps
one_made c rules w v s n e t after given turn = record { makes = rw (after, given, turn) refl; after = after }

-- a step before them that makes nothing
pub one_before : (c : Config) (rules : Rules) (w u v : Cluster) (s : Step) (ss : List Step) (n : ℕ) (e : Event) (t : Turn) → after_step c rules w s ≡ Some u → given_by w s ≡ [] → Makes c rules u ss n e t v → Makes c rules w (s ∷ ss) n e t v
unfolding made_by after_steps
one_before c rules w u v s ss n e t after given m = record {
  makes = rw (after, given) (with_none (made_by c rules (Some u) ss) ∙ m.makes);
  after = ap (λ (o : Option Cluster). after_steps c rules o ss) after ∙ m.after;
}

-- ---- messages

frames_kept : (xs : List Out) → AllKept (frames_of xs)
unfolding frames_of is_not_dropped
frames_kept [] = refl
frames_kept (out.Send f ∷ xs) = frames_kept xs
frames_kept (out.Answer call a ∷ xs) = frames_kept xs
frames_kept (out.Note x ∷ xs) = frames_kept xs

pub kept_more : (ss : List Sent) (xs : List Out) → AllKept ss → AllKept (ss ++ frames_of xs)
kept_more ss xs h = list_all-append (λ (s : Sent). is_not_dropped s.fate) ss (frames_of xs) ∙ and_from (list_all (λ (s : Sent). is_not_dropped s.fate) ss) (list_all (λ (s : Sent). is_not_dropped s.fate) (frames_of xs)) h (frames_kept xs)

kept_set : (ss : List Sent) (k : ℕ) (y : Sent) → is_not_dropped y.fate ≡ true → AllKept ss → AllKept (set ss k y)
kept_set [] k y is h = h
kept_set (s ∷ ss) zero y is h = let p = and_parts (is_not_dropped s.fate) (list_all (λ (s : Sent). is_not_dropped s.fate) ss) h in and_from (is_not_dropped y.fate) (list_all (λ (s : Sent). is_not_dropped s.fate) ss) is p.1
kept_set (s ∷ ss) (suc k) y is h =
    let p = and_parts (is_not_dropped s.fate) (list_all (λ (s : Sent). is_not_dropped s.fate) ss) h in
    and_from (is_not_dropped s.fate) (list_all (λ (s : Sent). is_not_dropped s.fate) (set ss k y)) p.0 (kept_set ss k y is p.1)

set_length : (ss : List Sent) (k : ℕ) (y : Sent) → length (set ss k y) ≡ length ss
set_length [] k y = refl
set_length (s ∷ ss) zero y = refl
set_length (s ∷ ss) (suc k) y = ap suc (set_length ss k y)

-- ---- an event comes

-- the cluster once node n has taken this turn, where these messages were sent before, these numbers were given, and this node holds the lock
unfoldable pub turned : ℕ → Turn → List Sent → Cluster → Cluster
turned n t ss u = record u { nodes = set u.nodes n t.node; sent = ss ++ frames_of t.outs }

-- What steps make of the entry that comes: the messages that they leave are as many as are to be, and none is dropped
pub record Leads (c : Config) (rules : Rules) (w : Cluster) (ss : List Step) (n : ℕ) (e : Event) (t : Turn) : Type 0 where
  pub end : Cluster
  pub makes : Makes c rules w ss n e t end
  pub kept : AllKept end.sent

module _ (c : Config) (rules : Rules) (w : Cluster) (n : ℕ) (there : n < c.nodes) (ups : (m : ℕ) → m < c.nodes → is_up m w ≡ true) (kept : AllKept w.sent) (t : Turn)
    (counted : (u : Cluster) → length u.sent ≡ length w.sent → u.ticket ≤ w.ticket + 1 → u.calls ≤ w.calls + 1 → is_counted (turned n t u.sent u) ≡ true) where
  pub client_leads : (o : ClientOp) → is_allowed_op o ≡ true → stepped c rules n (event.Client (w.calls + 1) o) (node_at n w) ≡ Some t → Leads c rules w (step.Client n o ∷ []) n (event.Client (w.calls + 1) o) t
  unfolding turned put with_node steps keeps_all_up is_allowed given_by fault_of first_of refused_if no_such_node node_down node_at
  client_leads o allowed turn =
      let u : Cluster = record w { calls = w.calls + 1 } in
      record {
        end = turned n t w.sent u;
        makes = one_made c rules w (turned n t w.sent u) (step.Client n o) n (event.Client (w.calls + 1) o) t
            (after_taken c rules w (step.Client n o) (put n t [] u) refl allowed (rw (lt-ltb n c.nodes there, ups n there)) (fed_counted c rules n (event.Client (w.calls + 1) o) [] u t turn (counted u refl (omega arith) (omega arith))))
            refl turn;
        kept = kept_more w.sent t.outs kept;
      }

  pub retry_leads : stepped c rules n event.Retry (node_at n w) ≡ Some t → Leads c rules w (step.Retry n ∷ []) n event.Retry t
  unfolding turned put with_node steps keeps_all_up is_allowed given_by fault_of first_of refused_if no_such_node node_down
  retry_leads turn = record {
    end = turned n t w.sent w;
    makes = one_made c rules w (turned n t w.sent w) (step.Retry n) n event.Retry t
        (after_taken c rules w (step.Retry n) (put n t [] w) refl refl (rw (lt-ltb n c.nodes there, ups n there)) (fed_counted c rules n event.Retry [] w t turn (counted w refl (omega arith) (omega arith))))
        refl turn;
    kept = kept_more w.sent t.outs kept;
  }

  pub vacuum_leads : (db : ℕ) → fault_of c w (step.Vacuum n db) ≡ None → stepped c rules n (event.Vacuum db) (node_at n w) ≡ Some t → Leads c rules w (step.Vacuum n db ∷ []) n (event.Vacuum db) t
  unfolding turned put with_node steps keeps_all_up is_allowed given_by
  vacuum_leads db fits turn = record {
    end = turned n t w.sent w;
    makes = one_made c rules w (turned n t w.sent w) (step.Vacuum n db) n (event.Vacuum db) t
        (after_taken c rules w (step.Vacuum n db) (put n t [] w) refl refl fits (fed_counted c rules n (event.Vacuum db) [] w t turn (counted w refl (omega arith) (omega arith))))
        refl turn;
    kept = kept_more w.sent t.outs kept;
  }

  -- a message comes
  delivered : (k : ℕ) (s : Sent) → sent_at k w ≡ Some s → s.frame.receiver ≡ n → is_waiting_fate s.fate ≡ true → stepped c rules n (event.Arrive s.frame) (node_at n w) ≡ Some t → Leads c rules w (step.Deliver k ∷ []) n (event.Arrive s.frame) t
  unfolding turned put with_node steps deliver with_fate keeps_all_up is_allowed given_by arrival_of fault_of not_waiting is_waiting refused_if node_at sent_at is_not_dropped
  delivered zero s is to waits turn = absurd (cc)
  delivered (suc k) s is to waits turn =
      let u : Cluster = record w { sent = set w.sent k (record s { fate = Delivered }) } in
      let up : is_up s.frame.receiver w ≡ true = ap (λ (i : ℕ). is_up i w) to ∙ ups n there in
      let size : length u.sent ≡ length w.sent = set_length w.sent k (record s { fate = Delivered }) in
      let own : stepped c rules s.frame.receiver (event.Arrive s.frame) (node_at s.frame.receiver w) ≡ Some t = subst (λ (i : ℕ). stepped c rules i (event.Arrive s.frame) (node_at i w) ≡ Some t) (sym to) turn in
      let fits : is_counted (turned s.frame.receiver t u.sent u) ≡ true = subst (λ (i : ℕ). is_counted (turned i t u.sent u) ≡ true) (sym to) (counted u size (omega arith) (omega arith)) in
      subst (λ (i : ℕ). Leads c rules w (step.Deliver (suc k) ∷ []) i (event.Arrive s.frame) t) to (record {
        end = turned s.frame.receiver t u.sent u;
        makes = one_made c rules w (turned s.frame.receiver t u.sent u) (step.Deliver (suc k)) s.frame.receiver (event.Arrive s.frame) t
            (after_taken c rules w (step.Deliver (suc k)) (put s.frame.receiver t [] u) refl refl (rw (is, waits)) (rw (is, up) (fed_counted c rules s.frame.receiver (event.Arrive s.frame) [] u t own fits)))
            (rw is) own;
        kept = kept_more u.sent t.outs (kept_set w.sent k (record s { fate = Delivered }) refl kept);
      })

  repeated : (k : ℕ) (s : Sent) → sent_at k w ≡ Some s → s.frame.receiver ≡ n → is_delivered_fate s.fate ≡ true → stepped c rules n (event.Arrive s.frame) (node_at n w) ≡ Some t → Leads c rules w (step.Repeat k ∷ []) n (event.Arrive s.frame) t
  unfolding turned put with_node steps repeat keeps_all_up is_allowed given_by arrival_of fault_of not_delivered is_delivered refused_if node_at
  repeated k s is to came turn =
      let up : is_up s.frame.receiver w ≡ true = ap (λ (i : ℕ). is_up i w) to ∙ ups n there in
      let own : stepped c rules s.frame.receiver (event.Arrive s.frame) (node_at s.frame.receiver w) ≡ Some t = subst (λ (i : ℕ). stepped c rules i (event.Arrive s.frame) (node_at i w) ≡ Some t) (sym to) turn in
      let fits : is_counted (turned s.frame.receiver t w.sent w) ≡ true = subst (λ (i : ℕ). is_counted (turned i t w.sent w) ≡ true) (sym to) (counted w refl (omega arith) (omega arith)) in
      subst (λ (i : ℕ). Leads c rules w (step.Repeat k ∷ []) i (event.Arrive s.frame) t) to (record {
        end = turned s.frame.receiver t w.sent w;
        makes = one_made c rules w (turned s.frame.receiver t w.sent w) (step.Repeat k) s.frame.receiver (event.Arrive s.frame) t
            (after_taken c rules w (step.Repeat k) (put s.frame.receiver t [] w) refl refl (rw (is, came)) (rw (is, up) (fed_counted c rules s.frame.receiver (event.Arrive s.frame) [] w t own fits)))
            (rw is) own;
        kept = kept_more w.sent t.outs kept;
      })

  pub message_leads : (k : ℕ) (s : Sent) → sent_at k w ≡ Some s → s.frame.receiver ≡ n → is_not_dropped s.fate ≡ true → stepped c rules n (event.Arrive s.frame) (node_at n w) ≡ Some t → Leads c rules w (comes_by k (is_waiting (sent_at k w)) ∷ []) n (event.Arrive s.frame) t
  unfolding is_waiting comes_by is_waiting_fate is_delivered_fate is_not_dropped
  message_leads k s is to left turn = subst (λ (o : Option Sent). Leads c rules w (comes_by k (is_waiting o) ∷ []) n (event.Arrive s.frame) t) (sym is) (by s.fate refl)
    where
      by : (f : Fate) → s.fate ≡ f → Leads c rules w (comes_by k (is_waiting_fate s.fate) ∷ []) n (event.Arrive s.frame) t
      by Waiting e = subst (λ (b : Bool). Leads c rules w (comes_by k b ∷ []) n (event.Arrive s.frame) t) (sym (ap is_waiting_fate e)) (delivered k s is to (ap is_waiting_fate e) turn)
      by Delivered e = subst (λ (b : Bool). Leads c rules w (comes_by k b ∷ []) n (event.Arrive s.frame) t) (sym (ap is_waiting_fate e)) (repeated k s is to (ap is_delivered_fate e) turn)
      by Dropped e = absurd (let l = ap is_not_dropped e in cc)

  -- ---- a round

  all_nodes : (ns : List ℕ) → list_all (λ m. nat_lt m c.nodes) ns ≡ true → no_such_nodes c ns ≡ None
  unfolding no_such_nodes
  all_nodes [] h = refl
  all_nodes (m ∷ ms) h = let p = and_parts (nat_lt m c.nodes) (list_all (λ i. nat_lt i c.nodes) ms) h in rw p.0 (all_nodes ms p.1)

  recovers : (h : Option ℕ) (members : List ℕ) → ascends nat_lt members ≡ true → list_all (λ m. nat_lt m c.nodes) members ≡ true → is_among n members ≡ true → lock_held n h ≡ None →
      stepped c rules n (event.BeginRound (w.ticket + 1) members) (node_at n w) ≡ Some t → Leads c rules (record w { holder = h }) (step.Recover n members ∷ []) n (event.BeginRound (w.ticket + 1) members) t
  unfolding turned put with_node steps recover keeps_all_up is_allowed given_by fault_of first_of refused_if no_such_nodes node_down not_member node_at is_up
  recovers h members asc nodes among free turn =
      let e : Event = event.BeginRound (w.ticket + 1) members in
      let own : List Line = line.Ticket (w.ticket + 1) n ∷ [] in
      let u : Cluster = record w { holder = Some n; ticket = w.ticket + 1 } in
      record {
        end = turned n t w.sent u;
        makes = one_made c rules (record w { holder = h }) (turned n t w.sent u) (step.Recover n members) n e t
            (after_taken c rules (record w { holder = h }) (step.Recover n members) (put n t own u) refl asc (rw (lt-ltb n c.nodes there, all_nodes members nodes, ups n there, among, free))
            (fed_counted c rules n e own u t turn (counted u refl (omega arith) (omega arith))))
            refl turn;
        kept = kept_more w.sent t.outs kept;
      }

  pub round_leads : (members : List ℕ) → ascends nat_lt members ≡ true → list_all (λ m. nat_lt m c.nodes) members ≡ true → is_among n members ≡ true → ((h : ℕ) → w.holder ≡ Some h → h < c.nodes) →
      stepped c rules n (event.BeginRound (w.ticket + 1) members) (node_at n w) ≡ Some t → Leads c rules w (yields n w.holder ++ step.Recover n members ∷ []) n (event.BeginRound (w.ticket + 1) members) t
  unfolding yields lock_held refused_if steps done keeps_all_up is_allowed fault_of first_of no_such_node node_down not_holder is_this_node given_by
  round_leads members asc nodes among holds turn = by w.holder refl
    where
      e : Event
      e = event.BeginRound (w.ticket + 1) members

      To : List Step → Type 0
      To ss = Leads c rules w ss n e t

      yielded : (h : ℕ) → w.holder ≡ Some h → after_step c rules w (step.Yield h) ≡ Some (record w { holder = None })
      yielded h is = after_taken c rules w (step.Yield h) (record { cluster = record w { holder = None }; lines = line.Yielded h ∷ [] }) refl refl (rw (lt-ltb h c.nodes (holds h is), ups h (holds h is), is, eq-eqb h h refl)) refl

      by : (h : Option ℕ) → w.holder ≡ h → To (yields n h ++ step.Recover n members ∷ [])
      by None is = recovers w.holder members asc nodes among (ap (lock_held n) is) turn
      by (Some h) is = ⊎_elim
          (λ (own : h ≡ n). subst (λ (b : Bool). To (cond b [] (step.Yield h ∷ []) ++ step.Recover n members ∷ [])) (sym (eq-eqb h n own))
          (recovers w.holder members asc nodes among (ap (lock_held n) is ∙ ap (λ (b : Bool). refused_if (not b) (fault.LockHeld h)) (eq-eqb h n own)) turn))
          (λ (ne : h ≡ n → ⊥). subst (λ (b : Bool). To (cond b [] (step.Yield h ∷ []) ++ step.Recover n members ∷ [])) (sym (ne_eqb h n ne))
          (let l = recovers None members asc nodes among refl turn in
          record { end = l.end; makes = one_before c rules w (record w { holder = None }) l.end (step.Yield h) (step.Recover n members ∷ []) n e t (yielded h is) refl l.makes; kept = l.kept }))
          (cases_eq h n)
