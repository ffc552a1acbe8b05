-- An event that is given to a node of the parts is given to that of the cluster.
use Rattle.std.proofs.Common.{◌≡◌, ◌≢◌, ◌∙◌, ℕ, zero, suc, ◌+◌, ◌<◌, ◌≤◌, Bool, true, false, cond, ◌&&◌, List, [], ◌∷◌, ◌++◌, length, Option, Some, None, Ok, Err, ⊎_elim, refl, sym, ap, subst, arith}
use Rattle.std.specs.Prelude.{◌^◌, map, nat_lt, slice_get, slice_set}
use Rattle.std.proofs.lemmas.Bool.{lt-ltb, ltb-true, cases_eq}
use Rattle.std.proofs.lemmas.List.{length-append}
use Rattle.ct_values.specs.declared.config.Config.{Config}
use Rattle.ct_frame.specs.declared.event.Event.{Event}
use Rattle.ct_frame.specs.declared.frame.Frame.{Frame}
use Rattle.ct_call.specs.Rules.{Rules}
use Rattle.ct_rules_cluster.specs.Cluster.{Sent, node_at, or_absent}
use Rattle.ct_rules_cluster.specs.Steps.{Stepped, fed, fed_of, frames_of, if_counted, is_counted, lines_of, put, with_node}
use Rattle.ct_rules_cluster.specs.declared.step.Line.{Line}
use Rattle.ct_rules_cluster.specs.declared.step.StepFault.{StepFault}
use Rattle.ct_rules_cluster.specs.declared.step.StepFault.TheVariants.{Exhausted, NoMemory}
use Rattle.ct_core.specs.Core.{Core, IsChangeOf, turn_of}
use Rattle.ct_mail.specs.Mail.{posted}
use Rattle.ct_node_plan.specs.Changes.{changed_by}
use Rattle.ct_node_plan.specs.declared.change.Planned.{Planned}
use Rattle.ct_rules_node.specs.Coming.{may_come}
use Rattle.ct_rules_node.specs.Node.{Node}
use Rattle.ct_rules_node.specs.Steps.{stepped}
use Rattle.ct_rules_node.specs.Turn.{Turn}
use Rattle.ct_world.specs.Feeding.{PlansAt, TellsAll, booked, is_counted_with}
use Rattle.ct_world.specs.World.{Applies, AreSeated, PartsInForm, cluster_of, states_of, world_of}
use Rattle.ct_world.specs.declared.parts.Books.{Books}
use Rattle.ct_world.specs.declared.parts.Parts.{Parts}
use Rattle.ct_world.specs.declared.parts.Told.{Told}

-- ---- lists

-- a place of a list has an item
pub has_item : {X : Type 0} (xs : List X) (n : ℕ) → n < length xs → (x : X) × (slice_get xs n ≡ Some x)
has_item [] n l = absurd (omega (arith, l))
has_item (x ∷ xs) zero l = (x, refl)
has_item (x ∷ xs) (suc n) l = has_item xs n (omega (arith, l))

-- the state of the node that is there
pub state_there : (xs : List Core) (n : ℕ) (x : Core) → slice_get xs n ≡ Some x → slice_get (states_of xs) n ≡ Some x.node
state_there [] n x e = absurd (cc)
state_there (y ∷ ys) zero x e = (let s : y ≡ x = cc in ap (λ (z : Core). Some z.node) s)
state_there (y ∷ ys) (suc n) x e = state_there ys n x e

-- the states once one node is another
pub states_set : (xs : List Core) (n : ℕ) (x : Core) → states_of (slice_set xs n x) ≡ slice_set (states_of xs) n x.node
states_set [] n x = refl
states_set (y ∷ ys) zero x = refl
states_set (y ∷ ys) (suc n) x = ap (λ (zs : List Node). y.node ∷ zs) (states_set ys n x)

got_same : {X : Type 0} (xs : List X) (n : ℕ) (x y : X) → slice_get (slice_set xs n x) n ≡ Some y → x ≡ y
got_same [] n x y e = absurd (cc)
got_same (z ∷ zs) zero x y e = cc
got_same (z ∷ zs) (suc n) x y e = got_same zs n x y e

got_other : {X : Type 0} (xs : List X) (n m : ℕ) (x : X) → m ≢ n → slice_get (slice_set xs n x) m ≡ slice_get xs m
got_other [] n m x ne = refl
got_other (y ∷ ys) zero zero x ne = absurd (ne refl)
got_other (y ∷ ys) zero (suc m) x ne = refl
got_other (y ∷ ys) (suc n) zero x ne = refl
got_other (y ∷ ys) (suc n) (suc m) x ne = got_other ys n m x (λ e. ne (ap suc e))

-- another state of a node that is seated
pub seated_set : (c : Config) (xs : List Core) (n : ℕ) (x : Core) (k : Node) → slice_get xs n ≡ Some x → AreSeated c xs → AreSeated c (slice_set xs n (record x { node = k }))
seated_set c xs n x k at seats m y e = ⊎_elim
    (λ (same : m ≡ n).
    (let g = got_same xs n (record x { node = k }) y (subst (λ (j : ℕ). slice_get (slice_set xs n (record x { node = k })) j ≡ Some y) same e) in
    let s = seats n x at in
    (ap (λ (z : Core). z.pnn) (sym g) ∙ s.0 ∙ sym same, ap (λ (z : Core). z.config) (sym g) ∙ s.1)))
    (λ (ne : m ≢ n). seats m y (sym (got_other xs n m (record x { node = k }) ne) ∙ e))
    (cases_eq m n)

-- ---- what is asked

states_size : (xs : List Core) → length (states_of xs) ≡ length xs
states_size [] = refl
states_size (x ∷ xs) = ap suc (states_size xs)

-- as many nodes are there as are declared
pub is_there : (p : Parts) (n : ℕ) → PartsInForm p → n < p.config.nodes → n < length p.cores
is_there p n f l = (let s = f.cluster.size in let m = states_size p.cores in omega (arith, l, s, m))

-- so it may come to the node that is there
pub comes_there : (p : Parts) (n : ℕ) (e : Event) → AreSeated p.config p.cores → may_come p.config n (node_at n (cluster_of p)) e ≡ true → (x : Core) → slice_get p.cores n ≡ Some x → may_come x.config x.pnn x.node e ≡ true
unfolding node_at or_absent
comes_there p n e seats may x at =
    let s = seats n x at in
    subst (λ (c : Config). may_come c x.pnn x.node e ≡ true) (sym s.1)
    (subst (λ (k : ℕ). may_come p.config k x.node e ≡ true) (sym s.0)
    (subst (λ (o : Option Node). may_come p.config n (or_absent o) e ≡ true) (state_there p.cores n x at) may))

-- ---- the rule

module _ (old : Parts) (rules : Rules) (n : ℕ) (e : Event) (own : List Line) (b : Books) (x : Core) (at : slice_get old.cores n ≡ Some x) (seats : AreSeated old.config old.cores) where
  -- the step of the node that is there is that of the cluster's
  same_step : stepped x.config rules x.pnn e x.node ≡ stepped old.config rules n e (node_at n (booked b (cluster_of old)))
  unfolding node_at or_absent
  same_step =
      let s = seats n x at in
      ap (λ (c : Config). stepped c rules x.pnn e x.node) s.1
      ∙ ap (λ (k : ℕ). stepped old.config rules k e x.node) s.0
      ∙ ap (λ (o : Option Node). stepped old.config rules n e (or_absent o)) (sym (state_there old.cores n x at))

  fed_of_it : (o : Option Turn) → stepped x.config rules x.pnn e x.node ≡ o → fed old.config rules n e own (booked b (cluster_of old)) ≡ fed_of n own (booked b (cluster_of old)) o
  unfolding fed
  fed_of_it o h = ap (fed_of n own (booked b (cluster_of old))) (sym same_step ∙ h)

  -- none: it is refused
  pub none_fed : stepped x.config rules x.pnn e x.node ≡ None → fed old.config rules n e own (booked b (cluster_of old)) ≡ Err Exhausted
  unfolding fed_of
  none_fed h = fed_of_it None h

  -- a number reaches its limit: so it is
  pub uncounted_fed : (t : Turn) → stepped x.config rules x.pnn e x.node ≡ Some t → is_counted_with (length (old.mail ++ frames_of t.outs)) b ≡ false → fed old.config rules n e own (booked b (cluster_of old)) ≡ Err Exhausted
  unfolding fed_of if_counted is_counted put with_node
  uncounted_fed t h l = fed_of_it (Some t) h ∙ ap (λ (k : Bool). cond k (Ok (put n t own (booked b (cluster_of old)))) (Err Exhausted)) l

  -- none does: the parts become the cluster after the step
  counted_fed : (t : Turn) → stepped x.config rules x.pnn e x.node ≡ Some t → is_counted_with (length (old.mail ++ frames_of t.outs)) b ≡ true → fed old.config rules n e own (booked b (cluster_of old)) ≡ Ok (put n t own (booked b (cluster_of old)))
  unfolding fed_of if_counted is_counted put with_node
  counted_fed t h l = fed_of_it (Some t) h ∙ ap (λ (k : Bool). cond k (Ok (put n t own (booked b (cluster_of old)))) (Err Exhausted)) l

  put_is : (p : Planned) (frames : List Frame) (lines : List Line) → map posted frames ≡ frames_of p.outs → lines ≡ own ++ lines_of n (length old.mail + 1) p.outs →
      put n (turn_of p x.node) own (booked b (cluster_of old)) ≡ record { cluster = cluster_of (record old { cores = slice_set old.cores n (record x { node = changed_by p.change x.node }); mail = old.mail ++ map posted frames; books = b }); lines = lines }
  unfolding put with_node
  put_is p frames lines sent is = (λ i. record {
    cluster = record {
      nodes = sym (states_set old.cores n (record x { node = changed_by p.change x.node })) i;
      running = old.running;
      able = old.able;
      sent = old.mail ++ sym sent i;
      holder = b.holder;
      ticket = b.ticket;
      calls = b.calls;
    };
    lines = sym is i;
  })

  pub parts_fed : (p : Planned) (frames : List Frame) (lines : List Line) (new : Parts) → stepped x.config rules x.pnn e x.node ≡ Some (turn_of p x.node) → map posted frames ≡ frames_of p.outs → lines ≡ own ++ lines_of n (length old.mail + 1) p.outs → is_counted_with (length (old.mail ++ frames_of p.outs)) b ≡ true →
      new ≡ record old { cores = slice_set old.cores n (record x { node = changed_by p.change x.node }); mail = old.mail ++ map posted frames; books = b } →
      (fed old.config rules n e own (booked b (cluster_of old)) ≡ Ok (record { cluster = cluster_of new; lines = lines })) × (world_of new ≡ record (world_of old) { cluster = cluster_of new }) × AreSeated new.config new.cores
  parts_fed p frames lines new h sent is l same =
      subst (λ (q : Parts). (fed old.config rules n e own (booked b (cluster_of old)) ≡ Ok (record { cluster = cluster_of q; lines = lines })) × (world_of q ≡ record (world_of old) { cluster = cluster_of q }) × AreSeated q.config q.cores) (sym same)
      (counted_fed (turn_of p x.node) h l ∙ ap (λ (s : Stepped). Ok s) (put_is p frames lines sent is), refl, seated_set old.config old.cores n x (changed_by p.change x.node) at seats)

-- ---- numbers

not_less : (a b : ℕ) → b ≤ a → nat_lt a b ≡ false
not_less a b l = by (nat_lt a b) refl
  where
    by : (k : Bool) → nat_lt a b ≡ k → nat_lt a b ≡ false
    by true t = (let m = ltb-true a b t in absurd (omega (arith, l, m)))
    by false t = t

and_not : (k l m : Bool) → (l && m) ≡ false → ((k && l) && m) ≡ false
and_not true l m e = e
and_not false l m e = refl

and_all : (k l m : Bool) → k ≡ true → (l && m) ≡ true → ((k && l) && m) ≡ true
and_all true l m a e = e
and_all false l m a e = absurd (cc)

sum_counted : (b : Books) (xs : List Sent) (fs : List Sent) → length xs + 1 + length fs ≤ 2 ^ 62 → (nat_lt b.ticket (2 ^ 62) && nat_lt b.calls (2 ^ 62)) ≡ true → is_counted_with (length (xs ++ fs)) b ≡ true
sum_counted b xs fs l t = (let s = length-append xs fs in and_all (nat_lt (length (xs ++ fs)) (2 ^ 62)) (nat_lt b.ticket (2 ^ 62)) (nat_lt b.calls (2 ^ 62)) (lt-ltb (length (xs ++ fs)) (2 ^ 62) (omega (arith, s, l))) t)

sum_uncounted : (b : Books) (xs : List Sent) (fs : List Sent) → 2 ^ 62 < length xs + 1 + length fs → is_counted_with (length (xs ++ fs)) b ≡ false
sum_uncounted b xs fs l = (let s = length-append xs fs in ap (λ (k : Bool). k && nat_lt b.ticket (2 ^ 62) && nat_lt b.calls (2 ^ 62)) (not_less (length (xs ++ fs)) (2 ^ 62) (omega (arith, s, l))))

-- ---- what comes of an event at the parts, by cases

module _ (old : Parts) (rules : Rules) (n : ℕ) (e : Event) (own : List Line) (b : Books) (x : Core) (at : slice_get old.cores n ≡ Some x) (seats : AreSeated old.config old.cores) where
  -- nothing is planned
  pub plan_refused : {X : Type 0} (lines : X → List Line) (f : StepFault) → PlansAt (Err f) (stepped x.config rules x.pnn e x.node) x → Applies lines (Err f) (fed old.config rules n e own (booked b (cluster_of old))) (world_of old) (world_of old)
  plan_refused lines NoMemory h = refl
  plan_refused lines _ h = (none_fed old rules n e own b x at seats h.1 ∙ ap (λ (f : StepFault). Err f) (sym h.0), refl)

  -- the ticket or the call reaches its limit
  pub books_refused : (p : Planned) → stepped x.config rules x.pnn e x.node ≡ Some (turn_of p x.node) → (nat_lt b.ticket (2 ^ 62) && nat_lt b.calls (2 ^ 62)) ≡ false → fed old.config rules n e own (booked b (cluster_of old)) ≡ Err Exhausted
  books_refused p h l = uncounted_fed old rules n e own b x at seats (turn_of p x.node) h (and_not (nat_lt (length (old.mail ++ frames_of p.outs)) (2 ^ 62)) (nat_lt b.ticket (2 ^ 62)) (nat_lt b.calls (2 ^ 62)) l)

  -- a message does, or its copy wants memory
  pub told_refused : {X : Type 0} (lines : X → List Line) (f : StepFault) (p : Planned) → stepped x.config rules x.pnn e x.node ≡ Some (turn_of p x.node) → TellsAll (Err f) n (length old.mail + 1) own p.outs →
      Applies lines (Err f) (fed old.config rules n e own (booked b (cluster_of old))) (world_of old) (world_of old)
  told_refused lines NoMemory p h t = refl
  told_refused lines _ p h t = (uncounted_fed old rules n e own b x at seats (turn_of p x.node) h (sum_uncounted b old.mail (frames_of p.outs) t.1) ∙ ap (λ (f : StepFault). Err f) (sym t.0), refl)

  -- all is done
  pub all_done : (p : Planned) (t : Told) (new : Parts) → stepped x.config rules x.pnn e x.node ≡ Some (turn_of p x.node) → TellsAll (Ok t) n (length old.mail + 1) own p.outs → (nat_lt b.ticket (2 ^ 62) && nat_lt b.calls (2 ^ 62)) ≡ true →
      new ≡ record old { cores = slice_set old.cores n (record x { node = changed_by p.change x.node }); mail = old.mail ++ map posted t.frames; books = b } →
      (fed old.config rules n e own (booked b (cluster_of old)) ≡ Ok (record { cluster = cluster_of new; lines = t.lines.items })) × (world_of new ≡ record (world_of old) { cluster = cluster_of new }) × AreSeated new.config new.cores
  all_done p t new h told l is = parts_fed old rules n e own b x at seats p t.frames t.lines.items new h told.1 told.0 (sum_counted b old.mail (frames_of p.outs) told.2 l) is

-- a plan of the node that is there has its change
pub has_change : (p : Planned) (rule : Option Turn) (x : Core) → PlansAt (Ok p) rule x → IsChangeOf x p.change
has_change p rule x h = (p.outs, h.1)
