-- All holds after a recovery begins: a ticket is given with the recovery lock, and the node begins the round of it.
use Rattle.std.proofs.Common.{◌≡◌, ℕ, ◌+◌, ◌≤◌, Bool, true, false, cond, ◌||◌, List, [], ◌∷◌, length, Option, Some, None, Result, Ok, Err, refl, sym, ap, subst, arith, ⊎_elim}
use Rattle.std.specs.Prelude.{◌≢◌, nat_eq, nat_lt}
use Rattle.std.specs.List.{list_all}
use Rattle.std.proofs.lemmas.Bool.{and_from, cases_eq, cond_both, eq-eqb, eqb-true, lt-ltb, ltb-true, ne_eqb}
use Rattle.ct_values.specs.declared.config.Config.{Config}
use Rattle.ct_frame.specs.Fields.{is_node, ascends}
use Rattle.ct_frame.specs.declared.event.Event.{Event}
use Rattle.ct_frame.specs.declared.event.Event.TheVariants as event
use Rattle.ct_call.specs.Rules.{Rules}
use Rattle.ct_rules_node.specs.Node.{is_among}
use Rattle.ct_rules_node.specs.Steps.{happens}
use Rattle.ct_rules_node.specs.Turn.{Turn, begins}
use Rattle.ct_law_rules_node.proofs.Refusals.{first_none, required}
use Rattle.ct_rules_cluster.specs.Cluster.{Cluster, is_up, node_at, pending}
use Rattle.ct_rules_cluster.specs.Faults.{fault_of, is_allowed, no_such_nodes, node_down, not_member, lock_held}
use Rattle.ct_rules_cluster.specs.Labels.{Label, Ticket}
use Rattle.ct_rules_cluster.specs.Steps.{Stepped, is_counted, if_counted, fed, fed_of, put, recover, steps}
use Rattle.ct_rules_cluster.specs.Traces.{members_of, own_labels}
use Rattle.ct_law_generation.specs.Waiting.{Outcome, answerable, told_line, told_lines, told_step, unchanged, came_of, outcome}
use Rattle.ct_rules_cluster.specs.declared.step.Line.{Line}
use Rattle.ct_rules_cluster.specs.declared.step.Line.TheVariants as line
use Rattle.ct_rules_cluster.specs.declared.step.Step.{Step}
use Rattle.ct_rules_cluster.specs.declared.step.Step.TheVariants as step
use Rattle.ct_rules_cluster.specs.declared.step.StepFault.{StepFault}
use Rattle.ct_rules_cluster.specs.declared.step.StepFault.TheVariants as fault
use Rattle.ct_register.specs.Lines.{Lines, ticketed}
use Rattle.ct_register.specs.Register.{OwnedByNoOther}
use Rattle.ct_promise.specs.Generation.{speaks_of_records}
use Rattle.ct_promise.specs.Marked.{is_removal}
use Rattle.ct_promise.specs.Promises.{IsConfig}
use Rattle.ct_law_generation.specs.Shown.{labels_of}
use Rattle.ct_law_generation.proofs.Hearing.{labels_are}
use Rattle.ct_law_generation.proofs.Configured.{at_most_sixteen_nodes}
use Rattle.ct_law_run.proofs.Lives.{Lives}
use Rattle.ct_law_run.proofs.Faces.{After}
use Rattle.ct_law_run.proofs.Quiet.{idle_after, after_taken}
use Rattle.ct_law_run.proofs.Ticketed.{ticketed_cluster, accepted, ticketed_lives, is_ticket, unborn}
use Rattle.ct_law_run.proofs.Turning.{turned_after}
use Rattle.ct_law_run.proofs.Beginning.{begin_turned}

-- ---- a step of a node is taken, or refused where a number would reach its limit

pub fed_either : (P : Outcome → Type 0) (c : Config) (rules : Rules) (w v : Cluster) (s : Step) (n : ℕ) (e : Event) (own : List Line) → P (unchanged w) →
    ((happens c rules n (begins (node_at n v)) e).spent ≡ false → P (came_of w s (Ok (put n (happens c rules n (begins (node_at n v)) e) own v)))) → P (came_of w s (fed c rules n e own v))
unfolding fed fed_of if_counted came_of
fed_either P c rules w v s n e own refused goes =
    let t : Turn = happens c rules n (begins (node_at n v)) e in
    cond_both t.spent None (Some t) (λ (o : Option Turn). P (came_of w s (fed_of n own v o)))
    (λ _. refused)
    (λ whole. cond_both (is_counted (put n t own v).cluster) (Ok (put n t own v)) (Err fault.Exhausted) (λ (y : Result Stepped StepFault). P (came_of w s y)) (λ _. goes whole) (λ _. refused))

-- ---- why it is not refused

-- those members are nodes
each_there : (c : Config) (ns : List ℕ) → no_such_nodes c ns ≡ None → (m : ℕ) → is_among m ns ≡ true → nat_lt m c.nodes ≡ true
unfolding no_such_nodes is_among
each_there c [] e m among = absurd (cc)
each_there c (n ∷ ns) e m among = either (nat_lt n c.nodes) refl e (λ k. each_there c ns k m)
  where
    either : (b : Bool) → nat_lt n c.nodes ≡ b → cond b (no_such_nodes c ns) (Some (fault.NoSuchNode n)) ≡ None → (no_such_nodes c ns ≡ None → is_among m ns ≡ true → nat_lt m c.nodes ≡ true) → nat_lt m c.nodes ≡ true
    either true t k rest = ⊎_elim
        (λ (is : m ≡ n). subst (λ (j : ℕ). nat_lt j c.nodes ≡ true) (sym is) t)
        (λ (ne : m ≢ n). rest k (subst (λ (b : Bool). (b || is_among m ns) ≡ true) (ne_eqb m n ne) among))
        (cases_eq m n)
    either false t k rest = absurd (cc)

all_nodes : (c : Config) (ns : List ℕ) → c.nodes ≤ 16 → no_such_nodes c ns ≡ None → list_all is_node ns ≡ true
unfolding no_such_nodes
all_nodes c [] few e = refl
all_nodes c (n ∷ ns) few e = either (nat_lt n c.nodes) refl e (all_nodes c ns few)
  where
    either : (b : Bool) → nat_lt n c.nodes ≡ b → cond b (no_such_nodes c ns) (Some (fault.NoSuchNode n)) ≡ None → (no_such_nodes c ns ≡ None → list_all is_node ns ≡ true) → list_all is_node (n ∷ ns) ≡ true
    either true t k rest = and_from (is_node n) (list_all is_node ns) (let l = ltb-true n c.nodes t in lt-ltb n 16 (omega arith)) (rest k)
    either false t k rest = absurd (cc)

rest_there : (c : Config) (n : ℕ) (ns : List ℕ) → no_such_nodes c (n ∷ ns) ≡ None → no_such_nodes c ns ≡ None
unfolding no_such_nodes
rest_there c n ns e = either (nat_lt n c.nodes) e
  where
    either : (b : Bool) → cond b (no_such_nodes c ns) (Some (fault.NoSuchNode n)) ≡ None → no_such_nodes c ns ≡ None
    either true k = k
    either false k = absurd (cc)

first_among : (n : ℕ) (ns : List ℕ) → is_among n (n ∷ ns) ≡ true
unfolding is_among
first_among n ns = ap (λ (b : Bool). b || is_among n ns) (eq-eqb n n refl)

free_for : (n : ℕ) (o : Option ℕ) → lock_held n o ≡ None → OwnedByNoOther n o
unfolding lock_held
free_for n None e = tt
free_for n (Some k) e = eqb-true k n (required (nat_eq k n) _ e)

-- the node is there, all members are nodes and it is one, and no other has the recovery lock
record Recovers (c : Config) (w : Cluster) (n : ℕ) (members : List ℕ) : Type 0 where
  there : nat_lt n c.nodes ≡ true
  real : list_all is_node members ≡ true
  nodes : (m : ℕ) → is_among m members ≡ true → nat_lt m c.nodes ≡ true
  own : is_among n members ≡ true
  free : OwnedByNoOther n w.holder

recovers : (c : Config) (w : Cluster) (n : ℕ) (members : List ℕ) → IsConfig c → fault_of c w (step.Recover n members) ≡ None → Recovers c w n members
unfolding fault_of node_down not_member
recovers c w n members is e =
    let nodes = first_none _ _ e in
    let up = first_none _ _ nodes.1 in
    let own = first_none _ _ up.1 in
    let free = first_none _ _ own.1 in record {
      there = each_there c (n ∷ members) nodes.0 n (first_among n members);
      real = all_nodes c members (at_most_sixteen_nodes c is) (rest_there c n members nodes.0);
      nodes = each_there c members (rest_there c n members nodes.0);
      own = required (is_among n members) _ own.0;
      free = free_for n w.holder free.0;
    }

-- ---- the step

begun_after : (c : Config) (rules : Rules) (w : Cluster) (r : Lines) (h : Lives c rules w r) (n : ℕ) (members : List ℕ) → ascends nat_lt members ≡ true → Recovers c w n members →
    After c rules r h.ages (came_of w (step.Recover n members) (Ok (put n (happens c rules n (begins (node_at n (ticketed_cluster n w))) (event.BeginRound (w.ticket + 1) members)) (line.Ticket (w.ticket + 1) n ∷ []) (ticketed_cluster n w))))
unfolding ticketed_lives happens came_of told_step own_labels told_lines told_line members_of answerable put speaks_of_records is_removal is_up node_at
begun_after c rules w r h n members order k =
    let free = subst (λ (o : Option ℕ). OwnedByNoOther n o) (sym h.holder) k.free in
    let v : Cluster = ticketed_cluster n w in
    let g = w.ticket + 1 in
    let lives : Lives c rules v (ticketed g n members r) = ticketed_lives c rules w r h n members free in
    let u : Turn = happens c rules n (begins (node_at n v)) (event.BeginRound g members) in
    let t = begin_turned c rules v (ticketed g n members r) lives n g members (pending w) (is_ticket c rules w r h n members free k.real order k.nodes k.own) (unborn c rules w r h n members free) k.there in
    let own : List Line = line.Ticket g n ∷ [] in
    subst (λ (ls : List Label). After c rules r h.ages (record { cluster = (put n u own v).cluster; trace = Ticket g n members ∷ ls })) (sym (labels_are (step.Recover n members) n (length v.sent + 1) (pending w) u.outs))
    (turned_after c rules v (ticketed g n members r) lives n (pending w) u own t k.there
    r h.ages (Ticket g n members ∷ labels_of n (pending w) u.outs)
    (ticketed g n members r, accepted c rules w r h n members free, t.accepts)
    t.marks
    (λ k p f. f))

pub recover_after : (c : Config) (rules : Rules) (w : Cluster) (r : Lines) (h : Lives c rules w r) (n : ℕ) (members : List ℕ) → IsConfig c → After c rules r h.ages (outcome c rules w (step.Recover n members))
unfolding is_allowed steps recover
recover_after c rules w r h n members is = after_taken c rules w r h (step.Recover n members) (λ order e.
    fed_either (After c rules r h.ages) c rules w (ticketed_cluster n w) (step.Recover n members) n (event.BeginRound (w.ticket + 1) members) (line.Ticket (w.ticket + 1) n ∷ []) (idle_after c rules w r h)
    (λ whole. begun_after c rules w r h n members order (recovers c w n members is e)))
