-- The steps that mark nodes as able, before a takeover run.
use Rattle.std.proofs.Common.{◌≡◌, ℕ, ◌+◌, ◌<◌, ◌≤◌, ◌||◌, Bool, true, false, cond, List, [], ◌∷◌, ◌++◌, length, set, None, Some, append_assoc, arith, refl, sym, ap, ◌∙◌, subst, ⊎_elim}
use Rattle.std.proofs.lemmas.Bool.{and_parts, cases_eq, eq-eqb, lt-ltb, ltb-true, ne_eqb, or_left}
use Rattle.std.proofs.lemmas.List.{length_push, set_at}
use Rattle.std.specs.List.{list_all, list_any}
use Rattle.std.specs.Prelude.{nat_eq, nat_lt}
use Rattle.ct_call.specs.Rules.{Rules}
use Rattle.ct_values.specs.declared.config.Config.{Config}
use Rattle.ct_frame.specs.Fields.{ascends, ascends_after}
use Rattle.ct_frame.specs.declared.event.Event.{Event}
use Rattle.ct_frame.specs.declared.event.Event.TheVariants as event
use Rattle.ct_rules_node.specs.Node.{is_among}
use Rattle.ct_rules_node.specs.Refusals.{refused_if}
use Rattle.ct_rules_node.specs.Steps.{stepped}
use Rattle.ct_rules_node.specs.Turn.{Turn}
use Rattle.ct_rules_cluster.specs.Cluster.{Cluster, able_from, is_up, node_at}
use Rattle.ct_rules_cluster.specs.Faults.{fault_of, is_allowed, no_such_node, node_down, not_leader, not_serving}
use Rattle.ct_rules_cluster.specs.Steps.{done, fed, is_counted, put, steps, with_node}
use Rattle.ct_rules_cluster.specs.declared.step.Step.{Step}
use Rattle.ct_rules_cluster.specs.declared.step.Step.TheVariants as step
use Rattle.ct_journal.specs.Schedules.{after_step, given_by, keeps_all_up}
use Rattle.ct_law_journal_schedule.proofs.Taking.{after_taken, fed_counted}
use Rattle.ct_law_journal_reach.specs.Making.{mark_step, mark_steps}
use Rattle.ct_law_journal_reach.proofs.Makes.{AllKept, Leads, kept_more, one_before, one_made, turned}

-- ---- marks

-- the marks by which exactly these nodes are able; i is the number of the first mark
unfoldable marks_of : List ℕ → ℕ → List Bool → List Bool
marks_of able i [] = []
marks_of able i (b ∷ bs) = is_among i able ∷ marks_of able (i + 1) bs

-- a node below all of these is not among them
below : (i a : ℕ) (able : List ℕ) → i < a → ascends_after nat_lt a able ≡ true → is_among i (a ∷ able) ≡ false
unfolding is_among
below i a [] l asc = ap (λ (b : Bool). b || false) (ne_eqb i a (λ e. absurd (omega arith)))
below i a (d ∷ ds) l asc =
    let p = and_parts (nat_lt a d) (ascends_after nat_lt d ds) asc in
    let up = ltb-true a d p.0 in
    ap (λ (b : Bool). b || list_any (nat_eq i) (d ∷ ds)) (ne_eqb i a (λ e. absurd (omega arith))) ∙ below i d ds (omega arith) p.1

-- a node that is less than all that come is no more among them
marks_after : (a : ℕ) (able : List ℕ) (i : ℕ) (bs : List Bool) → a < i → marks_of (a ∷ able) i bs ≡ marks_of able i bs
unfolding marks_of is_among
marks_after a able i [] l = refl
marks_after a able i (b ∷ bs) l =
    let now : is_among i (a ∷ able) ≡ is_among i able = ap (λ (x : Bool). x || list_any (nat_eq i) able) (ne_eqb i a (λ e. absurd (omega arith))) in
    let later = marks_after a able (i + 1) bs (omega arith) in
    λ j. now j ∷ later j

none_marked : (i : ℕ) (bs : List Bool) → able_from i (marks_of [] i bs) ≡ []
unfolding able_from marks_of is_among
none_marked i [] = refl
none_marked i (b ∷ bs) = none_marked (i + 1) bs

-- these are not below i
unfoldable StartFrom : ℕ → List ℕ → Type 0
StartFrom i [] = Unit {0}
StartFrom i (a ∷ able) = i ≤ a

start_after : (a i : ℕ) (able : List ℕ) → a ≡ i → ascends_after nat_lt a able ≡ true → StartFrom (i + 1) able
unfolding StartFrom
start_after a i [] e asc = tt
start_after a i (d ∷ ds) e asc = let l = ltb-true a d (and_parts (nat_lt a d) (ascends_after nat_lt d ds) asc).0 in omega arith

ascend_after : (a : ℕ) (able : List ℕ) → ascends_after nat_lt a able ≡ true → ascends nat_lt able ≡ true
ascend_after a [] asc = refl
ascend_after a (d ∷ ds) asc = (and_parts (nat_lt a d) (ascends_after nat_lt d ds) asc).1

-- the nodes that are able by these marks
all_marked : (able : List ℕ) (i : ℕ) (bs : List Bool) → StartFrom i able → ascends nat_lt able ≡ true → list_all (λ (m : ℕ). nat_lt m (i + length bs)) able ≡ true → able_from i (marks_of able i bs) ≡ able
unfolding able_from marks_of StartFrom is_among
all_marked [] i bs start asc all = none_marked i bs
all_marked (a ∷ able) i [] start asc all =
    let p = and_parts (nat_lt a (i + 0)) (list_all (λ (m : ℕ). nat_lt m (i + 0)) able) all in
    absurd (let l = ltb-true a (i + 0) p.0 in omega arith)
all_marked (a ∷ able) i (b ∷ bs) start asc all =
    let all2 : list_all (λ (m : ℕ). nat_lt m (i + 1 + length bs)) (a ∷ able) ≡ true = subst (λ (k : ℕ). list_all (λ (m : ℕ). nat_lt m k) (a ∷ able) ≡ true) (omega arith) all in
    let p = and_parts (nat_lt a (i + 1 + length bs)) (list_all (λ (m : ℕ). nat_lt m (i + 1 + length bs)) able) all2 in
    let rest : List ℕ = able_from (i + 1) (marks_of (a ∷ able) (i + 1) bs) in
    ⊎_elim
    (λ (same : a ≡ i). (
    let now : is_among i (a ∷ able) ≡ true = or_left (nat_eq i a) (list_any (nat_eq i) able) (eq-eqb i a (sym same)) in
    let more = all_marked able (i + 1) bs (start_after a i able same asc) (ascend_after a able asc) p.1 in
    let others = marks_after a able (i + 1) bs (omega arith) in
    ap (λ (x : Bool). cond x (i ∷ rest) rest) now ∙ (λ j. sym same j ∷ (ap (able_from (i + 1)) others ∙ more) j)))
    (λ (ne : a ≡ i → ⊥). (
    let l : i < a = omega (arith, start, ne) in
    let now : is_among i (a ∷ able) ≡ false = below i a able l asc in
    ap (λ (x : Bool). cond x (i ∷ rest) rest) now ∙ all_marked (a ∷ able) (i + 1) bs (omega arith) asc all2))
    (cases_eq a i)

-- ---- the steps

module _ (c : Config) (rules : Rules) (able : List ℕ) (n : ℕ) (e : Event) (t : Turn) (rest : List Step) where
  marks_it : (w : Cluster) (i : ℕ) (b : Bool) → i < c.nodes → after_step c rules w (step.Able i b) ≡ Some (record w { able = set w.able i b })
  unfolding steps done keeps_all_up is_allowed fault_of no_such_node refused_if
  marks_it w i b l = after_taken c rules w (step.Able i b) (record { cluster = record w { able = set w.able i b }; lines = [] }) refl refl (rw (lt-ltb i c.nodes l) refl) refl

  -- what comes after the steps that mark nodes leads on, where it does once the nodes are marked
  marked : (bs : List Bool) (w : Cluster) (i : ℕ) (pre : List Bool) → w.able ≡ pre ++ bs → length pre ≡ i → i + length bs ≤ c.nodes →
      Leads c rules (record w { able = pre ++ marks_of able i bs }) rest n e t → Leads c rules w (mark_steps able i bs ++ rest) n e t
  unfolding marks_of mark_steps mark_step given_by
  marked [] w i pre is size fits l = subst (λ (bs : List Bool). Leads c rules (record w { able = bs }) rest n e t) (sym is) l
  marked (b ∷ bs) w i pre is size fits l = by b (is_among i able) refl refl (λ v same. marked bs v (i + 1) (pre ++ is_among i able ∷ []) same (let q = length_push pre (is_among i able) in omega arith) (omega arith))
    where
      more : List Step
      more = mark_steps able (i + 1) bs ++ rest

      To : List Step → Type 0
      To ss = Leads c rules w ss n e t

      after : Cluster → Type 0
      after v = Leads c rules (record v { able = (pre ++ is_among i able ∷ []) ++ marks_of able (i + 1) bs }) rest n e t → Leads c rules v more n e t

      lead : Leads c rules (record w { able = (pre ++ is_among i able ∷ []) ++ marks_of able (i + 1) bs }) rest n e t
      lead = subst (λ (xs : List Bool). Leads c rules (record w { able = xs }) rest n e t) (sym (append_assoc pre (is_among i able ∷ []) (marks_of able (i + 1) bs))) l

      stays : b ≡ is_among i able → ((v : Cluster) → v.able ≡ (pre ++ is_among i able ∷ []) ++ bs → after v) → Leads c rules w more n e t
      stays same go = go w (is ∙ ap (λ (x : Bool). pre ++ x ∷ bs) same ∙ sym (append_assoc pre (is_among i able ∷ []) bs)) lead

      changes : (x : Bool) → is_among i able ≡ x → ((v : Cluster) → v.able ≡ (pre ++ is_among i able ∷ []) ++ bs → after v) → Leads c rules w (step.Able i x ∷ more) n e t
      changes x new go =
          let u : Cluster = record w { able = set w.able i x } in
          let marks : u.able ≡ (pre ++ is_among i able ∷ []) ++ bs = ap (λ (xs : List Bool). set xs i x) is ∙ set_at pre b bs x i size ∙ ap (λ (y : Bool). pre ++ y ∷ bs) (sym new) ∙ sym (append_assoc pre (is_among i able ∷ []) bs) in
          let g = go u marks lead in
          record { end = g.end; makes = one_before c rules w u g.end (step.Able i x) more n e t (marks_it w i x (omega arith)) refl g.makes; kept = g.kept }

      by : (old new : Bool) → b ≡ old → is_among i able ≡ new → ((v : Cluster) → v.able ≡ (pre ++ is_among i able ∷ []) ++ bs → after v) → Leads c rules w ((mark_step i b (is_among i able) ++ mark_steps able (i + 1) bs) ++ rest) n e t
      by old new is_old is_new go = subst (λ (ss : List Step). To (ss ++ rest)) (λ j. mark_step i (sym is_old j) (sym is_new j) ++ mark_steps able (i + 1) bs) (at old new is_old is_new)
        where
          at : (old new : Bool) → b ≡ old → is_among i able ≡ new → To ((mark_step i old new ++ mark_steps able (i + 1) bs) ++ rest)
          at true true o e = stays (o ∙ sym e) go
          at false false o e = stays (o ∙ sym e) go
          at true false o e = changes false e go
          at false true o e = changes true e go

-- ---- a takeover run

pub takeover_leads : (c : Config) (rules : Rules) (w : Cluster) (n : ℕ) (there : n < c.nodes) (kept : AllKept w.sent) (t : Turn) (counted : (u : Cluster) → length u.sent ≡ length w.sent → u.ticket ≤ w.ticket + 1 → u.calls ≤ w.calls + 1 → is_counted (turned n t u.sent u) ≡ true) →
    (able : List ℕ) → length w.able ≡ c.nodes → ascends nat_lt able ≡ true → list_all (λ (m : ℕ). nat_lt m c.nodes) able ≡ true → fault_of c w (step.Takeover n) ≡ None → stepped c rules n (event.BeginTakeover able) (node_at n w) ≡ Some t →
    Leads c rules w (mark_steps able 0 w.able ++ step.Takeover n ∷ []) n (event.BeginTakeover able) t
unfolding turned put with_node steps keeps_all_up is_allowed given_by fault_of node_down not_serving not_leader is_up node_at StartFrom
takeover_leads c rules w n there kept t counted able size asc nodes fits turn =
    let bs : List Bool = marks_of able 0 w.able in
    let u : Cluster = record w { able = bs } in
    let e : Event = event.BeginTakeover able in
    let are : able_from 0 bs ≡ able = all_marked able 0 w.able (starts able) asc (subst (λ (k : ℕ). list_all (λ (m : ℕ). nat_lt m k) able ≡ true) (let s = size in omega arith) nodes) in
    marked c rules able n e t (step.Takeover n ∷ []) w.able w 0 [] refl refl (omega (arith, size)) (record {
      end = turned n t w.sent u;
      makes = one_made c rules u (turned n t w.sent u) (step.Takeover n) n e t
          (after_taken c rules u (step.Takeover n) (put n t [] u) refl refl fits (ap (λ (l : List ℕ). fed c rules n (event.BeginTakeover l) [] u) are ∙ fed_counted c rules n e [] u t turn (counted u refl (omega arith) (omega arith))))
          (ap (λ (l : List ℕ). record { node = n; event = event.BeginTakeover l } ∷ []) are) turn;
      kept = kept_more w.sent t.outs kept;
    })
  where
    starts : (xs : List ℕ) → StartFrom 0 xs
    starts [] = tt
    starts (x ∷ xs) = omega arith
