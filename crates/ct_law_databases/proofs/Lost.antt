-- A lock record that is lost: a node that was in the line, and is not present there any more, has it for ever. Nobody owns it, and so it
-- stays.
use Rattle.std.proofs.Common.{◌≡◌, ◌≢◌, ℕ, ◌+◌, ◌<◌, ◌≤◌, Bool, true, false, List, Option, None, Some, refl, sym, ap, ◌∙◌, subst, arith, inl, inr, ⊎_elim, eqb-true}
use Rattle.std.specs.Prelude.{◌⊎◌, nat_eq, nat_lt, is_some, is_none}
use Rattle.std.proofs.lemmas.Bool.{cases_eq, cases_Bool}
use Rattle.ct_values.specs.declared.config.Config.{Config}
use Rattle.ct_frame.specs.declared.header.RecCopy.{RecCopy}
use Rattle.ct_call.specs.Rules.{Rules}
use Rattle.ct_rules.specs.State.{is_mastered}
use Rattle.ct_rules_node.specs.Node.{Node, Phase, Idle, Serving, Installed, Freezing, Frozen, is_present, state_at}
use Rattle.ct_rules_node.specs.Clients.{is_locked}
use Rattle.ct_rules_cluster.specs.Cluster.{Cluster, node_at}
use Rattle.ct_register.specs.Lines.{Lines}
use Rattle.ct_law_record.proofs.Law as record_law
use Rattle.ct_law_record.specs.World.{World}
use Rattle.ct_law_run.proofs.Ages.{Ages}
use Rattle.ct_law_run.proofs.Lives.{Lives, PhaseSays}
use Rattle.ct_law_run.proofs.Later.{Rest, Keeps}
use Rattle.ct_law_run.proofs.Lined.{at_line}
use Rattle.ct_law_databases.proofs.Locks.{world_of, born_line, lock_owned, owned_locked, owner_in}
use Rattle.ct_law_databases.proofs.Later.{GoesLater}

-- node n has the lock record of this key in line g, with no lock, and will not be present there again
pub record IsLost (c : Config) (w : Cluster) (r : Lines) (a : Ages) (g : ℕ) (key : List ℕ) (n : ℕ) : Type 0 where
  pub there : nat_lt n c.nodes ≡ true
  pub born : r.born g ≡ true
  pub past : g ≤ r.pline n
  pub away : is_present (node_at n w).phase ≡ true → r.line n ≢ g
  pub mine : is_mastered n ((a.worlds g 0 key).nodes n).state.copy ≡ true
  pub free : ((a.worlds g 0 key).nodes n).state.locked ≡ None

abbrev pub Lost : Config → Cluster → Lines → Ages → ℕ → List ℕ → Type 0
Lost c w r a g key = (n : ℕ) × IsLost c w r a g key n

-- the copy of a data master
pub master_copy : (n : ℕ) (o : Option RecCopy) → is_mastered n o ≡ true → (d : RecCopy) × (o ≡ Some d) × (d.header.dmaster ≡ n)
unfolding is_mastered
master_copy n None e = absurd (cc)
master_copy n (Some d) e = (d, refl, eqb-true d.header.dmaster n e)

some_not : (o : Option ℕ) → is_some o ≡ true → o ≡ None → ⊥
some_not None e f = absurd (cc)
some_not (Some m) e f = absurd (cc)

none_some : (o : Option ℕ) → is_some o ≡ true → is_none o ≡ false
none_some None e = absurd (cc)
none_some (Some m) e = refl

module _ (c : Config) (rules : Rules) (w : Cluster) (r : Lines) (h : Lives c rules w r) where
  -- who has locked a record of its line has its copy, as data master, in the world
  pub locked_mine : (n db : ℕ) (key : List ℕ) → nat_lt n c.nodes ≡ true → is_locked db key (node_at n w) ≡ true → is_mastered n (state_at db key (node_at n w)).copy ≡ true
  unfolding is_locked
  locked_mine n db key lt locked = ((h.nodes n lt).formed db key).form.shape.lock_held (none_some (state_at db key (node_at n w)).locked locked)

  -- a record that is lost is nobody's
  pub lost_unowned : (g : ℕ) (key : List ℕ) → Lost c w r h.ages g key → (r.records g 0 key).owner ≡ None
  lost_unowned g key lost = by (r.records g 0 key).owner refl
    where
      n : ℕ
      n = lost.0

      world : World
      world = h.ages.worlds g 0 key

      by : (o : Option ℕ) → (r.records g 0 key).owner ≡ o → o ≡ None
      by None e = refl
      by (Some m) e =
          let k = owner_in c rules w r h g 0 m key e in
          let stands = record_law.stands _ _ _ _ (world_of c rules w r h g 0 key lost.1.born) in
          let here : is_locked 0 key (node_at m w) ≡ true = owned_locked c rules w r h m 0 key k.1 (subst (λ (l : ℕ). (r.records l 0 key).owner ≡ Some m) (sym k.0) e) in
          let copy : is_mastered m (world.nodes m).state.copy ≡ true = subst (λ (l : ℕ). is_mastered m ((h.ages.worlds l 0 key).nodes m).state.copy ≡ true) k.0
          (subst (λ (o : Option RecCopy). is_mastered m o ≡ true) ((at_line c rules w r h m 0 key).some k.1).0 (locked_mine m 0 key k.2 here)) in
          let x = master_copy m (world.nodes m).state.copy copy in
          let y = master_copy n (world.nodes n).state.copy lost.1.mine in
          let same : m ≡ n = stands.only m n x.0 y.0 x.1 x.2 y.1 y.2 in
          let locked : is_some (world.nodes n).state.locked ≡ true = subst (λ (j : ℕ). is_some (world.nodes j).state.locked ≡ true) same ((stands.locks m).1 e) in
          absurd (some_not (world.nodes n).state.locked locked lost.1.free)

  -- who is not present, in a line, promised a generation above that
  frozen_promise : (n : ℕ) (x : Node) (p : Phase) → is_present p ≡ false → r.line n ≢ 0 → PhaseSays c rules h.who w r h.ages n x p → r.pline n < x.promise
  unfolding PhaseSays is_present
  frozen_promise n x Idle e ne k = absurd (ne k.0)
  frozen_promise n x (Freezing g l) e ne k = (let a = k.2 in let b = k.3 in omega arith)
  frozen_promise n x (Frozen g) e ne k = (let a = k.1 in let b = k.2 in omega arith)
  frozen_promise n x Serving e ne k = absurd (cc)
  frozen_promise n x Installed e ne k = absurd (cc)

  -- who is present promised no more than its line
  present_promise : (n : ℕ) (x : Node) (p : Phase) → is_present p ≡ true → PhaseSays c rules h.who w r h.ages n x p → x.promise ≡ r.line n
  unfolding PhaseSays is_present
  present_promise n x Idle e k = absurd (cc)
  present_promise n x (Freezing g l) e k = absurd (cc)
  present_promise n x (Frozen g) e k = absurd (cc)
  present_promise n x Serving e k = k.1.promise
  present_promise n x Installed e k = k.1.promise

  pub absent_promise : (n : ℕ) → nat_lt n c.nodes ≡ true → is_present (node_at n w).phase ≡ false → r.line n ≢ 0 → r.pline n < (node_at n w).promise
  absent_promise n lt e ne = frozen_promise n (node_at n w) (node_at n w).phase e ne (h.nodes n lt).phase

  pub here_promise : (n : ℕ) → nat_lt n c.nodes ≡ true → is_present (node_at n w).phase ≡ true → (node_at n w).promise ≡ r.line n
  here_promise n lt e = present_promise n (node_at n w) (node_at n w).phase e (h.nodes n lt).phase

-- through a step a record that is lost stays so
pub lost_stays : (c : Config) (rules : Rules) (w v : Cluster) (r s : Lines) (h : Lives c rules w r) (k : Lives c rules v s) → GoesLater r s → ((n : ℕ) → Rest r h.ages s k.ages n (node_at n v).phase) → ((n : ℕ) → (node_at n w).promise ≤ (node_at n v).promise) →
    (g : ℕ) (key : List ℕ) → Lost c w r h.ages g key → Lost c v s k.ages g key
lost_stays c rules w v r s h k later rest promise g key lost = (
  n,
  record {
    there = l.there;
    born = later.born g l.born;
    past = (let a = later.rises n in let b = l.past in omega arith);
    away = away;
    mine = subst (λ (o : Option RecCopy). is_mastered n o ≡ true) (sym kept.copy) l.mine;
    free = kept.free l.free;
  },
)
  where
    n : ℕ
    n = lost.0

    l : IsLost c w r h.ages g key n
    l = lost.1

    some : g ≢ 0
    some z = absurd (let e = sym (ap r.born z ∙ h.lines.none) ∙ l.born in cc)

    -- it would have been in the line before, frozen for a later one
    before : is_present (node_at n v).phase ≡ true → s.line n ≡ g → r.line n ≡ g → ⊥
    before present at was = ⊎_elim
        (λ (e : is_present (node_at n w).phase ≡ true). absurd (l.away e was))
        (λ (e : is_present (node_at n w).phase ≡ false).
        let a = absent_promise c rules w r h n l.there e (λ z. some (sym was ∙ z)) in
        let b = here_promise c rules v s k n l.there present in
        let p = promise n in
        let q = l.past in
        absurd (omega (arith, a, b, p, q, at)))
        (cases_Bool (is_present (node_at n w).phase))

    away : is_present (node_at n v).phase ≡ true → s.line n ≢ g
    away present at = absurd (⊎_elim (λ (was : r.line n ≡ g). before present at was) (λ (low : r.pline n < g). (let q = l.past in absurd (omega (arith, low, q)))) (later.enters n g some at))

    why : (r.line n ≢ g) ⊎ (s.line n ≢ g) ⊎ ((is_present (node_at n v).phase ≡ false) × (((h.ages.worlds g 0 key).nodes n).state.locked ≡ None))
    why = ⊎_elim
        (λ (at : s.line n ≡ g). ⊎_elim
        (λ (e : is_present (node_at n v).phase ≡ true). absurd (away e at))
        (λ (e : is_present (node_at n v).phase ≡ false). inr (inr (e, l.free)))
        (cases_Bool (is_present (node_at n v).phase)))
        (λ (ne : s.line n ≢ g). inr (inl ne))
        (cases_eq (s.line n) g)

    kept : Keeps ((h.ages.worlds g 0 key).nodes n) ((k.ages.worlds g 0 key).nodes n)
    kept = rest n g 0 key l.born why
