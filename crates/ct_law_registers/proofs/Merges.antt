-- What is merged of the persistent databases of replies looks at nothing but them; and what it keeps of one.
use Rattle.std.proofs.Common.{◌≡◌, ◌≢◌, ℕ, ◌≤◌, Bool, true, false, ◌&&◌, ◌==◌, List, [], ◌∷◌, ◌++◌, map, Option, None, Some, refl, sym, ap, ◌∙◌, subst, cond, inl, inr, ⊎_elim, arith}
use Rattle.std.specs.Prelude.{◌⊎◌, nat_lt}
use Rattle.std.specs.List.{list_all, filter, AllByRecursion}
use Rattle.std.specs.Option.{option_map}
use Rattle.std.proofs.lemmas.Bool.{and_parts, and_from, eqb-true, eq-eqb, ltb-true}
use Rattle.ct_frame.specs.Fields.{ascends, ptable_before}
use Rattle.ct_frame.specs.declared.frame.PTable.{PTable}
use Rattle.ct_frame.specs.declared.round.Pull.{Pull}
use Rattle.ct_merge.specs.Held.{ptables_of, held_ptables, ptable_order, ptable_rank, is_in_order}
use Rattle.ct_merge.specs.declared.held.HeldPTable.{HeldPTable}
use Rattle.ct_merge.specs.declared.merged.PMerged.{PMerged}
use Rattle.ct_merge.specs.Placing.{best, best_from, better}
use Rattle.ct_merge.specs.Gathered.{greater, nothing, gathered_all, finished}
use Rattle.ct_merge.specs.Rule.{are_in_order, greatest, told, pparent, is_ptable_at, ptables_at, ptable_at, IsPersistentMerge}
use Rattle.ct_merge.proofs.Among.{In, in_filter, into_filter, all_in, told_by, into_told}
use Rattle.ct_law_merge.proofs.Folding.{based, all_joined}
use Rattle.ct_law_merge.proofs.Rules.{gathered_pbase, gathered_ptables, merge_is}
use Rattle.ct_law_registers.proofs.Merged.{kept_has, kept_greatest}

-- ---- replies without all but their persistent databases

abbrev bared : Pull → Pull
bared p = record p { table = []; addresses = [] }

bared_in_order : (p : Pull) → ascends ptable_before p.ptables ≡ true → is_in_order (bared p) ≡ true
bared_in_order p h = and_from (true && ascends ptable_before p.ptables) true (and_from true (ascends ptable_before p.ptables) refl h) refl

bared_order : (ps : List Pull) → list_all (λ p. ascends ptable_before p.ptables) ps ≡ true → are_in_order (map bared ps) ≡ true
bared_order [] h = refl
bared_order (p ∷ ps) h = (let k = and_parts (ascends ptable_before p.ptables) _ h in and_from (is_in_order (bared p)) _ (bared_in_order p k.0) (bared_order ps k.1))

bared_based : (ps : List Pull) (b : ℕ) → based (λ p. p.pbase) (map bared ps) b ≡ based (λ p. p.pbase) ps b
bared_based [] b = refl
bared_based (p ∷ ps) b = bared_based ps _

bared_joined : (ps : List Pull) (b : ℕ) (xs : List HeldPTable) → all_joined ptable_order ptable_rank (λ p. p.pbase) ptables_of (map bared ps) b xs ≡ all_joined ptable_order ptable_rank (λ p. p.pbase) ptables_of ps b xs
bared_joined [] b xs = refl
bared_joined (p ∷ ps) b xs = bared_joined ps _ _

bared_parent : (ps : List Pull) → pparent (map bared ps) ≡ pparent ps
bared_parent [] = refl
bared_parent (p ∷ ps) = ap (greater p.pbase) (bared_parent ps)

bared_told : (b : ℕ) (ps : List Pull) → told (λ p. p.pbase) ptables_of b (map bared ps) ≡ told (λ p. p.pbase) ptables_of b ps
bared_told b [] = refl
bared_told b (p ∷ ps) = (λ i. cond (p.pbase == b) (ptables_of p ++ bared_told b ps i) (bared_told b ps i))

same_tables : (ps : List Pull) → (finished (gathered_all (map bared ps) nothing)).ptables ≡ (finished (gathered_all ps nothing)).ptables
same_tables ps =
    let base = gathered_pbase (map bared ps) nothing ∙ bared_based ps 0 ∙ sym (gathered_pbase ps nothing) in
    let tables = gathered_ptables (map bared ps) nothing ∙ bared_joined ps 0 [] ∙ sym (gathered_ptables ps nothing) in
    λ i. record { parent = base i; ptables = map (λ h. h.ptable) (tables i) }

bared_tables : (db : ℕ) (ps : List Pull) → ptables_at db (map bared ps) ≡ ptables_at db ps
bared_tables db ps = ap (filter (λ h. is_ptable_at db h.ptable)) (bared_told (pparent (map bared ps)) ps ∙ ap (λ (b : ℕ). told (λ p. p.pbase) ptables_of b ps) (bared_parent ps))

-- where the persistent databases of all replies are in order, what is gathered of them is their merge
pub tables_merged : (ps : List Pull) → list_all (λ p. ascends ptable_before p.ptables) ps ≡ true → IsPersistentMerge ps (finished (gathered_all ps nothing)).ptables
tables_merged ps h =
    let k = subst (λ (x : PMerged). IsPersistentMerge (map bared ps) x) (same_tables ps) (merge_is (map bared ps) (bared_order ps h)).1 in
    (k.0 ∙ bared_parent ps, k.1, λ db. k.2 db ∙ ap (λ (hs : List HeldPTable). option_map (λ h. h.ptable) (best ptable_rank hs)) (bared_tables db ps))

-- ---- the greatest base is one of them

pub some_greatest : (ps : List Pull) (p : Pull) → In p ps → (q : Pull) × In q ps × (q.pbase ≡ pparent ps)
some_greatest [] p i = absurd i
some_greatest (q ∷ []) p i = (q, inl refl, by (nat_lt q.pbase 0) refl)
  where
    by : (b : Bool) → nat_lt q.pbase 0 ≡ b → q.pbase ≡ cond b 0 q.pbase
    by true e = absurd (let l = ltb-true q.pbase 0 e in omega arith)
    by false e = refl
some_greatest (q ∷ r ∷ ps) p i = by (nat_lt q.pbase (pparent (r ∷ ps))) (some_greatest (r ∷ ps) r (inl refl))
  where
    by : (b : Bool) → ((z : Pull) × In z (r ∷ ps) × (z.pbase ≡ pparent (r ∷ ps))) → (z : Pull) × In z (q ∷ r ∷ ps) × (z.pbase ≡ cond b (pparent (r ∷ ps)) q.pbase)
    by true rest = (rest.0, inr rest.1, rest.2)
    by false rest = (q, inl refl, refl)

-- ---- one database

pub all_from : {X : Type 0} (P : X → Type 0) (xs : List X) → ((x : X) → In x xs → P x) → AllByRecursion P xs
all_from P [] h = tt
all_from P (x ∷ xs) h = (h x (inl refl), all_from P xs (λ y i. h y (inr i)))

held_in : (n : ℕ) (ts : List PTable) (h : HeldPTable) → In h (held_ptables n ts) → (h.node ≡ n) × In h.ptable ts
held_in n [] h i = absurd i
held_in n (t ∷ ts) h (inl e) = (sym (ap (λ (x : HeldPTable). x.node) e), inl (ap (λ (x : HeldPTable). x.ptable) e))
held_in n (t ∷ ts) h (inr i) = (let k = held_in n ts h i in (k.0, inr k.1))

in_held : (n : ℕ) (ts : List PTable) (t : PTable) → In t ts → In (record { node = n; ptable = t }) (held_ptables n ts)
in_held n [] t i = absurd i
in_held n (x ∷ xs) t (inl e) = inl (λ i. record { node = n; ptable = e i })
in_held n (x ∷ xs) t (inr i) = inr (in_held n xs t i)

never_none : (x : HeldPTable) (xs : List HeldPTable) → best_from ptable_rank (Some x) xs ≡ None → ⊥
never_none x [] e = absurd (cc)
never_none x (y ∷ ys) e = never_none (better ptable_rank y x) ys e

no_best : (hs : List HeldPTable) (h : HeldPTable) → best ptable_rank hs ≡ None → In h hs → ⊥
no_best [] h e i = i
no_best (x ∷ xs) h e i = never_none x xs e

-- where each pull of the greatest base has one table of the database, the number of each node's being this
module _ (ps : List Pull) (db : ℕ) (table : ℕ → PTable) (has : (p : Pull) → In p ps → p.pbase ≡ pparent ps → In (table p.node) p.ptables × ((y : PTable) → In y p.ptables → is_ptable_at db y ≡ true → y ≡ table p.node)) (here : (n : ℕ) → is_ptable_at db (table n) ≡ true) where
  -- a table that is held is that of the node of such a pull
  pub record IsHeld (h : HeldPTable) : Type 0 where
    pub pull : Pull
    pub among : In pull ps
    pub base : pull.pbase ≡ pparent ps
    pub node : pull.node ≡ h.node
    pub is : h.ptable ≡ table h.node

  tables_held : (h : HeldPTable) → In h (ptables_at db ps) → IsHeld h
  tables_held h i =
      let f = in_filter (λ x. is_ptable_at db x.ptable) (told (λ p. p.pbase) ptables_of (pparent ps) ps) h i in
      let t = told_by (λ p. p.pbase) ptables_of (pparent ps) ps h f.0 in
      let k = held_in t.pull.node t.pull.ptables h t.has in
      let b = eqb-true t.pull.pbase (pparent ps) t.of_base in
      record { pull = t.pull; among = t.among; base = b; node = sym k.0; is = (has t.pull t.among b).1 h.ptable k.1 f.1 ∙ ap table (sym k.0) }

  pull_held : (p : Pull) → In p ps → p.pbase ≡ pparent ps → In (record { node = p.node; ptable = table p.node }) (ptables_at db ps)
  pull_held p i b = into_filter (λ x. is_ptable_at db x.ptable) (told (λ p. p.pbase) ptables_of (pparent ps) ps) (record { node = p.node; ptable = table p.node })
      (into_told (λ p. p.pbase) ptables_of (pparent ps) ps (record { node = p.node; ptable = table p.node }) p i (eq-eqb p.pbase (pparent ps) b) (in_held p.node p.ptables (table p.node) (has p i b).0)) (here p.node)

  -- the one that is kept: it is held, and none of the greatest base has a greater number
  pub record IsKept (h : HeldPTable) : Type 0 where
    pub held : IsHeld h
    pub most : (p : Pull) → In p ps → p.pbase ≡ pparent ps → (table p.node).seq ≤ (table h.node).seq

  pub best_kept : (h : HeldPTable) → best ptable_rank (ptables_at db ps) ≡ Some h → IsKept h
  best_kept h e =
      let held : IsHeld h = kept_has IsHeld (ptables_at db ps) h (all_from IsHeld (ptables_at db ps) tables_held) e in
      let most = kept_greatest (ptables_at db ps) h e in
      record {
        held = held;
        most = λ p i b. subst (λ (t : PTable). (table p.node).seq ≤ t.seq) held.is
            (all_in (λ (z : HeldPTable). z.ptable.seq ≤ h.ptable.seq) (ptables_at db ps) most (record { node = p.node; ptable = table p.node }) (pull_held p i b));
      }

  pub some_best : (p : Pull) → In p ps → (h : HeldPTable) × (best ptable_rank (ptables_at db ps) ≡ Some h)
  some_best p i = (let q = some_greatest ps p i in by (record { node = q.0.node; ptable = table q.0.node }) (best ptable_rank (ptables_at db ps)) refl (pull_held q.0 q.1 q.2))
    where
      by : (z : HeldPTable) (o : Option HeldPTable) → best ptable_rank (ptables_at db ps) ≡ o → In z (ptables_at db ps) → (h : HeldPTable) × (o ≡ Some h)
      by z None e j = absurd (no_best (ptables_at db ps) z e j)
      by z (Some h) e j = (h, refl)
