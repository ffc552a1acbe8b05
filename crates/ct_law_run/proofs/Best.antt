-- Of a record the row that a round keeps is that of a copy of the greatest RSN among those who told of the parent.
use Rattle.std.proofs.Common.{◌≡◌, ◌≢◌, ℕ, ◌≤◌, Bool, true, false, cond, ◌&&◌, ◌==◌, List, [], ◌∷◌, ◌++◌, map, Option, Some, None, inl, inr, refl, sym, ap, ◌∙◌, subst, eqb-true, arith}
use Rattle.std.specs.Prelude.{nat_eq, Contains, slice_index_or, ◌⊎◌}
use Rattle.std.specs.List.{All, list_all, list_any, filter, find}
use Rattle.std.specs.Option.{option_map}
use Rattle.std.proofs.lemmas.Bool.{and_parts, ne_eqb, cases_eq, eq-eqb}
use Rattle.ct_frame.specs.Fields.{ascends, row_before}
use Rattle.ct_frame.specs.declared.frame.TableRow.{TableRow}
use Rattle.ct_frame.specs.declared.header.RecCopy.{RecCopy}
use Rattle.ct_frame.specs.declared.round.Pull.{Pull}
use Rattle.ct_merge.specs.Held.{held_rows, rows_of, row_order, row_rank, is_row_at}
use Rattle.ct_merge.specs.Placing.{better, best, best_from}
use Rattle.ct_merge.specs.Rule.{told, row_at, IsKeptRather}
use Rattle.ct_merge.specs.declared.held.HeldRow.{HeldRow}
use Rattle.ct_merge.proofs.Among.{In, in_of, contains_of, in_filter, into_filter, told_by, into_told, one_there}
use Rattle.ct_law_merge.proofs.Counting.{kept_row}
use Rattle.ct_merge.proofs.Ordered.{rows_ascend}
use Rattle.ct_law_merge.proofs.Rules.{rows_one}
use Rattle.ct_merge.specs.Orders.{row_order_total}
use Rattle.ct_rules.specs.State.{is_mastered}
use Rattle.ct_rules_node.specs.Rounds.{row_of, own_or_none}
use Rattle.ct_law_run.proofs.Merged.{bared, bared_in_order}

module _ {X : Type 0} where
  pub find_in : (at : X → Bool) (xs : List X) (y : X) → find at xs ≡ Some y → In y xs × (at y ≡ true)
  find_in at [] y e = absurd (cc)
  find_in at (x ∷ xs) y e =
      elim (at x) as (λ b. at x ≡ b → cond b (Some x) (find at xs) ≡ Some y → In y (x ∷ xs) × (at y ≡ true)) [
        | true ↦ λ a f. (let s : x ≡ y = cc in (inl s, subst (λ z. at z ≡ true) s a))
        | false ↦ λ a f. (let k = find_in at xs y f in (inr k.0, k.1))
      ] refl e

  pub found : (at : X → Bool) (xs : List X) (x : X) → In x xs → at x ≡ true → (y : X) × (find at xs ≡ Some y)
  found at [] x i a = absurd i
  found at (z ∷ zs) x i a =
      elim (at z) as (λ b. at z ≡ b → (y : X) × (cond b (Some z) (find at zs) ≡ Some y)) [
        | true ↦ λ t. (z, refl)
        | false ↦ λ f. elim i as (λ _. (y : X) × (find at zs ≡ Some y)) [
          | inl e ↦ absurd (let t = subst (λ w. at w ≡ true) (sym e) a in cc)
          | inr j ↦ found at zs x j a
        ]
      ] refl

  pub each_in : (P : X → Type 0) (xs : List X) (x : X) → All P xs → In x xs → P x
  each_in P xs x all i = (let c = contains_of xs x i in subst P c.2 (all c.0 x c.1))

  pub all_tested : (test : X → Bool) (xs : List X) → list_all test xs ≡ true → (x : X) → In x xs → test x ≡ true
  all_tested test [] h x i = absurd i
  all_tested test (y ∷ ys) h x (inl e) = subst (λ z. test z ≡ true) e (and_parts (test y) _ h).0
  all_tested test (y ∷ ys) h x (inr i) = all_tested test ys (and_parts (test y) _ h).1 x i

-- ---- the rows of one reply

held_in : (n : ℕ) (table : List TableRow) (h : HeldRow) → In h (held_rows n table) → (h.node ≡ n) × In h.row table
held_in n [] h i = absurd i
held_in n (row ∷ rows) h (inl e) = (sym (ap (λ (x : HeldRow). x.node) e), inl (ap (λ (x : HeldRow). x.row) e))
held_in n (row ∷ rows) h (inr i) = (let k = held_in n rows h i in (k.0, inr k.1))

pub in_held : (n : ℕ) (table : List TableRow) (row : TableRow) → In row table → In (record { node = n; row = row }) (held_rows n table)
in_held n [] row i = absurd i
in_held n (x ∷ xs) row (inl e) = inl (λ i. record { node = n; row = e i })
in_held n (x ∷ xs) row (inr i) = inr (in_held n xs row i)

rows_are : (q : Pull) (p : ℕ) → p ≢ 0 → q.vbase ≡ p → rows_of q ≡ held_rows q.node q.table
rows_are q p real e = ap (λ (b : Bool). cond b [] (held_rows q.node q.table)) (ne_eqb q.vbase 0 (λ z. real (sym e ∙ z)))

-- some row is kept of some
never_none : (x : HeldRow) (xs : List HeldRow) → best_from row_rank (Some x) xs ≡ None → ⊥
never_none x [] e = absurd (cc)
never_none x (y ∷ ys) e = never_none (better row_rank y x) ys e

no_best : (hs : List HeldRow) (h : HeldRow) → best row_rank hs ≡ None → In h hs → ⊥
no_best [] h e i = i
no_best (x ∷ xs) h e i = never_none x xs e

-- ---- what the rows of the parent are

module _ (p : ℕ) (ps : List Pull) (db : ℕ) (key : List ℕ) (copies : ℕ → Option RecCopy) (real : p ≢ 0) (order : list_all (λ q. ascends row_before q.table) ps ≡ true)
    (told_is : (q : Pull) → In q ps → q.vbase ≡ p → row_at db key q.table ≡ row_of q.node db key (copies q.node)) where
  -- the rows of the record that were told of the parent
  abbrev rows_there : List HeldRow
  rows_there = filter (λ h. is_row_at db key h.row) (told (λ q. q.vbase) rows_of p ps)

  -- a row is that of this copy at its node
  pub record Is_row (h : HeldRow) : Type 0 where
    pub copy : RecCopy
    pub has : copies h.node ≡ Some copy
    pub rsn : h.row.rsn ≡ copy.header.rsn
    pub value : h.row.value ≡ copy.value
    pub master : h.row.master ≡ own_or_none h.node (is_mastered h.node (Some copy))
    pub pull : Pull
    pub among : In pull ps
    pub node : pull.node ≡ h.node
    pub base : pull.vbase ≡ p

  row_from : (n : ℕ) (c : Option RecCopy) (y : TableRow) → (row_of n db key c) ≡ Some y → (d : RecCopy) × (c ≡ Some d) × (y.rsn ≡ d.header.rsn) × (y.value ≡ d.value) × (y.master ≡ own_or_none n (is_mastered n (Some d)))
  unfolding row_of
  row_from n None y e = absurd (cc)
  row_from n (Some d) y e = (let s : record { db = db; key = key; rsn = d.header.rsn; value = d.value; master = own_or_none n (is_mastered n (Some d)) } ≡ y = cc in
      (d, refl, ap (λ (r : TableRow). r.rsn) (sym s), ap (λ (r : TableRow). r.value) (sym s), ap (λ (r : TableRow). r.master) (sym s)))

  -- each of the rows is
  pub rows_are_copies : (h : HeldRow) → In h rows_there → Is_row h
  rows_are_copies h i =
      let f = in_filter (λ x. is_row_at db key x.row) (told (λ q. q.vbase) rows_of p ps) h i in
      let t = told_by (λ q. q.vbase) rows_of p ps h f.0 in
      let q = t.pull in
      let base = eqb-true q.vbase p t.of_base in
      let k = held_in q.node q.table h (subst (λ (hs : List HeldRow). In h hs) (rows_are q p real base) t.has) in
      let y = found (is_row_at db key) q.table h.row k.1 f.1 in
      let z = find_in (is_row_at db key) q.table y.0 y.1 in
      let sorted = rows_ascend (bared q) (bared_in_order q (all_tested (λ (x : Pull). ascends row_before x.table) ps order q t.among)) in
      let same : h ≡ record { node = q.node; row = y.0 } = one_there row_order row_order_total (rows_of q) h (record { node = q.node; row = y.0 }) sorted t.has
      (subst (λ (hs : List HeldRow). In (record { node = q.node; row = y.0 }) hs) (sym (rows_are q p real base)) (in_held q.node q.table y.0 z.0)) (rows_one db key h (record { node = q.node; row = y.0 }) f.1 z.1) in
      let r = row_from q.node (copies q.node) y.0 (sym (told_is q t.among base) ∙ y.1) in
      record {
        copy = r.0;
        has = ap copies k.0 ∙ r.1;
        rsn = ap (λ (x : HeldRow). x.row.rsn) same ∙ r.2;
        value = ap (λ (x : HeldRow). x.row.value) same ∙ r.3;
        master = ap (λ (x : HeldRow). x.row.master) same ∙ r.4 ∙ ap (λ (n : ℕ). own_or_none n (is_mastered n (Some r.0))) (sym k.0);
        pull = q;
        among = t.among;
        node = sym k.0;
        base = base;
      }

  -- and each copy that was told has one
  pub copies_have_rows : (q : Pull) (d : RecCopy) → In q ps → q.vbase ≡ p → copies q.node ≡ Some d → (h : HeldRow) × In h rows_there × (h.row.rsn ≡ d.header.rsn)
  unfolding row_of
  copies_have_rows q d i base has =
      let e = told_is q i base ∙ ap (λ (c : Option RecCopy). row_of q.node db key c) has in
      let row : TableRow = record { db = db; key = key; rsn = d.header.rsn; value = d.value; master = own_or_none q.node (is_mastered q.node (Some d)) } in
      let z = find_in (is_row_at db key) q.table row e in
      let h : HeldRow = record { node = q.node; row = row } in
      let inside = subst (λ (hs : List HeldRow). In h hs) (sym (rows_are q p real base)) (in_held q.node q.table row z.0) in
      (h, into_filter (λ x. is_row_at db key x.row) _ h (into_told (λ x. x.vbase) rows_of p ps h q i (eq-eqb q.vbase p base) inside) z.1, refl)

  -- so the row that is kept is that of a copy, and no other that was told has a greater RSN
  pub record Is_kept (h : HeldRow) : Type 0 where
    pub row : Is_row h
    pub most : (q : Pull) (d : RecCopy) → In q ps → q.vbase ≡ p → copies q.node ≡ Some d → d.header.rsn ≤ row.copy.header.rsn

  pub best_is_copy : (h : HeldRow) → best row_rank rows_there ≡ Some h → Is_kept h
  best_is_copy h e =
      let k = kept_row rows_there h e in
      let r = rows_are_copies h (in_of rows_there h k.0) in
      record {
        row = r;
        most = λ q d i base has. (let x = copies_have_rows q d i base has in let m = (each_in (IsKeptRather h) rows_there x.0 k.1 x.1).0 in let a = x.2 in let b = r.rsn in omega arith);
      }

  -- and where none is kept, none was told
  pub none_is_kept : best row_rank rows_there ≡ None → (q : Pull) → In q ps → q.vbase ≡ p → copies q.node ≡ None
  none_is_kept e q i base = go (copies q.node) refl
    where
      go : (c : Option RecCopy) → copies q.node ≡ c → copies q.node ≡ None
      go None has = has
      go (Some d) has = absurd (let x = copies_have_rows q d i base has in no_best rows_there x.0 e x.1)
