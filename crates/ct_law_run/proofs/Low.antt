-- The rows that a round pushes are in order, and their RSNs are below 2^62, as they are those of copies in the parent.
use Rattle.std.proofs.Common.{◌≡◌, ◌≢◌, ℕ, ◌<◌, ◌^◌, Bool, true, false, ◌&&◌, ◌||◌, List, [], ◌∷◌, map, Option, Some, None, inl, inr, ⊎_elim, refl, sym, ap, ◌∙◌, subst, arith}
use Rattle.std.specs.Prelude.{nat_eq, nat_lt}
use Rattle.std.specs.List.{list_all}
use Rattle.std.specs.Option.{option_map}
use Rattle.std.proofs.lemmas.Bool.{cases_eq, lt-ltb, and_from}
use Rattle.ct_values.specs.declared.config.Config.{Config}
use Rattle.ct_frame.specs.Fields.{ascends, ascends_after, row_before}
use Rattle.ct_frame.specs.declared.frame.TableRow.{TableRow}
use Rattle.ct_frame.specs.declared.header.RecCopy.{RecCopy}
use Rattle.ct_frame.specs.declared.round.Pull.{Pull}
use Rattle.ct_call.specs.Rules.{Rules}
use Rattle.ct_merge.specs.Gathered.{Gathered, finished}
use Rattle.ct_merge.specs.Held.{held_rows, row_order, row_rank, is_row_at}
use Rattle.ct_merge.specs.Orders.{row_order_total}
use Rattle.ct_merge.specs.Placing.{best}
use Rattle.ct_merge.specs.Rule.{rows_at, row_at}
use Rattle.ct_merge.specs.declared.held.HeldRow.{HeldRow}
use Rattle.ct_merge.proofs.Among.{In, one_there}
use Rattle.ct_merge.proofs.Ordered.{rows_ascend}
use Rattle.ct_law_merge.proofs.Rules.{rows_one}
use Rattle.ct_rules.specs.State.{rsn_of}
use Rattle.ct_rules_node.specs.Rounds.{mastered, body_of}
use Rattle.ct_law_rules_node.proofs.Installed.{own_place}
use Rattle.ct_rules_cluster.specs.Cluster.{Cluster}
use Rattle.ct_register.specs.Lines.{Lines}
use Rattle.ct_law_run.proofs.Lives.{Lives, IsTicket, IsGatheredOf}
use Rattle.ct_law_run.proofs.Merged.{rows_merged, bared, bared_in_order}
use Rattle.ct_law_run.proofs.Best.{best_is_copy, found, find_in, in_held}
use Rattle.ct_law_run.proofs.Begotten.{replied, parent, in_order, told_is, born_parent, no_row, copies}

-- ---- a table in order

-- a row is found at its place in a table that ascends
pub own_row : (table : List TableRow) (row : TableRow) → ascends row_before table ≡ true → In row table → row_at row.db row.key table ≡ Some row
own_row table row sorted i =
    let y = found (is_row_at row.db row.key) table row i (own_place row) in
    let z = find_in (is_row_at row.db row.key) table y.0 y.1 in
    let q : Pull = record { node = 0; vbase = 1; pbase = 0; table = table; ptables = []; addresses = [] } in
    let same = one_there row_order row_order_total (held_rows 0 table) (record { node = 0; row = y.0 }) (record { node = 0; row = row }) (rows_ascend (bared q) (bared_in_order q sorted)) (in_held 0 table y.0 z.0) (in_held 0 table row i)
    (rows_one row.db row.key (record { node = 0; row = y.0 }) (record { node = 0; row = row }) z.1 (own_place row)) in
    y.1 ∙ ap (λ (h : HeldRow). Some h.row) same

-- what holds of each row holds of all
all_rows : (test : TableRow → Bool) (rows : List TableRow) → ((row : TableRow) → In row rows → test row ≡ true) → list_all test rows ≡ true
all_rows test [] h = refl
all_rows test (row ∷ rows) h = rw (h row (inl refl)) (all_rows test rows (λ x i. h x (inr i)))

-- a data master changes neither places nor RSNs
mastered_low : (n : ℕ) (rows : List TableRow) → list_all (λ row. nat_lt row.rsn (2 ^ 62)) rows ≡ true → list_all (λ row. nat_lt row.rsn (2 ^ 62)) (map (mastered n) rows) ≡ true
unfolding mastered
mastered_low n [] e = refl
mastered_low n (row ∷ rows) e = first (nat_lt row.rsn (2 ^ 62)) e (mastered_low n rows)
  where
    first : (b : Bool) → (b && list_all (λ x. nat_lt x.rsn (2 ^ 62)) rows) ≡ true → (list_all (λ x. nat_lt x.rsn (2 ^ 62)) rows ≡ true → list_all (λ x. nat_lt x.rsn (2 ^ 62)) (map (mastered n) rows) ≡ true) → (b && list_all (λ x. nat_lt x.rsn (2 ^ 62)) (map (mastered n) rows)) ≡ true
    first true k rest = rest k
    first false k rest = absurd (cc)

after_mastered : (n : ℕ) (row : TableRow) (rows : List TableRow) → ascends_after row_before row rows ≡ true → ascends_after row_before (mastered n row) (map (mastered n) rows) ≡ true
unfolding mastered
after_mastered n row [] e = refl
after_mastered n row (more ∷ rows) e = first (row_before row more) e (after_mastered n more rows)
  where
    first : (b : Bool) → (b && ascends_after row_before more rows) ≡ true → (ascends_after row_before more rows ≡ true → ascends_after row_before (mastered n more) (map (mastered n) rows) ≡ true) →
        (b && ascends_after row_before (mastered n more) (map (mastered n) rows)) ≡ true
    first true k rest = rest k
    first false k rest = absurd (cc)

mastered_order : (n : ℕ) (rows : List TableRow) → ascends row_before rows ≡ true → ascends row_before (map (mastered n) rows) ≡ true
mastered_order n [] e = refl
mastered_order n (row ∷ rows) e = after_mastered n row rows e

-- the RSN of a row is that of the copy
copied_low : (rsn : ℕ) (d : RecCopy) (o : Option RecCopy) → o ≡ Some d → rsn ≡ d.header.rsn → rsn_of o < 2 ^ 62 → rsn < 2 ^ 62
unfolding rsn_of
copied_low rsn d None e f l = absurd (cc)
copied_low rsn d (Some b) e f l = (let s : b ≡ d = cc in let t = ap (λ (y : RecCopy). y.header.rsn) s in omega arith)

-- ---- what a round pushes

module _ (c : Config) (rules : Rules) (w : Cluster) (r : Lines) (h : Lives c rules w r) (n g : ℕ) (members : List ℕ) (x : Gathered) (ticket : IsTicket c r g n members) (k : IsGatheredOf w n g members [] x) where
  abbrev merged : List TableRow
  merged = (finished x).table.table

  all_in_order : list_all (λ q. ascends row_before q.table) k.pulls ≡ true
  all_in_order = in_order c rules w r h n g members x 0 [] ticket k

  merged_order : ascends row_before merged ≡ true
  merged_order = ap (λ (y : Gathered). ascends row_before (finished y).table.table) k.same ∙ (rows_merged k.pulls all_in_order).1

  merged_at : (db : ℕ) (key : List ℕ) → row_at db key merged ≡ option_map (λ (z : HeldRow). z.row) (best row_rank (rows_at db key k.pulls))
  merged_at db key = ap (λ (y : Gathered). row_at db key (finished y).table.table) k.same ∙ (rows_merged k.pulls all_in_order).2 db key

  -- a row that is kept is that of a copy in the parent
  kept_low : (db : ℕ) (key : List ℕ) (z : HeldRow) → best row_rank (rows_at db key k.pulls) ≡ Some z → z.row.rsn < 2 ^ 62
  kept_low db key z e = ⊎_elim
      (λ (none : parent c rules w r h n g members x db key ticket k ≡ 0). absurd (let f : None ≡ Some z = sym (no_row c rules w r h n g members x db key ticket k none) ∙ e in cc))
      (λ (ne : parent c rules w r h n g members x db key ticket k ≢ 0).
      let p : ℕ = parent c rules w r h n g members x db key ticket k in
      let y = (best_is_copy p k.pulls db key (copies c rules w r h n g members x db key ticket k) ne all_in_order (λ y i b. told_is c rules w r h n g members x db key ticket k y ne i b) z e).row in
      let born : r.born p ≡ true = born_parent c rules w r h n g members x db key ticket k ne in
      let line = h.lines.line p born in
      let was = (replied c rules w r h n g members x db key ticket k y.pull y.among).some (λ e. ne (sym y.base ∙ e)) in
      let joined : (h.ages.worlds p db key).joined z.node ≡ true = line.joined db key z.node ∙ subst (λ (m : ℕ). (nat_eq p 1 || r.installed p m) ≡ true) y.node (subst (λ (b : ℕ). (nat_eq b 1 || r.installed b y.pull.node) ≡ true) y.base was.1) in
      copied_low z.row.rsn y.copy _ y.has y.rsn (line.low db key z.node joined))
      (cases_eq (parent c rules w r h n g members x db key ticket k) 0)

  row_low : (row : TableRow) → In row merged → nat_lt row.rsn (2 ^ 62) ≡ true
  row_low row i = go (best row_rank (rows_at row.db row.key k.pulls)) refl
    where
      seen : Some row ≡ option_map (λ (z : HeldRow). z.row) (best row_rank (rows_at row.db row.key k.pulls))
      seen = sym (own_row merged row merged_order i) ∙ merged_at row.db row.key

      go : (o : Option HeldRow) → best row_rank (rows_at row.db row.key k.pulls) ≡ o → nat_lt row.rsn (2 ^ 62) ≡ true
      go None e = absurd (let f : Some row ≡ None = seen ∙ ap (option_map (λ (z : HeldRow). z.row)) e in cc)
      go (Some z) e = (let f : Some row ≡ Some z.row = seen ∙ ap (option_map (λ (z : HeldRow). z.row)) e in let s : row ≡ z.row = cc in
          let l = kept_low row.db row.key z e in let t = ap (λ (y : TableRow). y.rsn) s in lt-ltb row.rsn (2 ^ 62) (omega arith))

  pub pushed_low : list_all (λ row. nat_lt row.rsn (2 ^ 62)) (body_of n members (finished x)).table ≡ true
  unfolding body_of
  pushed_low = mastered_low n merged (all_rows (λ row. nat_lt row.rsn (2 ^ 62)) merged row_low)

  pub pushed_order : ascends row_before (body_of n members (finished x)).table ≡ true
  unfolding body_of
  pushed_order = mastered_order n merged merged_order
