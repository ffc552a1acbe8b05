-- Once all members have replied, what is made of their replies is an heir of the greatest base.
use Rattle.std.proofs.Common.{◌≡◌, ◌≢◌, ◌⊎◌, ℕ, ◌<◌, ◌≤◌, Bool, true, false, cond, ◌&&◌, ◌||◌, ◌==◌, List, [], ◌∷◌, map, Option, Some, None, inl, inr, ⊎_elim, refl, sym, ap, ◌∙◌, subst, eqb-true, arith}
use Rattle.std.specs.Prelude.{nat_eq, nat_lt}
use Rattle.std.specs.List.{AllByRecursion, list_all, list_any}
use Rattle.std.specs.Option.{option_map}
use Rattle.std.proofs.lemmas.Bool.{and_parts, ne_eqb, cases_eq, eq-eqb, or_right}
use Rattle.ct_values.specs.declared.config.Config.{Config}
use Rattle.ct_frame.specs.Fields.{ascends, row_before}
use Rattle.ct_frame.specs.declared.frame.Frame.{Frame}
use Rattle.ct_frame.specs.declared.frame.Msg.TheVariants as msg
use Rattle.ct_frame.specs.declared.frame.TableRow.{TableRow}
use Rattle.ct_frame.specs.declared.header.RecCopy.{RecCopy}
use Rattle.ct_frame.specs.declared.round.Pull.{Pull}
use Rattle.ct_call.specs.Rules.{Rules}
use Rattle.ct_merge.specs.Gathered.{Gathered, finished}
use Rattle.ct_merge.specs.Held.{held_rows, rows_of, row_rank, is_row_at}
use Rattle.ct_merge.specs.Placing.{best}
use Rattle.ct_merge.specs.Rule.{told, vparent, rows_at, row_at}
use Rattle.ct_merge.specs.declared.held.HeldRow.{HeldRow}
use Rattle.ct_merge.proofs.Among.{In, in_of, in_filter, told_by}
use Rattle.ct_law_merge.proofs.Counting.{kept_row}
use Rattle.ct_rules.specs.State.{is_mastered}
use Rattle.ct_rules_node.specs.Node.{is_among}
use Rattle.ct_rules_node.specs.Rounds.{row_of, own_or_none, or_leader, mastered, body_of}
use Rattle.ct_rules_cluster.specs.Cluster.{Cluster, Sent, node_at}
use Rattle.ct_register.specs.Register.{Register, reading}
use Rattle.ct_register.specs.Births.{birth_list, taken_over}
use Rattle.ct_register.specs.Lines.{Lines}
use Rattle.ct_law_record.specs.World.{Scene, World}
use Rattle.ct_law_record.proofs.Invariant.{Ghost}
use Rattle.ct_law_record.proofs.Rule
use Rattle.ct_law_record.proofs.Worlds.{WorldInv, nodes_at}
use Rattle.ct_law_record.proofs.Law
use Rattle.ct_law_run.proofs.Lives.{Lives, ReplySays, Replied, IsTicket, IsGatheredOf}
use Rattle.ct_law_run.proofs.Merged.{rows_merged}
use Rattle.ct_law_run.proofs.Best.{best_is_copy, none_is_kept}
use Rattle.ct_law_run.proofs.Heirs.{Counted, SeenAtMost, some_counted, none_counted, taken_reading, taken_none}
use Rattle.ct_law_run.proofs.Faces.{Heir, AllHeirs}

-- ---- lists

frames_in : (P : Frame → Type 0) (ss : List Sent) (f : Frame) → AllByRecursion (λ s. P s.frame) ss → In f (map (λ s. s.frame) ss) → P f
frames_in P [] f h i = absurd i
frames_in P (s ∷ ss) f h (inl e) = subst P e h.0
frames_in P (s ∷ ss) f h (inr i) = frames_in P ss f h.1 i

pub all_true : (test : Pull → Bool) (ps : List Pull) → ((q : Pull) → In q ps → test q ≡ true) → list_all test ps ≡ true
all_true test [] h = refl
all_true test (p ∷ ps) h = rw (h p (inl refl)) (all_true test ps (λ q i. h q (inr i)))

-- the greatest base is that of some reply, unless it is 0
pub greatest_is : (ps : List Pull) → vparent ps ≢ 0 → (q : Pull) × In q ps × (q.vbase ≡ vparent ps)
greatest_is [] ne = absurd (ne refl)
greatest_is (p ∷ ps) ne =
    elim (nat_lt p.vbase (vparent ps)) as (λ b. nat_lt p.vbase (vparent ps) ≡ b → cond b (vparent ps) p.vbase ≢ 0 → (q : Pull) × In q (p ∷ ps) × (q.vbase ≡ cond b (vparent ps) p.vbase)) [
      | true ↦ λ e k. (let x = greatest_is ps k in (x.0, inr x.1, x.2))
      | false ↦ λ e k. (p, inl refl, refl)
    ] refl ne

-- no reply has a greater one
pub greatest_over : (ps : List Pull) (q : Pull) → In q ps → q.vbase ≤ vparent ps
greatest_over [] q i = absurd i
greatest_over (p ∷ ps) q (inl e) = (let s = ap (λ (x : Pull). x.vbase) e in grind (arith, s))
greatest_over (p ∷ ps) q (inr i) = (let l = greatest_over ps q i in grind (arith, l))

-- who told of the parent
abbrev pub tells : ℕ → List Pull → ℕ → Bool
tells p ps k = list_any (λ q. nat_eq q.node k && nat_eq q.vbase p) ps

told_it : (p : ℕ) (ps : List Pull) (k : ℕ) → tells p ps k ≡ true → (q : Pull) × In q ps × (q.node ≡ k) × (q.vbase ≡ p)
told_it p [] k e = absurd (cc)
told_it p (q ∷ qs) k e =
    elim (nat_eq q.node k && nat_eq q.vbase p) as (λ b. (nat_eq q.node k && nat_eq q.vbase p) ≡ b → (b || tells p qs k) ≡ true → (x : Pull) × In x (q ∷ qs) × (x.node ≡ k) × (x.vbase ≡ p)) [
      | true ↦ λ a f. (let z = and_parts (nat_eq q.node k) (nat_eq q.vbase p) a in (q, inl refl, eqb-true q.node k z.0, eqb-true q.vbase p z.1))
      | false ↦ λ a f. (let x = told_it p qs k f in (x.0, inr x.1, x.2, x.3))
    ] refl e

tells_it : (p : ℕ) (ps : List Pull) (q : Pull) → In q ps → q.vbase ≡ p → tells p ps q.node ≡ true
tells_it p [] q i e = absurd i
tells_it p (x ∷ xs) q (inl s) e = rw (eq-eqb x.node q.node (ap (λ (y : Pull). y.node) s), eq-eqb x.vbase p (ap (λ (y : Pull). y.vbase) s ∙ e)) refl
tells_it p (x ∷ xs) q (inr i) e = or_right (nat_eq x.node q.node && nat_eq x.vbase p) _ (tells_it p xs q i e)

-- ---- rows

mastered_row : (n db : ℕ) (key : List ℕ) (table : List TableRow) → row_at db key (map (mastered n) table) ≡ option_map (mastered n) (row_at db key table)
unfolding mastered
mastered_row n db key [] = refl
mastered_row n db key (row ∷ rows) =
    elim (is_row_at db key row) as (λ b. cond b (Some (mastered n row)) (row_at db key (map (mastered n) rows)) ≡ option_map (mastered n) (cond b (Some row) (row_at db key rows))) [ true ↦ refl | false ↦ mastered_row n db key rows ]

-- from base 0 there is no row
rows_zero : (q : Pull) → (q.vbase == 0) ≡ true → rows_of q ≡ []
rows_zero q e = ap (λ (b : Bool). cond b [] (held_rows q.node q.table)) e

none_told : (ps : List Pull) (h : HeldRow) → In h (told (λ q. q.vbase) rows_of 0 ps) → ⊥
none_told ps h i = (let t = told_by (λ q. q.vbase) rows_of 0 ps h i in subst (λ (hs : List HeldRow). In h hs) (rows_zero t.pull t.of_base) t.has)

pub none_among : (j : ℕ) → is_among j [] ≡ true → ⊥
unfolding is_among
none_among j e = absurd (cc)

-- ---- one record

-- the value of a row that is kept, and the empty one without a row
unfoldable pub value_in : Option HeldRow → List ℕ
value_in None = []
value_in (Some h) = h.row.value

seen_at_most : (c : Scene) (w : World) (r : Register) (g : Ghost) → WorldInv c w r g → SeenAtMost r
seen_at_most c w r g h = subst SeenAtMost h.register (λ n. (let a = (h.nodes n).seen in let b = h.all.within (Rule.rank (nodes_at c w n).copy) in omega arith))

module _ (c : Config) (rules : Rules) (w : Cluster) (r : Lines) (h : Lives c rules w r) (n g : ℕ) (members : List ℕ) (x : Gathered) (db : ℕ) (key : List ℕ)
    (ticket : IsTicket c r g n members) (k : IsGatheredOf w n g members [] x) where
  pub replied : (q : Pull) → In q k.pulls → Replied r h.ages g q.node q.vbase q.pbase q.table (node_at q.node w)
  unfolding ReplySays
  replied q i = frames_in (λ f. ReplySays r h.ages q.node (node_at q.node w) f f.msg) w.sent (record { generation = g; sender = q.node; receiver = n; msg = msg.PullReply q.vbase q.pbase q.table q.ptables q.addresses })
      (h.nodes q.node (ticket.there q.node (k.member q i))).replies (k.sent q i) refl

  pub in_order : list_all (λ q. ascends row_before q.table) k.pulls ≡ true
  in_order = all_true (λ q. ascends row_before q.table) k.pulls (λ q i. (replied q i).order)

  abbrev pub parent : ℕ
  parent = vparent k.pulls

  -- what is pushed of the record
  abbrev pub row : Option TableRow
  row = row_at db key (body_of n members (finished x)).table

  pub parent_is : (body_of n members (finished x)).vparent ≡ parent
  unfolding body_of
  parent_is = ap (λ (y : Gathered). (finished y).table.parent) k.same ∙ (rows_merged k.pulls in_order).0

  -- which is the best of what the members told, with a data master
  pub row_is : row ≡ option_map (mastered n) (option_map (λ z. z.row) (best row_rank (rows_at db key k.pulls)))
  unfolding body_of
  row_is = mastered_row n db key (finished x).table.table ∙ ap (option_map (mastered n)) (ap (λ (y : Gathered). row_at db key (finished y).table.table) k.same ∙ (rows_merged k.pulls in_order).2 db key)

  -- a member that is in the parent still has told of it
  pub told_there : (m : ℕ) → parent ≢ 0 → parent < g → is_among m members ≡ true → r.line m ≡ parent → tells parent k.pulls m ≡ true
  told_there m ne low among line = ⊎_elim
      (λ (e : is_among m [] ≡ true). absurd (none_among m e))
      (λ (z : (q : Pull) × In q k.pulls × (q.node ≡ m)).
      (let q = z.0 in
      let at = (replied q z.1).still in
      let base : r.line q.node ≡ q.vbase = at (λ o. ne (sym line ∙ ap r.line (sym z.2) ∙ o)) (let l = ap r.line z.2 ∙ line in omega arith) in
      subst (λ (j : ℕ). tells parent k.pulls j ≡ true) z.2 (tells_it parent k.pulls q z.1 (sym base ∙ ap r.line z.2 ∙ line))))
      (k.waits.met m among)

  -- the world of the record in the parent, where there is one
  abbrev pub world : World
  world = h.ages.worlds parent db key

  abbrev pub copies : ℕ → Option RecCopy
  copies m = (world.nodes m).state.copy

  pub told_is : (q : Pull) → parent ≢ 0 → In q k.pulls → q.vbase ≡ parent → row_at db key q.table ≡ row_of q.node db key (copies q.node)
  told_is q ne i e = subst (λ (b : ℕ). row_at db key q.table ≡ row_of q.node db key ((h.ages.worlds b db key).nodes q.node).state.copy) e (((replied q i).some (λ z. ne (sym e ∙ z))).2 db key)

  pub born_parent : parent ≢ 0 → r.born parent ≡ true
  born_parent ne = (let q = greatest_is k.pulls ne in subst (λ (b : ℕ). r.born b ≡ true) q.2 ((replied q.0 q.1).some (λ z. ne (sym q.2 ∙ z))).0)

  pub older : parent ≢ 0 → parent < g
  older ne = (let q = greatest_is k.pulls ne in subst (λ (b : ℕ). b < g) q.2 (replied q.0 q.1).older)

  abbrev register : Register
  register = r.records parent db key

  -- so many versions are taken over
  counted : parent ≢ 0 → (o : Option HeldRow) → best row_rank (rows_at db key k.pulls) ≡ o → Counted register (tells parent k.pulls) (value_in o)
  unfolding value_in
  counted ne None e =
      let inv = (h.lines.line parent (born_parent ne)).world db key in
      none_counted world register (tells parent k.pulls) (seen_at_most _ world register _ inv) (Law.kept_all _ world register _ inv)
      (λ m t. (let q = told_it parent k.pulls m t in subst (λ (j : ℕ). copies j ≡ None) q.2 (none_is_kept parent k.pulls db key copies ne in_order (λ y i b. told_is y ne i b) e q.0 q.1 q.3)))
  counted ne (Some z) e =
      let inv = (h.lines.line parent (born_parent ne)).world db key in
      let y = best_is_copy parent k.pulls db key copies ne in_order (λ y i b. told_is y ne i b) z e in
      subst (λ (v : List ℕ). Counted register (tells parent k.pulls) v) (sym y.row.value)
      (some_counted world register (tells parent k.pulls) z.node y.row.copy (Law.kept_all _ world register _ inv) y.row.has
      (λ m d t has. (let q = told_it parent k.pulls m t in y.most q.0 d q.1 q.3 (ap copies q.2 ∙ has))))

  -- ---- it is an heir

  birth_there : (count : ℕ) → parent ≢ 0 → birth_list r parent (λ d j. count) db key ≡ taken_over count register.versions
  unfolding birth_list
  birth_there count ne = rw (ne_eqb parent 0 ne) refl

  birth_none : (count : ℕ) → parent ≡ 0 → birth_list r parent (λ d j. count) db key ≡ []
  unfolding birth_list
  birth_none count e = rw (eq-eqb parent 0 e) refl

  pub no_row : parent ≡ 0 → best row_rank (rows_at db key k.pulls) ≡ None
  no_row e = go (best row_rank (rows_at db key k.pulls)) refl
    where
      go : (o : Option HeldRow) → best row_rank (rows_at db key k.pulls) ≡ o → o ≡ None
      go None f = refl
      go (Some z) f = absurd (let i = in_of (rows_at db key k.pulls) z (kept_row (rows_at db key k.pulls) z f).0 in
          none_told k.pulls z (subst (λ (b : ℕ). In z (told (λ q. q.vbase) rows_of b k.pulls)) e (in_filter (λ y. is_row_at db key y.row) (told (λ q. q.vbase) rows_of parent k.pulls) z i).0))

  row_none : best row_rank (rows_at db key k.pulls) ≡ None → row ≡ None
  row_none e = row_is ∙ ap (λ (o : Option HeldRow). option_map (mastered n) (option_map (λ z. z.row) o)) e

  row_some : (z : HeldRow) → best row_rank (rows_at db key k.pulls) ≡ Some z → row ≡ Some (mastered n z.row)
  row_some z e = row_is ∙ ap (λ (o : Option HeldRow). option_map (mastered n) (option_map (λ z. z.row) o)) e

  -- the data master of a row is a member
  has_master : (z : HeldRow) → parent ≢ 0 → best row_rank (rows_at db key k.pulls) ≡ Some z → (m : ℕ) × ((mastered n z.row).master ≡ Some m) × (is_among m members ≡ true)
  unfolding mastered or_leader own_or_none
  has_master z ne e =
      let y = (best_is_copy parent k.pulls db key copies ne in_order (λ y i b. told_is y ne i b) z e).row in
      subst (λ (o : Option ℕ). (m : ℕ) × (or_leader n o ≡ Some m) × (is_among m members ≡ true)) (sym y.master)
      (elim (is_mastered z.node (Some y.copy)) as (λ b. (m : ℕ) × (or_leader n (own_or_none z.node b) ≡ Some m) × (is_among m members ≡ true)) [
        | true ↦ (z.node, refl, subst (λ (j : ℕ). is_among j members ≡ true) y.node (k.member y.pull y.among))
        | false ↦ (n, refl, ticket.own)
      ])

  some_row : (a b : TableRow) → Some a ≡ Some b → a ≡ b
  some_row a b e = cc

  heir_there : (ne : parent ≢ 0) (o : Option HeldRow) → best row_rank (rows_at db key k.pulls) ≡ o → Heir r parent members db key row
  unfolding value_in mastered
  heir_there ne None e =
      let q = counted ne None e in record {
        count = q.count;
        within = λ _. q.within;
        seen = λ m _ among line. q.seen m (told_there m ne (older ne) among line);
        none = λ _. birth_there q.count ne ∙ taken_none q.count register.versions q.value;
        value = λ y is. absurd (let f = sym (row_none e) ∙ is in cc);
        mastered = λ y is. absurd (let f = sym (row_none e) ∙ is in cc);
      }
  heir_there ne (Some z) e =
      let q = counted ne (Some z) e in record {
        count = q.count;
        within = λ _. q.within;
        seen = λ m _ among line. q.seen m (told_there m ne (older ne) among line);
        none = λ is. absurd (let f = sym (row_some z e) ∙ is in cc);
        value = λ y is. (let f = some_row (mastered n z.row) y (sym (row_some z e) ∙ is) in
            sym (ap (λ (a : TableRow). a.value) f) ∙ sym q.value ∙ sym (ap reading (birth_there q.count ne) ∙ taken_reading q.count register.versions));
        mastered = λ y is. (let f = some_row (mastered n z.row) y (sym (row_some z e) ∙ is) in
            subst (λ (a : TableRow). (m : ℕ) × (a.master ≡ Some m) × (is_among m members ≡ true)) f (has_master z ne e));
      }

  heir_none : parent ≡ 0 → Heir r parent members db key row
  heir_none e = record {
    count = 0;
    within = λ ne. absurd (ne e);
    seen = λ m ne. absurd (ne e);
    none = λ _. birth_none 0 e;
    value = λ y is. absurd (let f = sym (row_none (no_row e)) ∙ is in cc);
    mastered = λ y is. absurd (let f = sym (row_none (no_row e)) ∙ is in cc);
  }

  pub heir : Heir r (body_of n members (finished x)).vparent members db key row
  heir = subst (λ (p : ℕ). Heir r p members db key row) (sym parent_is) (⊎_elim
      (λ (e : parent ≡ 0). heir_none e)
      (λ (ne : parent ≢ 0). heir_there ne (best row_rank (rows_at db key k.pulls)) refl)
      (cases_eq parent 0))

pub all_heirs : AllHeirs
all_heirs c rules w r h n g members x db key ticket unborn k = heir c rules w r h n g members x db key ticket k
