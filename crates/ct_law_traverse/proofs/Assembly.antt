-- Of each key, what a traverse keeps once all members have answered both passes was read.
use Rattle.std.proofs.Common.{◌≡◌, ◌≢◌, ℕ, ◌+◌, ◌<◌, ◌≤◌, Bool, true, false, ◌||◌, List, [], ◌∷◌, ◌++◌, length, Option, None, Some, refl, sym, ap, ◌∙◌, subst, arith, inl, inr, ⊎_elim}
use Rattle.std.specs.Prelude.{◌⊎◌}
use Rattle.std.specs.List.{AllByRecursion, list_any}
use Rattle.std.proofs.lemmas.Bool.{cases_Bool, or_cases}
use Rattle.std.proofs.lemmas.List.{nil_from_length}
use Rattle.std.proofs.lemmas.List.Folds.{list_any-append}
use Rattle.ct_frame.specs.declared.frame.TableRow.{TableRow}
use Rattle.ct_frame.specs.declared.header.RecCopy.{RecCopy}
use Rattle.ct_rules.specs.declared.state.Entry.{Entry}
use Rattle.ct_rules_node.specs.Node.{is_among, master_of}
use Rattle.ct_rules_node.specs.Rounds.{row_of}
use Rattle.ct_register.specs.Lines.{Lines}
use Rattle.ct_register.specs.Register.{reading}
use Rattle.ct_register.specs.Marks.{Mark, Site, Marks, AreMarks, EndsAt, IsEntryAt, IsCopyAt}
use Rattle.ct_promise.specs.Marked.{AllMarks}
use Rattle.ct_node_view.specs.Had.{entry_row}
use Rattle.ct_law_readings.specs.Fresh.{Moment, IsMarked}
use Rattle.ct_law_readings.specs.Greatest.{Later, ComesOn, end_of, Showed, HadCopy, IsSeenAt, IsSeen, IsLookedFor}
use Rattle.ct_law_readings.specs.Moments.{moment_of}
use Rattle.ct_law_readings.proofs.Greatest.{greatest_copy_was_read, greatest_entry_was_read}
use Rattle.ct_traverse_parts.specs.Kept.{Batch, rows_for, all_for, IsSameRow, IsAmong, IsBestOf, IsKeptOf, IsAboveAll}
use Rattle.ct_traverse_parts.specs.Rows.{one_row}
use Rattle.ct_traverse_parts.specs.declared.best.Best.{Best}
use Rattle.ct_traverse_parts.specs.declared.line.Pass.{Pass}
use Rattle.ct_traverse_parts.specs.declared.line.Pass.TheVariants.{Copies, Entries}
use Rattle.ct_traverse_parts.proofs.Keeping.{entry_is_above}
use Rattle.ct_law_traverse.proofs.History.{Stage, last_lines, last_marks, later_in, later_more, end_is, Comes, comes_front, AtSome, showed_front, showed_last}
use Rattle.ct_law_traverse.proofs.Sights.{SawCopy, SawEntry, CopySight, EntrySight}

-- ---- rows of several members

-- all rows of these
unfoldable pub HasOf : ℕ → List Batch → Type 0
HasOf n [] = ⊥
HasOf n (b ∷ bs) = (b.node ≡ n) ⊎ HasOf n bs

all_both : (P : Best → Type 0) (xs ys : List Best) → AllByRecursion P xs → AllByRecursion P ys → AllByRecursion P (xs ++ ys)
all_both P [] ys h k = k
all_both P (x ∷ xs) ys h k = (h.0, all_both P xs ys h.1 k)

all_first : (P : Best → Type 0) (xs ys : List Best) → AllByRecursion P (xs ++ ys) → AllByRecursion P xs
all_first P [] ys h = tt
all_first P (x ∷ xs) ys h = (h.0, all_first P xs ys h.1)

all_last : (P : Best → Type 0) (xs ys : List Best) → AllByRecursion P (xs ++ ys) → AllByRecursion P ys
all_last P [] ys h = h
all_last P (x ∷ xs) ys h = all_last P xs ys h.1

all_so : (P Q : Best → Type 0) → ((x : Best) → P x → Q x) → (xs : List Best) → AllByRecursion P xs → AllByRecursion Q xs
all_so P Q f [] h = tt
all_so P Q f (x ∷ xs) h = (f x h.0, all_so P Q f xs h.1)

all_for_both : (key : List ℕ) (bs cs : List Batch) → all_for key (bs ++ cs) ≡ all_for key bs ++ all_for key cs
unfolding all_for
all_for_both key [] cs = refl
all_for_both key (b ∷ bs) cs = ap (λ (l : List Best). rows_for key b.pass b.node b.rows ++ l) (all_for_both key bs cs) ∙ joined (rows_for key b.pass b.node b.rows) (all_for key bs) (all_for key cs)
  where
    joined : (xs ys zs : List Best) → xs ++ (ys ++ zs) ≡ (xs ++ ys) ++ zs
    joined [] ys zs = refl
    joined (x ∷ xs) ys zs = ap (λ (l : List Best). x ∷ l) (joined xs ys zs)

-- one that it is the same row as
same_row : (P : Best → Type 0) (best : Best) (xs : List Best) → AllByRecursion P xs → IsAmong best xs → (x : Best) × P x × IsSameRow best x
unfolding IsAmong
same_row P best [] h a = absurd a
same_row P best (x ∷ xs) h a = ⊎_elim (λ (same : IsSameRow best x). (x, h.0, same)) (λ (rest : IsAmong best xs). same_row P best xs h.1 rest) a

-- one of an entry
entry_row_in : (P : Best → Type 0) (xs : List Best) → AllByRecursion P xs → list_any (λ (x : Best). x.of_entry) xs ≡ true → (x : Best) × P x × (x.of_entry ≡ true)
entry_row_in P [] h e = absurd (cc)
entry_row_in P (x ∷ xs) h e = ⊎_elim
    (λ (here : x.of_entry ≡ true). (x, h.0, here))
    (λ (rest : list_any (λ (y : Best). y.of_entry) xs ≡ true). entry_row_in P xs h.1 rest)
    (or_cases x.of_entry (list_any (λ (y : Best). y.of_entry) xs) e)

-- no row is above
abbrev Below : Best → Best → Type 0
Below best x = (x.rsn ≤ best.rsn) × (best.of_entry ≡ true → x.of_entry ≡ false → x.rsn < best.rsn)

above_each : (best : Best) (xs : List Best) → IsAboveAll best xs → AllByRecursion (Below best) xs
unfolding IsAboveAll
above_each best [] h = tt
above_each best (x ∷ xs) h = ((h.0, h.1), above_each best xs h.2)

all_paired : (P Q : Best → Type 0) (xs : List Best) → AllByRecursion P xs → AllByRecursion Q xs → AllByRecursion (λ x. P x × Q x) xs
all_paired P Q [] h k = tt
all_paired P Q (x ∷ xs) h k = ((h.0, k.0), all_paired P Q xs h.1 k.1)

-- without marks nothing is read
unmarked : (m : Moment) → IsMarked m → m.marks.marks ≡ [] → reading m.versions ≡ []
unfolding EndsAt reading
unmarked m h e = ap (λ (vs : List (List ℕ)). reading vs) (nil_from_length m.versions (subst (λ (ms : List Mark). EndsAt (length m.versions) ms) e h.ends))

-- ---- what was seen

-- rows of copies, each read at some of these moments
abbrev pub CopiesSeen : (g db : ℕ) → Lines → AllMarks → List Stage → List Batch → Type 0
CopiesSeen g db r marks ss copies = AllByRecursion (λ b. (b.pass ≡ Copies) × AtSome (CopySight g db b.node b.rows) r marks ss) copies

-- rows of entries, read behind some step up to which the rows of copies were read
pub record EntrySeen (g db : ℕ) (members : List ℕ) (r : Lines) (marks : AllMarks) (ss : List Stage) (copies : List Batch) (n : ℕ) (rows : List TableRow) : Type 0 where
  pub early : List Stage
  pub late : List Stage
  pub parts : ss ≡ early ++ late
  pub seen : CopiesSeen g db r marks early copies
  pub sight : EntrySight g db n members rows (last_lines r early) (last_marks marks early)

abbrev pub EntriesSeen : (g db : ℕ) → List ℕ → Lines → AllMarks → List Stage → List Batch → List Batch → Type 0
EntriesSeen g db members r marks ss copies entries = AllByRecursion (λ b. (b.pass ≡ Entries) × EntrySeen g db members r marks ss copies b.node b.rows) entries

-- a site at no member is above all marks
abbrev pub IsAway : ℕ → ℕ → List ℕ → AllMarks → Type 0
IsAway g db members marks = (key : List ℕ) (x : Site) → (marks g db key).site ≡ Some x → is_among x.holder members ≡ false → (marks g db key).low ≤ x.least

module _ (g db : ℕ) (members : List ℕ) (r : Lines) (marks : AllMarks) (key : List ℕ) where
  -- ---- copies

  -- a row of a copy that there was at some moment
  abbrev FromCopy : List Stage → Best → Type 0
  FromCopy ss x = (x.of_entry ≡ false) × HadCopy x.rsn x.value (moment_of r marks g db key) (later_in g db key ss)

  -- what a sight of a copy tells of its row
  sight_had : (n : ℕ) (o : Option RecCopy) (q : Lines) (ms : AllMarks) (ss : List Stage) → SawCopy n o (moment_of q ms g db key) → AllByRecursion (λ x. (x.of_entry ≡ false) × HadCopy x.rsn x.value (moment_of q ms g db key) (later_in g db key ss)) (one_row Copies n (row_of n db key o))
  unfolding one_row row_of HadCopy later_in
  sight_had n None q ms ss s = tt
  sight_had n (Some c) q ms ss s = ((refl, at_once ss (s.copy c refl)), tt)
    where
      at_once : (ss : List Stage) → IsCopyAt (ms g db key).marks (q.records g db key).versions c.header.rsn c.value → HadCopy c.header.rsn c.value (moment_of q ms g db key) (later_in g db key ss)
      at_once [] h = h
      at_once (t ∷ ts) h = inl h

  later_had : (q : Lines) (ms : AllMarks) (s : Stage) (ss : List Stage) (xs : List Best) → AllByRecursion (λ x. (x.of_entry ≡ false) × HadCopy x.rsn x.value (moment_of s.lines s.marks g db key) (later_in g db key ss)) xs →
      AllByRecursion (λ x. (x.of_entry ≡ false) × HadCopy x.rsn x.value (moment_of q ms g db key) (later_in g db key (s ∷ ss))) xs
  unfolding HadCopy later_in
  later_had q ms s ss [] h = tt
  later_had q ms s ss (x ∷ xs) h = ((h.0.0, inr h.0.1), later_had q ms s ss xs h.1)

  some_had : (n : ℕ) (rows : List TableRow) (q : Lines) (ms : AllMarks) (ss : List Stage) → AtSome (CopySight g db n rows) q ms ss → AllByRecursion (λ x. (x.of_entry ≡ false) × HadCopy x.rsn x.value (moment_of q ms g db key) (later_in g db key ss)) (rows_for key Copies n rows)
  unfolding AtSome
  some_had n rows q ms [] h = (let k = h key in subst (λ (l : List Best). AllByRecursion (λ x. (x.of_entry ≡ false) × HadCopy x.rsn x.value (moment_of q ms g db key) (later_in g db key [])) l) (sym k.1) (sight_had n k.0 q ms [] k.2))
  some_had n rows q ms (s ∷ ss) h = ⊎_elim
      (λ (here : CopySight g db n rows q ms). (let k = here key in subst (λ (l : List Best). AllByRecursion (λ x. (x.of_entry ≡ false) × HadCopy x.rsn x.value (moment_of q ms g db key) (later_in g db key (s ∷ ss))) l) (sym k.1) (sight_had n k.0 q ms (s ∷ ss) k.2)))
      (λ (later : AtSome (CopySight g db n rows) s.lines s.marks ss). later_had q ms s ss (rows_for key Copies n rows) (some_had n rows s.lines s.marks ss later))
      h

  copies_had : (ss : List Stage) (copies : List Batch) → CopiesSeen g db r marks ss copies → AllByRecursion (FromCopy ss) (all_for key copies)
  unfolding all_for
  copies_had ss [] h = tt
  copies_had ss (b ∷ bs) h = all_both (FromCopy ss) (rows_for key b.pass b.node b.rows) (all_for key bs)
      (subst (λ (p : Pass). AllByRecursion (FromCopy ss) (rows_for key p b.node b.rows)) (sym h.0.0) (some_had b.node b.rows r marks ss h.0.1)) (copies_had ss bs h.1)

  -- ---- where the record was

  row_low : (n high : ℕ) (o : Option RecCopy) (c : RecCopy) → o ≡ Some c → AllByRecursion (λ (x : Best). x.rsn < high) (one_row Copies n (row_of n db key o)) → c.header.rsn < high
  unfolding one_row row_of
  row_low n high None c e h = absurd (cc)
  row_low n high (Some d) c e h = subst (λ (x : RecCopy). x.header.rsn < high) (let same : d ≡ c = cc in same) h.0

  sight_seen : (n high : ℕ) (x : Site) (o : Option RecCopy) (m : Moment) → n ≡ x.holder → SawCopy n o m → AllByRecursion (λ (y : Best). y.rsn < high) (one_row Copies n (row_of n db key o)) → IsSeenAt x high m
  sight_seen n high x o m is s low z site holder = ⊎_elim
      (λ (le : m.marks.low ≤ z.least). inl le)
      (λ (f : (c : RecCopy) × (o ≡ Some c) × (c.header.rsn + 1 ≡ m.marks.low)). inr (f.0.header.rsn, row_low n high o f.0 f.1 low, f.2))
      (s.found z site (holder ∙ sym is))

  some_seen : (n high : ℕ) (x : Site) (rows : List TableRow) (q : Lines) (ms : AllMarks) (ss : List Stage) → n ≡ x.holder → AtSome (CopySight g db n rows) q ms ss → AllByRecursion (λ (y : Best). y.rsn < high) (rows_for key Copies n rows) →
      IsSeen x high (moment_of q ms g db key) (later_in g db key ss)
  unfolding AtSome IsSeen later_in
  some_seen n high x rows q ms [] is h low = (let k = h key in sight_seen n high x k.0 (moment_of q ms g db key) is k.2 (subst (λ (l : List Best). AllByRecursion (λ (y : Best). y.rsn < high) l) k.1 low))
  some_seen n high x rows q ms (s ∷ ss) is h low = ⊎_elim
      (λ (here : CopySight g db n rows q ms). inl (let k = here key in sight_seen n high x k.0 (moment_of q ms g db key) is k.2 (subst (λ (l : List Best). AllByRecursion (λ (y : Best). y.rsn < high) l) k.1 low)))
      (λ (later : AtSome (CopySight g db n rows) s.lines s.marks ss). inr (some_seen n high x rows s.lines s.marks ss is later low))
      h

  copies_seen : (high : ℕ) (x : Site) (ss : List Stage) (copies : List Batch) → HasOf x.holder copies → CopiesSeen g db r marks ss copies → AllByRecursion (λ (y : Best). y.rsn < high) (all_for key copies) →
      IsSeen x high (moment_of r marks g db key) (later_in g db key ss)
  unfolding HasOf all_for
  copies_seen high x ss [] has h low = absurd has
  copies_seen high x ss (b ∷ bs) has h low = ⊎_elim
      (λ (is : b.node ≡ x.holder). some_seen b.node high x b.rows r marks ss is h.0.1
      (subst (λ (p : Pass). AllByRecursion (λ (y : Best). y.rsn < high) (rows_for key p b.node b.rows)) h.0.0 (all_first (λ (y : Best). y.rsn < high) (rows_for key b.pass b.node b.rows) (all_for key bs) low)))
      (λ (rest : HasOf x.holder bs). copies_seen high x ss bs rest h.1 (all_last (λ (y : Best). y.rsn < high) (rows_for key b.pass b.node b.rows) (all_for key bs) low))
      has

  looked_for : (high : ℕ) (ss : List Stage) (copies : List Batch) → IsAway g db members marks → ((n : ℕ) → is_among n members ≡ true → HasOf n copies) → CopiesSeen g db r marks ss copies → AllByRecursion (λ (y : Best). y.rsn < high) (all_for key copies) →
      IsLookedFor high (moment_of r marks g db key) (later_in g db key ss)
  looked_for high ss copies away has h low x is = ⊎_elim
      (λ (member : is_among x.holder members ≡ true). inr (copies_seen high x ss copies (has x.holder member) h low))
      (λ (other : is_among x.holder members ≡ false). inl (away key x is other))
      (cases_Bool (is_among x.holder members))

  -- ---- entries

  -- a row of an entry, at a moment up to which all rows of copies were read
  record FromEntry (ss : List Stage) (copies : List Batch) (x : Best) : Type 0 where
    early : List Stage
    late : List Stage
    parts : ss ≡ early ++ late
    seen : CopiesSeen g db r marks early copies
    of_entry : x.of_entry ≡ true
    holder : ℕ
    entry : IsEntryAt (last_marks marks early g db key).marks ((last_lines r early).records g db key).versions x.rsn x.value
    site : (last_marks marks early g db key).site ≡ Some (record { holder = holder; least = x.rsn })

  entry_from : (ss : List Stage) (copies : List Batch) (n : ℕ) (rows : List TableRow) (s : EntrySeen g db members r marks ss copies n rows) (o : Option Entry) → SawEntry n (master_of members key) o (moment_of (last_lines r s.early) (last_marks marks s.early) g db key) →
      AllByRecursion (FromEntry ss copies) (one_row Entries n (entry_row db key o))
  unfolding one_row
  entry_from ss copies n rows s None saw = tt
  entry_from ss copies n rows s (Some e) saw = (
    record { early = s.early; late = s.late; parts = s.parts; seen = s.seen; of_entry = refl; holder = e.holder; entry = saw.entry e refl; site = saw.site e refl },
    tt,
  )

  entries_from : (ss : List Stage) (copies entries : List Batch) → EntriesSeen g db members r marks ss copies entries → AllByRecursion (FromEntry ss copies) (all_for key entries)
  unfolding all_for
  entries_from ss copies [] h = tt
  entries_from ss copies (b ∷ bs) h = all_both (FromEntry ss copies) (rows_for key b.pass b.node b.rows) (all_for key bs)
      (subst (λ (p : Pass). AllByRecursion (FromEntry ss copies) (rows_for key p b.node b.rows)) (sym h.0.0)
      (let s = h.0.1 in let k = s.sight key in subst (λ (l : List Best). AllByRecursion (FromEntry ss copies) l) (sym k.1) (entry_from ss copies b.node b.rows s k.0 k.2)))
      (entries_from ss copies bs h.1)

  -- ---- nothing is kept of an entry

  showed_early : (value : List ℕ) (ss early late : List Stage) → ss ≡ early ++ late → Showed value (moment_of r marks g db key) (later_in g db key early) → Showed value (moment_of r marks g db key) (later_in g db key ss)
  showed_early value ss early late parts h = subst (λ (l : List Later). Showed value (moment_of r marks g db key) l) (sym (ap (λ (l : List Stage). later_in g db key l) parts ∙ later_more g db key early late))
      (showed_front value (moment_of r marks g db key) (later_in g db key early) (later_in g db key late) h)

  marked_last : (m : Moment) (ns : List Later) → IsMarked m → ComesOn m ns → IsMarked (end_of m ns)
  unfolding ComesOn end_of
  marked_last m [] is c = is
  marked_last m (n ∷ ns) is c = marked_last n.moment ns c.2 c.3

  none_shown : (ss : List Stage) (copies : List Batch) (n : ℕ) (rows : List TableRow) (s : EntrySeen g db members r marks ss copies n rows) (o : Option Entry) → SawEntry n (master_of members key) o (moment_of (last_lines r s.early) (last_marks marks s.early) g db key) →
      IsMarked (moment_of r marks g db key) → Comes g db key r marks ss → n ≡ master_of members key → list_any (λ (x : Best). x.of_entry) (one_row Entries n (entry_row db key o)) ≡ false → Showed [] (moment_of r marks g db key) (later_in g db key ss)
  unfolding one_row
  none_shown ss copies n rows s (Some e) saw is c own none = absurd (cc)
  none_shown ss copies n rows s None saw is c own none = showed_early [] ss s.early s.late s.parts
      (showed_last [] (moment_of r marks g db key) (later_in g db key s.early)
      (let last = end_is g db key r marks s.early in
      unmarked (end_of (moment_of r marks g db key) (later_in g db key s.early))
      (marked_last (moment_of r marks g db key) (later_in g db key s.early) is (comes_front g db key r marks s.early s.late (subst (λ (l : List Stage). Comes g db key r marks l) s.parts c)))
      (ap (λ (m : Moment). m.marks.marks) last ∙ saw.none refl own)))

  any_first : (xs ys : List Best) → list_any (λ (x : Best). x.of_entry) (xs ++ ys) ≡ false → list_any (λ (x : Best). x.of_entry) xs ≡ false
  any_first xs ys e = ⊎_elim
      (λ (t : list_any (λ (x : Best). x.of_entry) xs ≡ true). absurd (let a = list_any-append (λ (x : Best). x.of_entry) xs ys in let b = ap (λ (b : Bool). b || list_any (λ (x : Best). x.of_entry) ys) t in let f : true ≡ false = sym b ∙ sym a ∙ e in cc))
      (λ (f : list_any (λ (x : Best). x.of_entry) xs ≡ false). f)
      (cases_Bool (list_any (λ (x : Best). x.of_entry) xs))

  any_last : (xs ys : List Best) → list_any (λ (x : Best). x.of_entry) (xs ++ ys) ≡ false → list_any (λ (x : Best). x.of_entry) ys ≡ false
  any_last [] ys e = e
  any_last (x ∷ xs) ys e = any_last xs ys (⊎_elim
      (λ (t : list_any (λ (y : Best). y.of_entry) (xs ++ ys) ≡ true). absurd (let f : (x.of_entry || true) ≡ false = sym (ap (λ (b : Bool). x.of_entry || b) t) ∙ e in true_or x.of_entry f))
      (λ (f : list_any (λ (y : Best). y.of_entry) (xs ++ ys) ≡ false). f)
      (cases_Bool (list_any (λ (y : Best). y.of_entry) (xs ++ ys))))
    where
      true_or : (b : Bool) → (b || true) ≡ false → ⊥
      true_or true e = absurd (cc)
      true_or false e = absurd (cc)

  -- no entry came, so the master had none
  no_entry : (ss : List Stage) (copies entries : List Batch) → IsMarked (moment_of r marks g db key) → Comes g db key r marks ss → HasOf (master_of members key) entries → EntriesSeen g db members r marks ss copies entries →
      list_any (λ (x : Best). x.of_entry) (all_for key entries) ≡ false → Showed [] (moment_of r marks g db key) (later_in g db key ss)
  unfolding HasOf all_for
  no_entry ss copies [] is c has h none = absurd has
  no_entry ss copies (b ∷ bs) is c has h none = ⊎_elim
      (λ (own : b.node ≡ master_of members key). (let s = h.0.1 in let k = s.sight key in
      none_shown ss copies b.node b.rows s k.0 k.2 is c own
      (ap (λ (l : List Best). list_any (λ (x : Best). x.of_entry) l) (sym k.1) ∙ ap (λ (p : Pass). list_any (λ (x : Best). x.of_entry) (rows_for key p b.node b.rows)) (sym h.0.0) ∙ any_first (rows_for key b.pass b.node b.rows) (all_for key bs) none)))
      (λ (rest : HasOf (master_of members key) bs). no_entry ss copies bs is c rest h.1 (any_last (rows_for key b.pass b.node b.rows) (all_for key bs) none))
      has

  -- ---- the kept row

  -- all members have answered both passes
  pub record Answered (ss : List Stage) (copies entries : List Batch) : Type 0 where
    pub away : IsAway g db members marks
    pub marked : IsMarked (moment_of r marks g db key)
    pub comes : Comes g db key r marks ss
    pub master : is_among (master_of members key) members ≡ true
    pub all_copies : (n : ℕ) → is_among n members ≡ true → HasOf n copies
    pub all_entries : (n : ℕ) → is_among n members ≡ true → HasOf n entries
    pub seen_copies : CopiesSeen g db r marks ss copies
    pub seen_entries : EntriesSeen g db members r marks ss copies entries

  copy_kept : (ss : List Stage) (copies entries : List Batch) (best y x : Best) → Answered ss copies entries → (f : FromEntry ss copies y) → AllByRecursion (Below best) (all_for key copies) → y.rsn ≤ best.rsn → IsSameRow best x → FromCopy f.early x →
      Showed best.value (moment_of r marks g db key) (later_in g db key ss)
  copy_kept ss copies entries best y x a f low le same from = showed_early best.value ss f.early f.late f.parts
      (let m = moment_of r marks g db key in let ns = later_in g db key f.early in let last = end_is g db key r marks f.early in
      greatest_copy_was_read m ns (record { holder = f.holder; least = y.rsn }) best.rsn best.value a.marked
      (comes_front g db key r marks f.early f.late (subst (λ (l : List Stage). Comes g db key r marks l) f.parts a.comes))
      (ap (λ (e : Moment). e.marks.site) last ∙ f.site)
      (looked_for (best.rsn + 1) f.early copies a.away a.all_copies f.seen (all_so (Below best) (λ (z : Best). z.rsn < best.rsn + 1) (λ z b. (let u = b.0 in omega arith)) (all_for key copies) low))
      le
      (subst (λ (v : List ℕ). HadCopy best.rsn v m ns) (sym same.3) (subst (λ (k : ℕ). HadCopy k x.value m ns) (sym same.0) from.1)))

  entry_kept : (ss : List Stage) (copies entries : List Batch) (best x : Best) → Answered ss copies entries → FromEntry ss copies x → AllByRecursion (λ (z : Best). z.rsn < x.rsn) (all_for key copies) → IsSameRow best x →
      Showed best.value (moment_of r marks g db key) (later_in g db key ss)
  entry_kept ss copies entries best x a f low same = subst (λ (v : List ℕ). Showed v (moment_of r marks g db key) (later_in g db key ss)) (sym same.3) (showed_early x.value ss f.early f.late f.parts
      (let m = moment_of r marks g db key in let ns = later_in g db key f.early in let last = end_is g db key r marks f.early in
      greatest_entry_was_read m ns (record { holder = f.holder; least = x.rsn }) x.value a.marked
      (comes_front g db key r marks f.early f.late (subst (λ (l : List Stage). Comes g db key r marks l) f.parts a.comes))
      (ap (λ (e : Moment). e.marks.site) last ∙ f.site)
      (looked_for x.rsn f.early copies a.away a.all_copies f.seen low)
      (subst (λ (e : Moment). IsEntryAt e.marks.marks e.versions x.rsn x.value) (sym last) f.entry)))

  entry_came : (ss : List Stage) (copies entries : List Batch) (best : Best) → Answered ss copies entries → IsBestOf best (all_for key (copies ++ entries)) → best.has_entry ≡ true → Showed best.value (moment_of r marks g db key) (later_in g db key ss)
  entry_came ss copies entries best a g0 came =
      let cs = all_for key copies in let es = all_for key entries in
      let both : all_for key (copies ++ entries) ≡ cs ++ es = all_for_both key copies entries in
      let low : AllByRecursion (Below best) (cs ++ es) = subst (λ (l : List Best). AllByRecursion (Below best) l) both (above_each best (all_for key (copies ++ entries)) (entry_is_above best (all_for key (copies ++ entries)) g0)) in
      let low_copies : AllByRecursion (Below best) cs = all_first (Below best) cs es low in
      let from : AllByRecursion (FromEntry ss copies) es = entries_from ss copies entries a.seen_entries in
      let had : AllByRecursion (FromCopy ss) cs = copies_had ss copies a.seen_copies in
      let among : IsAmong best (cs ++ es) = subst (λ (l : List Best). IsAmong best l) both g0.among in
      let any : list_any (λ (x : Best). x.of_entry) (cs ++ es) ≡ true = ap (λ (l : List Best). list_any (λ (x : Best). x.of_entry) l) (sym both) ∙ sym g0.entry ∙ came in
      let some = entry_row_in (λ (x : Best). Below best x × FromEntry ss copies x) es (all_paired (Below best) (FromEntry ss copies) es (all_last (Below best) cs es low) from) (some_entry cs es had any) in
      ⊎_elim
      (λ (t : best.of_entry ≡ true).
      let x = same_row (λ (y : Best). (y.of_entry ≡ false) ⊎ FromEntry ss copies y) best (cs ++ es)
      (all_both (λ (y : Best). (y.of_entry ≡ false) ⊎ FromEntry ss copies y) cs es (all_so (FromCopy ss) (λ (y : Best). (y.of_entry ≡ false) ⊎ FromEntry ss copies y) (λ y h. inl h.0) cs had) (all_so (FromEntry ss copies) (λ (y : Best). (y.of_entry ≡ false) ⊎ FromEntry ss copies y) (λ y h. inr h) es from)) among in
      ⊎_elim
      (λ (f : x.0.of_entry ≡ false). absurd (let u = x.2.1 in let v : true ≡ false = sym t ∙ u ∙ f in cc))
      (λ (f : FromEntry ss copies x.0). entry_kept ss copies entries best x.0 a f (all_so (λ (y : Best). Below best y × FromCopy ss y) (λ (z : Best). z.rsn < x.0.rsn) (λ z h. subst (λ (k : ℕ). z.rsn < k) x.2.0 (h.0.1 t h.1.0)) cs (all_paired (Below best) (FromCopy ss) cs low_copies had)) x.2)
      x.1)
      (λ (t : best.of_entry ≡ false).
      let f = some.1.1 in
      let early : AllByRecursion (FromCopy f.early) cs = copies_had f.early copies f.seen in
      let x = same_row (λ (y : Best). FromCopy f.early y ⊎ (y.of_entry ≡ true)) best (cs ++ es)
      (all_both (λ (y : Best). FromCopy f.early y ⊎ (y.of_entry ≡ true)) cs es (all_so (FromCopy f.early) (λ (y : Best). FromCopy f.early y ⊎ (y.of_entry ≡ true)) (λ y h. inl h) cs early) (all_so (FromEntry ss copies) (λ (y : Best). FromCopy f.early y ⊎ (y.of_entry ≡ true)) (λ y h. inr h.of_entry) es from)) among in
      ⊎_elim
      (λ (c : FromCopy f.early x.0). copy_kept ss copies entries best some.0 x.0 a f low_copies some.1.0.0 x.2 c)
      (λ (e : x.0.of_entry ≡ true). absurd (let u = x.2.1 in let v : true ≡ false = sym e ∙ sym u ∙ t in cc))
      x.1)
      (cases_Bool best.of_entry)
    where
      some_entry : (xs ys : List Best) → AllByRecursion (FromCopy ss) xs → list_any (λ (x : Best). x.of_entry) (xs ++ ys) ≡ true → list_any (λ (x : Best). x.of_entry) ys ≡ true
      some_entry [] ys h e = e
      some_entry (x ∷ xs) ys h e = some_entry xs ys h.1 (⊎_elim (λ (t : x.of_entry ≡ true). absurd (let f = h.0.0 in cc)) (λ (rest : list_any (λ (y : Best). y.of_entry) (xs ++ ys) ≡ true). rest) (or_cases x.of_entry (list_any (λ (y : Best). y.of_entry) (xs ++ ys)) e))

  -- Where an entry came, what is kept was read; where none did, the empty value was.
  unfoldable pub KeptWasRead : List Stage → Option Best → Type 0
  KeptWasRead ss None = Showed [] (moment_of r marks g db key) (later_in g db key ss)
  KeptWasRead ss (Some best) = ((best.has_entry ≡ true → Showed best.value (moment_of r marks g db key) (later_in g db key ss))) × (best.has_entry ≡ false → Showed [] (moment_of r marks g db key) (later_in g db key ss))

  pub kept_was_read : (ss : List Stage) (copies entries : List Batch) (o : Option Best) → Answered ss copies entries → IsKeptOf o (all_for key (copies ++ entries)) → KeptWasRead ss o
  unfolding IsKeptOf KeptWasRead
  kept_was_read ss copies entries None a k = no_entry ss copies entries a.marked a.comes (a.all_entries (master_of members key) a.master) a.seen_entries
      (any_last (all_for key copies) (all_for key entries) (ap (λ (l : List Best). list_any (λ (x : Best). x.of_entry) l) (sym (all_for_both key copies entries) ∙ k)))
  kept_was_read ss copies entries (Some best) a k = (
    (λ came. entry_came ss copies entries best a k came),
    (λ none. no_entry ss copies entries a.marked a.comes (a.all_entries (master_of members key) a.master) a.seen_entries
        (any_last (all_for key copies) (all_for key entries) (ap (λ (l : List Best). list_any (λ (x : Best). x.of_entry) l) (sym (all_for_both key copies entries)) ∙ sym k.entry ∙ none))),
  )
