-- Every schedule of one record keeps its marks, or removes it and goes on from above all that were.
use Rattle.std.proofs.Common.{length, ◌≡◌, ℕ, zero, suc, ◌+◌, ◌-◌, ◌≤◌, Bool, true, false, Option, Some, None, List, [], refl, sym, ap, ◌∙◌, ⊎_elim, inl, inr, arith, subst, take, ◌<◌, ◌⊎◌}
use Rattle.std.proofs.lemmas.Bool.{cases_lt}
use Rattle.std.specs.List.{list_all}
use Rattle.ct_frame.specs.Fields.{is_node}
use Rattle.ct_frame.specs.declared.header.RecCopy.{RecCopy}
use Rattle.ct_rules.specs.declared.state.Entry.{Entry}
use Rattle.ct_register.specs.Register.{Register, reading}
use Rattle.ct_register.specs.Marks.{Site, Marks, AreMarks, IsSiteOf, BeginBy, EndsAt, AreFrom, MarksStep, IsCopyAt, IsEntryAt, place_below_from}
use Rattle.ct_law_record.specs.Labels.{AcceptsAll}
use Rattle.ct_law_record.specs.Marked.{is_removed, MarksHold}
use Rattle.ct_law_record.specs.World.{Scene, World, Event, HasCopy, happens, trace, last}
use Rattle.ct_law_record.proofs.Rule
use Rattle.ct_rules_node.specs.Node.{is_among}
use Rattle.ct_law_record.proofs.SeenNode.{copy_of}
use Rattle.ct_law_record.proofs.Invariant.{Ghost, Span, span_of, Past, Marking}
use Rattle.ct_law_record.proofs.Markings.{mark_within, RunsOn}
use Rattle.ct_law_record.proofs.MarkLists.{dense, dense_begins, marks_in, somewhere, nowhere, has_site, dense_rises, dense_below, dense_ends, dense_has, dense_low, dense_high, none_in, marks_go, marks_grow, marks_from}
use Rattle.ct_law_record.proofs.Worlds.{WorldInv, nodes_at, step_holds, run_holds}

-- how marks go on along a list of labels: after a removal amid it new ones may follow, above all that there ever were
unfoldable pub Through : (is_removed : Bool) → Marks → Marks → Type 0
Through true m n = AreFrom m.low n.marks × (m.low ≤ n.low)
Through false m n = MarksStep false m n

-- the marks of a ghost
abbrev pub marks_of : Ghost → Marks
marks_of g = marks_in (span_of g)

-- the last place is the number of versions
ends_in : (a : Span) (count : ℕ) → a.base ≤ a.top → a.mark a.top ≡ count → (a.top ≤ a.base → count ≡ 0) → EndsAt count (marks_in a).marks
unfolding dense EndsAt
ends_in a count le whole none = go (a.top - a.base) refl
  where
    go : (n : ℕ) → a.top - a.base ≡ n → EndsAt count (dense a.base n a.mark)
    go zero e = none (omega arith)
    go (suc n) e = dense_ends a.mark count a.base n (ap a.mark (let k : a.base + suc n ≡ a.top = omega arith in k) ∙ whole)

-- the record is somewhere exactly where there are marks
sited_in : (g : Ghost) → g.base ≤ g.entry.least → IsSiteOf (marks_of g).marks (marks_of g).site
unfolding IsSiteOf
sited_in g first = ⊎_elim
    (λ (some : g.base < g.top). subst (λ (x : Option Site). IsSiteOf (marks_of g).marks x) (sym (somewhere (span_of g) some)) (begins (g.top - g.base) (omega arith)))
    (λ (none : g.top ≤ g.base). subst (λ (x : Option Site). IsSiteOf (marks_of g).marks x) (sym (nowhere (span_of g) none)) (none_in (span_of g) none))
    (cases_lt g.base g.top)
  where
    begins : (n : ℕ) → 1 ≤ n → BeginBy g.entry.least (dense g.base n g.mark)
    begins zero le = absurd (omega arith)
    begins (suc n) le = dense_begins g.entry.least g.base n g.mark first

-- the marks of a ghost are those of its versions
are_marks : (g : Ghost) (value : List ℕ) → Marking g.base g.joint g.top g.entry.least g.mark g.place g.register.versions value → AreMarks g.register.versions (marks_of g)
are_marks g value h = record {
  rise = dense_rises g.mark g.base (g.top - g.base) h.rises;
  ends = ends_in (span_of g) (length g.register.versions) h.under (h.whole g.top (omega arith)) h.none;
  below = dense_below g.mark g.top g.base (g.top - g.base) (let u = h.under in omega arith);
  sited = sited_in g h.first;
}

-- a copy has a mark
copy_at : (g : Ghost) (n : ℕ) (c : RecCopy) (value : List ℕ) → Marking g.base g.joint g.top g.entry.least g.mark g.place g.register.versions value → Rule.rank (copy_of n (Some c)) ≤ g.top → Past g.joint (copy_of n (Some c)) →
    Rule.value_of (copy_of n (Some c)) ≡ reading (take (g.place (Rule.rank (copy_of n (Some c)))) g.register.versions) → IsCopyAt (marks_of g).marks g.register.versions c.header.rsn c.value
unfolding IsCopyAt Past copy_of Rule.rank Rule.value_of
copy_at g n c value h under past is =
    let low = past (omega arith) in
    let first = h.low in (
      g.mark (c.header.rsn + 1),
      dense_has g.mark c.header.rsn g.base (g.top - g.base) (omega arith) (omega arith),
      is ∙ ap (λ x. reading (take x g.register.versions)) (h.agrees (c.header.rsn + 1) low),
    )

-- the entry's value stands at the place of its least
entry_at : (g : Ghost) → Marking g.base g.joint g.top g.entry.least g.mark g.place g.register.versions g.entry.value → IsEntryAt (marks_of g).marks g.register.versions g.entry.least g.entry.value
unfolding IsEntryAt dense
entry_at g h = (g.mark g.entry.least, dense_low g.mark 0 g.entry.least g.base (g.top - g.base) h.rises (omega arith), high (g.top - g.base) refl, h.entry)
  where
    within : g.mark g.entry.least ≤ length g.register.versions
    within = mark_within g.base g.joint g.top g.entry.least g.mark g.place g.register.versions g.entry.value h g.entry.least

    high : (n : ℕ) → g.top - g.base ≡ n → g.mark g.entry.least ≤ place_below_from 0 (g.entry.least + 1) (dense g.base n g.mark)
    high zero e = (let none = h.none (omega arith) in let w = within in omega arith)
    high (suc n) e = dense_high g.mark 0 g.entry.least g.base n h.rises h.first
        (let k : g.top ≡ g.base + suc n = omega arith in subst (λ x. g.mark g.entry.least ≤ g.mark x) k (let w = within in let all = h.whole g.top (omega arith) in omega arith))

-- a copy of the greatest rank
copied : (w : World) (g : Ghost) (n : ℕ) (x : Option RecCopy) → (w.nodes n).state.copy ≡ x → g.base < g.top → g.entry.least < Rule.rank (copy_of n x) → Rule.rank (copy_of n x) ≡ g.top → (c : RecCopy) × HasCopy w n c × (c.header.rsn + 1 ≡ g.top)
unfolding Rule.rank copy_of
copied w g n None is some low top = absurd (omega arith)
copied w g n (Some c) is some low top = (c, is, top)

none_there : (n : ℕ) (x : Option RecCopy) → x ≡ None → Rule.rank (copy_of n x) ≤ 0
unfolding Rule.rank copy_of
none_there n None is = omega arith
none_there n (Some c) is = absurd (cc)

-- without an entry at the location master there are no marks, and the record is nowhere
pub unmarked : (s : Scene) (w : World) (r : Register) (g : Ghost) → WorldInv s w r g → (w.nodes s.lmaster).state.entry ≡ None → ((marks_of g).marks ≡ []) × ((marks_of g).site ≡ None)
unmarked s w r g h is = (none_in (span_of g) none, nowhere (span_of g) none)
  where
    none : g.top ≤ g.base
    none = ⊎_elim
        (λ (k : ((w.nodes s.lmaster).state.entry ≡ Some g.entry) × (g.base < g.top)). absurd (let j : None ≡ Some g.entry = sym is ∙ k.0 in cc))
        (λ k. k.3)
        h.master.entry

pub marks_hold : (s : Scene) (w : World) (r : Register) (g : Ghost) → WorldInv s w r g → MarksHold s w r (marks_of g)
marks_hold s w r g h = subst (λ (x : Register). MarksHold s w x (marks_of g)) h.register (record {
  marked = are_marks g g.entry.value h.all.marks;
  copies = λ n c has. copy n c has (h.nodes n).under (h.nodes n).marked (h.nodes n).value;
  entry = λ e is. ⊎_elim
      (λ (k : ((w.nodes s.lmaster).state.entry ≡ Some g.entry) × (g.base < g.top)). subst (λ (x : Entry). IsEntryAt (marks_of g).marks g.register.versions x.least x.value) (let j : Some g.entry ≡ Some e = sym k.0 ∙ is in let y : g.entry ≡ e = cc in y) (entry_at g h.all.marks))
      (λ k. absurd (let j : None ≡ Some e = sym k.0 ∙ is in cc))
      h.master.entry;
  sites = λ e is. ⊎_elim
      (λ (k : ((w.nodes s.lmaster).state.entry ≡ Some g.entry) × (g.base < g.top)). somewhere (span_of g) k.1 ∙ ap (λ (x : Entry). Some (record { holder = x.holder; least = x.least })) (let j : Some g.entry ≡ Some e = sym k.0 ∙ is in let y : g.entry ≡ e = cc in y))
      (λ k. absurd (let j : None ≡ Some e = sym k.0 ∙ is in cc))
      h.master.entry;
  empty = λ is. (unmarked s w r g h is).0;
  found = λ x is. found x (has_site (span_of g) x is);
  away = λ x is out. away x (has_site (span_of g) x is) out;
})
  where
    copy : (n : ℕ) (c : RecCopy) → HasCopy w n c → Rule.rank (nodes_at s w n).copy ≤ g.top → Past g.joint (nodes_at s w n).copy → Rule.value_of (nodes_at s w n).copy ≡ reading (take (g.place (Rule.rank (nodes_at s w n).copy)) g.register.versions) →
        IsCopyAt (marks_of g).marks g.register.versions c.header.rsn c.value
    copy n c has under past value = copy_at g n c g.entry.value h.all.marks
        (subst (λ (x : Option RecCopy). Rule.rank (copy_of n x) ≤ g.top) has under)
        (subst (λ (x : Option RecCopy). Past g.joint (copy_of n x)) has past)
        (subst (λ (x : Option RecCopy). Rule.value_of (copy_of n x) ≡ reading (take (g.place (Rule.rank (copy_of n x))) g.register.versions)) has value)

    -- the holder's copy has the greatest rank, or the record is on its way
    rests : (n : ℕ) → n ≡ g.entry.holder → g.base < g.top → (g.top ≤ g.entry.least) ⊎ ((c : RecCopy) × HasCopy w n c × (c.header.rsn + 1 ≡ g.top))
    rests n at some = ⊎_elim
        (λ (low : g.entry.least < Rule.rank (nodes_at s w n).copy). inr (copied w g n (w.nodes n).state.copy refl some low ((h.nodes n).holds at low).0))
        (λ (up : Rule.rank (nodes_at s w n).copy ≤ g.entry.least). inl ((h.nodes n).passing at up).0)
        (cases_lt g.entry.least (Rule.rank (nodes_at s w n).copy))

    found : (x : Site) → (g.base < g.top) × (x ≡ record { holder = g.entry.holder; least = g.entry.least }) → (g.top ≤ x.least) ⊎ ((c : RecCopy) × HasCopy w x.holder c × (c.header.rsn + 1 ≡ g.top))
    found x k = subst (λ (y : Site). (g.top ≤ y.least) ⊎ ((c : RecCopy) × HasCopy w y.holder c × (c.header.rsn + 1 ≡ g.top))) (sym k.1) (rests g.entry.holder refl k.0)

    away : (x : Site) → (g.base < g.top) × (x ≡ record { holder = g.entry.holder; least = g.entry.least }) → is_among x.holder s.members ≡ false → g.top ≤ x.least
    away x k out =
        let at : x.holder ≡ g.entry.holder = ap (λ (y : Site). y.holder) k.1 in
        let least : x.least ≡ g.entry.least = ap (λ (y : Site). y.least) k.1 in
        let none = none_there x.holder (w.nodes x.holder).state.copy (h.outside x.holder out) in
        let top = ((h.nodes x.holder).passing at (omega arith)).0 in
        omega arith

-- one event
pub step_marks : (s : Scene) (e : Event) (w : World) (r : Register) (g : Ghost) → list_all is_node s.members ≡ true → WorldInv s w r g →
    (t : Register) × (g' : Ghost) × AcceptsAll s.rules r (happens s w e).labels t × WorldInv s (happens s w e).world t g' × MarksStep (is_removed (happens s w e).labels) (marks_of g) (marks_of g')
step_marks s e w r g real h = (let k = step_holds s w r g e real h in (k.0, k.1, k.2, k.3, marks_go (is_removed (happens s w e).labels) (span_of g) (span_of k.1) h.all.marks.under k.4))

through : (b : Bool) (a c : Span) → a.base ≤ a.top → RunsOn b a c → Through b (marks_in a) (marks_in c)
unfolding RunsOn Through
through true a c le h = (marks_from a.top c h.low, h.top)
through false a c le h = marks_grow a c le h

-- all events
pub run_marks : (s : Scene) (events : List Event) (w : World) (r : Register) (g : Ghost) → list_all is_node s.members ≡ true → WorldInv s w r g →
    (t : Register) × (g' : Ghost) × AcceptsAll s.rules r (trace s w events) t × WorldInv s (last s w events) t g' × Through (is_removed (trace s w events)) (marks_of g) (marks_of g')
run_marks s events w r g real h = (let k = run_holds s events w r g real h in (k.0, k.1, k.2, k.3, through (is_removed (trace s w events)) (span_of g) (span_of k.1) h.all.marks.under k.4))
