-- Of the rows that are seen of one record the greatest was read, whatever removes the record in between.
use Rattle.std.proofs.Common.{◌⊎◌, ◌≡◌, ◌≢◌, ℕ, ◌+◌, ◌<◌, ◌≤◌, Bool, true, false, cond, List, [], ◌∷◌, map, Option, None, Some, refl, sym, ap, ◌∙◌, ⊎_elim, inl, inr, arith, subst}
use Rattle.std.specs.Prelude.{◌||◌}
use Rattle.std.specs.List.{list_any}
use Rattle.std.proofs.lemmas.Bool.{cases_eq, cases_Bool, ne_eqb, or_parts}
use Rattle.ct_register.specs.Register.{reading}
use Rattle.ct_register.specs.Marks.{Mark, place_of, IsCopyAt, IsEntryAt, AreFrom, GoOn, AreBelow, BeginBy, IsSiteOf, Site, Marks, SiteStep, MarksStep}
use Rattle.ct_law_readings.specs.Readings.{VersionsStep}
use Rattle.ct_law_readings.specs.Fresh.{Moment, IsMarked, LivesOn, last_of, WasRead}
use Rattle.ct_law_readings.specs.Greatest.{Later, ComesOn, end_of, Showed, HadCopy, IsSeenAt, IsSeen, IsLookedFor, GreatestCopyWasRead, GreatestEntryWasRead}
use Rattle.ct_law_readings.proofs.Newest.{later_then, later_all, last_marked, on_itself, site_itself, fresh_copy_was_read, fresh_entry_was_read, site_after, found_so}

-- ---- without a removal

moments_of : List Later → List Moment
moments_of ns = map (λ (n : Later). n.moment) ns

abbrev any_removed : List Later → Bool
any_removed ns = list_any (λ (n : Later). n.was_removed) ns

unremoved : (b : Bool) (m : Moment) (n : Moment) → b ≡ false → MarksStep b m.marks n.marks → VersionsStep b m.versions n.versions → MarksStep false m.marks n.marks × VersionsStep false m.versions n.versions
unremoved true m n e marks versions = absurd (cc)
unremoved false m n e marks versions = (marks, versions)

lives : (m : Moment) (ns : List Later) → ComesOn m ns → any_removed ns ≡ false → LivesOn m (moments_of ns)
unfolding ComesOn LivesOn moments_of
lives m [] h e = tt
lives m (n ∷ ns) h e =
    let p = or_parts n.was_removed (any_removed ns) e in
    let s = unremoved n.was_removed m n.moment p.0 h.0 h.1 in (s.0, s.1, h.2, lives n.moment ns h.3 p.1)

same_end : (m : Moment) (ns : List Later) → end_of m ns ≡ last_of m (moments_of ns)
unfolding end_of last_of moments_of
same_end m [] = refl
same_end m (n ∷ ns) = same_end n.moment ns

showed : (value : List ℕ) (m : Moment) (ns : List Later) → WasRead value m (moments_of ns) → Showed value m ns
unfolding WasRead Showed moments_of
showed value m [] h = h
showed value m (n ∷ ns) h = ⊎_elim (λ (e : reading m.versions ≡ value). inl e) (λ (r : WasRead value n.moment (moments_of ns)). inr (showed value n.moment ns r)) h

-- the moments up to one at which there was the copy
record Front (rsn : ℕ) (value : List ℕ) (m : Moment) (ns : List Later) : Type 0 where
  part : List Moment
  lives : LivesOn m part
  copy : IsCopyAt (last_of m part).marks.marks (last_of m part).versions rsn value
  shows : WasRead value m part → Showed value m ns

front : (rsn : ℕ) (value : List ℕ) (m : Moment) (ns : List Later) → LivesOn m (moments_of ns) → HadCopy rsn value m ns → Front rsn value m ns
unfolding LivesOn HadCopy Showed WasRead last_of moments_of
front rsn value m [] h c = record { part = []; lives = tt; copy = c; shows = λ w. w }
front rsn value m (n ∷ ns) h c = ⊎_elim
    (λ (here : IsCopyAt m.marks.marks m.versions rsn value). record { part = []; lives = tt; copy = here; shows = λ w. inl w })
    (λ (later : HadCopy rsn value n.moment ns). (let f = front rsn value n.moment ns h.3 later in record {
      part = n.moment ∷ f.part;
      lives = (h.0, h.1, h.2, f.lives);
      copy = f.copy;
      shows = λ w. ⊎_elim (λ (e : reading m.versions ≡ value). inl e) (λ (r : WasRead value n.moment f.part). inr (f.shows r)) w;
    }))
    c

-- a fresh copy that was seen at one of these moments was read
copy_showed : (m : Moment) (ns : List Later) (rsn : ℕ) (value : List ℕ) → IsMarked m → LivesOn m (moments_of ns) → m.marks.low ≤ rsn + 1 → HadCopy rsn value m ns → Showed value m ns
copy_showed m ns rsn value a h up c = (let f = front rsn value m ns h c in f.shows (fresh_copy_was_read m f.part rsn value a f.lives up f.copy))

entry_showed : (m : Moment) (ns : List Later) (least : ℕ) (value : List ℕ) → IsMarked m → LivesOn m (moments_of ns) → m.marks.low ≤ least → IsEntryAt (end_of m ns).marks.marks (end_of m ns).versions least value → Showed value m ns
entry_showed m ns least value a h up c = showed value m ns (fresh_entry_was_read m (moments_of ns) least value a h up (subst (λ (e : Moment). IsEntryAt e.marks.marks e.versions least value) (same_end m ns) c))

-- ---- where the record was at the first moment

from_begins : (low least : ℕ) (ms : List Mark) → AreFrom low ms → BeginBy least ms → low ≤ least
unfolding AreFrom BeginBy
from_begins low least [] h b = absurd b
from_begins low least (m ∷ ms) h b = ⊎_elim (λ (le : m.rsn ≤ least). (let u = h.0 in omega arith)) (λ (r : BeginBy least ms). from_begins low least ms h.1 r) b

-- a record that was nowhere, or was removed, comes to be above all marks that there were
bare_low : (m e : Marks) (y : Site) → m.marks ≡ [] → MarksStep false m e → IsSiteOf e.marks e.site → e.site ≡ Some y → m.low ≤ y.least
unfolding GoOn IsSiteOf
bare_low m e y none step sited end = from_begins m.low y.least e.marks (subst (λ (ms : List Mark). GoOn m.low ms e.marks) none step.0) (subst (λ (s : Option Site). IsSiteOf e.marks s) end sited)

seen_low : (x y : Site) (high : ℕ) (first : Marks) (m : Moment) (ns : List Later) → MarksStep false first m.marks → LivesOn m (moments_of ns) → first.site ≡ Some x → (last_of m (moments_of ns)).marks.site ≡ Some y → IsSeen x high m ns →
    (first.low ≤ y.least) ⊎ ((rsn : ℕ) × (rsn < high) × (first.low ≤ rsn + 1))
unfolding LivesOn IsSeen last_of moments_of
seen_low x y high first m [] to h at end s = found_so (λ (rsn : ℕ). rsn < high) first m.marks m.marks x y to (on_itself m.marks.low m.marks.marks, omega arith, site_itself m.marks.low m.marks.site) at end s
seen_low x y high first m (n ∷ ns) to h at end s = ⊎_elim
    (λ (here : IsSeenAt x high m). found_so (λ (rsn : ℕ). rsn < high) first m.marks (last_of n.moment (moments_of ns)).marks x y to (later_then m.marks n.moment.marks (last_of n.moment (moments_of ns)).marks h.0 (later_all n.moment (moments_of ns) h.3)) at end here)
    (λ (later : IsSeen x high n.moment ns). seen_low x y high first n.moment ns (later_then first m.marks n.moment.marks to h.0) h.3 at end later)
    s

looked_low : (y : Site) (high : ℕ) (m : Moment) (ns : List Later) → IsMarked m → LivesOn m (moments_of ns) → (last_of m (moments_of ns)).marks.site ≡ Some y → IsLookedFor high m ns → (m.marks.low ≤ y.least) ⊎ (m.marks.low ≤ high)
unfolding IsSiteOf
looked_low y high m ns a h end looked = of m.marks.site refl
  where
    later : MarksStep false m.marks (last_of m (moments_of ns)).marks
    later = later_all m (moments_of ns) h

    of : (s : Option Site) → m.marks.site ≡ s → (m.marks.low ≤ y.least) ⊎ (m.marks.low ≤ high)
    of None e = inl (bare_low m.marks (last_of m (moments_of ns)).marks y (subst (λ (s : Option Site). IsSiteOf m.marks.marks s) e a.sited) later (last_marked m (moments_of ns) a h).sited end)
    of (Some x) e = ⊎_elim
        (λ (away : m.marks.low ≤ x.least). inl (⊎_elim
        (λ (same : x.least ≡ y.least). omega arith)
        (λ (le : m.marks.low ≤ y.least). le)
        (site_after m.marks.low x y (last_of m (moments_of ns)).marks.site (subst (λ (s : Option Site). SiteStep m.marks.low s (last_of m (moments_of ns)).marks.site) e later.2) end)))
        (λ (seen : IsSeen x high m ns). ⊎_elim
        (λ (le : m.marks.low ≤ y.least). inl le)
        (λ (c : (rsn : ℕ) × (rsn < high) × (m.marks.low ≤ rsn + 1)). inr (let u = c.1 in let v = c.2 in omega arith))
        (seen_low x y high m.marks m ns (on_itself m.marks.low m.marks.marks, omega arith, site_itself m.marks.low m.marks.site) h e end seen))
        (looked x e)

-- ---- after a removal

mark_below : (low rsn place : ℕ) (ms : List Mark) → AreBelow low ms → place_of rsn ms ≡ Some place → rsn < low
unfolding AreBelow place_of
mark_below low rsn place [] h e = absurd (cc)
mark_below low rsn place (m ∷ ms) h e = ⊎_elim
    (λ (is : m.rsn ≡ rsn). (let u = h.0 in omega arith))
    (λ (ne : m.rsn ≢ rsn). mark_below low rsn place ms h.1 (sym (ap (λ (b : Bool). cond b (Some m.place) (place_of rsn ms)) (ne_eqb m.rsn rsn ne)) ∙ e))
    (cases_eq m.rsn rsn)

copy_below : (m : Moment) (rsn : ℕ) (value : List ℕ) → IsMarked m → IsCopyAt m.marks.marks m.versions rsn value → rsn < m.marks.low
unfolding IsCopyAt
copy_below m rsn value a c = mark_below m.marks.low rsn c.0 m.marks.marks a.below c.1

step_low : (b : Bool) (m n : Marks) → MarksStep b m n → m.low ≤ n.low
step_low true m n h = h.1
step_low false m n h = h.1

step_bare : (b : Bool) (m n : Marks) → b ≡ true → MarksStep b m n → n.marks ≡ []
step_bare true m n e h = h.0
step_bare false m n e h = absurd (cc)

-- the last removal among these moments, and what there is from there on
record Removal (m : Moment) (ns : List Later) : Type 0 where
  here : Moment
  rest : List Later
  none : any_removed rest ≡ false
  comes : ComesOn here rest
  marked : IsMarked here
  bare : here.marks.marks ≡ []
  low : m.marks.low ≤ here.marks.low
  ends : end_of here rest ≡ end_of m ns
  shows : (value : List ℕ) → Showed value here rest → Showed value m ns
  copies : (rsn : ℕ) (value : List ℕ) → HadCopy rsn value m ns → HadCopy rsn value here rest ⊎ (rsn < here.marks.low)

first_true : (a b : Bool) → (a || b) ≡ true → b ≡ false → a ≡ true
first_true true b e f = refl
first_true false b e f = absurd (cc)

removal : (m : Moment) (ns : List Later) → IsMarked m → ComesOn m ns → any_removed ns ≡ true → Removal m ns
unfolding ComesOn end_of Showed HadCopy
removal m [] a h e = absurd (cc)
removal m (n ∷ ns) a h e = ⊎_elim
    (λ (t : any_removed ns ≡ true). (let k = removal n.moment ns h.2 h.3 t in let le = step_low n.was_removed m.marks n.moment.marks h.0 in record {
      here = k.here;
      rest = k.rest;
      none = k.none;
      comes = k.comes;
      marked = k.marked;
      bare = k.bare;
      low = (let u = k.low in omega arith);
      ends = k.ends;
      shows = λ value s. inr (k.shows value s);
      copies = λ rsn value c. ⊎_elim
          (λ (now : IsCopyAt m.marks.marks m.versions rsn value). inr (let u = copy_below m rsn value a now in let v = k.low in omega arith))
          (λ (later : HadCopy rsn value n.moment ns). k.copies rsn value later)
          c;
    }))
    (λ (f : any_removed ns ≡ false). (let le = step_low n.was_removed m.marks n.moment.marks h.0 in record {
      here = n.moment;
      rest = ns;
      none = f;
      comes = h.3;
      marked = h.2;
      bare = step_bare n.was_removed m.marks n.moment.marks (first_true n.was_removed (any_removed ns) e f) h.0;
      low = le;
      ends = refl;
      shows = λ value s. inr s;
      copies = λ rsn value c. ⊎_elim
          (λ (now : IsCopyAt m.marks.marks m.versions rsn value). inr (let u = copy_below m rsn value a now in omega arith))
          (λ (later : HadCopy rsn value n.moment ns). inl later)
          c;
    }))
    (cases_Bool (any_removed ns))

-- so the record came to be above all marks that there were
removal_low : (m : Moment) (ns : List Later) (y : Site) (k : Removal m ns) → (end_of m ns).marks.site ≡ Some y → k.here.marks.low ≤ y.least
removal_low m ns y k end =
    let h = lives k.here k.rest k.comes k.none in
    let last = last_of k.here (moments_of k.rest) in
    let same : end_of m ns ≡ last = sym k.ends ∙ same_end k.here k.rest in
    bare_low k.here.marks last.marks y k.bare (later_all k.here (moments_of k.rest) h) (last_marked k.here (moments_of k.rest) k.marked h).sited (subst (λ (e : Moment). e.marks.site ≡ Some y) same end)

-- ---- the two laws

at_last : (m : Moment) (ns : List Later) (y : Site) → (end_of m ns).marks.site ≡ Some y → (last_of m (moments_of ns)).marks.site ≡ Some y
at_last m ns y end = subst (λ (e : Moment). e.marks.site ≡ Some y) (same_end m ns) end

pub greatest_copy_was_read : GreatestCopyWasRead
greatest_copy_was_read m ns y rsn value a h end looked le c = ⊎_elim
    (λ (t : any_removed ns ≡ true).
    let k = removal m ns a h t in
    let low = removal_low m ns y k end in ⊎_elim
    (λ (later : HadCopy rsn value k.here k.rest). k.shows value (copy_showed k.here k.rest rsn value k.marked (lives k.here k.rest k.comes k.none) (omega arith) later))
    (λ (lt : rsn < k.here.marks.low). absurd (omega arith))
    (k.copies rsn value c))
    (λ (f : any_removed ns ≡ false).
    let l = lives m ns h f in
    copy_showed m ns rsn value a l (⊎_elim (λ (u : m.marks.low ≤ y.least). omega arith) (λ (u : m.marks.low ≤ rsn + 1). u) (looked_low y (rsn + 1) m ns a l (at_last m ns y end) looked)) c)
    (cases_Bool (any_removed ns))

pub greatest_entry_was_read : GreatestEntryWasRead
greatest_entry_was_read m ns y value a h end looked c = ⊎_elim
    (λ (t : any_removed ns ≡ true).
    let k = removal m ns a h t in
    k.shows value (entry_showed k.here k.rest y.least value k.marked (lives k.here k.rest k.comes k.none) (removal_low m ns y k end)
    (subst (λ (e : Moment). IsEntryAt e.marks.marks e.versions y.least value) (sym k.ends) c)))
    (λ (f : any_removed ns ≡ false).
    let l = lives m ns h f in
    entry_showed m ns y.least value a l (⊎_elim (λ (u : m.marks.low ≤ y.least). u) (λ (u : m.marks.low ≤ y.least). u) (looked_low y y.least m ns a l (at_last m ns y end) looked)) c)
    (cases_Bool (any_removed ns))
