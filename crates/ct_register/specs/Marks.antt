-- RSN marks: for each RSN that a record had in its line, how many of its versions that RSN stands for.
use Rattle.std.specs.Prelude.{◌≡◌, ◌⊎◌, ℕ, ◌+◌, ◌<◌, ◌≤◌, nat_eq, nat_lt, Bool, true, false, if◌then◌else◌, List, [], ◌∷◌, length, take, Option, None, Some}
use Rattle.ct_register.specs.Register.{reading}

-- an RSN, and the place that it stands for: a number of first versions
pub record Mark : Type 0 where
  pub rsn : ℕ
  pub place : ℕ

-- after this mark, RSNs ascend strictly, and places never fall
unfoldable pub RisesAfter : Mark → List Mark → Type 0
RisesAfter m [] = Unit {0}
RisesAfter m (n ∷ ns) = (m.rsn < n.rsn) × (m.place ≤ n.place) × RisesAfter n ns

-- RSNs ascend strictly, and places never fall
unfoldable pub Rises : List Mark → Type 0
Rises [] = Unit {0}
Rises (m ∷ ms) = RisesAfter m ms

-- the last place is the number of all versions; without marks there is no version
unfoldable pub EndsAt : ℕ → List Mark → Type 0
EndsAt count [] = count ≡ 0
EndsAt count (m ∷ []) = m.place ≡ count
EndsAt count (m ∷ n ∷ ns) = EndsAt count (n ∷ ns)

-- the place of an RSN
unfoldable pub place_of : ℕ → List Mark → Option ℕ
place_of rsn [] = None
place_of rsn (m ∷ ms) = if nat_eq m.rsn rsn then Some m.place else place_of rsn ms

-- the place of the last mark below an RSN, where `found` is that of the marks before these
unfoldable pub place_below_from : ℕ → ℕ → List Mark → ℕ
place_below_from found rsn [] = found
place_below_from found rsn (m ∷ ms) = place_below_from (if nat_lt m.rsn rsn then m.place else found) rsn ms

-- the place of the greatest mark below an RSN, and 0 where there is none
abbrev pub place_below : ℕ → List Mark → ℕ
place_below rsn ms = place_below_from 0 rsn ms

-- the place of the greatest mark up to an RSN, and 0 where there is none
abbrev pub place_up_to : ℕ → List Mark → ℕ
place_up_to rsn ms = place_below (rsn + 1) ms

-- the value at a place: the last of so many first versions
abbrev pub value_at : ℕ → List (List ℕ) → List ℕ
value_at place versions = reading (take place versions)

-- a copy of this RSN has the value at the place of its mark
unfoldable pub IsCopyAt : List Mark → List (List ℕ) → ℕ → List ℕ → Type 0
IsCopyAt ms versions rsn value = (place : ℕ) × (place_of rsn ms ≡ Some place) × (value ≡ value_at place versions)

-- an entry of this least RSN has the value at a place from that of the greatest mark below it to that of the greatest
-- mark up to it
unfoldable pub IsEntryAt : List Mark → List (List ℕ) → ℕ → List ℕ → Type 0
IsEntryAt ms versions least value =
    (place : ℕ) × (place_below least ms ≤ place) × (place ≤ place_up_to least ms) × (value ≡ value_at place versions)

-- each of these marks has this RSN or a greater one
unfoldable pub AreFrom : ℕ → List Mark → Type 0
AreFrom low [] = Unit {0}
AreFrom low (m ∷ ms) = (low ≤ m.rsn) × AreFrom low ms

-- The marks go on as the second ones, where `low` is above every mark that there ever was: the last one's place may rise,
-- and new ones may follow from `low` on. All others stay.
unfoldable pub GoOn : ℕ → List Mark → List Mark → Type 0
GoOn low [] new = AreFrom low new
GoOn low (m ∷ ms) [] = ⊥
GoOn low (m ∷ []) (n ∷ new) = (n.rsn ≡ m.rsn) × (m.place ≤ n.place) × AreFrom low new
GoOn low (m ∷ k ∷ ms) (n ∷ new) = (n ≡ m) × GoOn low (k ∷ ms) new

-- each of these marks has an RSN below this one
unfoldable pub AreBelow : ℕ → List Mark → Type 0
AreBelow high [] = Unit {0}
AreBelow high (m ∷ ms) = (m.rsn < high) × AreBelow high ms

-- where a record is: at the node that its location master's entry names, or on the way to it, with that entry's least RSN
pub record Site : Type 0 where
  pub holder : ℕ
  pub least : ℕ

-- the marks of one record in one line
pub record Marks : Type 0 where
  pub marks : List Mark
  -- above the RSN of every mark that there is and that there was
  pub low : ℕ
  pub site : Option Site

-- some mark has this RSN or a lower one
unfoldable pub BeginBy : ℕ → List Mark → Type 0
BeginBy high [] = ⊥
BeginBy high (m ∷ ms) = (m.rsn ≤ high) ⊎ BeginBy high ms

-- a record is nowhere exactly where it has no marks; else some mark is at or below the least RSN of where it is
unfoldable pub IsSiteOf : List Mark → Option Site → Type 0
IsSiteOf ms None = ms ≡ []
IsSiteOf ms (Some s) = BeginBy s.least ms

-- what holds of them beside these versions
pub record AreMarks (versions : List (List ℕ)) (m : Marks) : Type 0 where
  pub rise : Rises m.marks
  pub ends : EndsAt (length versions) m.marks
  pub below : AreBelow m.low m.marks
  pub sited : IsSiteOf m.marks m.site

-- a record that is somewhere stays there, or comes to where the least RSN is above all marks that there ever were
unfoldable pub SiteStep : (low : ℕ) → Option Site → Option Site → Type 0
SiteStep low None after = Unit {0}
SiteStep low (Some s) after = (after ≡ Some s) ⊎ ((t : Site) × (after ≡ Some t) × (low ≤ t.least))

-- a step that removes the record leaves no mark, and the record nowhere; any other adds marks above all that there ever
-- were, or raises the place of the last one, and the record stays or moves on. What is above all marks stays so.
abbrev pub MarksStep : (is_vacuumed : Bool) → Marks → Marks → Type 0
MarksStep true m n = (n.marks ≡ []) × (m.low ≤ n.low) × (n.site ≡ None)
MarksStep false m n = GoOn m.low m.marks n.marks × (m.low ≤ n.low) × SiteStep m.low m.site n.site
