-- Of the rows that are seen of one record, one after the other, the greatest was read: of copies seen at some moments, and of an entry
-- seen at the last one. Steps in between may remove the record, and it may be made anew.
use Rattle.std.specs.Prelude.{◌≡◌, ◌⊎◌, ℕ, ◌+◌, ◌<◌, ◌≤◌, Bool, List, [], ◌∷◌, Some}
use Rattle.ct_register.specs.Register.{reading}
use Rattle.ct_register.specs.Marks.{Site, IsCopyAt, IsEntryAt, MarksStep}
use Rattle.ct_law_readings.specs.Readings.{VersionsStep}
use Rattle.ct_law_readings.specs.Fresh.{Moment, IsMarked}

-- a later moment of a record, and whether the step before it removed the record
pub record Later : Type 0 where
  pub was_removed : Bool
  pub moment : Moment

-- each of these moments comes of the one before it by a step, as the law of readings has it
unfoldable pub ComesOn : Moment → List Later → Type 0
ComesOn m [] = Unit {0}
ComesOn m (n ∷ ns) = MarksStep n.was_removed m.marks n.moment.marks × VersionsStep n.was_removed m.versions n.moment.versions × IsMarked n.moment × ComesOn n.moment ns

-- the last of them
unfoldable pub end_of : Moment → List Later → Moment
end_of m [] = m
end_of m (n ∷ ns) = end_of n.moment ns

-- at one of them this value was the record's reading
unfoldable pub Showed : List ℕ → Moment → List Later → Type 0
Showed value m [] = reading m.versions ≡ value
Showed value m (n ∷ ns) = (reading m.versions ≡ value) ⊎ Showed value n.moment ns

-- at one of them there was a copy of this RSN and value
unfoldable pub HadCopy : ℕ → List ℕ → Moment → List Later → Type 0
HadCopy rsn value m [] = IsCopyAt m.marks.marks m.versions rsn value
HadCopy rsn value m (n ∷ ns) = IsCopyAt m.marks.marks m.versions rsn value ⊎ HadCopy rsn value n.moment ns

-- where the record was at this place then, all marks were below its least RSN, or a copy of the newest RSN was seen there; all copies that
-- are seen have RSNs below `high`
abbrev pub IsSeenAt : Site → ℕ → Moment → Type 0
IsSeenAt x high m = (z : Site) → m.marks.site ≡ Some z → z.holder ≡ x.holder → (m.marks.low ≤ z.least) ⊎ ((rsn : ℕ) × (rsn < high) × (rsn + 1 ≡ m.marks.low))

-- so it was at one of these moments
unfoldable pub IsSeen : Site → ℕ → Moment → List Later → Type 0
IsSeen x high m [] = IsSeenAt x high m
IsSeen x high m (n ∷ ns) = IsSeenAt x high m ⊎ IsSeen x high n.moment ns

-- Where the record was at the first moment was looked at, at that moment or later; or there all marks were below its least RSN, as it
-- is of a node that is no member.
abbrev pub IsLookedFor : ℕ → Moment → List Later → Type 0
IsLookedFor high m ns = (x : Site) → m.marks.site ≡ Some x → (m.marks.low ≤ x.least) ⊎ IsSeen x high m ns

-- A copy that was seen, of at least the RSN of every copy that was seen and of the entry at the end, has a value that was the reading at
-- one of these moments.
abbrev pub GreatestCopyWasRead : Type 0
GreatestCopyWasRead = (m : Moment) (ns : List Later) (y : Site) (rsn : ℕ) (value : List ℕ) → IsMarked m → ComesOn m ns → (end_of m ns).marks.site ≡ Some y → IsLookedFor (rsn + 1) m ns → y.least ≤ rsn → HadCopy rsn value m ns → Showed value m ns

-- So has the entry at the end, where its least RSN is above that of every copy that was seen. Of the same RSN as a copy it may have an
-- older value: there the copy is the greatest.
abbrev pub GreatestEntryWasRead : Type 0
GreatestEntryWasRead = (m : Moment) (ns : List Later) (y : Site) (value : List ℕ) → IsMarked m → ComesOn m ns → (end_of m ns).marks.site ≡ Some y → IsLookedFor y.least m ns →
    IsEntryAt (end_of m ns).marks.marks (end_of m ns).versions y.least value → Showed value m ns
