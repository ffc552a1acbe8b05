-- What is fresh was read: where no step in between removed the record, the value of a copy of the newest RSN of some moment, or of a
-- newer one, was the record's reading then or later; and so was that of an entry whose least RSN was above all marks.
use Rattle.std.specs.Prelude.{◌≡◌, ◌⊎◌, ℕ, ◌+◌, ◌≤◌, false, List, [], ◌∷◌, Option, Some}
use Rattle.ct_register.specs.Register.{reading}
use Rattle.ct_register.specs.Marks.{Site, Marks, AreMarks, IsCopyAt, IsEntryAt, MarksStep}
use Rattle.ct_law_readings.specs.Readings.{VersionsStep}

-- what there is of one record of a line at one moment of a run: its versions, and its marks
pub record Moment : Type 0 where
  pub versions : List (List ℕ)
  pub marks : Marks

-- marks hold of the first moment
abbrev pub IsMarked : Moment → Type 0
IsMarked m = AreMarks m.versions m.marks

-- each of these moments comes of the one before it by a step that does not remove the record, as the law of readings has it
unfoldable pub LivesOn : Moment → List Moment → Type 0
LivesOn m [] = Unit {0}
LivesOn m (n ∷ ns) = MarksStep false m.marks n.marks × VersionsStep false m.versions n.versions × IsMarked n × LivesOn n ns

-- the last of them
unfoldable pub last_of : Moment → List Moment → Moment
last_of m [] = m
last_of m (n ∷ ns) = last_of n ns

-- at one of them this value was the record's reading
unfoldable pub WasRead : List ℕ → Moment → List Moment → Type 0
WasRead value m [] = reading m.versions ≡ value
WasRead value m (n ∷ ns) = (reading m.versions ≡ value) ⊎ WasRead value n ns

-- The value of a copy at the last moment, whose RSN is that of the newest mark of the first moment or a greater one, was the reading
-- at one of these moments.
abbrev pub FreshCopyWasRead : Type 0
FreshCopyWasRead = (m : Moment) (ns : List Moment) (rsn : ℕ) (value : List ℕ) → IsMarked m → LivesOn m ns → m.marks.low ≤ rsn + 1 →
    IsCopyAt (last_of m ns).marks.marks (last_of m ns).versions rsn value → WasRead value m ns

-- So was that of an entry at the last moment, whose least RSN is above all marks of the first moment.
abbrev pub FreshEntryWasRead : Type 0
FreshEntryWasRead = (m : Moment) (ns : List Moment) (least : ℕ) (value : List ℕ) → IsMarked m → LivesOn m ns → m.marks.low ≤ least →
    IsEntryAt (last_of m ns).marks.marks (last_of m ns).versions least value → WasRead value m ns

-- A record was somewhere at the first moment. At a later one its node there was looked at: there all marks were below the least RSN, or
-- the node had the copy of the newest RSN, wherever the node was still the record's place. Later still the record is where an entry
-- says. Then that entry's least RSN is above all marks of the first moment; or the copy that was found has the newest RSN of the first
-- moment, or a greater one.
abbrev pub RecordIsFound : Type 0
RecordIsFound = (m : Moment) (ns os : List Moment) (x y : Site) (copy : Option ℕ) → LivesOn m ns → LivesOn (last_of m ns) os → m.marks.site ≡ Some x → (last_of (last_of m ns) os).marks.site ≡ Some y →
    ((z : Site) → (last_of m ns).marks.site ≡ Some z → z.holder ≡ x.holder →
    ((last_of m ns).marks.low ≤ z.least) ⊎ ((rsn : ℕ) × (copy ≡ Some rsn) × (rsn + 1 ≡ (last_of m ns).marks.low))) →
    (m.marks.low ≤ y.least) ⊎ ((rsn : ℕ) × (copy ≡ Some rsn) × (m.marks.low ≤ rsn + 1))
