-- Small lists of marks, and how they may go on.
use Rattle.std.specs.Prelude.{ℕ, true, false, List, [], ◌∷◌, Option, None, Some}
use Rattle.ct_register_worked.specs.Runs.{x, y}
use Rattle.ct_register.specs.Marks.{Mark, Site, Marks, AreMarks, MarksStep, IsCopyAt, IsEntryAt}

abbrev pub mark : ℕ → ℕ → Mark
mark rsn place = record { rsn = rsn; place = place }

-- RSN 0 stands for no version, RSN 2 for the first, and RSN 5 for both
abbrev pub three : List Mark
three = mark 0 0 ∷ mark 2 1 ∷ mark 5 2 ∷ []

abbrev pub versions : List (List ℕ)
versions = x ∷ y ∷ []

abbrev pub at_node : ℕ → ℕ → Option Site
at_node holder least = Some (record { holder = holder; least = least })

-- the record is at node 1, with least RSN 4
abbrev pub three_below : ℕ → Marks
three_below low = record { marks = three; low = low; site = at_node 1 4 }

abbrev pub ThreeAreMarks : Type 0
ThreeAreMarks = AreMarks versions (three_below 6)

-- a copy has the value at its mark, and there is none of an RSN without a mark
abbrev pub CopiesHaveMarks : Type 0
CopiesHaveMarks = IsCopyAt three versions 2 x × IsCopyAt three versions 0 [] × ¬ (IsCopyAt three versions 2 y) × ¬ (IsCopyAt three versions 3 x)

-- an entry's value lies between the marks around its least RSN
abbrev pub EntriesHaveMarks : Type 0
EntriesHaveMarks = IsEntryAt three versions 2 [] × IsEntryAt three versions 2 x × ¬ (IsEntryAt three versions 2 y) × IsEntryAt three versions 4 x × ¬ (IsEntryAt three versions 4 y)

-- one version more raises the place of the last mark, and a new mark comes above all; the record moves on to a least RSN
-- above all
abbrev pub MarksGoOn : Type 0
MarksGoOn =
    MarksStep false (three_below 6) (record { marks = mark 0 0 ∷ mark 2 1 ∷ mark 5 3 ∷ []; low = 6; site = at_node 1 4 }) ×
    MarksStep false (three_below 6) (record { marks = mark 0 0 ∷ mark 2 1 ∷ mark 5 2 ∷ mark 6 2 ∷ []; low = 7; site = at_node 2 6 }) ×
    MarksStep true (three_below 6) (record { marks = []; low = 6; site = None }) ×
    MarksStep false (record { marks = []; low = 6; site = None }) (record { marks = mark 8 0 ∷ []; low = 9; site = at_node 0 8 })

-- no place falls, no other mark changes, none goes but by a vacuum, and none comes below one that there was; no record moves
-- to a least RSN below a mark, or is nowhere but by a vacuum
abbrev pub MarksDoNotGoBack : Type 0
MarksDoNotGoBack =
    ¬ (MarksStep false (three_below 6) (record { marks = mark 0 0 ∷ mark 2 1 ∷ mark 5 1 ∷ []; low = 6; site = at_node 1 4 })) ×
    ¬ (MarksStep false (three_below 6) (record { marks = mark 0 0 ∷ mark 2 2 ∷ mark 5 2 ∷ []; low = 6; site = at_node 1 4 })) ×
    ¬ (MarksStep false (three_below 6) (record { marks = mark 0 0 ∷ mark 2 1 ∷ []; low = 6; site = at_node 1 4 })) ×
    ¬ (MarksStep false (record { marks = []; low = 6; site = None }) (record { marks = mark 5 0 ∷ []; low = 6; site = at_node 0 5 })) ×
    ¬ (MarksStep false (three_below 6) (record { marks = three; low = 6; site = at_node 2 5 })) ×
    ¬ (MarksStep false (three_below 6) (record { marks = three; low = 6; site = None }))
