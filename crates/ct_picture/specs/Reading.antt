-- What the bytes of a run say, line by line.
use Rattle.std.specs.Prelude.{◌≡◌, ℕ, ◌+◌, ◌-◌, ◌==◌, if◌then◌else◌, List, [], ◌∷◌, ◌++◌, length, take, slice_get, Vec, Option, None, Some, Result, Ok, Err}
use Rattle.std.specs.declared.alloc.Global.{Global}
use Rattle.std.specs.List.{slice_split}
use Rattle.ct_picture.specs.declared.row.Row.{Row}
use Rattle.ct_picture.specs.declared.reading.RunFault.{RunFault}
use Rattle.ct_picture.specs.declared.reading.RunFault.TheVariants.{Line, NoMemory}
use Rattle.ct_picture.specs.Rows.{or_empty, row_of}

-- the rows, or the number of the first line that has no reading
abbrev pub Run : Type 0
Run = Result (List Row) ℕ

-- these rows come first
abbrev pub behind : List Row → Run → Run
behind done (Ok rows) = Ok (done ++ rows)
behind done (Err n) = Err n

-- a row comes first, or the line with this number has no reading
abbrev pub with_row : Option Row → ℕ → Run → Run
with_row None n later = Err n
with_row (Some row) n later = behind (row ∷ []) later

-- what stands behind the last line feed is no line
abbrev pub at_end : List ℕ → ℕ → Run
at_end [] n = Ok []
at_end (b ∷ bs) n = Err n

-- lines, the first of which has this number, and what stands behind the last line feed
abbrev pub run_from : ℕ → List (List ℕ) → List ℕ → Run
run_from n [] rest = at_end rest n
run_from n (line ∷ lines) rest = with_row (row_of line) n (run_from (n + 1) lines rest)

-- the parts between line feeds
abbrev pub parts_of : List ℕ → List (List ℕ)
parts_of bytes = slice_split (λ b. b == 10) bytes

-- all parts but the last are lines, and it is what stands behind the last line feed
abbrev pub lines_of : List (List ℕ) → List (List ℕ)
lines_of parts = take (length parts - 1) parts

abbrev pub rest_of : List (List ℕ) → List ℕ
rest_of parts = or_empty (slice_get parts (length parts - 1))

-- the run of parts
abbrev pub run_in : List (List ℕ) → Run
run_in parts = run_from 1 (lines_of parts) (rest_of parts)

-- the run that the bytes are
abbrev pub run_of : List ℕ → Run
run_of bytes = run_in (parts_of bytes)

-- Ok has the rows, and `Line` the number of the first line that has no reading.
abbrev pub ReadsRun : Result (Vec Row Global) RunFault → Run → Type 0
ReadsRun (Ok rows) run = run ≡ Ok rows.items
ReadsRun (Err (Line n)) run = run ≡ Err n
ReadsRun (Err NoMemory) run = Unit {0}
