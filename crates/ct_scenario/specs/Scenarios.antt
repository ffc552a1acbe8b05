-- A scenario: lines that are each in their place, and their text.
use Rattle.std.specs.Prelude.{◌≡◌, ℕ, ◌+◌, ◌≤◌, ◌==◌, nat_lt, if◌then◌else◌, List, [], ◌∷◌, ◌++◌, length, Option, None, Some, Result, Ok, Err, Vec}
use Rattle.std.specs.declared.alloc.Global.{Global}
use Rattle.std.specs.List.{slice_split}
use Rattle.ct_lines.specs.Grammar.{line_of}
use Rattle.ct_lines.specs.Places.{Accepted, nothing_accepted, refusal, with_line}
use Rattle.ct_lines.specs.Spelled.{IsInRange, spelled_line}
use Rattle.ct_lines.specs.declared.line.LineKind.{LineKind}
use Rattle.ct_lines.specs.declared.line.LineKind.TheVariants.{Long, Unended, Words}
use Rattle.ct_lines.specs.declared.line.LineKindFault.{LineKindFault}
use Rattle.ct_lines.specs.declared.line.LineKindFault.TheVariants as fault
use Rattle.ct_lines.specs.declared.line.ScenarioLine.{ScenarioLine}
use Rattle.ct_scenario.specs.declared.scenario.LineFault.{LineFault}
use Rattle.ct_scenario.specs.declared.scenario.LineFault.TheVariants.{At, NoMemory}
use Rattle.ct_scenario.specs.declared.scenario.Scenario.{Scenario}

-- ---- the text

-- the text of lines: each one, and a line feed behind it
unfoldable pub text_of : List ScenarioLine → List ℕ
text_of [] = []
text_of (x ∷ xs) = spelled_line x ++ 10 ∷ text_of xs

-- Behind lines that said this, each of these lines has its words in their ranges and at most 65,535 bytes, and is in its place
unfoldable pub AreInPlace : Accepted → List ScenarioLine → Type 0
AreInPlace a [] = Unit {0}
AreInPlace a (x ∷ xs) = IsInRange x × (length (spelled_line x) ≤ 65535) × (refusal x a ≡ None) × AreInPlace (with_line x a) xs

-- Scenario: each of these lines is in its place from the first on
abbrev pub IsScenario : List ScenarioLine → Type 0
IsScenario lines = AreInPlace nothing_accepted lines

-- ---- reading

abbrev pub placed_line : ScenarioLine → Option LineKind → Result ScenarioLine LineKind
placed_line x None = Ok x
placed_line x (Some kind) = Err kind

abbrev pub said_line : Accepted → Option ScenarioLine → Result ScenarioLine LineKind
said_line a None = Err Words
said_line a (Some x) = placed_line x (refusal x a)

-- one line, without its line feed: it is too long, it has none of the forms, or it is out of its place
unfoldable pub line_read : Accepted → List ℕ → Result ScenarioLine LineKind
line_read a bytes = if nat_lt 65535 (length bytes) then Err Long else said_line a (line_of bytes)

-- what follows the last line feed is nothing, or a line that is not ended
abbrev pub rest_kind : List ℕ → LineKind
rest_kind bytes = if nat_lt 65535 (length bytes) then Long else Unended

unfoldable pub rest_read : ℕ → List ℕ → Result (List ScenarioLine) LineFault
rest_read n [] = Ok []
rest_read n (b ∷ bs) = Err (At n (rest_kind (b ∷ bs)))

-- these lines, and then others
abbrev pub after_lines : List ScenarioLine → Result (List ScenarioLine) LineFault → Result (List ScenarioLine) LineFault
after_lines xs (Ok ys) = Ok (xs ++ ys)
after_lines xs (Err f) = Err f

-- a line of this number, and then others
abbrev pub before_lines : ℕ → Result ScenarioLine LineKind → (ScenarioLine → Result (List ScenarioLine) LineFault) → Result (List ScenarioLine) LineFault
before_lines n (Ok x) later = after_lines (x ∷ []) (later x)
before_lines n (Err kind) later = Err (At n kind)

-- pieces that are cut at each line feed, from this number on: all but the last are lines
unfoldable pub lines_read : ℕ → Accepted → List (List ℕ) → Result (List ScenarioLine) LineFault
lines_read n a [] = Ok []
lines_read n a (p ∷ []) = rest_read n p
lines_read n a (p ∷ q ∷ qs) = before_lines n (line_read a p) (λ x. lines_read (n + 1) (with_line x a) (q ∷ qs))

-- Scenario: the lines that bytes are, or the first line that is refused, counted from 1, and why
unfoldable pub scenario_of : List ℕ → Result (List ScenarioLine) LineFault
scenario_of bytes = lines_read 1 nothing_accepted (slice_split (λ b. b == 10) bytes)

-- ---- in code

-- the fault of a line at its number
abbrev pub fault_at : ℕ → LineKindFault → LineFault
fault_at n (fault.Kind kind) = At n kind
fault_at n fault.NoMemory = NoMemory

-- Ok adds the line that these bytes are, in its place; a fault is its own. Memory may be wanting in place of each.
abbrev pub AddsLine : Result (Unit {0}) LineFault → ℕ → List ℕ → Accepted → Accepted → List ScenarioLine → List ScenarioLine → Type 0
AddsLine (Ok u) n bytes old new before now = (x : ScenarioLine) × (line_read old bytes ≡ Ok x) × (new ≡ with_line x old) × (now ≡ before ++ x ∷ [])
AddsLine (Err (At m kind)) n bytes old new before now = (m ≡ n) × (line_read old bytes ≡ Err kind)
AddsLine (Err NoMemory) n bytes old new before now = Unit {0}

-- so many lines were read, and then these pieces
abbrev pub so_far : List ScenarioLine → Accepted → List (List ℕ) → Result (List ScenarioLine) LineFault
so_far xs a ps = after_lines xs (lines_read (length xs + 1) a ps)

-- Ok has all lines but the rest, and a fault is what was read. Memory may be wanting in place of each.
abbrev pub AddsLines : Result (Unit {0}) LineFault → Result (List ScenarioLine) LineFault → Accepted → List ScenarioLine → List ℕ → Type 0
AddsLines (Ok u) read a xs rest = so_far xs a (rest ∷ []) ≡ read
AddsLines (Err (At n kind)) read a xs rest = read ≡ Err (At n kind)
AddsLines (Err NoMemory) read a xs rest = Unit {0}

-- Ok where nothing follows the last line feed, and a fault is its own
abbrev pub EndsLines : Result (Unit {0}) LineFault → ℕ → List ℕ → Type 0
EndsLines (Ok u) n bytes = bytes ≡ []
EndsLines (Err (At m kind)) n bytes = rest_read n bytes ≡ Err (At m kind)
EndsLines (Err NoMemory) n bytes = ⊥

-- Ok has the lines that were read, and a fault is theirs. Memory may be wanting in place of each.
abbrev pub ReadsLines : Result (Vec ScenarioLine Global) LineFault → Result (List ScenarioLine) LineFault → Type 0
ReadsLines (Ok xs) read = read ≡ Ok xs.items
ReadsLines (Err (At n kind)) read = read ≡ Err (At n kind)
ReadsLines (Err NoMemory) read = Unit {0}

-- Ok has the lines that the bytes are, and a fault is the first line that is refused. Memory may be wanting in place of each.
abbrev pub ReadsScenario : Result Scenario LineFault → List ℕ → Type 0
ReadsScenario (Ok x) bytes = scenario_of bytes ≡ Ok x.lines
ReadsScenario (Err (At n kind)) bytes = scenario_of bytes ≡ Err (At n kind)
ReadsScenario (Err NoMemory) bytes = Unit {0}
