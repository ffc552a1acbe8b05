-- What a reader of a word or a line answers.
use Rattle.std.specs.Prelude.{◌≡◌, ◌<◌, ◌≤◌, ℕ, List, length, Vec, Option, None, Some, Result, Ok, Err}
use Rattle.std.specs.declared.alloc.Global.{Global}
use Rattle.ct_lines.specs.declared.line.LineKind.TheVariants.{Long, Unended, Words, Order, Repeat, Limit}
use Rattle.ct_lines.specs.declared.line.LineKindFault.{LineKindFault}
use Rattle.ct_lines.specs.declared.line.LineKindFault.TheVariants.{Kind, NoMemory}
use Rattle.ct_lines.specs.declared.line.ScenarioLine.{ScenarioLine}
use Rattle.ct_lines.specs.declared.line.WordFault.{WordFault}
use Rattle.ct_lines.specs.declared.line.WordFault.TheVariants.{NoForm, NoMemory as Want}
use Rattle.ct_lines.specs.Grammar.{line_of}

-- Ok has what the grammar gives, and `NoForm` comes exactly where it gives nothing.
abbrev pub Reads : {T : Type 0} → Result T WordFault → Option T → Type 0
Reads (Ok x) said = said ≡ Some x
Reads (Err NoForm) said = said ≡ None
Reads (Err Want) said = Unit {0}

-- The same of a vector's bytes.
abbrev pub ReadsBytes : Result (Vec ℕ Global) WordFault → Option (List ℕ) → Type 0
ReadsBytes (Ok v) word = word ≡ Some v.items
ReadsBytes (Err NoForm) word = word ≡ None
ReadsBytes (Err Want) word = Unit {0}

-- Ok has the line that the bytes are. `Long` comes exactly where they are more than 65,535, and else `Words` exactly
-- where they are no line. No other kind comes.
abbrev pub ReadsLine : Result ScenarioLine LineKindFault → List ℕ → Type 0
ReadsLine (Ok item) line = (length line ≤ 65535) × (line_of line ≡ Some item)
ReadsLine (Err (Kind Long)) line = 65535 < length line
ReadsLine (Err (Kind Unended)) line = ⊥
ReadsLine (Err (Kind Words)) line = (length line ≤ 65535) × (line_of line ≡ None)
ReadsLine (Err (Kind Order)) line = ⊥
ReadsLine (Err (Kind Repeat)) line = ⊥
ReadsLine (Err (Kind Limit)) line = ⊥
ReadsLine (Err NoMemory) line = Unit {0}
