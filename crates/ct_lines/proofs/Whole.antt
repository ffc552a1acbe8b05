-- The text of a line is read as that line, and as no other.
use Rattle.std.proofs.Common.{◌≡◌, ◌≢◌, ℕ, ◌<◌, ◌≤◌, List, length, Option, Some, None, Result, Ok, Err, IfOk, refl, ap, sym, ◌∙◌}
use Rattle.std.proofs.lemmas.List.Splits.{join_with_byte-slice_split}
use Rattle.std.specs.List.{join_with_byte}
use Rattle.ct_lines.specs.declared.line.LineKind.TheVariants.{Long, Unended, Words, Order, Repeat, Limit}
use Rattle.ct_lines.specs.declared.line.LineKindFault.{LineKindFault}
use Rattle.ct_lines.specs.declared.line.LineKindFault.TheVariants.{Kind, NoMemory}
use Rattle.ct_lines.specs.declared.line.ScenarioLine.{ScenarioLine}
use Rattle.ct_lines.specs.Grammar.{words_of, form, line_of}
use Rattle.ct_lines.specs.Reading.{ReadsLine}
use Rattle.ct_lines.specs.Spelled.{spelled_line, IsInRange}
use Rattle.ct_lines.proofs.Back.{form_back, words_of_spelled}
use Rattle.ct_lines.proofs.Only.{form_only}

-- a line that is read has the text of what it is read as
pub line_only : (line : List ℕ) (item : ScenarioLine) → line_of line ≡ Some item → IsInRange item × (line ≡ spelled_line item)
unfolding line_of
line_only line item h =
    let p = form_only (words_of line) item h in
    (p.0, sym (join_with_byte-slice_split 32 line) ∙ ap (join_with_byte 32) p.1)

-- and the text of a line is read as it
pub line_back : (item : ScenarioLine) → IsInRange item → line_of (spelled_line item) ≡ Some item
unfolding line_of
line_back item h = ap form (words_of_spelled item h) ∙ form_back item h

-- what the answers of reading say of the line
pub found_line : (line : List ℕ) (r : Result ScenarioLine LineKindFault) → ReadsLine r line → IfOk r (λ item. IsInRange item × (line ≡ spelled_line item))
found_line line (Ok item) h = line_only line item h.1
found_line line (Err e) h = tt

pub no_line : (line : List ℕ) (r : Result ScenarioLine LineKindFault) → ReadsLine r line → r ≡ Err (Kind Words) → (item : ScenarioLine) → IsInRange item → line ≢ spelled_line item
no_line line (Ok x) h e item k s = cc
no_line line (Err (Kind Long)) h e item k s = cc
no_line line (Err (Kind Unended)) h e item k s = absurd h
no_line line (Err (Kind Words)) h e item k s =
    let here : Some item ≡ None = sym (line_back item k) ∙ ap line_of (sym s) ∙ h.1 in cc
no_line line (Err (Kind Order)) h e item k s = absurd h
no_line line (Err (Kind Repeat)) h e item k s = absurd h
no_line line (Err (Kind Limit)) h e item k s = absurd h
no_line line (Err NoMemory) h e item k s = cc
