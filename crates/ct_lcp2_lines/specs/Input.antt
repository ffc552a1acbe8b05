-- What an input says: its whole lines in order, up to the first that is refused.
use Rattle.std.specs.Prelude.{ℕ, ◌+◌, nat_lt, if◌then◌else◌, List, [], ◌∷◌, length, Option, None, Some}
use Rattle.ct_lines.specs.declared.line.LineKind.{LineKind}
use Rattle.ct_lines.specs.declared.line.LineKind.TheVariants.{Long}
use Rattle.ct_lcp2_lines.specs.Lines.{lines_after, rest_after}
use Rattle.ct_lcp2_lines.specs.Placing.{Given, nothing_given, refusal, with_line}

-- what the lines before the first that is refused say, how many these are, and why that one is refused
pub record Input : Type 0 where
  pub given : Given
  pub count : ℕ
  pub refusal : Option LineKind

-- so many lines, and none refused after them or one refused at once
abbrev pub ended : ℕ → Given → Option LineKind → Input
ended n g refusal = record { given = g; count = n; refusal = refusal }

-- a line that is not refused and what follows it, or one that is
abbrev pub continued : Option LineKind → ℕ → Given → Input → Input
continued None n g later = later
continued (Some kind) n g later = ended n g (Some kind)

-- whole lines, one after the other, after so many others and what those say
abbrev pub read_lines : ℕ → Given → List (List ℕ) → Input
read_lines n g [] = ended n g None
read_lines n g (l ∷ ls) = continued (refusal l g) n g (read_lines (n + 1) (with_line l g) ls)

-- a rest that is longer than a line may be is refused
abbrev pub refusal_after : ℕ → Option LineKind → Option LineKind
refusal_after rest None = if nat_lt 65535 rest then Some Long else None
refusal_after rest (Some kind) = Some kind

abbrev pub with_rest : ℕ → Input → Input
with_rest rest r = record { given = r.given; count = r.count; refusal = refusal_after rest r.refusal }

-- the bytes read on after so many lines and what they say, where this line was begun
unfoldable pub read_from : ℕ → Given → List ℕ → List ℕ → Input
read_from n g line bytes = with_rest (length (rest_after line bytes)) (read_lines n g (lines_after line bytes))

-- what follows the last line feed of an input, and what its lines say
abbrev pub rest : List ℕ → List ℕ
rest bytes = rest_after [] bytes

abbrev pub read : List ℕ → Input
read bytes = read_from 0 nothing_given [] bytes
