-- A line that is read, and one that is not.
use Rattle.std.proofs.Common.{◌≡◌, ◌∙◌, ℕ, ◌<◌, ◌≤◌, cond, List, length, Option, None, Some, Ok, Err, ap}
use Rattle.std.proofs.lemmas.Bool.{le-ltb, lt-ltb}
use Rattle.ct_call.specs.Rules.{Rules}
use Rattle.ct_lines.specs.Grammar.{line_of}
use Rattle.ct_lines.specs.Places.{refusal}
use Rattle.ct_lines.specs.Reading.{ReadsLine}
use Rattle.ct_lines.specs.declared.line.LineKind.{LineKind}
use Rattle.ct_lines.specs.declared.line.LineKind.TheVariants.{Long, Unended, Words, Order, Repeat, Limit}
use Rattle.ct_lines.specs.declared.line.LineKindFault.TheVariants.{Kind}
use Rattle.ct_lines.specs.declared.line.ScenarioLine.{ScenarioLine}
use Rattle.ct_play.specs.Session.{item_played, line_played, longest, placed}
use Rattle.ct_play.specs.declared.session.Session.{Session}
use Rattle.ct_play_text.specs.declared.what.What.TheVariants as what

-- a line that is not too long
pub short_line : (rules : Rules) (line : List ℕ) (s : Session) (o : Option ScenarioLine) → length line ≤ 65535 → line_of line ≡ o → line_played rules line s ≡ item_played rules o s
unfolding line_played
short_line rules line s o h e = ap (λ b. cond b (Err (what.Line Long)) (item_played rules (line_of line) s)) (le-ltb longest (length line) h) ∙ ap (λ i. item_played rules i s) e

-- one that is
pub long_line : (rules : Rules) (line : List ℕ) (s : Session) → longest < length line → line_played rules line s ≡ Err (what.Line Long)
unfolding line_played
long_line rules line s h = ap (λ b. cond b (Err (what.Line Long)) (item_played rules (line_of line) s)) (lt-ltb longest (length line) h)

pub line_read : (rules : Rules) (line : List ℕ) (s : Session) (item : ScenarioLine) → ReadsLine (Ok item) line → line_played rules line s ≡ placed rules item s (refusal item s.places)
line_read rules line s item h = short_line rules line s (Some item) h.0 h.1

pub line_unread : (rules : Rules) (line : List ℕ) (s : Session) (kind : LineKind) → ReadsLine (Err (Kind kind)) line → line_played rules line s ≡ Err (what.Line kind)
line_unread rules line s Long h = long_line rules line s h
line_unread rules line s Unended h = absurd h
line_unread rules line s Words h = short_line rules line s None h.0 h.1
line_unread rules line s Order h = absurd h
line_unread rules line s Repeat h = absurd h
line_unread rules line s Limit h = absurd h
