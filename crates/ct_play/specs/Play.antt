-- What a list of bytes makes of a scenario.
use Rattle.std.specs.Prelude.{◌≡◌, ℕ, ◌+◌, ◌==◌, nat_lt, if◌then◌else◌, List, [], ◌∷◌, ◌++◌, length, Option, None, Some, Result, Ok, Err}
use Rattle.std.specs.List.{flat_map}
use Rattle.ct_call.specs.Rules.{Rules}
use Rattle.ct_rules_cluster.specs.Cluster.{opening, World}
use Rattle.ct_rules_cluster.specs.Traces.{ran}
use Rattle.ct_lines.specs.declared.line.LineKind.TheVariants.{Long}
use Rattle.ct_rules_config.specs.Configured.{IsConfig}
use Rattle.ct_traverse_parts.specs.Moves.{moves_ran}
use Rattle.ct_traverse_parts.specs.Walk.{Walk, no_walk}
use Rattle.ct_play.specs.Course.{Deed, moves_of, printed, steps_of, told}
use Rattle.ct_play.specs.Session.{Played, line_played, longest, pending_texts, start}
use Rattle.ct_play.specs.declared.session.Session.{Session}
use Rattle.ct_play_text.specs.declared.what.What.{What}
use Rattle.ct_play_text.specs.declared.what.What.TheVariants as what

-- the whole lines of some bytes, each without its line feed, where this line was begun
abbrev pub lines_after : List ℕ → List ℕ → List (List ℕ)
lines_after line [] = []
lines_after line (x ∷ xs) = if x == 10 then line ∷ lines_after [] xs else lines_after (line ++ x ∷ []) xs

-- what follows the last line feed
abbrev pub rest_after : List ℕ → List ℕ → List ℕ
rest_after line [] = line
rest_after line (x ∷ xs) = if x == 10 then rest_after [] xs else rest_after (line ++ x ∷ []) xs

-- texts, one after the other
abbrev pub all_text : List (List ℕ) → List ℕ
all_text texts = flat_map (λ t. t) texts

-- a run: the text and the deeds of the lines before the first that is refused, how many these are, why that one is
-- refused, and the session after them
pub record Run : Type 0 where
  pub text : List ℕ
  pub deeds : List Deed
  pub count : ℕ
  pub refusal : Option What
  pub session : Session

-- no line, and none refused or one refused at once
abbrev pub ended : Option What → Session → Run
ended refusal s = record { text = []; deeds = []; count = 0; refusal = refusal; session = s }

-- a run after what was printed and done before it, and some lines
abbrev pub preceded : List ℕ → List Deed → ℕ → Run → Run
preceded text deeds count r = record { text = text ++ r.text; deeds = deeds ++ r.deeds; count = count + r.count; refusal = r.refusal; session = r.session }

-- a run after one line, where later says how it goes on
abbrev pub continued : Result Played What → Session → (Session → Run) → Run
continued (Ok p) s later = preceded (all_text p.texts) p.deeds 1 (later p.session)
continued (Err what) s later = ended (Some what) s

-- whole lines, one after the other
abbrev pub run_lines : Rules → Session → List (List ℕ) → Run
run_lines rules s [] = ended None s
run_lines rules s (l ∷ ls) = continued (line_played rules l s) s (λ t. run_lines rules t ls)

-- a rest that is longer than a line may be is refused
abbrev pub refusal_after : ℕ → Option What → Option What
refusal_after rest None = if nat_lt longest rest then Some (what.Line Long) else None
refusal_after rest (Some what) = Some what

abbrev pub with_rest : ℕ → Run → Run
with_rest rest r = record { text = r.text; deeds = r.deeds; count = r.count; refusal = refusal_after rest r.refusal; session = r.session }

-- the bytes played on from a session and a line that was begun
unfoldable pub run_from : Rules → Session → List ℕ → List ℕ → Run
run_from rules s line bytes = with_rest (length (rest_after line bytes)) (run_lines rules s (lines_after line bytes))

-- the lines and the rest of an input, and the run that it gives
abbrev pub rest : List ℕ → List ℕ
rest bytes = rest_after [] bytes

abbrev pub played : Rules → List ℕ → Run
played rules bytes = run_from rules start [] bytes

-- the text of the calls and the traverses that wait after a run
abbrev pub pending_text_of : Run → List ℕ
pending_text_of r = all_text (pending_texts r.session)

-- ---- what a run of a scenario is

-- Before a cluster was opened no step was taken. Else the steps that were taken, one after the other from the opening of its
-- configuration, lead to it, and print the lines that were printed.
abbrev pub IsRunOf : Rules → Option World → List Deed → Type 0
IsRunOf rules None deeds = deeds ≡ []
IsRunOf rules (Some w) deeds =
    IsConfig w.config × ((ran w.config rules (opening w.config) [] (steps_of deeds)).cluster ≡ w.cluster) × ((ran w.config rules (opening w.config) [] (steps_of deeds)).lines ≡ printed deeds)

-- so it is after every list of bytes
abbrev pub RunsAreRuns : Type 0
RunsAreRuns = (rules : Rules) (bytes : List ℕ) → IsRunOf rules (played rules bytes).session.world (played rules bytes).deeds

-- Before a cluster was opened nothing was done. Else the moves that were made, one after the other from the opening of its
-- configuration, lead to it and to its traverses, and what they print and tell is what was printed and told.
abbrev pub AreMovesOf : Rules → Option World → Walk → List Deed → Type 0
AreMovesOf rules None k deeds = (deeds ≡ []) × (k ≡ no_walk)
AreMovesOf rules (Some w) k deeds = let run = moves_ran w.config rules (opening w.config) [] no_walk (moves_of deeds) in
    IsConfig w.config × (run.ran.cluster ≡ w.cluster) × (run.walk ≡ k) × (run.ran.lines ≡ printed deeds) × (run.told ≡ told deeds)

-- so it is after every list of bytes
abbrev pub RunsAreMoves : Type 0
RunsAreMoves = (rules : Rules) (bytes : List ℕ) → let run = played rules bytes in AreMovesOf rules run.session.world run.session.walker run.deeds
