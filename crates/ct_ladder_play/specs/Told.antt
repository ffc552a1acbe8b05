-- What is claimed of the ladder of a scenario: it tells the run that a play of the scenario prints.
use Rattle.std.specs.Prelude.{◌≡◌, ◌≢◌, ◌⊎◌, ℕ, ◌+◌, Bool, if◌then◌else◌, List, [], ◌∷◌, ◌++◌, map, None, Ok, Err}
use Rattle.std.specs.List.{flat_map}
use Rattle.ct_call.specs.Rules.{Rules}
use Rattle.ct_play.specs.Play.{Run, all_text, lines_after, pending_text_of, played, rest}
use Rattle.ct_ladder.specs.declared.rung.Rung.{Rung}
use Rattle.ct_ladder.specs.declared.rung.Shown.{Shown}
use Rattle.ct_ladder.specs.declared.rung.Shown.TheVariants as shown
use Rattle.ct_ladder_play.specs.Playing.{without_feed, ladder_from}
use Rattle.ct_ladder_play.specs.declared.playing.Ladder.{Ladder}

-- the line of the run that is shown, if one is
abbrev pub run_shown : Shown → List (List ℕ)
run_shown shown.Nothing = []
run_shown (shown.Told row) = row.line ∷ []
run_shown (shown.Said said) = []

-- the line of the scenario that is shown, if one is
abbrev pub said_shown : Shown → List (List ℕ)
said_shown shown.Nothing = []
said_shown (shown.Told row) = []
said_shown (shown.Said said) = said ∷ []

-- the lines of the run, and those of the scenario, that rows show, in order
abbrev pub run_lines_in : List Rung → List (List ℕ)
run_lines_in rungs = flat_map (λ (r : Rung). run_shown r.shown) rungs

abbrev pub said_lines_in : List Rung → List (List ℕ)
said_lines_in rungs = flat_map (λ (r : Rung). said_shown r.shown) rungs

-- The rows show each text that the run prints, and each that waits at its end, without its line feed, exactly once and in order;
-- and so the lines of the scenario, where they are shown. No line was refused.
pub record TellsPlay (is_shown : Bool) (lines : List (List ℕ)) (run : Run) (l : Ladder) : Type 0 where
  pub texts : List (List ℕ)
  pub told : run_lines_in l.rungs ≡ map without_feed texts
  pub printed : all_text texts ≡ run.text ++ pending_text_of run
  pub said : said_lines_in l.rungs ≡ (if is_shown then lines else [])
  pub good : run.refusal ≡ None

-- it is so of each scenario that has a ladder, and nothing stands behind its last line feed
abbrev pub LaddersTellPlays : Type 0
LaddersTellPlays = (rules : Rules) (is_shown : Bool) (bytes : List ℕ) (l : Ladder) → ladder_from rules is_shown bytes ≡ Ok l → TellsPlay is_shown (lines_after [] bytes) (played rules bytes) l × (rest bytes ≡ [])

-- where there is none, the line of the number that is told is the first that a play refuses, or the one that the input ends in
abbrev pub LaddersAreRefused : Type 0
LaddersAreRefused = (rules : Rules) (is_shown : Bool) (bytes : List ℕ) (n : ℕ) → ladder_from rules is_shown bytes ≡ Err n → (((played rules bytes).refusal ≢ None) ⊎ (rest bytes ≢ [])) × ((played rules bytes).count + 1 ≡ n)
