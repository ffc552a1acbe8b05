-- Deeds that are done one after the other.
use Rattle.std.specs.Prelude.{◌≡◌, ℕ, zero, suc, List, [], ◌++◌, map, Option, None, Some, Result, Ok, Err}
use Rattle.std.specs.List.{flat_map}
use Rattle.ct_rules_cluster.specs.declared.step.Line.{Line}
use Rattle.ct_rules_cluster.specs.declared.step.Step.{Step}
use Rattle.ct_traverse_parts.specs.Moves.{Move, steps_in}
use Rattle.ct_traverse_parts.specs.Walk.{Walk}
use Rattle.ct_traverse_parts.specs.declared.line.TLine.{TLine}
use Rattle.ct_rules_cluster.specs.Cluster.{World}
use Rattle.ct_play_text.specs.declared.what.PlayFault.{PlayFault}
use Rattle.ct_play_text.specs.declared.what.PlayFault.TheVariants.{Refused, NoMemory}
use Rattle.ct_play_text.specs.declared.what.What.{What}

-- a deed: the move that was made, what the cluster printed, and what traverses told
pub record Deed : Type 0 where
  pub move : Move
  pub lines : List Line
  pub told : List TLine

-- the moves of deeds, and the steps among them
abbrev pub moves_of : List Deed → List Move
moves_of deeds = map (λ (d : Deed). d.move) deeds

abbrev pub steps_of : List Deed → List Step
steps_of deeds = steps_in (moves_of deeds)

-- what the cluster printed, and what traverses told
abbrev pub printed : List Deed → List Line
printed deeds = flat_map (λ (d : Deed). d.lines) deeds

abbrev pub told : List Deed → List TLine
told deeds = flat_map (λ (d : Deed). d.told) deeds

-- the cluster and its traverses after some deeds, the lines of text that these print, and they themselves
pub record Effect : Type 0 where
  pub world : World
  pub walk : Walk
  pub texts : List (List ℕ)
  pub deeds : List Deed

-- nothing is done
abbrev pub still : World → Walk → Effect
still w k = record { world = w; walk = k; texts = []; deeds = [] }

-- these texts and deeds, and then those of an effect
abbrev pub after : List (List ℕ) → List Deed → Result Effect What → Result Effect What
after texts deeds (Ok e) = Ok (record { world = e.world; walk = e.walk; texts = texts ++ e.texts; deeds = deeds ++ e.deeds })
after texts deeds (Err what) = Err what

-- an effect, and then what its cluster and its traverses lead to
abbrev pub and_then : Result Effect What → (World → Walk → Result Effect What) → Result Effect What
and_then (Ok e) later = after e.texts e.deeds (later e.world e.walk)
and_then (Err what) later = Err what

-- what comes next, and then what that leads to; nothing more is done where nothing comes
abbrev pub next_first : Option (Result Effect What) → World → Walk → (World → Walk → Result Effect What) → Result Effect What
next_first None w k later = Ok (still w k)
next_first (Some next) w k later = and_then next later

-- up to so many times what comes next, one after the other; fewer where nothing does
unfoldable pub up_to : ℕ → (World → Walk → Option (Result Effect What)) → World → Walk → Result Effect What
up_to zero next w k = Ok (still w k)
up_to (suc m) next w k = next_first (next w k) w k (λ v l. up_to m next v l)

-- ---- in code

-- the new cluster and traverses are those of the effect, and its texts come after these
abbrev pub AddsAll : Result Effect What → List (List ℕ) → World → Walk → List (List ℕ) → Type 0
AddsAll (Ok e) before world walk now = (world ≡ e.world) × (walk ≡ e.walk) × (now ≡ before ++ e.texts)
AddsAll (Err what) before world walk now = ⊥

-- Ok is exactly the effect, and a refusal comes exactly where it is one. Memory may be wanting in place of each.
abbrev pub Adds : Result (Unit {0}) PlayFault → Result Effect What → List (List ℕ) → World → Walk → List (List ℕ) → Type 0
Adds (Ok u) effect before world walk now = AddsAll effect before world walk now
Adds (Err (Refused what)) effect before world walk now = effect ≡ Err what
Adds (Err NoMemory) effect before world walk now = Unit {0}
