-- Moves of a cluster and of its traverses, one after the other.
use Rattle.std.specs.Prelude.{List, [], ◌∷◌, ◌++◌, ℕ, Result, Ok, Err}
use Rattle.std.specs.List.{filter, flat_map}
use Rattle.ct_values.specs.declared.config.Config.{Config}
use Rattle.ct_call.specs.Rules.{Rules}
use Rattle.ct_rules_cluster.specs.Cluster.{Cluster, World}
use Rattle.ct_rules_cluster.specs.Traces.{OpenCall, Ran, after, idle, ran_one}
use Rattle.ct_rules_cluster.specs.declared.step.Step.{Step}
use Rattle.ct_traverse_parts.specs.Walk.{Walk, Walked, begun, carried, end_lines, goes_on, lost, repeated}
use Rattle.ct_traverse_parts.specs.declared.line.TFault.{TFault}
use Rattle.ct_traverse_parts.specs.declared.line.TLine.{TLine}

-- a step of the cluster; or a node begins a traverse of a database, or a message of this number comes, is lost, or comes again
pub data Move : Type 0 where
  Stepped : (step : Step) → Move
  Begin : (node db : ℕ) → Move
  Carry : (number : ℕ) → Move
  Lose : (number : ℕ) → Move
  Again : (number : ℕ) → Move

-- the step of a move, if it is one
abbrev pub step_of : Move → List Step
step_of (Stepped s) = s ∷ []
step_of (Begin n db) = []
step_of (Carry k) = []
step_of (Lose k) = []
step_of (Again k) = []

-- the steps among moves
abbrev pub steps_in : List Move → List Step
steps_in moves = flat_map step_of moves

-- behind a step, in the cluster that it led to: the traverses whose node is in its generation no more end
abbrev pub going_on : World → Walk → Walked
going_on w walk = record { walk = record walk { running = filter (goes_on w) walk.running }; lines = end_lines w walk.running }

-- a call of traverses, where it is not refused; one that is refused changes nothing and prints nothing
abbrev pub walked_or : Walk → Result Walked TFault → Walked
walked_or walk (Ok x) = x
walked_or walk (Err f) = record { walk = walk; lines = [] }

-- what a move does to traverses; for a step, in the cluster behind it
unfoldable pub walked_by : Move → World → Walk → Walked
walked_by (Stepped s) w walk = going_on w walk
walked_by (Begin n db) w walk = walked_or walk (begun n db w walk)
walked_by (Carry k) w walk = walked_or walk (carried k w walk)
walked_by (Lose k) w walk = walked_or walk (lost k walk)
walked_by (Again k) w walk = walked_or walk (repeated k w walk)

-- what a move does to the cluster, in which these calls are open: a step is taken, and no other move changes anything
unfoldable pub stepped_by : Config → Rules → Cluster → List OpenCall → Move → Ran
stepped_by c rules w log (Stepped s) = ran_one c rules w log s
stepped_by c rules w log m = idle w log

-- the cluster and the traverses after moves, with what the moves printed and told
pub record Moved : Type 0 where
  pub ran : Ran
  pub walk : Walk
  pub told : List TLine

-- one move
abbrev pub moved : Config → Rules → Cluster → List OpenCall → Walk → Move → Moved
moved c rules w log walk m = let ran = stepped_by c rules w log m in let x = walked_by m (record { config = c; cluster = ran.cluster }) walk in record { ran = ran; walk = x.walk; told = x.lines }

-- some moves and then others
abbrev pub and_more : Moved → Moved → Moved
and_more x y = record { ran = after x.ran y.ran; walk = y.walk; told = x.told ++ y.told }

-- all moves, one after the other
unfoldable pub moves_ran : Config → Rules → Cluster → List OpenCall → Walk → List Move → Moved
moves_ran c rules w log walk [] = record { ran = idle w log; walk = walk; told = [] }
moves_ran c rules w log walk (m ∷ ms) = let x = moved c rules w log walk m in and_more x (moves_ran c rules x.ran.cluster x.ran.log x.walk ms)
