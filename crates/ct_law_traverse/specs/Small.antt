-- A small list of moves in which a traverse is answered.
use Rattle.std.specs.Prelude.{◌≡◌, List, [], ◌∷◌}
use Rattle.ct_values.specs.declared.client.ClientOp.TheVariants as op
use Rattle.ct_rules_cluster.specs.Cluster.{opening}
use Rattle.ct_rules_cluster.specs.declared.step.Step.TheVariants as step
use Rattle.ct_promise.specs.Promises.{IsConfig}
use Rattle.ct_promise.specs.Small.{config, a, x}
use Rattle.ct_traverse_parts.specs.Walk.{no_walk}
use Rattle.ct_traverse_parts.specs.Moves.{Move, Stepped, Begin, Carry, moves_ran}
use Rattle.ct_traverse_parts.specs.declared.line.Pass.TheVariants.{Copies, Entries}
use Rattle.ct_traverse_parts.specs.declared.line.TLine.{TLine}
use Rattle.ct_traverse_parts.specs.declared.line.TLine.TheVariants as line

-- of two nodes node 1 writes a value, node 0 begins a traverse, and all its messages come, one after the other
abbrev pub moves : List Move
moves =
    Stepped (step.Client 1 (op.Write 1 a x)) ∷
    Begin 0 1 ∷
    Carry 1 ∷
    Carry 2 ∷
    Carry 3 ∷
    Carry 4 ∷
    Carry 5 ∷
    Carry 6 ∷
    Carry 7 ∷
    Carry 8 ∷
    []

-- each node is asked in both passes, node 1 alone has a row in each, and the value is shown
abbrev pub told : List TLine
told =
    line.Asked 1 0 0 1 1 Copies ∷
    line.Asked 2 0 1 1 1 Copies ∷
    line.Rows 3 0 0 1 1 Copies 0 ∷
    line.Rows 4 1 0 1 1 Copies 1 ∷
    line.Asked 5 0 0 1 1 Entries ∷
    line.Asked 6 0 1 1 1 Entries ∷
    line.Rows 7 0 0 1 1 Entries 0 ∷
    line.Rows 8 1 0 1 1 Entries 1 ∷
    line.Shown (record { key = a; value = x } ∷ []) ∷
    []

-- so there is an answer of which the law of traverses speaks
abbrev pub AnswerIsThere : Type 0
AnswerIsThere = IsConfig config × ((moves_ran config [] (opening config) [] no_walk moves).told ≡ told)
