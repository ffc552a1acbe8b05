-- The changes of all states of a database.
use Rattle.ct_rules.specs.declared.state.RecState.{RecState}
use Rattle.ct_rules_node.specs.Rounds.{frozen_state, bared}
use Rattle.ct_node_database.specs.declared.database.Sweep.{Sweep}
use Rattle.ct_node_database.specs.declared.database.Sweep.TheVariants.{Keep, Freeze, Bare}

-- what becomes of each state
unfoldable pub swept : Sweep → RecState → RecState
swept Keep s = s
swept Freeze s = frozen_state s
swept Bare s = bared s
