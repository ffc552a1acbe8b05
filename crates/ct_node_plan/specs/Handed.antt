-- Words of the libraries below, handed on to the crates above.
pub use Rattle.ct_node_state.specs.Goes.{Goes}
pub use Rattle.ct_node_state.specs.Whole.{left_as}
pub use Rattle.ct_node_state.specs.declared.turn.CoreFault.{CoreFault}
pub use Rattle.ct_node_state.specs.declared.turn.CoreFault.TheVariants.{Exhausted, NoMemory}
