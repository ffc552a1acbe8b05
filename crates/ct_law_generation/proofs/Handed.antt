-- Words of the libraries below, handed on to the crates above.
pub use Rattle.ct_law_generation.proofs.Putting.{own_node}
