-- Words of the libraries below, handed on to the crates above.
pub use Rattle.ct_actor.proofs.Running.{run_of, starts_run}
