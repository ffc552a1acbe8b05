-- Words of the libraries below, handed on to the crates above.
pub use Rattle.ct_law_run.proofs.Freezing.{HasCome}
pub use Rattle.ct_law_run.proofs.Arriving.{freezeack_turned, freezes_turned, pushack_turned}
pub use Rattle.ct_law_run.proofs.Rounding.{pull_turned}
pub use Rattle.ct_law_run.proofs.Wordless.{nothing_turned, wordless_turned}
