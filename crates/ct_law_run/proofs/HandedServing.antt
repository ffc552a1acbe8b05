-- Words of the libraries below, handed on to the crates above.
pub use Rattle.ct_law_run.proofs.Again.{retry_turned}
pub use Rattle.ct_law_run.proofs.Declining.{refusal_turned}
pub use Rattle.ct_law_run.proofs.Finishing.{read_turned, store_turned, unlock_turned}
pub use Rattle.ct_law_run.proofs.Held.{outs_labels}
