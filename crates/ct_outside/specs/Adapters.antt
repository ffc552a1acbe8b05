-- A reader or a writer whose failures are counted.
use Rattle.std.specs.Prelude.{ℕ}

pub record Counted (A : Type 0) : Type 0 where
  pub inner : A
  pub faults : ℕ
