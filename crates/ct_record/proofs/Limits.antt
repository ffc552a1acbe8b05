-- The last number of a message is below 2^62.
use Rattle.std.proofs.Common.{◌≡◌, ℕ, ◌<◌, ◌^◌, Bool, true, false, ◌&&◌, nat_lt, arith}
use Rattle.std.proofs.lemmas.Bool.Decides.{nat_tests}

pub limit_last : (b : Bool) (n : ℕ) → b && nat_lt n (2 ^ 62) ≡ true → n < 2 ^ 62
limit_last true n h = grind (arith, nat_tests)
limit_last false n h = grind (arith, nat_tests)
