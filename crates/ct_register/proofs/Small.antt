-- Small facts, apart from all that a proof has in reach.
use Rattle.std.proofs.Common.{◌<◌, ◌≤◌, ◌+◌, arith, ◌≡◌, ◌≢◌, ℕ}
use Rattle.std.specs.Prelude.{None, Some}

pub one_not_zero : ◌≢◌ {A = ℕ} 1 0
one_not_zero = λ e. cc

pub none_not_some : {X : Type 0} {x : X} → None ≡ Some x → ⊥
none_not_some e = absurd (cc)

pub some_not_none : {X : Type 0} {x : X} → Some x ≡ None → ⊥
some_not_none e = absurd (cc)

-- numbers, apart from all that a run has in reach
pub nought : (n : ℕ) → 0 ≤ n
nought n = omega arith

pub same : (n : ℕ) → n ≤ n
same n = omega arith

pub below_next : (n : ℕ) → n < n + 1
below_next n = omega arith

pub up_to : (m n : ℕ) → m < n + 1 → m ≤ n
up_to m n h = omega arith

pub not_below : {n : ℕ} → n < n → ⊥
not_below h = absurd (omega arith)
