-- A count beside another.
use Rattle.std.proofs.Common.{ℕ, ◌+◌, Bool, arith}
use Rattle.ct_outside.specs.Causes.{Rose}
use Rattle.ct_outside.specs.Told.{RisesWhere}

rose_beside : (other before now : ℕ) → Rose before now → Rose (before + other) (now + other)
rose_beside other before now rose = omega (arith, rose)

-- a count and another that stays
pub rises_before : (happened : Bool) (other before now : ℕ) → RisesWhere happened before now → RisesWhere happened (before + other) (now + other)
rises_before happened other before now h = record { later = (let l = h.later in omega arith); rose = λ e. rose_beside other before now (h.rose e) }

pub rises_behind : (happened : Bool) (other before now : ℕ) → RisesWhere happened before now → RisesWhere happened (other + before) (other + now)
rises_behind happened other before now h = record { later = (let l = h.later in omega arith); rose = λ e. (let r = h.rose e in omega (arith, r)) }
