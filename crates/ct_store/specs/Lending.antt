-- What a store is after a write through `get_mut`.
use Rattle.std.specs.Prelude.{ℕ, List, Option, OnSome, ◌≡◌}
use Rattle.std.specs.Borrow.{LendsSo, MutBor, Fml, RattleType}
use Rattle.ct_store.specs.Map.{Pairs, write}
use Rattle.ct_store.specs.contracts.plain.PlainStore as plain
use Rattle.ct_store.specs.contracts.hashed.Store as hashed

-- s ends with the last item behind r at the key, or as it was if there is none
abbrev pub LendsItem : (T : RattleType) → MutBor (Pairs T.Denot) → List ℕ → Option (MutBor T.Denot) → Fml
LendsItem T s key r = LendsSo (plain.the_row T) T s r (λ n w. OnSome r (n ≡ write key w s.now)) (λ n. n ≡ s.now)

-- the same of a hashed store
abbrev pub LendsHashed : (T : RattleType) → MutBor (Pairs T.Denot) → List ℕ → Option (MutBor T.Denot) → Fml
LendsHashed T s key r = LendsSo (hashed.the_row T) T s r (λ n w. OnSome r (n ≡ write key w s.now)) (λ n. n ≡ s.now)
