use Rattle.std.proofs.Common.{◌≡◌, ◌≤◌, ◌+◌, ◌^◌, length, take}
use Rattle.ct_persist.specs.Persisted.{written}
use Rattle.ct_persist.proofs.store.PStore.fits.Given as goal

abbrev pub invariant-loop-i : goal.invariant-loop-i
invariant-loop-i l = (l.count ≡ length (written (take l.i l.writes) l.self.pairs)) × (l.count ≤ l.i + 2 ^ 64)
