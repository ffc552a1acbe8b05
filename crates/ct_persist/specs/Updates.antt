-- Updates one after the other, and the contents after a list of commits.
use Rattle.std.specs.Prelude.{ℕ, ◌+◌, nat_eq, Bool, true, ◌&&◌, List, [], ◌∷◌}
use Rattle.ct_values.specs.declared.client.Pair.{Pair}
use Rattle.ct_store.specs.Map.{Pairs}
use Rattle.ct_persist.specs.Persisted.{Persisted, written, fits, answer, updated}
use Rattle.ct_persist.specs.declared.store.Updated.{Updated}
use Rattle.ct_persist.specs.declared.store.Updated.TheVariants.{Done, Had, Gap}

-- the number of an update, and its writes
pub record Update : Type 0 where
  pub seq : ℕ
  pub writes : List Pair

-- the pairs after a list of commits, each the list of its writes
unfoldable pub contents : List (List Pair) → Pairs (List ℕ) → Pairs (List ℕ)
contents [] m = m
contents (c ∷ cs) m = contents cs (written c m)

-- the database after updates, in order
unfoldable pub updated_all : List Update → Persisted → Persisted
updated_all [] p = p
updated_all (u ∷ us) p = updated_all us (updated u.seq u.writes p)

-- one commit more, where the update is applied
abbrev pub with_commit : Updated → List Pair → List (List Pair) → List (List Pair)
with_commit Done c cs = c ∷ cs
with_commit Had c cs = cs
with_commit Gap c cs = cs

-- the commits that these updates apply, in order
unfoldable pub commits : List Update → Persisted → List (List Pair)
commits [] p = []
commits (u ∷ us) p = with_commit (answer u.seq u.writes p) u.writes (commits us (updated u.seq u.writes p))

-- does each update have the next number, and do its writes fit?
unfoldable pub each_next : List Update → Persisted → Bool
each_next [] p = true
each_next (u ∷ us) p = nat_eq u.seq (p.seq + 1) && fits u.writes p.pairs && each_next us (record { seq = u.seq; pairs = written u.writes p.pairs })

-- the writes of each update
abbrev pub writes_of : List Update → List (List Pair)
writes_of [] = []
writes_of (u ∷ us) = u.writes ∷ writes_of us
