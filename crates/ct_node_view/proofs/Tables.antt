-- The tables of databases, one after the other.
use Rattle.std.proofs.Common.{◌≡◌, ℕ, ◌+◌, Bool, true, false, cond, List, [], ◌∷◌, ◌++◌, refl}
use Rattle.ct_values.specs.declared.config.Config.{Config}
use Rattle.ct_frame.specs.declared.frame.PTable.{PTable}
use Rattle.ct_rules_node.specs.Node.{Database, is_persistent, kind_at}
use Rattle.ct_rules_node.specs.Rounds.{ptables_of}

-- the table of the first, where it is persistent, stands before those of the others
pub first_table : (c : Config) (i : ℕ) (d : Database) (ds : List Database) → ptables_of c i (d ∷ ds) ≡ ptables_of c i (d ∷ []) ++ ptables_of c (i + 1) ds
unfolding ptables_of
first_table c i d ds = (let whole = joined (is_persistent (kind_at c i)) _ (ptables_of c (i + 1) ds) in whole)
  where
    joined : (b : Bool) (x : PTable) (rest : List PTable) → cond b (x ∷ rest) rest ≡ cond b (x ∷ []) [] ++ rest
    joined true x rest = refl
    joined false x rest = refl
