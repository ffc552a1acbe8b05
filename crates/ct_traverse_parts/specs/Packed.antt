-- The bytes of rows, as a message has them.
use Rattle.std.specs.Prelude.{ℕ, List, [], ◌∷◌, ◌++◌}
use Rattle.ct_frame.specs.declared.frame.TableRow.{TableRow}

-- the bytes of the keys and values of rows, one behind the other
unfoldable pub packed : List TableRow → List ℕ
packed [] = []
packed (row ∷ rows) = row.key ++ (row.value ++ packed rows)
