-- An installation in one walk over the rows: each row goes into its database.
use Rattle.std.specs.Prelude.{◌≡◌, ◌≢◌, ℕ, ◌+◌, ◌<◌, ◌^◌, nat_eq, nat_le, Bool, true, ◌&&◌, ◌||◌, if◌then◌else◌, List, [], ◌∷◌, Option, None, Some}
use Rattle.std.specs.List.{AllByRecursion, list_all}
use Rattle.std.specs.List.Sorted.{IsStrictlyIncreasing}
use Rattle.ct_frame.specs.Fields.{ascends, assigned_before, is_ptable}
use Rattle.ct_frame.specs.declared.frame.Assigned.{Assigned}
use Rattle.ct_frame.specs.declared.frame.PTable.{PTable}
use Rattle.ct_frame.specs.declared.frame.TableRow.{TableRow}
use Rattle.ct_rules_node.specs.Node.{Database, master_of}
use Rattle.ct_rules_node.specs.Rounds.{bared, changed, install_row, install_rows, row_master, store_from}

-- is the node data master or location master of the row?
abbrev pub is_mine : ℕ → List ℕ → TableRow → Bool
is_mine me members row = nat_eq me (row_master row) || nat_eq me (master_of members row.key)

-- does the RSN that the node makes of the row, if it makes one, reach 2^62?
abbrev pub is_last : ℕ → List ℕ → TableRow → Bool
is_last me members row = is_mine me members row && nat_le (2 ^ 62) (row.rsn + 1)

-- the first table of a database, if there is one
unfoldable pub own_table : ℕ → List PTable → Option PTable
own_table db [] = None
own_table db (x ∷ xs) = if nat_eq x.db db then Some x else own_table db xs

-- what is left of a database before the rows, with its persistent table
unfoldable pub bared_db : ℕ → List PTable → Database → Database
bared_db db ptables d = record d { records = changed bared d.records; floor = 0; store = store_from db ptables d.store }

-- so it is of all databases; i is the number of the first of these
unfoldable pub bared_dbs : ℕ → List PTable → List Database → List Database
bared_dbs i ptables [] = []
bared_dbs i ptables (d ∷ ds) = bared_db i ptables d ∷ bared_dbs (i + 1) ptables ds

-- a database with one more row
unfoldable pub with_row : ℕ → List ℕ → TableRow → Database → Database
with_row me members row d = record d { records = install_row me members row d.records }

-- the row goes into its database; i is the number of the first of these
unfoldable pub row_into : ℕ → List ℕ → TableRow → ℕ → List Database → List Database
row_into me members row i [] = []
row_into me members row i (d ∷ ds) = (if nat_eq row.db i then with_row me members row d else d) ∷ row_into me members row (i + 1) ds

-- each database with its rows, in order; i is the number of the first of these
unfoldable pub filled : ℕ → List ℕ → List TableRow → ℕ → List Database → List Database
filled me members rows i [] = []
filled me members rows i (d ∷ ds) = record d { records = install_rows me i members rows d.records } ∷ filled me members rows (i + 1) ds

-- what a push tells, in its parts
pub record IsPush (members : List ℕ) (table : List TableRow) (ptables : List PTable) (assigned : List Assigned) : Type 0 where
  pub ascending : IsStrictlyIncreasing members
  pub some : members ≢ []
  pub rows : AllByRecursion (λ row. row.rsn < 2 ^ 62) table
  pub tables : list_all is_ptable ptables ≡ true
  pub order : ascends assigned_before assigned ≡ true
