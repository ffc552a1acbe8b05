-- Whose journals stand in the columns of one thread.
use Rattle.std.specs.Prelude.{ℕ, List, [], Option, None, Some, slice_get}
use Rattle.ct_journal.specs.declared.journal.Journal.{Journal}
use Rattle.ct_troupe.specs.declared.turns.Turns.{Turns}

-- the journals of who played, and none where nobody did
unfoldable pub or_no_journals : Option Turns → List Journal
or_no_journals None = []
or_no_journals (Some t) = t.journals

-- the journals of the column of this number
unfoldable pub journals_in : List Turns → ℕ → List Journal
journals_in columns i = or_no_journals (slice_get columns i)
