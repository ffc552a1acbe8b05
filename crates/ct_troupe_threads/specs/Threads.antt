-- Whose journals are told.
use Rattle.std.specs.Prelude.{Bool, if◌then◌else◌, List}
use Rattle.ct_journal.specs.declared.journal.Journal.{Journal}

-- those of the nodes in turn where the plan was played again, and else those of the threads
abbrev pub told_journals : Bool → List Journal → List Journal → List Journal
told_journals again turns own = if again then turns else own
