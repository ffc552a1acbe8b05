-- What `clap` finds, by the rows of its matches.
use Rattle.std.proofs.Common.{◌≡◌}
use Rattle.clap.specs.Words.{Text, first_of, first_value, rows_of}
use Rattle.clap.specs.declared.parser.matches.Found.{Found}
use Rattle.clap.proofs.WalkLemmas.{first_value-rows}

pub text_found : (f : Found) (id : Text) → first_value f id ≡ first_of id (rows_of f)
text_found f id = first_value-rows f id
