-- A link that lists what it is asked.
use Rattle.std.specs.Prelude.{List, Option}

-- the link that it hands its calls on to, and what it was asked, while that is listed
pub record Listed (L A : Type 0) : Type 0 where
  pub inner : L
  pub asked : Option (List A)
