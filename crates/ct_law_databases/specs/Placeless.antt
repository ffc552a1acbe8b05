-- Which labels speak of addresses.
use Rattle.std.specs.Prelude.{Bool, true, false, not, List}
use Rattle.std.specs.List.{filter}
use Rattle.ct_frame.specs.declared.event.Note.TheVariants as note
use Rattle.ct_rules_cluster.specs.Labels.{Label, Noted, Pushed, Takeover, Taken}

-- does the label speak of addresses?
unfoldable pub speaks_of_places : Label → Bool
speaks_of_places (Noted n (note.Released a)) = true
speaks_of_places (Noted n (note.Took a)) = true
speaks_of_places (Pushed g assigned) = true
speaks_of_places (Takeover n able) = true
speaks_of_places (Taken n g number assigned) = true
speaks_of_places label = false

-- the labels that do not, in their order
abbrev pub placeless : List Label → List Label
placeless labels = filter (λ l. not (speaks_of_places l)) labels
