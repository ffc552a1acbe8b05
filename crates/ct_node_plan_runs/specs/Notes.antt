-- What a node notes of addresses.
use Rattle.ct_values.specs.declared.address.Address.{Address}
use Rattle.ct_frame.specs.declared.event.Note.TheVariants as note
use Rattle.ct_frame.specs.declared.event.Out.{Out}
use Rattle.ct_frame.specs.declared.event.Out.TheVariants as out

-- the address was given up
abbrev pub released : Address → Out
released a = out.Note (note.Released a)

-- the address was taken
abbrev pub took : Address → Out
took a = out.Note (note.Took a)
