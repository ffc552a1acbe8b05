-- What follows of the registers alone.
use Rattle.std.specs.Prelude.{◌≡◌, Bool, true, false}
use Rattle.ct_values.specs.declared.client.Answer.TheVariants as answer
use Rattle.ct_values.specs.declared.client.ClientOp.TheVariants as op
use Rattle.ct_values.specs.declared.config.Config.{Config}
use Rattle.ct_frame.specs.declared.event.Note.TheVariants as note
use Rattle.ct_call.specs.Rules.{Rules}
use Rattle.ct_rules_cluster.specs.Labels.{Label, Answered, Noted}
use Rattle.ct_register.specs.Lines.{Lines}
use Rattle.ct_register.specs.Legal.{AcceptsLabel}
use Rattle.ct_rules_cluster.specs.Handed.{is_persistent, kind_at}

-- does the label leave a choice? A birth does, and a read of a persistent database.
abbrev pub leaves_choice : Config → Label → Bool
leaves_choice config (Noted n (note.Round g members p q)) = true
leaves_choice config (Answered n (op.Read db key) (answer.Read v)) = is_persistent (kind_at config db)
leaves_choice config label = false

-- after any other label the registers go on in one way
abbrev pub GoOnInOneWay : Type 0
GoOnInOneWay = (config : Config) (rules : Rules) (label : Label) (r s t : Lines) → leaves_choice config label ≡ false →
    AcceptsLabel config rules r label s → AcceptsLabel config rules r label t → s ≡ t
