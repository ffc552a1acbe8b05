use Rattle.std.proofs.Common.{◌∙◌, sym}
use Rattle.ct_wire_fields.proofs.Operations.{counted}
use Rattle.ct_wire_fields.proofs.header.operation_of.Goals as goal

pub returns : goal.returns
returns c = c.item_at.ensures ∙ sym (counted c.args.number _ c.if-number-eq0.false)
