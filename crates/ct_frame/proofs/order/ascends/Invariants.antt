use Rattle.std.proofs.Common.{◌≡◌, drop}
use Rattle.ct_frame.specs.Fields.{ascends, ascends_after}
use Rattle.ct_frame.proofs.order.ascends.Given as goal

abbrev pub invariant-loop-item : goal.invariant-loop-item
invariant-loop-item g l = ascends_after g.T.Ranked.comes_before l.last (drop l.item-index l.rest) ≡ ascends g.T.Ranked.comes_before l.items
