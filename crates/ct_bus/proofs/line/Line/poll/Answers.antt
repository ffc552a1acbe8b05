use Rattle.std.proofs.Common.{ap}
use Rattle.ct_bus.proofs.Relays.{gets, nothing}
use Rattle.ct_bus.proofs.line.Line.poll.Goals as goal

pub pop_as-requires-clause-rule : goal.pop_as-requires-clause-rule
pop_as-requires-clause-rule g c = (gets _ _ (ap (λ v. v.takes) c.args.end.now.takes), nothing _ _)
