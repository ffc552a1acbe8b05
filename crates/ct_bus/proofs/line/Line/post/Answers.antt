use Rattle.std.proofs.Common.{ap}
use Rattle.ct_bus.proofs.Relays.{sends, waiting}
use Rattle.ct_bus.proofs.line.Line.post.Goals as goal

pub push_as-requires-clause-rule : goal.push_as-requires-clause-rule
push_as-requires-clause-rule g c = let may = ap (λ v. v.posts) c.args.end.now.posts in (sends _ _ _ _ may, waiting _ _ may)
