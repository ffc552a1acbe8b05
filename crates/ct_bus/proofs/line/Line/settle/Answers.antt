use Rattle.std.proofs.Common.{ap, rules}
use Rattle.ct_bus.proofs.Relays.{forks, merges, totals}
use Rattle.ct_bus.proofs.line.Line.settle.Goals as goal

pub absorb-requires-clause-rule : goal.absorb-requires-clause-rule
absorb-requires-clause-rule c = merges _ _ _ _ (ap (λ v. v.posts) c.args.post.now.posts) (ap (λ v. v.takes) c.args.take.takes)

pub learn_as-requires-clause-rule : goal.learn_as-requires-clause-rule
learn_as-requires-clause-rule c = totals _ _ (search rules) (search rules)

pub another-ended-requires-clause-rule : goal.another-ended-requires-clause-rule
another-ended-requires-clause-rule c = forks _ _ (search rules) (search rules)
