use Rattle.ct_lcp2.proofs.Distances.{agreed_is}
use Rattle.ct_lcp2.proofs.distance.agreed_of_32.Goals as goal

pub returns-clause-exact : goal.returns-clause-exact
returns-clause-exact c = agreed_is 32 c.args.a c.args.b
