use Rattle.ct_lcp2.proofs.Distances.{is_agreed}
use Rattle.ct_lcp2.proofs.laws.distance_is_greatest.Goals as goal

pub returns-clause-of_ipv4 : goal.returns-clause-of_ipv4
returns-clause-of_ipv4 c = is_agreed 32

pub returns-clause-of_ipv6 : goal.returns-clause-of_ipv6
returns-clause-of_ipv6 c = is_agreed 128
