use Rattle.ct_values.proofs.RepeatedNumbers.{all_differ}
use Rattle.ct_values.proofs.map.members_differ.Goals as goal

pub returns : goal.returns
returns c = λ members h. all_differ members h.1
