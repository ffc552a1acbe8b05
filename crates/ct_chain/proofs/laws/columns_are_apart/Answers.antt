use Rattle.ct_chain.proofs.Cutting.{columns_are_apart}
use Rattle.ct_chain.proofs.laws.columns_are_apart.Goals as goal

pub returns : goal.returns
returns c = columns_are_apart
