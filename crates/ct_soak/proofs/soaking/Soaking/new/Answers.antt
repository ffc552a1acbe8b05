use Rattle.ct_soak.proofs.Making.{opening_counted}
use Rattle.ct_soak.proofs.soaking.Soaking.new.Goals as goal

pub invariant_of-result : goal.invariant_of-result
invariant_of-result c = opening_counted c.in_ok-new.field-0 _ c.in_ok-new.ensures c.in_ok-config.ensures
