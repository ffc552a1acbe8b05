use Rattle.ct_lcp2.specs.Placing.{choice_before, source_before}
use Rattle.ct_lcp2.proofs.Orders.{choices_ordered, sources_ordered, best_is_first}
use Rattle.ct_lcp2.proofs.laws.best_is_first.Goals as goal

pub returns : goal.returns
returns c = record { choices = best_is_first choice_before choices_ordered; sources = best_is_first source_before sources_ordered }
