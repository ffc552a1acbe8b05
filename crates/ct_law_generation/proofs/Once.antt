-- A second answer to a call is unasked.
use Rattle.std.proofs.Common.{refl}
use Rattle.std.proofs.lemmas.Bool.{eq-eqb}
use Rattle.ct_rules_cluster.specs.Traces.{asked_in, closed, closed_by, answer_label, label_of, line_labels}
use Rattle.ct_law_generation.specs.Law.{OnceIsEnough}

pub once_is_enough : OnceIsEnough
unfolding asked_in closed closed_by answer_label label_of line_labels
once_is_enough s n call other o a b d e = rw (eq-eqb call call refl) refl
