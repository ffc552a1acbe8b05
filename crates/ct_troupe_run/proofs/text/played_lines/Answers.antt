use Rattle.std.proofs.Common.{ap, ◌∙◌}
use Rattle.std.specs.List.{list_all}
use Rattle.ct_call.specs.Shown.{rules_of}
use Rattle.ct_rules_cluster.specs.Faults.{is_allowed}
use Rattle.ct_troupe_run.proofs.Told.{steps_allowed}
use Rattle.ct_troupe_run.proofs.text.played_lines.Goals as goal

pub text_of_steps-requires-clause-allowed : goal.text_of_steps-requires-clause-allowed
text_of_steps-requires-clause-allowed g c =
    ap (list_all is_allowed) c.as_slice.ensures.value
    ∙ steps_allowed (rules_of c.args.table.now) c.args.plan.now c.args.journals.now c.in-Ok.steps.items c.requires.played c.in-Ok.ensures.1
