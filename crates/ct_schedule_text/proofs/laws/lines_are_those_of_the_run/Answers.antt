use Rattle.ct_schedule_text.proofs.Walking.{lines_are_those_of_the_run}
use Rattle.ct_schedule_text.proofs.laws.lines_are_those_of_the_run.Goals as goal

pub returns : goal.returns
returns c = lines_are_those_of_the_run
