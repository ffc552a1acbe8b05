-- Each run, as it was shown.
use Rattle.ct_register_worked.proofs.Misplaced.{took_unassigned, took_while_held, wrong_take, take_of_no_run, pushed_anew, pushed_unborn}
use Rattle.ct_register_worked.proofs.refused.addresses.Goals as goal

pub returns-clause-took_unassigned : goal.returns-clause-took_unassigned
returns-clause-took_unassigned c = took_unassigned

pub returns-clause-took_while_held : goal.returns-clause-took_while_held
returns-clause-took_while_held c = took_while_held

pub returns-clause-wrong_take : goal.returns-clause-wrong_take
returns-clause-wrong_take c = wrong_take

pub returns-clause-take_of_no_run : goal.returns-clause-take_of_no_run
returns-clause-take_of_no_run c = take_of_no_run

pub returns-clause-pushed_anew : goal.returns-clause-pushed_anew
returns-clause-pushed_anew c = pushed_anew

pub returns-clause-pushed_unborn : goal.returns-clause-pushed_unborn
returns-clause-pushed_unborn c = pushed_unborn
