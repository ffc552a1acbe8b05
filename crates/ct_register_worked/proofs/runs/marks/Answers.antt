-- Each run, as it was shown.
use Rattle.ct_register_worked.proofs.Marked.{three_are_marks, copies_have_marks, entries_have_marks, marks_go_on, marks_do_not_go_back}
use Rattle.ct_register_worked.proofs.runs.marks.Goals as goal

pub returns-clause-three_are_marks : goal.returns-clause-three_are_marks
returns-clause-three_are_marks c = three_are_marks

pub returns-clause-copies_have_marks : goal.returns-clause-copies_have_marks
returns-clause-copies_have_marks c = copies_have_marks

pub returns-clause-entries_have_marks : goal.returns-clause-entries_have_marks
returns-clause-entries_have_marks c = entries_have_marks

pub returns-clause-marks_go_on : goal.returns-clause-marks_go_on
returns-clause-marks_go_on c = marks_go_on

pub returns-clause-marks_do_not_go_back : goal.returns-clause-marks_do_not_go_back
returns-clause-marks_do_not_go_back c = marks_do_not_go_back
