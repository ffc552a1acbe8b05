use Rattle.std.proofs.Common.{Bool, false, ◌++◌, get_or, arith, ap, ◌∙◌}
use Rattle.ct_law_journal_reach.specs.Making.{mark_step, mark_steps}
use Rattle.ct_journal_join_any.proofs.Marking.{marks_last, marks_more}
use Rattle.ct_journal_join_any.proofs.making.add_marks.Goals as goal

pub loop-node-preserved : goal.loop-node-preserved
loop-node-preserved c =
    let n = c.loop-node.node in
    let bs = c.args.marks.now in
    let xs = c.loop-node.steps.items in
    marks_more c.args.able.now bs n false xs c.add_mark.new.steps.items (c.args.steps.now.items ++ mark_steps c.args.able.now 0 bs) (omega arith) c.loop-node.invariant
    (c.in_ok-add_mark.ensures ∙ ap (λ (b : Bool). xs ++ mark_step n (get_or bs n false) b) c.is_among.ensures)

pub returns : goal.returns
returns c = marks_last c.args.able.now c.args.marks.now c.loop-node.node c.loop-node.steps.items (c.args.steps.now.items ++ mark_steps c.args.able.now 0 c.args.marks.now) (omega arith) c.loop-node.invariant
