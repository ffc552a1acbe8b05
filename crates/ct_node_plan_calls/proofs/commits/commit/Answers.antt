use Rattle.std.proofs.Common.{◌+◌, rules}
use Rattle.ct_node_plan_calls.proofs.Writing.{planned_alone}
use Rattle.ct_node_plan_calls.proofs.commits.commit.Goals as goal

pub returns-then-is_empty : goal.returns-then-is_empty
returns-then-is_empty c =
    planned_alone c.args.me c.args.call c.args.db (c.seq_at-last.result + 1) c.args.writes.now c.in_ok-copied.field-0 c.in_ok-outs.outs c.as_slice-members.result.now c.args.node.now
    (search rules) (search rules) (search rules) (search rules) (search rules) (search rules) (search rules)
