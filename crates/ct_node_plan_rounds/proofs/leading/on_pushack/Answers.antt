use Rattle.std.proofs.Common.{rules}
use Rattle.ct_node_plan_rounds.proofs.Planned.{planned_push_end, planned_push_wait}
use Rattle.ct_node_plan_rounds.proofs.leading.on_pushack.Goals as goal

pub returns-then-is_completed : goal.returns-then-is_completed
returns-then-is_completed c =
    planned_push_end c.args.me c.args.generation c.args.node.now c.installed-lead.result c.leads_and_posts.result c.args.config.now c.args.sender _ _ c.in_ok-made.made
    (search rules) (search rules) (search rules) (search rules) (search rules) (search rules) c.leads_and_posts.ensures

pub returns-else-is_completed : goal.returns-else-is_completed
returns-else-is_completed c =
    planned_push_wait c.args.me c.args.generation c.args.node.now c.installed-lead.result c.leads.result c.args.config.now c.args.sender c.in_ok-made.made
    (search rules) (search rules) (search rules) (search rules) c.leads.ensures
