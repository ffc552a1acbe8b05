use Rattle.std.proofs.Common.{rules}
use Rattle.ct_node_plan_rounds.proofs.Planned.{planned_pull_end, planned_pull_wait}
use Rattle.ct_node_plan_rounds.proofs.leading.on_pullreply.Goals as goal

pub returns-in_ok-msg-in-Some : goal.returns-in_ok-msg-in-Some
returns-in_ok-msg-in-Some c =
    planned_pull_end c.args.me c.args.generation c.args.node.now c.in_ok-lead.lead c.leads_notes_and_posts.result c.args.pull _ _ _ c.in-Some.body.now
    (search rules) (search rules) (search rules) (search rules) (search rules) (search rules) c.leads_notes_and_posts.ensures

pub returns-in-None : goal.returns-in-None
returns-in-None c =
    planned_pull_wait c.args.me c.args.generation c.args.node.now c.in_ok-lead.lead c.leads.result c.args.pull
    (search rules) (search rules) (search rules) c.leads.ensures
