use Rattle.std.proofs.Common.{◌≡◌, ◌∙◌, length, rules, ap}
use Rattle.ct_rules_node.specs.Node.{Node}
use Rattle.ct_node_plan_members.proofs.Kept.{set_dbs}
use Rattle.ct_node_plan_members.proofs.commits.waits_no_more.Goals as goal

pub returns-clause-dbs : goal.returns-clause-dbs
returns-clause-dbs c =
    let same : c.turn.inside.node ≡ c.args.turn.now.node = search rules in
    set_dbs c.args.db _ c.turn.inside.node _ c.wait.ensures ∙ ap (λ (n : Node). length n.dbs) same
