use Rattle.std.proofs.Common.{◌≡◌, ◌∙◌, length, rules, sym}
use Rattle.ct_node_plan_members.proofs.Kept.{freezes_dbs, freezes_phase, planned_freeze}
use Rattle.ct_node_plan_members.proofs.freezing.follows.Goals as goal

pub ends_commits-requires-clause-there : goal.ends_commits-requires-clause-there
ends_commits-requires-clause-there c =
    let same : length c.as_slice.result.now ≡ length c.args.node.now.dbs = search rules in
    same ∙ sym (freezes_dbs c.args.generation c.args.sender c.args.node.now c.in_ok-turn.turn c.in_ok-turn.ensures)

pub frozen_if_unlocked-requires : goal.frozen_if_unlocked-requires
frozen_if_unlocked-requires c = c.in_ok-ends_commits.ensures.phase ∙ freezes_phase c.args.generation c.args.sender c.args.node.now c.in_ok-turn.turn c.in_ok-turn.ensures

pub returns : goal.returns
returns c =
    planned_freeze c.args.config.now c.args.me c.args.sender c.args.generation c.args.node.now c.in_ok-turn.turn c.ends_commits.new.turn c.frozen_if_unlocked.new.self _
    c.requires.above c.in_ok-turn.ensures (search rules) c.in_ok-frozen_if_unlocked.ensures c.in_ok-whole.ensures
