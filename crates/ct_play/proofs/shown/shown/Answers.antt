use Rattle.std.proofs.Common.{◌≡◌, ◌∙◌, true, false, sym}
use Rattle.ct_rules_cluster.specs.Cluster.{is_up}
use Rattle.ct_play.proofs.Telling.{up_there}
use Rattle.ct_play.proofs.shown.shown.Goals as goal

-- no step at the node is refused, so it runs, and there is a view of it
pub unreachable-requires : goal.unreachable-requires
unreachable-requires c =
    let up : is_up c.args.node c.args.world.now.cluster ≡ true = up_there c.args.world.now c.args.node (sym c.fault.ensures ∙ c.in_default.is) in
    let down : is_up c.args.node c.args.world.now.cluster ≡ false = c.in_default-view.ensures.core in
    cc
