use Rattle.std.proofs.Common.{◌∙◌, ◌+◌, List, ap, arith}
use Rattle.std.specs.Prelude.{drop}
use Rattle.ct_rules_cluster.specs.Cluster.{pending_from, pending_in}
use Rattle.ct_rules_cluster.specs.declared.step.PendingCall.{PendingCall}
use Rattle.ct_rules_node.specs.Numbered.{by_number}
use Rattle.ct_world.specs.World.{states_of}
use Rattle.ct_world.proofs.Given.{calls_done, calls_more, got_item}
use Rattle.ct_world.proofs.Pending.{one_more}
use Rattle.ct_world.proofs.world.pending_at.Goals as goal

pub loop-core-preserved : goal.loop-core-preserved
loop-core-preserved c =
    let i = c.loop-core.core-index in
    calls_more c.loop-core.calls.items c.add_pending.new.calls.items (pending_in c.core-item.result.pnn 0 c.core-item.result.node.dbs) (pending_from (i + 1) (states_of (drop (i + 1) c.args.cores.now))) (pending_from 0 (states_of c.args.cores.now)) (pending_from i (states_of (drop i c.args.cores.now)))
    c.in_ok-add_pending.ensures (one_more c.args.cores.now i c.core-item.result c.requires (got_item c.args.cores.now i c.core-item.result (omega (arith, c.loop-core-test.true)) c.core-item.is)) c.loop-core.invariant

pub returns : goal.returns
returns c =
    c.in_ok-by_number.ensures
    ∙ ap (λ (xs : List PendingCall). by_number (λ (y : PendingCall). y.call) xs) (calls_done c.args.cores.now c.loop-core.core-index c.loop-core.calls.items (pending_from 0 (states_of c.args.cores.now)) (omega (arith, c.loop-core-test.false)) c.loop-core.invariant)
