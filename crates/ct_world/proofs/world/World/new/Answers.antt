use Rattle.std.proofs.Common.{List, None, subst, sym}
use Rattle.ct_rules_cluster.specs.Cluster.{Sent}
use Rattle.ct_world.specs.World.{WorldInForm, states_of}
use Rattle.ct_world.proofs.Opened.{opens}
use Rattle.ct_world.proofs.world.World.new.Goals as goal

pub invariant_of-result : goal.invariant_of-result
invariant_of-result c =
    subst (λ (sent : List Sent). WorldInForm c.in_ok-copy.field-0 c.in_ok-opened.field-0 (record { nodes = states_of c.in_ok-opened.field-0; running = c.in_ok-marks.field-0; able = c.in_ok-marks-2.field-0; sent = sent; holder = None; ticket = 1; calls = 0 }))
    (sym c.new.ensures)
    (opens c.args.config.now c.in_ok-opened.field-0 c.in_ok-marks.field-0 c.in_ok-marks-2.field-0 c.in_ok-opened.ensures c.in_ok-marks.ensures c.in_ok-marks-2.ensures c.in_ok-copy.field-0 c.requires c.in_ok-copy.ensures)
