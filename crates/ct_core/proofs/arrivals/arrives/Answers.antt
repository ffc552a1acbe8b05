use Rattle.ct_core.proofs.Arriving.{push_is}
use Rattle.ct_core.proofs.arrivals.arrives.Goals as goal

pub push-requires-clause-well_formed : goal.push-requires-clause-well_formed
push-requires-clause-well_formed g c =
    push_is c.args.frame.now c.in-Push.members _ c.in-Push.table _ c.in-Push.ptables _ c.in-Push.assigned _ c.in-Push.is c.requires.well_formed
    c.as_slice-in-Push.ensures c.as_slice-in-Push-2.ensures c.as_slice-in-Push-3.ensures c.as_slice-in-Push-4.ensures
