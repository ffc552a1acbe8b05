use Rattle.ct_call.specs.Shown.{rules_of}
use Rattle.ct_actor_serving.specs.Serving.{both, of_link, of_lock}
use Rattle.ct_actor_serving.proofs.Going.{cause_late, fell_then, goes_then, fell_same, goes_same}
use Rattle.std.proofs.Common.{◌∙◌, [], None, Some, refl}
use Rattle.ct_actor_serving.specs.Outside.{heard, outside}
use Rattle.ct_actor_serving.proofs.Telling.{serves_same, serves_then}
use Rattle.ct_actor_serving.proofs.serve.take_rest.Goals as goal

pub items-preserved : goal.items-preserved
items-preserved g c =
    let link = of_link g.L.Link.faults g.L.Link.endings g.L.Link.looks in
    let lock = of_lock g.R.RecLock.faults g.R.RecLock.refusals in
    record {
      goes_on =
          goes_then (rules_of c.args.part.now.table.now) c.args.part.now.script.now c.args.node.now c.items.node c.take_next.new.node c.args.cue.now c.items.cue c.take_next.new.cue c.items.invariant.goes_on c.take_next.ensures.goes_on;
      counts = fell_then (both (link c.args.link.now) (lock c.args.lock.now)) (both (link c.items.link) (lock c.items.lock)) (both (link c.take_next.new.link) (lock c.take_next.new.lock)) c.items.invariant.counts c.take_next.ensures.counts;
      permissions = c.take_next.ensures.permissions ∙ c.items.invariant.permissions;
      served = serves_then (rules_of c.args.part.now.table.now) None (heard [] []) (heard [] []) c.args.node.now c.items.node c.take_next.new.node (outside (g.L.Link.pieces c.args.link.now) (g.R.RecLock.state c.args.lock.now)) (outside (g.L.Link.pieces c.items.link) (g.R.RecLock.state c.items.lock)) (outside (g.L.Link.pieces c.take_next.new.link) (g.R.RecLock.state c.take_next.new.lock))
          c.items.invariant.served c.in-Ok-true.ensures.outside;
    }

pub returns-in-Ok-false-clause-goes_on : goal.returns-in-Ok-false-clause-goes_on
returns-in-Ok-false-clause-goes_on g c =
    goes_then (rules_of c.args.part.now.table.now) c.args.part.now.script.now c.args.node.now c.items.node c.take_next.new.node c.args.cue.now c.items.cue c.take_next.new.cue c.items.invariant.goes_on c.take_next.ensures.goes_on

pub returns-in-Err-clause-goes_on : goal.returns-in-Err-clause-goes_on
returns-in-Err-clause-goes_on g c =
    goes_then (rules_of c.args.part.now.table.now) c.args.part.now.script.now c.args.node.now c.items.node c.take_next.new.node c.args.cue.now c.items.cue c.take_next.new.cue c.items.invariant.goes_on c.take_next.ensures.goes_on

pub returns-in-Err-clause-cause : goal.returns-in-Err-clause-cause
returns-in-Err-clause-cause g c =
    let link = of_link g.L.Link.faults g.L.Link.endings g.L.Link.looks in
    let lock = of_lock g.R.RecLock.faults g.R.RecLock.refusals in
    cause_late c.in-Err.fault (both (link c.args.link.now) (lock c.args.lock.now)) (both (link c.items.link) (lock c.items.lock)) (both (link c.take_next.new.link) (lock c.take_next.new.lock))
    c.items.invariant.counts c.in-Err.ensures.cause

pub items-init : goal.items-init
items-init g c =
    let link = of_link g.L.Link.faults g.L.Link.endings g.L.Link.looks in
    let lock = of_lock g.R.RecLock.faults g.R.RecLock.refusals in
    record {
      goes_on = goes_same (rules_of c.args.part.now.table.now) c.args.part.now.script.now c.args.node.now c.args.cue.now;
      counts = fell_same (both (link c.args.link.now) (lock c.args.lock.now));
      permissions = refl;
      served = serves_same (rules_of c.args.part.now.table.now) None c.args.node.now (g.L.Link.pieces c.args.link.now) (g.R.RecLock.state c.args.lock.now) (λ t. tt) tt tt;
    }

pub returns-in-Ok-false-clause-outside : goal.returns-in-Ok-false-clause-outside
returns-in-Ok-false-clause-outside g c =
    serves_then (rules_of c.args.part.now.table.now) None (heard [] []) (heard [] []) c.args.node.now c.items.node c.take_next.new.node (outside (g.L.Link.pieces c.args.link.now) (g.R.RecLock.state c.args.lock.now)) (outside (g.L.Link.pieces c.items.link) (g.R.RecLock.state c.items.lock))
    (outside (g.L.Link.pieces c.take_next.new.link) (g.R.RecLock.state c.take_next.new.lock)) c.items.invariant.served c.in-Ok-false.ensures.outside

pub returns-in-Err-clause-outside : goal.returns-in-Err-clause-outside
returns-in-Err-clause-outside g c =
    serves_then (rules_of c.args.part.now.table.now) (Some c.in-Err.fault) (heard [] []) (heard [] []) c.args.node.now c.items.node c.take_next.new.node (outside (g.L.Link.pieces c.args.link.now) (g.R.RecLock.state c.args.lock.now)) (outside (g.L.Link.pieces c.items.link) (g.R.RecLock.state c.items.lock))
    (outside (g.L.Link.pieces c.take_next.new.link) (g.R.RecLock.state c.take_next.new.lock)) c.items.invariant.served c.in-Err.ensures.outside
