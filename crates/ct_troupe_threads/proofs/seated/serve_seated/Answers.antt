use Rattle.std.proofs.Common.{◌+◌, None, Some, Ok, Err, ap, arith}
use Rattle.ct_call.specs.Shown.{rules_of}
use Rattle.ct_journal.specs.declared.journal.Journal.{Journal}
use Rattle.ct_troupe_threads.proofs.Seating.{full_served, none_made, rested_served, serving_first, serving_next, stays_same, turns_left}
use Rattle.ct_troupe_threads.proofs.seated.serve_seated.Goals as goal

pub returns-in_err-seat-clause-turns : goal.returns-in_err-seat-clause-turns
returns-in_err-seat-clause-turns g c = none_made c.args.node c.from_residual.result (g.G.Gate.passes c.args.gate.now) c.from_residual.ensures.0

pub loop-number-init : goal.loop-number-init
loop-number-init g c = serving_first (rules_of c.args.table.now) c.args.plan.now c.args.node c.in_ok-seat.seat (g.G.Gate.passes c.args.gate.now) c.in_ok-seat.ensures.node c.in_ok-seat.ensures.cue

pub returns-then-is_full-clause-served : goal.returns-then-is_full-clause-served
returns-then-is_full-clause-served g c =
    full_served (rules_of c.args.table.now) c.args.plan.now c.args.node c.loop-number.seat c.into_journal.result c.is_full.result c.loop-number.invariant.seat c.is_full.ensures c.if-is_full.true c.into_journal.ensures

pub returns-in-Ok-true-clause-served : goal.returns-in-Ok-true-clause-served
returns-in-Ok-true-clause-served g c =
    rested_served (rules_of c.args.table.now) c.args.plan.now c.args.node c.turn.new.seat c.into_journal-in-Ok-true.result c.in-Ok-true.ensures.seat.seat
    (c.in-Ok-true.ensures.none c.in-Ok-true.field-0-test) c.into_journal-in-Ok-true.ensures

pub returns-in-Ok-true-clause-turns : goal.returns-in-Ok-true-clause-turns
returns-in-Ok-true-clause-turns g c =
    let passes = g.G.Gate.passes in
    turns_left (rules_of c.args.table.now) c.args.plan.now c.args.node (c.loop-number.number + 1) c.turn.new.seat (Ok (Some c.into_journal-in-Ok-true.result)) (passes c.args.gate.now) (passes c.pass.new.self)
    (serving_next (rules_of c.args.table.now) c.args.plan.now c.args.node c.loop-number.number c.is_full.result c.loop-number.seat c.turn.new.seat (passes c.args.gate.now) (passes c.loop-number.gate) (passes c.pass.new.self)
    c.loop-number.invariant (omega (arith, c.loop-number-test.true)) c.is_full.ensures c.if-is_full.false c.pass.ensures c.in-Ok-true.ensures.seat)
    (ap (λ (j : Journal). j.entries) c.into_journal-in-Ok-true.ensures)

-- of a turn that ended too early no more is told than its pass
pub returns-in-Err-Fails-clause-turns : goal.returns-in-Err-Fails-clause-turns
returns-in-Err-Fails-clause-turns g c =
    let passes = g.G.Gate.passes in
    turns_left (rules_of c.args.table.now) c.args.plan.now c.args.node (c.loop-number.number + 1) c.loop-number.seat (Ok None) (passes c.args.gate.now) (passes c.pass.new.self)
    (serving_next (rules_of c.args.table.now) c.args.plan.now c.args.node c.loop-number.number c.is_full.result c.loop-number.seat c.loop-number.seat (passes c.args.gate.now) (passes c.loop-number.gate) (passes c.pass.new.self)
    c.loop-number.invariant (omega (arith, c.loop-number-test.true)) c.is_full.ensures c.if-is_full.false c.pass.ensures
    (stays_same (rules_of c.args.table.now) c.args.plan.now c.args.node c.loop-number.seat c.loop-number.invariant.seat))
    tt

pub returns-in-Err-NoMemory-clause-turns : goal.returns-in-Err-NoMemory-clause-turns
returns-in-Err-NoMemory-clause-turns g c =
    let passes = g.G.Gate.passes in
    turns_left (rules_of c.args.table.now) c.args.plan.now c.args.node (c.loop-number.number + 1) c.loop-number.seat (Err record {}) (passes c.args.gate.now) (passes c.pass.new.self)
    (serving_next (rules_of c.args.table.now) c.args.plan.now c.args.node c.loop-number.number c.is_full.result c.loop-number.seat c.loop-number.seat (passes c.args.gate.now) (passes c.loop-number.gate) (passes c.pass.new.self)
    c.loop-number.invariant (omega (arith, c.loop-number-test.true)) c.is_full.ensures c.if-is_full.false c.pass.ensures
    (stays_same (rules_of c.args.table.now) c.args.plan.now c.args.node c.loop-number.seat c.loop-number.invariant.seat))
    tt

pub loop-number-preserved : goal.loop-number-preserved
loop-number-preserved g c =
    let passes = g.G.Gate.passes in
    serving_next (rules_of c.args.table.now) c.args.plan.now c.args.node c.loop-number.number c.is_full.result c.loop-number.seat c.turn.new.seat (passes c.args.gate.now) (passes c.loop-number.gate) (passes c.pass.new.self)
    c.loop-number.invariant (omega (arith, c.loop-number-test.true)) c.is_full.ensures c.if-is_full.false c.pass.ensures c.in-Ok-false.ensures.seat
