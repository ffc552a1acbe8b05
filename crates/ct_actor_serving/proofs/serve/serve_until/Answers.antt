use Rattle.std.proofs.Common.{◌≡◌, ◌∙◌, ℕ, ◌+◌, List, [], ◌∷◌, length, arith, ap, subst, None, Some, true, false}
use Rattle.ct_call.specs.Shown.{rules_of}
use Rattle.ct_actor.specs.Handed.{Core}
use Rattle.ct_outside.specs.Told.{Lists}
use Rattle.ct_script.specs.Cues.{first_cue, next_item}
use Rattle.ct_journal.specs.declared.journal.JournalEntry.{JournalEntry}
use Rattle.ct_actor_serving.specs.Serving.{Turned, both, of_link, of_lock}
use Rattle.ct_actor_serving.proofs.Going.{cause_late, fell_then, goes_then, rose_more, fell_same, goes_same}
use Rattle.ct_actor_serving.proofs.Taking.{acts_first}
use Rattle.ct_actor_serving.specs.Outside.{outside}
use Rattle.ct_actor_serving.specs.Turns.{may_turn}
use Rattle.ct_actor_serving.proofs.Turns.{may_begin, none_left, none_wanted, turning_first, turning_next, turns_broken, turns_budget, turns_closed, turns_stopped}
use Rattle.ct_actor_serving.proofs.Turning.{serving_first, serving_last, serving_next, turn_rest}
use Rattle.ct_actor_serving.proofs.serve.serve_until.Goals as goal
use Rattle.ct_actor_serving.proofs.serve.serve_until.Goals.{then-loop-number-test+else-not-is_full, else-loop-number-test}

pub turn-requires-clause-acts : goal.turn-requires-clause-acts
turn-requires-clause-acts g c =
    let started = acts_first (rules_of c.args.table.now) c.args.script.now c.args.node.now c.first-cue.result c.requires.run (c.first-cue.ensures ∙ ap (λ (xs : List JournalEntry). first_cue xs) c.entries.ensures) in (
      c.args.node.now.entries,
      c.loop-number.invariant.goes_on.acting c.args.node.now.entries started,
    )

pub returns-in-Ok-true-clause-acting : goal.returns-in-Ok-true-clause-acting
returns-in-Ok-true-clause-acting g c =
    let started = acts_first (rules_of c.args.table.now) c.args.script.now c.args.node.now c.first-cue.result c.requires.run (c.first-cue.ensures ∙ ap (λ (xs : List JournalEntry). first_cue xs) c.entries.ensures) in
    let link = of_link g.L.Link.faults g.L.Link.endings g.L.Link.looks in
    let turned = subst (λ b. Turned b (link c.loop-number.link) (link c.turn.new.link) (next_item c.args.script.now c.turn.new.cue)) c.in-Ok-true.field-0-test c.in-Ok-true.ensures.turned in
    record {
      cue = c.turn.new.cue;
      acting = c.turn.ensures.goes_on.acting c.args.node.now.entries (c.loop-number.invariant.goes_on.acting c.args.node.now.entries started);
      done = turned.1.1;
      next = tt;
    }

pub loop-number-preserved : goal.loop-number-preserved
loop-number-preserved g c =
    let started = acts_first (rules_of c.args.table.now) c.args.script.now c.args.node.now c.first-cue.result c.requires.run (c.first-cue.ensures ∙ ap (λ (xs : List JournalEntry). first_cue xs) c.entries.ensures) in
    let perm = g.L.Link.permissions in
    let passes = g.G.Gate.passes in
    let own : c.pnn.result ≡ c.args.node.now.core.pnn = c.pnn.ensures ∙ ap (λ (k : Core). k.pnn) c.core.ensures ∙ c.loop-number.invariant.goes_on.pnn in
    let may : may_turn c.args.until c.loop-number.number (length c.loop-number.node.entries) ≡ true = may_begin c.args.until c.loop-number.number c.most_turns-most.result (length c.loop-number.node.entries) c.is_full.result c.most_turns-most.ensures c.loop-number-test.true c.is_full.ensures c.if-not-is_full.true in
    let link = of_link g.L.Link.faults g.L.Link.endings g.L.Link.looks in
    let lock = of_lock g.R.RecLock.faults g.R.RecLock.refusals in
    record {
      goes_on =
          goes_then (rules_of c.args.table.now) c.args.script.now c.args.node.now c.loop-number.node c.turn.new.node c.first-cue.result c.loop-number.cue c.turn.new.cue c.loop-number.invariant.goes_on c.turn.ensures.goes_on;
      counts = fell_then (both (link c.args.link.now) (lock c.args.lock.now)) (both (link c.loop-number.link) (lock c.loop-number.lock)) (both (link c.turn.new.link) (lock c.turn.new.lock)) c.loop-number.invariant.counts c.turn.ensures.counts;
      looked = rose_more c.loop-number.number (g.L.Link.looks c.args.link.now) (g.L.Link.looks c.loop-number.link) (g.L.Link.looks c.turn.new.link) c.loop-number.invariant.looked c.in-Ok-false.ensures.turned.0;
      within = omega (arith, c.loop-number-test.true);
      turning = turning_next c.args.until (rules_of c.args.table.now) c.args.script.now c.loop-number.number c.args.node.now c.loop-number.node c.turn.new.node c.loop-number.cue c.turn.new.cue
          (perm c.args.link.now) (perm c.loop-number.link) (perm c.turn.new.link) (passes c.args.gate.now) (passes c.loop-number.gate) (passes c.pass.new.self) c.in-Ok-false.ensures.outside.on.since
          c.loop-number.invariant.turning (c.turn.ensures.goes_on.acting c.args.node.now.entries (c.loop-number.invariant.goes_on.acting c.args.node.now.entries started)) c.in-Ok-false.ensures.outside.on.all may c.turn.ensures.permissions
          (subst (λ (n : ℕ). Lists ((n, c.loop-number.number) ∷ []) (passes c.loop-number.gate) (passes c.pass.new.self)) own c.pass.ensures);
      serving = serving_next (rules_of c.args.table.now) c.args.node.now c.loop-number.node c.turn.new.node (outside (g.L.Link.pieces c.args.link.now) (g.R.RecLock.state c.args.lock.now)) (outside (g.L.Link.pieces c.loop-number.link) (g.R.RecLock.state c.loop-number.lock))
          (outside (g.L.Link.pieces c.turn.new.link) (g.R.RecLock.state c.turn.new.lock)) c.loop-number.readers c.turn.new.readers
          c.loop-number.invariant.serving c.loop-number.invariant.goes_on.pnn c.in-Ok-false.ensures.outside;
    }

pub returns-in-Err-clause-acting : goal.returns-in-Err-clause-acting
returns-in-Err-clause-acting g c =
    let started = acts_first (rules_of c.args.table.now) c.args.script.now c.args.node.now c.first-cue.result c.requires.run (c.first-cue.ensures ∙ ap (λ (xs : List JournalEntry). first_cue xs) c.entries.ensures) in
    record {
      cue = c.turn.new.cue;
      acting = c.turn.ensures.goes_on.acting c.args.node.now.entries (c.loop-number.invariant.goes_on.acting c.args.node.now.entries started);
      done = tt;
      next = c.in-Err.ensures.next;
    }

pub returns-in-Err-clause-cause : goal.returns-in-Err-clause-cause
returns-in-Err-clause-cause g c =
    let link = of_link g.L.Link.faults g.L.Link.endings g.L.Link.looks in
    let lock = of_lock g.R.RecLock.faults g.R.RecLock.refusals in
    cause_late c.in-Err.fault (both (link c.args.link.now) (lock c.args.lock.now)) (both (link c.loop-number.link) (lock c.loop-number.lock)) (both (link c.turn.new.link) (lock c.turn.new.lock))
    c.loop-number.invariant.counts c.in-Err.ensures.cause

pub take_rest-requires-clause-acts : goal.take_rest-requires-clause-acts
take_rest-requires-clause-acts g c =
    let started = acts_first (rules_of c.args.table.now) c.args.script.now c.args.node.now c.first-cue.result c.requires.run (c.first-cue.ensures ∙ ap (λ (xs : List JournalEntry). first_cue xs) c.entries.ensures) in (
      c.args.node.now.entries,
      c.loop-number.invariant.goes_on.acting c.args.node.now.entries started,
    )

pub returns-in-Ok-clause-acting : goal.returns-in-Ok-clause-acting
returns-in-Ok-clause-acting g c =
    let started = acts_first (rules_of c.args.table.now) c.args.script.now c.args.node.now c.first-cue.result c.requires.run (c.first-cue.ensures ∙ ap (λ (xs : List JournalEntry). first_cue xs) c.entries.ensures) in
    record {
      cue = c.take_rest.new.cue;
      acting = c.take_rest.ensures.goes_on.acting c.args.node.now.entries (c.loop-number.invariant.goes_on.acting c.args.node.now.entries started);
      done = c.in-Ok.ensures.rest;
      next = tt;
    }

pub returns-clause-acting : goal.returns-clause-acting
returns-clause-acting g c =
    let started = acts_first (rules_of c.args.table.now) c.args.script.now c.args.node.now c.first-cue.result c.requires.run (c.first-cue.ensures ∙ ap (λ (xs : List JournalEntry). first_cue xs) c.entries.ensures) in
    record {
      cue = c.take_rest.new.cue;
      acting = c.take_rest.ensures.goes_on.acting c.args.node.now.entries (c.loop-number.invariant.goes_on.acting c.args.node.now.entries started);
      done = tt;
      next = c.in-Err-take_rest.ensures.next;
    }

pub returns-clause-cause : goal.returns-clause-cause
returns-clause-cause g c =
    let link = of_link g.L.Link.faults g.L.Link.endings g.L.Link.looks in
    let lock = of_lock g.R.RecLock.faults g.R.RecLock.refusals in
    cause_late c.in-Err-take_rest.fault (both (link c.args.link.now) (lock c.args.lock.now)) (both (link c.loop-number.link) (lock c.loop-number.lock)) (both (link c.take_rest.new.link) (lock c.take_rest.new.lock))
    c.loop-number.invariant.counts c.in-Err-take_rest.ensures.cause

pub loop-number-init : goal.loop-number-init
loop-number-init g c =
    let link = of_link g.L.Link.faults g.L.Link.endings g.L.Link.looks in
    let lock = of_lock g.R.RecLock.faults g.R.RecLock.refusals in
    record {
      goes_on = goes_same (rules_of c.args.table.now) c.args.script.now c.args.node.now c.first-cue.result;
      counts = fell_same (both (link c.args.link.now) (lock c.args.lock.now));
      looked = omega arith;
      within = omega arith;
      turning = turning_first c.args.until c.args.script.now c.args.node.now c.first-cue.result (g.L.Link.permissions c.args.link.now) (g.G.Gate.passes c.args.gate.now) (c.first-cue.ensures ∙ ap (λ (xs : List JournalEntry). first_cue xs) c.entries.ensures);
      serving = serving_first (rules_of c.args.table.now) c.args.node.now (g.L.Link.pieces c.args.link.now) (g.R.RecLock.state c.args.lock.now) c.new-readers.result c.new-readers.ensures;
    }

pub returns-in-Ok-true-clause-outside : goal.returns-in-Ok-true-clause-outside
returns-in-Ok-true-clause-outside g c =
    serving_last (rules_of c.args.table.now) None c.args.node.now c.loop-number.node c.turn.new.node (outside (g.L.Link.pieces c.args.link.now) (g.R.RecLock.state c.args.lock.now)) (outside (g.L.Link.pieces c.loop-number.link) (g.R.RecLock.state c.loop-number.lock))
    (outside (g.L.Link.pieces c.turn.new.link) (g.R.RecLock.state c.turn.new.lock)) c.loop-number.readers c.turn.new.readers c.loop-number.invariant.serving c.loop-number.invariant.goes_on.pnn c.in-Ok-true.ensures.outside

pub returns-in-Err-clause-outside : goal.returns-in-Err-clause-outside
returns-in-Err-clause-outside g c =
    serving_last (rules_of c.args.table.now) (Some c.in-Err.fault) c.args.node.now c.loop-number.node c.turn.new.node (outside (g.L.Link.pieces c.args.link.now) (g.R.RecLock.state c.args.lock.now)) (outside (g.L.Link.pieces c.loop-number.link) (g.R.RecLock.state c.loop-number.lock))
    (outside (g.L.Link.pieces c.turn.new.link) (g.R.RecLock.state c.turn.new.lock)) c.loop-number.readers c.turn.new.readers c.loop-number.invariant.serving c.loop-number.invariant.goes_on.pnn c.in-Err.ensures.outside

pub returns-in-Ok-clause-outside : goal.returns-in-Ok-clause-outside
returns-in-Ok-clause-outside g c =
    serving_last (rules_of c.args.table.now) None c.args.node.now c.loop-number.node c.take_rest.new.node (outside (g.L.Link.pieces c.args.link.now) (g.R.RecLock.state c.args.lock.now)) (outside (g.L.Link.pieces c.loop-number.link) (g.R.RecLock.state c.loop-number.lock))
    (outside (g.L.Link.pieces c.take_rest.new.link) (g.R.RecLock.state c.take_rest.new.lock)) c.loop-number.readers c.loop-number.readers c.loop-number.invariant.serving c.loop-number.invariant.goes_on.pnn
    (turn_rest (rules_of c.args.table.now) None c.loop-number.node c.take_rest.new.node (outside (g.L.Link.pieces c.loop-number.link) (g.R.RecLock.state c.loop-number.lock)) (outside (g.L.Link.pieces c.take_rest.new.link) (g.R.RecLock.state c.take_rest.new.lock)) c.loop-number.readers c.in-Ok.ensures.outside c.in-Ok.ensures.piece)

pub returns-clause-outside : goal.returns-clause-outside
returns-clause-outside g c =
    serving_last (rules_of c.args.table.now) (Some c.in-Err-take_rest.fault) c.args.node.now c.loop-number.node c.take_rest.new.node (outside (g.L.Link.pieces c.args.link.now) (g.R.RecLock.state c.args.lock.now)) (outside (g.L.Link.pieces c.loop-number.link) (g.R.RecLock.state c.loop-number.lock))
    (outside (g.L.Link.pieces c.take_rest.new.link) (g.R.RecLock.state c.take_rest.new.lock)) c.loop-number.readers c.loop-number.readers c.loop-number.invariant.serving c.loop-number.invariant.goes_on.pnn
    (turn_rest (rules_of c.args.table.now) (Some c.in-Err-take_rest.fault) c.loop-number.node c.take_rest.new.node (outside (g.L.Link.pieces c.loop-number.link) (g.R.RecLock.state c.loop-number.lock)) (outside (g.L.Link.pieces c.take_rest.new.link) (g.R.RecLock.state c.take_rest.new.lock)) c.loop-number.readers c.in-Err-take_rest.ensures.outside c.in-Err-take_rest.ensures.piece)

pub returns-in-Ok-true-clause-turns : goal.returns-in-Ok-true-clause-turns
returns-in-Ok-true-clause-turns g c =
    let started = acts_first (rules_of c.args.table.now) c.args.script.now c.args.node.now c.first-cue.result c.requires.run (c.first-cue.ensures ∙ ap (λ (xs : List JournalEntry). first_cue xs) c.entries.ensures) in
    let perm = g.L.Link.permissions in
    let passes = g.G.Gate.passes in
    let own : c.pnn.result ≡ c.args.node.now.core.pnn = c.pnn.ensures ∙ ap (λ (k : Core). k.pnn) c.core.ensures ∙ c.loop-number.invariant.goes_on.pnn in
    let may : may_turn c.args.until c.loop-number.number (length c.loop-number.node.entries) ≡ true = may_begin c.args.until c.loop-number.number c.most_turns-most.result (length c.loop-number.node.entries) c.is_full.result c.most_turns-most.ensures c.loop-number-test.true c.is_full.ensures c.if-not-is_full.true in
    turns_closed c.args.until c.args.script.now (c.loop-number.number + 1) c.args.node.now c.turn.new.node c.turn.new.cue (perm c.args.link.now) (perm c.turn.new.link) (passes c.args.gate.now) (passes c.pass.new.self)
    (turning_next c.args.until (rules_of c.args.table.now) c.args.script.now c.loop-number.number c.args.node.now c.loop-number.node c.turn.new.node c.loop-number.cue c.turn.new.cue
    (perm c.args.link.now) (perm c.loop-number.link) (perm c.turn.new.link) (passes c.args.gate.now) (passes c.loop-number.gate) (passes c.pass.new.self) c.in-Ok-true.ensures.outside.on.since
    c.loop-number.invariant.turning (c.turn.ensures.goes_on.acting c.args.node.now.entries (c.loop-number.invariant.goes_on.acting c.args.node.now.entries started)) c.in-Ok-true.ensures.outside.on.all may c.turn.ensures.permissions
    (subst (λ (n : ℕ). Lists ((n, c.loop-number.number) ∷ []) (passes c.loop-number.gate) (passes c.pass.new.self)) own c.pass.ensures))

pub returns-in-Err-clause-turns : goal.returns-in-Err-clause-turns
returns-in-Err-clause-turns g c =
    let started = acts_first (rules_of c.args.table.now) c.args.script.now c.args.node.now c.first-cue.result c.requires.run (c.first-cue.ensures ∙ ap (λ (xs : List JournalEntry). first_cue xs) c.entries.ensures) in
    let perm = g.L.Link.permissions in
    let passes = g.G.Gate.passes in
    let own : c.pnn.result ≡ c.args.node.now.core.pnn = c.pnn.ensures ∙ ap (λ (k : Core). k.pnn) c.core.ensures ∙ c.loop-number.invariant.goes_on.pnn in
    let may : may_turn c.args.until c.loop-number.number (length c.loop-number.node.entries) ≡ true = may_begin c.args.until c.loop-number.number c.most_turns-most.result (length c.loop-number.node.entries) c.is_full.result c.most_turns-most.ensures c.loop-number-test.true c.is_full.ensures c.if-not-is_full.true in
    turns_broken c.args.until c.args.script.now c.in-Err.fault (c.loop-number.number + 1) c.args.node.now c.turn.new.node c.turn.new.cue (perm c.args.link.now) (perm c.turn.new.link) (passes c.args.gate.now) (passes c.pass.new.self)
    (turning_next c.args.until (rules_of c.args.table.now) c.args.script.now c.loop-number.number c.args.node.now c.loop-number.node c.turn.new.node c.loop-number.cue c.turn.new.cue
    (perm c.args.link.now) (perm c.loop-number.link) (perm c.turn.new.link) (passes c.args.gate.now) (passes c.loop-number.gate) (passes c.pass.new.self) c.in-Err.ensures.outside.on.since
    c.loop-number.invariant.turning (c.turn.ensures.goes_on.acting c.args.node.now.entries (c.loop-number.invariant.goes_on.acting c.args.node.now.entries started)) c.in-Err.ensures.outside.on.all may c.turn.ensures.permissions
    (subst (λ (n : ℕ). Lists ((n, c.loop-number.number) ∷ []) (passes c.loop-number.gate) (passes c.pass.new.self)) own c.pass.ensures))

pub returns-in-Ok-clause-turns : goal.returns-in-Ok-clause-turns
returns-in-Ok-clause-turns g c =
    let perm = g.L.Link.permissions in
    let passes = g.G.Gate.passes in
    let may : may_turn c.args.until c.loop-number.number (length c.loop-number.node.entries) ≡ false = elim c.loop-number-test.branch [
      | then-loop-number-test+else-not-is_full w ↦ none_wanted c.args.until c.loop-number.number (length c.loop-number.node.entries) w.is_full.result w.is_full.ensures w.if-not-is_full.false
      | else-loop-number-test w ↦ none_left c.args.until c.loop-number.number c.most_turns-most.result (length c.loop-number.node.entries) c.most_turns-most.ensures w.loop-number-test.false
    ] in
    turns_budget c.args.until c.args.script.now c.loop-number.number c.args.node.now c.loop-number.node c.take_rest.new.node c.loop-number.cue (perm c.args.link.now) (perm c.loop-number.link) (perm c.take_rest.new.link)
    (passes c.args.gate.now) (passes c.loop-number.gate) c.in-Ok.ensures.outside.since c.loop-number.invariant.turning c.in-Ok.ensures.outside.all may c.take_rest.ensures.permissions

pub returns-clause-turns : goal.returns-clause-turns
returns-clause-turns g c =
    let perm = g.L.Link.permissions in
    let passes = g.G.Gate.passes in
    let may : may_turn c.args.until c.loop-number.number (length c.loop-number.node.entries) ≡ false = elim c.loop-number-test.branch [
      | then-loop-number-test+else-not-is_full w ↦ none_wanted c.args.until c.loop-number.number (length c.loop-number.node.entries) w.is_full.result w.is_full.ensures w.if-not-is_full.false
      | else-loop-number-test w ↦ none_left c.args.until c.loop-number.number c.most_turns-most.result (length c.loop-number.node.entries) c.most_turns-most.ensures w.loop-number-test.false
    ] in
    turns_stopped c.args.until c.args.script.now c.in-Err-take_rest.fault c.loop-number.number c.args.node.now c.loop-number.node c.take_rest.new.node c.loop-number.cue (perm c.args.link.now) (perm c.loop-number.link) (perm c.take_rest.new.link)
    (passes c.args.gate.now) (passes c.loop-number.gate) c.in-Err-take_rest.ensures.outside.since c.loop-number.invariant.turning c.in-Err-take_rest.ensures.outside.all may c.take_rest.ensures.permissions
