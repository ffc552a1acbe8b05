use Rattle.std.proofs.Common.{◌≡◌, ◌<◌, List, length, arith, refl, subst, sym, Some}
use Rattle.std.specs.Prelude.{slice_get, Vec}
use Rattle.ct_rules_cluster.specs.Steps.{steps}
use Rattle.ct_core.specs.Core.{Core}
use Rattle.std.specs.declared.alloc.Global.{Global}
use Rattle.ct_rules_cluster.specs.declared.step.Line.{Line}
use Rattle.ct_world.proofs.Asked.{stop_node}
use Rattle.ct_world.proofs.Fed.{has_item, is_there}
use Rattle.ct_world.proofs.Pending.{stopped}
use Rattle.ct_world.proofs.Given.{no_memory}
use Rattle.ct_world.proofs.parts.Parts.stop.Goals as goal

pub pending_at-requires : goal.pending_at-requires
pending_at-requires c =
    let l = is_there c.args.self.now c.args.node c.requires.form (stop_node c.args.self.now c.args.node c.requires) in
    subst (λ (xs : List Core). c.args.node < length xs) (sym c.as_slice.ensures) l

pub restart_at-requires : goal.restart_at-requires
restart_at-requires c = is_there c.args.self.now c.args.node c.requires.form (stop_node c.args.self.now c.args.node c.requires)

pub mark-requires : goal.mark-requires
mark-requires c = (let l = stop_node c.args.self.now c.args.node c.requires in let r = c.requires.form.running in omega (arith, l, r))

pub returns-clause-step : goal.returns-clause-step
unfolding steps
returns-clause-step c = λ rules.
    let i = has_item c.args.self.now.cores c.args.node (is_there c.args.self.now c.args.node c.requires.form (stop_node c.args.self.now c.args.node c.requires)) in
    let calls = c.in_ok-calls.ensures i.0 (subst (λ (xs : List Core). slice_get xs c.args.node ≡ Some i.0) (sym c.as_slice.ensures) i.1) in
    let is = stopped c.args.self.now c.args.node i.0 i.1 c.requires.form.seats c.in_ok-calls.calls.items c.in_ok-lines.lines.items c.restart_at.new.cores c.mark.new.marks c.without_holder-self.result calls c.in_ok-lines.ensures (c.restart_at.ensures i.0 i.1) c.mark.ensures c.without_holder-self.ensures in
    (is.0, refl)

pub returns-clause-seats : goal.returns-clause-seats
returns-clause-seats c =
    let i = has_item c.args.self.now.cores c.args.node (is_there c.args.self.now c.args.node c.requires.form (stop_node c.args.self.now c.args.node c.requires)) in
    let calls = c.in_ok-calls.ensures i.0 (subst (λ (xs : List Core). slice_get xs c.args.node ≡ Some i.0) (sym c.as_slice.ensures) i.1) in
    let is = stopped c.args.self.now c.args.node i.0 i.1 c.requires.form.seats c.in_ok-calls.calls.items c.in_ok-lines.lines.items c.restart_at.new.cores c.mark.new.marks c.without_holder-self.result calls c.in_ok-lines.ensures (c.restart_at.ensures i.0 i.1) c.mark.ensures c.without_holder-self.ensures in
    is.1

pub returns-in_err-calls-clause-step : goal.returns-in_err-calls-clause-step
returns-in_err-calls-clause-step c = λ rules. no_memory (λ (v : Vec Line Global). v.items) c.from_residual.result _ _ c.from_residual.ensures.1

pub returns-in_err-lines-clause-step : goal.returns-in_err-lines-clause-step
returns-in_err-lines-clause-step c = λ rules. no_memory (λ (v : Vec Line Global). v.items) c.from_residual-in_err-lines.result _ _ c.from_residual-in_err-lines.ensures.1
