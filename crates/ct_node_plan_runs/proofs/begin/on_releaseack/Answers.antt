use Rattle.std.proofs.Common.{◌≡◌, ◌∙◌, None, Some, ap, rules}
use Rattle.ct_lead.specs.Runs.{handed_out, led_after_releaseack, led_takeover}
use Rattle.ct_rules_node.specs.Node.{Lead}
use Rattle.ct_node_plan_runs.proofs.Planned.{nothing_awaited, planned_take, planned_wait}
use Rattle.ct_node_plan_runs.proofs.begin.on_releaseack.Goals as goal

pub returns-then-not-awaits_releaseack : goal.returns-then-not-awaits_releaseack
returns-then-not-awaits_releaseack c = nothing_awaited c.nothing.result c.args.me c.args.sender c.args.generation c.args.number c.args.node.now c.nothing.ensures (search rules)

pub returns-in_ok-new-in-Some : goal.returns-in_ok-new-in-Some
returns-in_ok-new-in-Some c =
    let led : c.in_ok-lead.lead ≡ led_after_releaseack c.args.sender c.args.node.now.lead = search rules in
    let given : handed_out (led_takeover c.in_ok-lead.lead).run ≡ Some c.in-Some.placement.now = search rules in
    planned_take c.args.me c.args.sender c.args.generation c.args.number c.in-Some.placement.now c.args.node.now c.in_ok-new-in-Some.field-0 c.in_ok-outs-in-Some.outs
    (search rules) (c.in_ok-new-in-Some.ensures ∙ led) (ap (λ (l : Lead). handed_out (led_takeover l).run) c.in_ok-new-in-Some.ensures ∙ given) (search rules)

pub returns-in_ok-new-in-None : goal.returns-in_ok-new-in-None
returns-in_ok-new-in-None c =
    let led : c.in_ok-lead.lead ≡ led_after_releaseack c.args.sender c.args.node.now.lead = search rules in
    let waits : handed_out (led_takeover c.in_ok-lead.lead).run ≡ None = search rules in
    planned_wait c.args.me c.args.sender c.args.generation c.args.number c.args.node.now c.in_ok-new-in-None.field-0 c.empty.result
    (search rules) (c.in_ok-new-in-None.ensures ∙ led) (ap (λ (l : Lead). handed_out (led_takeover l).run) c.in_ok-new-in-None.ensures ∙ waits) (search rules)
