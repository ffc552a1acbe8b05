use Rattle.std.proofs.Common.{◌≡◌, ◌∙◌, ◌+◌, rules}
use Rattle.std.specs.List.{filter}
use Rattle.ct_lcp2.specs.Placing.{placed}
use Rattle.ct_lead.specs.Runs.{asked_again, led_running, led_takeover}
use Rattle.ct_rules_node.specs.Node.{is_among}
use Rattle.ct_rules_node.specs.Turn.{begins}
use Rattle.ct_node_plan_runs.proofs.Begins.{takeover_spent}
use Rattle.ct_node_plan_runs.proofs.Planned.{nothing_uncompleted, nothing_unserved, planned_begin}
use Rattle.ct_node_plan_runs.proofs.begin.begin_takeover.Goals as goal
use Rattle.ct_node_plan_runs.proofs.begin.begin_takeover.Goals.{then-not-is_serving-via-then-not-is_serving, then-not-is_serving-via-else-not-is_serving+then-not-is_completed_in}

pub returns-then-not-is_serving : goal.returns-then-not-is_serving
returns-then-not-is_serving c = elim c.then-not-is_serving.branch [
  | then-not-is_serving-via-then-not-is_serving w ↦ nothing_unserved c.nothing.result c.args.me c.args.able.now c.args.node.now c.nothing.ensures (search rules)
  | then-not-is_serving-via-else-not-is_serving+then-not-is_completed_in w ↦ nothing_uncompleted c.nothing.result c.args.me c.args.able.now c.args.node.now c.nothing.ensures (search rules)
]

pub returns-then-last : goal.returns-then-last
returns-then-last c = takeover_spent c.args.me c.args.able.now (begins c.args.node.now) c.args.node.now.lead (search rules) (search rules) (search rules)

pub returns : goal.returns
returns c =
    let members : c.asked_again-members.result.now ≡ asked_again c.args.node.now.lead = search rules in
    let made : c.made.result.now ≡ (led_takeover c.args.node.now.lead).made = search rules in
    let led : c.in_ok-lead.lead ≡ led_running (c.number-last.result + 1) c.in_ok-placement.placement.items c.args.node.now.lead = search rules in
    planned_begin c.args.me (c.number-last.result + 1) c.args.able.now c.in_ok-placement.placement.items c.args.node.now c.in_ok-new.field-0 c.post_releases.new.outs (search rules) (search rules) (search rules) (search rules)
    (c.in_ok-placement.ensures ∙ (λ i. placed (filter (λ m. is_among m (members i)) c.args.able.now) (made i))) (c.in_ok-new.ensures ∙ led) (search rules)
