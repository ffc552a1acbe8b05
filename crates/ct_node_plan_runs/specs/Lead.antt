-- Retry: what the leader of a round sends again.
use Rattle.std.specs.Prelude.{ℕ, if◌then◌else◌, List, [], ◌++◌, Option, None, Some, map}
use Rattle.ct_frame.specs.declared.event.Out.{Out}
use Rattle.ct_frame.specs.declared.frame.Assigned.{Assigned}
use Rattle.ct_frame.specs.declared.frame.Msg.{Msg}
use Rattle.ct_frame.specs.declared.frame.Msg.TheVariants as msg
use Rattle.ct_lead.specs.Runs.{asked_again, handed_out, led_generation, led_takeover, placement_of, question, unreleased}
use Rattle.ct_node_plan.specs.Posts.{release_to, sent}
use Rattle.ct_rules_node.specs.Node.{Node, Lead, is_present_in}
use Rattle.ct_rules_node.specs.Takeovers.{assigned_in}

-- the message, where there is one, to each of these nodes
abbrev pub sent_to : ℕ → ℕ → List ℕ → Option Msg → List Out
sent_to g me ns None = []
sent_to g me ns (Some m) = map (sent g me m) ns

-- what the round waits for, from those that are missing
abbrev pub question_again : ℕ → Lead → List Out
question_again me l = sent_to (led_generation l) me (asked_again l) (question l)

-- the Take to all, once the placement is handed out, and else the Releases of the missing members
abbrev pub run_sent : ℕ → ℕ → Lead → Option (List Assigned) → List Out
run_sent g me l None = map (release_to g me (led_takeover l).number (placement_of (led_takeover l).run)) (unreleased (led_takeover l).run)
run_sent g me l (Some p) = map (sent g me (msg.Take (led_takeover l).number (assigned_in p))) (asked_again l)

-- what the run waits for
abbrev pub run_again : ℕ → Lead → List Out
run_again me l = run_sent (led_generation l) me l (handed_out (led_takeover l).run)

-- first of the round, and then of the run, where the node is present
abbrev pub round_again : ℕ → Node → List Out
round_again me n = question_again me n.lead ++ (if is_present_in (led_generation n.lead) n then run_again me n.lead else [])
