-- The text of a schedule.
use Rattle.std.specs.Prelude.{ℕ, Bool, if◌then◌else◌, List, [], ◌++◌, codes, length}
use Rattle.std.specs.Fmt.{decimal}
use Rattle.std.specs.List.{flat_map}
use Rattle.ct_call.specs.Rules.{Rules}
use Rattle.ct_rules_cluster.specs.Cluster.{opening, pending}
use Rattle.ct_rules_cluster.specs.Traces.{Ran, ran}
use Rattle.ct_rules_cluster.specs.declared.step.Step.{Step}
use Rattle.ct_values.specs.declared.config.Config.{Config}
use Rattle.ct_text.specs.Line.{line_text, pending_text}
use Rattle.ct_schedule_text.specs.declared.schedule.Summary.{Summary}

-- the lines that a run printed, and then a line for each client call that waits at its end
abbrev pub run_text : Config → Ran → List ℕ
run_text c r = flat_map (line_text c) r.lines ++ flat_map (pending_text c) (pending r.cluster)

-- the command, by whether the nodes talked over sockets
abbrev pub command_name : Bool → List ℕ
command_name net = if net then codes "loopback" else codes "cluster"

-- the command's nodes and calls, how many entries all journals have, and how many messages the run sent
abbrev pub summary_text : ℕ → Summary → ℕ → List ℕ
summary_text nodes x frames =
    command_name x.net ++ (codes " " ++ decimal nodes) ++ (codes " " ++ decimal x.calls) ++ (codes " entries " ++ decimal x.entries) ++ (codes " frames " ++ decimal frames) ++ codes "\n"

-- a run with what is counted of it
abbrev pub told_run : Config → Summary → Ran → List ℕ
told_run c x r = run_text c r ++ summary_text c.nodes x (length r.cluster.sent)

-- Schedules: the text of these steps, taken one after the other from the opening
abbrev pub schedule_text : Config → Rules → List Step → Summary → List ℕ
schedule_text c rules steps x = told_run c x (ran c rules (opening c) [] steps)
