-- What a step does, as a list: messages to several nodes.
use Rattle.std.specs.Prelude.{ℕ, List, ◌++◌}
use Rattle.ct_frame.specs.declared.event.Out.{Out}
use Rattle.ct_frame.specs.declared.event.Out.TheVariants as out
use Rattle.ct_frame.specs.declared.frame.Assigned.{Assigned}
use Rattle.ct_frame.specs.declared.frame.Msg.{Msg}
use Rattle.ct_frame.specs.declared.frame.Msg.TheVariants as msg
use Rattle.ct_rules_node.specs.Takeovers.{share}
use Rattle.ct_rules_node.specs.Turn.{Turn}

-- a message of a generation that this node sends
abbrev pub sent : ℕ → ℕ → Msg → ℕ → Out
sent g me m receiver = out.Send (record { generation = g; sender = me; receiver = receiver; msg = m })

-- the Release to a node, with the addresses that it keeps
abbrev pub release_to : ℕ → ℕ → ℕ → List Assigned → ℕ → Out
release_to g me number placement n = sent g me (msg.Release number (share n placement)) n

-- the node does all this after all else
abbrev pub does_all : List Out → Turn → Turn
does_all xs t = record t { outs = t.outs ++ xs }
