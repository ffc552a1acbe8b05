use Rattle.std.proofs.Common.{◌≡◌, ◌++◌}
use Rattle.std.specs.Prelude.{map}
use Rattle.ct_rules_node.specs.Records.{out_of}
use Rattle.ct_node_state.proofs.outs.outs_of.Given as goal

-- what is done and what is left to do, as the node does it
abbrev pub invariant-loop-act : goal.invariant-loop-act
invariant-loop-act l = l.outs.items ++ map (out_of l.generation l.me l.db l.key) l.act-iterator.rest.items ≡ map (out_of l.generation l.me l.db l.key) l.initial.act-iterator.rest.items
