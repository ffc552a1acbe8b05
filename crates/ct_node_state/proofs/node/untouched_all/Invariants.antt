use Rattle.std.proofs.Common.{◌≡◌, ◌++◌, drop}
use Rattle.ct_rules_node.specs.Node.{untouched_all}
use Rattle.ct_node_state.proofs.node.untouched_all.Given as goal

-- those that are made and those for the declarations that are left are those for all
abbrev pub invariant-loop-decl : goal.invariant-loop-decl
invariant-loop-decl l = l.all.items ++ untouched_all (drop l.decl-index l.decls) ≡ untouched_all l.decls
