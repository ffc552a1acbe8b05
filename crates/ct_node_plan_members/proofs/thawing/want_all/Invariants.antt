use Rattle.std.proofs.Common.{◌≡◌, ◌<◌, ◌^◌, length}
use Rattle.std.specs.List.{AllByRecursion}
use Rattle.ct_call.specs.Shown.{rules_of}
use Rattle.ct_rules_node.specs.Rounds.{want_all}
use Rattle.ct_node_plan_members.proofs.thawing.want_all.Given as goal

-- what comes of the calls so far and of those that are left, which are of databases that are there
abbrev pub invariant-loop-called : goal.invariant-loop-called
invariant-loop-called g l = record {
  wanted : want_all l.config (rules_of l.table) l.me l.called-iterator.rest.items l.turn ≡ want_all l.config (rules_of l.table) l.me l.initial.called-iterator.rest.items l.initial.turn;
  there : AllByRecursion (λ x. x.db < length l.turn.node.dbs) l.called-iterator.rest.items;
  next : l.turn.node.next < 2 ^ 62;
}
