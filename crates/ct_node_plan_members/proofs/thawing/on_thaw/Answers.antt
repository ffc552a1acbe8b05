use Rattle.std.proofs.Common.{◌<◌, ◌^◌, ℕ, rules, sym, subst}
use Rattle.ct_call.specs.Shown.{rules_of}
use Rattle.ct_node_plan_members.proofs.Thawed.{planned_thaw, served_node}
use Rattle.ct_node_plan_members.proofs.thawing.on_thaw.Goals as goal

pub want_pending-requires-clause-dbs : goal.want_pending-requires-clause-dbs
want_pending-requires-clause-dbs g c = (served_node c.args.generation c.args.node.now c.in_ok-turn.turn c.in_ok-turn.ensures).0

pub want_pending-requires-clause-next : goal.want_pending-requires-clause-next
want_pending-requires-clause-next g c = subst (λ (n : ℕ). n < 2 ^ 62) (sym (served_node c.args.generation c.args.node.now c.in_ok-turn.turn c.in_ok-turn.ensures).1) c.requires.next

pub returns : goal.returns
returns g c =
    planned_thaw c.args.config.now (rules_of c.args.table.now) c.args.me c.args.generation c.args.node.now c.in_ok-turn.turn c.want_pending.new.turn _
    (search rules) c.in_ok-turn.ensures c.in_ok-want_pending.ensures c.in_ok-whole.ensures
