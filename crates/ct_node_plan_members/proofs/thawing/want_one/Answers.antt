use Rattle.std.proofs.Common.{◌≡◌, false, rules, sym, ap}
use Rattle.ct_call.specs.Shown.{rules_of}
use Rattle.ct_rules_node.specs.Records.{at_record, view}
use Rattle.ct_rules_node.specs.Rounds.{want_again}
use Rattle.ct_rules_node.specs.Turn.{Turn}
use Rattle.ct_node_plan_members.proofs.Thawed.{again_next}
use Rattle.ct_node_plan_members.proofs.thawing.want_one.Goals as goal

pub returns-clause-next : goal.returns-clause-next
unfolding at_record view
returns-clause-next g c =
    let e : c.acted.new.self ≡ at_record c.args.config.now c.args.me c.args.called.now.db c.args.called.now.key (want_again (rules_of c.args.table.now)) c.args.turn.now = search rules in
    let s : c.acted.new.self.spent ≡ false = sym (ap (λ (t : Turn). t.spent) c.turn-2.view_is) in
    again_next c.args.config.now (rules_of c.args.table.now) c.args.me c.args.called.now.db c.args.called.now.key c.args.turn.now c.acted.new.self e c.requires.next s
