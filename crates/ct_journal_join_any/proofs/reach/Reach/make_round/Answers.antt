use Rattle.std.proofs.Common.{ap, arith}
use Rattle.ct_call.specs.Shown.{rules_of}
use Rattle.ct_values.specs.declared.config.Config.{Config}
use Rattle.ct_journal_join_any.proofs.Rounds.{round_last}
use Rattle.ct_journal_join_any.proofs.reach.Reach.make_round.Goals as goal

pub returns : goal.returns
returns g c = round_last (rules_of c.args.table.now) c.args.journals.now c.loop-node.node c.loop-node.some c.args.self.now c.loop-node.self c.requires
    (let e = ap (λ (d : Config). d.nodes) c.config.ensures in omega (arith, e, c.loop-node-test.false)) c.loop-node.invariant
