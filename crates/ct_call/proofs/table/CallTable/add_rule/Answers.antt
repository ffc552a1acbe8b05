use Rattle.std.proofs.Common.{◌≡◌, false}
use Rattle.ct_call.specs.Named.{named}
use Rattle.ct_call.specs.Rules.{is_known}
use Rattle.ct_call.proofs.Distinct.{distinct_pushed}
use Rattle.ct_call.proofs.table.CallTable.add_rule.Goals as goal

pub invariant_of-self : goal.invariant_of-self
invariant_of-self g c =
    let n : is_known c.args.id (named c.args.self.now.calls.items) ≡ false = cc (c.knows.ensures.known, c.if-knows.false) in
    record { distinct = distinct_pushed c.push.result _ _ _ _ c.push.ensures c.knows.ensures.distinct n }
