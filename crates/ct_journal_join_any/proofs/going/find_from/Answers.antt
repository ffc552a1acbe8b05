use Rattle.std.proofs.Common.{◌≡◌, true, arith, sym, ◌∙◌}
use Rattle.ct_journal_join_any.proofs.Searching.{none_from, none_left, tried_more}
use Rattle.ct_journal_join_any.proofs.going.find_from.Goals as goal

pub returns-in-None-clause-none : goal.returns-in-None-clause-none
returns-in-None-clause-none c = λ one k le h. none_from c.args.world.now.cluster c.args.frame.now c.args.from c.loop-number.number c.loop-number.invariant (omega arith) c.in-None.ensures one k le h

pub loop-number-preserved : goal.loop-number-preserved
loop-number-preserved c =
    let h = c.in-Some.ensures in
    tried_more c.args.world.now.cluster c.args.frame.now c.args.from c.loop-number.number h.0 c.loop-number.invariant h.1
    (λ e. absurd (let t : c.same.result ≡ true = c.same.ensures.1 (sym h.2 ∙ e) in let f = c.if-same.false in cc))

pub returns-clause-none : goal.returns-clause-none
returns-clause-none c = λ one k le h. none_left c.args.world.now.cluster c.args.frame.now c.args.from c.loop-number.number c.loop-number.invariant (omega arith) k le h
