use Rattle.std.proofs.Common.{Err, arith, sym, subst}
use Rattle.ct_outside.specs.Causes.{AppendsPart}
use Rattle.ct_main.specs.Feeding.{Prints}
use Rattle.ct_main.proofs.Printing.{printed_part}
use Rattle.ct_main.proofs.player.print.Goals as goal

pub returns-in-Err-clause-prints : goal.returns-in-Err-clause-prints
returns-in-Err-clause-prints g c =
    let a = g.K.Sink.held c.args.out.now in
    let b = g.K.Sink.held c.loop-text.out in
    let z = g.K.Sink.held c.write_all.new.out in
    subst (λ e. Prints (Err e) c.args.texts.now a z) (sym c.from.ensures)
    (printed_part c.in-Err.fault c.args.texts.now c.loop-text.text-index c.text-item.result a b z (omega arith) c.text-item.is c.loop-text.invariant.wrote (subst (AppendsPart b z) c.as_slice.ensures c.in-Err.ensures.err))
