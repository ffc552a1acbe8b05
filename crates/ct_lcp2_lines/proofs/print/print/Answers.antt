use Rattle.std.proofs.Common.{arith}
use Rattle.ct_outside.proofs.Pieces.{on_err}
use Rattle.ct_lcp2_lines.proofs.Printing.{line_part, line_printed}
use Rattle.ct_lcp2_lines.proofs.print.print.Goals as goal

pub returns-in_err-write_all-clause-err : goal.returns-in_err-write_all-clause-err
returns-in_err-write_all-clause-err g c =
    on_err c.from_residual.result _ (line_part c.args.text.now c.loop-done.done c.line_end-end.result _ _ _ (omega arith) c.loop-done.invariant.appended c.in_err-write_all.ensures.err)

pub loop-done-preserved : goal.loop-done-preserved
loop-done-preserved g c =
    record {
      within = c.line_end-end.ensures.within;
      appended = line_printed c.args.text.now c.loop-done.done c.line_end-end.result _ _ _ (omega arith) c.loop-done.invariant.appended c.in_ok-write_all.ensures.ok;
      later = omega (arith, c.in_ok-write_all.ensures.cause);
    }
