use Rattle.std.proofs.Common.{arith}
use Rattle.std.proofs.lemmas.Grind.{common_steps}
use Rattle.ct_outside.proofs.Pieces.{on_err, piece_appended, piece_refused}
use Rattle.ct_outside.proofs.sink.write_all.Goals as goal

pub returns-in_err-done-clause-err : goal.returns-in_err-done-clause-err
returns-in_err-done-clause-err g c =
    on_err c.from_residual.result _ (piece_refused _ _ _ c.args.bytes.now c.loop-done.done c.loop-done.invariant.appended c.in_err-done.ensures.bytes)

pub loop-done-preserved : goal.loop-done-preserved
loop-done-preserved g c =
    record {
      within = grind (arith, common_steps);
      appended = piece_appended _ _ _ c.args.bytes.now c.loop-done.done c.in_ok-done.field-0 c.loop-done.invariant.appended c.in_ok-done.ensures.bytes;
      later = omega arith;
    }
