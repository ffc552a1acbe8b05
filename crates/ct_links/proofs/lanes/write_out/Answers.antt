use Rattle.std.proofs.Common.{arith}
use Rattle.std.proofs.lemmas.Grind.{common_steps}
use Rattle.ct_outside.proofs.Pieces.{piece_appended}
use Rattle.ct_links.proofs.Passing.{part_written}
use Rattle.ct_links.proofs.lanes.write_out.Goals as goal

pub returns-in-Ok-eq0-clause-err : goal.returns-in-Ok-eq0-clause-err
returns-in-Ok-eq0-clause-err g c = part_written _ _ _ c.args.bytes.now c.loop-done.done c.write.result c.loop-done.invariant.appended c.write.ensures.bytes

pub loop-done-preserved-in-Ok : goal.loop-done-preserved-in-Ok
loop-done-preserved-in-Ok g c =
    record {
      within = grind (arith, common_steps);
      tried = c.loop-done.invariant.tried;
      appended = piece_appended _ _ _ c.args.bytes.now c.loop-done.done c.in-Ok.count c.loop-done.invariant.appended c.in-Ok.ensures.bytes;
    }

pub returns-in-Err-2-clause-err : goal.returns-in-Err-2-clause-err
returns-in-Err-2-clause-err g c = part_written _ _ _ c.args.bytes.now c.loop-done.done c.write.result c.loop-done.invariant.appended c.write.ensures.bytes

pub returns-in-Err-2-2-clause-err : goal.returns-in-Err-2-2-clause-err
returns-in-Err-2-2-clause-err g c = part_written _ _ _ c.args.bytes.now c.loop-done.done c.write.result c.loop-done.invariant.appended c.write.ensures.bytes
