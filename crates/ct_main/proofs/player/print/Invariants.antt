use Rattle.std.proofs.Common.{◌≤◌, take}
use Rattle.std.specs.Io.KnownBytes.{Appends}
use Rattle.ct_play.specs.Play.{all_text}
use Rattle.ct_main.proofs.player.print.Given as goal

abbrev pub invariant-loop-text : goal.invariant-loop-text
invariant-loop-text g l =
    let sink = g.K.Sink in
    record {
      wrote : Appends (sink.held l.initial.out) (sink.held l.out) (all_text (take l.text-index l.texts));
      later : sink.faults l.initial.out ≤ sink.faults l.out;
    }
