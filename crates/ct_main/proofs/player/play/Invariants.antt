use Rattle.std.proofs.Common.{◌≡◌, ◌-◌, ◌≤◌, List, ℕ, length}
use Rattle.std.specs.Io.KnownBytes.{Consumes}
use Rattle.ct_call.specs.Shown.{rules_of}
use Rattle.ct_main.specs.Feeding.{Fed}
use Rattle.ct_main.proofs.Ending.{first}
use Rattle.ct_main.proofs.player.play.Given as goal

abbrev pub invariant-loop-taken : goal.invariant-loop-taken
invariant-loop-taken g l =
    let source = g.S.Source in
    let sink = g.K.Sink in
    record {
      within : l.taken ≤ 1099511627776;
      played : (b : List ℕ) × (length b ≡ l.taken) × Consumes (source.left l.initial.input) (source.left l.input) b × Fed (rules_of l.initial.table) first l.player b (sink.held l.initial.out) (sink.held l.out);
      count : l.player.count ≤ l.taken;
      line : length l.player.line ≤ 65535;
      read_later : source.faults l.initial.input ≤ source.faults l.input;
      write_later : sink.faults l.initial.out ≤ sink.faults l.out;
    }

abbrev pub decreases-loop-taken : goal.decreases-loop-taken
decreases-loop-taken g l = 1099511627776 - l.taken
