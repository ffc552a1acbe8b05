use Rattle.std.proofs.Common.{◌≡◌, max, drop}
use Rattle.ct_script.specs.Cues.{greatest_call}
use Rattle.ct_script.proofs.cue.greatest_call.Given as goal

abbrev pub invariant-loop-entry : goal.invariant-loop-entry
invariant-loop-entry l = max l.greatest (greatest_call (drop l.entry-index l.entries)) ≡ greatest_call l.entries
