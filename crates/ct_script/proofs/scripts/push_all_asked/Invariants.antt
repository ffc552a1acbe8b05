use Rattle.std.proofs.Common.{◌≡◌, ◌++◌, drop}
use Rattle.std.specs.List.{flat_map}
use Rattle.ct_script.specs.Scripts.{asked_by}
use Rattle.ct_script.proofs.scripts.push_all_asked.Given as goal

abbrev pub invariant-loop-word : goal.invariant-loop-word
invariant-loop-word l = l.script ++ flat_map asked_by (drop l.word-index l.words) ≡ l.fn.script ++ flat_map asked_by l.words
