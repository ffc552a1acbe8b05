use Rattle.std.proofs.Common.{◌≡◌, ◌++◌, ◌-◌, ◌≤◌}
use Rattle.ct_bus_run.specs.Generated.{after}
use Rattle.ct_script.specs.Scripts.{drawn}
use Rattle.ct_bus_run.proofs.generated.draw.Given as goal

-- the words that are there, and those that are left
abbrev pub invariant-loop-i : goal.invariant-loop-i
invariant-loop-i l = (l.i ≤ l.count) × (l.words.items ++ drawn (l.count - l.i) l.generator ≡ drawn l.count l.initial.generator) × (after (l.count - l.i) l.generator ≡ after l.count l.initial.generator)
