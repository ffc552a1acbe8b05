use Rattle.std.proofs.Common.{◌≡◌, ◌++◌, ◌-◌, ◌≤◌}
use Rattle.ct_bus_run.specs.Generated.{rounds}
use Rattle.ct_script.specs.Scripts.{generator_of}
use Rattle.ct_bus_run.proofs.generated.rounds.Given as goal

-- the rounds that are there, and those that are left
abbrev pub invariant-loop-i : goal.invariant-loop-i
invariant-loop-i l = (l.i ≤ l.messages) × (l.all.items ++ rounds (l.messages - l.i) l.others l.generator ≡ rounds l.messages l.others (generator_of l.seed l.sender))
