use Rattle.std.proofs.Common.{◌≡◌, ◌++◌, ◌-◌, ◌≤◌}
use Rattle.ct_script.specs.Scripts.{drawn, generator_of}
use Rattle.ct_script.proofs.scripts.draw.Given as goal

-- the words that are there, and those that are left
abbrev pub invariant-loop-i : goal.invariant-loop-i
invariant-loop-i l = (l.i ≤ l.calls) × (l.words.items ++ drawn (l.calls - l.i) l.generator ≡ drawn l.calls (generator_of l.seed l.node))
