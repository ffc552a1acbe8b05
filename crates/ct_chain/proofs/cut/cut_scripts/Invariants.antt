use Rattle.std.proofs.Common.{◌≡◌, ◌++◌, drop}
use Rattle.std.specs.Prelude.{map}
use Rattle.ct_chain.specs.Cut.{cut_script}
use Rattle.ct_chain.proofs.cut.cut_scripts.Given as goal

-- the scripts so far are cut
abbrev pub invariant-loop-script : goal.invariant-loop-script
invariant-loop-script l = l.all ++ map (cut_script l.config l.chains l.number) (drop l.script-index l.scripts) ≡ map (cut_script l.config l.chains l.number) l.scripts
