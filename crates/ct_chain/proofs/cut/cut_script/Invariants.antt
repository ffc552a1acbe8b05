use Rattle.std.proofs.Common.{◌≡◌, ◌++◌, drop}
use Rattle.ct_chain.specs.Cut.{cut_script}
use Rattle.ct_chain.proofs.cut.cut_script.Given as goal

-- what stands of the items so far is there
abbrev pub invariant-loop-item : goal.invariant-loop-item
invariant-loop-item l = l.items ++ cut_script l.config l.chains l.number (drop l.item-index l.script) ≡ cut_script l.config l.chains l.number l.script
