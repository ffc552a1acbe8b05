use Rattle.std.proofs.Common.{◌≡◌, ◌≤◌, ◌++◌, ◌-◌, length, take, drop}
use Rattle.ct_lcp2_lines.specs.Placing.{with_address}
use Rattle.ct_lcp2_lines.proofs.placing.place_of.Given as goal

-- what comes before so far stays before
abbrev pub invariant-loop-place : goal.invariant-loop-place
invariant-loop-place l = record {
  within : l.place ≤ length l.at;
  before : take l.place l.at ++ with_address l.one (drop l.place l.at) ≡ with_address l.one l.at;
}

abbrev pub decreases-loop-place : goal.decreases-loop-place
decreases-loop-place l = length l.at - l.place
