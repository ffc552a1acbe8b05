use Rattle.std.proofs.Common.{◌≡◌, ◌≤◌, ◌+◌, ◌-◌, ◌*◌, ◌++◌, ◌∷◌, get_or, take, length}
use Rattle.std.specs.Net.Text.{groups_text}
use Rattle.ct_values.proofs.address.written.Written.push_groups.Given as goal

-- the first group and those after it so far have come to the end
abbrev pub invariant-loop-group : goal.invariant-loop-group
invariant-loop-group l =
    (l.self ≡ l.fn.self ++ groups_text (get_or l.groups 0 0 ∷ take l.group-index l.rest))
    × (length l.self ≤ length l.fn.self + 5 * (l.group-index + 1) - 1)
