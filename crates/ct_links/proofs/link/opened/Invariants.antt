use Rattle.std.proofs.Common.{◌≡◌, map}
use Rattle.ct_links.specs.Streams.{open_lane}
use Rattle.ct_links.proofs.link.opened.Given as goal

-- a lane to each peer so far
abbrev pub invariant-loop-node : goal.invariant-loop-node
invariant-loop-node g l = l.lanes.items ≡ map open_lane l.yielded
