use Rattle.std.proofs.Common.{◌≡◌}
use Rattle.std.specs.Prelude.{replicate}
use Rattle.ct_links.specs.Boxes.{fresh_box}
use Rattle.ct_links.proofs.boxes.Boxes.new.Given as goal

abbrev pub invariant-loop : goal.invariant-loop
invariant-loop l = l.slots.items ≡ replicate l.counter fresh_box
