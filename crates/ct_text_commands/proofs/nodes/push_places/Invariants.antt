use Rattle.std.proofs.Common.{◌≡◌, ◌++◌, drop}
use Rattle.std.specs.List.{flat_map}
use Rattle.ct_text_commands.specs.Lists.{place_line}
use Rattle.ct_text_commands.proofs.nodes.push_places.Given as goal

-- the text before and the lines of the addresses that are left
abbrev pub invariant-loop-address : goal.invariant-loop-address
invariant-loop-address l = l.text.items ++ flat_map (place_line l.placement) (drop l.address-index l.config.addresses) ≡ l.fn.text.items ++ flat_map (place_line l.placement) l.config.addresses
