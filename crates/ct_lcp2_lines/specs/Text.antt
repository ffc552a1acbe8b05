-- The text of the placement over what lines say of nodes and addresses.
use Rattle.std.specs.Prelude.{ℕ, not, List, [], ◌++◌, codes, Option, None, Some}
use Rattle.std.specs.Fmt.{decimal}
use Rattle.std.specs.List.{filter, flat_map, range_with_len}
use Rattle.ct_values.specs.Address.{address_text}
use Rattle.ct_frame.specs.declared.frame.Assigned.{Assigned}
use Rattle.ct_lcp2.specs.Distance.{imbalance}
use Rattle.ct_lcp2.specs.Placing.{held, placed}
use Rattle.ct_lcp2_lines.specs.Placing.{Given, is_disabled}
use Rattle.ct_text.specs.Words.{node_text}

-- the nodes that are not disabled
abbrev pub able_of : ℕ → List ℕ → List ℕ
able_of nodes disabled = filter (λ n. not (is_disabled disabled n)) (range_with_len 0 nodes)

-- an address and its node, `-1` for none
unfoldable pub address_line : Assigned → List ℕ
address_line x = address_text x.address ++ codes " " ++ node_text x.node ++ codes "\n"

-- a node and the imbalance of the addresses that it holds
unfoldable pub imbalance_line : List Assigned → ℕ → List ℕ
imbalance_line at node = codes "imbalance " ++ decimal node ++ codes " " ++ decimal (imbalance (held node at)) ++ codes "\n"

-- a line for each address in ascending order, and then one for each node
abbrev pub placement_text : ℕ → List Assigned → List ℕ
placement_text nodes at = flat_map address_line at ++ flat_map (imbalance_line at) (range_with_len 0 nodes)

-- nothing, as long as no line says how many nodes there are
abbrev pub text_over : Option ℕ → Given → List ℕ
text_over None g = []
text_over (Some nodes) g = placement_text nodes (placed (able_of nodes g.disabled) g.at)

-- the text of the placement over the able nodes that LCP2 makes of what is given
unfoldable pub text_of : Given → List ℕ
text_of g = text_over g.nodes g
