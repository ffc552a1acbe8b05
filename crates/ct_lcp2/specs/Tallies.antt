-- Running sums: what is kept of each node, so that a move changes only what it must.
use Rattle.std.specs.Prelude.{◌≡◌, ℕ, ◌-◌, List, ◌∷◌, ◌++◌, map, Option}
use Rattle.ct_values.specs.declared.address.Address.{Address}
use Rattle.ct_frame.specs.declared.frame.Assigned.{Assigned}
use Rattle.ct_lcp2.specs.Distance.{squared, sum_to, imbalance}
use Rattle.ct_lcp2.specs.Placing.{held}
use Rattle.ct_lcp2.specs.declared.tally.Tally.{Tally}

-- the sum of each address of a placement to these addresses
abbrev pub sums_to : List Address → List Assigned → List ℕ
sums_to there xs = map (λ x. sum_to x.address there) xs

-- the same sums less those to one address
abbrev pub sums_less : Address → List Address → List Assigned → List ℕ
sums_less a there xs = map (λ x. sum_to x.address there - squared x.address a) xs

-- a node, its imbalance, and the sum of each address of a placement to those at the node
abbrev pub tally : List Assigned → ℕ → Tally
tally xs node = record { node = node; imbalance = imbalance (held node xs); sums = sums_to (held node xs) xs }

-- the nodes of tallies
abbrev pub nodes : List Tally → List ℕ
nodes ts = map (λ t. t.node) ts

-- what the tallies of these nodes are where the addresses stand so
abbrev pub tallied : List Assigned → List Tally → List Tally
tallied xs ts = map (λ t. tally xs t.node) ts

-- the address is among these, and stands there
abbrev pub Stands : List Assigned → Address → Option ℕ → Type 0
Stands xs a o = (pre : List Assigned) × (post : List Assigned) × (xs ≡ pre ++ record { address = a; node = o } ∷ post)
