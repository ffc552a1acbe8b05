-- The addresses at a node, as what may leave it; and what need not be tried, since it cannot be the best.
use Rattle.std.specs.Prelude.{◌≡◌, ◌+◌, ◌<◌, ℕ, Bool, false, not, ◌&&◌, ◌||◌, ◌==◌, nat_lt, List, get_or, length, map, Option, None, Some}
use Rattle.std.specs.List.{All}
use Rattle.ct_values.specs.declared.address.Address.{Address}
use Rattle.ct_values.specs.declared.address.Address.TheVariants.{V4}
use Rattle.ct_frame.specs.declared.frame.Assigned.{Assigned}
use Rattle.ct_lcp2.specs.Distance.{sum_to, imbalance}
use Rattle.ct_lcp2.specs.Placing.{held, others}
use Rattle.ct_lcp2.specs.declared.choice.Choice.{Choice}
use Rattle.ct_lcp2.specs.declared.choice.Source.{Source}
use Rattle.ct_lcp2.specs.declared.leaver.Leaver.{Leaver}

-- an address at no node
abbrev pub unplaced : Assigned
unplaced = record { address = V4 0; node = None }

-- the address at this place of a placement
abbrev pub address_at : List Assigned → ℕ → Address
address_at xs i = (get_or xs i unplaced).address

-- Its place is one of the placement, its sum is the one to the others here, and by so much the imbalance falls without it.
pub record IsLeaver (here : List Address) (xs : List Assigned) (l : Leaver) : Type 0 where
  pub within : l.place < length xs
  pub sum : l.sum ≡ sum_to (address_at xs l.place) (others (address_at xs l.place) here)
  pub without : imbalance (others (address_at xs l.place) here) + l.sum ≡ imbalance here

-- these are all addresses at the node, in order
pub record AreLeavers (node : ℕ) (xs : List Assigned) (ls : List Leaver) : Type 0 where
  pub all : map (λ l. address_at xs l.place) ls ≡ held node xs
  pub each : All (IsLeaver (held node xs) xs) ls

-- the best so far has a lesser sum, so that no choice of this sum is better
abbrev pub is_beaten : ℕ → Option Choice → Bool
is_beaten sum None = false
is_beaten sum (Some c) = nat_lt c.sum sum

-- a node with this imbalance comes after the best source so far, whatever its moves are
abbrev pub is_behind : ℕ → ℕ → Option Source → Bool
is_behind node imbalance None = false
is_behind node imbalance (Some s) = not (nat_lt s.imbalance imbalance || (imbalance == s.imbalance && nat_lt node s.node))
