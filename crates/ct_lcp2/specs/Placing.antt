-- LCP2: which node holds which address, in three steps. Addresses leave the nodes that are not able; addresses with no
-- node are placed where they are farthest from the others; addresses fail back to nodes that held none at first.
use Rattle.std.specs.Prelude.{ℕ, zero, suc, ◌+◌, Bool, false, not, ◌&&◌, ◌||◌, ◌==◌, nat_lt, nat_eq, is_some, if◌then◌else◌, List, [], ◌∷◌, ◌++◌, map, Option, None, Some, option_map}
use Rattle.std.specs.List.{filter, list_any}
use Rattle.std.specs.List.Sorted.{IsStrictlySortedBy}
use Rattle.ct_values.specs.Words.{is_nil, is_this_node}
use Rattle.ct_values.specs.Address.{address_cmp, address_before, same_address}
use Rattle.ct_values.specs.declared.address.Address.{Address}
use Rattle.ct_frame.specs.declared.frame.Assigned.{Assigned}
use Rattle.ct_lcp2.specs.Distance.{sum_to, imbalance}
use Rattle.ct_lcp2.specs.Best.{best, better}
use Rattle.ct_lcp2.specs.declared.choice.Choice.{Choice}
use Rattle.ct_lcp2.specs.declared.choice.Source.{Source}
use Rattle.ct_lcp2.specs.declared.placement.Move.{Move}
use Rattle.ct_lcp2.specs.declared.placement.Placement.{Placement}

-- ---- where addresses stand

abbrev pub addresses : List Assigned → List Address
addresses xs = map (λ x. x.address) xs

-- the addresses ascend, none twice
abbrev pub Ascend : List Assigned → Type 0
Ascend xs = IsStrictlySortedBy address_cmp (addresses xs)

-- the addresses at a node
unfoldable pub held : ℕ → List Assigned → List Address
held node [] = []
held node (x ∷ xs) = if is_this_node node x.node then x.address ∷ held node xs else held node xs

abbrev pub others : Address → List Address → List Address
others a bs = filter (λ b. not (same_address a b)) bs

-- the address stands at this node
abbrev pub seated : Address → ℕ → Assigned → Assigned
seated a node x = if same_address a x.address then record { address = x.address; node = Some node } else x

abbrev pub sent : Address → ℕ → List Assigned → List Assigned
sent a node xs = map (seated a node) xs

-- one move more, and the address stands at its target
abbrev pub moved : Address → Option ℕ → ℕ → Placement → Placement
moved a source target p = record { at = sent a target p.at; moves = p.moves ++ record { address = a; source = source; target = Some target } ∷ [] }

-- where there is a step, what it makes of the placement goes on, and else the placement stays
abbrev pub if_some : Option Placement → (Placement → Placement) → Placement → Placement
if_some None more p = p
if_some (Some q) more p = more q

-- the step is taken while there is one, and so many times at most
unfoldable pub repeated : ℕ → (Placement → Option Placement) → Placement → Placement
repeated zero next p = p
repeated (suc n) next p = if_some (next p) (repeated n next) p

-- ---- choices: a sum, and then an address and a node

-- the least sum; of equal ones the lower address, and then the lower node
abbrev pub choice_before : Choice → Choice → Bool
choice_before c d =
    nat_lt c.sum d.sum || (c.sum == d.sum && (address_before c.address d.address || (same_address c.address d.address && nat_lt c.node d.node)))

-- ---- step one: away from nodes that are not able

abbrev pub is_able : List ℕ → ℕ → Bool
is_able able node = list_any (nat_eq node) able

abbrev pub must_leave : List ℕ → Option ℕ → Bool
must_leave able None = false
must_leave able (Some node) = not (is_able able node)

abbrev pub freed : List ℕ → Assigned → Assigned
freed able x = if must_leave able x.node then record { address = x.address; node = None } else x

-- the moves away, by ascending address
unfoldable pub moves_away : List ℕ → List Assigned → List Move
moves_away able [] = []
moves_away able (x ∷ xs) =
    if must_leave able x.node then record { address = x.address; source = x.node; target = None } ∷ moves_away able xs else moves_away able xs

abbrev pub vacated : List ℕ → List Assigned → Placement
vacated able given = record { at = map (freed able) given; moves = moves_away able given }

-- ---- step two: addresses with no node

-- each address with no node may be placed at this node, which holds these, with its sum to them
unfoldable pub places_at : ℕ → List Address → List Assigned → List Choice
places_at node there [] = []
places_at node there (x ∷ xs) =
    if is_some x.node then places_at node there xs else record { sum = sum_to x.address there; address = x.address; node = node } ∷ places_at node there xs

-- all pairs of an address with no node and an able node
unfoldable pub places : List ℕ → List Assigned → List Choice
places [] xs = []
places (node ∷ nodes) xs = places_at node (held node xs) xs ++ places nodes xs

abbrev pub next_place : List ℕ → List Assigned → Option Choice
next_place able xs = best choice_before (places able xs)

-- how many addresses have no node: one fewer after each placement
unfoldable pub homeless : List Assigned → ℕ
homeless [] = 0
homeless (x ∷ xs) = if is_some x.node then homeless xs else suc (homeless xs)

-- the best pair is placed
abbrev pub one_placed : List ℕ → Placement → Option Placement
one_placed able p = option_map (λ c. moved c.address None c.node p) (next_place able p.at)

-- while an address has no node and a node is able, the best pair is placed
abbrev pub filled : List ℕ → Placement → Placement
filled able p = repeated (homeless p.at) (one_placed able) p

-- ---- step three: failback

-- may the address move from the node that holds the first list to the one that holds the second? The second then has
-- less imbalance than the first had, and the address is farther from what is there than from the others that are here
abbrev pub may_fail_back : Address → List Address → List Address → Bool
may_fail_back a here there = nat_lt (imbalance (a ∷ there)) (imbalance here) && nat_lt (sum_to a there) (sum_to a (others a here))

-- a move of one of these addresses, with the sum of the two imbalances that it makes
unfoldable pub failbacks_of : ℕ → List Address → List Address → List Address → List Choice
failbacks_of target here there [] = []
failbacks_of target here there (a ∷ rest) =
    if may_fail_back a here there then record { sum = imbalance (others a here) + imbalance (a ∷ there); address = a; node = target } ∷ failbacks_of target here there rest
    else failbacks_of target here there rest

-- all moves from a node to the targets other than itself
unfoldable pub failbacks : ℕ → List ℕ → List Assigned → List Choice
failbacks source [] xs = []
failbacks source (target ∷ targets) xs =
    if nat_eq target source then failbacks source targets xs
    else failbacks_of target (held source xs) (held target xs) (held source xs) ++ failbacks source targets xs

-- a source with its best move, where it has a move
abbrev pub source_of : ℕ → ℕ → Option Choice → List Source
source_of node imbalance None = []
source_of node imbalance (Some c) = record { imbalance = imbalance; node = node; choice = c } ∷ []

-- the able nodes that have a move
unfoldable pub sources : List ℕ → List ℕ → List Assigned → List Source
sources [] targets xs = []
sources (node ∷ nodes) targets xs =
    source_of node (imbalance (held node xs)) (best choice_before (failbacks node targets xs)) ++ sources nodes targets xs

-- sources are tried by falling imbalance, and of equal ones the lower node first
abbrev pub source_before : Source → Source → Bool
source_before s t = nat_lt t.imbalance s.imbalance || (s.imbalance == t.imbalance && nat_lt s.node t.node)

-- the first of the best source so far and a node with this imbalance and this best move, if it has one
abbrev pub with_source : ℕ → ℕ → Option Choice → Option Source → Option Source
with_source node imbalance None so_far = so_far
with_source node imbalance (Some c) so_far = better source_before so_far (record { imbalance = imbalance; node = node; choice = c })

-- the first source that has a move, and its best move
abbrev pub next_failback : List ℕ → List ℕ → List Assigned → Option Source
next_failback able targets xs = best source_before (sources able targets xs)

-- the addresses that stand with one at this node
abbrev pub beside : Option ℕ → List Assigned → List Address
beside None xs = []
beside (Some node) xs = held node xs

-- the imbalances of all nodes together: less after each failback
unfoldable pub total : List Assigned → ℕ
total [] = 0
total (x ∷ xs) = sum_to x.address (beside x.node xs) + total xs

-- the best move of the first source that has one is made
abbrev pub one_failed_back : List ℕ → List ℕ → Placement → Option Placement
one_failed_back able targets p = option_map (λ s. moved s.choice.address (Some s.node) s.choice.node p) (next_failback able targets p.at)

-- while a source has a move, the best move of the first such source is made
abbrev pub failed_back : List ℕ → List ℕ → Placement → Placement
failed_back able targets p = repeated (total p.at) (one_failed_back able targets) p

-- ---- the whole

-- the able nodes that hold no address in the given placement
abbrev pub targets_of : List ℕ → List Assigned → List ℕ
targets_of able given = filter (λ node. is_nil (held node given)) able

-- the placement over the able nodes that is made of the given one, and its moves in order
unfoldable pub placement : List ℕ → List Assigned → Placement
placement able given = failed_back able (targets_of able given) (filled able (vacated able given))

-- where the addresses stand then
abbrev pub placed : List ℕ → List Assigned → List Assigned
placed able given = (placement able given).at

-- the moves, in order
abbrev pub moves : List ℕ → List Assigned → List Move
moves able given = (placement able given).moves
