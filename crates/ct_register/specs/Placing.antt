-- Where the addresses of one generation are placed: by its push, and then by its takeover runs.
use Rattle.std.specs.Prelude.{◌≡◌, ℕ, ◌+◌, Bool, true, ◌&&◌, List, filter, Option, None, Some, is_some}
use Rattle.std.specs.List.{list_any}
use Rattle.ct_values.specs.Words.{is_this_node}
use Rattle.ct_values.specs.Address.{same_address}
use Rattle.ct_values.specs.declared.address.Address.{Address}
use Rattle.ct_frame.specs.declared.frame.Assigned.{Assigned}
use Rattle.ct_lcp2.specs.Placing.{placed}
use Rattle.ct_rules_cluster.specs.Handed.{is_among, assigned_all}
use Rattle.ct_register.specs.Words.{at}

-- a takeover run: the members that are able, and the placement that it begins with
pub record Run : Type 0 where
  pub able : List ℕ
  pub given : List Assigned

-- what was placed in one line
pub record Placing : Type 0 where
  -- what the push assigns
  pub pushed : Option (List Assigned)
  -- how many runs began
  pub begun : ℕ
  -- each of them, by its number from 1
  pub runs : ℕ → Option Run
  -- what the takes of each run assign
  pub taken : ℕ → Option (List Assigned)
  -- what the last take assigns
  pub last : Option (List Assigned)

-- a generation as it begins
abbrev pub nothing_placed : Placing
nothing_placed = record { pushed = None; begun = 0; runs = λ _. None; taken = λ _. None; last = None }

-- what a run assigns, of all configured addresses: each address that has a node in the placement that LCP2 makes of the
-- given one over the able members
unfoldable pub take_list : List Address → Run → List Assigned
take_list addresses run = filter (λ x. is_some x.node) (placed run.able (assigned_all addresses run.given))

-- the placement that the next run begins with: that of the last take, and of the push before any
unfoldable pub given_placement : Option (List Assigned) → Option (List Assigned) → Option (List Assigned)
given_placement pushed None = pushed
given_placement pushed (Some last) = Some last

-- nothing was pushed before, or the same
abbrev pub IsPushedAlike : List Assigned → Option (List Assigned) → Type 0
IsPushedAlike assigned None = Unit {0}
IsPushedAlike assigned (Some before) = assigned ≡ before

-- a push is sent: all pushes of a generation assign alike
abbrev pub AcceptsPush : List Assigned → Placing → Placing → Type 0
AcceptsPush assigned p q = IsPushedAlike assigned p.pushed × (q ≡ record p { pushed = Some assigned })

-- a run begins while these nodes are able: it goes over those of them that are members
abbrev pub AcceptsTakeover : List ℕ → List ℕ → Placing → Placing → Type 0
AcceptsTakeover members able p q =
    (given : List Assigned) × (given_placement p.pushed p.last ≡ Some given) ×
    (q ≡ record p {
      begun = p.begun + 1;
      runs = at (p.begun + 1) (Some (record { able = filter (λ n. is_among n members) able; given = given })) p.runs;
    })

-- a take of a run is sent: the run began, and the take assigns what the run does
abbrev pub AcceptsTake : List Address → ℕ → List Assigned → Placing → Placing → Type 0
AcceptsTake addresses number assigned p q =
    (run : Run) × (p.runs number ≡ Some run) × (assigned ≡ take_list addresses run) × (q ≡ record p { taken = at number (Some assigned) p.taken; last = Some assigned })

-- does the list assign the address to the node?
unfoldable pub assigns : Address → ℕ → List Assigned → Bool
assigns a n xs = list_any (λ x. same_address a x.address && is_this_node n x.node) xs

-- some take that was sent assigns the address to the node
abbrev pub IsAssigned : Address → ℕ → Placing → Type 0
IsAssigned a n p = (number : ℕ) × (assigned : List Assigned) × (p.taken number ≡ Some assigned) × (assigns a n assigned ≡ true)
