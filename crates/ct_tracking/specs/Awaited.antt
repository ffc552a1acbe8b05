-- Nodes that are asked for an acknowledgement, and those of them that have not given it yet.
use Rattle.std.specs.Prelude.{ℕ, ◌+◌, nat_eq, nat_lt, Bool, ◌&&◌, if◌then◌else◌, List, [], ◌∷◌, Contains}
use Rattle.std.specs.List.{list_any}
use Rattle.std.specs.List.Sorted.{IsStrictlyIncreasing}
use Rattle.ct_values.specs.Words.{is_nil, others}

-- the nodes that are asked, and those that have not acknowledged yet
pub record Awaited : Type 0 where
  pub asked : List ℕ
  pub missing : List ℕ

-- both ascend, and only nodes that are asked are missing
pub record AreAsked (asked missing : List ℕ) : Type 0 where
  pub asked_ascend : IsStrictlyIncreasing asked
  pub missing_ascend : IsStrictlyIncreasing missing
  pub among : (n : ℕ) → Contains missing n → Contains asked n

-- these nodes are asked, and all of them are missing
abbrev pub asking : List ℕ → Awaited
asking nodes = record { asked = nodes; missing = nodes }

-- the nodes with one more in its place, once
abbrev pub including : ℕ → List ℕ → List ℕ
including node [] = node ∷ []
including node (n ∷ ns) = if nat_lt n node then n ∷ including node ns else if nat_eq n node then n ∷ ns else node ∷ n ∷ ns

-- one more node is among those that are asked, and not missing by that
abbrev pub asked_too : ℕ → Awaited → Awaited
asked_too node a = record a { asked = including node a.asked }

-- all that are asked are missing once more
abbrev pub asked_again : Awaited → Awaited
asked_again a = asking a.asked

-- a node acknowledged: it is not missing any more
abbrev pub acknowledged : ℕ → Awaited → Awaited
acknowledged node a = record a { missing = others node a.missing }

-- is this node missing, and no other?
abbrev pub is_last : ℕ → List ℕ → Bool
is_last node missing = list_any (nat_eq node) missing && is_nil (others node missing)

-- how many of the first nodes are below this one
abbrev pub below : ℕ → List ℕ → ℕ
below node [] = 0
below node (n ∷ ns) = if nat_lt n node then below node ns + 1 else 0
