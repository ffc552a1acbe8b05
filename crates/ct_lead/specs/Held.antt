-- The addresses that a node holds, and the last takeover run that it followed.
use Rattle.std.specs.Prelude.{ℕ, ◌+◌, nat_eq, nat_lt, not, if◌then◌else◌, List, [], ◌∷◌, Option, None, Some}
use Rattle.std.specs.List.{filter}
use Rattle.ct_values.specs.Address.{address_before}
use Rattle.ct_values.specs.declared.address.Address.{Address}
use Rattle.ct_frame.specs.declared.frame.Assigned.{Assigned}
use Rattle.ct_rules_node.specs.Takeovers.{has_address, held_with, share}

-- the addresses that are held, ascending, and the number of the last run that was followed, 0 for none
pub record Holding : Type 0 where
  pub held : List Address
  pub last_run : ℕ

-- nothing is held, and no run was followed
abbrev pub holds_nothing : Holding
holds_nothing = record { held = []; last_run = 0 }

-- those of these addresses that are in the list
abbrev pub kept : List Address → List Address → List Address
kept keep held = filter (has_address keep) held

-- those of these addresses that are not in the list
abbrev pub left_out : List Address → List Address → List Address
left_out keep held = filter (λ a. not (has_address keep a)) held

-- Release: what is given up, unless a later run was followed
abbrev pub released : ℕ → List Address → Holding → Option (List Address)
released number keep h = if nat_lt number h.last_run then None else Some (left_out keep h.held)

-- Release: what is not kept is given up, unless a later run was followed
abbrev pub after_release : ℕ → List Address → Holding → Holding
after_release number keep h = if nat_lt number h.last_run then h else record { last_run = number; held = kept keep h.held }

-- how many of the first addresses come before this one
abbrev pub before : Address → List Address → ℕ
before a [] = 0
before a (b ∷ bs) = if address_before b a then before a bs + 1 else 0

-- Take: each of these addresses is held besides
abbrev pub held_with_all : List Address → List Address → List Address
held_with_all [] held = held
held_with_all (a ∷ rest) held = held_with_all rest (held_with a held)

-- Take: what the placement gives to this node besides; only of the last run that was followed
abbrev pub taken : ℕ → List Assigned → ℕ → Holding → Option (List Address)
taken number assigned me h = if nat_eq number h.last_run then Some (left_out h.held (share me assigned)) else None

-- Take: what the placement gives to this node is held; only of the last run that was followed
abbrev pub after_take : ℕ → List Assigned → ℕ → Holding → Holding
after_take number assigned me h = if nat_eq number h.last_run then record h { held = held_with_all (left_out h.held (share me assigned)) h.held } else h

-- Install: what is not kept is given up, and no run was followed
abbrev pub after_install : List Address → Holding → Holding
after_install keep h = record { last_run = 0; held = kept keep h.held }
