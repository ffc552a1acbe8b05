-- What follows of takeover runs.
use Rattle.std.specs.Prelude.{◌≡◌, ℕ, true, List}
use Rattle.ct_values.specs.declared.address.Address.{Address}
use Rattle.ct_frame.specs.declared.frame.Assigned.{Assigned}
use Rattle.ct_frame.specs.Fields.{ascends, assigned_before}
use Rattle.ct_rules_node.specs.Rounds.{is_own}
use Rattle.ct_rules_node.specs.Takeovers.{has_address, share}

-- of a placement in order, a node's share has exactly the addresses that are assigned to it
abbrev pub SharesOwn : Type 0
SharesOwn = (me : ℕ) (assigned : List Assigned) (a : Address) → ascends assigned_before assigned ≡ true → has_address (share me assigned) a ≡ is_own me assigned a
