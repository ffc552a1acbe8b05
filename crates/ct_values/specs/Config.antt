-- What a configuration may be made of.
use Rattle.std.specs.Prelude.{ℕ, ◌≡◌, ◌+◌, Bool, ◌||◌, nat_lt, nat_eq, if◌then◌else◌, List, [], ◌∷◌, ◌++◌, length, Option, Some, None, Result, Ok, Err, option_map}
use Rattle.std.specs.List.{list_any}
use Rattle.std.specs.List.Sorted.{IsPermutation, IsStrictlySortedBy}
use Rattle.std.specs.Cmp.Lexicographic.{pointwise}
use Rattle.ct_values.specs.Address.{address_cmp, same_address}
use Rattle.ct_values.specs.declared.address.Address.{Address}
use Rattle.ct_values.specs.declared.config.Config.{Config}
use Rattle.ct_values.specs.declared.config.ConfigFault.{ConfigFault}
use Rattle.ct_values.specs.declared.config.ConfigFault.TheVariants.{BadNodes, TooMany, Repeated, NoMemory}
use Rattle.ct_values.specs.declared.config.DbDecl.{DbDecl}
use Rattle.ct_values.specs.declared.config.DbKind.TheVariants.{Volatile}

-- the database that every cluster has first, `g_lock`
abbrev pub lock_db : DbDecl
lock_db = record { name = 103 ∷ 95 ∷ 108 ∷ 111 ∷ 99 ∷ 107 ∷ []; kind = Volatile }

abbrev pub same_name : DbDecl → DbDecl → Bool
same_name d e = pointwise nat_eq d.name e.name

-- the place of the first item that is the same as one before it, where the items of `before` stand before all,
-- and the first of the others has place i
abbrev pub repeat_from : {X : Type 0} → (X → X → Bool) → List X → ℕ → List X → Option ℕ
repeat_from same before i [] = None
repeat_from same before i (x ∷ xs) = if list_any (same x) before then Some i else repeat_from same (before ++ x ∷ []) (i + 1) xs

-- the place of the first name that is taken
abbrev pub repeated_name : List DbDecl → Option ℕ
repeated_name dbs = repeat_from same_name (lock_db ∷ []) 0 dbs

-- the place of the first address that is taken
abbrev pub repeated_address : List Address → Option ℕ
repeated_address addresses = repeat_from same_address [] 0 addresses

-- the first of the two that is a place
abbrev pub first_place : Option ℕ → Option ℕ → Option ℕ
first_place (Some i) b = Some i
first_place None b = b

-- why these make no configuration
abbrev pub config_fault : ℕ → List DbDecl → List Address → Option ConfigFault
config_fault nodes dbs addresses =
    if nat_lt nodes 1 || nat_lt 16 nodes then Some (BadNodes nodes)
    else (if nat_lt 15 (length dbs) || nat_lt 64 (length addresses) then Some TooMany
    else option_map Repeated (first_place (repeated_name dbs) (repeated_address addresses)))

-- a configuration is made of what has no fault: `g_lock` before the databases, and the addresses in ascending order.
-- Memory is wanting only there
abbrev pub Configures : Result Config ConfigFault → ℕ → List DbDecl → List Address → Type 0
Configures (Ok c) nodes dbs addresses =
    (config_fault nodes dbs addresses ≡ None) × (c.nodes ≡ nodes) × (c.dbs ≡ lock_db ∷ dbs) × IsPermutation addresses c.addresses × IsStrictlySortedBy address_cmp c.addresses
Configures (Err (BadNodes n)) nodes dbs addresses = config_fault nodes dbs addresses ≡ Some (BadNodes n)
Configures (Err TooMany) nodes dbs addresses = config_fault nodes dbs addresses ≡ Some TooMany
Configures (Err (Repeated i)) nodes dbs addresses = config_fault nodes dbs addresses ≡ Some (Repeated i)
Configures (Err NoMemory) nodes dbs addresses = config_fault nodes dbs addresses ≡ None
