-- The configuration that lines made.
use Rattle.std.proofs.Common.{◌≡◌, ℕ, ◌∙◌, Bool, true, false, cond, List, ◌∷◌, length, Option, None, Some, Result, Ok, Err, IfOk, refl, sym, ap}
use Rattle.std.specs.List.{IsDistinct}
use Rattle.std.specs.Prelude.{nat_lt, option_map, ◌||◌}
use Rattle.ct_values.specs.Address.{same_address}
use Rattle.ct_values.specs.declared.address.Address.{Address}
use Rattle.ct_values.proofs.AddressOrder.{same_equiv}
use Rattle.ct_lines.specs.Places.{Accepted, IsAccepted, IsConfigOf, or_one}
use Rattle.ct_values.specs.Config.{Configures, config_fault, first_place, lock_db, repeated_address, repeated_name}
use Rattle.ct_values.specs.declared.config.Config.{Config}
use Rattle.ct_values.specs.declared.config.ConfigFault.{ConfigFault}
use Rattle.ct_values.specs.declared.config.ConfigFault.TheVariants.{BadNodes, TooMany, Repeated}
use Rattle.ct_values.specs.declared.config.DbDecl.{DbDecl}
use Rattle.ct_values.proofs.Repeats.{all_distinct}
use Rattle.ct_rules_config.specs.Configured.{IsConfig}
use Rattle.ct_rules_cluster.specs.Cluster.{World}
use Rattle.ct_values.specs.declared.memory.NoMemory.{NoMemory}
use Rattle.ct_play.specs.Opening.{ascending, config_of, world_opened, world_at}
use Rattle.ct_play.proofs.Ascending.{ascending_permutes, ascending_sorted, sorted_is}

-- where nothing is wrong, the last choice was made
not_first : (b : Bool) (f : ConfigFault) (o : Option ConfigFault) → cond b (Some f) o ≡ None → o ≡ None
not_first true f o e = absurd (cc)
not_first false f o e = e

second_place : (a b : Option ℕ) → option_map Repeated (first_place a b) ≡ None → b ≡ None
second_place (Some i) b e = absurd (cc)
second_place None None e = refl
second_place None (Some i) e = absurd (cc)

none_twice : (n : ℕ) (dbs : List DbDecl) (addresses : List Address) → config_fault n dbs addresses ≡ None → IsDistinct same_address addresses
none_twice n dbs addresses e =
    let places : option_map Repeated (first_place (repeated_name dbs) (repeated_address addresses)) ≡ None = not_first (nat_lt 15 (length dbs) || nat_lt 64 (length addresses)) TooMany _ (not_first (nat_lt n 1 || nat_lt 16 n) (BadNodes n) _ e) in
    all_distinct same_address same_equiv addresses (second_place (repeated_name dbs) (repeated_address addresses) places)

-- the configuration of what was accepted is one
pub configures : (a : Accepted) → IsAccepted a → Configures (Ok (config_of a)) (or_one a.nodes) a.dbs a.addresses
configures a h = (h, refl, refl, ascending_permutes a.addresses, ascending_sorted a.addresses (none_twice (or_one a.nodes) a.dbs a.addresses h))

abbrev made_of : ℕ → List DbDecl → List Address → Config
made_of n ds rest = record { nodes = n; dbs = ds; addresses = rest }

-- and it is the only one
pub only_config : (a : Accepted) (c : Config) → IsConfigOf a c → c ≡ config_of a
only_config a c h =
    let n : c.nodes ≡ or_one a.nodes = sym (ap or_one h.0) in
    let s : c.addresses ≡ ascending a.addresses = sorted_is a.addresses c.addresses h.1.3 h.1.4 (none_twice c.nodes a.dbs a.addresses h.1.0) in
    ap (λ x. made_of x c.dbs c.addresses) n ∙ ap (λ x. made_of (or_one a.nodes) x c.addresses) h.1.2 ∙ ap (λ x. made_of (or_one a.nodes) (lock_db ∷ a.dbs) x) s

pub is_config : (a : Accepted) (c : Config) → IsConfigOf a c → IsConfig c
is_config a c h = (a.dbs, a.addresses, h.1)

-- the cluster that is opened is the one at a line that is the first that is no configuration line
pub opened_at : (a : Accepted) (c : Config) (r : Result World NoMemory) → IsConfigOf a c → IfOk r (λ w. w ≡ world_opened c) → IfOk r (λ w. w ≡ world_at a None)
opened_at a c (Ok w) h e = e ∙ ap world_opened (only_config a c h)
opened_at a c (Err f) h e = tt
