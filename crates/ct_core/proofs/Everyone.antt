-- A core is in form at the opening of a cluster and after a stop.
use Rattle.std.proofs.Common.{◌≡◌, ◌≢◌, ◌∙◌, ℕ, zero, suc, ◌<◌, ◌≤◌, false, List, [], Option, None, Some, get_or, length, ⊎_elim, sym, ap, subst, arith}
use Rattle.std.proofs.lemmas.Bool.{lt-ltb}
use Rattle.std.proofs.lemmas.Option.{slice_get_cases, slice_get_past}
use Rattle.std.specs.Prelude.{map, slice_get}
use Rattle.std.specs.List.Sorted.{IsStrictlyIncreasing}
use Rattle.ct_values.specs.declared.config.Config.{Config}
use Rattle.ct_values.specs.declared.config.DbDecl.{DbDecl}
use Rattle.ct_rules_cluster.specs.Cluster.{everyone, numbers}
use Rattle.ct_rules_node.specs.Node.{Database, Node, is_persistent, kind_at, kind_in, opening, restarted}
use Rattle.ct_law_form.specs.Whole.{HasLimits, is_node_of}
use Rattle.ct_law_form.proofs.Whole.{opens_in_form, restarts_in_form}
use Rattle.ct_law_form_cluster.proofs.Placed.{opens_placed, restarts_placed}
use Rattle.ct_node_state.proofs.Ascending.{ascending}
pub use Rattle.ct_rules_cluster.proofs.Numbers.{numbers_more}
use Rattle.ct_rules_cluster.proofs.Numbers.{numbers_below, numbers_ascend}
use Rattle.ct_core.specs.Core.{CoreInForm}

-- ---- all nodes

pub everyone_ascends : (c : Config) → IsStrictlyIncreasing (everyone c)
unfolding everyone
everyone_ascends c = ascending (numbers 0 c.nodes) (numbers_ascend 0 c.nodes)

first_of : (n k : ℕ) → n < k → numbers 0 k ≢ []
unfolding numbers
first_of n zero l e = absurd (omega (arith, l))
first_of n (suc k) l e = cc

pub someone : (n : ℕ) (c : Config) (ns : List ℕ) → n < c.nodes → ns ≡ everyone c → ns ≢ []
unfolding everyone
someone n c ns l e none = first_of n c.nodes l (sym e ∙ none)

-- ---- a core in form

opens_so : (c : Config) (n : ℕ) → n < c.nodes → HasLimits c → CoreInForm (record { pnn = n; config = c; node = opening c (everyone c) })
unfolding everyone is_node_of
opens_so c n l limits = record {
  node = opens_in_form c n (everyone c) limits (lt-ltb n c.nodes l) (numbers_ascend 0 c.nodes) (numbers_below c.nodes 0 c.nodes (omega arith));
  placed = opens_placed c (everyone c);
}

pub opens : (c d : Config) (n : ℕ) (x : Node) → n < c.nodes → HasLimits c → d ≡ c → x ≡ opening c (everyone c) → CoreInForm (record { pnn = n; config = d; node = x })
opens c d n x l limits same e =
    subst (λ (b : Config). CoreInForm (record { pnn = n; config = b; node = x })) (sym same)
    (subst (λ (y : Node). CoreInForm (record { pnn = n; config = c; node = y })) (sym e) (opens_so c n l limits))

pub placed_so : (c : Config) (n : ℕ) (x : Node) → CoreInForm (record { pnn = n; config = c; node = x }) → map (λ y. y.address) x.placement ≡ c.addresses
placed_so c n x h = h.placed

pub restarts : (c : Config) (n : ℕ) (old new : Node) → CoreInForm (record { pnn = n; config = c; node = old }) → new ≡ restarted c old → CoreInForm (record { pnn = n; config = c; node = new })
restarts c n old new h e =
    subst (λ (y : Node). CoreInForm (record { pnn = n; config = c; node = y })) (sym e)
    (record { node = restarts_in_form c n old h.node; placed = restarts_placed c old })

-- a number of no database of the node is that of no persistent one
pub no_store : (c : Config) (n db : ℕ) (x : Node) → CoreInForm (record { pnn = n; config = c; node = x }) → slice_get x.dbs db ≡ None → is_persistent (kind_at c db) ≡ false
unfolding is_persistent kind_at kind_in
no_store c n db x h none = ⊎_elim
    (λ (p : (y : Database) × (db < length x.dbs) × (slice_get x.dbs db ≡ Some y) × (get_or x.dbs db y ≡ y)). absurd (let e : Some p.0 ≡ None = sym p.2 ∙ none in cc))
    (λ (p : (length x.dbs ≤ db) × (slice_get x.dbs db ≡ None)). (let d = h.node.dbs in ap (λ (o : Option DbDecl). is_persistent (kind_in o)) (slice_get_past c.dbs db (omega (arith, p.0)))))
    (slice_get_cases x.dbs db).1
