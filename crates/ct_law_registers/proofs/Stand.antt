-- What the facts give: the cluster stands for the registers of databases and of addresses.
use Rattle.std.proofs.Common.{◌≡◌, ◌≢◌, ℕ, zero, suc, true, false, List, [], ◌∷◌, Option, None, Some, refl, sym, ap, ◌∙◌}
use Rattle.std.specs.Prelude.{is_some}
use Rattle.std.specs.List.{filter}
use Rattle.std.proofs.lemmas.Bool.{cond_both}
use Rattle.ct_values.proofs.AddressOrder.{address_is}
use Rattle.ct_values.specs.Address.{same_address}
use Rattle.ct_values.specs.declared.address.Address.{Address}
use Rattle.ct_values.specs.declared.config.Config.{Config}
use Rattle.ct_values.specs.declared.config.DbKind.{DbKind}
use Rattle.ct_values.specs.declared.config.DbKind.TheVariants.{Persistent}
use Rattle.ct_frame.specs.declared.frame.Assigned.{Assigned}
use Rattle.ct_persist.specs.Persisted.{Persisted}
use Rattle.ct_rules_node.specs.Node.{is_persistent, is_among, kind_at, db_at, holder_in, assigned_all}
use Rattle.ct_rules_node.specs.Takeovers.{assigned_in}
use Rattle.ct_rules_cluster.specs.Cluster.{Cluster, node_at}
use Rattle.ct_register.specs.Stands.{IsAfter, HoldsAddress}
use Rattle.ct_register.specs.Placing.{given_placement}
use Rattle.ct_register.specs.Lines.{Lines}
use Rattle.ct_law_registers.proofs.Facts.{Has, Gone, StoresHold, after}
use Rattle.ct_law_registers.proofs.Places.{Turns, PlacesHold, plan, or_nothing_pushed}

-- ---- databases

is_of : (k : Option DbKind) → k ≡ Some Persistent → is_persistent k ≡ true
unfolding is_persistent
is_of k e = ap is_persistent e

pub stores_stand : (config : Config) (w : Cluster) (r : Lines) (has : Has) (gone : Gone) → StoresHold config w r has gone → (n db : ℕ) → r.pline n ≢ 0 → is_among n (r.members (r.pline n)) ≡ true → kind_at config db ≡ Some Persistent →
    (j : ℕ) × IsAfter j n (r.databases (r.pline n) db) (db_at db (node_at n w)).store
stores_stand config w r has gone h n db line member kind =
    let e : (db_at db (node_at n w)).store ≡ after (has (r.pline n) n db) (r.databases (r.pline n) db) = h.holds.stores n db (is_of (kind_at config db) kind) line in
    let c = h.holds.counted (r.pline n) db in (
      has (r.pline n) n db,
      record {
        number = ap (λ (p : Persisted). p.seq) e;
        pairs = ap (λ (p : Persisted). p.pairs) e;
        acked = c.acked n member;
        seen = c.seen n;
        within = c.within n;
      },
    )

-- ---- addresses

-- an assignment of configured addresses places an address only where the list does
pub in_all : (a : Address) (addresses : List Address) (xs : List Assigned) (n : ℕ) → holder_in a (assigned_all addresses xs) ≡ Some n → holder_in a xs ≡ Some n
unfolding holder_in assigned_all
in_all a [] xs n e = absurd (cc)
in_all a (b ∷ rest) xs n e = cond_both (same_address a b) (holder_in b xs) (holder_in a (assigned_all rest xs)) (λ (o : Option ℕ). o ≡ Some n → holder_in a xs ≡ Some n)
    (λ t is. ap (λ (c : Address). holder_in c xs) (address_is a b t) ∙ is)
    (λ f is. in_all a rest xs n is) e

passed : (a : Address) (x : Assigned) (rest : List Assigned) (n : ℕ) → same_address a x.address ≡ false → holder_in a rest ≡ Some n → holder_in a (x ∷ rest) ≡ Some n
unfolding holder_in
passed a x rest n f e = rw f e

kept : (a : Address) (x : Assigned) (rest : List Assigned) (n : ℕ) → same_address a x.address ≡ true → x.node ≡ Some n → holder_in a (x ∷ rest) ≡ Some n
unfolding holder_in
kept a x rest n t e = rw t e

-- whoever has an address in a placement has it in the list without those that have no node
pub in_assigned : (a : Address) (xs : List Assigned) (n : ℕ) → holder_in a xs ≡ Some n → holder_in a (assigned_in xs) ≡ Some n
unfolding holder_in assigned_in
in_assigned a [] n e = e
in_assigned a (x ∷ xs) n e = cond_both (same_address a x.address) x.node (holder_in a xs) (λ (o : Option ℕ). o ≡ Some n → holder_in a (filter (λ (y : Assigned). is_some y.node) (x ∷ xs)) ≡ Some n)
    (λ t is. (let p : is_some x.node ≡ true = ap is_some is in rw p (kept a x (filter (λ (y : Assigned). is_some y.node) xs) n t is)))
    (λ f is. cond_both (is_some x.node) (x ∷ filter (λ (y : Assigned). is_some y.node) xs) (filter (λ (y : Assigned). is_some y.node) xs) (λ (l : List Assigned). holder_in a l ≡ Some n)
    (λ _. passed a x (filter (λ (y : Assigned). is_some y.node) xs) n f (in_assigned a xs n is)) (λ _. in_assigned a xs n is)) e

none_pushed : (addresses : List Address) (a : Address) (n : ℕ) (pushed : Option (List Assigned)) → holder_in a (assigned_all addresses (or_nothing_pushed pushed)) ≡ Some n → (xs : List Assigned) × (pushed ≡ Some xs) × (holder_in a xs ≡ Some n)
unfolding or_nothing_pushed holder_in
none_pushed addresses a n None e = absurd (let k : holder_in a [] ≡ Some n = in_all a addresses [] n e in cc)
none_pushed addresses a n (Some xs) e = (xs, refl, in_all a addresses xs n e)

-- a node of a line holds an address only where the last take assigns it, or the push before any
placed_at : (addresses : List Address) (r : Lines) (g t n : ℕ) (a : Address) → (t ≡ 0 → (r.placing g).last ≡ None) → (t ≢ 0 → (r.placing g).last ≡ Some (assigned_in (plan addresses (r.placing g) t))) →
    holder_in a (plan addresses (r.placing g) t) ≡ Some n → (xs : List Assigned) × (given_placement (r.placing g).pushed (r.placing g).last ≡ Some xs) × (holder_in a xs ≡ Some n)
unfolding plan given_placement
placed_at addresses r g zero n a none last e =
    let p = none_pushed addresses a n (r.placing g).pushed e in
    (p.0, ap (λ (o : Option (List Assigned)). given_placement (r.placing g).pushed o) (none refl) ∙ p.1, p.2)
placed_at addresses r g (suc t) n a none last e =
    (assigned_in (plan addresses (r.placing g) (suc t)), ap (λ (o : Option (List Assigned)). given_placement (r.placing g).pushed o) (last (λ z. absurd (cc))), in_assigned a (plan addresses (r.placing g) (suc t)) n e)

pub assigned_stand : (config : Config) (w : Cluster) (r : Lines) (turns : Turns) → PlacesHold config w r turns → (n : ℕ) (a : Address) → r.line n ≢ 0 → HoldsAddress w n a →
    (xs : List Assigned) × (given_placement (r.placing (r.line n)).pushed (r.placing (r.line n)).last ≡ Some xs) × (holder_in a xs ≡ Some n)
assigned_stand config w r turns h n a line holds =
    let c = h.counts (r.line n) in
    placed_at config.addresses r (r.line n) (turns (r.line n)) n a c.none c.last ((h.follows n line).turn a holds)

-- no two nodes of a line hold the same address
pub one_holds : (config : Config) (w : Cluster) (r : Lines) (turns : Turns) → PlacesHold config w r turns → (n m : ℕ) (a : Address) → r.line n ≢ 0 → r.line m ≡ r.line n → HoldsAddress w n a → HoldsAddress w m a → m ≡ n
one_holds config w r turns h n m a line same one other =
    let e = (h.follows n line).turn a one in
    let f = (h.follows m (λ z. line (sym same ∙ z))).turn a other in
    let k : holder_in a (plan config.addresses (r.placing (r.line n)) (turns (r.line n))) ≡ Some m
    = ap (λ (g : ℕ). holder_in a (plan config.addresses (r.placing g) (turns g))) (sym same) ∙ f in
    (let s : Some m ≡ Some n = sym k ∙ e in cc)
