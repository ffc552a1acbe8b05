-- A node is in form at the opening and after a stop.
use Rattle.std.proofs.Common.{◌≡◌, ℕ, zero, suc, ◌≤◌, Bool, true, false, cond, ◌||◌, List, [], ◌∷◌, length, Option, Some, None, refl, sym, ◌∙◌, ap, subst, arith}
use Rattle.std.proofs.lemmas.Bool.{and_from, and_parts, or_parts, ltb-false}
use Rattle.std.proofs.lemmas.List.Kept.{IsStrictlySortedBy-filter}
use Rattle.std.proofs.lemmas.List.Sorted.{length_permutation}
use Rattle.std.specs.Prelude.{nat_lt, slice_get}
use Rattle.std.specs.List.{AllByRecursion, filter}
use Rattle.std.specs.List.Sorted.{IsStrictlySortedBy}
use Rattle.std.specs.Ordering.{is_lt}
use Rattle.std.specs.declared.cmp.Ordering.TheVariants.{Less}
use Rattle.ct_values.specs.Address.{address_before, address_cmp}
use Rattle.ct_values.specs.declared.address.Address.{Address}
use Rattle.ct_values.proofs.AddressOrder.{address_total}
use Rattle.ct_values.proofs.Orders.{is_less}
use Rattle.ct_values.specs.Config.{config_fault}
use Rattle.ct_values.specs.declared.config.Config.{Config}
use Rattle.ct_values.specs.declared.config.ConfigFault.{ConfigFault}
use Rattle.ct_values.specs.declared.config.DbDecl.{DbDecl}
use Rattle.ct_frame.specs.Fields.{ascends_after, are_addresses}
use Rattle.ct_persist.specs.Persisted.{unwritten}
use Rattle.ct_store.specs.Map.{look}
use Rattle.ct_store.proofs.Maps.{empty_ascends}
use Rattle.ct_law_rules_node.specs.Named.{NamesOnly, holders_of, vacuumed_by}
use Rattle.ct_law_rules.proofs.Events.{in_form_at_start}
use Rattle.ct_law_rules.specs.Form.{HasCounters}
use Rattle.ct_rules.specs.State.{nothing_kept}
use Rattle.ct_rules.specs.declared.event.Place.{Place}
use Rattle.ct_rules.specs.declared.state.RecState.{RecState}
use Rattle.ct_rules_node.specs.Node.{Node, Database, db_at, opening, or_nothing, or_untouched, restarted, restarted_db, state_at, untouched, untouched_all}
use Rattle.ct_rules_node.specs.Records.{place_of}
use Rattle.ct_law_rules_node.proofs.Rounds.{restarts_each}
use Rattle.ct_law_rules_node.proofs.Starting.{restarts_in_order, starts_in_order}
use Rattle.ct_law_form.specs.Form.{AreFormed, IsFormed}
use Rattle.ct_law_form.specs.Whole.{AreNamed, StoreInForm, CommitInForm, PhaseInForm, LeadInForm, ConfigsHaveLimits, OpensInForm, RestartsInForm, is_node_of}

-- ---- the configuration

no_fault : (b : Bool) (f : ConfigFault) (r : Option ConfigFault) → cond b (Some f) r ≡ None → (b ≡ false) × (r ≡ None)
no_fault true f r e = absurd (cc)
no_fault false f r e = (refl, e)

few_nodes : (nodes : ℕ) (dbs : List DbDecl) (addresses : List Address) → config_fault nodes dbs addresses ≡ None → nodes ≤ 16
few_nodes nodes dbs addresses e = ltb-false 16 nodes (or_parts (nat_lt nodes 1) (nat_lt 16 nodes) (no_fault (nat_lt nodes 1 || nat_lt 16 nodes) _ _ e).0).1

few_given : (nodes : ℕ) (dbs : List DbDecl) (addresses : List Address) → config_fault nodes dbs addresses ≡ None → (length dbs ≤ 15) × (length addresses ≤ 64)
few_given nodes dbs addresses e =
    let a = no_fault (nat_lt nodes 1 || nat_lt 16 nodes) _ _ e in
    let b = no_fault (nat_lt 15 (length dbs) || nat_lt 64 (length addresses)) _ _ a.1 in
    let p = or_parts (nat_lt 15 (length dbs)) (nat_lt 64 (length addresses)) b.0 in
    (ltb-false 15 (length dbs) p.0, ltb-false 64 (length addresses) p.1)

sorted_after : (a : Address) (bs : List Address) → IsStrictlySortedBy address_cmp (a ∷ bs) → ascends_after address_before a bs ≡ true
unfolding IsStrictlySortedBy
sorted_after a [] h = refl
sorted_after a (b ∷ bs) h = and_from _ _ (ap is_lt h.0.0) (sorted_after b bs h.1)

pub sorted_addresses : (as' : List Address) → IsStrictlySortedBy address_cmp as' → are_addresses as' ≡ true
sorted_addresses [] h = refl
sorted_addresses (a ∷ as') h = sorted_after a as' h

-- ---- addresses that ascend

above : (a b : Address) (bs : List Address) → address_cmp a b ≡ Less → AllByRecursion (λ x. address_cmp b x ≡ Less) bs → AllByRecursion (λ x. address_cmp a x ≡ Less) bs
above a b [] l all = tt
above a b (x ∷ bs) l all = (address_total.trans a b x l all.0, above a b bs l all.1)

sorted_on : (a : Address) (bs : List Address) → ascends_after address_before a bs ≡ true → AllByRecursion (λ x. address_cmp a x ≡ Less) bs × IsStrictlySortedBy address_cmp bs
unfolding IsStrictlySortedBy
sorted_on a [] e = (tt, tt)
sorted_on a (b ∷ bs) e = (let p = and_parts _ _ e in let l = is_less (address_cmp a b) p.0 in let s = sorted_on b bs p.1 in ((l, above a b bs l s.0), s))

pub sorted_so : (as' : List Address) → are_addresses as' ≡ true → IsStrictlySortedBy address_cmp as'
unfolding IsStrictlySortedBy
sorted_so [] e = tt
sorted_so (a ∷ as') e = sorted_on a as' e

-- some of addresses that ascend do so
pub filter_ascends : (f : Address → Bool) (as' : List Address) → are_addresses as' ≡ true → are_addresses (filter f as') ≡ true
filter_ascends f as' e = sorted_addresses (filter f as') (IsStrictlySortedBy-filter address_cmp f as' (sorted_so as' e))

pub configs_have_limits : ConfigsHaveLimits
configs_have_limits c dbs addresses h =
    let l = few_given c.nodes dbs addresses h.0 in
    let few = l.0 in
    let m : length c.dbs ≡ suc (length dbs) = ap (λ (ds : List DbDecl). length ds) h.2 in
    record {
      nodes = few_nodes c.nodes dbs addresses h.0;
      dbs = omega arith;
      few_addresses = subst (λ n. n ≤ 64) (sym (length_permutation addresses c.addresses h.3)) l.1;
      addresses = sorted_addresses c.addresses h.4;
    }

-- ---- a node of which nothing is kept

pub nothing_formed : (at : Place) (next : ℕ) → HasCounters next at.floor → IsFormed at next nothing_kept
nothing_formed at next h = record { form = in_form_at_start at next h; tracks = record { tracked_held = λ e. absurd (cc); vacuum_untracked = λ e. absurd (cc) }; waits = refl }

pub nothing_named : (is : ℕ → Bool) → NamesOnly is nothing_kept
unfolding holders_of vacuumed_by
nothing_named is = record { holder_is = refl; queue_are = refl; waiting_are = refl; tracked_are = refl; missing_are = refl; vacuumed_are = refl }

-- where the node has no key in any database, and no floor, all its records are so
empty_state : (db : ℕ) (key : List ℕ) (n : Node) (d : Database) → db_at db n ≡ d → d.records ≡ [] → state_at db key n ≡ nothing_kept
unfolding state_at or_nothing
empty_state db key n d e none = ap (λ (x : Database). or_nothing (look key x.records)) e ∙ ap (λ (m : List (List ℕ × RecState)). or_nothing (look key m)) none

empty_formed : (c : Config) (me : ℕ) (n : Node) → n.next ≡ 1 → ((db : ℕ) → (db_at db n).records ≡ []) → ((db : ℕ) → (db_at db n).floor ≡ 0) → AreFormed c me n
unfolding place_of
empty_formed c me n one none low db key =
    subst (λ (s : RecState). IsFormed (place_of c me db key n) n.next s) (sym (empty_state db key n (db_at db n) refl (none db)))
    (nothing_formed (place_of c me db key n) n.next (record { from_one = omega (arith, one); next_limit = omega (arith, one); floor_limit = (let l = low db in omega arith) }))

empty_named : (c : Config) (n : Node) → ((db : ℕ) → (db_at db n).records ≡ []) → AreNamed c n
empty_named c n none db key = subst (λ (s : RecState). NamesOnly (is_node_of c) s) (sym (empty_state db key n (db_at db n) refl (none db))) (nothing_named (is_node_of c))

-- ---- the opening

untouched_at : {X : Type 0} (xs : List X) (i : ℕ) → or_untouched (slice_get (untouched_all xs) i) ≡ untouched
unfolding untouched_all or_untouched
untouched_at [] i = refl
untouched_at (x ∷ xs) zero = refl
untouched_at (x ∷ xs) (suc i) = untouched_at xs i

opened_at : (c : Config) (members : List ℕ) (db : ℕ) → db_at db (opening c members) ≡ untouched
unfolding db_at opening
opened_at c members db = untouched_at c.dbs db

pub unwritten_store : StoreInForm unwritten
unwritten_store = record { pairs_kept = (empty_ascends (List ℕ), tt); seq_limit = omega arith }

pub opens_in_form : OpensInForm
unfolding opening untouched PhaseInForm LeadInForm CommitInForm
opens_in_form c me members limits own up are =
    let none : (db : ℕ) → (db_at db (opening c members)).records ≡ [] = λ db. ap (λ (d : Database). d.records) (opened_at c members db) in
    let low : (db : ℕ) → (db_at db (opening c members)).floor ≡ 0 = λ db. ap (λ (d : Database). d.floor) (opened_at c members db) in
    record {
      limits = limits;
      own = own;
      dbs = (starts_in_order c members).0;
      order = (starts_in_order c members).1;
      formed = empty_formed c me (opening c members) refl none low;
      named = empty_named c (opening c members) none;
      stores = λ db. subst (λ (d : Database). StoreInForm d.store) (sym (opened_at c members db)) unwritten_store;
      commits = λ db. subst (λ (d : Database). CommitInForm c d.commit) (sym (opened_at c members db)) tt;
      generation_limit = omega arith;
      members_ascend = up;
      members_are = are;
      pbase_limit = omega arith;
      phase = omega arith;
      held = refl;
      lead = tt;
    }

-- ---- a stop

pub restarts_in_form : RestartsInForm
unfolding restarted restarted_db untouched PhaseInForm LeadInForm CommitInForm
restarts_in_form c me n h =
    let u = restarted c n in
    let none : (db : ℕ) → (db_at db u).records ≡ [] = λ db. ap (λ (d : Database). d.records) (restarts_each c n db) in
    let low : (db : ℕ) → (db_at db u).floor ≡ 0 = λ db. ap (λ (d : Database). d.floor) (restarts_each c n db) in
    record {
      limits = h.limits;
      own = h.own;
      dbs = (restarts_in_order c n).0 ∙ h.dbs;
      order = (restarts_in_order c n).1;
      formed = empty_formed c me u refl none low;
      named = empty_named c u none;
      stores = λ db. subst (λ (d : Database). StoreInForm d.store) (sym (restarts_each c n db)) (h.stores db);
      commits = λ db. subst (λ (d : Database). CommitInForm c d.commit) (sym (restarts_each c n db)) tt;
      generation_limit = omega arith;
      members_ascend = refl;
      members_are = refl;
      pbase_limit = h.pbase_limit;
      phase = tt;
      held = refl;
      lead = tt;
    }
