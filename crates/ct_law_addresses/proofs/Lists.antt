-- Lists of addresses, and what a plan assigns: its addresses are the configured ones, each once.
use Rattle.std.proofs.Common.{◌≡◌, ℕ, zero, suc, Bool, true, false, cond, ◌&&◌, ◌||◌, List, [], ◌∷◌, map, Option, None, Some, refl, sym, ap, ◌∙◌, subst, arith}
use Rattle.std.specs.List.{filter, list_any, list_all, AllByRecursion}
use Rattle.std.specs.List.Sorted.{IsStrictlySortedBy}
use Rattle.std.specs.declared.cmp.Ordering.TheVariants.{Less}
use Rattle.std.proofs.lemmas.Bool.{and_parts}
use Rattle.ct_values.proofs.Words.{this_node_is}
use Rattle.ct_values.proofs.AddressOrder.{address_is, less_differs}
use Rattle.ct_values.specs.Words.{is_this_node}
use Rattle.ct_values.specs.Address.{address_cmp, address_before, same_address}
use Rattle.ct_values.specs.declared.address.Address.{Address}
use Rattle.ct_values.specs.declared.config.Config.{Config}
use Rattle.ct_frame.specs.declared.frame.Assigned.{Assigned}
use Rattle.ct_lcp2.proofs.Steps.{same_addresses}
use Rattle.ct_lcp2.specs.Placing.{Ascend}
use Rattle.ct_rules_node.specs.Node.{holder_in, assigned_all}
use Rattle.ct_rules_node.specs.Rounds.{is_own}
use Rattle.ct_rules_node.specs.Takeovers.{share, has_address, held_with}
use Rattle.ct_register.specs.Placing as placing
use Rattle.ct_register.specs.Placing.{Placing, assigns}
use Rattle.ct_promise.specs.Promises.{IsConfig}
use Rattle.ct_law_registers.proofs.Places.{plan, made_by}
use Rattle.ct_law_registers.proofs.Shares.{Apart}

-- ---- plans

apart_one : (a : Address) (xs : List Assigned) → AllByRecursion (λ b. address_cmp a b ≡ Less) (map (λ x. x.address) xs) → AllByRecursion (λ y. same_address a y.address ≡ false) xs
apart_one a [] h = tt
apart_one a (x ∷ xs) h = (less_differs a x.address h.0, apart_one a xs h.1)

apart_of : (xs : List Assigned) → Ascend xs → Apart xs
unfolding Apart IsStrictlySortedBy
apart_of [] h = tt
apart_of (x ∷ xs) h = (apart_one x.address xs h.0, apart_of xs h.1)

all_addresses : (addresses : List Address) (xs : List Assigned) → map (λ x. x.address) (assigned_all addresses xs) ≡ addresses
unfolding assigned_all
all_addresses [] xs = refl
all_addresses (a ∷ rest) xs = ap (λ (l : List Address). a ∷ l) (all_addresses rest xs)

made_addresses : (addresses : List Address) (run : Option placing.Run) → map (λ x. x.address) (made_by addresses run) ≡ addresses
unfolding made_by
made_addresses addresses None = all_addresses addresses []
made_addresses addresses (Some run) = same_addresses run.able (assigned_all addresses run.given) ∙ all_addresses addresses run.given

-- the addresses of a plan are the configured ones
pub plan_addresses : (addresses : List Address) (p : Placing) (i : ℕ) → map (λ x. x.address) (plan addresses p i) ≡ addresses
unfolding plan
plan_addresses addresses p zero = all_addresses addresses _
plan_addresses addresses p (suc k) = made_addresses addresses (p.runs (suc k))

-- so no two items of a plan are of one address
pub plan_apart : (config : Config) → IsConfig config → (p : Placing) (i : ℕ) → Apart (plan config.addresses p i)
plan_apart config is p i = apart_of (plan config.addresses p i) (subst (IsStrictlySortedBy address_cmp) (sym (plan_addresses config.addresses p i)) is.2.4)

-- ---- addresses that are held

-- what is filtered has an address that was there and passes
pub has_kept : (a : Address) (pass : Address → Bool) (xs : List Address) → has_address (filter pass xs) a ≡ (has_address xs a && pass a)
unfolding has_address
has_kept a pass [] = refl
has_kept a pass (x ∷ xs) = either (same_address a x) (pass x) refl refl (has_kept a pass xs)
  where
    either : (s t : Bool) → same_address a x ≡ s → pass x ≡ t → list_any (same_address a) (filter pass xs) ≡ (list_any (same_address a) xs && pass a) → list_any (same_address a) (cond t (x ∷ filter pass xs) (filter pass xs)) ≡ ((s || list_any (same_address a) xs) && pass a)
    either true true e f h = (let same = address_is a x e in let g : pass a ≡ true = ap pass same ∙ f in grind (arith, e, g))
    either true false e f h = (let same = address_is a x e in let g : pass a ≡ false = ap pass same ∙ f in grind (arith, h, g))
    either false true e f h = grind (arith, e, h)
    either false false e f h = h

-- an address more
pub has_more : (a b : Address) (xs : List Address) → has_address (held_with b xs) a ≡ (same_address a b || has_address xs a)
unfolding has_address held_with
has_more a b [] = refl
has_more a b (x ∷ xs) = either (address_before x b) (has_more a b xs)
  where
    either : (t : Bool) → list_any (same_address a) (held_with b xs) ≡ (same_address a b || list_any (same_address a) xs) → list_any (same_address a) (cond t (x ∷ held_with b xs) (b ∷ x ∷ xs)) ≡ (same_address a b || (same_address a x || list_any (same_address a) xs))
    either true h = grind (arith, h)
    either false h = refl

-- ---- what lists assign

-- an address of a share is assigned there
pub share_assigns : (a : Address) (n : ℕ) (xs : List Assigned) → has_address (share n xs) a ≡ true → assigns a n xs ≡ true
unfolding has_address share assigns
share_assigns a n [] e = absurd (cc)
share_assigns a n (x ∷ xs) e = either (is_this_node n x.node) e (share_assigns a n xs)
  where
    either : (t : Bool) → list_any (same_address a) (cond t (x.address ∷ share n xs) (share n xs)) ≡ true → (list_any (same_address a) (share n xs) ≡ true → list_any (λ (y : Assigned). same_address a y.address && is_this_node n y.node) xs ≡ true) →
        ((same_address a x.address && t) || list_any (λ (y : Assigned). same_address a y.address && is_this_node n y.node) xs) ≡ true
    either true i rest = first (same_address a x.address) i rest
      where
        first : (s : Bool) → (s || list_any (same_address a) (share n xs)) ≡ true → (list_any (same_address a) (share n xs) ≡ true → list_any (λ (y : Assigned). same_address a y.address && is_this_node n y.node) xs ≡ true) →
            ((s && true) || list_any (λ (y : Assigned). same_address a y.address && is_this_node n y.node) xs) ≡ true
        first true j more = refl
        first false j more = more j
    either false i rest = none (same_address a x.address) (rest i)
      where
        none : (s : Bool) → list_any (λ (y : Assigned). same_address a y.address && is_this_node n y.node) xs ≡ true → ((s && false) || list_any (λ (y : Assigned). same_address a y.address && is_this_node n y.node) xs) ≡ true
        none true j = j
        none false j = j

-- a list that assigns an address to a node does so among configured addresses, too, where its addresses are configured
pub among_all : (a : Address) (addresses : List Address) (xs : List Assigned) (n : ℕ) → has_address addresses a ≡ true → holder_in a xs ≡ Some n → holder_in a (assigned_all addresses xs) ≡ Some n
unfolding has_address holder_in assigned_all
among_all a [] xs n e is = absurd (cc)
among_all a (b ∷ rest) xs n e is = either (same_address a b) refl e (λ i. among_all a rest xs n i is)
  where
    either : (s : Bool) → same_address a b ≡ s → (s || list_any (same_address a) rest) ≡ true → (list_any (same_address a) rest ≡ true → holder_in a (assigned_all rest xs) ≡ Some n) → cond s (holder_in b xs) (holder_in a (assigned_all rest xs)) ≡ Some n
    either true t i more = subst (λ (c : Address). holder_in c xs ≡ Some n) (address_is a b t) is
    either false t i more = more i

pub is_configured : (a : Address) (addresses : List Address) (xs : List Assigned) (n : ℕ) → list_all (λ b. list_any (same_address b) addresses) (map (λ x. x.address) xs) ≡ true → holder_in a xs ≡ Some n → has_address addresses a ≡ true
unfolding has_address holder_in
is_configured a addresses [] n all is = absurd (cc)
is_configured a addresses (x ∷ xs) n all is = (let p = and_parts _ _ all in either (same_address a x.address) refl p.0 is (is_configured a addresses xs n p.1))
  where
    either : (s : Bool) → same_address a x.address ≡ s → list_any (same_address x.address) addresses ≡ true → cond s x.node (holder_in a xs) ≡ Some n → (holder_in a xs ≡ Some n → list_any (same_address a) addresses ≡ true) → list_any (same_address a) addresses ≡ true
    either true t first e more = subst (λ (c : Address). list_any (same_address c) addresses ≡ true) (sym (address_is a x.address t)) first
    either false t first e more = more e

-- what a push assigns to a node is its own there
pub own_holder : (a : Address) (n : ℕ) (xs : List Assigned) → is_own n xs a ≡ true → holder_in a xs ≡ Some n
unfolding is_own
own_holder a n xs e = this_node_is n (holder_in a xs) e
