-- Whom a placement gives an address, and what it is made of.
use Rattle.std.proofs.Common.{◌≡◌, ℕ, Bool, true, false, cond, List, [], ◌∷◌, Option, None, Some, refl, sym, ap, ◌∙◌, subst, ⊎_elim}
use Rattle.std.specs.Prelude.{is_some}
use Rattle.std.specs.List.{list_any, AllByRecursion}
use Rattle.std.proofs.lemmas.Bool.{cond_both, or_cases}
use Rattle.ct_values.proofs.Words.{this_node_is}
use Rattle.ct_values.proofs.AddressOrder.{address_is}
use Rattle.ct_values.specs.Words.{is_this_node}
use Rattle.ct_values.specs.Address.{same_address}
use Rattle.ct_values.specs.declared.address.Address.{Address}
use Rattle.ct_frame.specs.declared.frame.Assigned.{Assigned}
use Rattle.ct_rules_node.specs.Node.{holder_in}
use Rattle.ct_rules_node.specs.Takeovers.{share, assigned_in, has_address}

-- no two items are of one address
unfoldable pub Apart : List Assigned → Type 0
Apart [] = Unit {0}
Apart (x ∷ xs) = AllByRecursion (λ y. same_address x.address y.address ≡ false) xs × Apart xs

pub holder_none : (a : Address) (xs : List Assigned) → AllByRecursion (λ y. same_address a y.address ≡ false) xs → holder_in a xs ≡ None
unfolding holder_in
holder_none a [] h = refl
holder_none a (x ∷ xs) h = rw h.0 (holder_none a xs h.1)

holder_head : (a : Address) (x : Assigned) (xs : List Assigned) (n : ℕ) → same_address a x.address ≡ true → x.node ≡ Some n → holder_in a (x ∷ xs) ≡ Some n
unfolding holder_in
holder_head a x xs n t e = rw t e

-- an address that is known to be in the rest of such a list is not that of the first item
holder_tail : (a : Address) (x : Assigned) (xs : List Assigned) (n : ℕ) → Apart (x ∷ xs) → holder_in a xs ≡ Some n → holder_in a (x ∷ xs) ≡ Some n
unfolding holder_in Apart
holder_tail a x xs n apart e = cond_both (same_address a x.address) true false (λ (_ : Bool). holder_in a (x ∷ xs) ≡ Some n)
    (λ t. absurd (let k : holder_in a xs ≡ None = subst (λ (b : Address). holder_in b xs ≡ None) (sym (address_is a x.address t)) (holder_none x.address xs apart.0) in let l = sym e ∙ k in cc))
    (λ f. rw f e)

-- a node's share is what the placement gives it
pub share_holder : (a : Address) (n : ℕ) (xs : List Assigned) → Apart xs → has_address (share n xs) a ≡ true → holder_in a xs ≡ Some n
unfolding share has_address Apart
share_holder a n [] apart e = absurd (cc)
share_holder a n (x ∷ xs) apart e =
    cond_both (is_this_node n x.node) (x.address ∷ share n xs) (share n xs) (λ (l : List Address). list_any (same_address a) l ≡ true → holder_in a (x ∷ xs) ≡ Some n)
    (λ here some. ⊎_elim (λ (t : same_address a x.address ≡ true). holder_head a x xs n t (this_node_is n x.node here))
    (λ (u : list_any (same_address a) (share n xs) ≡ true). holder_tail a x xs n apart (share_holder a n xs apart.1 u)) (or_cases (same_address a x.address) (list_any (same_address a) (share n xs)) some))
    (λ _ some. holder_tail a x xs n apart (share_holder a n xs apart.1 some)) e

item : (n : ℕ) (x : Assigned) (xs : List Assigned) (o : Option ℕ) → x.node ≡ o → share n (assigned_in xs) ≡ share n xs → share n (assigned_in (x ∷ xs)) ≡ share n (x ∷ xs)
unfolding share assigned_in is_this_node
item n x xs None e ih = (let s : is_some x.node ≡ false = ap is_some e in let i : is_this_node n x.node ≡ false = ap (is_this_node n) e in rw s (rw i ih))
item n x xs (Some m) e ih = (let s : is_some x.node ≡ true = ap is_some e in rw s (ap (λ (l : List Address). cond (is_this_node n x.node) (x.address ∷ l) l) ih))

-- an item without a node is in no share
pub share_assigned : (n : ℕ) (xs : List Assigned) → share n (assigned_in xs) ≡ share n xs
unfolding share assigned_in
share_assigned n [] = refl
share_assigned n (x ∷ xs) = item n x xs x.node refl (share_assigned n xs)
