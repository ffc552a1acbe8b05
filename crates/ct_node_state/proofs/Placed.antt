-- Lists of which every item is changed in its place.
use Rattle.std.proofs.Common.{◌≡◌, ◌∙◌, ℕ, ◌≤◌, List, [], ◌∷◌, ◌++◌, append-nil, length, refl, ap, take, drop}
use Rattle.std.proofs.lemmas.List.{drop_all, take_all}
use Rattle.std.specs.Prelude.{map}
use Rattle.ct_values.specs.declared.address.Address.{Address}
use Rattle.ct_frame.specs.declared.frame.Assigned.{Assigned}
use Rattle.ct_rules_node.specs.Node.{assigned_all, holder_in}
use Rattle.ct_node_state.specs.Whole.{nowhere}

-- once the first items are changed as far as the list goes, all are
pub all_changed : {X : Type 0} (f : X → X) (xs ys : List X) (i : ℕ) → ys ≡ map f (take i xs) ++ drop i xs → length xs ≤ i → ys ≡ map f xs
all_changed {X} f xs ys i e l = e ∙ ap (λ (a : List X). map f a ++ drop i xs) (take_all i xs l) ∙ ap (λ (b : List X). map f xs ++ b) (drop_all i xs l) ∙ append-nil (map f xs)

-- no address is assigned by no list
none_assigned : (placement : List Assigned) → map nowhere placement ≡ assigned_all (map (λ (x : Assigned). x.address) placement) []
unfolding assigned_all holder_in
none_assigned [] = refl
none_assigned (x ∷ xs) = ap (λ (rest : List Assigned). nowhere x ∷ rest) (none_assigned xs)

pub placed_nowhere : (placement : List Assigned) (addresses : List Address) → map (λ (x : Assigned). x.address) placement ≡ addresses → map nowhere placement ≡ assigned_all addresses []
placed_nowhere placement addresses e = none_assigned placement ∙ ap (λ (list : List Address). assigned_all list []) e
