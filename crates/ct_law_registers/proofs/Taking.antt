-- A take that comes: what it gives to its node nobody else of the line holds. And the next run begins where the last one was.
use Rattle.std.proofs.Common.{◌≡◌, ◌≢◌, ℕ, Bool, true, false, cond, List, [], ◌∷◌, map, Option, None, Some, refl, sym, ap, ◌∙◌, subst, arith}
use Rattle.std.specs.Prelude.{is_some}
use Rattle.std.specs.List.{filter, AllByRecursion}
use Rattle.std.proofs.lemmas.Bool.{cond_both}
use Rattle.ct_values.proofs.AddressOrder.{address_is, same_itself, same_flips}
use Rattle.ct_values.specs.Address.{same_address}
use Rattle.ct_values.specs.declared.address.Address.{Address}
use Rattle.ct_values.specs.declared.config.Config.{Config}
use Rattle.ct_frame.specs.declared.frame.Assigned.{Assigned}
use Rattle.ct_frame.specs.declared.frame.Msg.TheVariants as msg
use Rattle.ct_rules_node.specs.Node.{holder_in, assigned_all}
use Rattle.ct_rules_node.specs.Takeovers.{share, assigned_in, has_address}
use Rattle.ct_rules_cluster.specs.Cluster.{Cluster, node_at}
use Rattle.ct_register.specs.Stands.{HoldsAddress}
use Rattle.ct_register.specs.Lines.{Lines}
use Rattle.ct_law_registers.proofs.Places.{Turns, PlacesHold, Places, plan}
use Rattle.ct_law_registers.proofs.Shares.{Apart, holder_none, share_holder, share_assigned}

-- ---- a take of the last run that the node followed

-- what it gives to the node is the node's in the placement of the line's last take
pub given_now : (config : Config) (w : Cluster) (r : Lines) (turns : Turns) → PlacesHold config w r turns → (n h m number : ℕ) (xs : List Assigned) (a : Address) → r.line n ≢ 0 →
    Apart (plan config.addresses (r.placing (r.line n)) number) → Places config.addresses w r turns (r.line n) h m (msg.Take number xs) → number ≡ (node_at n w).last_run → has_address (share n xs) a ≡ true →
    holder_in a (plan config.addresses (r.placing (r.line n)) (turns (r.line n))) ≡ Some n
unfolding Places
given_now config w r turns hold n h m number xs a line apart take last has =
    let low = (hold.follows n line).after in
    let high = take.1 in
    let same : number ≡ turns (r.line n) = omega arith in
    let shared : has_address (share n (plan config.addresses (r.placing (r.line n)) number)) a ≡ true
    = ap (λ (l : List Address). has_address l a) (sym (ap (share n) take.3 ∙ share_assigned n (plan config.addresses (r.placing (r.line n)) number))) ∙ has in
    subst (λ (t : ℕ). holder_in a (plan config.addresses (r.placing (r.line n)) t) ≡ Some n) same (share_holder a n (plan config.addresses (r.placing (r.line n)) number) apart shared)

-- so no other node of the line holds it
pub no_other_holds : (config : Config) (w : Cluster) (r : Lines) (turns : Turns) → PlacesHold config w r turns → (n k : ℕ) (a : Address) → r.line n ≢ 0 → r.line k ≡ r.line n → k ≢ n →
    holder_in a (plan config.addresses (r.placing (r.line n)) (turns (r.line n))) ≡ Some n → HoldsAddress w k a → ⊥
no_other_holds config w r turns hold n k a line same differ e holds =
    let f = (hold.follows k (λ z. line (sym same ∙ z))).turn a holds in
    let g : holder_in a (plan config.addresses (r.placing (r.line n)) (turns (r.line n))) ≡ Some k = ap (λ (l : ℕ). holder_in a (plan config.addresses (r.placing l) (turns l))) (sym same) ∙ f in
    (let s : Some k ≡ Some n = sym g ∙ e in differ (let i : k ≡ n = cc in i))

-- ---- the next run begins with the placement of the last take

assigned_alike : (addresses : List Address) (xs zs : List Assigned) → ((a : Address) → holder_in a xs ≡ holder_in a zs) → assigned_all addresses xs ≡ assigned_all addresses zs
unfolding assigned_all
assigned_alike [] xs zs h = refl
assigned_alike (a ∷ rest) xs zs h = (λ i. record { address = a; node = h a i } ∷ assigned_alike rest xs zs h i)

head_alike : (a : Address) (x : Assigned) (xs ys : List Assigned) → holder_in a xs ≡ holder_in a ys → holder_in a (x ∷ xs) ≡ holder_in a (x ∷ ys)
unfolding holder_in
head_alike a x xs ys e = ap (λ (o : Option ℕ). cond (same_address a x.address) x.node o) e

none_ahead : (a : Address) (x : Assigned) (xs : List Assigned) → Apart (x ∷ xs) → x.node ≡ None → holder_in a xs ≡ holder_in a (x ∷ xs)
unfolding holder_in Apart
none_ahead a x xs apart none = cond_both (same_address a x.address) true false (λ (_ : Bool). holder_in a xs ≡ holder_in a (x ∷ xs))
    (λ t. rw t (subst (λ (b : Address). holder_in b xs ≡ None) (sym (address_is a x.address t)) (holder_none x.address xs apart.0) ∙ sym none))
    (λ f. rw f refl)

assigned_step : (a : Address) (x : Assigned) (xs : List Assigned) (o : Option ℕ) → x.node ≡ o → Apart (x ∷ xs) → holder_in a (assigned_in xs) ≡ holder_in a xs → holder_in a (assigned_in (x ∷ xs)) ≡ holder_in a (x ∷ xs)
unfolding assigned_in
assigned_step a x xs None e apart ih = (let s : is_some x.node ≡ false = ap is_some e in rw s (ih ∙ none_ahead a x xs apart e))
assigned_step a x xs (Some m) e apart ih = (let s : is_some x.node ≡ true = ap is_some e in rw s (head_alike a x (filter (λ (y : Assigned). is_some y.node) xs) xs ih))

holder_assigned : (a : Address) (xs : List Assigned) → Apart xs → holder_in a (assigned_in xs) ≡ holder_in a xs
unfolding assigned_in Apart
holder_assigned a [] apart = refl
holder_assigned a (x ∷ xs) apart = assigned_step a x xs x.node refl apart (holder_assigned a xs apart.1)

tail_alike : (x : Assigned) (ys xs : List Assigned) → AllByRecursion (λ y. same_address x.address y.address ≡ false) ys → assigned_all (map (λ y. y.address) ys) (x ∷ xs) ≡ assigned_all (map (λ y. y.address) ys) xs
unfolding assigned_all holder_in
tail_alike x [] xs h = refl
tail_alike x (y ∷ ys) xs h = rw (same_flips y.address x.address ∙ h.0) (ap (λ (l : List Assigned). record { address = y.address; node = holder_in y.address xs } ∷ l) (tail_alike x ys xs h.1))

all_itself : (xs : List Assigned) → Apart xs → assigned_all (map (λ y. y.address) xs) xs ≡ xs
unfolding assigned_all holder_in Apart
all_itself [] h = refl
all_itself (x ∷ xs) h = rw (same_itself x.address) (ap (λ (l : List Assigned). x ∷ l) (tail_alike x xs xs h.0 ∙ all_itself xs h.1))

-- the configured addresses, placed as a list of those with a node says, are the placement again
pub restored : (addresses : List Address) (xs : List Assigned) → map (λ y. y.address) xs ≡ addresses → Apart xs → assigned_all addresses (assigned_in xs) ≡ xs
restored addresses xs e apart =
    assigned_alike addresses (assigned_in xs) xs (λ a. holder_assigned a xs apart) ∙ ap (λ (l : List Address). assigned_all l xs) (sym e) ∙ all_itself xs apart
