-- Lists of nodes: what holds of each, and who is among them.
use Rattle.std.proofs.Common.{◌≡◌, ℕ, ◌+◌, ◌<◌, Bool, true, false, ◌||◌, List, [], ◌∷◌, length, refl, sym, ap, subst, arith}
use Rattle.std.proofs.lemmas.Bool.{and_from, and_parts, eq-eqb, eqb-true, lt-ltb, ltb-true, or_right}
use Rattle.std.specs.Prelude.{nat_eq, nat_lt}
use Rattle.std.specs.List.{list_all, list_any}
use Rattle.ct_values.specs.declared.config.Config.{Config}
use Rattle.ct_frame.specs.Fields.{are_nodes, ascends, ascends_after, is_node, is_one_to_sixteen}
use Rattle.ct_rules_node.specs.Node.{is_among}
use Rattle.ct_law_form.specs.Whole.{HasLimits, is_node_of}
use Rattle.ct_law_form.proofs.Putting.{configured_node}

-- what holds of each holds of each of these, where it follows
pub all_weaker : {X : Type 0} (p q : X → Bool) → ((x : X) → p x ≡ true → q x ≡ true) → (xs : List X) → list_all p xs ≡ true → list_all q xs ≡ true
all_weaker p q f [] all = refl
all_weaker p q f (x ∷ xs) all = (let a = and_parts (p x) (list_all p xs) all in and_from _ _ (f x a.0) (all_weaker p q f xs a.1))

-- what holds of each holds of who is among them
pub among_all : (p : ℕ → Bool) (n : ℕ) (ns : List ℕ) → list_all p ns ≡ true → is_among n ns ≡ true → p n ≡ true
unfolding is_among
among_all p n [] all e = absurd (cc)
among_all p n (m ∷ ns) all e = split (nat_eq n m) refl (among_all p n ns (and_parts (p m) (list_all p ns) all).1)
  where
    split : (b : Bool) → nat_eq n m ≡ b → (list_any (nat_eq n) ns ≡ true → p n ≡ true) → p n ≡ true
    split true is more = subst (λ (x : ℕ). p x ≡ true) (sym (eqb-true n m is)) (and_parts (p m) (list_all p ns) all).0
    split false is more = more (subst (λ (b : Bool). (b || list_any (nat_eq n) ns) ≡ true) is e)

-- and of all that are
pub each_among : (p : ℕ → Bool) (ms ns : List ℕ) → list_all p ns ≡ true → list_all (λ m. is_among m ns) ms ≡ true → list_all p ms ≡ true
each_among p ms ns all e = all_weaker (λ m. is_among m ns) p (λ m a. among_all p m ns all a) ms e

-- all of a list are among it
pub self_among : (ns : List ℕ) → list_all (λ m. is_among m ns) ns ≡ true
unfolding is_among
self_among [] = refl
self_among (n ∷ ns) = and_from _ _ (ap (λ (b : Bool). b || list_any (nat_eq n) ns) (eq-eqb n n refl)) (all_weaker (λ m. list_any (nat_eq m) ns) (λ m. nat_eq m n || list_any (nat_eq m) ns) (λ m e. or_right (nat_eq m n) _ e) ns (self_among ns))

-- nodes that ascend are 16 at most
few_after : (n : ℕ) (ns : List ℕ) → ascends_after nat_lt n ns ≡ true → list_all is_node (n ∷ ns) ≡ true → n + length ns < 16
few_after n [] up all = (let l = (and_parts (is_node n) true all).0 in grind arith)
few_after n (m ∷ ns) up all =
    let p = and_parts (nat_lt n m) (ascends_after nat_lt m ns) up in
    let l = few_after m ns p.1 (and_parts (is_node n) (list_all is_node (m ∷ ns)) all).1 in
    let k = ltb-true n m p.0 in omega arith

one_to_sixteen : (n : ℕ) (ns : List ℕ) → length ns < 16 → is_one_to_sixteen (n ∷ ns) ≡ true
one_to_sixteen n ns l = and_from _ _ (lt-ltb 0 (length (n ∷ ns)) (omega arith)) (lt-ltb (length (n ∷ ns)) 17 (omega arith))

-- nodes of the configuration that ascend, one at least, may be the members of a round
pub members_are_nodes : (c : Config) (me : ℕ) (ns : List ℕ) → HasLimits c → ascends nat_lt ns ≡ true → list_all (is_node_of c) ns ≡ true → is_among me ns ≡ true → are_nodes ns ≡ true
unfolding is_among
members_are_nodes c me [] l up all own = absurd (cc)
members_are_nodes c me (n ∷ ns) l up all own =
    let nodes = all_weaker (is_node_of c) is_node (λ m e. configured_node c m l e) (n ∷ ns) all in
    let few = few_after n ns up nodes in
    and_from _ _ (and_from _ _ (one_to_sixteen n ns (omega arith)) nodes) up
