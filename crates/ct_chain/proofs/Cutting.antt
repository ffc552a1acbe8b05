-- What is cut of a sound plan is sound, and how it stands to the whole.
use Rattle.std.proofs.Common.{◌≡◌, ◌∙◌, ◌+◌, ◌≤◌, ℕ, zero, suc, Bool, true, false, inl, inr, List, [], ◌∷◌, ◌++◌, length, get_or, None, Some, refl, sym, ap, subst, arith, Option}
use Rattle.std.proofs.lemmas.Bool.{and_from, and_parts, cond_both}
use Rattle.std.proofs.lemmas.List.{length-map, map-append}
use Rattle.std.proofs.lemmas.List.Elements.{All-from_get_or, All-map}
use Rattle.std.proofs.lemmas.Map.Views.{any-filter_same}
use Rattle.std.proofs.lemmas.Option.{slice_get-map}
use Rattle.std.specs.List.{filter, list_all, list_any}
use Rattle.std.specs.Prelude.{All, if◌then◌else◌, map, nat_eq, option_map, slice_get}
use Rattle.ct_values.specs.Client.{db_of, key_of}
use Rattle.ct_values.specs.declared.client.ClientOp.{ClientOp}
use Rattle.ct_values.specs.declared.config.Config.{Config}
use Rattle.ct_script.specs.declared.plan.Plan.{Plan}
use Rattle.ct_script.specs.declared.plan.PlanItem.{PlanItem}
use Rattle.ct_script.specs.declared.plan.PlanItem.TheVariants.{Call, Round}
use Rattle.ct_rules_cluster.specs.Cluster.{numbers}
use Rattle.ct_rules_cluster.proofs.Numbers.{numbers_more}
use Rattle.ct_rules_node.specs.Clients.{is_commit}
use Rattle.ct_script.proofs.Soundness.{length_numbers}
use Rattle.ct_script.specs.Sound.{IsSound, has_round, is_round, may_be_told, or_no_items, script_of}
use Rattle.ct_chain.specs.Chains.{chain_of, chain_of_record}
use Rattle.ct_chain.specs.Cut.{cut, cut_one, cut_script, in_chain}
use Rattle.ct_chain.specs.Laws.{AreLeftOf, CallsHaveTheirChain, CallsStandOnce, ColumnsAreApart, OrderIsKept, RoundsStandInEach}

-- ---- filters

module _ {X : Type 0} (test : X → Bool) where
  -- no more items are left than there were
  few_left : (xs : List X) → length (filter test xs) ≤ length xs
  few_left [] = omega arith
  few_left (x ∷ xs) = let l = few_left xs in cond_both (test x) (x ∷ filter test xs) (filter test xs) (λ ys. length ys ≤ length (x ∷ xs)) (λ _. omega (arith, l)) (λ _. omega (arith, l))

  -- what holds of all items holds of those that are left
  all_left : (p : X → Bool) (xs : List X) → list_all p xs ≡ true → list_all p (filter test xs) ≡ true
  all_left p [] h = refl
  all_left p (x ∷ xs) h =
      let l = all_left p xs (and_parts _ _ h).1 in
      cond_both (test x) (x ∷ filter test xs) (filter test xs) (λ ys. list_all p ys ≡ true) (λ _. and_from _ _ (and_parts _ _ h).0 l) (λ _. l)

  -- each item that is left passes
  left_pass : (xs : List X) → list_all test (filter test xs) ≡ true
  left_pass [] = refl
  left_pass (x ∷ xs) = cond_both (test x) (x ∷ filter test xs) (filter test xs) (λ ys. list_all test ys ≡ true) (λ t. and_from _ _ t (left_pass xs)) (λ _. left_pass xs)

  one_more : (x : X) (xs ys : List X) → AreLeftOf ys xs → AreLeftOf ys (x ∷ xs)
  unfolding AreLeftOf
  one_more x xs [] h = tt
  one_more x xs (y ∷ ys) h = inr h

  -- they stand in their order
  in_order : (xs : List X) → AreLeftOf (filter test xs) xs
  unfolding AreLeftOf
  in_order [] = tt
  in_order (x ∷ xs) = cond_both (test x) (x ∷ filter test xs) (filter test xs) (λ ys. AreLeftOf ys (x ∷ xs)) (λ _. inl (refl, in_order xs)) (λ _. one_more x xs (filter test xs) (in_order xs))

-- what is found among the items that are left, where those that are found are left, or are not
found_left : {X : Type 0} (find test : X → Bool) (left : Bool) → ((x : X) → find x ≡ true → test x ≡ left) → (xs : List X) → filter find (filter test xs) ≡ (if left then filter find xs else [])
found_left find test true same [] = refl
found_left find test false same [] = refl
found_left find test left same (x ∷ xs) = grind (arith, found_left find test left same xs, same x)

-- ---- the script of a node, cut

items_cut : (c : Config) (chains i : ℕ) (o : Option (List PlanItem)) → or_no_items (option_map (cut_script c chains i) o) ≡ cut_script c chains i (or_no_items o)
unfolding or_no_items
items_cut c chains i None = refl
items_cut c chains i (Some script) = refl

script_cut : (p : Plan) (chains i n : ℕ) → script_of (cut_one p chains i) n ≡ cut_script p.config chains i (script_of p n)
unfolding script_of or_no_items
script_cut p chains i n = ap or_no_items (slice_get-map (cut_script p.config chains i) p.scripts n) ∙ items_cut p.config chains i (slice_get p.scripts n)

-- each round is in each column
round_stays : (c : Config) (chains i : ℕ) (x : PlanItem) → is_round x ≡ true → in_chain c chains i x ≡ true
unfolding is_round in_chain
round_stays c chains i (Call o) h = absurd (cc)
round_stays c chains i (Round members) h = refl

rounds_cut : (p : Plan) (chains i n : ℕ) → has_round (script_of (cut_one p chains i) n) ≡ has_round (script_of p n)
unfolding has_round
rounds_cut p chains i n =
    ap (λ script. list_any is_round script) (script_cut p chains i n) ∙ any-filter_same is_round (in_chain p.config chains i) true (round_stays p.config chains i) (script_of p n)

cut_sound : (p : Plan) (chains i : ℕ) → IsSound p → IsSound (cut_one p chains i)
cut_sound p chains i s = record {
  config = s.config;
  scripts = length-map p.scripts (cut_script p.config chains i) ∙ s.scripts;
  short = λ n. (let l = few_left (in_chain p.config chains i) (script_of p n) in let k = s.short n in let e = ap (λ (xs : List PlanItem). length xs) (script_cut p chains i n) in omega (arith, l, k, e));
  told = λ n. ap (λ xs. list_all (may_be_told p.config n) xs) (script_cut p chains i n) ∙ all_left (in_chain p.config chains i) (may_be_told p.config n) (script_of p n) (s.told n);
  one_leader = λ m n a b. s.one_leader m n (sym (rounds_cut p chains i m) ∙ a) (sym (rounds_cut p chains i n) ∙ b);
}

-- ---- the plans of the columns

pub length_cut : (p : Plan) (chains : ℕ) → length (cut p chains) ≡ chains
length_cut p chains = length-map (numbers 0 chains) (cut_one p chains) ∙ length_numbers 0 chains

pub cut_more : (p : Plan) (chains n : ℕ) → map (cut_one p chains) (numbers 0 (n + 1)) ≡ map (cut_one p chains) (numbers 0 n) ++ cut_one p chains n ∷ []
cut_more p chains n = ap (map (cut_one p chains)) (numbers_more n) ∙ map-append (cut_one p chains) (numbers 0 n) (n ∷ [])

pub all_sound : (p : Plan) (chains : ℕ) (plans : List Plan) → IsSound p → plans ≡ cut p chains → All IsSound plans
all_sound p chains plans s is =
    subst (λ (ps : List Plan). All IsSound ps) (sym is)
    (All-map IsSound (cut_one p chains) (numbers 0 chains) (All-from_get_or (λ (i : ℕ). IsSound (cut_one p chains i)) (numbers 0 chains) 0 (λ k l. cut_sound p chains (get_or (numbers 0 chains) k 0) s)))

-- ---- the laws

pub columns_are_apart : ColumnsAreApart
columns_are_apart c chains a b na nb db key =
    ap (λ (x : Bool). if x then 0 else chain_of_record c chains (db_of a) (key_of a)) (na ∙ sym nb) ∙ ap (λ (k : List ℕ). if is_commit b then 0 else chain_of_record c chains (db_of a) k) key
    ∙ ap (λ (d : ℕ). if is_commit b then 0 else chain_of_record c chains d (key_of b)) db

pub calls_have_their_chain : CallsHaveTheirChain
calls_have_their_chain p chains i n = ap (λ xs. list_all (in_chain p.config chains i) xs) (script_cut p chains i n) ∙ left_pass (in_chain p.config chains i) (script_of p n)

call_found : (c : Config) (chains i : ℕ) (o : ClientOp) (y : PlanItem) → y ≡ Call o → in_chain c chains i y ≡ nat_eq (chain_of c chains o) i
unfolding in_chain
call_found c chains i o y is = ap (λ x. in_chain c chains i x) is

round_found : (c : Config) (chains i : ℕ) (members : List ℕ) (y : PlanItem) → y ≡ Round members → in_chain c chains i y ≡ true
unfolding in_chain
round_found c chains i members y is = ap (λ x. in_chain c chains i x) is

pub calls_stand_once : CallsStandOnce
calls_stand_once p chains i n o test alone =
    ap (λ xs. filter test xs) (script_cut p chains i n)
    ∙ found_left test (in_chain p.config chains i) (nat_eq (chain_of p.config chains o) i) (λ y t. call_found p.config chains i o y (alone y t)) (script_of p n)

pub rounds_stand_in_each : RoundsStandInEach
rounds_stand_in_each p chains i n members test alone =
    ap (λ xs. filter test xs) (script_cut p chains i n) ∙ found_left test (in_chain p.config chains i) true (λ y t. round_found p.config chains i members y (alone y t)) (script_of p n)

pub order_is_kept : OrderIsKept
order_is_kept p chains i n = subst (λ xs. AreLeftOf xs (script_of p n)) (sym (script_cut p chains i n)) (in_order (in_chain p.config chains i) (script_of p n))
