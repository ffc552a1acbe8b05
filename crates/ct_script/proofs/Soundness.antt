-- The plan that a seed makes is sound.
use Rattle.std.proofs.Common.{◌≡◌, ◌∙◌, ◌+◌, ◌*◌, ◌/◌, ◌<◌, ◌≤◌, ℕ, zero, suc, Bool, true, false, List, [], ◌∷◌, ◌++◌, length, drop, take, None, Some, refl, sym, ap, subst, arith, Option}
use Rattle.std.proofs.lemmas.Bool.{and_from, cond_both, eqb-true, ltb-false, ltb-true}
use Rattle.std.proofs.lemmas.List.{length-append, length-drop, length-map, length-take-le}
use Rattle.std.proofs.lemmas.List.Folds.{list_all-append, list_any-append}
use Rattle.std.proofs.lemmas.Option.{slice_get-map, slice_get_past}
use Rattle.std.specs.List.{flat_map, list_all, list_any}
use Rattle.std.specs.Prelude.{nat_eq, nat_lt, option_map, slice_get, ◌||◌}
use Rattle.ct_rules_cluster.specs.Cluster.{everyone, numbers}
use Rattle.ct_script.specs.declared.plan.PlanItem.{PlanItem}
use Rattle.ct_script.specs.declared.plan.PlanItem.TheVariants.{Round}
use Rattle.ct_script.specs.Generated.{each_kind, generated_config}
use Rattle.ct_values.specs.declared.config.Config.{Config}
use Rattle.ct_script.proofs.Faultless.{makes}
use Rattle.ct_script.specs.declared.plan.Plan.{Plan}
use Rattle.ct_rules_node.specs.Coming.{is_allowed_op}
use Rattle.ct_rules_node.specs.Node.{is_among}
use Rattle.ct_rules_cluster.proofs.Numbers.{numbers_below, numbers_ascend}
use Rattle.ct_script.specs.Scripts.{asked_by, asked_kind, asked_op, cluster_plan, drawn, generator_of, led_by, locked_commit, planned_script, script_by}
use Rattle.ct_script.specs.Sound.{IsSound, has_round, is_round, may_be_told, or_no_items, script_of}
use Rattle.ct_script.proofs.Making.{length_drawn}

-- ---- all nodes

pub length_numbers : (i k : ℕ) → length (numbers i k) ≡ k
unfolding numbers
length_numbers i zero = refl
length_numbers i (suc k) = ap suc (length_numbers (i + 1) k)

numbered : (i k n : ℕ) → n < k → slice_get (numbers i k) n ≡ Some (i + n)
unfolding numbers
numbered i zero n l = absurd (omega (arith, l))
numbered i (suc k) zero l = ap Some (omega arith)
numbered i (suc k) (suc n) l = numbered (i + 1) k n (omega arith) ∙ ap Some (omega arith)

unnumbered : (i k n : ℕ) → k ≤ n → slice_get (numbers i k) n ≡ None
unfolding numbers
unnumbered i zero n l = refl
unnumbered i (suc k) zero l = absurd (omega (arith, l))
unnumbered i (suc k) (suc n) l = unnumbered (i + 1) k n (omega arith)

zero_first : (k : ℕ) → 1 ≤ k → is_among 0 (numbers 0 k) ≡ true
unfolding is_among numbers
zero_first zero l = absurd (omega (arith, l))
zero_first (suc k) l = refl

-- ---- what a word asks

one_told : (c : Config) (n w kind : ℕ) → list_all (may_be_told c n) (asked_op w kind ∷ []) ≡ true
unfolding may_be_told is_allowed_op
one_told c n w kind =
    cond_both (nat_lt kind 3) _ _ (λ x. list_all (may_be_told c n) (x ∷ []) ≡ true) (λ _. refl)
    (λ _. cond_both (nat_lt kind 6) _ _ (λ x. list_all (may_be_told c n) (x ∷ []) ≡ true) (λ _. refl) (λ _. refl))

asked_told : (c : Config) (n w : ℕ) → list_all (may_be_told c n) (asked_by w) ≡ true
unfolding asked_by may_be_told is_allowed_op
asked_told c n w = cond_both (nat_eq (asked_kind w) 7) _ _ (λ l. list_all (may_be_told c n) l ≡ true) (λ _. refl) (λ _. one_told c n w (asked_kind w))

one_calls : (w kind : ℕ) → list_any is_round (asked_op w kind ∷ []) ≡ false
unfolding is_round
one_calls w kind =
    cond_both (nat_lt kind 3) _ _ (λ x. list_any is_round (x ∷ []) ≡ false) (λ _. refl)
    (λ _. cond_both (nat_lt kind 6) _ _ (λ x. list_any is_round (x ∷ []) ≡ false) (λ _. refl) (λ _. refl))

asked_calls : (w : ℕ) → list_any is_round (asked_by w) ≡ false
unfolding asked_by is_round
asked_calls w = cond_both (nat_eq (asked_kind w) 7) _ _ (λ l. list_any is_round l ≡ false) (λ _. refl) (λ _. one_calls w (asked_kind w))

asked_few : (w : ℕ) → length (asked_by w) ≤ 3
unfolding asked_by
asked_few w =
    let three : length (locked_commit w) ≡ 3 = refl in
    cond_both (nat_eq (asked_kind w) 7) (locked_commit w) (asked_op w (asked_kind w) ∷ []) (λ (l : List PlanItem). length l ≤ 3) (λ _. omega (arith, three)) (λ _. omega arith)

-- ---- what words ask

all_told : (c : Config) (n : ℕ) (ws : List ℕ) → list_all (may_be_told c n) (flat_map asked_by ws) ≡ true
all_told c n [] = refl
all_told c n (w ∷ ws) = list_all-append (may_be_told c n) (asked_by w) (flat_map asked_by ws) ∙ and_from _ _ (asked_told c n w) (all_told c n ws)

neither : (x y : Bool) → x ≡ false → y ≡ false → (x || y) ≡ false
neither false y e f = f
neither true y e f = absurd (cc)

all_calls : (ws : List ℕ) → list_any is_round (flat_map asked_by ws) ≡ false
all_calls [] = refl
all_calls (w ∷ ws) = list_any-append is_round (asked_by w) (flat_map asked_by ws) ∙ neither _ _ (asked_calls w) (all_calls ws)

all_few : (ws : List ℕ) → length (flat_map asked_by ws) ≤ 3 * length ws
all_few [] = omega arith
all_few (w ∷ ws) =
    let l = length-append (asked_by w) (flat_map asked_by ws) in
    let one = asked_few w in
    let more = all_few ws in
    omega (arith, l, one, more)

-- ---- scripts

led_few : (c : Config) (n : ℕ) → length (led_by c n) ≤ 1
unfolding led_by
led_few c n = cond_both (nat_eq n 0) (Round (everyone c) ∷ []) [] (λ (l : List PlanItem). length l ≤ 1) (λ _. omega arith) (λ _. omega arith)

round_told : (c : Config) → 1 ≤ c.nodes → may_be_told c 0 (Round (everyone c)) ≡ true
unfolding may_be_told everyone
round_told c some = and_from _ _ (and_from _ _ (numbers_ascend 0 c.nodes) (numbers_below c.nodes 0 c.nodes (omega arith))) (zero_first c.nodes some)

led_told : (c : Config) (n : ℕ) → n < c.nodes → list_all (may_be_told c n) (led_by c n) ≡ true
unfolding led_by
led_told c n l =
    cond_both (nat_eq n 0) (Round (everyone c) ∷ []) [] (λ (items : List PlanItem). list_all (may_be_told c n) items ≡ true)
    (λ t. and_from _ _ (subst (λ (k : ℕ). may_be_told c k (Round (everyone c)) ≡ true) (sym (eqb-true n 0 t)) (round_told c (omega (arith, l)))) refl) (λ _. refl)

led_never : (c : Config) (n : ℕ) → list_any is_round (led_by c (suc n)) ≡ false
unfolding led_by
led_never c n =
    cond_both (nat_eq (suc n) 0) (Round (everyone c) ∷ []) [] (λ (items : List PlanItem). list_any is_round items ≡ false) (λ t. absurd (let e = eqb-true (suc n) 0 t in omega (arith, e))) (λ _. refl)

module _ (c : Config) (calls n : ℕ) (ws : List ℕ) where
  abbrev before : List PlanItem
  before = flat_map asked_by (take (calls / 2) ws)

  abbrev after : List PlanItem
  after = flat_map asked_by (drop (calls / 2) ws)

  script_few : length ws ≡ calls → calls ≤ 1000 → length (script_by c calls n ws) ≤ 4096
  unfolding script_by
  script_few e few =
      let whole = length-append (before ++ led_by c n) after in
      let front = length-append before (led_by c n) in
      let some = all_few (take (calls / 2) ws) in
      let others = all_few (drop (calls / 2) ws) in
      let led = led_few c n in
      let l = length-take-le (calls / 2) ws (omega (arith, e)) in
      let m = length-drop (calls / 2) ws in
      omega (arith, whole, front, some, others, led, l, m, e, few)

  script_told : n < c.nodes → list_all (may_be_told c n) (script_by c calls n ws) ≡ true
  unfolding script_by
  script_told l =
      list_all-append (may_be_told c n) (before ++ led_by c n) after
      ∙ and_from _ _ (list_all-append (may_be_told c n) before (led_by c n) ∙ and_from _ _ (all_told c n (take (calls / 2) ws)) (led_told c n l)) (all_told c n (drop (calls / 2) ws))

  script_calls : (k : ℕ) → n ≡ suc k → has_round (script_by c calls n ws) ≡ false
  unfolding script_by has_round
  script_calls k e =
      list_any-append is_round (before ++ led_by c n) after
      ∙ neither _ _ (list_any-append is_round before (led_by c n) ∙ neither _ _ (all_calls (take (calls / 2) ws)) (ap (λ (m : ℕ). list_any is_round (led_by c m)) e ∙ led_never c k)) (all_calls (drop (calls / 2) ws))

-- ---- the plan

module _ (nodes calls seed : ℕ) where
  script_there : (n : ℕ) → n < nodes → script_of (cluster_plan nodes calls seed) n ≡ planned_script (generated_config nodes) calls seed n
  unfolding script_of or_no_items everyone
  script_there n l =
      let same : 0 + n ≡ n = omega arith in
      ap or_no_items (slice_get-map (planned_script (generated_config nodes) calls seed) (numbers 0 nodes) n ∙ ap (option_map (planned_script (generated_config nodes) calls seed)) (numbered 0 nodes n l ∙ ap Some same))

  script_past : (n : ℕ) → nodes ≤ n → script_of (cluster_plan nodes calls seed) n ≡ []
  unfolding script_of or_no_items everyone
  script_past n l =
      ap or_no_items (slice_get-map (planned_script (generated_config nodes) calls seed) (numbers 0 nodes) n ∙ ap (option_map (planned_script (generated_config nodes) calls seed)) (unnumbered 0 nodes n l))

  -- what holds of no items, and of the script of each node, holds of each script
  each_script : (P : List PlanItem → Type 0) (n : ℕ) → P [] → (n < nodes → P (planned_script (generated_config nodes) calls seed n)) → P (script_of (cluster_plan nodes calls seed) n)
  each_script P n none one =
      cond_both (nat_lt n nodes) n n (λ _. P (script_of (cluster_plan nodes calls seed) n)) (λ t. subst P (sym (script_there n (ltb-true n nodes t))) (one (ltb-true n nodes t)))
      (λ f. subst P (sym (script_past n (ltb-false n nodes f))) none)

  leader_is : (n : ℕ) → has_round (script_of (cluster_plan nodes calls seed) n) ≡ true → n ≡ 0
  unfolding has_round
  leader_is zero h = refl
  leader_is (suc n) h =
      absurd (let never = each_script (λ (s : List PlanItem). has_round s ≡ false) (suc n) refl (λ _. script_calls (generated_config nodes) calls (suc n) (drawn calls (generator_of seed (suc n))) n refl) in cc)

  pub cluster_plan_sound : 1 ≤ nodes → nodes ≤ 8 → calls ≤ 1000 → IsSound (cluster_plan nodes calls seed)
  unfolding everyone
  cluster_plan_sound some few less =
      let c = generated_config nodes in
      record {
        config = (each_kind, [], makes nodes some few);
        scripts = length-map (numbers 0 nodes) (planned_script c calls seed) ∙ length_numbers 0 nodes;
        short = λ n. each_script (λ s. length s ≤ 4096) n (omega arith) (λ _. script_few c calls n (drawn calls (generator_of seed n)) (length_drawn calls (generator_of seed n)) less);
        told = λ n. each_script (λ s. list_all (may_be_told c n) s ≡ true) n refl (λ l. script_told c calls n (drawn calls (generator_of seed n)) l);
        one_leader = λ m n a b. leader_is m a ∙ sym (leader_is n b);
      }

pub no_script_past : (p : Plan) (n : ℕ) → length p.scripts ≤ n → script_of p n ≡ []
unfolding script_of or_no_items
no_script_past p n l = ap (λ (o : Option (List PlanItem)). or_no_items o) (slice_get_past p.scripts n l)
