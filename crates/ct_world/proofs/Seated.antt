-- A node that runs stands at its place.
use Rattle.std.proofs.Common.{◌≡◌, ℕ, zero, suc, ◌<◌, Bool, true, false, List, [], ◌∷◌, length, Some, refl, sym, ap, ◌∙◌, subst, arith}
use Rattle.std.specs.Prelude.{nat_lt, slice_get, slice_index_or}
use Rattle.std.proofs.lemmas.Bool.{lt-ltb, ltb-false, ltb-true}
use Rattle.ct_values.specs.declared.config.Config.{Config}
use Rattle.ct_rules_cluster.specs.Cluster.{Cluster, is_true, is_up, node_at, or_absent, World}
use Rattle.ct_core.specs.Core.{Core}
use Rattle.ct_law_form.specs.Whole.{HasLimits, is_node_of}
use Rattle.ct_rules_node.specs.Node.{Node}
use Rattle.ct_world.specs.World.{WorldInForm, states_of}
use Rattle.ct_world.specs.View.{core_at}
use Rattle.ct_world.proofs.Cores.{core_there}

here : (xs : List Core) (n : ℕ) (x : Core) → n < length xs → x ≡ slice_index_or xs n x → slice_get xs n ≡ Some x
here [] n x l e = absurd (omega (arith, l))
here (y ∷ ys) zero x l e = ap Some (sym e)
here (y ∷ ys) (suc n) x l e = here ys n x (omega (arith, l)) e

states : (xs : List Core) → length (states_of xs) ≡ length xs
states [] = refl
states (x ∷ xs) = ap suc (states xs)

marked : (bs : List Bool) (n : ℕ) → is_true (slice_get bs n) ≡ true → n < length bs
unfolding is_true
marked [] n e = absurd (cc)
marked (b ∷ bs) zero e = omega arith
marked (b ∷ bs) (suc n) e = (let h = marked bs n e in omega (arith, h))

there_at : (n : ℕ) (w : Cluster) (x : Node) → slice_get w.nodes n ≡ Some x → node_at n w ≡ x
unfolding node_at or_absent
there_at n w x e = ap or_absent e

node_of : (c : Config) (n : ℕ) → n < c.nodes → is_node_of c n ≡ true
unfolding is_node_of
node_of c n lt = lt-ltb n c.nodes lt

up_marked : (n : ℕ) (w : Cluster) → is_up n w ≡ true → n < length w.running
unfolding is_up
up_marked n w up = marked w.running n up

module _ (c : Config) (cores xs : List Core) (w : Cluster) (v : World) (n : ℕ) (h : WorldInForm c cores w) (same : w.nodes ≡ states_of cores) (is : record { config = c; cluster = w } ≡ v) (seen : xs ≡ cores) where
  size : length xs ≡ c.nodes
  size = ap length seen ∙ sym (states cores) ∙ ap length (sym same) ∙ h.cluster.size

  seat : (x : Core) → true ≡ nat_lt n (length xs) → x ≡ slice_index_or xs n x → (x.pnn ≡ n) × (x.config ≡ c)
  seat x l e = h.seats n x (ap (λ (ys : List Core). slice_get ys n) (sym seen) ∙ here xs n x (ltb-true n (length xs) (sym l)) e)

  state : (x : Core) → true ≡ nat_lt n (length xs) → x ≡ slice_index_or xs n x → node_at n w ≡ x.node
  state x l e = there_at n w x.node (ap (λ (ns : List Node). slice_get ns n) (same ∙ ap states_of (sym seen)) ∙ core_there xs n x l e)

  -- what stands at the place of a node is it
  pub core_seated : (x : Core) → true ≡ nat_lt n (length xs) → x ≡ slice_index_or xs n x → x ≡ core_at n v
  core_seated x l e =
      let s = seat x l e in
      let at : x.node ≡ node_at n w = sym (state x l e) in
      let one : x ≡ core_at n (record { config = c; cluster = w }) = (λ i. record { pnn = s.0 i; config = s.1 i; node = at i }) in
      one ∙ ap (core_at n) is

  -- and its configuration has its limits
  pub limits_here : (x : Core) → true ≡ nat_lt n (length xs) → x ≡ slice_index_or xs n x → HasLimits x.config
  limits_here x l e =
      let far = ltb-true n (length xs) (sym l) in
      let lt : n < c.nodes = omega (arith, far, size) in
      let s = seat x l e in
      subst HasLimits (sym s.1) (h.cluster.nodes n (node_of c n lt)).limits

  -- what stands at no place does not run
  pub core_missing : false ≡ nat_lt n (length xs) → is_up n v.cluster ≡ true → ⊥
  core_missing l up =
      let k = up_marked n w (ap (λ (u : World). is_up n u.cluster) is ∙ up) in
      let far = ltb-false n (length xs) (sym l) in
      omega (arith, k, far, size, h.running)
