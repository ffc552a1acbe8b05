-- The words of a generator, one after the other.
use Rattle.std.proofs.Common.{◌≡◌, ◌∙◌, ◌+◌, ◌-◌, ◌<◌, ◌≤◌, ℕ, suc, sym, ap, arith}
use Rattle.rand_pcg.specs.Lcg.{Lcg}
use Rattle.rand_pcg.specs.Pcg.{pcg32}
use Rattle.ct_call.specs.Rules.{Rules}
use Rattle.ct_soak.specs.Soaking.{Soaked, word_took, words_took}

module _ (rules : Rules) (count i : ℕ) (g : Lcg) (s whole : Soaked) where
  -- one more
  pub goes_on : (w : ℕ) (h : Lcg) (t : Soaked) → i < count → (w, h) ≡ pcg32 g → t ≡ word_took rules w s → words_took rules (count - i) g s ≡ whole
      → words_took rules (count - (i + 1)) h t ≡ whole
  unfolding words_took
  goes_on w h t lt e n left =
      let more : count - i ≡ suc (count - (i + 1)) = omega arith in
      ap (λ (x : Soaked). words_took rules (count - (i + 1)) h x) n ∙ ap (λ (p : ℕ × Lcg). words_took rules (count - (i + 1)) p.1 (word_took rules p.0 s)) e
      ∙ sym (ap (λ (m : ℕ). words_took rules m g s) more) ∙ left

  -- none is left
  pub all_taken : count ≤ i → words_took rules (count - i) g s ≡ whole → s ≡ whole
  unfolding words_took
  all_taken le left =
      let none : count - i ≡ 0 = omega arith in
      sym (ap (λ (m : ℕ). words_took rules m g s) none) ∙ left
