-- Deliveries one after the other, as one step of a soak.
use Rattle.std.proofs.Common.{◌≡◌, ◌∙◌, ◌+◌, ◌-◌, ◌<◌, ◌≤◌, ℕ, zero, suc, true, false, true≢false, Option, None, Some, Result, Ok, Err, refl, sym, ap, arith}
use Rattle.ct_call.specs.Rules.{Rules}
use Rattle.ct_rules_cluster.specs.Steps.{Stepped, applied}
use Rattle.ct_rules_cluster.specs.declared.step.Step.TheVariants as step
use Rattle.ct_rules_cluster.specs.declared.step.StepFault.{StepFault}
use Rattle.ct_mail.specs.Mail.{next_waiting}
use Rattle.ct_soak.specs.Counts.{is_taken}
use Rattle.ct_soak.specs.Soaking.{Soaked, after, came, comes_or_skips, settled, soak_config, took}

came_on : (s : Soaked) (r : Result Stepped StepFault) (later : Soaked → Soaked) → is_taken r ≡ true → came s r later ≡ later (after s r)
came_on s (Ok x) later e = refl
came_on s (Err f) later e = absurd (true≢false (sym e))

came_out : (s : Soaked) (r : Result Stepped StepFault) (later : Soaked → Soaked) → is_taken r ≡ false → came s r later ≡ after s r
came_out s (Ok x) later e = absurd (true≢false e)
came_out s (Err f) later e = refl

-- a message came, and more may
pub settles_on : (rules : Rules) (m : ℕ) (s : Soaked) (k : ℕ) → next_waiting s.cluster.sent ≡ Some k → is_taken (applied soak_config rules s.cluster (step.Deliver k)) ≡ true
    → settled rules (suc m) s ≡ settled rules m (took rules s (step.Deliver k))
unfolding settled
settles_on rules m s k e t = ap (λ (o : Option ℕ). comes_or_skips rules s o (settled rules m)) e ∙ came_on s (applied soak_config rules s.cluster (step.Deliver k)) (settled rules m) t

-- a message was refused
pub settles_out : (rules : Rules) (m : ℕ) (s : Soaked) (k : ℕ) → next_waiting s.cluster.sent ≡ Some k → is_taken (applied soak_config rules s.cluster (step.Deliver k)) ≡ false
    → settled rules (suc m) s ≡ took rules s (step.Deliver k)
unfolding settled
settles_out rules m s k e t = ap (λ (o : Option ℕ). comes_or_skips rules s o (settled rules m)) e ∙ came_out s (applied soak_config rules s.cluster (step.Deliver k)) (settled rules m) t

-- none waits
pub settles_none : (rules : Rules) (m : ℕ) (s : Soaked) → next_waiting s.cluster.sent ≡ None → settled rules m s ≡ s
unfolding settled
settles_none rules zero s e = refl
settles_none rules (suc m) s e = ap (λ (o : Option ℕ). comes_or_skips rules s o (settled rules m)) e

-- ---- in a loop

module _ (rules : Rules) (count i : ℕ) (s : Soaked) (whole : Soaked) where
  -- a delivery was refused
  pub ends_out : (k : ℕ) (new : Soaked) → i < count → next_waiting s.cluster.sent ≡ Some k → is_taken (applied soak_config rules s.cluster (step.Deliver k)) ≡ false
      → new ≡ took rules s (step.Deliver k) → settled rules (count - i) s ≡ whole → new ≡ whole
  ends_out k new lt e t n left =
      let more : count - i ≡ suc (count - (i + 1)) = omega arith in
      n ∙ sym (settles_out rules (count - (i + 1)) s k e t) ∙ ap (λ (m : ℕ). settled rules m s) (sym more) ∙ left

  -- all came
  pub ends_all : count ≤ i → settled rules (count - i) s ≡ whole → s ≡ whole
  unfolding settled
  ends_all le left =
      let none : count - i ≡ 0 = omega arith in
      sym (ap (λ (m : ℕ). settled rules m s) none) ∙ left
