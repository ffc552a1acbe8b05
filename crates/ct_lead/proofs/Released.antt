-- What a release makes of a run.
use Rattle.std.proofs.Common.{◌≡◌, ◌∙◌, ℕ, Bool, true, false, cond, List, [], ◌∷◌, Option, None, Some, refl, ap}
use Rattle.std.proofs.lemmas.Bool.{eq-eqb}
use Rattle.std.specs.Prelude.{nat_eq, ◌&&◌}
use Rattle.ct_values.specs.Words.{is_nil, others}
use Rattle.ct_frame.specs.declared.frame.Assigned.{Assigned}
use Rattle.ct_lead.specs.Lead.{run_by, run_of}
use Rattle.ct_lead.specs.Runs.{left_by, released_by, unreleased}
use Rattle.ct_rules_node.specs.Node.{Takeover, Run, is_among}
use Rattle.ct_lead.specs.Run.{Handing, after_releaseack}

-- a release under the run's own number
pub own_number : (n : ℕ) (r : Handing) → after_releaseack n r.number r ≡ record r { missing = others n r.missing }
own_number n r = ap (λ (b : Bool). cond b (record r { missing = others n r.missing }) r) (eq-eqb r.number r.number refl)

left_is : (placement made : List Assigned) (number : ℕ) (run : Run) (left : List ℕ) →
    record { made = cond (is_nil left) placement made; number = number; run = run_by placement left } ≡ left_by placement left (record { made = made; number = number; run = run })
left_is placement made number run [] = refl
left_is placement made number run (m ∷ ms) = refl

struck : (n number : ℕ) (placement made : List Assigned) (missing : List ℕ) → is_among n (unreleased (run_by placement missing)) ≡ true →
    record { made = cond (is_nil (others n missing)) placement made; number = number; run = run_by placement (others n missing) }
    ≡ released_by n (record { made = made; number = number; run = run_by placement missing }) (run_by placement missing)
unfolding is_among
struck n number placement made [] e = absurd (cc)
struck n number placement made (m ∷ ms) e = left_is placement made number (run_by placement (m ∷ ms)) (others n (m ∷ ms))

-- what is known of addresses once a member that is missing has released
pub led_released : (n number : ℕ) (made : List Assigned) (h : Handing) → is_among n (unreleased (run_of (Some h))) ≡ true →
    record { made = cond (is_nil (others n h.missing)) h.placement made; number = number; run = run_of (Some (record h { missing = others n h.missing })) }
    ≡ released_by n (record { made = made; number = number; run = run_of (Some h) }) (run_of (Some h))
led_released n number made h e = struck n number h.placement made h.missing e

-- the last of three that hold
pub is_missing : (a b d : Bool) → (a && b && d) ≡ true → d ≡ true
is_missing true true true e = refl
is_missing true true false e = absurd (cc)
is_missing true false d e = absurd (cc)
is_missing false b d e = absurd (cc)
