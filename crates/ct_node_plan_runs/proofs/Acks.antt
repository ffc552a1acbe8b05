-- What the leader of a run makes of the releases of members.
use Rattle.std.proofs.Common.{◌≡◌, ◌∙◌, ℕ, Bool, true, false, cond, List, [], ◌∷◌, map, Option, None, Some, refl, sym, ap}
use Rattle.std.proofs.lemmas.Bool.{and_parts, eqb-true}
use Rattle.std.specs.Prelude.{nat_eq, ◌&&◌}
use Rattle.ct_values.specs.Words.{others}
use Rattle.ct_frame.specs.declared.frame.Assigned.{Assigned}
use Rattle.ct_frame.specs.declared.frame.Msg.TheVariants as msg
use Rattle.ct_lead.specs.Runs.{awaits_releaseack, handed_out, is_completed_in, led_after_releaseack, asked_again, led_takeover, left_by, unreleased}
use Rattle.ct_lead.specs.Runs as runs
use Rattle.ct_node_plan.specs.Posts.{does_all, sent}
use Rattle.ct_node_plan.proofs.Sending.{posts_all_does}
use Rattle.ct_rules_node.specs.Node.{Lead, Nothing, Freezes, Pulls, Installs, Completed, Takeover, Run, NoRun, Releasing, Taking, is_among}
use Rattle.ct_rules_node.specs.Takeovers.{all_released, assigned_in, on_releaseack, released_by}
use Rattle.ct_rules_node.specs.Turn.{Turn, with_lead}

-- ---- by the run

run_dropped : (me n g : ℕ) (members : List ℕ) (x : Takeover) (t : Turn) (run : Run) → is_among n (unreleased run) ≡ false → released_by me n g members x t run ≡ t
unfolding released_by
run_dropped me n g members x t NoRun e = refl
run_dropped me n g members x t (Releasing placement missing) e = ap (λ (b : Bool). cond b (all_released me g members x placement t (others n missing)) t) e
run_dropped me n g members x t (Taking placement) e = refl

left_so : (me g : ℕ) (members : List ℕ) (x : Takeover) (placement : List Assigned) (t : Turn) (left : List ℕ) (p : List Assigned) → handed_out (left_by placement left x).run ≡ Some p →
    all_released me g members x placement t left ≡ does_all (map (sent g me (msg.Take x.number (assigned_in p))) members) (with_lead (Completed g members (left_by placement left x)) t)
unfolding all_released
left_so me g members x placement t [] p e =
    posts_all_does g me members (msg.Take x.number (assigned_in placement)) (with_lead (Completed g members (record x { made = placement; run = Taking placement })) t)
    ∙ ap (λ (q : List Assigned). does_all (map (sent g me (msg.Take x.number (assigned_in q))) members) (with_lead (Completed g members (record x { made = placement; run = Taking placement })) t)) (let i : placement ≡ p = cc in i)
left_so me g members x placement t (m ∷ ms) p e = absurd (cc)

left_waits : (me g : ℕ) (members : List ℕ) (x : Takeover) (placement : List Assigned) (t : Turn) (left : List ℕ) → handed_out (left_by placement left x).run ≡ None →
    all_released me g members x placement t left ≡ with_lead (Completed g members (left_by placement left x)) t
unfolding all_released
left_waits me g members x placement t [] e = absurd (cc)
left_waits me g members x placement t (m ∷ ms) e = refl

run_ends : (me n g : ℕ) (members : List ℕ) (x : Takeover) (t : Turn) (run : Run) (p : List Assigned) → is_among n (unreleased run) ≡ true → handed_out (runs.released_by n x run).run ≡ Some p →
    released_by me n g members x t run ≡ does_all (map (sent g me (msg.Take x.number (assigned_in p))) members) (with_lead (Completed g members (runs.released_by n x run)) t)
unfolding released_by is_among
run_ends me n g members x t NoRun p a e = absurd (cc)
run_ends me n g members x t (Releasing placement missing) p a e = ap (λ (b : Bool). cond b (all_released me g members x placement t (others n missing)) t) a ∙ left_so me g members x placement t (others n missing) p e
run_ends me n g members x t (Taking placement) p a e = absurd (cc)

run_waits : (me n g : ℕ) (members : List ℕ) (x : Takeover) (t : Turn) (run : Run) → is_among n (unreleased run) ≡ true → handed_out (runs.released_by n x run).run ≡ None →
    released_by me n g members x t run ≡ with_lead (Completed g members (runs.released_by n x run)) t
unfolding released_by is_among
run_waits me n g members x t NoRun a e = absurd (cc)
run_waits me n g members x t (Releasing placement missing) a e = ap (λ (b : Bool). cond b (all_released me g members x placement t (others n missing)) t) a ∙ left_waits me g members x placement t (others n missing) e
run_waits me n g members x t (Taking placement) a e = absurd (cc)

-- ---- by what is led

not_both : (a b d : Bool) → (a && b && d) ≡ false → (a && b) ≡ true → d ≡ false
not_both true true d e h = e
not_both true false d e h = absurd (cc)
not_both false b d e h = absurd (cc)

dropped_case : (me n g number : ℕ) (h : ℕ) (members : List ℕ) (x : Takeover) (t : Turn) (b : Bool) → (nat_eq h g && nat_eq x.number number) ≡ b → (nat_eq h g && nat_eq x.number number && is_among n (unreleased x.run)) ≡ false →
    cond b (released_by me n g members x t x.run) t ≡ t
dropped_case me n g number h members x t true i e = run_dropped me n g members x t x.run (not_both (nat_eq h g) (nat_eq x.number number) _ e i)
dropped_case me n g number h members x t false i e = refl

pub releaseack_dropped : (me n g number : ℕ) (t : Turn) (l : Lead) → awaits_releaseack n g number l ≡ false → on_releaseack me n g number t l ≡ t
unfolding on_releaseack
releaseack_dropped me n g number t Nothing e = refl
releaseack_dropped me n g number t (Freezes h members missing) e = refl
releaseack_dropped me n g number t (Pulls h members missing x) e = refl
releaseack_dropped me n g number t (Installs h members missing b) e = refl
releaseack_dropped me n g number t (Completed h members x) e = dropped_case me n g number h members x t _ refl e

-- what holds of three that are all true
all_three : (a b d : Bool) → (a && b && d) ≡ true → ((a ≡ true) × (b ≡ true)) × (d ≡ true)
all_three true true true e = ((refl, refl), refl)
all_three true true false e = absurd (cc)
all_three true false d e = absurd (cc)
all_three false b d e = absurd (cc)

-- once all have released, the placement is handed out
pub releaseack_ends : (me n g number : ℕ) (t : Turn) (l : Lead) (p : List Assigned) → awaits_releaseack n g number l ≡ true → handed_out (led_takeover (led_after_releaseack n l)).run ≡ Some p →
    on_releaseack me n g number t l ≡ does_all (map (sent g me (msg.Take number (assigned_in p))) (asked_again l)) (with_lead (led_after_releaseack n l) t)
unfolding on_releaseack
releaseack_ends me n g number t Nothing p e o = absurd (cc)
releaseack_ends me n g number t (Freezes h members missing) p e o = absurd (cc)
releaseack_ends me n g number t (Pulls h members missing x) p e o = absurd (cc)
releaseack_ends me n g number t (Installs h members missing b) p e o = absurd (cc)
releaseack_ends me n g number t (Completed h members x) p e o =
    let a = all_three (nat_eq h g) (nat_eq x.number number) (is_among n (unreleased x.run)) e in
    ap (λ (b : Bool). cond (b && nat_eq x.number number) (released_by me n g members x t x.run) t) a.0.0
    ∙ ap (λ (b : Bool). cond b (released_by me n g members x t x.run) t) a.0.1
    ∙ run_ends me n g members x t x.run p a.1 o
    ∙ ap (λ (k : ℕ). does_all (map (sent g me (msg.Take k (assigned_in p))) members) (with_lead (Completed g members (runs.released_by n x x.run)) t)) (eqb-true x.number number a.0.1)
    ∙ ap (λ (k : ℕ). does_all (map (sent g me (msg.Take number (assigned_in p))) members) (with_lead (Completed k members (runs.released_by n x x.run)) t)) (sym (eqb-true h g a.0.0))

-- until then the others are waited for
pub releaseack_waits : (me n g number : ℕ) (t : Turn) (l : Lead) → awaits_releaseack n g number l ≡ true → handed_out (led_takeover (led_after_releaseack n l)).run ≡ None →
    on_releaseack me n g number t l ≡ with_lead (led_after_releaseack n l) t
unfolding on_releaseack
releaseack_waits me n g number t Nothing e o = absurd (cc)
releaseack_waits me n g number t (Freezes h members missing) e o = absurd (cc)
releaseack_waits me n g number t (Pulls h members missing x) e o = absurd (cc)
releaseack_waits me n g number t (Installs h members missing b) e o = absurd (cc)
releaseack_waits me n g number t (Completed h members x) e o =
    let a = all_three (nat_eq h g) (nat_eq x.number number) (is_among n (unreleased x.run)) e in
    ap (λ (b : Bool). cond (b && nat_eq x.number number) (released_by me n g members x t x.run) t) a.0.0
    ∙ ap (λ (b : Bool). cond b (released_by me n g members x t x.run) t) a.0.1
    ∙ run_waits me n g members x t x.run a.1 o
    ∙ ap (λ (k : ℕ). with_lead (Completed k members (runs.released_by n x x.run)) t) (sym (eqb-true h g a.0.0))
