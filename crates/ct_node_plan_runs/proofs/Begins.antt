-- The begin of a takeover run.
use Rattle.std.proofs.Common.{◌≡◌, ◌∙◌, ℕ, ◌+◌, ◌<◌, ◌≤◌, ◌^◌, Bool, true, false, cond, ◌||◌, List, ◌++◌, map, refl, sym, ap, subst, arith}
use Rattle.std.proofs.lemmas.Bool.{eqb-true}
use Rattle.std.specs.Prelude.{nat_eq, nat_le, ◌&&◌}
use Rattle.std.specs.List.{filter}
use Rattle.ct_frame.specs.declared.frame.Assigned.{Assigned}
use Rattle.ct_lcp2.specs.Placing.{placed}
use Rattle.ct_lcp2.proofs.Standing.{eq_flips}
use Rattle.ct_lead.specs.Runs.{is_completed_in, asked_again, led_running, led_takeover}
use Rattle.ct_node_plan.specs.Changes.{changed_by}
use Rattle.ct_node_plan.specs.Posts.{does_all, release_to}
use Rattle.ct_node_plan.proofs.Sending.{releases_does}
use Rattle.ct_rules_node.specs.Node.{Lead, Nothing, Freezes, Pulls, Installs, Completed, Takeover, is_among, is_serving}
use Rattle.ct_rules_node.specs.Takeovers.{begin_takeover, runs}
use Rattle.ct_rules_node.specs.Turn.{Turn, makes, with_lead}

-- only the leader of its generation begins one, once the round is completed
pub takeover_dropped : (me : ℕ) (able : List ℕ) (t : Turn) (l : Lead) → (is_serving t.node.phase && is_completed_in t.node.generation l) ≡ false → begin_takeover me able t l ≡ t
unfolding begin_takeover
takeover_dropped me able t Nothing e = refl
takeover_dropped me able t (Freezes g members missing) e = refl
takeover_dropped me able t (Pulls g members missing x) e = refl
takeover_dropped me able t (Installs g members missing b) e = refl
takeover_dropped me able t (Completed g members x) e =
    ap (λ (b : Bool). cond (is_serving t.node.phase && b) (runs me g members x (x.number + 1) (placed (filter (λ n. is_among n members) able) x.made) t) t) (eq_flips t.node.generation g)
    ∙ ap (λ (b : Bool). cond b (runs me g members x (x.number + 1) (placed (filter (λ n. is_among n members) able) x.made) t) t) e

-- it has the next number and the placement over the able members, who get their Releases
pub takeover_is : (me : ℕ) (able : List ℕ) (t : Turn) (l : Lead) → is_serving t.node.phase ≡ true → is_completed_in t.node.generation l ≡ true →
    begin_takeover me able t l ≡
    does_all (map (release_to t.node.generation me ((led_takeover l).number + 1) (placed (filter (λ n. is_among n (asked_again l)) able) (led_takeover l).made)) (asked_again l))
    (makes ((led_takeover l).number + 1) (with_lead (led_running ((led_takeover l).number + 1) (placed (filter (λ n. is_among n (asked_again l)) able) (led_takeover l).made) l) t))
unfolding begin_takeover runs
takeover_is me able t Nothing s e = absurd (cc)
takeover_is me able t (Freezes g members missing) s e = absurd (cc)
takeover_is me able t (Pulls g members missing x) s e = absurd (cc)
takeover_is me able t (Installs g members missing b) s e = absurd (cc)
takeover_is me able t (Completed g members x) s e =
    let placement = placed (filter (λ n. is_among n members) able) x.made in
    let number = x.number + 1 in
    ap (λ (b : Bool). cond (b && nat_eq t.node.generation g) (runs me g members x number placement t) t) s
    ∙ ap (λ (b : Bool). cond b (runs me g members x number placement t) t) (eq_flips t.node.generation g ∙ e)
    ∙ releases_does g me number placement members (makes number (with_lead (led_running number placement (Completed g members x)) t))
    ∙ ap (λ (h : ℕ). does_all (map (release_to h me number placement) members) (makes number (with_lead (led_running number placement (Completed g members x)) t))) (eqb-true g t.node.generation e)

at_limit : (b : Bool) (number : ℕ) → 2 ^ 62 ≤ number → (b || nat_le (2 ^ 62) number) ≡ true
at_limit true number l = refl
at_limit false number l = grind (arith, l)

below_limit : (b : Bool) (number : ℕ) → b ≡ false → number < 2 ^ 62 → (b || nat_le (2 ^ 62) number) ≡ false
below_limit true number e l = absurd (cc)
below_limit false number e l = grind (arith, l)

-- where its number would reach 2^62 the step is refused
pub takeover_spent : (me : ℕ) (able : List ℕ) (t : Turn) (l : Lead) → is_serving t.node.phase ≡ true → is_completed_in t.node.generation l ≡ true →
    2 ^ 62 ≤ (led_takeover l).number + 1 → (begin_takeover me able t l).spent ≡ true
unfolding makes with_lead
takeover_spent me able t l s e h = ap (λ (u : Turn). u.spent) (takeover_is me able t l s e) ∙ at_limit t.spent ((led_takeover l).number + 1) h

-- below that it is a whole step
pub takeover_begins : (me : ℕ) (able : List ℕ) (t : Turn) (l : Lead) → is_serving t.node.phase ≡ true → is_completed_in t.node.generation l ≡ true →
    (led_takeover l).number + 1 < 2 ^ 62 → t.spent ≡ false →
    begin_takeover me able t l ≡
    does_all (map (release_to t.node.generation me ((led_takeover l).number + 1) (placed (filter (λ n. is_among n (asked_again l)) able) (led_takeover l).made)) (asked_again l))
    (with_lead (led_running ((led_takeover l).number + 1) (placed (filter (λ n. is_among n (asked_again l)) able) (led_takeover l).made) l) t)
unfolding makes with_lead
takeover_begins me able t l s e h u =
    takeover_is me able t l s e
    ∙ (λ i. record {
      node = record t.node { lead = led_running ((led_takeover l).number + 1) (placed (filter (λ n. is_among n (asked_again l)) able) (led_takeover l).made) l };
      outs = t.outs ++ map (release_to t.node.generation me ((led_takeover l).number + 1) (placed (filter (λ n. is_among n (asked_again l)) able) (led_takeover l).made)) (asked_again l);
      spent = (below_limit t.spent ((led_takeover l).number + 1) u h ∙ sym u) i;
    })
