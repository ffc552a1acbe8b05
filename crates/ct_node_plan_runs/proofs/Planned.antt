-- What is planned is what the rule makes of the node.
use Rattle.std.proofs.Common.{◌≡◌, ◌∙◌, ℕ, ◌+◌, ◌<◌, ◌^◌, Bool, true, false, List, [], ◌∷◌, ◌++◌, map, Option, None, Some, refl, sym, ap, subst}
use Rattle.std.specs.Prelude.{◌&&◌}
use Rattle.std.specs.List.{filter}
use Rattle.ct_values.specs.declared.address.Address.{Address}
use Rattle.ct_frame.specs.declared.event.Out.{Out}
use Rattle.ct_frame.specs.declared.frame.Assigned.{Assigned}
use Rattle.ct_frame.specs.declared.frame.Msg.TheVariants as msg
use Rattle.ct_lcp2.specs.Placing.{placed}
use Rattle.ct_lead.specs.Runs.{asked_again, awaits_releaseack, handed_out, is_completed_in, led_after_releaseack, led_running, led_takeover}
use Rattle.ct_values.specs.declared.config.Config.{Config}
use Rattle.ct_node_plan.specs.Changes.{IsPlanned, changed_by}
use Rattle.ct_node_plan.specs.declared.change.Change.TheVariants as change
use Rattle.ct_node_plan.specs.declared.change.Planned.{Planned}
use Rattle.ct_node_plan.specs.Posts.{does_all, release_to, sent}
use Rattle.ct_rules_node.specs.Node.{Lead, Node, assigned_all, is_among, is_serving}
use Rattle.ct_rules_node.specs.Takeovers.{assigned_in, begin_takeover, on_release, on_releaseack, on_take}
use Rattle.ct_rules_node.specs.Turn.{Turn, begins, with_lead, with_node}
use Rattle.ct_lead.specs.Held.{Holding, after_release, after_take}
use Rattle.ct_lead.specs.Held as held
use Rattle.ct_node_plan_runs.proofs.Acks.{releaseack_dropped, releaseack_ends, releaseack_waits}
use Rattle.ct_node_plan_runs.proofs.Begins.{takeover_begins, takeover_dropped}
use Rattle.ct_node_plan_runs.proofs.Follows.{holding, release_dropped, release_followed, take_dropped, take_followed}
use Rattle.ct_node_plan_runs.specs.Notes.{released, took}

-- a lead and what is done, by what the rule is
leads_so : (n : Node) (lead : Lead) (outs : List Out) (t : Turn) → t ≡ does_all outs (with_lead lead (begins n)) → IsPlanned (record { change = change.Lead lead; outs = outs }) t n
unfolding changed_by with_lead
leads_so n lead outs t e = record {
  whole = ap (λ (u : Turn). u.spent) e;
  node = sym (ap (λ (u : Turn). u.node) e);
  outs = sym (ap (λ (u : Turn). u.outs) e);
  can = tt;
}

pub planned_begin : (me number : ℕ) (able : List ℕ) (placement : List Assigned) (n : Node) (lead : Lead) (outs : List Out) → is_serving n.phase ≡ true → is_completed_in n.generation n.lead ≡ true →
    number ≡ (led_takeover n.lead).number + 1 → number < 2 ^ 62 → placement ≡ placed (filter (λ m. is_among m (asked_again n.lead)) able) (led_takeover n.lead).made → lead ≡ led_running number placement n.lead →
    outs ≡ map (release_to n.generation me number placement) (asked_again n.lead) → IsPlanned (record { change = change.Lead lead; outs = outs }) (begin_takeover me able (begins n) n.lead) n
planned_begin me number able placement n lead outs s c i l p j o =
    leads_so n lead outs (begin_takeover me able (begins n) n.lead)
    (takeover_begins me able (begins n) n.lead s c (subst (λ (k : ℕ). k < 2 ^ 62) i l) refl
    ∙ (λ d. does_all (map (release_to n.generation me (i' d) (p' d)) (asked_again n.lead)) (with_lead (led_running (i' d) (p' d) n.lead) (begins n)))
    ∙ (λ d. does_all (sym o d) (with_lead (sym j d) (begins n))))
  where
    i' : (led_takeover n.lead).number + 1 ≡ number
    i' = sym i

    p' : placed (filter (λ m. is_among m (asked_again n.lead)) able) (led_takeover n.lead).made ≡ placement
    p' = sym p

pub planned_take : (me n' g number : ℕ) (p : List Assigned) (n : Node) (lead : Lead) (outs : List Out) → awaits_releaseack n' g number n.lead ≡ true → lead ≡ led_after_releaseack n' n.lead →
    handed_out (led_takeover lead).run ≡ Some p → outs ≡ map (sent g me (msg.Take number (assigned_in p))) (asked_again n.lead) → IsPlanned (record { change = change.Lead lead; outs = outs }) (on_releaseack me n' g number (begins n) n.lead) n
planned_take me n' g number p n lead outs a j h o =
    leads_so n lead outs (on_releaseack me n' g number (begins n) n.lead)
    (releaseack_ends me n' g number (begins n) n.lead p a (ap (λ (l : Lead). handed_out (led_takeover l).run) (sym j) ∙ h)
    ∙ (λ d. does_all (sym o d) (with_lead (sym j d) (begins n))))

pub planned_wait : (me n' g number : ℕ) (n : Node) (lead : Lead) (outs : List Out) → awaits_releaseack n' g number n.lead ≡ true → lead ≡ led_after_releaseack n' n.lead →
    handed_out (led_takeover lead).run ≡ None → outs ≡ [] → IsPlanned (record { change = change.Lead lead; outs = outs }) (on_releaseack me n' g number (begins n) n.lead) n
unfolding with_lead
planned_wait me n' g number n lead outs a j h o =
    leads_so n lead outs (on_releaseack me n' g number (begins n) n.lead)
    (releaseack_waits me n' g number (begins n) n.lead a (ap (λ (l : Lead). handed_out (led_takeover l).run) (sym j) ∙ h)
    ∙ (λ d. does_all (sym o d) (with_lead (sym j d) (begins n))))

pub planned_release : (me h number : ℕ) (keep given_up : List Address) (n : Node) (holder : Holding) (outs : List Out) → Some given_up ≡ held.released number keep (holding n) → holder ≡ after_release number keep (holding n) →
    outs ≡ map released given_up ++ sent n.generation me (msg.ReleaseAck number) h ∷ [] → IsPlanned (record { change = change.Hold holder; outs = outs }) (on_release me h number keep (begins n)) n
unfolding changed_by with_node
planned_release me h number keep given_up n holder outs r j o =
    let e = release_followed me h number keep given_up (begins n) (sym r) in
    record {
      whole = ap (λ (u : Turn). u.spent) e;
      node = ap (λ (x : Holding). record n { held = x.held; last_run = x.last_run }) j ∙ sym (ap (λ (u : Turn). u.node) e);
      outs = o ∙ sym (ap (λ (u : Turn). u.outs) e);
      can = tt;
    }

pub planned_hold : (c : Config) (me number : ℕ) (assigned placement : List Assigned) (more : List Address) (n : Node) (holder : Holding) (outs : List Out) → Some more ≡ held.taken number assigned me (holding n) →
    holder ≡ after_take number assigned me (holding n) → placement ≡ assigned_all c.addresses assigned → outs ≡ map took more → IsPlanned (record { change = change.Take placement holder; outs = outs }) (on_take c me number assigned (begins n)) n
unfolding changed_by with_node
planned_hold c me number assigned placement more n holder outs r j p o =
    let e = take_followed c me number assigned more (begins n) (sym r) in
    record {
      whole = ap (λ (u : Turn). u.spent) e;
      node = (λ i. record n { placement = p i; held = (j i).held; last_run = (j i).last_run }) ∙ sym (ap (λ (u : Turn). u.node) e);
      outs = o ∙ sym (ap (λ (u : Turn). u.outs) e);
      can = tt;
    }

-- ---- nothing is planned

nothing_so : (p : Planned) (t : Turn) (n : Node) → IsPlanned p (begins n) n → t ≡ begins n → IsPlanned p t n
nothing_so p t n h e = subst (λ (u : Turn). IsPlanned p u n) (sym e) h

pub nothing_unserved : (p : Planned) (me : ℕ) (able : List ℕ) (n : Node) → IsPlanned p (begins n) n → is_serving n.phase ≡ false → IsPlanned p (begin_takeover me able (begins n) n.lead) n
nothing_unserved p me able n h s = nothing_so p _ n h (takeover_dropped me able (begins n) n.lead (ap (λ (b : Bool). b && is_completed_in n.generation n.lead) s))

pub nothing_uncompleted : (p : Planned) (me : ℕ) (able : List ℕ) (n : Node) → IsPlanned p (begins n) n → is_completed_in n.generation n.lead ≡ false → IsPlanned p (begin_takeover me able (begins n) n.lead) n
nothing_uncompleted p me able n h s = nothing_so p _ n h (takeover_dropped me able (begins n) n.lead (ap (λ (b : Bool). is_serving n.phase && b) s ∙ never (is_serving n.phase)))
  where
    never : (b : Bool) → (b && false) ≡ false
    never true = refl
    never false = refl

pub nothing_awaited : (p : Planned) (me m g number : ℕ) (n : Node) → IsPlanned p (begins n) n → awaits_releaseack m g number n.lead ≡ false → IsPlanned p (on_releaseack me m g number (begins n) n.lead) n
nothing_awaited p me m g number n h e = nothing_so p _ n h (releaseack_dropped me m g number (begins n) n.lead e)

pub nothing_released : (p : Planned) (me h number : ℕ) (keep : List Address) (n : Node) → IsPlanned p (begins n) n → None ≡ held.released number keep (holding n) → IsPlanned p (on_release me h number keep (begins n)) n
nothing_released p me h number keep n i e = nothing_so p _ n i (release_dropped me h number keep (begins n) (sym e))

pub nothing_taken : (p : Planned) (c : Config) (me number : ℕ) (assigned : List Assigned) (n : Node) → IsPlanned p (begins n) n → None ≡ held.taken number assigned me (holding n) → IsPlanned p (on_take c me number assigned (begins n)) n
nothing_taken p c me number assigned n i e = nothing_so p _ n i (take_dropped c me number assigned (begins n) (sym e))
