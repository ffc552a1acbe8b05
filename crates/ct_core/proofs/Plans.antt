-- What was planned of an event is its step, which leaves a core in form.
use Rattle.std.proofs.Common.{◌≡◌, ◌∙◌, ℕ, Bool, true, false, cond, List, None, Some, Ok, Err, refl, sym, ap, subst}
use Rattle.std.specs.Prelude.{IfOk, Result}
use Rattle.std.specs.List.{list_all}
use Rattle.ct_values.specs.declared.config.Config.{Config}
use Rattle.ct_frame.specs.declared.event.Event.{Event}
use Rattle.ct_frame.specs.declared.event.Out.{Out}
use Rattle.ct_call.specs.Rules.{Rules}
use Rattle.ct_law_form.specs.Whole.{is_sound_out}
use Rattle.ct_law_form_cluster.specs.Placed.{IsPlaced}
use Rattle.ct_law_form_cluster.proofs.Placed.{stays_placed}
use Rattle.ct_law_form_steps.proofs.WholeSteps.{steps_keep_form}
use Rattle.ct_node_plan.specs.Changes.{CanChange, Plans, changed_by}
use Rattle.ct_node_plan.specs.declared.change.Change.{Change}
use Rattle.ct_node_plan.specs.declared.change.Planned.{Planned}
use Rattle.ct_rules_node.specs.Coming.{may_come}
use Rattle.ct_rules_node.specs.Node.{Node}
use Rattle.ct_rules_node.specs.Steps.{happens, unless_spent}
use Rattle.ct_rules_node.specs.Turn.{Turn, begins}
use Rattle.ct_node_state.specs.declared.turn.CoreFault.{CoreFault}
use Rattle.ct_node_state.specs.declared.turn.CoreFault.TheVariants.{Exhausted, NoMemory}
use Rattle.ct_core.specs.Core.{Core, CoreInForm, IsChangeOf, IsPlanOf, PlansStep, turn_of}

-- ---- plans

same_turn : (t : Turn) (n : Node) (outs : List Out) → n ≡ t.node → outs ≡ t.outs → t.spent ≡ false → t ≡ record { node = n; outs = outs; spent = false }
same_turn t n outs a b e =
    subst (λ (m : Node). t ≡ record { node = m; outs = outs; spent = false }) (sym a)
    (subst (λ (o : List Out). t ≡ record { node = t.node; outs = o; spent = false }) (sym b) (subst (λ (x : Bool). t ≡ record { node = t.node; outs = t.outs; spent = x }) e refl))

-- a plan of what happens is one of the step
pub plans_step : (r : Result Planned CoreFault) (t : Turn) (n : Node) → Plans r t n → PlansStep r (unless_spent t) n
plans_step (Ok p) t n h = ap (λ (b : Bool). cond b None (Some t)) h.whole ∙ ap (λ (u : Turn). Some u) (same_turn t (changed_by p.change n) p.outs h.node h.outs h.whole)
plans_step (Err Exhausted) t n h = ap (λ (b : Bool). cond b None (Some t)) h
plans_step (Err NoMemory) t n h = tt

pub plan_of : (x : Core) (rules : Rules) (e : Event) (r : Result Planned CoreFault) → may_come x.config x.pnn x.node e ≡ true → Plans r (happens x.config rules x.pnn (begins x.node) e) x.node → IfOk r (λ p. IsPlanOf x p)
plan_of x rules e (Ok p) may h = record { rules = rules; event = e; coming = may; steps = plans_step (Ok p) _ x.node h; can = h.can }
plan_of x rules e (Err f) may h = tt

-- what a plan of a core in form does is sound
pub plan_sound : (x : Core) (rules : Rules) (e : Event) (r : Result Planned CoreFault) → CoreInForm x → may_come x.config x.pnn x.node e ≡ true → Plans r (happens x.config rules x.pnn (begins x.node) e) x.node →
    IfOk r (λ p. list_all (is_sound_out x.config x.pnn) p.outs ≡ true)
plan_sound x rules e (Ok p) f may h = (steps_keep_form x.config rules x.pnn e x.node (turn_of p x.node) f.node may (plans_step (Ok p) _ x.node h)).1
plan_sound x rules e (Err _) f may h = tt

-- ---- what a plan leaves

pub can_change : (x : Core) (change : Change) → IsChangeOf x change → CanChange change x.node
can_change x change h = h.1.can

-- what was planned has its change
pub change_of : (x : Core) (p : Planned) → IsPlanOf x p → IsChangeOf x p.change
change_of x p h = (p.outs, h)

taken : (u t : Turn) → unless_spent u ≡ Some t → u ≡ t
taken u t e = by u.spent e
  where
    by : (b : Bool) → cond b None (Some u) ≡ Some t → u ≡ t
    by true e = absurd (cc)
    by false e = cc

stays_so : (x : Core) (p : Planned) → CoreInForm x → IsPlanOf x p → CoreInForm (record x { node = changed_by p.change x.node })
stays_so x p f h = record {
  node = (steps_keep_form x.config h.rules x.pnn h.event x.node (turn_of p x.node) f.node h.coming h.steps).0;
  placed = subst (λ (t : Turn). IsPlaced x.config t.node) (taken _ (turn_of p x.node) h.steps) (stays_placed x.config h.rules x.pnn (begins x.node) h.event f.placed);
}

-- the node as it was planned is in form
pub stays_in_form : (c : Config) (n : ℕ) (old new : Node) (change : Change) → CoreInForm (record { pnn = n; config = c; node = old }) → IsChangeOf (record { pnn = n; config = c; node = old }) change → new ≡ changed_by change old →
    CoreInForm (record { pnn = n; config = c; node = new })
stays_in_form c n old new change f h e = subst (λ (x : Node). CoreInForm (record { pnn = n; config = c; node = x })) (sym e) (stays_so (record { pnn = n; config = c; node = old }) (record { change = change; outs = h.0 }) f h.1)

-- and as it was before
pub stays_unchanged : (c : Config) (n : ℕ) (old new : Node) → CoreInForm (record { pnn = n; config = c; node = old }) → new ≡ old → CoreInForm (record { pnn = n; config = c; node = new })
stays_unchanged c n old new f e = subst (λ (x : Node). CoreInForm (record { pnn = n; config = c; node = x })) (sym e) f
