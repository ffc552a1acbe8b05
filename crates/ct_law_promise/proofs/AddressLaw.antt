-- The law of addresses: whatever step is taken, its labels need no more of addresses than what holds, and that holds after it.
use Rattle.std.proofs.Common.{◌≡◌, ℕ, ◌+◌, ◌<◌, Bool, true, false, cond, List, [], ◌∷◌, length, append-nil, None, refl, sym, ap, ◌∙◌, subst, arith}
use Rattle.std.specs.Prelude.{Ok}
use Rattle.std.specs.List.{AllByRecursion}
use Rattle.std.proofs.lemmas.Bool.{eqb-true}
use Rattle.ct_values.specs.declared.client.ClientOp.{ClientOp}
use Rattle.ct_values.specs.declared.client.ClientOp.TheVariants as op
use Rattle.ct_values.specs.declared.config.Config.{Config}
use Rattle.ct_frame.specs.declared.frame.Frame.{Frame}
use Rattle.ct_call.specs.Rules.{Rules}
use Rattle.ct_rules_node.specs.Node.{Node, Lead, Completed, is_serving}
use Rattle.ct_rules_node.specs.Turn.{begins}
use Rattle.ct_rules_node.specs.Steps.{happens}
use Rattle.ct_rules_node.specs.Takeovers.{begin_takeover}
use Rattle.ct_law_rules_node.proofs.Refusals.{first_none, required}
use Rattle.ct_rules_cluster.specs.Cluster.{Cluster, is_up, node_at, pending, able_from}
use Rattle.ct_rules_cluster.specs.Faults.{fault_of, not_serving, not_leader, leads}
use Rattle.ct_rules_cluster.specs.Labels.{Label, Begun, Takeover}
use Rattle.ct_rules_cluster.specs.Steps.{Stepped, applied}
use Rattle.ct_rules_cluster.specs.Traces.{begun_by, is_refused}
use Rattle.ct_rules_cluster.specs.declared.step.Line.{Line}
use Rattle.ct_rules_cluster.specs.declared.step.PendingCall.{PendingCall}
use Rattle.ct_rules_cluster.specs.declared.step.Step.{Step}
use Rattle.ct_rules_cluster.specs.declared.step.Step.TheVariants as step
use Rattle.ct_register.specs.Lines.{Lines}
use Rattle.ct_register.specs.Words.{at}
use Rattle.ct_law_generation.specs.Shown.{labels_of}
use Rattle.ct_law_generation.specs.Waiting.{told_step}
use Rattle.ct_law_plain.proofs.Locked.{serves_present}
use Rattle.ct_law_registers.proofs.Parts.{Choice, goes_on, PlacesNeed, AllNeed}
use Rattle.ct_law_registers.proofs.Places.{Turns}
use Rattle.ct_law_addresses.proofs.Facts.{Spots, spots, MailStands, Holds}
use Rattle.ct_law_addresses.proofs.Aside.{IsAside, all_aside, begun_aside, yielded_aside, started_aside}
use Rattle.ct_law_addresses.proofs.Asides.{vacuums_aside, client_aside}
use Rattle.ct_law_addresses.proofs.Kept.{Ready, Kept, frame_list, all_aside_kept}
use Rattle.ct_law_addresses.proofs.Leading.{takeover_kept}
use Rattle.ct_law_addresses.proofs.Left.{stop_kept}
use Rattle.ct_law_addresses.proofs.Ticketed.{begin_kept}
use Rattle.ct_law_addresses.proofs.Again.{retry_kept}
use Rattle.ct_law_acts.proofs.Parts.{nodes_of, frames_in}
use Rattle.ct_law_acts.proofs.Walk.{Owes, step_became}
use Rattle.ct_law_promise.proofs.Arrivals.{arrives_kept}

-- ---- events beside rounds and messages

begun_by_aside : (config : Config) (n call : ℕ) (asked : ClientOp) (lines : List Line) → AllByRecursion (IsAside config) (begun_by n call asked lines)
unfolding begun_by
begun_by_aside config n call (op.Commit db ws) lines = either (is_refused call lines)
  where
    either : (b : Bool) → AllByRecursion (IsAside config) (cond b [] (Begun n db ws ∷ []))
    either true = tt
    either false = (begun_aside config n db ws, tt)
begun_by_aside config n call asked lines = tt

module _ (config : Config) (x : Choice) (nodes : ℕ → Node) (fs : List Frame) (r : Lines) (turns : Turns) (h : Ready config nodes fs r turns) where
  -- labels that speak of no address, and no node's turn
  quiet_kept : (ls : List Label) → AllByRecursion (IsAside config) ls → Kept config x nodes fs r ls []
  quiet_kept ls aside =
      let goes = all_aside config x ls r aside in
      record {
        turns = turns;
        needs = goes.0;
        holds = subst (λ (b : Spots). Holds config.addresses nodes b turns) (sym goes.1) h.holds;
        mail = subst (MailStands config.addresses nodes (spots (goes_on config x ls r)) turns) (sym (append-nil fs)) (subst (λ (b : Spots). MailStands config.addresses nodes b turns fs) (sym goes.1) h.mail);
      }

  -- the leader of a completed round, which serves in its line, begins a run
  begins_kept : (n : ℕ) (able : List ℕ) (calls : List PendingCall) (l : Lead) → (nodes n).lead ≡ l → is_serving (nodes n).phase ≡ true → leads (nodes n).generation l ≡ true →
      (let u = begin_takeover n able (begins (nodes n)) (nodes n).lead in Kept config x (at n u.node nodes) fs r (Takeover n able ∷ labels_of n calls u.outs) (frame_list u.outs))
  unfolding leads
  begins_kept n able calls (Completed k members z) e serving led =
      let there = h.rounds.there n (serves_present (nodes n).phase serving) in
      let same : k ≡ r.line n = eqb-true k (nodes n).generation led ∙ there.generation in
      takeover_kept config x nodes fs r turns h n calls there members z (e ∙ ap (λ (j : ℕ). Completed j members z) same) able serving
  begins_kept n able calls _ e serving led = absurd (cc)

-- ---- every step

-- what the law needs before a step of the cluster: what holds of addresses and of rounds; who runs is a node, and no generation
-- above the last ticket is a line
pub record Before (config : Config) (w : Cluster) (r : Lines) (turns : Turns) : Type 0 where
  pub ready : Ready config (nodes_of w) (frames_in w) r turns
  pub there : (n : ℕ) → is_up n w ≡ true → n < length w.nodes
  pub lines : (g : ℕ) → w.ticket < g → r.born g ≡ false

-- what a step to this cluster, which tells these labels, keeps
pub record StepHolds (config : Config) (x : Choice) (v : Cluster) (r : Lines) (ls : List Label) : Type 0 where
  pub turns : Turns
  pub needs : AllNeed (PlacesNeed config) config x r ls
  pub holds : Holds config.addresses (nodes_of v) (spots (goes_on config x ls r)) turns
  pub mail : MailStands config.addresses (nodes_of v) (spots (goes_on config x ls r)) turns (frames_in v)

module _ (config : Config) (rules : Rules) (x : Choice) (w : Cluster) (r : Lines) (turns : Turns) (b : Before config w r turns) where
  abbrev Goes : (ℕ → Node) → List Label → List Frame → Type 0
  Goes then ls sent = Kept config x then (frames_in w) r ls sent

  led : (n : ℕ) → fault_of config w (step.Takeover n) ≡ None → (is_serving (node_at n w).phase ≡ true) × (leads (node_at n w).generation (node_at n w).lead ≡ true)
  unfolding fault_of not_serving not_leader
  led n e = (let c = first_none _ _ (first_none _ _ (first_none _ _ e).1).1 in (required (is_serving (node_at n w).phase) _ c.0, required (leads (node_at n w).generation (node_at n w).lead) _ (first_none _ _ c.1).0))

  owed : Owes config rules w Goes
  unfolding happens
  owed = record {
    client = λ n o up. all_aside_kept config x (nodes_of w) (frames_in w) r turns b.ready n _ _ _ (begun_by_aside config n (w.calls + 1) o _) (client_aside config rules n (w.calls + 1) o (begins (node_at n w)));
    arrive = λ f came up. arrives_kept config rules x (nodes_of w) (frames_in w) r turns b.ready (pending w) f came f.msg refl;
    retry = λ n up. retry_kept config x (nodes_of w) (frames_in w) r turns b.ready n (pending w);
    vacuum = λ n db up. all_aside_kept config x (nodes_of w) (frames_in w) r turns b.ready n (pending w) [] _ tt (vacuums_aside config n db (begins (node_at n w)));
    recover = λ n members up. begin_kept config x (nodes_of w) (frames_in w) r turns b.ready n (pending w) (w.ticket + 1) members members (b.lines (w.ticket + 1) (omega arith));
    takeover = λ n e. (let l = led n e in begins_kept config x (nodes_of w) (frames_in w) r turns b.ready n (able_from 0 w.able) (pending w) (node_at n w).lead refl l.0 l.1);
    stop = λ n up. stop_kept config x (nodes_of w) (frames_in w) r turns b.ready n;
    nothing = quiet_kept config x (nodes_of w) (frames_in w) r turns b.ready [] tt;
    yielded = λ n. quiet_kept config x (nodes_of w) (frames_in w) r turns b.ready _ (yielded_aside config n, tt);
    started = λ n. quiet_kept config x (nodes_of w) (frames_in w) r turns b.ready _ (started_aside config n, tt);
  }

  pub step_holds : (s : Step) (y : Stepped) → applied config rules w s ≡ Ok y → StepHolds config x y.cluster r (told_step w s y.lines)
  step_holds s y ok =
      let k = step_became config rules w Goes owed b.there s y ok in
      record {
        turns = k.law.turns;
        needs = k.law.needs;
        holds = k.law.holds;
        mail = subst (MailStands config.addresses (nodes_of y.cluster) (spots (goes_on config x (told_step w s y.lines) r)) k.law.turns) (sym k.sent) k.law.mail;
      }
