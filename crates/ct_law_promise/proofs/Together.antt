-- Records, databases and addresses together: each step keeps what holds of all, and the registers accept all that it tells.
use Rattle.std.proofs.Common.{◌≡◌, ◌≢◌, ℕ, Bool, true, false, cond, List, [], ◌∷◌, refl, sym, ap, ◌∙◌, subst, inl, inr}
use Rattle.std.specs.Prelude.{◌⊎◌, Result, Ok, Err}
use Rattle.ct_values.specs.declared.config.Config.{Config}
use Rattle.ct_call.specs.Rules.{Rules}
use Rattle.ct_rules_cluster.specs.Cluster as cluster
use Rattle.ct_rules_cluster.specs.Cluster.{Cluster}
use Rattle.ct_rules_cluster.specs.Faults.{is_allowed}
use Rattle.ct_rules_cluster.specs.Labels.{Label}
use Rattle.ct_rules_cluster.specs.Steps.{Stepped, applied}
use Rattle.ct_rules_cluster.specs.Traces.{OpenCall}
use Rattle.ct_rules_cluster.specs.declared.step.Step.{Step}
use Rattle.ct_rules_cluster.specs.declared.step.StepFault.{StepFault}
use Rattle.ct_register.specs.Legal.{AcceptsLabel, AcceptsLabels}
use Rattle.ct_register.specs.Lines
use Rattle.ct_register.specs.Lines.{Lines}
use Rattle.ct_register.specs.Stands.{StandsFor}
use Rattle.ct_promise.specs.Promises.{IsConfig}
use Rattle.ct_law_generation.specs.Waiting.{Outcome, unchanged, came_of, outcome}
use Rattle.ct_law_generation.proofs.CallsOpen.{Calls}
use Rattle.ct_law_generation.proofs.CallsTold.{by_log}
use Rattle.ct_law_run.proofs.Lives.{Lives}
use Rattle.ct_law_run.proofs.Opened.{opened_lives}
use Rattle.ct_law_registers.specs.Locks.{KeepsCommits}
use Rattle.ct_law_registers.proofs.Parts.{Choice, goes, goes_on, DatabasesNeed, PlacesNeed, AllNeed, commits_kept}
use Rattle.ct_law_registers.proofs.Rounds.{RoundsNeed}
use Rattle.ct_law_registers.proofs.Whole.{RecordsNeed, all_accept}
use Rattle.ct_law_registers.proofs.Places.{Turns}
use Rattle.ct_law_addresses.proofs.Facts.{Spots, spots, MailStands, Holds}
use Rattle.ct_law_addresses.proofs.Kept.{Ready}
use Rattle.ct_law_acts.proofs.Parts.{nodes_of, frames_in}
use Rattle.ct_law_promise.proofs.AddressLaw.{Before, StepHolds, step_holds}
use Rattle.ct_law_promise.proofs.Given.{before_given}
use Rattle.ct_law_promise.proofs.Stood.{addresses_stand, opened_holds, opened_mail}
use Rattle.ct_law_databases.proofs.Like.{with_others, IsLike}
use Rattle.ct_law_promise.proofs.Whole.{Whole, stands_but, opened_whole}
use Rattle.ct_law_promise.proofs.Stepping.{Stepped_whole, step_whole}
use Rattle.ct_law_databases.proofs.Placeless.{but_same}
use Rattle.ct_law_promise.proofs.Nowhere.{NowhereHeld, labels_held}

-- what holds of addresses, of the cluster and the whole registers
pub record Placed (c : Config) (w : Cluster) (r : Lines) : Type 0 where
  pub turns : Turns
  pub holds : Holds c.addresses (nodes_of w) (spots r) turns
  pub mail : MailStands c.addresses (nodes_of w) (spots r) turns (frames_in w)
  pub nowhere : NowhereHeld r

module _ (c : Config) (rules : Rules) (w : Cluster) (log : List OpenCall) (r t : Lines) (lives : Lives c rules w t) (h : Whole c rules w log r t lives) (p : Placed c w r) (is : IsConfig c) where
  -- ---- what the law of addresses asks for before a step

  -- said of registers that are like those of records
  like_before : Before c w (with_others t r.databases r.placing r.held) p.turns
  like_before =
      let b = before_given c rules w t r lives is p.turns
      (subst (λ (z : Lines). Holds c.addresses (nodes_of w) (spots z) p.turns) h.like p.holds)
      (subst (λ (z : Lines). MailStands c.addresses (nodes_of w) (spots z) p.turns (frames_in w)) h.like p.mail) in
      record { ready = record { valid = b.ready.valid; holds = b.ready.holds; mail = b.ready.mail; rounds = b.ready.rounds }; there = b.there; lines = b.lines }

  before_step : Before c w r p.turns
  before_step = subst (λ (z : Lines). Before c w z p.turns) (sym h.like) like_before

  -- ---- the step

  outcome_holds : (x : Choice) (s : Step) → StepHolds c x (outcome c rules w s).cluster r (outcome c rules w s).trace
  unfolding outcome unchanged came_of goes_on AllNeed
  outcome_holds x s = allowed (is_allowed s)
    where
      idle : StepHolds c x w r []
      idle = record { turns = p.turns; needs = tt; holds = p.holds; mail = p.mail }

      came : (o : Result Stepped StepFault) → applied c rules w s ≡ o → StepHolds c x (came_of w s o).cluster r (came_of w s o).trace
      came (Ok y) e = step_holds c rules x w r p.turns before_step s y e
      came (Err f) e = idle

      allowed : (b : Bool) → StepHolds c x (cond b (came_of w s (applied c rules w s)) (unchanged w)).cluster r (cond b (came_of w s (applied c rules w s)) (unchanged w)).trace
      allowed true = came (applied c rules w s) refl
      allowed false = idle

  -- ---- what the cluster stands for

  pub stands_whole : StandsFor c w r
  stands_whole =
      let d = stands_but c rules w log r t lives h r (but_same r) in
      let a = addresses_stand c w r p.turns p.holds p.mail p.nowhere in
      record {
        records = d.records;
        generations = d.generations.generations;
        bases = d.bases;
        databases = d.databases;
        commits = d.commits;
        holds = a.holds;
        assigned = a.assigned;
        addresses = a.addresses;
      }

-- the registers accept these labels, and under each of them a commit that waits keeps its lock
abbrev pub AcceptsKept : Config → Rules → Lines → List Label → Lines → Type 0
AcceptsKept c rules r [] s = s ≡ r
AcceptsKept c rules r (label ∷ labels) s = (mid : Lines) × AcceptsLabel c rules r label mid × KeepsCommits c r label × AcceptsKept c rules mid labels s

all_kept : (c : Config) (rules : Rules) (x : Choice) (r : Lines) (labels : List Label) → AllNeed (RecordsNeed c rules x) c x r labels → AllNeed (DatabasesNeed c x) c x r labels → AllNeed (PlacesNeed c) c x r labels → AllNeed RoundsNeed c x r labels → AcceptsKept c rules r labels (goes_on c x labels r)
unfolding AllNeed goes_on
all_kept c rules x r [] a b p d = refl
all_kept c rules x r (label ∷ labels) a b p d =
    let one = all_accept c rules x r (label ∷ []) (a.0, tt) (b.0, tt) (p.0, tt) (d.0, tt) in
    (goes c x label r, subst (λ (m : Lines). AcceptsLabel c rules r label m) (sym one.2) one.1, commits_kept c x r label b.0, all_kept c rules x (goes c x label r) labels a.1 b.1 p.1 d.1)

-- what a step comes to: the registers accept all that it tells, and all holds after it
pub record Stepped_all (c : Config) (rules : Rules) (w : Cluster) (r t : Lines) (lives : Lives c rules w t) (o : Outcome) (log : List OpenCall) : Type 0 where
  pub stepped : Stepped_whole c rules w r t lives o log
  pub accepts : AcceptsLabels c rules r o.trace (goes_on c stepped.choice o.trace r)
  pub kept : AcceptsKept c rules r o.trace (goes_on c stepped.choice o.trace r)
  pub placed : Placed c o.cluster (goes_on c stepped.choice o.trace r)

pub step_all : (c : Config) (rules : Rules) (w : Cluster) (log : List OpenCall) (r t : Lines) (lives : Lives c rules w t) → Whole c rules w log r t lives → Placed c w r → IsConfig c → (s : Step) (after : List OpenCall) → Calls c (outcome c rules w s).cluster (by_log after) →
    Stepped_all c rules w r t lives (outcome c rules w s) after
step_all c rules w log r t lives h p is s after calls =
    let st = step_whole c rules w log r t lives h is s after calls in
    let a = outcome_holds c rules w log r t lives h p is st.choice s in
    let o = outcome c rules w s in
    let accepts = all_accept c rules st.choice r o.trace st.records st.databases a.needs st.rounds in
    record {
      stepped = st;
      accepts = accepts;
      kept = all_kept c rules st.choice r o.trace st.records st.databases a.needs st.rounds;
      placed = record { turns = a.turns; holds = a.holds; mail = a.mail; nowhere = labels_held c rules o.trace r (goes_on c st.choice o.trace r) accepts p.nowhere };
    }

-- ---- the opening

pub opened_placed : (c : Config) → Placed c (cluster.opening c) (Lines.opening c)
opened_placed c = record { turns = λ g. 0; holds = opened_holds c; mail = opened_mail c; nowhere = λ n a z. refl }
