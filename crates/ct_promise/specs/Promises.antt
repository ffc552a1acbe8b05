-- What is promised of every run of the cluster.
use Rattle.std.specs.Prelude.{◌≡◌, ℕ, nat_eq, true, List, [], Some}
use Rattle.std.specs.List.{AllByRecursion, list_any}
use Rattle.ct_values.specs.declared.client.ClientOp.{ClientOp}
use Rattle.ct_values.specs.declared.config.Config.{Config}
use Rattle.ct_call.specs.Rules.{Rules}
pub use Rattle.ct_rules_config.specs.Configured.{IsConfig}
use Rattle.ct_rules_cluster.specs.Cluster.{Cluster, opening, pending}
use Rattle.ct_rules_cluster.specs.Traces.{OpenCall, asked_in, Ran, ran}
use Rattle.ct_rules_cluster.specs.declared.step.Step.{Step}
use Rattle.ct_register.specs.Lines.{Lines}
use Rattle.ct_register.specs.Legal.{Legal}
use Rattle.ct_register.specs.Stands.{StandsFor}

-- the calls that wait are exactly the open ones, each at its node and with what its client asked
pub record CallsStand (w : Cluster) (log : List OpenCall) : Type 0 where
  -- each that waits is open
  pub waiting : AllByRecursion (λ x. asked_in x.call log ≡ Some (x.node, x.op)) (pending w)
  -- and each open one waits: none is forgotten
  pub kept : (call n : ℕ) (asked : ClientOp) → asked_in call log ≡ Some (n, asked) → list_any (λ x. nat_eq x.call call) (pending w) ≡ true

-- The registers accept what a run tells, from the opening on, and its last cluster stands for them. Since they accept no
-- answer to a call that is not open, no call is answered twice; and the calls that are open wait.
abbrev pub Keeps : Config → Rules → Ran → Type 0
Keeps config rules run = (r : Lines) × Legal config rules run.trace r × StandsFor config run.cluster r × CallsStand run.cluster run.log

-- So it is of every list of steps: of client calls, deliveries, losses, repeats, retries, vacuums, recoveries, stops, starts
-- and takeovers, in every order. A step that is refused is as if it were not there. The first steps of a list are a list,
-- too: so what a run told at any moment is legal, and the cluster of that moment stands for registers.
abbrev pub Promise : Type 0
Promise = (config : Config) (rules : Rules) (steps : List Step) → IsConfig config → Keeps config rules (ran config rules (opening config) [] steps)
