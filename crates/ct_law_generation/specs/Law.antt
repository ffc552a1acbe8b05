-- What holds of the calls of every run.
use Rattle.std.specs.Prelude.{◌≡◌, ℕ, nat_eq, false, List, [], ◌∷◌}
use Rattle.ct_values.specs.declared.client.Answer.{Answer}
use Rattle.ct_values.specs.declared.client.ClientOp.{ClientOp}
use Rattle.ct_values.specs.declared.config.Config.{Config}
use Rattle.ct_call.specs.Rules.{Rules}
use Rattle.ct_rules_cluster.specs.Cluster.{Cluster, opening, pending}
use Rattle.ct_rules_cluster.specs.Labels.{Label, Answered, Unasked}
use Rattle.ct_rules_cluster.specs.Traces.{OpenCall, line_labels, ran_one, ran}
use Rattle.ct_rules_cluster.specs.declared.step.Line.TheVariants as line
use Rattle.ct_rules_cluster.specs.declared.step.Step.{Step}
use Rattle.ct_promise.specs.Promises.{CallsStand}
use Rattle.ct_promise.specs.Born.{Rows, IsBornWith, log_of}

-- no label is of an answer to a call that is not open
unfoldable pub NoneUnasked : List Label → Type 0
NoneUnasked [] = Unit {0}
NoneUnasked (Unasked call a ∷ xs) = ⊥
NoneUnasked (x ∷ xs) = NoneUnasked xs

-- Step by step no answer is unasked, and the calls that wait are exactly the open ones.
unfoldable pub CallsRun : Config → Rules → Cluster → List OpenCall → List Step → Type 0
CallsRun c rules w log [] = Unit {0}
CallsRun c rules w log (s ∷ steps) = let run = ran_one c rules w log s in NoneUnasked run.trace × CallsStand run.cluster run.log × CallsRun c rules run.cluster run.log steps

-- So it is of every list of steps from the opening on: of rounds, stops and starts, too.
abbrev pub LawOfCalls : Type 0
LawOfCalls = (c : Config) (rules : Rules) (steps : List Step) → CallsRun c rules (opening c) [] steps

-- So of a whole run: it tells no unasked answer, and the calls that wait at its end are exactly the open ones.
abbrev pub PromiseOfCalls : Type 0
PromiseOfCalls = (c : Config) (rules : Rules) (steps : List Step) → let run = ran c rules (opening c) [] steps in NoneUnasked run.trace × CallsStand run.cluster run.log

-- A second answer to a call is unasked, and so is one to another call that is not open; the first has what the client asked,
-- whatever the node kept of it.
abbrev pub OnceIsEnough : Type 0
OnceIsEnough = (s : Step) (n call other : ℕ) (o : ClientOp) (a b d : Answer) → nat_eq other call ≡ false →
    line_labels s (record { call = call; node = n; asked = o } ∷ []) (line.Answered call a ∷ line.Answered call b ∷ line.Answered other d ∷ []) ≡ Answered n o a ∷ Unasked call b ∷ Unasked other d ∷ []

-- So it is of every list of steps from a cluster on that has installed a generation with rows: the log begins with the calls
-- that wait there.
abbrev pub CallsFromRows : Type 0
CallsFromRows = (config : Config) (rules : Rules) (g : ℕ) (members : List ℕ) (row : Rows) (w : Cluster) (steps : List Step) →
    IsBornWith config g members row w → CallsRun config rules w (log_of (pending w)) steps
