-- Through every list of steps the calls that wait are exactly the open ones, and no answer is unasked.
use Rattle.std.proofs.Common.{◌≡◌, ℕ, zero, suc, ◌<◌, true, false, List, [], ◌∷◌, length, replicate, Option, Some, None, refl, sym, ap, ◌∙◌, subst, arith, ⊎_elim}
use Rattle.std.specs.Prelude.{slice_get, Result, Ok, Err}
use Rattle.std.proofs.lemmas.Bool.{ltb-true, lt-ltb, cases_Bool}
use Rattle.ct_values.specs.declared.config.Config.{Config}
use Rattle.ct_call.specs.Rules.{Rules}
use Rattle.ct_store.specs.Map.{look}
use Rattle.ct_rules_node.specs.Node as node
use Rattle.ct_rules_node.specs.Node.{Node, Database, state_at, db_at, or_nothing, or_untouched, untouched}
use Rattle.ct_law_rules_node.specs.NodeLaws.{AllAscend, NodeAscends}
use Rattle.ct_law_rules_node.proofs.Starting.{starts_in_order}
use Rattle.ct_register.proofs.Opened.{one_of_all, one_below, up_below, untouched_one}
use Rattle.ct_law_generation.proofs.Opening.{many}
use Rattle.ct_rules_cluster.specs.Cluster as cluster
use Rattle.ct_rules_cluster.specs.Cluster.{Cluster, everyone, or_absent, node_at}
use Rattle.ct_rules_cluster.specs.Faults.{fault_of, is_allowed}
use Rattle.ct_rules_cluster.specs.Steps.{Stepped, steps_or, applied}
use Rattle.ct_rules_cluster.specs.Traces.{OpenCall, asked_in, Ran, idle, taken, ran_one, after, ran}
use Rattle.ct_rules_cluster.specs.Labels.{Label}
use Rattle.ct_rules_cluster.specs.declared.step.Step.{Step}
use Rattle.ct_rules_cluster.specs.declared.step.StepFault.{StepFault}
use Rattle.ct_law_wishes.proofs.Wishing.{Wishful}
use Rattle.ct_promise.specs.Promises.{CallsStand}
use Rattle.ct_law_generation.specs.Waiting.{Outcome, unchanged, came_of, outcome, outcome_of}
use Rattle.ct_law_generation.specs.Law.{NoneUnasked, CallsRun, LawOfCalls, PromiseOfCalls}
use Rattle.ct_law_generation.proofs.Asked.{asked_more, outcome_asked}
use Rattle.ct_law_generation.proofs.Accounts.{Wished, Committed, Stands}
use Rattle.ct_law_generation.proofs.CallsOpen.{Calls}
use Rattle.ct_law_generation.proofs.CallsTold.{by_log, calls_stand, step_logs}

-- ---- one step

-- by the log a step tells what it tells by the calls that wait, and these are the open ones again
pub record One_logs (c : Config) (run : Ran) (out : Outcome) : Type 0 where
  pub same : outcome_of run ≡ out
  pub calls : Calls c run.cluster (by_log run.log)

result_logs : (c : Config) (rules : Rules) (w : Cluster) (log : List OpenCall) (s : Step) (f : Option StepFault) (r : Result Stepped StepFault) → Calls c w (by_log log) → fault_of c w s ≡ f → steps_or c rules w s f ≡ r →
    One_logs c (taken w log s r) (came_of w s r)
unfolding taken idle steps_or came_of unchanged
result_logs c rules w log s (Some f) (Ok x) h e is = absurd (cc)
result_logs c rules w log s None (Ok x) h e is = (let l = step_logs c rules w s x log h e is in record { same = ap (λ (t : List Label). record { cluster = x.cluster; trace = t }) l.trace; calls = l.calls })
result_logs c rules w log s f (Err g) h e is = record { same = refl; calls = h }

pub one_logs : (c : Config) (rules : Rules) (w : Cluster) (log : List OpenCall) (s : Step) → Calls c w (by_log log) → One_logs c (ran_one c rules w log s) (outcome c rules w s)
unfolding ran_one applied idle outcome unchanged
one_logs c rules w log s h = ⊎_elim
    (λ (t : is_allowed s ≡ true). rw t (result_logs c rules w log s (fault_of c w s) (steps_or c rules w s (fault_of c w s)) h refl refl))
    (λ (f : is_allowed s ≡ false). rw f (record { same = refl; calls = h }))
    (cases_Bool (is_allowed s))

asked_one : (c : Config) (rules : Rules) (w : Cluster) (s : Step) (run : Ran) → outcome_of run ≡ outcome c rules w s → NoneUnasked run.trace
asked_one c rules w s run e = subst (λ (o : Outcome). NoneUnasked o.trace) (sym e) (outcome_asked c rules w s)

-- ---- every list of steps

pub calls_run : (c : Config) (rules : Rules) (w : Cluster) (log : List OpenCall) (ss : List Step) → Calls c w (by_log log) → CallsRun c rules w log ss
unfolding CallsRun
calls_run c rules w log [] h = tt
calls_run c rules w log (s ∷ ss) h = (let run = ran_one c rules w log s in let l = one_logs c rules w log s h in
    (asked_one c rules w s run l.same, calls_stand c run.cluster run.log l.calls, calls_run c rules run.cluster run.log ss l.calls))

-- ---- the opening

-- no call waits where nothing is kept, and none is open
empty_stands : (n : ℕ) (x : Node) → NodeAscends x → ((db : ℕ) → db_at db x ≡ untouched) → Stands n (by_log []) x
unfolding asked_in state_at untouched or_nothing Wishful Committed
empty_stands n x order none = record {
  order = order;
  wishes = λ db key. subst (λ (d : Database). Wishful (Wished n (by_log []) db key) (or_nothing (look key d.records)).wish) (sym (none db)) tt;
  commits = λ db. subst (λ (d : Database). Committed n (by_log []) db d.commit) (sym (none db)) tt;
  waits = λ k o e. absurd (cc);
}

opened_none : (c : Config) (db : ℕ) → db_at db (node.opening c (everyone c)) ≡ untouched
unfolding node.opening db_at
opened_none c db = untouched_one c.dbs db

absent_none : (db : ℕ) → db_at db cluster.absent ≡ untouched
unfolding cluster.absent db_at or_untouched
absent_none db = refl

absent_order : NodeAscends cluster.absent
unfolding cluster.absent AllAscend
absent_order = tt

pub opened_calls : (c : Config) → Calls c (cluster.opening c) (by_log [])
unfolding cluster.opening node_at cluster.is_up asked_in
opened_calls c = record {
  size = many c.nodes (node.opening c (everyone c));
  there = λ n up. ltb-true n c.nodes (up_below c.nodes n up);
  sized = λ n l. ap (λ (x : Node). length x.dbs) (one_below (node.opening c (everyone c)) c.nodes n (lt-ltb n c.nodes l)) ∙ (starts_in_order c (everyone c)).0;
  nodes = λ n. one_of_all (λ (x : Node). Stands n (by_log []) x) (node.opening c (everyone c)) (empty_stands n cluster.absent absent_order absent_none) (empty_stands n (node.opening c (everyone c)) (starts_in_order c (everyone c)).1 (opened_none c)) c.nodes n;
  given = λ k v e. absurd (cc);
}

pub law_of_calls : LawOfCalls
law_of_calls c rules ss = calls_run c rules (cluster.opening c) [] ss (opened_calls c)

-- ---- a whole run

all_logs : (c : Config) (rules : Rules) (w : Cluster) (log : List OpenCall) (ss : List Step) → Calls c w (by_log log) → let run = ran c rules w log ss in NoneUnasked run.trace × CallsStand run.cluster run.log
unfolding ran after idle NoneUnasked
all_logs c rules w log [] h = (tt, calls_stand c w log h)
all_logs c rules w log (s ∷ ss) h =
    let run = ran_one c rules w log s in
    let l = one_logs c rules w log s h in
    let rest = all_logs c rules run.cluster run.log ss l.calls in (asked_more run.trace (ran c rules run.cluster run.log ss).trace (asked_one c rules w s run l.same) rest.0, rest.1)

pub promise_of_calls : PromiseOfCalls
promise_of_calls c rules ss = all_logs c rules (cluster.opening c) [] ss (opened_calls c)
