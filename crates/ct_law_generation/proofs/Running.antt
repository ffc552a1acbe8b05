-- Through all steps of one generation its records hold with the registers and marks of its line.
use Rattle.std.proofs.Common.{◌≡◌, ℕ, zero, suc, ◌+◌, ◌<◌, ◌≤◌, true, false, List, [], ◌∷◌, length, Option, Some, None, refl, sym, ap, ◌∙◌, arith, subst, ⊎_elim}
use Rattle.std.specs.Prelude.{nat_lt, Result, Ok, Err}
use Rattle.std.specs.List.{list_all}
use Rattle.std.proofs.lemmas.Bool.{cond_both, and_parts, cases_Bool}
use Rattle.ct_values.specs.declared.config.Config.{Config}
use Rattle.ct_frame.specs.Fields.{is_node, is_db, ascends}
use Rattle.ct_frame.specs.declared.event.Event.{Event}
use Rattle.ct_frame.specs.declared.event.Event.TheVariants as event
use Rattle.ct_call.specs.Rules.{Rules}
use Rattle.ct_rules_node.specs.Node.{Node, is_among}
use Rattle.ct_rules_cluster.specs.Cluster.{Cluster, Sent, Fate, Delivered, Dropped, is_up, node_at, sent_at, able_from}
use Rattle.ct_rules_cluster.specs.Faults.{fault_of, is_allowed}
use Rattle.ct_rules_cluster.specs.Steps.{Stepped, with_node, put, fed, done, with_fate, deliver, drop, repeat, steps, steps_or, applied}
use Rattle.ct_rules_cluster.specs.Traces.{OpenCall, ran_one}
use Rattle.ct_law_generation.specs.Waiting.{Outcome, unchanged, came_of, outcome, outcome_of}
use Rattle.ct_law_generation.proofs.CallsOpen.{Calls}
use Rattle.ct_law_generation.proofs.CallsTold.{by_log, calls_stand}
use Rattle.ct_law_generation.proofs.CallsRun.{one_logs}
use Rattle.ct_rules_cluster.specs.declared.step.Line.{Line}
use Rattle.ct_rules_cluster.specs.declared.step.Line.TheVariants as line
use Rattle.ct_rules_cluster.specs.declared.step.Step.{Step}
use Rattle.ct_rules_cluster.specs.declared.step.Step.TheVariants as step
use Rattle.ct_rules_cluster.specs.declared.step.StepFault.{StepFault}
use Rattle.ct_register.specs.Register.{Register}
use Rattle.ct_register.specs.Lines.{Lines}
use Rattle.ct_register.specs.Legal.{AcceptsLabels}
use Rattle.ct_register.specs.Marks.{Mark, Marks, GoOn, AreFrom, MarksStep}
use Rattle.ct_promise.specs.Generation.{is_of_one_generation, speaks_of_records, record_labels}
use Rattle.ct_promise.specs.Marked.{MarksGoOnIn, is_removal}
use Rattle.ct_promise.specs.Kept.{RecordsHold, RecordsRun, RunsFrom}
use Rattle.ct_law_record.specs.World as law
use Rattle.ct_law_record.specs.World.{Scene, World, LeadsTo}
use Rattle.ct_law_record.proofs.Invariant.{Ghost}
use Rattle.ct_law_record.proofs.Worlds.{WorldInv}
use Rattle.ct_law_record.proofs.Law.{leads}
use Rattle.ct_law_record.proofs.MarkLists.{marks_stay}
use Rattle.ct_law_record.proofs.MarkedRun.{marks_of}
use Rattle.ct_law_generation.specs.Shown.{Era, scene, project, AllInstalled, heard, told_by_all, Schedules}
use Rattle.ct_law_generation.proofs.Pending.{Callers}
use Rattle.ct_law_generation.proofs.Staying.{NodeStays}
use Rattle.ct_law_generation.proofs.Clusters.{ClusterStays}
use Rattle.ct_law_generation.proofs.Following.{asks_by_law}
use Rattle.ct_law_generation.proofs.Fed.{fed_is}
use Rattle.ct_law_generation.proofs.Assembled.{Run_goes, Starts}
use Rattle.ct_law_generation.proofs.Stepping.{is_yield, step_goes_on}
use Rattle.ct_law_generation.proofs.Yielding.{yielded, yields, yield_runs, yield_accepted}
use Rattle.ct_law_generation.proofs.Going.{Ghosts, marks_of_all, Followed, followed_hold, era_from, step_goes}
use Rattle.ct_law_generation.proofs.AtHome.{AllAtHome, step_home}
use Rattle.ct_law_generation.proofs.Entries.{lined}

-- ---- the recovery lock stays where it is

-- the recovery lock is where it was
abbrev Held : Cluster → Cluster → Type 0
Held w v = v.holder ≡ w.holder

fed_held : (c : Config) (rules : Rules) (n : ℕ) (e : Event) (own : List Line) (w : Cluster) (x : Stepped) → fed c rules n e own w ≡ Ok x → Held w x.cluster
unfolding put with_node
fed_held c rules n e own w x ok = ap (λ (y : Stepped). y.cluster.holder) (fed_is c rules n e own w x ok).1

done_held : (lines : List Line) (w v : Cluster) (x : Stepped) → Held w v → done lines v ≡ Ok x → Held w x.cluster
unfolding done
done_held lines w v x h ok = (let same : record { cluster = v; lines = lines } ≡ x = cc in ap (λ (y : Stepped). y.cluster.holder) (sym same) ∙ h)

fate_held : (k : ℕ) (m : Sent) (f : Fate) (w : Cluster) → Held w (with_fate k m f w)
unfolding with_fate
fate_held zero m f w = refl
fate_held (suc k) m f w = refl

deliver_held : (c : Config) (rules : Rules) (k : ℕ) (w : Cluster) (m : Option Sent) (x : Stepped) → deliver c rules k w m ≡ Ok x → Held w x.cluster
unfolding deliver
deliver_held c rules k w None x ok = done_held [] w w x refl ok
deliver_held c rules k w (Some m) x ok = cond_both (is_up m.frame.receiver w) (fed c rules m.frame.receiver (event.Arrive m.frame) [] (with_fate k m Delivered w)) _ (λ (y : Result Stepped StepFault). y ≡ Ok x → Held w x.cluster)
    (λ _ is. fed_held c rules m.frame.receiver (event.Arrive m.frame) [] (with_fate k m Delivered w) x is ∙ fate_held k m Delivered w) (λ _ is. done_held (line.Lost k ∷ []) w _ x (fate_held k m Dropped w) is) ok

repeat_held : (c : Config) (rules : Rules) (k : ℕ) (w : Cluster) (m : Option Sent) (x : Stepped) → repeat c rules k w m ≡ Ok x → Held w x.cluster
unfolding repeat
repeat_held c rules k w None x ok = done_held [] w w x refl ok
repeat_held c rules k w (Some m) x ok = cond_both (is_up m.frame.receiver w) (fed c rules m.frame.receiver (event.Arrive m.frame) [] w) _ (λ (y : Result Stepped StepFault). y ≡ Ok x → Held w x.cluster)
    (λ _ is. fed_held c rules m.frame.receiver (event.Arrive m.frame) [] w x is) (λ _ is. done_held (line.Lost k ∷ []) w w x refl is) ok

drop_held : (k : ℕ) (w : Cluster) (m : Option Sent) (x : Stepped) → drop k w m ≡ Ok x → Held w x.cluster
unfolding drop
drop_held k w None x ok = done_held [] w w x refl ok
drop_held k w (Some m) x ok = done_held [] w _ x (fate_held k m Dropped w) ok

steps_held : (c : Config) (rules : Rules) (w : Cluster) (s : Step) (x : Stepped) → is_of_one_generation s ≡ true → is_yield s ≡ false → steps c rules w s ≡ Ok x → Held w x.cluster
unfolding steps is_of_one_generation is_yield
steps_held c rules w (step.Client n o) x one other ok = fed_held c rules n (event.Client (w.calls + 1) o) [] (record w { calls = w.calls + 1 }) x ok
steps_held c rules w (step.Deliver k) x one other ok = deliver_held c rules k w (sent_at k w) x ok
steps_held c rules w (step.Drop k) x one other ok = drop_held k w (sent_at k w) x ok
steps_held c rules w (step.Repeat k) x one other ok = repeat_held c rules k w (sent_at k w) x ok
steps_held c rules w (step.Retry n) x one other ok = fed_held c rules n event.Retry [] w x ok
steps_held c rules w (step.Vacuum n db) x one other ok = fed_held c rules n (event.Vacuum db) [] w x ok
steps_held c rules w (step.Recover n members) x one other ok = absurd (cc)
steps_held c rules w (step.Yield n) x one other ok = absurd (cc)
steps_held c rules w (step.Stop n) x one other ok = absurd (cc)
steps_held c rules w (step.Start n) x one other ok = absurd (cc)
steps_held c rules w (step.Takeover n) x one other ok = fed_held c rules n (event.BeginTakeover (able_from 0 w.able)) [] w x ok
steps_held c rules w (step.Able n able) x one other ok = done_held [] w _ x refl ok

applied_held : (c : Config) (rules : Rules) (w : Cluster) (s : Step) (x : Stepped) (f : Option StepFault) → is_of_one_generation s ≡ true → is_yield s ≡ false → steps_or c rules w s f ≡ Ok x → Held w x.cluster
unfolding steps_or
applied_held c rules w s x (Some f) one other ok = absurd (cc)
applied_held c rules w s x None one other ok = steps_held c rules w s x one other ok

taken_held : (c : Config) (rules : Rules) (w : Cluster) (s : Step) (y : Result Stepped StepFault) → is_of_one_generation s ≡ true → is_yield s ≡ false → applied c rules w s ≡ y → Held w (came_of w s y).cluster
unfolding came_of unchanged applied
taken_held c rules w s (Ok x) one other is = applied_held c rules w s x (fault_of c w s) one other is
taken_held c rules w s (Err f) one other is = refl

-- a step of one generation that does not give the recovery lock back leaves it
pub step_held : (c : Config) (rules : Rules) (w : Cluster) (s : Step) → is_of_one_generation s ≡ true → is_yield s ≡ false → (outcome c rules w s).cluster.holder ≡ w.holder
unfolding outcome unchanged
step_held c rules w s one other = ⊎_elim
    (λ (t : is_allowed s ≡ true). rw t (taken_held c rules w s (applied c rules w s) one other refl))
    (λ (f : is_allowed s ≡ false). rw f refl)
    (cases_Bool (is_allowed s))

-- ---- what holds at every step

-- a generation is numbered from 1 on, no other is begun beside it, and its members ascend; these have numbers of nodes, and
-- databases such of databases
pub record IsGeneration (c : Config) (era : Era) : Type 0 where
  pub alone : era.alone ≡ true
  pub real : list_all is_node era.members ≡ true
  pub ascend : ascends nat_lt era.members ≡ true
  pub positive : 1 ≤ era.number
  pub small : (db : ℕ) → db < length c.dbs → is_db db ≡ true

-- the line of the generation was born with the members, which are in it, and all have installed it where not all serve yet; the
-- recovery lock is where the cluster has it
pub record InLine (era : Era) (w : Cluster) (r : Lines) : Type 0 where
  pub born : r.born era.number ≡ true
  pub named : r.members era.number ≡ era.members
  pub inside : (n : ℕ) → is_among n era.members ≡ true → r.line n ≡ era.number
  pub ready : era.thawed ≡ false → AllInstalled era.number r
  pub holder : r.holder ≡ w.holder

-- all that holds of the cluster with its registers and ghosts
pub record Lives (c : Config) (era : Era) (rules : Rules) (w : Cluster) (r : Lines) (ghosts : Ghosts) : Type 0 where
  pub who : Callers
  pub stays : ClusterStays c (era_from era w) rules who w
  pub line : InLine era w r
  pub home : AllAtHome w
  pub followed : Followed c era rules w r ghosts

-- so the records of the cluster hold with the registers and marks of the line
pub lives_hold : (c : Config) (era : Era) (rules : Rules) (w : Cluster) (r : Lines) (ghosts : Ghosts) → IsGeneration c era → Lives c era rules w r ghosts → RecordsHold era.number w r (marks_of_all ghosts)
lives_hold c era rules w r ghosts is h =
    let l = lined c (era_from era w) rules h.who w r is.positive h.stays h.line.inside h.line.born h.line.named h.home in
    followed_hold c era rules w r ghosts (record { real = l.real; line = l.line; entry = l.entry; born = l.born; named = l.named; knows = l.knows }) h.followed

-- ---- a generation may be followed from any of its clusters on

restart_node : (c : Config) (era : Era) (rules : Rules) (who : Callers) (calls n : ℕ) (x : Node) (start : ℕ → List ℕ → World) → NodeStays c era rules who calls n x → NodeStays c (record era { start = start }) rules who calls n x
restart_node c era rules who calls n x start h = record { present = h.present; knows = h.knows; promise = h.promise; lead = h.lead; size = h.size; known = h.known; formed = h.formed; waits = h.waits; serves = h.serves }

pub restart : (c : Config) (era : Era) (rules : Rules) (who : Callers) (w : Cluster) (start : ℕ → List ℕ → World) → ClusterStays c era rules who w → ClusterStays c (record era { start = start }) rules who w
restart c era rules who w start h = record {
  size = h.size;
  there = h.there;
  up = h.up;
  nodes = λ n among. restart_node c era rules who w.calls n (node_at n w) start (h.nodes n among);
  left = h.left;
  left_known = h.left_known;
  sent = h.sent;
}

-- the invariant of a world looks at no rules of functions
pub other_rules : (s : Scene) (rules : Rules) (w : World) (r : Register) (g : Ghost) → WorldInv s w r g → WorldInv (record s { rules = rules }) w r g
other_rules s rules w r g h = record { frames = h.frames; register = h.register; all = h.all; nodes = h.nodes; master = h.master; outside = h.outside; senders = h.senders }

-- so each record is one register
leads_here : (c : Config) (era : Era) (rules others : Rules) (w : Cluster) (r : Lines) (ghosts : Ghosts) → list_all is_node era.members ≡ true → Followed c era rules w r ghosts →
    (db : ℕ) (key : List ℕ) (es : List law.Event) → LeadsTo (scene c era others db key) (project era.number db key w) (r.records era.number db key) es
leads_here c era rules others w r ghosts real f db key es =
    leads (scene c era others db key) (project era.number db key w) (r.records era.number db key) (ghosts db key) es real (other_rules (scene c era rules db key) others (project era.number db key w) (r.records era.number db key) (ghosts db key) (f db key))

starts_here : (c : Config) (era : Era) (rules : Rules) (w : Cluster) (r : Lines) (ghosts : Ghosts) → IsGeneration c era → Lives c era rules w r ghosts → Starts c (era_from era w) rules r
starts_here c era rules w r ghosts is h = record {
  era_is = record {
    real = is.real;
    ascend = is.ascend;
    positive = is.positive;
    asks = λ others db key. asks_by_law (scene c era others db key) (project era.number db key w) (r.records era.number db key) (leads_here c era rules others w r ghosts is.real h.followed db key);
  };
  alone = is.alone;
  line = h.line.inside;
  ready = h.line.ready;
  small = is.small;
}

no_events : (c : Config) (era : Era) (rules : Rules) (w : Cluster) → Schedules c (era_from era w) rules w [] (λ db key. [])
unfolding heard told_by_all
no_events c era rules w db key = (refl, refl)

goes_here : (c : Config) (era : Era) (rules : Rules) (w : Cluster) (r : Lines) (ghosts : Ghosts) → Lives c era rules w r ghosts → Run_goes c (era_from era w) rules r [] w
goes_here c era rules w r ghosts h = record { who = h.who; goes = (h.stays, (λ db key. []), no_events c era rules w); own = tt }

-- ---- one step

-- what there is after a step
pub record After (c : Config) (era : Era) (rules : Rules) (r : Lines) (ghosts : Ghosts) (run : Outcome) : Type 0 where
  pub lines : Lines
  pub ghosts_after : Ghosts
  pub accepts : AcceptsLabels c rules r (record_labels c run.trace) lines
  pub marks : MarksGoOnIn era.number r run.trace (marks_of_all ghosts) (marks_of_all ghosts_after)
  pub lives : Lives c era rules run.cluster lines ghosts_after

still_in_line : (era : Era) (w v : Cluster) (r t : Lines) → t ≡ record r { records = t.records } → v.holder ≡ w.holder → InLine era w r → InLine era v t
still_in_line era w v r t rest held h = record {
  born = ap (λ (l : Lines). l.born era.number) rest ∙ h.born;
  named = ap (λ (l : Lines). l.members era.number) rest ∙ h.named;
  inside = λ n among. ap (λ (l : Lines). l.line n) rest ∙ h.inside n among;
  ready = λ cold m among. ap (λ (l : Lines). l.installed era.number m) rest ∙ h.ready cold m (ap (λ (l : Lines). is_among m (l.members era.number)) (sym rest) ∙ among);
  holder = ap (λ (l : Lines). l.holder) rest ∙ h.holder ∙ sym held;
}

goes_after : (c : Config) (era : Era) (rules : Rules) (w : Cluster) (r : Lines) (ghosts : Ghosts) (s : Step) → IsGeneration c era → is_of_one_generation s ≡ true → is_yield s ≡ false → Lives c era rules w r ghosts →
    After c era rules r ghosts (outcome c rules w s)
goes_after c era rules w r ghosts s is one other h =
    let run = outcome c rules w s in
    let on = step_goes_on c (era_from era w) rules r w s (starts_here c era rules w r ghosts is h) (goes_here c era rules w r ghosts h) one other in
    let k = step_goes c era rules w r ghosts s on.goes.1 (record {
      real = is.real;
      positive = is.positive;
      order = λ n. (h.home n).order;
      knows = λ n up. (h.stays.nodes n (h.stays.up n up)).knows;
      line = on.own;
    }) h.followed on.goes.2 in
    record {
      lines = k.lines;
      ghosts_after = k.ghosts_after;
      accepts = k.accepts;
      marks = k.marks;
      lives = record {
        who = on.who;
        stays = restart c (era_from era w) rules on.who run.cluster (λ db key. project era.number db key run.cluster) on.goes.0;
        line = still_in_line era w run.cluster r k.lines k.rest (step_held c rules w s one other) h.line;
        home = step_home c rules w s h.home;
        followed = k.followed;
      };
    }

-- ---- the recovery lock is given back

idle_after : (c : Config) (era : Era) (rules : Rules) (w : Cluster) (r : Lines) (ghosts : Ghosts) → Lives c era rules w r ghosts → After c era rules r ghosts (unchanged w)
unfolding unchanged
idle_after c era rules w r ghosts h = record { lines = r; ghosts_after = ghosts; accepts = refl; marks = λ db key. marks_stay (marks_of (ghosts db key)); lives = h }

yielded_stays : (c : Config) (era : Era) (rules : Rules) (who : Callers) (w : Cluster) → ClusterStays c era rules who w → ClusterStays c era rules who (yielded w)
unfolding node_at is_up
yielded_stays c era rules who w h = record { size = h.size; there = h.there; up = h.up; nodes = h.nodes; left = h.left; left_known = h.left_known; sent = h.sent }

yielded_lives : (c : Config) (era : Era) (rules : Rules) (w : Cluster) (r : Lines) (ghosts : Ghosts) → Lives c era rules w r ghosts → Lives c era rules (yielded w) (record r { holder = None }) ghosts
unfolding node_at
yielded_lives c era rules w r ghosts h = record {
  who = h.who;
  stays = restart c (era_from era w) rules h.who (yielded w) (λ db key. project era.number db key (yielded w)) (yielded_stays c (era_from era w) rules h.who w h.stays);
  line = record { born = h.line.born; named = h.line.named; inside = h.line.inside; ready = h.line.ready; holder = refl };
  home = h.home;
  followed = h.followed;
}

yield_after : (c : Config) (era : Era) (rules : Rules) (w : Cluster) (r : Lines) (ghosts : Ghosts) (n : ℕ) → Lives c era rules w r ghosts → After c era rules r ghosts (outcome c rules w (step.Yield n))
unfolding outcome is_allowed applied steps_or came_of speaks_of_records is_removal
yield_after c era rules w r ghosts n h = either (fault_of c w (step.Yield n)) refl
  where
    either : (f : Option StepFault) → fault_of c w (step.Yield n) ≡ f → After c era rules r ghosts (outcome c rules w (step.Yield n))
    either (Some f) e = subst (λ (o : Option StepFault). After c era rules r ghosts (came_of w (step.Yield n) (steps_or c rules w (step.Yield n) o))) (sym e) (idle_after c era rules w r ghosts h)
    either None e = subst (λ (run : Outcome). After c era rules r ghosts run) (sym (yield_runs c rules w n e)) (record {
      lines = record r { holder = None };
      ghosts_after = ghosts;
      accepts = yield_accepted c rules w n r (yields c w n e) h.line.holder;
      marks = λ db key. marks_stay (marks_of (ghosts db key));
      lives = yielded_lives c era rules w r ghosts h;
    })

-- ---- all steps

-- all holds after a step of one generation
pub step_after : (c : Config) (era : Era) (rules : Rules) (w : Cluster) (r : Lines) (ghosts : Ghosts) (s : Step) → IsGeneration c era → is_of_one_generation s ≡ true → Lives c era rules w r ghosts → After c era rules r ghosts (outcome c rules w s)
unfolding is_yield is_of_one_generation
step_after c era rules w r ghosts (step.Yield n) is one h = yield_after c era rules w r ghosts n h
step_after c era rules w r ghosts s is one h = goes_after c era rules w r ghosts s is one refl h

run_on : (c : Config) (era : Era) (rules : Rules) (w : Cluster) (log : List OpenCall) (r : Lines) (ghosts : Ghosts) (steps : List Step) → IsGeneration c era → list_all is_of_one_generation steps ≡ true → Lives c era rules w r ghosts → Calls c w (by_log log) →
    RecordsRun c rules era.number w log r (marks_of_all ghosts) steps
unfolding RecordsRun
run_on c era rules w log r ghosts [] is one h calls = tt
run_on c era rules w log r ghosts (s ∷ ss) is one h calls =
    let ok = and_parts (is_of_one_generation s) (list_all is_of_one_generation ss) one in
    let run = ran_one c rules w log s in
    let l = one_logs c rules w log s calls in
    let k : After c era rules r ghosts (outcome_of run) = subst (λ (o : Outcome). After c era rules r ghosts o) (sym l.same) (step_after c era rules w r ghosts s is ok.0 h) in (
      k.lines,
      marks_of_all k.ghosts_after,
      k.accepts,
      lives_hold c era rules run.cluster k.lines k.ghosts_after is k.lives,
      calls_stand c run.cluster run.log l.calls,
      k.marks,
      run_on c era rules run.cluster run.log k.lines k.ghosts_after ss is ok.1 k.lives l.calls,
    )

-- So the records of the generation run from every cluster, registers and ghosts of which all holds, where the calls that wait
-- are the open ones.
pub runs_from : (c : Config) (era : Era) (rules : Rules) (w : Cluster) (log : List OpenCall) (r : Lines) (ghosts : Ghosts) (steps : List Step) → IsGeneration c era → list_all is_of_one_generation steps ≡ true → Lives c era rules w r ghosts → Calls c w (by_log log) →
    RunsFrom c rules era.number w log r (marks_of_all ghosts) steps
runs_from c era rules w log r ghosts steps is one h calls = (lives_hold c era rules w r ghosts is h, calls_stand c w log calls, run_on c era rules w log r ghosts steps is one h calls)
