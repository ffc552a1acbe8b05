-- Each step of the cluster keeps what holds of records and of databases together, and its labels have all that they need of both.
use Rattle.std.proofs.Common.{◌≡◌, ◌≢◌, ℕ, ◌+◌, ◌<◌, ◌≤◌, Bool, true, false, cond, List, [], ◌∷◌, length, map, Option, None, Some, Result, Ok, Err, refl, sym, ap, ◌∙◌, subst, arith, inl, inr, ⊎_elim}
use Rattle.std.specs.Prelude.{◌⊎◌, nat_lt, ◌||◌}
use Rattle.std.specs.List.{list_any}
use Rattle.std.proofs.lemmas.Bool.{cases_eq, ltb-true}
use Rattle.ct_values.specs.declared.config.Config.{Config}
use Rattle.ct_values.specs.declared.config.DbDecl.{DbDecl}
use Rattle.ct_frame.specs.declared.frame.Frame.{Frame}
use Rattle.ct_call.specs.Rules.{Rules}
use Rattle.ct_merge.proofs.Among.{In}
use Rattle.ct_law_rules_node.specs.NodeLaws.{NodeAscends}
use Rattle.ct_rules_node.specs.Node.{Node, name_of}
use Rattle.ct_rules_cluster.specs.Cluster.{Cluster, is_up, node_at}
use Rattle.ct_rules_cluster.specs.Faults.{is_allowed}
use Rattle.ct_rules_cluster.specs.Labels.{Label, Noted}
use Rattle.ct_rules_cluster.specs.Steps.{Stepped, applied}
use Rattle.ct_rules_cluster.specs.Traces.{OpenCall}
use Rattle.ct_rules_cluster.specs.declared.step.Step.{Step}
use Rattle.ct_rules_cluster.specs.declared.step.Step.TheVariants as step
use Rattle.ct_rules_cluster.specs.declared.step.StepFault.{StepFault}
use Rattle.ct_register.specs.Legal.{lock_owner}
use Rattle.ct_register.specs.Lines.{Lines}
use Rattle.ct_register.specs.Marks.{MarksStep}
use Rattle.ct_promise.specs.Generation.{record_labels}
use Rattle.ct_promise.specs.Marked.{AllMarks, is_removal, is_removed, MarksGoOn}
use Rattle.ct_promise.specs.Promises.{IsConfig}
use Rattle.ct_law_generation.specs.Waiting.{Outcome, unchanged, came_of, outcome, told_step}
use Rattle.ct_law_generation.proofs.Pending.{Callers}
use Rattle.ct_law_generation.proofs.CallsOpen.{Calls}
use Rattle.ct_law_generation.proofs.CallsTold.{by_log}
use Rattle.ct_law_generation.proofs.AtHome.{AllAtHome, step_home}
use Rattle.ct_law_run.proofs.Lives.{Lives}
use Rattle.ct_law_run.proofs.Faces.{marks_in_all, After}
use Rattle.ct_law_registers.proofs.Parts.{Choice, goes_on, DatabasesNeed, AllNeed}
use Rattle.ct_law_registers.proofs.Rounds.{RoundsNeed}
use Rattle.ct_law_registers.proofs.Whole.{RecordsNeed}
use Rattle.ct_law_acts.proofs.Calling.{called}
use Rattle.ct_law_acts.proofs.CallerSteps.{is_client}
use Rattle.ct_law_acts.proofs.Reached.{AllKnown, call_known, step_known}
use Rattle.ct_law_registers.proofs.Facts.{Has, Gone, bases, owners, Settled, StoresHold, WaitsIn}
use Rattle.ct_law_databases.proofs.Law.{LockLaw, LockStep, LocksEnd}
use Rattle.ct_law_databases.proofs.Steps.{nodes_of}
use Rattle.ct_law_databases.proofs.StepLaw.{StepHolds, Keeps, step_holds}
use Rattle.ct_law_run.proofs.Stepping.{owed_turned, step_lives}
use Rattle.ct_law_run.proofs.Owed.{all_owed}
use Rattle.ct_law_databases.proofs.Ordered.{IsOrdered, labels_ordered}
use Rattle.ct_law_databases.proofs.JoinRounds.{SendersThere}
use Rattle.ct_law_acts.proofs.Steps.{frames_in, Acts, step_acts}
use Rattle.ct_law_acts.proofs.Numbers.{step_calls}
use Rattle.ct_law_databases.proofs.Like.{with_others, IsLike}
use Rattle.ct_law_databases.proofs.Labels.{AllParts, SomeCounts, one_parts}
use Rattle.ct_law_databases.proofs.Later.{GoesLater, labels_later}
use Rattle.ct_law_databases.proofs.JoinTurns.{Step_does, acts_do}
use Rattle.ct_law_databases.proofs.Lost.{Lost}
use Rattle.ct_law_databases.proofs.Losing.{owner_once}
use Rattle.ct_law_promise.proofs.Locking.{ends_there, gone_after, locks_end, gone_lost, lock_law}
use Rattle.ct_law_promise.proofs.Whole.{Whole, before}

-- ---- what comes of a step: nothing, or what is applied

abbrev Came : Config → Rules → Cluster → Step → Outcome → Type 0
Came c rules w s o = (o ≡ unchanged w) ⊎ ((x : Stepped) × (applied c rules w s ≡ Ok x) × (o ≡ record { cluster = x.cluster; trace = told_step w s x.lines }))

came : (c : Config) (rules : Rules) (w : Cluster) (s : Step) → Came c rules w s (outcome c rules w s)
unfolding outcome came_of
came c rules w s = by (is_allowed s) (applied c rules w s) refl
  where
    by : (b : Bool) (a : Result Stepped StepFault) → applied c rules w s ≡ a → Came c rules w s (cond b (came_of w s a) (unchanged w))
    by false a e = inl refl
    by true (Ok x) e = inr (x, e, refl)
    by true (Err f) e = inl refl

-- ---- what is known of calls

known_after : (c : Config) (rules : Rules) (who : Callers) (w : Cluster) (s : Step) (x : Stepped) → AllKnown c who w.calls w → applied c rules w s ≡ Ok x → (then : Callers) × AllKnown c then x.cluster.calls x.cluster
unfolding is_client
known_after c rules who w (step.Client n o) x known ok = (
  called (w.calls + 1) (n, o) who,
  subst (λ (k : ℕ). AllKnown c (called (w.calls + 1) (n, o) who) k x.cluster) (sym (step_calls c rules w (step.Client n o) x ok)) (call_known c rules who w n o x known ok),
)
known_after c rules who w s x known ok = (who, subst (λ (k : ℕ). AllKnown c who k x.cluster) (sym (step_calls c rules w s x ok)) (step_known c rules who w.calls w s x refl known ok))

known_came : (c : Config) (rules : Rules) (who : Callers) (w : Cluster) (s : Step) (o : Outcome) → Came c rules w s o → AllKnown c who w.calls w → (then : Callers) × AllKnown c then o.cluster.calls o.cluster
unfolding unchanged
known_came c rules who w s o (inl e) known = subst (λ (z : Outcome). (then : Callers) × AllKnown c then z.cluster.calls z.cluster) (sym e) (who, known)
known_came c rules who w s o (inr k) known = subst (λ (z : Outcome). (then : Callers) × AllKnown c then z.cluster.calls z.cluster) (sym k.2) (known_after c rules who w s k.0 known k.1)

-- ---- what it does

acts_came : (c : Config) (rules : Rules) (w : Cluster) (s : Step) (o : Outcome) → ((n : ℕ) → is_up n w ≡ true → n < length w.nodes) → Came c rules w s o → Acts c rules w o.cluster o.trace
unfolding unchanged
acts_came c rules w s o there (inl e) = subst (λ (z : Outcome). Acts c rules w z.cluster z.trace) (sym e) (inr (inr (record { nodes = λ k. refl; frames = refl; aside = refl })))
acts_came c rules w s o there (inr k) = subst (λ (z : Outcome). Acts c rules w z.cluster z.trace) (sym k.2) (step_acts c rules w there s k.0 k.1)

-- ---- databases

-- where nothing happens they stay
still_stores : (c : Config) (w : Cluster) (r : Lines) (has : Has) (gone later : Gone) (step : LockStep gone later (owners c r) (owners c r)) → StoresHold c w r has gone → StoresHold c w r has later
still_stores c w r has gone later step h = record {
  holds = h.holds;
  settled = record {
    settles = λ g db kind. ⊎_elim
        (λ (e : (r.databases g db).acked ≡ length (r.databases g db).commits). inl e)
        (λ (k : WaitsIn (nodes_of w) r.line g db ⊎ (gone g (name_of c db) ≡ true)). inr (⊎_elim
        (λ (waits : WaitsIn (nodes_of w) r.line g db). inl waits)
        (λ (e : gone g (name_of c db) ≡ true). inr (step.stays g (name_of c db) e)) k))
        (h.settled.settles g db kind);
    owner_has = h.settled.owner_has;
    heirs = h.settled.heirs;
  };
  mail = h.mail;
}

still_keeps : (c : Config) (w : Cluster) (r : Lines) (has : Has) (gone : Gone) → StoresHold c w r has gone → Keeps c w w r gone []
unfolding AllNeed goes_on
still_keeps c w r has gone h = record {
  kept = λ db. 0;
  seen = 0;
  more = has;
  holds = λ counts. record { needs = tt; holds = λ later new step ends promise. still_stores c w r has gone later step h };
}

module _ (c : Config) (rules : Rules) (w : Cluster) (log : List OpenCall) (r t : Lines) (lives : Lives c rules w t) (h : Whole c rules w log r t lives) (is : IsConfig c) where
  keeps_came : (s : Step) (o : Outcome) → Came c rules w s o → Keeps c w o.cluster r h.gone o.trace
  unfolding unchanged
  keeps_came s o (inl e) = subst (λ (z : Outcome). Keeps c w z.cluster r h.gone z.trace) (sym e) (still_keeps c w r h.has h.gone h.stores)
  keeps_came s o (inr k) = subst (λ (z : Outcome). Keeps c w z.cluster r h.gone z.trace) (sym k.2) (step_holds c rules h.who w r h.has h.gone s k.0 (before c rules w log r t lives h is) k.1)

  there : (n : ℕ) → is_up n w ≡ true → n < length w.nodes
  there n up = (let l = ltb-true n c.nodes (lives.up n up) in let s = lives.size in omega arith)

  some_dbs : 0 < length c.dbs
  some_dbs = subst (λ (ds : List DbDecl). 0 < length ds) (sym is.2.2) (omega arith)

  in_order : (n : ℕ) → is_up n w ≡ true → NodeAscends (node_at n w) × (0 < length (node_at n w).dbs)
  in_order n up = (let l = lives.nodes n (lives.up n up) in (l.known.order, (let a = l.size in let b = some_dbs in omega arith)))

-- ---- marks

-- whether a record was removed does not depend on databases and addresses
removal_same : (z r : Lines) (g db : ℕ) (key : List ℕ) (l : Label) → z.line ≡ r.line → is_removal z g db key l ≡ is_removal r g db key l
unfolding is_removal
removal_same z r g db key (Noted n noted) e = ap (λ (f : ℕ → ℕ). is_removal (record r { line = f }) g db key (Noted n noted)) e
removal_same z r g db key l e = refl

removed_same : (z r : Lines) (g db : ℕ) (key : List ℕ) (ls : List Label) → z.line ≡ r.line → is_removed z g db key ls ≡ is_removed r g db key ls
removed_same z r g db key [] e = refl
removed_same z r g db key (l ∷ ls) e = (λ i. removal_same z r g db key l e i || removed_same z r g db key ls e i)

-- so marks go on by any registers with the same lines
pub marks_same : (z r : Lines) (ls : List Label) (marks after : AllMarks) → z.line ≡ r.line → z.born ≡ r.born → MarksGoOn r ls marks after → MarksGoOn z ls marks after
marks_same z r ls marks after line born h g e db key = subst (λ (b : Bool). MarksStep b (marks g db key) (after g db key)) (sym (removed_same z r g db key ls line)) (h g (sym (ap (λ (f : ℕ → Bool). f g) born) ∙ e) db key)

-- ---- the step

-- what a step comes to: what its labels need of records, of databases and of rounds, and all that holds after it
pub record Stepped_whole (c : Config) (rules : Rules) (w : Cluster) (r t : Lines) (lives : Lives c rules w t) (o : Outcome) (log : List OpenCall) : Type 0 where
  pub choice : Choice
  pub records : AllNeed (RecordsNeed c rules choice) c choice r o.trace
  pub databases : AllNeed (DatabasesNeed c choice) c choice r o.trace
  pub rounds : AllNeed RoundsNeed c choice r o.trace
  pub lines : Lines
  pub then : Lives c rules o.cluster lines
  pub whole : Whole c rules o.cluster log (goes_on c choice o.trace r) lines then
  pub marks : MarksGoOn t o.trace (marks_in_all lives.ages) (marks_in_all then.ages)

module _ (c : Config) (rules : Rules) (w : Cluster) (log : List OpenCall) (r t : Lines) (lives : Lives c rules w t) (h : Whole c rules w log r t lives) (is : IsConfig c) (o : Outcome) (after : List OpenCall) (calls : Calls c o.cluster (by_log after))
    (acts : Acts c rules w o.cluster o.trace) (k : After c rules t lives.ages o) (kp : Keeps c w o.cluster r h.gone o.trace) (known : (then : Callers) × AllKnown c then o.cluster.calls o.cluster) (home : AllAtHome o.cluster) where
  does : Step_does c w o.cluster o.trace
  does = acts_do c rules w o.cluster o.trace (in_order c rules w log r t lives h is) acts

  later : GoesLater t k.lines
  later = labels_later c rules (record_labels c o.trace) t k.lines k.accepts

  ordered : IsOrdered c k.lines
  ordered = labels_ordered c rules (record_labels c o.trace) t k.lines k.accepts lives.formed h.ordered

  promise : (n : ℕ) → (node_at n w).promise ≤ (node_at n o.cluster).promise
  promise n = ⊎_elim
      (λ (e : n ≡ does.actor). subst (λ (j : ℕ). (node_at j w).promise ≤ (node_at j o.cluster).promise) (sym e) does.promise)
      (λ (ne : n ≢ does.actor). subst (λ (x : Node). (node_at n w).promise ≤ x.promise) (sym (does.others n ne)) (omega arith))
      (cases_eq n does.actor)

  some : SomeCounts c rules o.trace t k.lines
  some = one_parts c rules o.trace t k.lines does.rounds k.accepts

  abbrev x : Choice
  x = record { counts = some.0; kept = kp.kept; seen = kp.seen }

  hold : StepHolds c w o.cluster r h.gone o.trace x kp.more
  hold = kp.holds some.0

  parts : AllParts c rules x r o.trace k.lines
  parts = subst (λ (z : Lines). AllParts c rules x z o.trace k.lines) (sym h.like) (some.1 kp.kept kp.seen r.databases r.placing r.held (subst (λ (z : Lines). AllNeed (DatabasesNeed c x) c x z o.trace) h.like hold.needs))

  abbrev s : Lines
  s = goes_on c x o.trace r

  abbrev gone : Gone
  gone = gone_after t h.gone o.trace

  lost : (g : ℕ) (key : List ℕ) → gone g key ≡ true → Lost c o.cluster k.lines k.lives.ages g key
  lost = gone_lost c rules w o.cluster t k.lines lives k.lives later k.rest o.trace does h.gone h.lost promise

  new_locks : LockLaw c (nodes_of o.cluster) (bases s) gone (owners c s)
  new_locks = subst (λ (z : Lines). LockLaw c (nodes_of o.cluster) (bases z) gone (owners c z)) (sym parts.like) (lock_law c rules o.cluster k.lines k.lives ordered gone lost s.databases s.placing s.held)

  lock_step : LockStep h.gone gone (owners c r) (owners c s)
  lock_step = record {
    stays = λ g key e. ap (λ (b : Bool). b || list_any (ends_there t g key) o.trace) e;
    once = λ g db n m own new. owner_once c rules w o.cluster t k.lines lives k.lives does.actor does.others g n m (name_of c db)
        (subst (λ (z : Lines). lock_owner c g db z ≡ Some n) h.like own)
        (subst (λ (z : Lines). lock_owner c g db z ≡ Some m) parts.like new);
  }

  ends : LocksEnd c (bases r) (owners c r) gone o.trace
  ends = subst (λ (z : Lines). LocksEnd c (bases z) (owners c z) gone o.trace) (sym h.like) (locks_end c t h.gone o.trace r.databases r.placing r.held)

  senders : SendersThere c o.cluster
  senders f i = ⊎_elim (λ (was : In f (frames_in w)). h.senders f was) (λ (up : is_up f.sender w ≡ true). lives.up f.sender up) (does.sent f i)

  pub stepped : Stepped_whole c rules w r t lives o after
  stepped = record {
    choice = x;
    records = parts.records;
    databases = hold.needs;
    rounds = parts.rounds;
    lines = k.lines;
    then = k.lives;
    whole = record {
      like = parts.like;
      ordered = ordered;
      senders = senders;
      who = known.0;
      known = known.1;
      has = kp.more;
      gone = gone;
      stores = hold.holds gone new_locks lock_step ends promise;
      lost = lost;
      home = home;
      calls = calls;
    };
    marks = k.marks;
  }

-- whatever step comes
pub step_whole : (c : Config) (rules : Rules) (w : Cluster) (log : List OpenCall) (r t : Lines) (lives : Lives c rules w t) → Whole c rules w log r t lives → IsConfig c → (s : Step) (after : List OpenCall) → Calls c (outcome c rules w s).cluster (by_log after) →
    Stepped_whole c rules w r t lives (outcome c rules w s) after
step_whole c rules w log r t lives h is s after calls =
    let o = outcome c rules w s in
    let k = came c rules w s in
    stepped c rules w log r t lives h is o after calls (acts_came c rules w s o (there c rules w log r t lives h is) k) (step_lives (owed_turned all_owed) c rules w t lives s is) (keeps_came c rules w log r t lives h is s o k) (known_came c rules h.who w s o k h.known) (step_home c rules w s h.home)
