-- Through every list of moves, what traverses show was read.
use Rattle.std.proofs.Common.{◌≡◌, ℕ, Bool, true, List, [], ◌∷◌, ◌++◌, refl}
use Rattle.ct_values.specs.declared.config.Config.{Config}
use Rattle.ct_call.specs.Rules.{Rules}
use Rattle.ct_store.specs.Map.{Ascends}
use Rattle.ct_rules_node.specs.Node.{db_at}
use Rattle.ct_rules_cluster.specs.Cluster.{Cluster, node_at, opening, World}
use Rattle.ct_rules_cluster.specs.Traces.{OpenCall, ran_one, idle}
use Rattle.ct_register.specs.Lines
use Rattle.ct_register.specs.Lines.{Lines}
use Rattle.ct_promise.specs.Promises.{IsConfig}
use Rattle.ct_promise.specs.Marked.{AllMarks, no_marks, MarksHold}
use Rattle.ct_promise.proofs.Opened.{opening_is_marked}
use Rattle.ct_law_rules_node.proofs.AtRecord.{at_ascends}
use Rattle.ct_law_generation.proofs.CallsOpen.{Calls}
use Rattle.ct_law_generation.proofs.CallsTold.{by_log}
use Rattle.ct_law_generation.proofs.CallsRun.{one_logs, opened_calls}
use Rattle.ct_law_readings.specs.Readings.{ReadingsRun}
use Rattle.ct_law_readings.proofs.Running.{law_of_readings}
use Rattle.ct_traverse_parts.specs.Walk.{Walk, no_walk, goes_on}
use Rattle.ct_traverse_parts.specs.Moves.{Move, Stepped, Begin, Carry, Lose, Again, stepped_by, steps_in, walked_by}
use Rattle.ct_law_traverse.specs.Told.{since_by, TraversesRun, LawOfTraverses}
use Rattle.ct_law_traverse.proofs.Members.{Counted, labels_stay, opening_counted}
use Rattle.ct_law_traverse.proofs.Sound.{Apart, WalkSound}
use Rattle.ct_law_traverse.proofs.Moving.{MoveSound, move_sound}
use Rattle.ct_law_traverse.proofs.Stepping.{step_sound}

-- each node has its records in order
in_order : (c : Config) (w : Cluster) (log : List OpenCall) → Calls c w (by_log log) → (n db : ℕ) → Ascends (db_at db (node_at n w)).records
unfolding db_at
in_order c w log calls n db = at_ascends (node_at n w).dbs db (calls.nodes n).order

traverses_run : (config : Config) (rules : Rules) (w : Cluster) (log : List OpenCall) (walk : Walk) (r : Lines) (marks : AllMarks) (since : ℕ → List Lines) (moves : List Move) →
    Calls config w (by_log log) → Counted r → MarksHold w r marks → WalkSound r marks since walk → ReadingsRun config rules w log r marks (steps_in moves) → TraversesRun config rules w log walk r marks since moves
unfolding TraversesRun MoveSound walked_by stepped_by since_by idle
traverses_run config rules w log walk r marks since [] calls counted hold sound p = tt
traverses_run config rules w log walk r marks since (Stepped s ∷ moves) calls counted hold sound p =
    let run = ran_one config rules w log s in
    let stays = labels_stay config rules run.trace r p.0 counted p.2 in (
      p.0,
      p.1,
      p.2,
      p.3,
      p.4,
      p.5,
      p.6,
      p.7,
      traverses_run config rules run.cluster run.log _ p.0 p.1 (λ k. since k ++ p.0 ∷ []) moves (one_logs config rules w log s calls).calls stays.counted p.5
          (step_sound r marks run.trace run.cluster p.0 p.1 stays p.6 p.7 p.5 since walk (goes_on (record { config = config; cluster = run.cluster })) sound) p.8,
    )
traverses_run config rules w log walk r marks since (Begin n db ∷ moves) calls counted hold sound p =
    let x = move_sound r marks since walk sound (record { config = config; cluster = w }) hold (in_order config w log calls) (Begin n db) in
    (x.0, traverses_run config rules w log _ r marks _ moves calls counted hold x.1 p)
traverses_run config rules w log walk r marks since (Carry k ∷ moves) calls counted hold sound p =
    let x = move_sound r marks since walk sound (record { config = config; cluster = w }) hold (in_order config w log calls) (Carry k) in
    (x.0, traverses_run config rules w log _ r marks _ moves calls counted hold x.1 p)
traverses_run config rules w log walk r marks since (Lose k ∷ moves) calls counted hold sound p =
    let x = move_sound r marks since walk sound (record { config = config; cluster = w }) hold (in_order config w log calls) (Lose k) in
    (x.0, traverses_run config rules w log _ r marks _ moves calls counted hold x.1 p)
traverses_run config rules w log walk r marks since (Again k ∷ moves) calls counted hold sound p =
    let x = move_sound r marks since walk sound (record { config = config; cluster = w }) hold (in_order config w log calls) (Again k) in
    (x.0, traverses_run config rules w log _ r marks _ moves calls counted hold x.1 p)

nothing_runs : (r : Lines) (marks : AllMarks) (since : ℕ → List Lines) → WalkSound r marks since no_walk
unfolding Apart
nothing_runs r marks since = record { running = tt; apart = tt; numbers = tt }

pub law_of_traverses : LawOfTraverses
law_of_traverses config rules moves is =
    traverses_run config rules (opening config) [] no_walk (Lines.opening config) (λ g. no_marks) (λ k. []) moves (opened_calls config) (opening_counted config) (opening_is_marked config) (nothing_runs (Lines.opening config) (λ g. no_marks) (λ k. []))
    (law_of_readings config rules (steps_in moves) is)
