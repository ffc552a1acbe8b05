-- What holds of all records of a cluster in a generation goes on through a step that is a schedule of the world of each.
use Rattle.std.proofs.Common.{◌≡◌, ℕ, ◌≤◌, Bool, true, false, List, [], None, refl, sym, ap, ◌∙◌, arith, subst}
use Rattle.std.specs.List.{list_all, AllByRecursion}
use Rattle.ct_values.specs.declared.config.Config.{Config}
use Rattle.ct_frame.specs.Fields.{is_node}
use Rattle.ct_call.specs.Rules.{Rules}
use Rattle.ct_rules_node.specs.Node.{master_of, state_at}
use Rattle.ct_rules_cluster.specs.Cluster.{Cluster, is_up, node_at}
use Rattle.ct_law_generation.specs.Waiting.{Outcome, outcome}
use Rattle.ct_rules_cluster.specs.declared.step.Step.{Step}
use Rattle.ct_register.specs.Register.{Register}
use Rattle.ct_register.specs.Lines.{Lines}
use Rattle.ct_register.specs.Legal.{AcceptsLabels}
use Rattle.ct_register.specs.Marks.{Marks, MarksStep}
use Rattle.ct_promise.specs.Generation.{record_labels}
use Rattle.ct_promise.specs.Marked.{LineMarks, MarksGoOnIn, is_removed}
use Rattle.ct_promise.specs.Kept.{RecordsHold}
use Rattle.ct_law_record.specs.Labels.{AcceptsAll}
use Rattle.ct_law_record.specs.Labels as law
use Rattle.ct_law_record.specs.World.{Scene, World, Event, trace, last}
use Rattle.ct_law_record.specs.Marked as law_marked
use Rattle.ct_law_record.proofs.Rule
use Rattle.ct_law_record.proofs.Invariant.{Ghost}
use Rattle.ct_law_record.proofs.Worlds.{WorldInv, nodes_at}
use Rattle.ct_law_record.proofs.Law
use Rattle.ct_law_record.proofs.MarkedRun.{Through, marks_of, marks_hold, unmarked, run_marks}
use Rattle.ct_law_generation.specs.Shown.{Era, scene, project, IsOfLine, Schedules}
use Rattle.ct_law_generation.proofs.Weave.{weave}
use Rattle.ct_law_generation.proofs.Hearing.{accepts_heard}
use Rattle.ct_law_generation.proofs.Holding.{Lined, SeenWithin, records_hold}
use Rattle.ct_law_generation.proofs.Removing.{removed_as_told, removed_in_records, removed_heard}
use Rattle.ct_law_generation.proofs.Clearing.{AllAscend, step_clears}

-- ---- one record

-- a world that is in order with its register holds with it and with the marks of its ghost
pub world_holds : (s : Scene) (w : World) (r : Register) (g : Ghost) → WorldInv s w r g → law_marked.Holds s w r (marks_of g)
world_holds s w r g h = record { stands = Law.stands s w r g h; kept = Law.kept_all s w r g h; parent = Law.parent w r (Law.kept_all s w r g h); marks = marks_hold s w r g h }

pub seen_within : (s : Scene) (w : World) (r : Register) (g : Ghost) → WorldInv s w r g → SeenWithin r
seen_within s w r g h = subst SeenWithin h.register (λ n. (let a = (h.nodes n).seen in let b = h.all.within (Rule.rank (nodes_at s w n).copy) in omega arith))

-- the marks of a record that is removed only with its entry make one step through a schedule
pub marks_step : (b : Bool) (m n : Marks) → Through b m n → (b ≡ true → (n.marks ≡ []) × (n.site ≡ None)) → MarksStep b m n
unfolding Through
marks_step true m n h none = (let k = none refl in (k.0, h.1, k.1))
marks_step false m n h none = h

-- ---- all records

abbrev pub Ghosts : Type 0
Ghosts = ℕ → List ℕ → Ghost

abbrev pub marks_of_all : Ghosts → LineMarks
marks_of_all ghosts db key = marks_of (ghosts db key)

-- the world of every record is in order with its register
abbrev pub Followed : Config → Era → Rules → Cluster → Lines → Ghosts → Type 0
Followed c era rules w r ghosts = (db : ℕ) (key : List ℕ) → WorldInv (scene c era rules db key) (project era.number db key w) (r.records era.number db key) (ghosts db key)

pub followed_hold : (c : Config) (era : Era) (rules : Rules) (w : Cluster) (r : Lines) (ghosts : Ghosts) → Lined era w r → Followed c era rules w r ghosts → RecordsHold era.number w r (marks_of_all ghosts)
followed_hold c era rules w r ghosts one f = records_hold c era rules w r (marks_of_all ghosts) one
    (λ db key. seen_within (scene c era rules db key) (project era.number db key w) (r.records era.number db key) (ghosts db key) (f db key))
    (λ db key. world_holds (scene c era rules db key) (project era.number db key w) (r.records era.number db key) (ghosts db key) (f db key))

-- ---- one step

-- the generation, followed from this cluster on
abbrev pub era_from : Era → Cluster → Era
era_from era w = record era { start = λ db key. project era.number db key w }

-- registers that accept what a step tells of records, and ghosts with which the worlds after it are in order; the marks go on
pub record Goes_to (c : Config) (era : Era) (rules : Rules) (r : Lines) (ghosts : Ghosts) (run : Outcome) : Type 0 where
  pub lines : Lines
  pub ghosts_after : Ghosts
  pub accepts : AcceptsLabels c rules r (record_labels c run.trace) lines
  pub rest : lines ≡ record r { records = lines.records }
  pub followed : Followed c era rules run.cluster lines ghosts_after
  pub marks : MarksGoOnIn era.number r run.trace (marks_of_all ghosts) (marks_of_all ghosts_after)

-- what is asked of a step: the nodes' records are in order, those that run know the members, and its labels are of the line
pub record May_go (c : Config) (era : Era) (rules : Rules) (w : Cluster) (r : Lines) (run : Outcome) : Type 0 where
  pub real : list_all is_node era.members ≡ true
  pub positive : 1 ≤ era.number
  pub order : AllAscend w
  pub knows : (n : ℕ) → is_up n w ≡ true → (node_at n w).members ≡ era.members
  pub line : AllByRecursion (IsOfLine c era.number r) (record_labels c run.trace)

pub step_goes : (c : Config) (era : Era) (rules : Rules) (w : Cluster) (r : Lines) (ghosts : Ghosts) (s : Step) (es : ℕ → List ℕ → List Event) → May_go c era rules w r (outcome c rules w s) → Followed c era rules w r ghosts →
    Schedules c (era_from era w) rules (outcome c rules w s).cluster (record_labels c (outcome c rules w s).trace) es → Goes_to c era rules r ghosts (outcome c rules w s)
step_goes c era rules w r ghosts s es may f sched =
    let run = outcome c rules w s in
    let told = record_labels c run.trace in
    let q = weave era.number c rules told r (λ db key. (went db key).0) may.positive may.line
    (λ db key. subst (λ (l : List law.Label). AcceptsAll rules (r.records era.number db key) l (went db key).0) (sched db key).1 (accepts_heard rules (trace (at db key) (now db key) (es db key)) (r.records era.number db key) (went db key).0 (went db key).2)) in
    record {
      lines = q.0;
      ghosts_after = λ db key. (went db key).1;
      accepts = q.1;
      rest = q.3;
      followed = λ db key. subst (λ (x : Register). WorldInv (at db key) (project era.number db key run.cluster) x (went db key).1) (sym (q.2 db key)) (arrived db key);
      marks = λ db key. subst (λ (b : Bool). MarksStep b (marks_of (ghosts db key)) (marks_of (went db key).1)) (sym (same db key))
          (marks_step (law_marked.is_removed (trace (at db key) (now db key) (es db key))) (marks_of (ghosts db key)) (marks_of (went db key).1) (went db key).4 (λ t. emptied db key (same db key ∙ t)));
    }
  where
    at : ℕ → List ℕ → Scene
    at db key = scene c era rules db key

    now : ℕ → List ℕ → World
    now db key = project era.number db key w

    went : (db : ℕ) (key : List ℕ) → (t : Register) × (g : Ghost) × AcceptsAll rules (r.records era.number db key) (trace (at db key) (now db key) (es db key)) t × WorldInv (at db key) (last (at db key) (now db key) (es db key)) t g ×
        Through (law_marked.is_removed (trace (at db key) (now db key) (es db key))) (marks_of (ghosts db key)) (marks_of g)
    went db key = run_marks (at db key) (es db key) (now db key) (r.records era.number db key) (ghosts db key) may.real (f db key)

    arrived : (db : ℕ) (key : List ℕ) → WorldInv (at db key) (project era.number db key (outcome c rules w s).cluster) (went db key).0 (went db key).1
    arrived db key = subst (λ (x : World). WorldInv (at db key) x (went db key).0 (went db key).1) (sched db key).0 (went db key).3

    same : (db : ℕ) (key : List ℕ) → is_removed r era.number db key (outcome c rules w s).trace ≡ law_marked.is_removed (trace (at db key) (now db key) (es db key))
    same db key = sym (removed_in_records c r era.number db key (outcome c rules w s).trace) ∙ removed_as_told c r era.number db key (record_labels c (outcome c rules w s).trace) may.line
        ∙ sym (ap law_marked.is_removed (sched db key).1) ∙ removed_heard (trace (at db key) (now db key) (es db key))

    emptied : (db : ℕ) (key : List ℕ) → is_removed r era.number db key (outcome c rules w s).trace ≡ true → ((marks_of (went db key).1).marks ≡ []) × ((marks_of (went db key).1).site ≡ None)
    emptied db key t =
        let k = step_clears c rules r era.number db key w s may.order t in
        let home : k.node ≡ master_of era.members key = k.master ∙ ap (λ (ms : List ℕ). master_of ms key) (may.knows k.node k.up) in
        unmarked (at db key) (project era.number db key (outcome c rules w s).cluster) (went db key).0 (went db key).1 (arrived db key) (subst (λ (m : ℕ). (state_at db key (node_at m (outcome c rules w s).cluster)).entry ≡ None) home k.entry)
