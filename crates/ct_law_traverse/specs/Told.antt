-- What is promised of every list of moves of a cluster and its traverses.
use Rattle.std.specs.Prelude.{◌≡◌, ℕ, ◌+◌, List, [], ◌∷◌, ◌++◌, Option, None, Some, slice_get}
use Rattle.std.specs.List.{AllByRecursion}
use Rattle.ct_values.specs.declared.client.Pair.{Pair}
use Rattle.ct_values.specs.declared.config.Config.{Config}
use Rattle.ct_call.specs.Rules.{Rules}
use Rattle.ct_rules_cluster.specs.Cluster.{Cluster, opening}
use Rattle.ct_rules_cluster.specs.Traces.{OpenCall, ran_one}
use Rattle.ct_register.specs.Words.{at}
use Rattle.ct_register.specs.Lines
use Rattle.ct_register.specs.Lines.{Lines}
use Rattle.ct_register.specs.Legal.{AcceptsLabels}
use Rattle.ct_register.specs.Stands.{StandsFor}
use Rattle.ct_promise.specs.Promises.{IsConfig, CallsStand}
use Rattle.ct_promise.specs.Marked.{AllMarks, no_marks, MarksHold, MarksGoOn}
use Rattle.ct_law_readings.specs.Readings.{VersionsGoOn}
use Rattle.ct_traverse_parts.specs.Posts.{numbered}
use Rattle.ct_traverse_parts.specs.Walk.{Walk, no_walk, place_of}
use Rattle.ct_traverse_parts.specs.Moves.{Move, Stepped, Begin, Carry, Lose, Again, moved}
use Rattle.ct_traverse_parts.specs.declared.line.TLine.{TLine}
use Rattle.ct_traverse_parts.specs.declared.line.TLine.TheVariants as line
use Rattle.ct_traverse_parts.specs.declared.post.Post.{Post}
use Rattle.ct_traverse_parts.specs.declared.traverse.Traverse.{Traverse}
use Rattle.ct_law_traverse.specs.Snapshot.{IsSnapshot}

-- ---- which traverse a move answers

-- the traverse that stands at a place
unfoldable pub standing : Walk → Option ℕ → Option Traverse
standing walk None = None
standing walk (Some i) = slice_get walk.running i

-- the traverse of a message, where it goes on
unfoldable pub traverse_of : Walk → Option Post → Option Traverse
traverse_of walk None = None
traverse_of walk (Some p) = standing walk (place_of p.traverse walk)

-- the traverse of the message that a move brings
unfoldable pub brought : Move → Walk → Option Traverse
brought (Carry k) walk = traverse_of walk (numbered k walk.posts)
brought (Again k) walk = traverse_of walk (numbered k walk.posts)
brought m walk = None

-- ---- since when

-- The registers of all moments since each traverse began, by its number: a step brings those behind it, and the registers of
-- its begin are a traverse's first
unfoldable pub since_by : Move → Walk → Lines → (ℕ → List Lines) → ℕ → List Lines
since_by (Stepped s) walk r since k = since k ++ r ∷ []
since_by (Begin n db) walk r since k = at (walk.begun + 1) (r ∷ []) since k
since_by m walk r since k = since k

-- ---- what is told

-- an answer is that of a traverse, and what it shows was read since that began
unfoldable pub ShowsSnapshot : (ℕ → List Lines) → Option Traverse → List Pair → Type 0
ShowsSnapshot since None pairs = ⊥
ShowsSnapshot since (Some t) pairs = IsSnapshot (since t.number) t.generation t.db pairs

-- so it is of a line, if it is an answer
unfoldable pub TellsAnswer : (ℕ → List Lines) → Option Traverse → TLine → Type 0
TellsAnswer since t (line.Shown pairs) = ShowsSnapshot since t pairs
TellsAnswer since t x = Unit {0}

-- Step by step there are registers that accept what the step tells and that its cluster stands for, and marks that hold of them and go
-- on, and the versions of each record go on, as the law of readings has them; and each traverse that is answered shows what was read.
-- That a traverse is ever answered is not promised.
unfoldable pub TraversesRun : Config → Rules → Cluster → List OpenCall → Walk → Lines → AllMarks → (ℕ → List Lines) → List Move → Type 0
TraversesRun config rules w log walk r marks since [] = Unit {0}
TraversesRun config rules w log walk r marks since (Stepped s ∷ moves) = let run = ran_one config rules w log s in let x = moved config rules w log walk (Stepped s) in
    (t : Lines) × (after : AllMarks) × AcceptsLabels config rules r run.trace t × StandsFor config run.cluster t × CallsStand run.cluster run.log ×
    MarksHold run.cluster t after × MarksGoOn r run.trace marks after × VersionsGoOn r run.trace t ×
    TraversesRun config rules run.cluster run.log x.walk t after (since_by (Stepped s) walk t since) moves
TraversesRun config rules w log walk r marks since (m ∷ moves) = let x = moved config rules w log walk m in
    AllByRecursion (TellsAnswer since (brought m walk)) x.told × TraversesRun config rules w log x.walk r marks (since_by m walk r since) moves

-- so it is of every list of moves from the opening on, where nothing is marked and no traverse goes on
abbrev pub LawOfTraverses : Type 0
LawOfTraverses = (config : Config) (rules : Rules) (moves : List Move) → IsConfig config → TraversesRun config rules (opening config) [] no_walk (Lines.opening config) (λ g. no_marks) (λ k. []) moves
