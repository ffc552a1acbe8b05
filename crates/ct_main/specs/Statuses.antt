-- What the status says of each command, and that it is told.
use Rattle.std.specs.Prelude.{◌≡◌, ◌<◌, ◌⊎◌, ℕ, List, [], ◌++◌, length, Option, Some}
use Rattle.std.specs.Io.KnownBytes.{Appends, IsAtEnd}
use Rattle.ct_outside.specs.Causes.{Rose}
use Rattle.ct_call.specs.Rules.{Rules}
use Rattle.ct_journal.specs.declared.journal.Journal.{Journal}
use Rattle.ct_play.specs.Play.{pending_text_of, played}
use Rattle.ct_lcp2_lines.specs.Claims.{Places, placed_text}
use Rattle.ct_lcp2_lines.specs.Complete as placing
use Rattle.ct_lcp2_lines.specs.declared.placer.End.{End as PlacingEnd}
use Rattle.ct_soak.specs.Soaking.{soak_text}
use Rattle.ct_troupe_run.specs.Chains as chains
use Rattle.ct_troupe_run.specs.Chains.{RunsColumns, plans_of}
use Rattle.ct_troupe_run.specs.Running as running
use Rattle.ct_troupe_run.specs.Running.{HasRunCause, Runs}
use Rattle.ct_troupe_run.specs.declared.chains.CutWanted.{CutWanted}
use Rattle.ct_troupe_run.specs.declared.running.End.{End as ClusterEnd}
use Rattle.ct_troupe_run.specs.declared.running.Wanted.{Wanted}
use Rattle.ct_bus_exchange.specs.Handling.{Handling}
use Rattle.ct_bus_run.specs.Ends.{BusEnds, HasBusCause}
use Rattle.ct_bus_run.specs.Text.{bus_text}
use Rattle.ct_bus_run.specs.declared.generated.BusWanted.{BusWanted}
use Rattle.ct_bus_run.specs.declared.running.BusEnd.{BusEnd}
use Rattle.ct_main.specs.Claims.{HasEndCause, Plays, Reports, SoakEnds, bus_end, cluster_message, cluster_status, message, most_bytes, placed_end, status}
use Rattle.ct_main.specs.Complete.{IsGood}
use Rattle.ct_main.specs.declared.player.End.{End}

-- ---- play

-- The input is at its end, its last line is ended, none of its lines is refused, and out gained the text of all of them and then of the calls
-- that wait.
pub record IsPlayedWhole (rules : Rules) (input : List ℕ) (left before now : Option (List ℕ)) : Type 0 where
  pub at_end : IsAtEnd left
  pub good : IsGood rules input
  pub text : Appends before now ((played rules input).text ++ pending_text_of (played rules input))

-- What `play` ends with. The status is 0 only where the input was played whole and err gained nothing. Where neither a read nor a write
-- failed, it is 0 for a good input, and 2 for any other that is short enough, unless memory ran out.
abbrev pub PlayIsTold : Type 0
PlayIsTold = (rules : Rules) (e : End) (input : List ℕ) (left before now err_before err_now : Option (List ℕ)) (result in_before in_now out_before out_now faults_before faults_now : ℕ) →
    Plays rules e (Some input) left before now → HasEndCause e in_before in_now out_before out_now → Reports (message e) (status e) result err_before err_now faults_before faults_now →
    ((result ≡ 0) → IsPlayedWhole rules input left before now × Appends err_before err_now [])
    × (length input < most_bytes → ¬ (Rose in_before in_now) → ¬ (Rose out_before out_now) → ¬ (Rose faults_before faults_now) →
    (result ≡ 5) ⊎ (IsGood rules input × (result ≡ 0)) ⊎ ((¬ (IsGood rules input)) × (result ≡ 2)))

-- ---- lcp2

-- The input is at its end, its last line is ended, none of its lines is refused, and out gained the text of the placement.
pub record IsPlacedWhole (input : List ℕ) (left before now : Option (List ℕ)) : Type 0 where
  pub at_end : IsAtEnd left
  pub good : placing.IsGood input
  pub text : Appends before now (placed_text input)

-- What `lcp2` ends with. The status is 0 only where the input was read whole, its placement printed, and err gained nothing. Where neither a
-- read nor a write failed, it is 0 for a good input, and 2 for any other, unless memory ran out.
abbrev pub PlacementIsTold : Type 0
PlacementIsTold = (e : PlacingEnd) (input : List ℕ) (left before now err_before err_now : Option (List ℕ)) (result in_before in_now out_before out_now faults_before faults_now : ℕ) →
    Places e (Some input) left before now → HasEndCause (placed_end e) in_before in_now out_before out_now → Reports (message (placed_end e)) (status (placed_end e)) result err_before err_now faults_before faults_now →
    ((result ≡ 0) → IsPlacedWhole input left before now × Appends err_before err_now [])
    × (¬ (Rose in_before in_now) → ¬ (Rose out_before out_now) → ¬ (Rose faults_before faults_now) →
    (result ≡ 5) ⊎ (placing.IsGood input × (result ≡ 0)) ⊎ ((¬ (placing.IsGood input)) × (result ≡ 2)))

-- ---- soak

-- What `soak` ends with. The status is 0 only where out gained the line that counts the steps, and err nothing. Where no write failed, it is
-- 0, unless memory ran out.
abbrev pub SoakIsTold : Type 0
SoakIsTold = (rules : Rules) (seed steps : ℕ) (e : End) (before now err_before err_now : Option (List ℕ)) (result in_before in_now out_before out_now faults_before faults_now : ℕ) →
    SoakEnds rules (seed, steps) e before now → HasEndCause e in_before in_now out_before out_now → Reports (message e) (status e) result err_before err_now faults_before faults_now →
    ((result ≡ 0) → Appends before now (soak_text rules seed steps) × Appends err_before err_now [])
    × (¬ (Rose out_before out_now) → ¬ (Rose faults_before faults_now) → (result ≡ 5) ⊎ (result ≡ 0))

-- ---- cluster, loopback and chains

-- What `cluster` and `loopback` end with. The status is 0 only where out gained the text of a schedule of the troupe's journals, which are
-- those of the plan, and err nothing. Where neither the troupe nor a write failed, it is 0, unless memory ran out.
abbrev pub ClusterIsTold : Type 0
ClusterIsTold = (rules : Rules) (x : Wanted) (e : ClusterEnd) (js : List Journal) (before now err_before err_now : Option (List ℕ)) (result troupe_before troupe_now out_before out_now faults_before faults_now : ℕ) →
    Runs rules x e js before now → HasRunCause e troupe_before troupe_now out_before out_now → Reports (cluster_message e) (cluster_status e) result err_before err_now faults_before faults_now →
    ((result ≡ 0) → running.GainsAll rules x js before now × Appends err_before err_now [])
    × (¬ (Rose troupe_before troupe_now) → ¬ (Rose out_before out_now) → ¬ (Rose faults_before faults_now) → (result ≡ 5) ⊎ (result ≡ 0))

-- What `chains` ends with: the same, of the columns.
abbrev pub ChainsAreTold : Type 0
ChainsAreTold = (rules : Rules) (x : CutWanted) (e : ClusterEnd) (told : ℕ → List Journal) (before now err_before err_now : Option (List ℕ)) (result troupe_before troupe_now out_before out_now faults_before faults_now : ℕ) →
    RunsColumns rules x e told before now → HasRunCause e troupe_before troupe_now out_before out_now → Reports (cluster_message e) (cluster_status e) result err_before err_now faults_before faults_now →
    ((result ≡ 0) → chains.GainsAll rules x (plans_of x) told before now × Appends err_before err_now [])
    × (¬ (Rose troupe_before troupe_now) → ¬ (Rose out_before out_now) → ¬ (Rose faults_before faults_now) → (result ≡ 5) ⊎ (result ≡ 0))

-- ---- bus

-- What `bus` ends with. The status is 0 only where out gained the text of what the handlers make of the messages of the seed, an exchange was
-- counted, and err gained nothing. Where no write failed, it is 0, unless memory ran out.
abbrev pub BusIsTold : Type 0
BusIsTold = (hs : Handling) (x : BusWanted) (e : BusEnd) (before now err_before err_now : Option (List ℕ)) (result exchanges_before exchanges_now out_before out_now faults_before faults_now : ℕ) →
    BusEnds hs x e before now → HasBusCause e exchanges_before exchanges_now out_before out_now → Reports (message (bus_end e)) (status (bus_end e)) result err_before err_now faults_before faults_now →
    ((result ≡ 0) → Appends before now (bus_text hs x) × Rose exchanges_before exchanges_now × Appends err_before err_now [])
    × (¬ (Rose out_before out_now) → ¬ (Rose faults_before faults_now) → (result ≡ 5) ⊎ (result ≡ 0))
