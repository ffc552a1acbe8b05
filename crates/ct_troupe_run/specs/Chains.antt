-- What a cluster writes whose plan is cut into chains.
use Rattle.std.specs.Prelude.{◌≡◌, ◌≤◌, ◌⊎◌, ℕ, List, ◌++◌, codes, Option, Result, Ok, Err}
use Rattle.std.specs.Fmt.{decimal}
use Rattle.std.specs.Io.KnownBytes.{Appends}
use Rattle.ct_outside.specs.Causes.{AppendsPart}
use Rattle.ct_outside.specs.declared.fault.SinkFault.{SinkFault}
use Rattle.ct_call.specs.Rules.{Rules}
use Rattle.ct_script.specs.declared.plan.Plan.{Plan}
use Rattle.ct_journal.specs.declared.journal.Journal.{Journal}
use Rattle.ct_script.specs.Scripts.{cluster_plan}
use Rattle.ct_chain.specs.Cut.{cut}
use Rattle.ct_troupe_run.specs.declared.running.End.{End}
use Rattle.ct_troupe_run.specs.declared.running.End.TheVariants as end
use Rattle.ct_troupe_run.specs.Columns.{AreColumns, Column, all_counts, columns_text}
use Rattle.ct_troupe_run.specs.declared.chains.CutWanted.{CutWanted}
use Rattle.ct_troupe_run.specs.declared.columns.Counts.{Counts}

-- its numbers are in their range
pub record HasCutRange (x : CutWanted) : Type 0 where
  pub some_nodes : 1 ≤ x.nodes
  pub few_nodes : x.nodes ≤ 8
  pub some_chains : 1 ≤ x.chains
  pub few_chains : x.chains ≤ 8
  pub some_calls : 1 ≤ x.calls
  pub few_calls : x.calls ≤ 1000

-- Chains: the plans of the columns are those into which the plan of the seed is cut
abbrev pub plans_of : CutWanted → List Plan
plans_of x = cut (cluster_plan x.nodes x.calls x.seed) x.chains

-- the numbers of the command, but its seed, and how many entries and messages all columns have
abbrev pub chains_summary : CutWanted → Counts → List ℕ
chains_summary x counts =
    (codes "chains " ++ decimal x.nodes) ++ (codes " " ++ decimal x.chains) ++ (codes " " ++ decimal x.calls) ++ (codes " entries " ++ decimal counts.entries) ++ (codes " frames " ++ decimal counts.frames) ++ codes "\n"

-- Chains: the texts of the columns, and then the line that counts
abbrev pub chains_text : CutWanted → List Column → List ℕ
chains_text x xs = columns_text 0 xs ++ chains_summary x (all_counts xs)

-- out gained the text of what these plans' columns did
abbrev pub GainsAll : Rules → CutWanted → List Plan → (ℕ → List Journal) → Option (List ℕ) → Option (List ℕ) → Type 0
GainsAll rules x ps told before now = (xs : List Column) × AreColumns rules 0 ps told xs × Appends before now (chains_text x xs)

-- out gained a front of it
abbrev pub GainsPart : Rules → CutWanted → List Plan → (ℕ → List Journal) → Option (List ℕ) → Option (List ℕ) → Type 0
GainsPart rules x ps told before now = (xs : List Column) × AreColumns rules 0 ps told xs × AppendsPart before now (chains_text x xs)

-- how an end of the writes, and what out held before and holds now go together
abbrev pub WritesChains : Rules → CutWanted → List Plan → (ℕ → List Journal) → Result (Unit {0}) SinkFault → Option (List ℕ) → Option (List ℕ) → Type 0
WritesChains rules x ps told (Ok u) before now = GainsAll rules x ps told before now
WritesChains rules x ps told (Err f) before now = GainsPart rules x ps told before now

-- How an end, the journals that the columns then have, and what out held before and holds now go together. Without memory
-- either nothing was written, or a front of the text.
abbrev pub RunsColumns : Rules → CutWanted → End → (ℕ → List Journal) → Option (List ℕ) → Option (List ℕ) → Type 0
RunsColumns rules x end.Done told before now = GainsAll rules x (plans_of x) told before now
RunsColumns rules x end.LinkFault told before now = now ≡ before
RunsColumns rules x end.WriteFault told before now = GainsPart rules x (plans_of x) told before now
RunsColumns rules x end.NoMemory told before now = (now ≡ before) ⊎ GainsPart rules x (plans_of x) told before now
