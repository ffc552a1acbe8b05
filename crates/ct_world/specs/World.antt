-- The cluster in code.
use Rattle.std.specs.Prelude.{◌≡◌, ℕ, true, List, map, length, Result, Ok, Err, Some, slice_get}
use Rattle.ct_values.specs.declared.config.Config.{Config}
use Rattle.ct_rules_cluster.specs.Cluster.{Cluster, World, everyone}
use Rattle.ct_rules_cluster.specs.Steps.{Stepped, is_counted}
use Rattle.ct_rules_cluster.specs.declared.step.Line.{Line}
use Rattle.ct_rules_cluster.specs.declared.step.StepFault.{StepFault}
use Rattle.ct_rules_cluster.specs.declared.step.StepFault.TheVariants.{NoMemory}
use Rattle.ct_law_form_cluster.specs.Form.{ClusterInForm}
use Rattle.ct_core.specs.Core.{Core}
use Rattle.ct_rules_node.specs.Node.{Node, opening}
use Rattle.ct_world.specs.declared.parts.Parts.{Parts}

-- the states of these nodes
abbrev pub states_of : List Core → List Node
states_of cores = map (λ x. x.node) cores

-- the cluster of these parts
abbrev pub cluster_of : Parts → Cluster
cluster_of p = record { nodes = states_of p.cores; running = p.running; able = p.able; sent = p.mail; holder = p.books.holder; ticket = p.books.ticket; calls = p.books.calls }

-- it, with its configuration
abbrev pub world_of : Parts → World
world_of p = record { config = p.config; cluster = cluster_of p }

-- the node of this number at the opening
abbrev pub opened : Config → ℕ → Core
opened c n = record { pnn = n; config = c; node = opening c (everyone c) }

-- ---- in form

-- each node has its number and the configuration of the cluster
abbrev pub AreSeated : Config → List Core → Type 0
AreSeated c cores = (n : ℕ) (x : Core) → slice_get cores n ≡ Some x → (x.pnn ≡ n) × (x.config ≡ c)

-- each node has its number
abbrev pub AreNumbered : List Core → Type 0
AreNumbered cores = (n : ℕ) (x : Core) → slice_get cores n ≡ Some x → x.pnn ≡ n

-- In form: the cluster is, each node is marked as running or not and as able or not, and no number reached 2^62
pub record WorldInForm (c : Config) (cores : List Core) (w : Cluster) : Type 0 where
  pub cluster : ClusterInForm c w
  pub seats : AreSeated c cores
  pub running : length w.running ≡ c.nodes
  pub able : length w.able ≡ c.nodes
  pub counted : is_counted w ≡ true

-- so it is of these parts
abbrev pub PartsInForm : Parts → Type 0
PartsInForm p = WorldInForm p.config p.cores (cluster_of p)

-- ---- steps

-- A step, by cases on the answer: the rule gives exactly the new cluster and the lines; or it refuses the step exactly so, or
-- memory was wanting, and then nothing is changed
abbrev pub Applies : {X : Type 0} → (X → List Line) → Result X StepFault → Result Stepped StepFault → World → World → Type 0
Applies lines (Ok x) rule old new = (rule ≡ Ok (record { cluster = new.cluster; lines = lines x })) × (new ≡ record old { cluster = new.cluster })
Applies lines (Err NoMemory) rule old new = new ≡ old
Applies lines (Err f) rule old new = (rule ≡ Err f) × (new ≡ old)
