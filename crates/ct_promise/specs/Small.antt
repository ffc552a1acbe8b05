-- A small cluster that began with rows, and its registers.
use Rattle.std.specs.Prelude.{ℕ, zero, suc, true, bytes_eq, if◌then◌else◌, List, [], ◌∷◌, length, Option, None, Some}
use Rattle.ct_values.specs.Config.{lock_db}
use Rattle.ct_values.specs.declared.client.ClientOp.TheVariants as op
use Rattle.ct_values.specs.declared.config.Config.{Config}
use Rattle.ct_values.specs.declared.config.DbKind.TheVariants.{Volatile}
use Rattle.ct_frame.specs.declared.frame.TableRow.{TableRow}
use Rattle.ct_rules_cluster.specs.Cluster.{Cluster, opening}
use Rattle.ct_rules_cluster.specs.Traces.{ran}
use Rattle.ct_rules_cluster.specs.declared.step.Step.{Step}
use Rattle.ct_rules_cluster.specs.declared.step.Step.TheVariants as step
use Rattle.ct_rules_node.specs.Node.{is_among}
use Rattle.ct_register.specs.Words.{at}
use Rattle.ct_register.specs.Register
use Rattle.ct_register.specs.Register.{Register}
use Rattle.ct_register.specs.Lines
use Rattle.ct_register.specs.Lines.{Lines}
use Rattle.ct_promise.specs.Promises.{IsConfig}
use Rattle.ct_promise.specs.Born.{Rows, IsBornWith, BornRegisters}

-- ---- two nodes: a value is written, a call waits, and both install a generation

-- the database of locks and the volatile one `t`
abbrev pub config : Config
config = record { nodes = 2; dbs = lock_db ∷ record { name = 116 ∷ []; kind = Volatile } ∷ []; addresses = [] }

abbrev pub both : List ℕ
both = 0 ∷ 1 ∷ []

-- a key, and a value
abbrev pub a : List ℕ
a = 97 ∷ []

abbrev pub x : List ℕ
x = 120 ∷ []

-- Node 1 writes, a lock of node 0 waits, and node 0 leads a round until both have installed it. The message of the lock is
-- never delivered, and those that tell of the installations are still on their way.
abbrev pub run : List Step
run =
    step.Client 1 (op.Write 1 a x) ∷
    step.Client 0 (op.Lock 1 a) ∷
    step.Recover 0 both ∷
    step.Deliver 2 ∷
    step.Deliver 3 ∷
    step.Deliver 4 ∷
    step.Deliver 5 ∷
    step.Deliver 6 ∷
    step.Deliver 7 ∷
    step.Deliver 8 ∷
    step.Deliver 9 ∷
    step.Deliver 10 ∷
    step.Deliver 11 ∷
    []

abbrev pub born : Cluster
born = (ran config [] (opening config) [] run).cluster

-- the row of `a` in `t`, whose data master is node 1
abbrev pub the_row : TableRow
the_row = record { db = 1; key = a; rsn = 0; value = x; master = Some 1 }

-- and no other one
unfoldable pub begun_with : Rows
begun_with zero key = None
begun_with (suc zero) key = if bytes_eq key a then Some the_row else None
begun_with (suc (suc db)) key = None

-- the versions that a record begins with: the row's value, where there is one
unfoldable pub versions_of : Option TableRow → List (List ℕ)
versions_of None = []
versions_of (Some row) = row.value ∷ []

-- a record with these versions, which both nodes have seen
abbrev pub seen_by_both : List (List ℕ) → Register
seen_by_both vs = record (Register.newborn vs) { seen = λ n. if is_among n both then length vs else 0 }

abbrev pub registers : Lines
registers = record (Lines.opening config) {
  records = at 2 (λ db key. seen_by_both (versions_of (begun_with db key))) (Lines.opening config).records;
  born = at 2 true (Lines.opening config).born;
  last = 2;
  members = at 2 both (Lines.opening config).members;
  holder = Some 0;
  line = λ n. if is_among n both then 2 else 0;
  pline = λ n. if is_among n both then 2 else 0;
  installed = at 2 (λ n. is_among n both) (Lines.opening config).installed;
}

-- so there are clusters and registers of which the promise from rows speaks
abbrev pub RowsAreThere : Type 0
RowsAreThere = IsConfig config × IsBornWith config 2 both begun_with born × BornRegisters config born 2 both begun_with registers
