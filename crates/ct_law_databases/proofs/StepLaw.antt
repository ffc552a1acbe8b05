-- The law of persistent databases: whatever step is taken, its labels need no more of them than what holds, and that holds after it.
use Rattle.std.proofs.Common.{◌≡◌, ℕ, ◌≤◌, List, sym, subst}
use Rattle.std.specs.Prelude.{Ok}
use Rattle.ct_values.specs.declared.config.Config.{Config}
use Rattle.ct_call.specs.Rules.{Rules}
use Rattle.ct_rules_cluster.specs.Cluster.{Cluster, node_at}
use Rattle.ct_rules_cluster.specs.Labels.{Label}
use Rattle.ct_rules_cluster.specs.Steps.{Stepped, applied}
use Rattle.ct_rules_cluster.specs.declared.step.Step.{Step}
use Rattle.ct_register.specs.Lines.{Lines}
use Rattle.ct_law_generation.specs.Waiting.{told_step}
use Rattle.ct_law_generation.proofs.Pending.{Callers}
use Rattle.ct_law_registers.proofs.Parts.{Choice, goes_on, DatabasesNeed, AllNeed}
use Rattle.ct_law_registers.proofs.Facts.{Has, Gone, bases, owners, MailStands, StoresHold}
use Rattle.ct_law_databases.proofs.Kept.{Kept}
use Rattle.ct_law_databases.proofs.Law.{LockLaw, LockStep, LocksEnd}
use Rattle.ct_law_databases.proofs.Settling.{settled_after, mail_after}
use Rattle.ct_law_databases.proofs.Steps.{ClusterBefore, nodes_of, frames_in, step_goes}

-- What a step from w to v that tells these labels keeps, with this choice: what they need holds; and where the locks of the registers
-- after it are as the law of records says, databases are as the law says, where nodes have so many commits.
pub record StepHolds (config : Config) (w v : Cluster) (r : Lines) (gone : Gone) (ls : List Label) (x : Choice) (more : Has) : Type 0 where
  pub needs : AllNeed (DatabasesNeed config x) config x r ls
  pub holds : (later : Gone) → LockLaw config (nodes_of v) (bases (goes_on config x ls r)) later (owners config (goes_on config x ls r)) → LockStep gone later (owners config r) (owners config (goes_on config x ls r)) → LocksEnd config (bases r) (owners config r) later ls → ((n : ℕ) → (node_at n w).promise ≤ (node_at n v).promise) →
      StoresHold config v (goes_on config x ls r) more later

-- for some choice of what a birth keeps of databases, and of what a read has seen, whatever a birth takes over of records
pub record Keeps (config : Config) (w v : Cluster) (r : Lines) (gone : Gone) (ls : List Label) : Type 0 where
  pub kept : ℕ → ℕ
  pub seen : ℕ
  pub more : Has
  pub holds : (counts : ℕ → List ℕ → ℕ) → StepHolds config w v r gone ls (record { counts = counts; kept = kept; seen = seen }) more

pub step_holds : (config : Config) (rules : Rules) (who : Callers) (w : Cluster) (r : Lines) (has : Has) (gone : Gone) (s : Step) (x : Stepped) → ClusterBefore config who w r has gone → applied config rules w s ≡ Ok x →
    Keeps config w x.cluster r gone (told_step w s x.lines)
step_holds config rules who w r has gone s x b ok =
    let g = step_goes config rules who w r has gone b s x ok in
    record {
      kept = g.goes.kept;
      seen = g.goes.seen;
      more = g.goes.more;
      holds = λ counts.
          let y : Choice = record { counts = counts; kept = g.goes.kept; seen = g.goes.seen } in
          let ls = told_step w s x.lines in
          let k : Kept config y (nodes_of w) (nodes_of x.cluster) r has g.goes.more ls g.fs = g.goes.goes counts in
          record {
            needs = k.needs;
            holds = λ later new step ends promise. record {
              holds = k.holds;
              settled = settled_after config y (nodes_of w) (nodes_of x.cluster) r has g.goes.more ls g.fs gone later k b.before.holds b.before.settled b.before.locked b.before.locks new step ends (frames_in w) b.before.rounds promise;
              mail = subst (MailStands config (bases (goes_on config y ls r)) g.goes.more) (sym g.sent) (mail_after config y (nodes_of w) (nodes_of x.cluster) r has g.goes.more ls g.fs gone later k (frames_in w) b.before.holds b.before.rounds b.before.mail);
            };
          };
    }
