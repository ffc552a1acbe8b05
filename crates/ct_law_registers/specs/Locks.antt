-- What a commit that waits asks of labels: it keeps its lock.
use Rattle.std.specs.Prelude.{◌≡◌, ◌≢◌, ℕ, List, Some}
use Rattle.ct_values.specs.declared.client.Answer.TheVariants as answer
use Rattle.ct_values.specs.declared.client.ClientOp.TheVariants as op
use Rattle.ct_values.specs.declared.config.Config.{Config}
use Rattle.ct_frame.specs.declared.event.Note.TheVariants as note
use Rattle.ct_rules_cluster.specs.Labels.{Label, Answered, Noted}
use Rattle.ct_rules_node.specs.Node.{name_of}
use Rattle.ct_register.specs.Database.{Database}
use Rattle.ct_register.specs.Lines.{Lines}

-- of these databases of node n's line, no commit of node n waits whose lock is this record
abbrev pub IsNoLock : Config → ℕ → ℕ → List ℕ → (ℕ → Database) → Type 0
IsNoLock config n db key databases = (i : ℕ) → db ≡ 0 → name_of config i ≡ key → (databases i).committer ≢ Some n

-- a lock that is given up is none under which a commit of its node waits
abbrev pub KeepsCommits : Config → Lines → Label → Type 0
KeepsCommits config r (Answered n (op.Unlock db key) answer.Unlocked) = r.line n ≢ 0 → IsNoLock config n db key (r.databases (r.line n))
KeepsCommits config r (Noted n (note.Ended db key)) = r.line n ≢ 0 → IsNoLock config n db key (r.databases (r.line n))
KeepsCommits config r label = Unit {0}
