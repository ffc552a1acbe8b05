-- What the law of persistent databases needs before a step, and what a step is to keep.
use Rattle.std.proofs.Common.{◌≡◌, ℕ, true, List, [], ◌++◌, Option, None, Some, refl, ap, ◌∙◌}
use Rattle.std.specs.Prelude.{◌↔◌, is_some, nat_eq}
use Rattle.std.specs.List.{AllByRecursion}
use Rattle.std.proofs.lemmas.Bool.{and_parts, eqb-true}
use Rattle.ct_values.specs.declared.config.Config.{Config}
use Rattle.ct_frame.specs.declared.frame.Frame.{Frame}
use Rattle.ct_rules_node.specs.Node.{Node, Committing, is_present, is_present_in, is_frozen_in, is_persistent, kind_at, db_at}
use Rattle.ct_rules_node.specs.Clients.{is_committing}
use Rattle.ct_rules_node.specs.Turn.{Turn}
use Rattle.ct_rules_cluster.specs.Labels.{Label}
use Rattle.ct_rules_cluster.specs.declared.step.PendingCall.{PendingCall}
use Rattle.ct_register.specs.Lines.{Lines}
use Rattle.ct_register.specs.Database.{Database}
use Rattle.ct_register.specs.Legal.{CommitWaits}
use Rattle.ct_register.specs.Words.{at}
use Rattle.ct_law_generation.specs.Shown.{labels_of}
use Rattle.ct_law_generation.proofs.Pending.{Callers, Fits}
use Rattle.ct_law_plain.proofs.Locked.{CommitLocked, waits_in, commit_locked, none_waits}
use Rattle.ct_law_plain.proofs.Whole.{not_present}
use Rattle.ct_law_registers.proofs.Facts.{Has, Gone, bases, owners, MailStands, MayWait, Holds, Settled}
use Rattle.ct_law_databases.proofs.Kept.{Calm, Kept, frame_list, calm_kept}
use Rattle.ct_law_databases.proofs.Law.{NamesDiffer, RoundsHold, LockLaw}
use Rattle.ct_law_databases.proofs.Quiet.{IsQuiet}
use Rattle.ct_law_databases.proofs.Settling.{AllLocked}
use Rattle.ct_law_databases.proofs.Update.{IsIn}
use Rattle.ct_law_databases.proofs.One.{is_kind}

-- what holds before a step: of databases, of rounds, and of locks
pub record Before (config : Config) (nodes : ℕ → Node) (fs : List Frame) (r : Lines) (has : Has) (gone : Gone) : Type 0 where
  pub holds : Holds config nodes (bases r) has
  pub settled : Settled config nodes (bases r) has gone (owners config r)
  pub mail : MailStands config (bases r) has fs
  pub rounds : RoundsHold config nodes fs (bases r)
  pub locks : LockLaw config nodes (bases r) gone (owners config r)
  pub locked : AllLocked config nodes
  pub names : NamesDiffer config

-- for some choice of what a birth keeps of databases and of how much a read has seen, a step is kept, whatever is taken over of records
pub record Goes (config : Config) (nodes then : ℕ → Node) (r : Lines) (has : Has) (ls : List Label) (fs : List Frame) : Type 0 where
  pub kept : ℕ → ℕ
  pub seen : ℕ
  pub more : Has
  pub goes : (counts : ℕ → List ℕ → ℕ) → Kept config (record { counts = counts; kept = kept; seen = seen }) nodes then r has more ls fs

-- a step that is calm goes
pub calm_goes : (config : Config) (who : Callers) (nodes : ℕ → Node) (r : Lines) (has : Has) (n : ℕ) (t u : Turn) (own : List Label) (pend : List PendingCall) → Holds config nodes (bases r) has → t.node ≡ nodes n → t.outs ≡ [] → AllByRecursion (IsQuiet config (bases r)) own → AllByRecursion (Fits who) pend → Calm config who (bases r) has n t u →
    Goes config nodes (at n u.node nodes) r has (own ++ labels_of n pend u.outs) (frame_list u.outs)
calm_goes config who nodes r has n t u own pend h node empty first fits calm =
    record { kept = λ db. 0; seen = 0; more = has; goes = λ counts. calm_kept config who _ nodes r has n t u own pend h node empty first fits calm }

-- ---- nodes

-- a node that is present is in a line, and a persistent database of it
pub is_in : (config : Config) (nodes : ℕ → Node) (fs : List Frame) (r : Lines) → RoundsHold config nodes fs (bases r) → (n db : ℕ) → is_present (nodes n).phase ≡ true → is_persistent (kind_at config db) ≡ true → IsIn config nodes r n db
is_in config nodes fs r h n db present kind =
    let there = h.there n present in
    let same = h.stays n there.line in
    record { kind = kind; present = present; there = there; installed = same; born = ap r.born same ∙ h.real n (λ z. there.line (same ∙ z)) }

-- where a commit waits, its database is one of a line that the node is in
pub waits_in_line : (config : Config) (nodes : ℕ → Node) (fs : List Frame) (r : Lines) → RoundsHold config nodes fs (bases r) → AllLocked config nodes → (n db : ℕ) (z : Committing) → (db_at db (nodes n)).commit ≡ Some z → IsIn config nodes r n db
unfolding is_committing
waits_in_line config nodes fs r h locked n db z e = (let l = commit_locked config (nodes n) db (locked n) (ap is_some e) in is_in config nodes fs r h n db l.1 l.0)

begun_there : (n : ℕ) (members : List ℕ) (d : Database) (has : ℕ → ℕ) (o : Option Committing) → MayWait n members d has o → is_some o ≡ true → d.committer ≡ Some n
unfolding MayWait
begun_there n members d has None w e = absurd (cc)
begun_there n members d has (Some z) w e = w.begun

-- a commit waits at a node exactly where the registers say that one began there, in its line, and is not answered
pub waits_exactly : (config : Config) (nodes : ℕ → Node) (fs : List Frame) (r : Lines) (has : Has) → RoundsHold config nodes fs (bases r) → AllLocked config nodes → Holds config nodes (bases r) has → (n db : ℕ) → (is_some (db_at db (nodes n)).commit ≡ true) ↔ CommitWaits config n db r
unfolding is_committing
waits_exactly config nodes fs r has rounds locked h n db = (
  (λ e.
      let l = commit_locked config (nodes n) db (locked n) e in
      ((rounds.there n l.1).line, is_kind (kind_at config db) l.0, begun_there n (r.members (r.line n)) (r.databases (r.line n) db) (λ m. has (r.line n) m db) (db_at db (nodes n)).commit (h.waits n db) e)),
  λ k. h.committing n db k.0 k.2,
)

pub present_in : (g : ℕ) (x : Node) → is_present_in g x ≡ true → (is_present x.phase ≡ true) × (x.generation ≡ g)
unfolding is_present_in
present_in g x e = (let p = and_parts (is_present x.phase) (nat_eq x.generation g) e in (p.0, eqb-true x.generation g p.1))

-- no commit waits at a node that is frozen
pub frozen_quiet : (config : Config) (x : Node) (g : ℕ) → CommitLocked config x → is_frozen_in g x.phase ≡ true → (db : ℕ) → (db_at db x).commit ≡ None
unfolding waits_in db_at
frozen_quiet config x g locked frozen db = by (db_at db x).commit refl (none_waits config x.phase x.dbs locked (not_present g x.phase frozen) db)
  where
    by : (o : Option Committing) → (db_at db x).commit ≡ o → (is_some (db_at db x).commit ≡ true → ⊥) → o ≡ None
    by None e none = refl
    by (Some z) e none = absurd (none (ap is_some e))
