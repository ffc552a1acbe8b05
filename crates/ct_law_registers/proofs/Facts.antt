-- The facts of persistent databases that hold in every run: what the databases of nodes, waiting commits and messages stand for.
-- They are said of nodes, messages and registers apart, so that they may be said amid a step.
use Rattle.std.proofs.Common.{◌≡◌, ◌≢◌, ℕ, suc, ◌+◌, ◌<◌, ◌≤◌, Bool, true, false, List, [], length, map, Option, None, Some, ap, ⊎_elim, arith}
use Rattle.std.proofs.lemmas.Bool.{cases_Bool}
use Rattle.std.specs.Prelude.{◌⊎◌, nat_lt, slice_get, is_some}
use Rattle.std.specs.List.{list_all}
use Rattle.ct_values.specs.Words.{others}
use Rattle.ct_values.specs.declared.config.Config.{Config}
use Rattle.ct_frame.specs.declared.frame.Frame.{Frame}
use Rattle.ct_frame.specs.declared.frame.Msg.{Msg}
use Rattle.ct_frame.specs.declared.frame.Msg.TheVariants as msg
use Rattle.ct_frame.specs.declared.frame.PTable.{PTable}
use Rattle.ct_frame.specs.Fields.{ascends, ptable_before}
use Rattle.ct_merge.specs.Rule.{ptable_at, is_ptable_at}
use Rattle.ct_merge.proofs.Among.{In}
use Rattle.ct_persist.specs.Persisted.{Persisted, listed}
use Rattle.ct_rules_node.specs.Node.{Node, Committing, Lead, Installs, is_among, is_persistent, kind_at, name_of, db_at}
use Rattle.ct_rules_node.specs.Rounds.{store_from, push_of}
use Rattle.ct_rules_cluster.specs.Cluster.{Cluster, node_at}
use Rattle.ct_register.specs.Database.{Database, contents_after, newest}
use Rattle.ct_register.specs.Legal.{lock_owner}
use Rattle.ct_register.specs.Lines.{Lines}

-- how many commits of a database of a line each node has, or last had there: by line, node and database
abbrev pub Has : Type 0
Has = ℕ → ℕ → ℕ → ℕ

-- which lock records of a line nobody will own any more: by line and key
abbrev pub Gone : Type 0
Gone = ℕ → List ℕ → Bool

-- who owns the lock of each database: by line and database
abbrev pub Owners : Type 0
Owners = ℕ → ℕ → Option ℕ

-- what the registers say of persistent databases, and of the lines that they are in
pub record Bases : Type 0 where
  pub databases : ℕ → ℕ → Database
  pub members : ℕ → List ℕ
  pub line : ℕ → ℕ
  pub pline : ℕ → ℕ
  pub born : ℕ → Bool

abbrev pub bases : Lines → Bases
bases r = record { databases = r.databases; members = r.members; line = r.line; pline = r.pline; born = r.born }

abbrev pub owners : Config → Lines → Owners
owners config r g db = lock_owner config g db r

-- ---- one database of one line

-- the database after its first j commits
abbrev pub after : ℕ → Database → Persisted
after j d = record { seq = d.seq + j; pairs = contents_after j d }

-- no node has more commits than there are, nor are more acknowledged; each node has what it has seen, and each member what is
-- acknowledged
pub record Counted (members : List ℕ) (d : Database) (has : ℕ → ℕ) : Type 0 where
  pub within : (n : ℕ) → has n ≤ length d.commits
  pub known : d.acked ≤ length d.commits
  pub acked : (n : ℕ) → is_among n members ≡ true → d.acked ≤ has n
  pub seen : (n : ℕ) → d.seen n ≤ has n
  -- whose commit is not answered has it, and it is not acknowledged
  pub begun : (n : ℕ) → d.committer ≡ Some n → (d.acked < length d.commits) × (has n ≡ length d.commits)

-- A commit waits at node n: it is the newest, not acknowledged, others are missing, and each member that is not has all commits. That it is
-- under its lock at a node that is present, and whose call it is, is told of every waiting commit beside this.
pub record Waits (n : ℕ) (members : List ℕ) (d : Database) (has : ℕ → ℕ) (x : Committing) : Type 0 where
  pub begun : d.committer ≡ Some n
  pub newest : newest d.commits ≡ Some x.writes
  pub numbered : x.pending.seq ≡ d.seq + length d.commits
  pub unacknowledged : d.acked + 1 ≡ length d.commits
  pub some : x.pending.missing ≢ []
  pub ascend : ascends nat_lt x.pending.missing ≡ true
  pub others : list_all (λ m. is_among m (others n members)) x.pending.missing ≡ true
  pub given : (m : ℕ) → is_among m members ≡ true → is_among m x.pending.missing ≡ false → has m ≡ length d.commits

-- where a commit waits at the node, it is so
unfoldable pub MayWait : ℕ → List ℕ → Database → (ℕ → ℕ) → Option Committing → Type 0
MayWait n members d has None = Unit {0}
MayWait n members d has (Some x) = Waits n members d has x

-- the newest commit of the database waits at a node of the line
abbrev pub WaitsIn : (ℕ → Node) → (ℕ → ℕ) → ℕ → ℕ → Type 0
WaitsIn nodes line g db = (n : ℕ) × (line n ≡ g) × (x : Committing) × ((db_at db (nodes n)).commit ≡ Some x)

-- all commits are acknowledged, or the newest waits at a node of the line, or nobody will own the lock any more
abbrev pub Settles : Config → (ℕ → Node) → Bases → Gone → ℕ → ℕ → Type 0
Settles config nodes b gone g db =
    ((b.databases g db).acked ≡ length (b.databases g db).commits) ⊎ WaitsIn nodes b.line g db ⊎ (gone g (name_of config db) ≡ true)

-- ---- messages

-- the table of a database after its first j commits
abbrev pub table_after : ℕ → ℕ → Database → PTable
table_after db j d = record { db = db; seq = (after j d).seq; pairs = listed (after j d).pairs }

-- of its database these tables have this one, and no other
pub record IsTold (table : PTable) (ptables : List PTable) : Type 0 where
  pub found : ptable_at table.db ptables ≡ Some table
  pub only : (y : PTable) → In y ptables → is_ptable_at table.db y ≡ true → y ≡ table

-- what a message of generation g from node n stands for
unfoldable pub Stands : Config → Bases → Has → ℕ → ℕ → Msg → Type 0
Stands config b has g n (msg.PUpdate db seq writes) = (b.born g ≡ true) × (i : ℕ) × (seq ≡ (b.databases g db).seq + suc i) × (slice_get (b.databases g db).commits i ≡ Some writes)
Stands config b has g n (msg.PAck db seq) = (b.born g ≡ true) × (seq ≤ (b.databases g db).seq + has g n db)
Stands config b has g n (msg.PullReply vbase pbase table ptables addresses) =
    (b.born pbase ≡ true) × (ascends ptable_before ptables ≡ true) × ((db : ℕ) → is_persistent (kind_at config db) ≡ true → IsTold (table_after db (has pbase n db) (b.databases pbase db)) ptables)
Stands config b has g n (msg.Push members table ptables assigned) = (b.born g ≡ true) × ((db : ℕ) (p : Persisted) → is_persistent (kind_at config db) ≡ true →
    store_from db ptables p ≡ record { seq = (b.databases g db).seq; pairs = (b.databases g db).base })
Stands config b has g n _ = Unit {0}

-- what a node leads: a push that it will send again stands for the line that it began
unfoldable pub LeadStands : Config → Bases → Has → ℕ → Lead → Type 0
LeadStands config b has n (Installs g members missing body) = Stands config b has g n (push_of body)
LeadStands config b has n _ = Unit {0}

-- all these messages do
abbrev pub MailStands : Config → Bases → Has → List Frame → Type 0
MailStands config b has fs = (f : Frame) → In f fs → Stands config b has f.generation f.sender f.msg

-- ---- the whole

-- what holds of nodes and registers, amid a step too
pub record Holds (config : Config) (nodes : ℕ → Node) (b : Bases) (has : Has) : Type 0 where
  -- each node, running or not, has those of its persistent line after the commits that it has
  pub stores : (n db : ℕ) → is_persistent (kind_at config db) ≡ true → b.pline n ≢ 0 → (db_at db (nodes n)).store ≡ after (has (b.pline n) n db) (b.databases (b.pline n) db)
  -- of a line that a node has not installed it has none
  pub fresh : (g n db : ℕ) → b.pline n < g → has g n db ≡ 0
  pub unborn : (g db : ℕ) → b.born g ≡ false → (b.databases g db).commits ≡ []
  pub others : (g db : ℕ) → is_persistent (kind_at config db) ≡ false → (b.databases g db).commits ≡ []
  pub counted : (g db : ℕ) → Counted (b.members g) (b.databases g db) (λ n. has g n db)
  pub waits : (n db : ℕ) → MayWait n (b.members (b.line n)) (b.databases (b.line n) db) (λ m. has (b.line n) m db) (db_at db (nodes n)).commit
  pub leads : (n : ℕ) → LeadStands config b has n (nodes n).lead
  -- a commit that is not answered waits at its node, while that is in the line
  pub committing : (n db : ℕ) → b.line n ≢ 0 → (b.databases (b.line n) db).committer ≡ Some n → is_some (db_at db (nodes n)).commit ≡ true

-- Number k of a database of line g is what a member of it had, and has still, that promised a later generation: it gets no commit of line g
-- any more.
pub record Heir (nodes : ℕ → Node) (b : Bases) (has : Has) (g db k : ℕ) : Type 0 where
  pub node : ℕ
  pub born : b.born g ≡ true
  pub member : is_among node (b.members g) ≡ true
  pub later : g < (nodes node).promise
  pub number : k ≡ (b.databases g db).seq + has g node db

-- what holds of locks and of lines between steps: every database settles, the owner of its lock has all commits, and what a line took over
-- of another is what a member had of that
pub record Settled (config : Config) (nodes : ℕ → Node) (b : Bases) (has : Has) (gone : Gone) (owner : Owners) : Type 0 where
  pub settles : (g db : ℕ) → is_persistent (kind_at config db) ≡ true → Settles config nodes b gone g db
  pub owner_has : (g db n : ℕ) → is_persistent (kind_at config db) ≡ true → owner g db ≡ Some n → has g n db ≡ length (b.databases g db).commits
  pub heirs : (l g db k : ℕ) → is_persistent (kind_at config db) ≡ true → (b.databases l db).from g ≡ Some k → Heir nodes b has g db k

-- what holds of persistent databases in every run
pub record StoresHold (config : Config) (w : Cluster) (r : Lines) (has : Has) (gone : Gone) : Type 0 where
  pub holds : Holds config (λ n. node_at n w) (bases r) has
  pub settled : Settled config (λ n. node_at n w) (bases r) has gone (owners config r)
  pub mail : MailStands config (bases r) has (map (λ s. s.frame) w.sent)

-- a database with a commit that is not answered is a persistent one
pub committer_kind : (config : Config) (nodes : ℕ → Node) (b : Bases) (has : Has) → Holds config nodes b has → (g db n : ℕ) → (b.databases g db).committer ≡ Some n → is_persistent (kind_at config db) ≡ true
committer_kind config nodes b has h g db n is = ⊎_elim
    (λ (e : is_persistent (kind_at config db) ≡ true). e)
    (λ (e : is_persistent (kind_at config db) ≡ false). absurd (let none : length (b.databases g db).commits ≡ 0 = ap length (h.others g db e) in let k = ((h.counted g db).begun n is).0 in omega arith))
    (cases_Bool (is_persistent (kind_at config db)))
