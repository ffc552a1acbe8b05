-- What is promised of every run, phrase by phrase, each said of the cluster and of what its run told.
use Rattle.std.specs.Prelude.{◌≡◌, ◌≢◌, ◌⊎◌, ℕ, ◌+◌, ◌≤◌, nat_eq, nat_lt, true, if◌then◌else◌, List, [], ◌∷◌, ◌++◌, length, Option, None, Some}
use Rattle.ct_frame.specs.Header.{for_reading}
use Rattle.ct_frame.specs.declared.frame.Assigned.{Assigned}
use Rattle.ct_frame.specs.declared.header.RecCopy.{RecCopy}
use Rattle.ct_values.specs.declared.address.Address.{Address}
use Rattle.ct_values.specs.declared.client.Answer.{Answer}
use Rattle.ct_values.specs.declared.client.Answer.TheVariants as answer
use Rattle.ct_values.specs.declared.client.ClientOp.{ClientOp}
use Rattle.ct_values.specs.declared.client.ClientOp.TheVariants as op
use Rattle.ct_values.specs.declared.client.Pair.{Pair}
use Rattle.ct_values.specs.declared.client.Why.{Why}
use Rattle.ct_values.specs.declared.client.Why.TheVariants as why
use Rattle.ct_values.specs.declared.config.Config.{Config}
use Rattle.ct_values.specs.declared.config.DbKind.TheVariants.{Persistent}
use Rattle.ct_call.specs.Rules.{Rules}
use Rattle.ct_store.specs.Map.{Pairs}
use Rattle.ct_persist.specs.Persisted.{Persisted}
use Rattle.ct_persist.specs.Updates.{contents}
use Rattle.ct_rules_node.specs.Clients.{is_locked}
use Rattle.ct_rules_node.specs.Node.{db_at, holder_in, kind_at}
use Rattle.ct_rules_cluster.specs.Cluster.{Cluster, opening, is_up, node_at}
use Rattle.ct_rules_cluster.specs.Labels.{Label, Answered, Begun, Pushed, Taken}
use Rattle.ct_rules_cluster.specs.Traces.{Ran, ran}
use Rattle.ct_rules_cluster.specs.declared.step.Step.{Step}
use Rattle.ct_register.specs.Database.{Database, contents_after, value_after}
use Rattle.ct_register.specs.Legal.{Legal, CommitWaits, AcceptsAnswer, lock_owner}
use Rattle.ct_register.specs.Lines.{Lines}
use Rattle.ct_register.specs.Placing as placing
use Rattle.ct_register.specs.Register.{reading}
use Rattle.ct_register.specs.Stands.{HasCopy, HoldsAddress}
use Rattle.ct_promise.specs.Promises.{IsConfig}
use Rattle.ct_law_registers.specs.Locks.{KeepsCommits}

-- it is so after every list of steps from the opening on, of every configuration and with all rules
abbrev pub AfterEveryRun : (Config → Rules → Ran → Type 0) → Type 0
AfterEveryRun Holds = (config : Config) (rules : Rules) (steps : List Step) → IsConfig config → Holds config rules (ran config rules (opening config) [] steps)

-- ---- one lock owner

-- no two running nodes of one generation have locked the same record
abbrev pub LocksOnce : Cluster → Type 0
LocksOnce w = (n m db : ℕ) (key : List ℕ) → is_up n w ≡ true → is_up m w ≡ true → (node_at m w).generation ≡ (node_at n w).generation → is_locked db key (node_at n w) ≡ true → is_locked db key (node_at m w) ≡ true → m ≡ n

-- so it is after every run
abbrev pub OneLockOwner : Type 0
OneLockOwner = AfterEveryRun (λ config rules run. LocksOnce run.cluster)

-- ---- the newest version

-- the copy may be read at its node: it is the data master's own, or one for reading
abbrev pub IsReadable : ℕ → RecCopy → Type 0
IsReadable n c = (c.header.dmaster ≡ n) ⊎ (c.header.flags ≡ for_reading)

-- a copy that may be read at a running node has the newest version that its generation's register has of the record
abbrev pub HasNewest : Cluster → Lines → Type 0
HasNewest w r = (n db : ℕ) (key : List ℕ) (c : RecCopy) → is_up n w ≡ true → HasCopy w n db key c → IsReadable n c → c.value ≡ reading (r.records (node_at n w).generation db key).versions

-- after every run there are registers that accept all that it told, and whose newest versions these copies have
abbrev pub NewestVersion : Type 0
NewestVersion = AfterEveryRun (λ config rules run. (r : Lines) × Legal config rules run.trace r × HasNewest run.cluster r)

-- copies of a record that may be read at running nodes of one generation have one value
abbrev pub HasOneValue : Cluster → Type 0
HasOneValue w = (n m db : ℕ) (key : List ℕ) (c d : RecCopy) → is_up n w ≡ true → is_up m w ≡ true → (node_at m w).generation ≡ (node_at n w).generation →
    HasCopy w n db key c → IsReadable n c → HasCopy w m db key d → IsReadable m d → d.value ≡ c.value

-- so it is after every run
abbrev pub OneValue : Type 0
OneValue = AfterEveryRun (λ config rules run. HasOneValue run.cluster)

-- ---- persistent databases

-- A node, running or not, has a database of its generation as that began, which is what was taken over then, and after the first ones of one
-- list of commits: while there is none, as it began.
pub record HasFront (d : Database) (p : Persisted) : Type 0 where
  pub count : ℕ
  pub within : count ≤ length d.commits
  pub number : p.seq ≡ d.seq + count
  pub pairs : p.pairs ≡ contents_after count d
  pub begun : d.commits ≡ [] → (p.seq ≡ d.seq) × (p.pairs ≡ d.base)

-- each node has so each database of its generation
abbrev pub HaveFronts : Config → Cluster → Lines → Type 0
HaveFronts config w r = (n db : ℕ) → nat_lt n config.nodes ≡ true → kind_at config db ≡ Some Persistent → HasFront (r.databases (node_at n w).pbase db) (db_at db (node_at n w)).store

-- nodes, running or not, that have the persistent databases of one generation have the same pairs under the same number
abbrev pub PairsAgree : Config → Cluster → Type 0
PairsAgree config w = (n m db : ℕ) → nat_lt n config.nodes ≡ true → nat_lt m config.nodes ≡ true → kind_at config db ≡ Some Persistent → (node_at m w).pbase ≡ (node_at n w).pbase →
    (db_at db (node_at m w)).store.seq ≡ (db_at db (node_at n w)).store.seq → (db_at db (node_at m w)).store.pairs ≡ (db_at db (node_at n w)).store.pairs

-- after every run there are registers that accept all that it told, and of whose databases it is so
abbrev pub MembersAgree : Type 0
MembersAgree = AfterEveryRun (λ config rules run. PairsAgree config run.cluster × ((r : Lines) × Legal config rules run.trace r × HaveFronts config run.cluster r))

-- The database has this commit under its number, and then more: its pairs are those that were there before the commit, with its writes and
-- with those of the later commits, in their order.
pub record HasCommit (before : Pairs (List ℕ)) (number : ℕ) (writes : List Pair) (p : Persisted) : Type 0 where
  pub more : List (List Pair)
  pub seq : p.seq ≡ number + length more
  pub pairs : p.pairs ≡ contents (writes ∷ more) before

-- the line is g, or took over from it, step by step
abbrev pub IsOfLine : Lines → ℕ → ℕ → ℕ → Type 0
IsOfLine r g db l = (l ≡ g) ⊎ ((k : ℕ) × ((r.databases l db).from g ≡ Some k))

-- each node, running or not, whose persistent databases are of line g, or of one that took over from it, step by step, has the commit
abbrev pub AllHave : Config → Cluster → Lines → ℕ → ℕ → Pairs (List ℕ) → ℕ → List Pair → Type 0
AllHave config w r g db before number writes = (m : ℕ) → nat_lt m config.nodes ≡ true → IsOfLine r g db (node_at m w).pbase → HasCommit before number writes (db_at db (node_at m w)).store

-- The commit that the run told as acknowledged is acknowledged in the generation of its node; and at the end each node that has the persistent
-- databases of that generation, or of one that took over from it, step by step, has the commit, on what was there before it.
abbrev pub StaysAcknowledged : Config → Rules → Ran → Type 0
StaysAcknowledged config rules run = (before after : List Label) (n db number : ℕ) (writes : List Pair) → run.trace ≡ before ++ Answered n (op.Commit db writes) (answer.Committed number) ∷ after →
    (r s : Lines) × Legal config rules before r × (r.line n ≢ 0) × Legal config rules run.trace s × ((pairs : Pairs (List ℕ)) × AllHave config run.cluster s (r.line n) db pairs number writes)

-- so it is after every run
abbrev pub AcknowledgedStays : Type 0
AcknowledgedStays = AfterEveryRun StaysAcknowledged

-- A commit that the run told as begun began at the owner of the database's lock, once all commits before it in its generation were
-- acknowledged.
abbrev pub BeginsAlone : Config → Rules → Ran → Type 0
BeginsAlone config rules run = (before after : List Label) (n db : ℕ) (writes : List Pair) → run.trace ≡ before ++ Begun n db writes ∷ after →
    (r : Lines) × Legal config rules before r × (lock_owner config (r.line n) db r ≡ Some n) × ((r.databases (r.line n) db).acked ≡ length (r.databases (r.line n) db).commits)

-- so it is after every run
abbrev pub CommitsOneByOne : Type 0
CommitsOneByOne = AfterEveryRun BeginsAlone

-- Whatever the run told: registers that accept all before it know no commit of that node, begun and not answered, whose lock it gives up.
abbrev pub KeepsLocks : Config → Rules → Ran → Type 0
KeepsLocks config rules run = (before after : List Label) (label : Label) → run.trace ≡ before ++ label ∷ after → (r : Lines) × Legal config rules before r × KeepsCommits config r label

-- so it is after every run
abbrev pub CommitsKeepLocks : Type 0
CommitsKeepLocks = AfterEveryRun KeepsLocks

-- A commit that the run told as refused is none that began: registers that accept all before it know of no commit of that database that
-- waits at the node, or it was refused for the one that does.
abbrev pub RefusesOthers : Config → Rules → Ran → Type 0
RefusesOthers config rules run = (before after : List Label) (n db : ℕ) (writes : List Pair) (reason : Why) → run.trace ≡ before ++ Answered n (op.Commit db writes) (answer.Refused reason) ∷ after →
    (r : Lines) × Legal config rules before r × (CommitWaits config n db r → reason ≡ why.CommitPending)

-- so it is after every run
abbrev pub CommitsNotRefused : Type 0
CommitsNotRefused = AfterEveryRun RefusesOthers

-- A read of a persistent database that the run told has all commits of its generation that were acknowledged, and all that its node read
-- there before.
abbrev pub ReadsAcknowledged : Config → Rules → Ran → Type 0
ReadsAcknowledged config rules run = (before after : List Label) (n db : ℕ) (key value : List ℕ) → kind_at config db ≡ Some Persistent → run.trace ≡ before ++ Answered n (op.Read db key) (answer.Read value) ∷ after →
    (r : Lines) × Legal config rules before r × (count : ℕ) × ((r.databases (r.line n) db).acked ≤ count) × ((r.databases (r.line n) db).seen n ≤ count) × (value ≡ value_after count key (r.databases (r.line n) db))

-- so it is after every run
abbrev pub ReadsAreAcknowledged : Type 0
ReadsAreAcknowledged = AfterEveryRun ReadsAcknowledged

-- ---- answers

-- An answer that the run told is one to the operation that its client asked: registers that accept all before it accept it so.
abbrev pub AnswersFit : Config → Rules → Ran → Type 0
AnswersFit config rules run = (before after : List Label) (n : ℕ) (asked : ClientOp) (given : Answer) → run.trace ≡ before ++ Answered n asked given ∷ after →
    (r s : Lines) × Legal config rules before r × AcceptsAnswer config rules n asked given r s

-- so it is after every run
abbrev pub EachAnswerFits : Type 0
EachAnswerFits = AfterEveryRun AnswersFit

-- ---- addresses

-- A take that the run told is of a run that began in its line, and assigns what LCP2 makes of the placement that this began with, over all
-- configured addresses and the members that were able then.
abbrev pub TakesArePlaced : Config → Rules → Ran → Type 0
TakesArePlaced config rules run = (before after : List Label) (n g number : ℕ) (assigned : List Assigned) → run.trace ≡ before ++ Taken n g number assigned ∷ after →
    (r : Lines) × Legal config rules before r × (r.line n ≡ g) × ((began : placing.Run) × ((r.placing g).runs number ≡ Some began) × (assigned ≡ placing.take_list config.addresses began))

-- so it is after every run
abbrev pub EachTakeIsPlaced : Type 0
EachTakeIsPlaced = AfterEveryRun TakesArePlaced

-- what these labels tell last of a generation's addresses, where this was told before: its last take, or its push before any
unfoldable pub last_told : ℕ → Option (List Assigned) → Option (List Assigned) → List Label → Option (List Assigned)
last_told g pushed taken [] = placing.given_placement pushed taken
last_told g pushed taken (Pushed h xs ∷ labels) = if nat_eq h g then last_told g (Some xs) taken labels else last_told g pushed taken labels
last_told g pushed taken (Taken n h number xs ∷ labels) = if nat_eq h g then last_told g pushed (Some xs) labels else last_told g pushed taken labels
last_told g pushed taken (label ∷ labels) = last_told g pushed taken labels

-- a running node holds an address only where what was told last of its generation's addresses assigns it to the node
abbrev pub HoldsAsLastTold : Cluster → List Label → Type 0
HoldsAsLastTold w labels = (n : ℕ) (a : Address) → is_up n w ≡ true → HoldsAddress w n a → (xs : List Assigned) × (last_told (node_at n w).generation None None labels ≡ Some xs) × (holder_in a xs ≡ Some n)

-- so it is after every run
abbrev pub HeldAsLastTold : Type 0
HeldAsLastTold = AfterEveryRun (λ config rules run. HoldsAsLastTold run.cluster run.trace)
