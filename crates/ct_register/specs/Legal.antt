-- Which labels the registers accept, one after the other. Only what a birth takes over, and how many commits a read has
-- seen, is left open.
use Rattle.std.specs.Prelude.{◌≡◌, ◌≢◌, ◌⊎◌, ℕ, ◌+◌, ◌<◌, ◌≤◌, true, false, List, [], ◌∷◌, Option, None, Some}
use Rattle.ct_values.specs.declared.address.Address.{Address}
use Rattle.ct_values.specs.Client.{db_of, key_of}
use Rattle.ct_values.specs.declared.client.Answer.{Answer}
use Rattle.ct_values.specs.declared.client.Answer.TheVariants as answer
use Rattle.ct_values.specs.declared.client.ClientOp.{ClientOp}
use Rattle.ct_values.specs.declared.client.ClientOp.TheVariants as op
use Rattle.ct_values.specs.declared.client.Why.{Why}
use Rattle.ct_values.specs.declared.client.Why.TheVariants as why
use Rattle.ct_values.specs.declared.config.Config.{Config}
use Rattle.ct_values.specs.declared.config.DbKind.TheVariants.{Persistent}
use Rattle.ct_frame.specs.declared.event.Note.{Note}
use Rattle.ct_frame.specs.declared.event.Note.TheVariants as note
use Rattle.ct_call.specs.Rules.{Rules}
use Rattle.ct_rules_cluster.specs.Labels.{Label, Answered, Unasked, Begun, Noted, Ticket, Yielded, Stopped, Started, Pushed, Takeover, Taken}
use Rattle.ct_rules_cluster.specs.Handed.{is_among, has_records, kind_at, name_of}
use Rattle.ct_register.specs.Register
use Rattle.ct_register.specs.Register.{Register, OwnedByNoOther, AcceptsEnd, AcceptsVacuum}
use Rattle.ct_register.specs.Database
use Rattle.ct_register.specs.Database.{Database, AcceptsBegin, AcceptsCommit}
use Rattle.ct_register.specs.Placing.{Placing, AcceptsPush, AcceptsTakeover, AcceptsTake, IsAssigned}
use Rattle.ct_register.specs.Lines.{Lines, with_record, with_database, with_placing, with_address, ticketed, joined, stopped, opening}
use Rattle.ct_register.specs.Births.{Birth, PersistentBirth, born_of}

-- ---- databases

-- ---- what one register of a node's line does

-- the node is in a line, and a record of it does this step
abbrev pub AtRecord : Config → ℕ → ℕ → List ℕ → (Register → Register → Type 0) → Lines → Lines → Type 0
AtRecord config n db key Step r s =
    (r.line n ≢ 0) × (has_records (kind_at config db) ≡ true) ×
    (t : Register) × Step (r.records (r.line n) db key) t × (s ≡ with_record (r.line n) db key t r)

-- the node is in a line, and a persistent database of it does this step
abbrev pub AtDatabase : Config → ℕ → ℕ → (Database → Database → Type 0) → Lines → Lines → Type 0
AtDatabase config n db Step r s =
    (r.line n ≢ 0) × (kind_at config db ≡ Some Persistent) ×
    (d : Database) × Step (r.databases (r.line n) db) d × (s ≡ with_database (r.line n) db d r)

-- the node is in a line, and its placing does this step
abbrev pub AtPlacing : ℕ → (Placing → Placing → Type 0) → Lines → Lines → Type 0
AtPlacing n Step r s = (r.line n ≢ 0) × (p : Placing) × Step (r.placing (r.line n)) p × (s ≡ with_placing (r.line n) p r)

-- who owns the lock that a commit of this database needs: the record of its name in the database of locks, in a line
abbrev pub lock_owner : Config → ℕ → ℕ → Lines → Option ℕ
lock_owner config g db r = (r.records g 0 (name_of config db)).owner

-- ---- answers

-- Every member of line g has the commit of this number: it has installed line g, and where it has gone on to a line that took over from
-- line g, step by step, that has the commit. For no line that took over from line g lacks it, whether a node has installed it or not.
abbrev pub AllHave : ℕ → ℕ → ℕ → Lines → Type 0
AllHave g db number r = ((m : ℕ) → is_among m (r.members g) ≡ true → g ≤ r.pline m) × ((l k : ℕ) → (r.databases l db).from g ≡ Some k → number ≤ k)

-- A commit is told as acknowledged only where all members have it.
abbrev pub IfAllHave : ℕ → ℕ → Answer → Lines → Type 0
IfAllHave g db (answer.Committed number) r = AllHave g db number r
IfAllHave g db given r = Unit {0}

-- A commit of the database waits at node n: it began there, in the line that the node is in, and is not answered.
abbrev pub CommitWaits : Config → ℕ → ℕ → Lines → Type 0
CommitWaits config n db r = (r.line n ≢ 0) × (kind_at config db ≡ Some Persistent) × ((r.databases (r.line n) db).committer ≡ Some n)

-- While a commit of a database waits at a node, no commit of that database is refused there but for this: so a commit that began is never
-- refused because of what befell its node.
abbrev pub MayRefuse : Config → ℕ → ClientOp → Why → Lines → Type 0
MayRefuse config n (op.Commit db writes) w r = CommitWaits config n db r → w ≡ why.CommitPending
MayRefuse config n asked w r = Unit {0}

-- A client's request at node n is answered so. A refusal changes nothing, and needs something only where it is that of a value that is too
-- long, or of a commit while one waits. A commit is of a persistent database and is answered at the owner of its lock, a read is of either
-- kind, and all others are of records.
abbrev pub AcceptsAnswer : Config → Rules → ℕ → ClientOp → Answer → Lines → Lines → Type 0
AcceptsAnswer config rules n asked (answer.Refused (why.TooLong m)) r s =
    AtRecord config n (db_of asked) (key_of asked) (Register.Accepts rules n asked (answer.Refused (why.TooLong m))) r s
AcceptsAnswer config rules n asked (answer.Refused w) r s = MayRefuse config n asked w r × (s ≡ r)
AcceptsAnswer config rules n (op.Commit db writes) given r s =
    (lock_owner config (r.line n) db r ≡ Some n) × IfAllHave (r.line n) db given r × AtDatabase config n db (AcceptsCommit (r.members (r.line n)) n writes given) r s
AcceptsAnswer config rules n (op.Read db key) (answer.Read v) r s =
    AtRecord config n db key (Register.Accepts rules n (op.Read db key) (answer.Read v)) r s ⊎ AtDatabase config n db (Database.AcceptsRead n key v) r s
AcceptsAnswer config rules n asked given r s = AtRecord config n (db_of asked) (key_of asked) (Register.Accepts rules n asked given) r s

-- ---- rounds

-- a line is born at the last reply of its round
abbrev pub AcceptsRound : ℕ → ℕ → List ℕ → ℕ → ℕ → Lines → Lines → Type 0
AcceptsRound h g members p q r s =
    (counts : ℕ → List ℕ → ℕ) × (kept : ℕ → ℕ) × Birth r g h members p counts × PersistentBirth r g members q kept ×
    (s ≡ born_of g p counts q kept r)

-- a member installs a line that was born, newer than all that it had, and owns nothing
abbrev pub AcceptsInstalled : ℕ → ℕ → Lines → Lines → Type 0
AcceptsInstalled g n r s =
    (r.born g ≡ true) × (is_among n (r.members g) ≡ true) × (r.pline n < g) ×
    ((l db : ℕ) (key : List ℕ) → (r.records l db key).owner ≢ Some n) × (s ≡ joined g n r)

-- a node serves in its line, which every member has installed
abbrev pub AcceptsThawed : ℕ → ℕ → Lines → Lines → Type 0
AcceptsThawed g n r s = (r.line n ≢ 0) × (r.line n ≡ g) × ((m : ℕ) → is_among m (r.members g) ≡ true → r.installed g m ≡ true) × (s ≡ r)

-- ---- addresses

-- a node gives an address up
abbrev pub AcceptsReleased : Address → ℕ → Lines → Lines → Type 0
AcceptsReleased a n r s = (r.line n ≢ 0) × (s ≡ with_address n a false r)

-- a node takes an address that a take of its line assigns to it, and that no other node of its line holds
abbrev pub AcceptsTook : Address → ℕ → Lines → Lines → Type 0
AcceptsTook a n r s =
    (r.line n ≢ 0) × ((m : ℕ) → m ≢ n → r.line m ≡ r.line n → r.held m a ≡ false) × IsAssigned a n (r.placing (r.line n)) × (s ≡ with_address n a true r)

-- ---- all labels

-- a node noted this: the registers accept it and go on as the last ones
abbrev pub AcceptsNote : Config → ℕ → Note → Lines → Lines → Type 0
AcceptsNote config n (note.Vacuumed db key) r s = AtRecord config n db key AcceptsVacuum r s
AcceptsNote config n (note.Ended db key) r s = AtRecord config n db key (AcceptsEnd n) r s
AcceptsNote config n (note.Round g members p q) r s = AcceptsRound n g members p q r s
AcceptsNote config n (note.Installed g) r s = AcceptsInstalled g n r s
AcceptsNote config n (note.Thawed g) r s = AcceptsThawed g n r s
AcceptsNote config n (note.Released a) r s = AcceptsReleased a n r s
AcceptsNote config n (note.Took a) r s = AcceptsTook a n r s

-- The registers accept the label and go on as the last ones. No answer is accepted to a call that is not open. Tickets are
-- counted, each is given to who holds the recovery lock then, and only the holder yields it. A push needs that its line was
-- born, and assigns as every push of it did; a take is of its sender's line.
abbrev pub AcceptsLabel : Config → Rules → Lines → Label → Lines → Type 0
AcceptsLabel config rules r (Answered n asked given) s = AcceptsAnswer config rules n asked given r s
AcceptsLabel config rules r (Unasked call given) s = ⊥
AcceptsLabel config rules r (Begun n db writes) s = AtDatabase config n db (AcceptsBegin n writes (lock_owner config (r.line n) db r)) r s
AcceptsLabel config rules r (Noted n noted) s = AcceptsNote config n noted r s
AcceptsLabel config rules r (Ticket g n members) s = (g ≡ r.last + 1) × OwnedByNoOther n r.holder × (s ≡ ticketed g n members r)
AcceptsLabel config rules r (Yielded n) s = (r.holder ≡ Some n) × (s ≡ record r { holder = None })
AcceptsLabel config rules r (Stopped n) s = s ≡ stopped n r
AcceptsLabel config rules r (Started n) s = s ≡ r
AcceptsLabel config rules r (Pushed g assigned) s = (r.born g ≡ true) × (p : Placing) × AcceptsPush assigned (r.placing g) p × (s ≡ with_placing g p r)
AcceptsLabel config rules r (Takeover n able) s = AtPlacing n (AcceptsTakeover (r.members (r.line n)) able) r s
AcceptsLabel config rules r (Taken n g number assigned) s = (r.line n ≡ g) × AtPlacing n (AcceptsTake config.addresses number assigned) r s

-- all labels, one after the other
abbrev pub AcceptsLabels : Config → Rules → Lines → List Label → Lines → Type 0
AcceptsLabels config rules r [] s = s ≡ r
AcceptsLabels config rules r (label ∷ labels) s = (mid : Lines) × AcceptsLabel config rules r label mid × AcceptsLabels config rules mid labels s

-- a trace is legal: the registers accept its labels from the opening, and come to these
abbrev pub Legal : Config → Rules → List Label → Lines → Type 0
Legal config rules labels s = AcceptsLabels config rules (opening config) labels s
