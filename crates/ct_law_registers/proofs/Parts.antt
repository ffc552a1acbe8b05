-- How the registers go on after a label, once what is left open is chosen; and what a label needs of databases and of addresses.
use Rattle.std.proofs.Common.{◌≡◌, ◌≢◌, ℕ, ◌+◌, ◌≤◌, true, false, List, [], ◌∷◌, ◌++◌, length, Option, None, Some}
use Rattle.std.specs.Prelude.{if◌then◌else◌}
use Rattle.std.specs.List.{filter}
use Rattle.ct_values.specs.Client.{db_of, key_of}
use Rattle.ct_values.specs.declared.client.Answer.{Answer}
use Rattle.ct_values.specs.declared.client.Answer.TheVariants as answer
use Rattle.ct_values.specs.declared.client.ClientOp.{ClientOp}
use Rattle.ct_values.specs.declared.client.ClientOp.TheVariants as op
use Rattle.ct_values.specs.declared.client.Pair.{Pair}
use Rattle.ct_values.specs.declared.client.Why.TheVariants as why
use Rattle.ct_values.specs.declared.config.Config.{Config}
use Rattle.ct_values.specs.declared.config.DbKind.TheVariants.{Persistent}
use Rattle.ct_frame.specs.declared.event.Note.{Note}
use Rattle.ct_frame.specs.declared.event.Note.TheVariants as note
use Rattle.ct_frame.specs.declared.frame.Assigned.{Assigned}
use Rattle.ct_rules_cluster.specs.Labels.{Label, Answered, Unasked, Begun, Noted, Ticket, Yielded, Stopped, Started, Pushed, Takeover, Taken}
use Rattle.ct_rules_node.specs.Node.{is_among, is_persistent, kind_at}
use Rattle.ct_register.specs.Words.{at}
use Rattle.ct_register.specs.Register.{Register, owned_by, seen_by, with_version, released, emptied}
use Rattle.ct_register.specs.Database.{Database, IsOpen, AreMissing, all_seen, value_after}
use Rattle.ct_register.specs.Placing as placing
use Rattle.ct_register.specs.Placing.{Placing, IsPushedAlike, given_placement, take_list, IsAssigned}
use Rattle.ct_register.specs.Lines.{Lines, with_placing, with_address, ticketed, joined, stopped}
use Rattle.ct_register.specs.Births.{born_of}
use Rattle.ct_register.specs.Legal.{AllHave, MayRefuse, lock_owner}
use Rattle.ct_register.proofs.Ways.{at_record, at_database}
use Rattle.ct_law_registers.specs.Locks.{KeepsCommits}

-- what one step leaves open: what a birth takes over of records and of databases, and how many commits a read has seen
pub record Choice : Type 0 where
  pub counts : ℕ → List ℕ → ℕ
  pub kept : ℕ → ℕ
  pub seen : ℕ

-- ---- how the registers go on

unfoldable pub register_goes : ℕ → ClientOp → Answer → Register → Register
register_goes n (op.Lock db key) (answer.Locked v) t = owned_by n t
register_goes n (op.Read db key) (answer.Read v) t = seen_by n t
register_goes n (op.Write db key v) answer.Written t = with_version n v t
register_goes n (op.Store db key v) answer.Stored t = with_version n v t
register_goes n (op.Unlock db key) answer.Unlocked t = released t
register_goes n (op.Apply db key function arg) (answer.Applied v) t = with_version n v t
register_goes n asked given t = t

unfoldable pub database_goes : Choice → List ℕ → ℕ → ClientOp → Answer → Database → Database
database_goes x members n asked (answer.Committed number) d = record d { committer = None; acked = length d.commits; seen = all_seen (length d.commits) members [] d.seen }
database_goes x members n asked (answer.Unsure number missing) d = record d { committer = None; seen = all_seen (length d.commits) members missing d.seen }
database_goes x members n asked (answer.Read v) d = record d { seen = at n x.seen d.seen }
database_goes x members n asked given d = d

unfoldable pub answer_goes : Config → Choice → ℕ → ClientOp → Answer → Lines → Lines
answer_goes config x n asked (answer.Refused (why.TooLong m)) r = at_record n (db_of asked) (key_of asked) (λ t. t) r
answer_goes config x n asked (answer.Refused w) r = r
answer_goes config x n asked given r =
    if is_persistent (kind_at config (db_of asked)) then at_database n (db_of asked) (database_goes x (r.members (r.line n)) n asked given) r
    else at_record n (db_of asked) (key_of asked) (register_goes n asked given) r

unfoldable pub note_goes : Choice → ℕ → Note → Lines → Lines
note_goes x n (note.Vacuumed db key) r = at_record n db key emptied r
note_goes x n (note.Ended db key) r = at_record n db key released r
note_goes x n (note.Round g members p q) r = born_of g p x.counts q x.kept r
note_goes x n (note.Installed g) r = joined g n r
note_goes x n (note.Thawed g) r = r
note_goes x n (note.Released a) r = with_address n a false r
note_goes x n (note.Took a) r = with_address n a true r

abbrev pub begun_in : ℕ → List Pair → Database → Database
begun_in n writes d = record d { commits = d.commits ++ writes ∷ []; committer = Some n; seen = at n (length (d.commits ++ writes ∷ [])) d.seen }

unfoldable pub run_of : Option (List Assigned) → List ℕ → List ℕ → Option placing.Run
run_of None able members = None
run_of (Some given) able members = Some (record { able = filter (λ n. is_among n members) able; given = given })

abbrev pub began : List ℕ → List ℕ → Placing → Placing
began members able p = record p { begun = p.begun + 1; runs = at (p.begun + 1) (run_of (given_placement p.pushed p.last) able members) p.runs }

unfoldable pub goes : Config → Choice → Label → Lines → Lines
goes config x (Answered n asked given) r = answer_goes config x n asked given r
goes config x (Unasked call given) r = r
goes config x (Begun n db writes) r = at_database n db (begun_in n writes) r
goes config x (Noted n noted) r = note_goes x n noted r
goes config x (Ticket g n members) r = ticketed g n members r
goes config x (Yielded n) r = record r { holder = None }
goes config x (Stopped n) r = stopped n r
goes config x (Started n) r = r
goes config x (Pushed g assigned) r = with_placing g (record (r.placing g) { pushed = Some assigned }) r
goes config x (Takeover n able) r = with_placing (r.line n) (began (r.members (r.line n)) able (r.placing (r.line n))) r
goes config x (Taken n g number assigned) r =
    with_placing (r.line n) (record (r.placing (r.line n)) { taken = at number (Some assigned) (r.placing (r.line n)).taken; last = Some assigned }) r

unfoldable pub goes_on : Config → Choice → List Label → Lines → Lines
goes_on config x [] r = r
goes_on config x (label ∷ labels) r = goes_on config x labels (goes config x label r)

-- ---- what a label needs of databases

abbrev pub OfDatabase : Config → ℕ → ℕ → (Database → Type 0) → Lines → Type 0
OfDatabase config n db Need r = (r.line n ≢ 0) × (kind_at config db ≡ Some Persistent) × Need (r.databases (r.line n) db)

abbrev pub CanRead : Choice → ℕ → List ℕ → List ℕ → Database → Type 0
CanRead x n key v d = (d.acked ≤ x.seen) × (d.seen n ≤ x.seen) × (x.seen ≤ length d.commits) × (v ≡ value_after x.seen key d)

pub record CanKeep (r : Lines) (members : List ℕ) (q : ℕ) (kept : ℕ → ℕ) : Type 0 where
  pub within : (db : ℕ) → kept db ≤ length (r.databases q db).commits
  pub acked : (db : ℕ) → (r.databases q db).acked ≤ kept db
  pub seen : (db m : ℕ) → is_among m members ≡ true → r.pline m ≡ q → (r.databases q db).seen m ≤ kept db

-- No answer is one of a persistent database but to a commit or a read there, or a refusal that tells nothing. A commit that waits keeps its
-- lock, and another is refused for it.
unfoldable pub DatabasesNeed : Config → Choice → Lines → Label → Type 0
DatabasesNeed config x r (Answered n asked (answer.Refused (why.TooLong m))) = is_persistent (kind_at config (db_of asked)) ≡ false
DatabasesNeed config x r (Answered n asked (answer.Refused w)) = MayRefuse config n asked w r
DatabasesNeed config x r (Answered n (op.Unlock db key) answer.Unlocked) =
    (is_persistent (kind_at config db) ≡ false) × KeepsCommits config r (Answered n (op.Unlock db key) answer.Unlocked)
DatabasesNeed config x r (Answered n (op.Commit db writes) (answer.Committed number)) =
    (lock_owner config (r.line n) db r ≡ Some n) × OfDatabase config n db (IsOpen n writes number) r × AllHave (r.line n) db number r
DatabasesNeed config x r (Answered n (op.Commit db writes) (answer.Unsure number missing)) =
    (lock_owner config (r.line n) db r ≡ Some n) × OfDatabase config n db (IsOpen n writes number) r × AreMissing (r.members (r.line n)) n missing
DatabasesNeed config x r (Answered n (op.Read db key) (answer.Read v)) =
    is_persistent (kind_at config db) ≡ true → OfDatabase config n db (CanRead x n key v) r
DatabasesNeed config x r (Answered n asked given) = is_persistent (kind_at config (db_of asked)) ≡ false
DatabasesNeed config x r (Begun n db writes) =
    OfDatabase config n db (λ d. d.acked ≡ length d.commits) r × (lock_owner config (r.line n) db r ≡ Some n)
DatabasesNeed config x r (Noted h (note.Round g members p q)) = CanKeep r members q x.kept
DatabasesNeed config x r (Noted n (note.Ended db key)) = KeepsCommits config r (Noted n (note.Ended db key))
DatabasesNeed config x r label = Unit {0}

-- ---- what a label needs of addresses

unfoldable pub PlacesNeed : Config → Lines → Label → Type 0
PlacesNeed config r (Noted n (note.Took a)) = (r.line n ≢ 0) × ((m : ℕ) → m ≢ n → r.line m ≡ r.line n → r.held m a ≡ false) × IsAssigned a n (r.placing (r.line n))
PlacesNeed config r (Noted n (note.Released a)) = r.line n ≢ 0
PlacesNeed config r (Pushed g assigned) = (r.born g ≡ true) × IsPushedAlike assigned (r.placing g).pushed
PlacesNeed config r (Takeover n able) = (r.line n ≢ 0) × (given_placement (r.placing (r.line n)).pushed (r.placing (r.line n)).last ≢ None)
PlacesNeed config r (Taken n g number assigned) =
    (r.line n ≡ g) × (r.line n ≢ 0) × ((run : placing.Run) × ((r.placing (r.line n)).runs number ≡ Some run) × (assigned ≡ take_list config.addresses run))
PlacesNeed config r label = Unit {0}

-- along all labels of a step
unfoldable pub AllNeed : (Lines → Label → Type 0) → Config → Choice → Lines → List Label → Type 0
AllNeed Need config x r [] = Unit {0}
AllNeed Need config x r (label ∷ labels) = Need r label × AllNeed Need config x (goes config x label r) labels

-- what a label needs of databases has that commits that wait keep their locks
pub commits_kept : (config : Config) (x : Choice) (r : Lines) (label : Label) → DatabasesNeed config x r label → KeepsCommits config r label
unfolding DatabasesNeed
commits_kept config x r (Answered n (op.Unlock db key) answer.Unlocked) h = h.1
commits_kept config x r (Noted n (note.Ended db key)) h = h
commits_kept config x r label h = tt
