-- The registers go on in one way, but for a birth and for a read of a persistent database.
use Rattle.std.proofs.Common.{◌≡◌, ℕ, Bool, true, false, List, [], ◌∷◌, sym, ap, ◌∙◌, ⊎_elim, subst}
use Rattle.std.specs.Prelude.{◌+◌, ◌++◌, ◌&&◌, not, length, filter, Option, None, Some}
use Rattle.std.proofs.lemmas.Bool.{and_parts, not-true}
use Rattle.ct_values.specs.Client.{db_of, key_of}
use Rattle.ct_values.specs.declared.client.Answer.{Answer}
use Rattle.ct_values.specs.declared.client.Answer.TheVariants as answer
use Rattle.ct_values.specs.declared.client.ClientOp.{ClientOp}
use Rattle.ct_values.specs.declared.client.ClientOp.TheVariants as op
use Rattle.ct_values.specs.declared.client.Pair.{Pair}
use Rattle.ct_values.specs.declared.client.Why.TheVariants as why
use Rattle.ct_values.specs.declared.config.Config.{Config}
use Rattle.ct_values.specs.declared.config.DbKind.TheVariants.{Persistent}
use Rattle.ct_frame.specs.declared.event.Note.{Note}
use Rattle.ct_frame.specs.declared.event.Note.TheVariants as note
use Rattle.ct_frame.specs.declared.frame.Assigned.{Assigned}
use Rattle.ct_call.specs.Rules.{Rules}
use Rattle.ct_rules_cluster.specs.Labels.{Label, Answered, Unasked, Begun, Noted, Ticket, Yielded, Stopped, Started, Pushed, Takeover, Taken}
use Rattle.ct_rules_cluster.specs.Handed.{is_among, is_persistent, kind_at}
use Rattle.ct_register.specs.Words
use Rattle.ct_register.specs.Register
use Rattle.ct_register.specs.Register.{Register}
use Rattle.ct_register.specs.Database
use Rattle.ct_register.specs.Database.{Database}
use Rattle.ct_register.specs.Placing
use Rattle.ct_register.specs.Placing.{Placing}
use Rattle.ct_register.specs.Lines
use Rattle.ct_register.specs.Lines.{Lines, with_record, with_database, with_placing}
use Rattle.ct_register.specs.Legal
use Rattle.ct_register.specs.Legal.{AtRecord, AtDatabase, AtPlacing}
use Rattle.ct_register.specs.Laws.{leaves_choice, GoOnInOneWay}

-- ---- the one way, as a function

abbrev pub register_after : ℕ → ClientOp → Answer → Register → Register
register_after n (op.Lock db key) (answer.Locked v) x = Register.owned_by n x
register_after n (op.Read db key) (answer.Read v) x = Register.seen_by n x
register_after n (op.Write db key v) answer.Written x = Register.with_version n v x
register_after n (op.Store db key v) answer.Stored x = Register.with_version n v x
register_after n (op.Unlock db key) answer.Unlocked x = Register.released x
register_after n (op.Apply db key function arg) (answer.Applied v) x = Register.with_version n v x
register_after n asked given x = x

abbrev pub database_after : List ℕ → Answer → Database → Database
database_after members (answer.Committed number) d = record d { committer = None; acked = length d.commits; seen = Database.all_seen (length d.commits) members [] d.seen }
database_after members (answer.Unsure number missing) d = record d { committer = None; seen = Database.all_seen (length d.commits) members missing d.seen }
database_after members given d = d

abbrev pub begun_after : ℕ → List Pair → Database → Database
begun_after n writes d = record d { commits = d.commits ++ writes ∷ []; committer = Some n; seen = Words.at n (length (d.commits ++ writes ∷ [])) d.seen }

abbrev pub or_none : Option (List Assigned) → List Assigned
or_none None = []
or_none (Some given) = given

abbrev pub takeover_after : List ℕ → List ℕ → Placing → Placing
takeover_after members able x = record x {
  begun = x.begun + 1;
  runs = Words.at (x.begun + 1) (Some (record { able = filter (λ n. is_among n members) able; given = or_none (Placing.given_placement x.pushed x.last) })) x.runs;
}

abbrev pub take_after : ℕ → List Assigned → Placing → Placing
take_after number assigned x = record x { taken = Words.at number (Some assigned) x.taken; last = Some assigned }

abbrev pub at_record : ℕ → ℕ → List ℕ → (Register → Register) → Lines → Lines
at_record n db key f r = with_record (r.line n) db key (f (r.records (r.line n) db key)) r

abbrev pub at_database : ℕ → ℕ → (Database → Database) → Lines → Lines
at_database n db f r = with_database (r.line n) db (f (r.databases (r.line n) db)) r

abbrev pub at_placing : ℕ → (Placing → Placing) → Lines → Lines
at_placing n f r = with_placing (r.line n) (f (r.placing (r.line n))) r

abbrev pub answer_after : ℕ → ClientOp → Answer → Lines → Lines
answer_after n asked (answer.Refused (why.TooLong m)) r =
    at_record n (db_of asked) (key_of asked) (register_after n asked (answer.Refused (why.TooLong m))) r
answer_after n asked (answer.Refused w) r = r
answer_after n (op.Commit db writes) given r = at_database n db (database_after (r.members (r.line n)) given) r
answer_after n asked given r = at_record n (db_of asked) (key_of asked) (register_after n asked given) r

abbrev pub note_after : ℕ → Note → Lines → Lines
note_after n (note.Vacuumed db key) r = at_record n db key Register.emptied r
note_after n (note.Ended db key) r = at_record n db key Register.released r
note_after n (note.Round g members p q) r = r
note_after n (note.Installed g) r = Lines.joined g n r
note_after n (note.Thawed g) r = r
note_after n (note.Released a) r = Lines.with_address n a false r
note_after n (note.Took a) r = Lines.with_address n a true r

abbrev pub label_after : Label → Lines → Lines
label_after (Answered n asked given) r = answer_after n asked given r
label_after (Unasked call given) r = r
label_after (Begun n db writes) r = at_database n db (begun_after n writes) r
label_after (Noted n noted) r = note_after n noted r
label_after (Ticket g n members) r = Lines.ticketed g n members r
label_after (Yielded n) r = record r { holder = None }
label_after (Stopped n) r = Lines.stopped n r
label_after (Started n) r = r
label_after (Pushed g assigned) r = with_placing g (record (r.placing g) { pushed = Some assigned }) r
label_after (Takeover n able) r = at_placing n (takeover_after (r.members (r.line n)) able) r
label_after (Taken n g number assigned) r = at_placing n (take_after number assigned) r

-- ---- it is the one

register_one : (rules : Rules) (n : ℕ) (asked : ClientOp) (given : Answer) (x y : Register) → Register.Accepts rules n asked given x y → y ≡ register_after n asked given x
register_one rules n (op.Lock db key) (answer.Locked v) x y p = p.2
register_one rules n (op.Read db key) (answer.Read v) x y p = p.2
register_one rules n (op.Write db key v) answer.Written x y p = p.1
register_one rules n (op.Store db key v) answer.Stored x y p = p.1
register_one rules n (op.Unlock db key) answer.Unlocked x y p = p.1
register_one rules n (op.Apply db key function arg) (answer.Applied v) x y p = p.2
register_one rules n (op.Apply db key function arg) (answer.Refused (why.TooLong m)) x y p = p.2
register_one rules n asked (answer.Refused (why.TooLong m)) x y p = elim p [ ]
register_one rules n asked (answer.Refused w) x y p = p
register_one rules n asked given x y p = elim p [ ]

record_one : (config : Config) (n db : ℕ) (key : List ℕ) (Step : Register → Register → Type 0) (f : Register → Register) (r s : Lines) → ((x y : Register) → Step x y → y ≡ f x) →
    AtRecord config n db key Step r s → s ≡ at_record n db key f r
record_one config n db key Step f r s one p = p.4 ∙ ap (λ (x : Register). with_record (r.line n) db key x r) (one _ _ p.3)

database_one : (config : Config) (n db : ℕ) (Step : Database → Database → Type 0) (f : Database → Database) (r s : Lines) → ((x y : Database) → Step x y → y ≡ f x) →
    AtDatabase config n db Step r s → s ≡ at_database n db f r
database_one config n db Step f r s one p = p.4 ∙ ap (λ (x : Database). with_database (r.line n) db x r) (one _ _ p.3)

placing_one : (n : ℕ) (Step : Placing → Placing → Type 0) (f : Placing → Placing) (r s : Lines) → ((x y : Placing) → Step x y → y ≡ f x) → AtPlacing n Step r s → s ≡ at_placing n f r
placing_one n Step f r s one p = p.3 ∙ ap (λ (x : Placing). with_placing (r.line n) x r) (one _ _ p.2)

commit_one : (members : List ℕ) (n : ℕ) (writes : List Pair) (given : Answer) (x y : Database) → Database.AcceptsCommit members n writes given x y → y ≡ database_after members given x
commit_one members n writes (answer.Committed number) x y p = p.1
commit_one members n writes (answer.Unsure number missing) x y p = p.2
commit_one members n writes given x y p = elim p [ ]

takeover_one : (members able : List ℕ) (x y : Placing) → Placing.AcceptsTakeover members able x y → y ≡ takeover_after members able x
takeover_one members able x y p = p.2 ∙
    ap (λ (given : List Assigned). record x {
      begun = x.begun + 1;
      runs = Words.at (x.begun + 1) (Some (record { able = filter (λ n. is_among n members) able; given = given })) x.runs;
    }) (sym (ap or_none p.1))

not_persistent : (config : Config) (db : ℕ) → is_persistent (kind_at config db) ≡ false → kind_at config db ≡ Some Persistent → ⊥
unfolding is_persistent
not_persistent config db other is = absurd (let e : is_persistent (Some Persistent) ≡ false = subst (λ k. is_persistent k ≡ false) is other in cc)

read_one : (config : Config) (rules : Rules) (n db : ℕ) (key v : List ℕ) (r s : Lines) → is_persistent (kind_at config db) ≡ false →
    Legal.AcceptsAnswer config rules n (op.Read db key) (answer.Read v) r s → s ≡ at_record n db key (Register.seen_by n) r
read_one config rules n db key v r s c p =
    let Step : Register → Register → Type 0 = Register.Accepts rules n (op.Read db key) (answer.Read v) in
    let Saw : Database → Database → Type 0 = Database.AcceptsRead n key v in
    ⊎_elim
    (λ (a : AtRecord config n db key Step r s). record_one config n db key Step (Register.seen_by n) r s (λ x y q. q.2) a)
    (λ (a : AtDatabase config n db Saw r s). absurd (not_persistent config db c a.1)) p

answer_one : (config : Config) (rules : Rules) (n : ℕ) (asked : ClientOp) (given : Answer) (r s : Lines) → leaves_choice config (Answered n asked given) ≡ false →
    Legal.AcceptsAnswer config rules n asked given r s → s ≡ answer_after n asked given r
answer_one config rules n asked (answer.Refused (why.TooLong m)) r s c p =
    record_one config n (db_of asked) (key_of asked) (Register.Accepts rules n asked (answer.Refused (why.TooLong m))) (register_after n asked (answer.Refused (why.TooLong m))) r s
    (register_one rules n asked (answer.Refused (why.TooLong m))) p
answer_one config rules n asked (answer.Refused w) r s c p = p.1
answer_one config rules n (op.Commit db writes) given r s c p =
    database_one config n db (Database.AcceptsCommit (r.members (r.line n)) n writes given) (database_after (r.members (r.line n)) given) r s (commit_one (r.members (r.line n)) n writes given) p.2
answer_one config rules n (op.Read db key) (answer.Read v) r s c p = read_one config rules n db key v r s c p
answer_one config rules n asked given r s c p =
    record_one config n (db_of asked) (key_of asked) (Register.Accepts rules n asked given) (register_after n asked given) r s (register_one rules n asked given) p

note_one : (config : Config) (rules : Rules) (n : ℕ) (noted : Note) (r s : Lines) → leaves_choice config (Noted n noted) ≡ false → Legal.AcceptsNote config n noted r s → s ≡ note_after n noted r
note_one config rules n (note.Vacuumed db key) r s c p = record_one config n db key Register.AcceptsVacuum Register.emptied r s (λ x y a. a.2) p
note_one config rules n (note.Ended db key) r s c p = record_one config n db key (Register.AcceptsEnd n) Register.released r s (λ x y a. a.1) p
note_one config rules n (note.Round g members v w) r s c p = absurd (cc)
note_one config rules n (note.Installed g) r s c p = p.4
note_one config rules n (note.Thawed g) r s c p = p.3
note_one config rules n (note.Released a) r s c p = p.1
note_one config rules n (note.Took a) r s c p = p.3

pub label_one : (config : Config) (rules : Rules) (label : Label) (r s : Lines) → leaves_choice config label ≡ false → Legal.AcceptsLabel config rules r label s → s ≡ label_after label r
label_one config rules (Answered n asked given) r s c p = answer_one config rules n asked given r s c p
label_one config rules (Unasked call given) r s c p = absurd p
label_one config rules (Begun n db writes) r s c p =
    database_one config n db (Database.AcceptsBegin n writes (Legal.lock_owner config (r.line n) db r)) (begun_after n writes) r s (λ x y a. a.2) p
label_one config rules (Noted n noted) r s c p = note_one config rules n noted r s c p
label_one config rules (Ticket g n members) r s c p = p.2
label_one config rules (Yielded n) r s c p = p.1
label_one config rules (Stopped n) r s c p = p
label_one config rules (Started n) r s c p = p
label_one config rules (Pushed g assigned) r s c p = p.3 ∙ ap (λ (x : Placing). with_placing g x r) p.2.1
label_one config rules (Takeover n able) r s c p =
    placing_one n (Placing.AcceptsTakeover (r.members (r.line n)) able) (takeover_after (r.members (r.line n)) able) r s (takeover_one (r.members (r.line n)) able) p
label_one config rules (Taken n g number assigned) r s c p =
    placing_one n (Placing.AcceptsTake config.addresses number assigned) (take_after number assigned) r s (λ x y a. a.3) p.1

pub one_way : GoOnInOneWay
one_way config rules label r s t c p q = label_one config rules label r s c p ∙ sym (label_one config rules label r t c q)

-- ---- many labels

abbrev pub leave_no_choice : Config → List Label → Bool
leave_no_choice config [] = true
leave_no_choice config (label ∷ labels) = not (leaves_choice config label) && leave_no_choice config labels

abbrev pub labels_after : List Label → Lines → Lines
labels_after [] r = r
labels_after (label ∷ labels) r = labels_after labels (label_after label r)

-- what is refused after some labels is refused with them in front
pub refused_after : (config : Config) (rules : Rules) (front rest : List Label) (r s : Lines) → leave_no_choice config front ≡ true →
    (Legal.AcceptsLabels config rules (labels_after front r) rest s → ⊥) → Legal.AcceptsLabels config rules r (front ++ rest) s → ⊥
refused_after config rules [] rest r s c refused h = refused h
refused_after config rules (label ∷ labels) rest r s c refused h = refused_after config rules labels rest (label_after label r) s (and_parts _ _ c).1 refused
    (subst (λ (x : Lines). Legal.AcceptsLabels config rules x (labels ++ rest) s) (label_one config rules label r h.0 (not-true _ (and_parts _ _ c).0) h.1) h.2)
