-- Every label is accepted where what it needs of records, of databases, of addresses and of rounds holds; and so is a list of labels.
use Rattle.std.proofs.Common.{◌≡◌, ◌≢◌, ℕ, false, List, [], ◌∷◌, Option, None, Some, refl, inl, inr, ⊎_elim}
use Rattle.std.specs.Prelude.{◌⊎◌}
use Rattle.ct_values.specs.Client.{db_of, key_of}
use Rattle.ct_values.specs.declared.client.Answer.TheVariants as answer
use Rattle.ct_values.specs.declared.client.ClientOp.TheVariants as op
use Rattle.ct_values.specs.declared.client.Why.TheVariants as why
use Rattle.ct_values.specs.declared.config.Config.{Config}
use Rattle.ct_values.specs.declared.config.DbKind.{DbKind}
use Rattle.ct_values.specs.declared.config.DbKind.TheVariants.{Volatile, ReadOnly, Persistent}
use Rattle.ct_frame.specs.declared.event.Note.TheVariants as note
use Rattle.ct_call.specs.Rules.{Rules}
use Rattle.ct_rules_cluster.specs.Labels.{Label, Answered, Unasked, Begun, Noted, Ticket, Yielded, Stopped, Started, Pushed, Takeover, Taken}
use Rattle.ct_rules_node.specs.Node.{is_persistent, kind_at}
use Rattle.ct_register.specs.Register.{AcceptsEnd, AcceptsVacuum, emptied, released}
use Rattle.ct_register.specs.Lines.{Lines}
use Rattle.ct_register.specs.Legal.{AcceptsLabel, AcceptsLabels}
use Rattle.ct_law_registers.proofs.Parts.{Choice, goes, goes_on, answer_goes, DatabasesNeed, PlacesNeed, AllNeed}
use Rattle.ct_law_registers.proofs.Accepted.{took_accepted, released_accepted, pushed_accepted, taken_accepted, takeover_accepted, begun_accepted, committed_accepted, unsure_accepted}
use Rattle.ct_law_registers.proofs.Rounds.{RoundsNeed, CanTake, round_accepted, installed_accepted, thawed_accepted, ticket_accepted, yielded_accepted, stopped_accepted, started_accepted}
use Rattle.ct_law_registers.proofs.Answers.{OfRecord, Answers, lock_accepted, read_accepted, write_accepted, store_accepted, unlock_accepted, apply_accepted, too_long_accepted, pread_accepted, vacuumed_accepted, ended_accepted}

-- What a label needs of records. A commit is answered as committed or unsure, or refused; a read that is of no persistent
-- database is one of a record. No answer is unasked.
unfoldable pub RecordsNeed : Config → Rules → Choice → Lines → Label → Type 0
RecordsNeed config rules x r (Answered n asked (answer.Refused (why.TooLong m))) =
    OfRecord config n (db_of asked) (key_of asked) (Answers rules n asked (answer.Refused (why.TooLong m))) r
RecordsNeed config rules x r (Answered n asked (answer.Refused w)) = Unit {0}
RecordsNeed config rules x r (Answered n (op.Commit db writes) (answer.Committed number)) = Unit {0}
RecordsNeed config rules x r (Answered n (op.Commit db writes) (answer.Unsure number missing)) = Unit {0}
RecordsNeed config rules x r (Answered n (op.Commit db writes) given) = ⊥
RecordsNeed config rules x r (Answered n (op.Read db key) (answer.Read v)) =
    is_persistent (kind_at config db) ≡ false → OfRecord config n db key (Answers rules n (op.Read db key) (answer.Read v)) r
RecordsNeed config rules x r (Answered n asked given) = OfRecord config n (db_of asked) (key_of asked) (Answers rules n asked given) r
RecordsNeed config rules x r (Unasked call given) = ⊥
RecordsNeed config rules x r (Noted n (note.Vacuumed db key)) = OfRecord config n db key (λ t. AcceptsVacuum t (emptied t)) r
RecordsNeed config rules x r (Noted n (note.Ended db key)) = OfRecord config n db key (λ t. AcceptsEnd n t (released t)) r
RecordsNeed config rules x r (Noted h (note.Round g members p q)) = CanTake r members p x.counts
RecordsNeed config rules x r (Noted n (note.Installed g)) = (l db : ℕ) (key : List ℕ) → (r.records l db key).owner ≢ Some n
RecordsNeed config rules x r label = Unit {0}

-- a database is a persistent one or it is not
either_kind : (k : Option DbKind) → (k ≡ Some Persistent) ⊎ (is_persistent k ≡ false)
unfolding is_persistent
either_kind None = inr refl
either_kind (Some Volatile) = inr refl
either_kind (Some ReadOnly) = inr refl
either_kind (Some Persistent) = inl refl

-- a read of either kind of database
any_read_accepted : (config : Config) (rules : Rules) (x : Choice) (r : Lines) (n db : ℕ) (key v : List ℕ) → RecordsNeed config rules x r (Answered n (op.Read db key) (answer.Read v)) → DatabasesNeed config x r (Answered n (op.Read db key) (answer.Read v)) →
    AcceptsLabel config rules r (Answered n (op.Read db key) (answer.Read v)) (goes config x (Answered n (op.Read db key) (answer.Read v)) r)
unfolding RecordsNeed
any_read_accepted config rules x r n db key v a b = ⊎_elim
    (λ (is : kind_at config db ≡ Some Persistent). pread_accepted config rules x r n db key v is b)
    (λ (other : is_persistent (kind_at config db) ≡ false). read_accepted config rules x r n db key v (a other))
    (either_kind (kind_at config db))

-- a label is accepted where each of its four needs holds
pub parts_accept : (config : Config) (rules : Rules) (x : Choice) (r : Lines) (label : Label) → RecordsNeed config rules x r label → DatabasesNeed config x r label → PlacesNeed config r label → RoundsNeed r label →
    AcceptsLabel config rules r label (goes config x label r)
unfolding RecordsNeed DatabasesNeed goes answer_goes
parts_accept config rules x r (Answered n (op.Apply db key f arg) (answer.Refused (why.TooLong m))) a b c d = too_long_accepted config rules x r n db f m key arg a
parts_accept config rules x r (Answered n asked (answer.Refused (why.TooLong m))) a b c d = absurd a.2
parts_accept config rules x r (Answered n asked (answer.Refused w)) a b c d = (b, refl)
parts_accept config rules x r (Answered n (op.Lock db key) (answer.Locked v)) a b c d = lock_accepted config rules x r n db key v a
parts_accept config rules x r (Answered n (op.Read db key) (answer.Read v)) a b c d = any_read_accepted config rules x r n db key v a b
parts_accept config rules x r (Answered n (op.Write db key v) answer.Written) a b c d = write_accepted config rules x r n db key v a
parts_accept config rules x r (Answered n (op.Store db key v) answer.Stored) a b c d = store_accepted config rules x r n db key v a
parts_accept config rules x r (Answered n (op.Unlock db key) answer.Unlocked) a b c d = unlock_accepted config rules x r n db key a
parts_accept config rules x r (Answered n (op.Apply db key f arg) (answer.Applied v)) a b c d = apply_accepted config rules x r n db f key arg v a
parts_accept config rules x r (Answered n (op.Commit db writes) (answer.Committed number)) a b c d = committed_accepted config rules x r n db number writes b
parts_accept config rules x r (Answered n (op.Commit db writes) (answer.Unsure number missing)) a b c d = unsure_accepted config rules x r n db number writes missing b
parts_accept config rules x r (Answered n (op.Commit db writes) given) a b c d = absurd a
parts_accept config rules x r (Answered n asked given) a b c d = absurd a.2
parts_accept config rules x r (Unasked call given) a b c d = absurd a
parts_accept config rules x r (Begun n db writes) a b c d = begun_accepted config rules x r n db writes b
parts_accept config rules x r (Noted n (note.Vacuumed db key)) a b c d = vacuumed_accepted config rules x r n db key a
parts_accept config rules x r (Noted n (note.Ended db key)) a b c d = ended_accepted config rules x r n db key a
parts_accept config rules x r (Noted n (note.Round g members p q)) a b c d = round_accepted config rules x r n g p q members d a b
parts_accept config rules x r (Noted n (note.Installed g)) a b c d = installed_accepted config rules x r n g d a
parts_accept config rules x r (Noted n (note.Thawed g)) a b c d = thawed_accepted config rules x r n g d
parts_accept config rules x r (Noted n (note.Released address)) a b c d = released_accepted config rules x r n address c
parts_accept config rules x r (Noted n (note.Took address)) a b c d = took_accepted config rules x r n address c
parts_accept config rules x r (Ticket g n members) a b c d = ticket_accepted config rules x r g n members d
parts_accept config rules x r (Yielded n) a b c d = yielded_accepted config rules x r n d
parts_accept config rules x r (Stopped n) a b c d = stopped_accepted config rules x r n
parts_accept config rules x r (Started n) a b c d = started_accepted config rules x r n
parts_accept config rules x r (Pushed g assigned) a b c d = pushed_accepted config rules x r g assigned c
parts_accept config rules x r (Takeover n able) a b c d = takeover_accepted config rules x r n able c
parts_accept config rules x r (Taken n g number assigned) a b c d = taken_accepted config rules x r n g number assigned c

-- a list of labels is accepted where each of the four needs holds along it
pub all_accept : (config : Config) (rules : Rules) (x : Choice) (r : Lines) (labels : List Label) → AllNeed (RecordsNeed config rules x) config x r labels → AllNeed (DatabasesNeed config x) config x r labels → AllNeed (PlacesNeed config) config x r labels → AllNeed RoundsNeed config x r labels →
    AcceptsLabels config rules r labels (goes_on config x labels r)
unfolding AllNeed goes_on
all_accept config rules x r [] a b c d = refl
all_accept config rules x r (label ∷ labels) a b c d = (goes config x label r, parts_accept config rules x r label a.0 b.0 c.0 d.0, all_accept config rules x (goes config x label r) labels a.1 b.1 c.1 d.1)
