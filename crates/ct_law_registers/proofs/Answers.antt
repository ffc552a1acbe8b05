-- Answers to calls, and what is told of records, are accepted where what they need of the record or the database holds.
use Rattle.std.proofs.Common.{◌≡◌, ◌≢◌, ℕ, true, false, List, Option, None, Some, refl, inl, inr}
use Rattle.ct_values.specs.declared.client.Answer.{Answer}
use Rattle.ct_values.specs.declared.client.Answer.TheVariants as answer
use Rattle.ct_values.specs.declared.client.ClientOp.{ClientOp}
use Rattle.ct_values.specs.declared.client.ClientOp.TheVariants as op
use Rattle.ct_values.specs.declared.client.Why.TheVariants as why
use Rattle.ct_values.specs.declared.config.Config.{Config}
use Rattle.ct_values.specs.declared.config.DbKind.{DbKind}
use Rattle.ct_values.specs.declared.config.DbKind.TheVariants.{Volatile, ReadOnly, Persistent}
use Rattle.ct_frame.specs.declared.event.Note.TheVariants as note
use Rattle.ct_call.specs.Rules.{Rules}
use Rattle.ct_rules_cluster.specs.Labels.{Answered, Noted}
use Rattle.ct_rules_node.specs.Node.{is_persistent, has_records, kind_at}
use Rattle.ct_register.specs.Register as register
use Rattle.ct_register.specs.Register.{Register, AcceptsEnd, AcceptsVacuum, emptied, released}
use Rattle.ct_register.specs.Lines.{Lines}
use Rattle.ct_register.specs.Legal.{AcceptsLabel}
use Rattle.ct_law_registers.proofs.Accepted.{persistent}
use Rattle.ct_law_registers.proofs.Parts.{Choice, goes, answer_goes, note_goes, register_goes, database_goes, DatabasesNeed}

-- a node of a line, and a record of it
abbrev pub OfRecord : Config → ℕ → ℕ → List ℕ → (Register → Type 0) → Lines → Type 0
OfRecord config n db key Need r = (r.line n ≢ 0) × (has_records (kind_at config db) ≡ true) × Need (r.records (r.line n) db key)

no_persistent : (k : Option DbKind) → has_records k ≡ true → is_persistent k ≡ false
unfolding has_records is_persistent
no_persistent None e = absurd (cc)
no_persistent (Some Volatile) e = refl
no_persistent (Some ReadOnly) e = refl
no_persistent (Some Persistent) e = absurd (cc)

-- the register accepts the answer and goes on
abbrev pub Answers : Rules → ℕ → ClientOp → Answer → Register → Type 0
Answers rules n asked given t = register.Accepts rules n asked given t (register_goes n asked given t)

pub lock_accepted : (config : Config) (rules : Rules) (x : Choice) (r : Lines) (n db : ℕ) (key v : List ℕ) → OfRecord config n db key (Answers rules n (op.Lock db key) (answer.Locked v)) r →
    AcceptsLabel config rules r (Answered n (op.Lock db key) (answer.Locked v)) (goes config x (Answered n (op.Lock db key) (answer.Locked v)) r)
unfolding goes answer_goes register_goes
lock_accepted config rules x r n db key v h = rw (no_persistent (kind_at config db) h.1) (h.0, h.1, _, h.2, refl)

pub read_accepted : (config : Config) (rules : Rules) (x : Choice) (r : Lines) (n db : ℕ) (key v : List ℕ) → OfRecord config n db key (Answers rules n (op.Read db key) (answer.Read v)) r →
    AcceptsLabel config rules r (Answered n (op.Read db key) (answer.Read v)) (goes config x (Answered n (op.Read db key) (answer.Read v)) r)
unfolding goes answer_goes register_goes
read_accepted config rules x r n db key v h = rw (no_persistent (kind_at config db) h.1) (inl (h.0, h.1, _, h.2, refl))

pub write_accepted : (config : Config) (rules : Rules) (x : Choice) (r : Lines) (n db : ℕ) (key v : List ℕ) → OfRecord config n db key (Answers rules n (op.Write db key v) answer.Written) r →
    AcceptsLabel config rules r (Answered n (op.Write db key v) answer.Written) (goes config x (Answered n (op.Write db key v) answer.Written) r)
unfolding goes answer_goes register_goes
write_accepted config rules x r n db key v h = rw (no_persistent (kind_at config db) h.1) (h.0, h.1, _, h.2, refl)

pub store_accepted : (config : Config) (rules : Rules) (x : Choice) (r : Lines) (n db : ℕ) (key v : List ℕ) → OfRecord config n db key (Answers rules n (op.Store db key v) answer.Stored) r →
    AcceptsLabel config rules r (Answered n (op.Store db key v) answer.Stored) (goes config x (Answered n (op.Store db key v) answer.Stored) r)
unfolding goes answer_goes register_goes
store_accepted config rules x r n db key v h = rw (no_persistent (kind_at config db) h.1) (h.0, h.1, _, h.2, refl)

pub unlock_accepted : (config : Config) (rules : Rules) (x : Choice) (r : Lines) (n db : ℕ) (key : List ℕ) → OfRecord config n db key (Answers rules n (op.Unlock db key) answer.Unlocked) r →
    AcceptsLabel config rules r (Answered n (op.Unlock db key) answer.Unlocked) (goes config x (Answered n (op.Unlock db key) answer.Unlocked) r)
unfolding goes answer_goes register_goes
unlock_accepted config rules x r n db key h = rw (no_persistent (kind_at config db) h.1) (h.0, h.1, _, h.2, refl)

pub apply_accepted : (config : Config) (rules : Rules) (x : Choice) (r : Lines) (n db f : ℕ) (key arg v : List ℕ) → OfRecord config n db key (Answers rules n (op.Apply db key f arg) (answer.Applied v)) r →
    AcceptsLabel config rules r (Answered n (op.Apply db key f arg) (answer.Applied v)) (goes config x (Answered n (op.Apply db key f arg) (answer.Applied v)) r)
unfolding goes answer_goes register_goes
apply_accepted config rules x r n db f key arg v h = rw (no_persistent (kind_at config db) h.1) (h.0, h.1, _, h.2, refl)

pub too_long_accepted : (config : Config) (rules : Rules) (x : Choice) (r : Lines) (n db f m : ℕ) (key arg : List ℕ) → OfRecord config n db key (Answers rules n (op.Apply db key f arg) (answer.Refused (why.TooLong m))) r →
    AcceptsLabel config rules r (Answered n (op.Apply db key f arg) (answer.Refused (why.TooLong m))) (goes config x (Answered n (op.Apply db key f arg) (answer.Refused (why.TooLong m))) r)
unfolding goes answer_goes register_goes
too_long_accepted config rules x r n db f m key arg h = (h.0, h.1, _, h.2, refl)

-- a read of a persistent database
pub pread_accepted : (config : Config) (rules : Rules) (x : Choice) (r : Lines) (n db : ℕ) (key v : List ℕ) → kind_at config db ≡ Some Persistent → DatabasesNeed config x r (Answered n (op.Read db key) (answer.Read v)) →
    AcceptsLabel config rules r (Answered n (op.Read db key) (answer.Read v)) (goes config x (Answered n (op.Read db key) (answer.Read v)) r)
unfolding goes answer_goes database_goes DatabasesNeed
pread_accepted config rules x r n db key v kind h = (let k = h (persistent (kind_at config db) kind) in rw (persistent (kind_at config db) kind) (inr (k.0, k.1, _, (x.seen, k.2.0, k.2.1, k.2.2, k.2.3, refl), refl)))

pub vacuumed_accepted : (config : Config) (rules : Rules) (x : Choice) (r : Lines) (n db : ℕ) (key : List ℕ) → OfRecord config n db key (λ t. AcceptsVacuum t (emptied t)) r →
    AcceptsLabel config rules r (Noted n (note.Vacuumed db key)) (goes config x (Noted n (note.Vacuumed db key)) r)
unfolding goes note_goes
vacuumed_accepted config rules x r n db key h = (h.0, h.1, _, h.2, refl)

pub ended_accepted : (config : Config) (rules : Rules) (x : Choice) (r : Lines) (n db : ℕ) (key : List ℕ) → OfRecord config n db key (λ t. AcceptsEnd n t (released t)) r →
    AcceptsLabel config rules r (Noted n (note.Ended db key)) (goes config x (Noted n (note.Ended db key)) r)
unfolding goes note_goes
ended_accepted config rules x r n db key h = (h.0, h.1, _, h.2, refl)
