-- Registers that are like those of records, whatever their databases, placings and held addresses are: what a label needs of records and
-- of rounds they have, where the registers of records accept it.
use Rattle.std.proofs.Common.{◌≡◌, ◌≢◌, ℕ, ◌+◌, Bool, true, false, cond, List, [], ◌∷◌, Option, None, Some, refl, sym, ap, ◌∙◌, subst, inl, inr, ⊎_elim}
use Rattle.std.specs.Prelude.{◌⊎◌, not}
use Rattle.ct_values.specs.declared.address.Address.{Address}
use Rattle.ct_values.specs.Client.{db_of, key_of}
use Rattle.ct_values.specs.declared.client.Answer.{Answer}
use Rattle.ct_values.specs.declared.client.Answer.TheVariants as answer
use Rattle.ct_values.specs.declared.client.ClientOp.{ClientOp}
use Rattle.ct_values.specs.declared.client.ClientOp.TheVariants as op
use Rattle.ct_values.specs.declared.client.Why.{Why}
use Rattle.ct_values.specs.declared.client.Why.TheVariants as why
use Rattle.ct_values.specs.declared.config.Config.{Config}
use Rattle.ct_values.specs.declared.config.DbKind.{DbKind}
use Rattle.ct_values.specs.declared.config.DbKind.TheVariants.{Volatile, ReadOnly, Persistent}
use Rattle.ct_frame.specs.declared.event.Note.{Note}
use Rattle.ct_frame.specs.declared.event.Note.TheVariants as note
use Rattle.ct_call.specs.Rules.{Rules}
use Rattle.ct_rules_node.specs.Node.{is_persistent, has_records, kind_at}
use Rattle.ct_rules_cluster.specs.Labels.{Label, Answered, Unasked, Begun, Noted, Ticket, Yielded, Stopped, Started, Pushed, Takeover, Taken}
use Rattle.ct_register.specs.Births
use Rattle.ct_register.specs.Database.{Database}
use Rattle.ct_register.specs.Database as database
use Rattle.ct_register.specs.Legal.{AtRecord, AtDatabase, AcceptsAnswer, AcceptsNote, AcceptsRound, AcceptsLabel}
use Rattle.ct_register.specs.Lines.{Lines, with_record, joined, stopped, ticketed}
use Rattle.ct_register.specs.Placing.{Placing}
use Rattle.ct_register.specs.Register as register
use Rattle.ct_register.specs.Register.{Register, AcceptsEnd, AcceptsVacuum, emptied, released}
use Rattle.ct_register.proofs.Ways.{at_record}
use Rattle.ct_promise.specs.Generation.{is_note_of_records, speaks_of_records}
use Rattle.ct_law_registers.proofs.Parts.{Choice, goes, answer_goes, note_goes, register_goes, DatabasesNeed}
use Rattle.ct_law_registers.proofs.Rounds.{CanBear, CanTake, RoundsNeed}
use Rattle.ct_law_registers.proofs.Answers.{OfRecord, Answers}
use Rattle.ct_law_registers.proofs.Whole.{RecordsNeed}
use Rattle.ct_law_acts.proofs.Counted.{is_round}

-- the registers of records, with these databases, placings and held addresses
abbrev pub with_others : Lines → (ℕ → ℕ → Database) → (ℕ → Placing) → (ℕ → Address → Bool) → Lines
with_others t d p q = record t { databases = d; placing = p; held = q }

-- these registers are like those of records
abbrev pub IsLike : Lines → Lines → Type 0
IsLike r t = r ≡ with_others t r.databases r.placing r.held

pub like_of : (r t : Lines) (d : ℕ → ℕ → Database) (p : ℕ → Placing) (q : ℕ → Address → Bool) → r ≡ with_others t d p q → IsLike r t
like_of r t d p q e = e ∙ ap (λ (z : Lines). with_others t z.databases z.placing z.held) (sym e)

-- what a label that leads the registers of records to these needs of records and of rounds
pub record Parts (config : Config) (rules : Rules) (x : Choice) (r : Lines) (label : Label) (s : Lines) : Type 0 where
  pub records : RecordsNeed config rules x r label
  pub rounds : RoundsNeed r label
  pub like : IsLike (goes config x label r) s

-- ---- one register

register_accepts : (rules : Rules) (n : ℕ) (asked : ClientOp) (given : Answer) (a b : Register) → register.Accepts rules n asked given a b → (b ≡ register_goes n asked given a) × register.Accepts rules n asked given a (register_goes n asked given a)
unfolding register_goes
register_accepts rules n (op.Lock db key) (answer.Locked v) a b p = (p.2, (p.0, p.1, refl))
register_accepts rules n (op.Read db key) (answer.Read v) a b p = (p.2, (p.0, p.1, refl))
register_accepts rules n (op.Write db key v) answer.Written a b p = (p.1, (p.0, refl))
register_accepts rules n (op.Store db key v) answer.Stored a b p = (p.1, (p.0, refl))
register_accepts rules n (op.Unlock db key) answer.Unlocked a b p = (p.1, (p.0, refl))
register_accepts rules n (op.Apply db key function arg) (answer.Applied v) a b p = (p.2, (p.0, p.1, refl))
register_accepts rules n (op.Apply db key function arg) (answer.Refused (why.TooLong m)) a b p = (p.2, (p.0, p.1, refl))
register_accepts rules n asked (answer.Refused (why.TooLong m)) a b p = absurd p
register_accepts rules n asked (answer.Refused w) a b p = (p, refl)
register_accepts rules n asked given a b p = absurd p

too_long_same : (n : ℕ) (asked : ClientOp) (m : ℕ) (a : Register) → register_goes n asked (answer.Refused (why.TooLong m)) a ≡ a
unfolding register_goes
too_long_same n (op.Lock db key) m a = refl
too_long_same n (op.Read db key) m a = refl
too_long_same n (op.Write db key v) m a = refl
too_long_same n (op.Store db key v) m a = refl
too_long_same n (op.Unlock db key) m a = refl
too_long_same n (op.Apply db key f arg) m a = refl
too_long_same n (op.Commit db writes) m a = refl

not_it : (b : Bool) → not b ≡ true → b ≡ false
not_it false e = refl
not_it true e = absurd (cc)

it_is : (b : Bool) → not b ≡ false → b ≡ true
it_is true e = refl
it_is false e = absurd (cc)

kind_persistent : (k : Option DbKind) → k ≡ Some Persistent → is_persistent k ≡ true
unfolding is_persistent
kind_persistent k e = ap is_persistent e

-- the same record goes on in the registers that are like these
record_like : (n db : ℕ) (key : List ℕ) (f : Register → Register) (t s : Lines) (reg : Register) (d : ℕ → ℕ → Database) (p : ℕ → Placing) (q : ℕ → Address → Bool) → reg ≡ f (t.records (t.line n) db key) → s ≡ with_record (t.line n) db key reg t →
    IsLike (at_record n db key f (with_others t d p q)) s
record_like n db key f t s reg d p q is goes_to = ap (λ (z : Lines). with_others z d p q) (sym (goes_to ∙ ap (λ (y : Register). with_record (t.line n) db key y t) is))

-- ---- answers

module _ (config : Config) (rules : Rules) (x : Choice) (t : Lines) (d : ℕ → ℕ → Database) (p : ℕ → Placing) (q : ℕ → Address → Bool) where
  abbrev r : Lines
  r = with_others t d p q

  answer_record : (n : ℕ) (asked : ClientOp) (given : Answer) (s : Lines) → AtRecord config n (db_of asked) (key_of asked) (register.Accepts rules n asked given) t s → OfRecord config n (db_of asked) (key_of asked) (Answers rules n asked given) r
  answer_record n asked given s a = (a.0, a.1, (register_accepts rules n asked given (t.records (t.line n) (db_of asked) (key_of asked)) a.2 a.3).1)

  answer_like : (n : ℕ) (asked : ClientOp) (given : Answer) (s : Lines) → AtRecord config n (db_of asked) (key_of asked) (register.Accepts rules n asked given) t s → IsLike (at_record n (db_of asked) (key_of asked) (register_goes n asked given) r) s
  answer_like n asked given s a = record_like n (db_of asked) (key_of asked) (register_goes n asked given) t s a.2 d p q (register_accepts rules n asked given (t.records (t.line n) (db_of asked) (key_of asked)) a.2 a.3).0 a.4

  -- an answer on a record
  answered_parts : (n : ℕ) (asked : ClientOp) (given : Answer) (s : Lines) → is_persistent (kind_at config (db_of asked)) ≡ false → AcceptsAnswer config rules n asked given t s → Parts config rules x r (Answered n asked given) s
  unfolding RecordsNeed RoundsNeed goes answer_goes
  answered_parts n asked (answer.Refused (why.TooLong m)) s plain a = record {
    records = answer_record n asked (answer.Refused (why.TooLong m)) s a;
    rounds = tt;
    like = record_like n (db_of asked) (key_of asked) (λ y. y) t s a.2 d p q ((register_accepts rules n asked (answer.Refused (why.TooLong m)) (t.records (t.line n) (db_of asked) (key_of asked)) a.2 a.3).0 ∙ too_long_same n asked m _) a.4;
  }
  answered_parts n asked (answer.Refused w) s plain a = record { records = tt; rounds = tt; like = ap (λ (z : Lines). with_others z d p q) (sym a.1) }
  answered_parts n (op.Commit db writes) given s plain a = absurd (let k = kind_persistent (kind_at config db) a.2.1 in cc)
  answered_parts n (op.Read db key) (answer.Read v) s plain a = ⊎_elim
      (λ (k : AtRecord config n db key (register.Accepts rules n (op.Read db key) (answer.Read v)) t s). record {
        records = λ _. answer_record n (op.Read db key) (answer.Read v) s k;
        rounds = tt;
        like = rw plain (answer_like n (op.Read db key) (answer.Read v) s k);
      })
      (λ (k : AtDatabase config n db (database.AcceptsRead n key v) t s). absurd (let e = kind_persistent (kind_at config db) k.1 in cc)) a
  answered_parts n asked given s plain a = record { records = answer_record n asked given s a; rounds = tt; like = rw plain (answer_like n asked given s a) }

  -- ---- notes

  noted_parts : (n : ℕ) (noted : Note) (s : Lines) → is_note_of_records noted ≡ true → is_round (Noted n noted) ≡ false → AcceptsNote config n noted t s → Parts config rules x r (Noted n noted) s
  unfolding RecordsNeed RoundsNeed goes note_goes is_note_of_records is_round
  noted_parts n (note.Vacuumed db key) s e f a = record { records = (a.0, a.1, (a.3.0, a.3.1, refl)); rounds = tt; like = record_like n db key emptied t s a.2 d p q a.3.2 a.4 }
  noted_parts n (note.Ended db key) s e f a = record { records = (a.0, a.1, (a.3.0, refl)); rounds = tt; like = record_like n db key released t s a.2 d p q a.3.1 a.4 }
  noted_parts n (note.Round g members v w) s e f a = absurd (cc)
  noted_parts n (note.Installed g) s e f a = record { records = a.3; rounds = (a.0, a.1, a.2); like = ap (λ (z : Lines). with_others z (joined g n r).databases p q) (sym a.4) }
  noted_parts n (note.Thawed g) s e f a = record { records = tt; rounds = (a.0, a.1, a.2); like = ap (λ (z : Lines). with_others z d p q) (sym a.3) }
  noted_parts n (note.Released y) s e f a = absurd (cc)
  noted_parts n (note.Took y) s e f a = absurd (cc)

  -- ---- every label of records but the note of a round

  pub record_parts : (label : Label) (s : Lines) → speaks_of_records config label ≡ true → is_round label ≡ false → AcceptsLabel config rules t label s → Parts config rules x r label s
  unfolding RecordsNeed RoundsNeed goes speaks_of_records
  record_parts (Answered n asked given) s e f a = answered_parts n asked given s (not_it (is_persistent (kind_at config (db_of asked))) e) a
  record_parts (Unasked call given) s e f a = absurd a
  record_parts (Begun n db writes) s e f a = absurd (cc)
  record_parts (Noted n noted) s e f a = noted_parts n noted s e f a
  record_parts (Ticket g n members) s e f a = record { records = tt; rounds = (a.0, a.1); like = ap (λ (z : Lines). with_others z d p q) (sym a.2) }
  record_parts (Yielded n) s e f a = record { records = tt; rounds = a.0; like = ap (λ (z : Lines). with_others z d p q) (sym a.1) }
  record_parts (Stopped n) s e f a = record { records = tt; rounds = tt; like = ap (λ (z : Lines). with_others z d p (stopped n r).held) (sym a) }
  record_parts (Started n) s e f a = record { records = tt; rounds = tt; like = ap (λ (z : Lines). with_others z d p q) (sym a) }
  record_parts (Pushed g assigned) s e f a = absurd (cc)
  record_parts (Takeover n able) s e f a = absurd (cc)
  record_parts (Taken n g number assigned) s e f a = absurd (cc)

  -- ---- every label of databases and of addresses

  other_answer : (n : ℕ) (asked : ClientOp) (given : Answer) → is_persistent (kind_at config (db_of asked)) ≡ true → DatabasesNeed config x r (Answered n asked given) → Parts config rules x r (Answered n asked given) t
  unfolding RecordsNeed RoundsNeed DatabasesNeed goes answer_goes
  other_answer n asked (answer.Refused (why.TooLong m)) e need = absurd (cc)
  other_answer n asked (answer.Refused w) e need = record { records = tt; rounds = tt; like = refl }
  other_answer n (op.Commit db writes) (answer.Committed number) e need = record { records = tt; rounds = tt; like = rw e refl }
  other_answer n (op.Commit db writes) (answer.Unsure number missing) e need = record { records = tt; rounds = tt; like = rw e refl }
  other_answer n (op.Read db key) (answer.Read v) e need = record { records = λ f. absurd (cc); rounds = tt; like = rw e refl }
  other_answer n (op.Unlock db key) answer.Unlocked e need = absurd (let k = need.0 in cc)
  other_answer n asked given e need = absurd (cc)

  other_note : (n : ℕ) (noted : Note) → is_note_of_records noted ≡ false → Parts config rules x r (Noted n noted) t
  unfolding RecordsNeed RoundsNeed goes note_goes is_note_of_records
  other_note n (note.Released y) e = record { records = tt; rounds = tt; like = refl }
  other_note n (note.Took y) e = record { records = tt; rounds = tt; like = refl }
  other_note n noted e = absurd (cc)

  pub other_parts : (label : Label) → speaks_of_records config label ≡ false → DatabasesNeed config x r label → Parts config rules x r label t
  unfolding RecordsNeed RoundsNeed goes speaks_of_records
  other_parts (Answered n asked given) e need = other_answer n asked given (it_is (is_persistent (kind_at config (db_of asked))) e) need
  other_parts (Begun n db writes) e need = record { records = tt; rounds = tt; like = refl }
  other_parts (Noted n noted) e need = other_note n noted e
  other_parts (Pushed g assigned) e need = record { records = tt; rounds = tt; like = refl }
  other_parts (Takeover n able) e need = record { records = tt; rounds = tt; like = refl }
  other_parts (Taken n g number assigned) e need = record { records = tt; rounds = tt; like = refl }
  other_parts label e need = absurd (cc)

-- ---- the note of a round

-- with the counts that the registers of records accept it with
pub round_parts : (config : Config) (rules : Rules) (t s : Lines) (h g v w : ℕ) (members : List ℕ) (a : AcceptsRound h g members v w t s) (kept : ℕ → ℕ) (seen : ℕ) (d : ℕ → ℕ → Database) (p : ℕ → Placing) (q : ℕ → Address → Bool) →
    Parts config rules (record { counts = a.0; kept = kept; seen = seen }) (with_others t d p q) (Noted h (note.Round g members v w)) s
unfolding RecordsNeed RoundsNeed goes note_goes Births.birth_list
round_parts config rules t s h g v w members a kept seen d p q = record {
  records = record { within = a.2.within; seen = a.2.seen };
  rounds = record { given = a.2.given; named = a.2.named; unborn = a.2.unborn; older = a.2.older; greatest = a.2.greatest; had = a.2.had; polder = a.3.older; pgreatest = a.3.greatest; phad = a.3.had };
  like = ap (λ (z : Lines). with_others z (Births.born_of g v a.0 w kept (with_others t d p q)).databases p q) (sym a.4);
}
