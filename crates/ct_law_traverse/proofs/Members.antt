-- A line that was born keeps its members.
use Rattle.std.proofs.Common.{◌≡◌, ◌≢◌, ℕ, ◌+◌, ◌≤◌, Bool, true, false, List, [], ◌∷◌, Option, None, Some, refl, sym, ap, ◌∙◌, subst, arith, ⊎_elim}
use Rattle.std.specs.Prelude.{◌⊎◌}
use Rattle.std.proofs.lemmas.Bool.{cases_eq, eqb-true}
use Rattle.ct_values.specs.Client.{db_of, key_of}
use Rattle.ct_values.specs.declared.client.Answer.{Answer}
use Rattle.ct_values.specs.declared.client.Answer.TheVariants as answer
use Rattle.ct_values.specs.declared.client.ClientOp.{ClientOp}
use Rattle.ct_values.specs.declared.client.ClientOp.TheVariants as op
use Rattle.ct_values.specs.declared.client.Why.TheVariants as why
use Rattle.ct_values.specs.declared.config.Config.{Config}
use Rattle.ct_frame.specs.declared.event.Note.{Note}
use Rattle.ct_frame.specs.declared.event.Note.TheVariants as note
use Rattle.ct_call.specs.Rules.{Rules}
use Rattle.ct_rules_cluster.specs.Labels.{Label, Answered, Unasked, Begun, Noted, Ticket, Yielded, Stopped, Started, Pushed, Takeover, Taken}
use Rattle.ct_register.specs.Database.{Database, AcceptsBegin, AcceptsCommit, AcceptsRead}
use Rattle.ct_register.specs.Legal.{AtRecord, AtDatabase, AtPlacing, lock_owner, AcceptsAnswer, AcceptsNote, AcceptsRound, AcceptsLabel, AcceptsLabels}
use Rattle.ct_register.specs.Lines
use Rattle.ct_register.specs.Lines.{Lines, ticketed}
use Rattle.ct_register.specs.Births.{born_of}
use Rattle.ct_register.specs.Register
use Rattle.ct_register.specs.Register.{Register}
use Rattle.ct_register.specs.Placing.{Placing}
use Rattle.ct_register.proofs.Places.{at_other}

-- no line that was born is above the last ticket, nor is a ticket that was given
pub record Counted (r : Lines) : Type 0 where
  pub born : (g : ℕ) → r.born g ≡ true → g ≤ r.last
  pub given : (g n : ℕ) → r.leader g ≡ Some n → g ≤ r.last

-- it stays so, and each line that was born stays with its members
pub record Stays (r s : Lines) : Type 0 where
  pub counted : Counted s
  pub born : (g : ℕ) → r.born g ≡ true → s.born g ≡ true
  pub members : (g : ℕ) → r.born g ≡ true → s.members g ≡ r.members g

-- both have the same lines and tickets
abbrev Alike : Lines → Lines → Type 0
Alike r s = (s.born ≡ r.born) × (s.last ≡ r.last) × (s.leader ≡ r.leader) × (s.members ≡ r.members)

alike_stays : (r s : Lines) → Counted r → Alike r s → Stays r s
alike_stays r s h e = record {
  counted = record {
    born = λ g b. subst (λ (k : ℕ). g ≤ k) (sym e.1) (h.born g (sym (ap (λ (f : ℕ → Bool). f g) e.0) ∙ b));
    given = λ g n b. subst (λ (k : ℕ). g ≤ k) (sym e.1) (h.given g n (sym (ap (λ (f : ℕ → Option ℕ). f g) e.2) ∙ b));
  };
  born = λ g b. ap (λ (f : ℕ → Bool). f g) e.0 ∙ b;
  members = λ g b. ap (λ (f : ℕ → List ℕ). f g) e.3;
}

same_stays : (r s t : Lines) → Counted r → s ≡ t → t.born ≡ r.born → t.last ≡ r.last → t.leader ≡ r.leader → t.members ≡ r.members → Stays r s
same_stays r s t h e born last leader members = subst (λ (z : Lines). Stays r z) (sym e) (alike_stays r t h (born, last, leader, members))

record_stays : (config : Config) (n db : ℕ) (key : List ℕ) (Step : Register → Register → Type 0) (r s : Lines) → Counted r → AtRecord config n db key Step r s → Stays r s
record_stays config n db key Step r s h p = subst (λ (z : Lines). Stays r z) (sym p.4) (alike_stays r _ h (refl, refl, refl, refl))

database_stays : (config : Config) (n db : ℕ) (Step : Database → Database → Type 0) (r s : Lines) → Counted r → AtDatabase config n db Step r s → Stays r s
database_stays config n db Step r s h p = subst (λ (z : Lines). Stays r z) (sym p.4) (alike_stays r _ h (refl, refl, refl, refl))

placing_stays : (n : ℕ) (Step : Placing → Placing → Type 0) (r s : Lines) → Counted r → AtPlacing n Step r s → Stays r s
placing_stays n Step r s h p = subst (λ (z : Lines). Stays r z) (sym p.3) (alike_stays r _ h (refl, refl, refl, refl))

answer_stays : (config : Config) (rules : Rules) (n : ℕ) (asked : ClientOp) (given : Answer) (r s : Lines) → Counted r → AcceptsAnswer config rules n asked given r s → Stays r s
answer_stays config rules n asked (answer.Refused (why.TooLong m)) r s h p = record_stays config n (db_of asked) (key_of asked) (Register.Accepts rules n asked (answer.Refused (why.TooLong m))) r s h p
answer_stays config rules n asked (answer.Refused w) r s h p = same_stays r s r h p.1 refl refl refl refl
answer_stays config rules n (op.Commit d writes) given r s h p = database_stays config n d (AcceptsCommit (r.members (r.line n)) n writes given) r s h p.2
answer_stays config rules n (op.Read d k) (answer.Read v) r s h p = ⊎_elim
    (λ (q : AtRecord config n d k (Register.Accepts rules n (op.Read d k) (answer.Read v)) r s). record_stays config n d k (Register.Accepts rules n (op.Read d k) (answer.Read v)) r s h q)
    (λ (q : AtDatabase config n d (AcceptsRead n k v) r s). database_stays config n d (AcceptsRead n k v) r s h q) p
answer_stays config rules n asked given r s h p = record_stays config n (db_of asked) (key_of asked) (Register.Accepts rules n asked given) r s h p

birth_stays : (n g : ℕ) (ms : List ℕ) (p q : ℕ) (r s : Lines) → Counted r → AcceptsRound n g ms p q r s → Stays r s
birth_stays n g ms p q r s h a = subst (λ (z : Lines). Stays r z) (sym a.4) (record {
  counted = record {
    born = λ k e. ⊎_elim
        (λ (is : k ≡ g). subst (λ (j : ℕ). j ≤ r.last) (sym is) (h.given g n a.2.given))
        (λ (ne : k ≢ g). h.born k (sym (at_other g k true r.born ne) ∙ e))
        (cases_eq k g);
    given = h.given;
  };
  born = λ k e. at_other g k true r.born (λ is. absurd (let f : true ≡ false = sym e ∙ ap r.born is ∙ a.2.unborn in cc)) ∙ e;
  members = λ k e. refl;
})

note_stays : (config : Config) (n : ℕ) (noted : Note) (r s : Lines) → Counted r → AcceptsNote config n noted r s → Stays r s
note_stays config n (note.Vacuumed d k) r s h p = record_stays config n d k Register.AcceptsVacuum r s h p
note_stays config n (note.Ended d k) r s h p = record_stays config n d k (Register.AcceptsEnd n) r s h p
note_stays config n (note.Round g members v w) r s h p = birth_stays n g members v w r s h p
note_stays config n (note.Installed g) r s h p = subst (λ (z : Lines). Stays r z) (sym p.4) (alike_stays r _ h (refl, refl, refl, refl))
note_stays config n (note.Thawed g) r s h p = same_stays r s r h p.3 refl refl refl refl
note_stays config n (note.Released a) r s h p = subst (λ (z : Lines). Stays r z) (sym p.1) (alike_stays r _ h (refl, refl, refl, refl))
note_stays config n (note.Took a) r s h p = subst (λ (z : Lines). Stays r z) (sym p.3) (alike_stays r _ h (refl, refl, refl, refl))

ticket_stays : (g n : ℕ) (ms : List ℕ) (r : Lines) → Counted r → g ≡ r.last + 1 → Stays r (ticketed g n ms r)
ticket_stays g n ms r h is = record {
  counted = record {
    born = λ k e. (let le = h.born k e in omega arith);
    given = λ k m e. ⊎_elim
        (λ (same : k ≡ g). omega arith)
        (λ (ne : k ≢ g). (let le = h.given k m (sym (at_other g k (Some n) r.leader ne) ∙ e) in omega arith))
        (cases_eq k g);
  };
  born = λ k e. e;
  members = λ k e. at_other g k ms r.members (λ same. absurd (let le = h.born k e in omega arith));
}

label_stays : (config : Config) (rules : Rules) (label : Label) (r s : Lines) → Counted r → AcceptsLabel config rules r label s → Stays r s
label_stays config rules (Answered n asked given) r s h p = answer_stays config rules n asked given r s h p
label_stays config rules (Unasked call given) r s h p = absurd p
label_stays config rules (Begun n d writes) r s h p = database_stays config n d (AcceptsBegin n writes (lock_owner config (r.line n) d r)) r s h p
label_stays config rules (Noted n noted) r s h p = note_stays config n noted r s h p
label_stays config rules (Ticket g n members) r s h p = subst (λ (z : Lines). Stays r z) (sym p.2) (ticket_stays g n members r h p.0)
label_stays config rules (Yielded n) r s h p = subst (λ (z : Lines). Stays r z) (sym p.1) (alike_stays r _ h (refl, refl, refl, refl))
label_stays config rules (Stopped n) r s h p = subst (λ (z : Lines). Stays r z) (sym p) (alike_stays r _ h (refl, refl, refl, refl))
label_stays config rules (Started n) r s h p = same_stays r s r h p refl refl refl refl
label_stays config rules (Pushed g assigned) r s h p = subst (λ (z : Lines). Stays r z) (sym p.3) (alike_stays r _ h (refl, refl, refl, refl))
label_stays config rules (Takeover n able) r s h p = subst (λ (z : Lines). Stays r z) (sym p.3) (alike_stays r _ h (refl, refl, refl, refl))
label_stays config rules (Taken n g number assigned) r s h p = subst (λ (z : Lines). Stays r z) (sym p.1.3) (alike_stays r _ h (refl, refl, refl, refl))

-- all labels of a step
pub labels_stay : (config : Config) (rules : Rules) (labels : List Label) (r s : Lines) → Counted r → AcceptsLabels config rules r labels s → Stays r s
labels_stay config rules [] r s h p = same_stays r s r h p refl refl refl refl
labels_stay config rules (x ∷ xs) r s h p =
    let a = label_stays config rules x r p.0 h p.1 in
    let b = labels_stay config rules xs p.0 s a.counted p.2 in record {
      counted = b.counted;
      born = λ g e. b.born g (a.born g e);
      members = λ g e. b.members g (a.born g e) ∙ a.members g e;
    }

pub opening_counted : (config : Config) → Counted (Lines.opening config)
opening_counted config = record {
  born = λ g e. (let is = eqb-true g 1 e in omega arith);
  given = λ g n e. absurd (cc);
}
