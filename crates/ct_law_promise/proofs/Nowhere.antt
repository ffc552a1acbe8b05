-- Who is in no line holds no address, by the registers of every legal trace.
use Rattle.std.proofs.Common.{◌≡◌, ◌≢◌, ℕ, ◌<◌, true, false, Bool, List, [], ◌∷◌, refl, sym, ap, ◌∙◌, subst, arith, ⊎_elim}
use Rattle.std.proofs.lemmas.Bool.{cases_eq}
use Rattle.ct_values.specs.declared.address.Address.{Address}
use Rattle.ct_values.specs.Client.{db_of, key_of}
use Rattle.ct_values.specs.declared.client.Answer.{Answer}
use Rattle.ct_values.specs.declared.client.Answer.TheVariants as answer
use Rattle.ct_values.specs.declared.client.ClientOp.{ClientOp}
use Rattle.ct_values.specs.declared.client.ClientOp.TheVariants as op
use Rattle.ct_values.specs.declared.client.Why.TheVariants as why
use Rattle.ct_values.specs.declared.config.Config.{Config}
use Rattle.ct_frame.specs.declared.event.Note.{Note}
use Rattle.ct_frame.specs.declared.event.Note.TheVariants as note
use Rattle.ct_call.specs.Rules.{Rules}
use Rattle.ct_rules_cluster.specs.Labels.{Label, Answered, Unasked, Begun, Noted, Ticket, Yielded, Stopped, Started, Pushed, Takeover, Taken}
use Rattle.ct_register.specs.Database as database
use Rattle.ct_register.specs.Legal
use Rattle.ct_register.specs.Legal.{AtRecord, AtDatabase}
use Rattle.ct_register.specs.Lines.{Lines}
use Rattle.ct_register.specs.Register as register
use Rattle.ct_register.specs.Words.{at, at_address}
use Rattle.ct_register.proofs.Places.{at_same, at_other}

-- who is in no line holds nothing
abbrev pub HoldNothing : (ℕ → ℕ) → (ℕ → Address → Bool) → Type 0
HoldNothing line held = (n : ℕ) (a : Address) → line n ≡ 0 → held n a ≡ false

abbrev pub NowhereHeld : Lines → Type 0
NowhereHeld r = HoldNothing r.line r.held

-- it stays where lines and held addresses do
held_same : (r s : Lines) → s.line ≡ r.line → s.held ≡ r.held → NowhereHeld r → NowhereHeld s
held_same r s l h f = subst (λ (line : ℕ → ℕ). HoldNothing line s.held) (sym l) (subst (λ (held : ℕ → Address → Bool). HoldNothing r.line held) (sym h) f)

one_held : (n : ℕ) (a : Address) (b : Bool) (r : Lines) → r.line n ≢ 0 → NowhereHeld r → HoldNothing r.line (at n (at_address a b (r.held n)) r.held)
one_held n a b r line f m x none = ap (λ (g : Address → Bool). g x) (at_other n m (at_address a b (r.held n)) r.held (λ e. line (ap r.line (sym e) ∙ none))) ∙ f m x none

joined_held : (g n : ℕ) (r : Lines) → r.pline n < g → NowhereHeld r → HoldNothing (at n g r.line) r.held
joined_held g n r low f m x none = ⊎_elim
    (λ (e : m ≡ n). absurd (let z : g ≡ 0 = sym (at_same n m g r.line e) ∙ none in omega (arith, z, low)))
    (λ (ne : m ≢ n). f m x (sym (at_other n m g r.line ne) ∙ none)) (cases_eq m n)

stopped_held : (n : ℕ) (r : Lines) → NowhereHeld r → HoldNothing (at n 0 r.line) (at n (λ _. false) r.held)
stopped_held n r f m x none = ⊎_elim
    (λ (e : m ≡ n). ap (λ (g : Address → Bool). g x) (at_same n m (λ _. false) r.held e))
    (λ (ne : m ≢ n). ap (λ (g : Address → Bool). g x) (at_other n m (λ _. false) r.held ne) ∙ f m x (sym (at_other n m 0 r.line ne) ∙ none)) (cases_eq m n)

equal_held : (s t : Lines) → s ≡ t → NowhereHeld t → NowhereHeld s
equal_held s t e h = subst (λ (x : Lines). NowhereHeld x) (sym e) h

record_held : (config : Config) (n db : ℕ) (key : List ℕ) (Step : register.Register → register.Register → Type 0) (r s : Lines) → AtRecord config n db key Step r s → NowhereHeld r → NowhereHeld s
record_held config n db key Step r s p f = held_same r s (ap (λ (x : Lines). x.line) p.4) (ap (λ (x : Lines). x.held) p.4) f

database_held : (config : Config) (n db : ℕ) (Step : database.Database → database.Database → Type 0) (r s : Lines) → AtDatabase config n db Step r s → NowhereHeld r → NowhereHeld s
database_held config n db Step r s p f = held_same r s (ap (λ (x : Lines). x.line) p.4) (ap (λ (x : Lines). x.held) p.4) f

answer_held : (config : Config) (rules : Rules) (n : ℕ) (asked : ClientOp) (given : Answer) (r s : Lines) → Legal.AcceptsAnswer config rules n asked given r s → NowhereHeld r → NowhereHeld s
answer_held config rules n asked (answer.Refused (why.TooLong m)) r s p f = record_held config n (db_of asked) (key_of asked) (register.Accepts rules n asked (answer.Refused (why.TooLong m))) r s p f
answer_held config rules n asked (answer.Refused w) r s p f = equal_held s r p.1 f
answer_held config rules n (op.Commit db writes) given r s p f = database_held config n db (database.AcceptsCommit (r.members (r.line n)) n writes given) r s p.2 f
answer_held config rules n (op.Read db key) (answer.Read v) r s p f = ⊎_elim
    (λ (q : AtRecord config n db key (register.Accepts rules n (op.Read db key) (answer.Read v)) r s). record_held config n db key (register.Accepts rules n (op.Read db key) (answer.Read v)) r s q f)
    (λ (q : AtDatabase config n db (database.AcceptsRead n key v) r s). database_held config n db (database.AcceptsRead n key v) r s q f) p
answer_held config rules n asked given r s p f = record_held config n (db_of asked) (key_of asked) (register.Accepts rules n asked given) r s p f

note_held : (config : Config) (n : ℕ) (noted : Note) (r s : Lines) → Legal.AcceptsNote config n noted r s → NowhereHeld r → NowhereHeld s
note_held config n (note.Vacuumed db key) r s p f = record_held config n db key register.AcceptsVacuum r s p f
note_held config n (note.Ended db key) r s p f = record_held config n db key (register.AcceptsEnd n) r s p f
note_held config n (note.Round g members v w) r s p f = equal_held s _ p.4 f
note_held config n (note.Installed g) r s p f = equal_held s _ p.4 (joined_held g n r p.2 f)
note_held config n (note.Thawed g) r s p f = equal_held s r p.3 f
note_held config n (note.Released a) r s p f = equal_held s _ p.1 (one_held n a false r p.0 f)
note_held config n (note.Took a) r s p f = equal_held s _ p.3 (one_held n a true r p.0 f)

label_held : (config : Config) (rules : Rules) (label : Label) (r s : Lines) → Legal.AcceptsLabel config rules r label s → NowhereHeld r → NowhereHeld s
label_held config rules (Answered n asked given) r s p f = answer_held config rules n asked given r s p f
label_held config rules (Unasked call given) r s p f = absurd p
label_held config rules (Begun n db writes) r s p f = database_held config n db (database.AcceptsBegin n writes (Legal.lock_owner config (r.line n) db r)) r s p f
label_held config rules (Noted n noted) r s p f = note_held config n noted r s p f
label_held config rules (Ticket g n members) r s p f = equal_held s _ p.2 f
label_held config rules (Yielded n) r s p f = equal_held s _ p.1 f
label_held config rules (Stopped n) r s p f = equal_held s _ p (stopped_held n r f)
label_held config rules (Started n) r s p f = equal_held s r p f
label_held config rules (Pushed g assigned) r s p f = equal_held s _ p.3 f
label_held config rules (Takeover n able) r s p f = equal_held s _ p.3 f
label_held config rules (Taken n g number assigned) r s p f = equal_held s _ p.1.3 f

pub labels_held : (config : Config) (rules : Rules) (labels : List Label) (r s : Lines) → Legal.AcceptsLabels config rules r labels s → NowhereHeld r → NowhereHeld s
labels_held config rules [] r s p f = equal_held s r p f
labels_held config rules (label ∷ labels) r s p f = labels_held config rules labels p.0 s p.2 (label_held config rules label r p.0 p.1 f)
