-- How registers go on through labels: lines stay born, the line of a node's databases never falls, and a node comes into a line by
-- installing it.
use Rattle.std.proofs.Common.{◌≡◌, ◌≢◌, ℕ, ◌+◌, ◌<◌, ◌≤◌, Bool, true, false, List, [], ◌∷◌, refl, sym, ap, ◌∙◌, subst, arith, inl, inr, ⊎_elim}
use Rattle.std.specs.Prelude.{◌⊎◌}
use Rattle.ct_values.specs.Client.{db_of, key_of}
use Rattle.ct_values.specs.declared.client.Answer.{Answer}
use Rattle.ct_values.specs.declared.client.Answer.TheVariants as answer
use Rattle.ct_values.specs.declared.client.ClientOp.{ClientOp}
use Rattle.ct_values.specs.declared.client.ClientOp.TheVariants as op
use Rattle.ct_values.specs.declared.client.Why.TheVariants as why
use Rattle.ct_values.specs.declared.config.Config.{Config}
use Rattle.ct_frame.specs.declared.event.Note.{Note}
use Rattle.ct_frame.specs.declared.event.Note.TheVariants as note
use Rattle.ct_call.specs.Rules.{Rules}
use Rattle.ct_rules_cluster.specs.Labels.{Label, Answered, Unasked, Begun, Noted, Ticket, Yielded, Stopped, Started, Pushed, Takeover, Taken}
use Rattle.ct_register.specs.Database as database
use Rattle.ct_register.specs.Legal
use Rattle.ct_register.specs.Legal.{AtRecord, AtDatabase, AtPlacing}
use Rattle.ct_register.specs.Lines.{Lines}
use Rattle.ct_register.specs.Register as register
use Rattle.ct_register.proofs.Places.{at_all, at_each}

pub record GoesLater (r s : Lines) : Type 0 where
  pub born : (g : ℕ) → r.born g ≡ true → s.born g ≡ true
  pub rises : (n : ℕ) → r.pline n ≤ s.pline n
  pub enters : (n g : ℕ) → g ≢ 0 → s.line n ≡ g → (r.line n ≡ g) ⊎ (r.pline n < g)

-- all three stay where these fields do
later_same : (r s : Lines) → s.born ≡ r.born → s.pline ≡ r.pline → s.line ≡ r.line → GoesLater r s
later_same r s b p l = record {
  born = λ g e. ap (λ (f : ℕ → Bool). f g) b ∙ e;
  rises = λ n. (let e : s.pline n ≡ r.pline n = ap (λ (f : ℕ → ℕ). f n) p in omega arith);
  enters = λ n g ne e. inl (sym (ap (λ (f : ℕ → ℕ). f n) l) ∙ e);
}

pub later_after : (r m s : Lines) → GoesLater r m → GoesLater m s → GoesLater r s
later_after r m s a b = record {
  born = λ g e. b.born g (a.born g e);
  rises = λ n. (let x = a.rises n in let y = b.rises n in omega arith);
  enters = λ n g ne e. ⊎_elim (λ (k : m.line n ≡ g). a.enters n g ne k) (λ (k : m.pline n < g). inr (let x = a.rises n in omega arith)) (b.enters n g ne e);
}

record_later : (config : Config) (n db : ℕ) (key : List ℕ) (Step : register.Register → register.Register → Type 0) (r s : Lines) → AtRecord config n db key Step r s → GoesLater r s
record_later config n db key Step r s p = later_same r s (ap (λ (x : Lines). x.born) p.4) (ap (λ (x : Lines). x.pline) p.4) (ap (λ (x : Lines). x.line) p.4)

database_later : (config : Config) (n db : ℕ) (Step : database.Database → database.Database → Type 0) (r s : Lines) → AtDatabase config n db Step r s → GoesLater r s
database_later config n db Step r s p = later_same r s (ap (λ (x : Lines). x.born) p.4) (ap (λ (x : Lines). x.pline) p.4) (ap (λ (x : Lines). x.line) p.4)

equal_later : (r s t : Lines) → s ≡ t → GoesLater r t → GoesLater r s
equal_later r s t e h = subst (λ (x : Lines). GoesLater r x) (sym e) h

answer_later : (config : Config) (rules : Rules) (n : ℕ) (asked : ClientOp) (given : Answer) (r s : Lines) → Legal.AcceptsAnswer config rules n asked given r s → GoesLater r s
answer_later config rules n asked (answer.Refused (why.TooLong m)) r s p = record_later config n (db_of asked) (key_of asked) (register.Accepts rules n asked (answer.Refused (why.TooLong m))) r s p
answer_later config rules n asked (answer.Refused w) r s p = equal_later r s r p.1 (later_same r r refl refl refl)
answer_later config rules n (op.Commit db writes) given r s p = database_later config n db (database.AcceptsCommit (r.members (r.line n)) n writes given) r s p.2
answer_later config rules n (op.Read db key) (answer.Read v) r s p = ⊎_elim
    (λ (q : AtRecord config n db key (register.Accepts rules n (op.Read db key) (answer.Read v)) r s). record_later config n db key (register.Accepts rules n (op.Read db key) (answer.Read v)) r s q)
    (λ (q : AtDatabase config n db (database.AcceptsRead n key v) r s). database_later config n db (database.AcceptsRead n key v) r s q) p
answer_later config rules n asked given r s p = record_later config n (db_of asked) (key_of asked) (register.Accepts rules n asked given) r s p

note_later : (config : Config) (n : ℕ) (noted : Note) (r s : Lines) → Legal.AcceptsNote config n noted r s → GoesLater r s
note_later config n (note.Vacuumed db key) r s p = record_later config n db key register.AcceptsVacuum r s p
note_later config n (note.Ended db key) r s p = record_later config n db key (register.AcceptsEnd n) r s p
note_later config n (note.Round g members v w) r s p = equal_later r s _ p.4 (record {
  born = λ l. at_each (λ l (b : Bool). r.born l ≡ true → b ≡ true) g true r.born (λ _. refl) (λ l _ b. b) l;
  rises = λ m. omega arith;
  enters = λ m l ne e. inl e;
})
note_later config n (note.Installed g) r s p = equal_later r s _ p.4 (record {
  born = λ l e. e;
  rises = λ m. at_each (λ m (c : ℕ). r.pline m ≤ c) n g r.pline (let l = p.2 in omega arith) (λ m _. omega arith) m;
  enters = λ m l ne. at_each (λ m (c : ℕ). c ≡ l → (r.line m ≡ l) ⊎ (r.pline m < l)) n g r.line (λ e. inr (let k = p.2 in omega arith)) (λ m _ e. inl e) m;
})
note_later config n (note.Thawed g) r s p = equal_later r s r p.3 (later_same r r refl refl refl)
note_later config n (note.Released a) r s p = equal_later r s _ p.1 (later_same r _ refl refl refl)
note_later config n (note.Took a) r s p = equal_later r s _ p.3 (later_same r _ refl refl refl)

label_later : (config : Config) (rules : Rules) (label : Label) (r s : Lines) → Legal.AcceptsLabel config rules r label s → GoesLater r s
label_later config rules (Answered n asked given) r s p = answer_later config rules n asked given r s p
label_later config rules (Unasked call given) r s p = absurd p
label_later config rules (Begun n db writes) r s p = database_later config n db (database.AcceptsBegin n writes (Legal.lock_owner config (r.line n) db r)) r s p
label_later config rules (Noted n noted) r s p = note_later config n noted r s p
label_later config rules (Ticket g n members) r s p = equal_later r s _ p.2 (later_same r _ refl refl refl)
label_later config rules (Yielded n) r s p = equal_later r s _ p.1 (later_same r _ refl refl refl)
label_later config rules (Stopped n) r s p = equal_later r s _ p (record {
  born = λ l e. e;
  rises = λ m. omega arith;
  enters = λ m l ne. at_each (λ m (c : ℕ). c ≡ l → (r.line m ≡ l) ⊎ (r.pline m < l)) n 0 r.line (λ e. absurd (ne (sym e))) (λ m _ e. inl e) m;
})
label_later config rules (Started n) r s p = equal_later r s r p (later_same r r refl refl refl)
label_later config rules (Pushed g assigned) r s p = equal_later r s _ p.3 (later_same r _ refl refl refl)
label_later config rules (Takeover n able) r s p = equal_later r s _ p.3 (later_same r _ refl refl refl)
label_later config rules (Taken n g number assigned) r s p = equal_later r s _ p.1.3 (later_same r _ refl refl refl)

pub labels_later : (config : Config) (rules : Rules) (labels : List Label) (r s : Lines) → Legal.AcceptsLabels config rules r labels s → GoesLater r s
labels_later config rules [] r s p = equal_later r s r p (later_same r r refl refl refl)
labels_later config rules (label ∷ labels) r s p = later_after r p.0 s (label_later config rules label r p.0 p.1) (labels_later config rules labels p.0 s p.2)
