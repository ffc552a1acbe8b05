-- Through every label the databases of lines keep what they began with, and a line that took over from another has all that is
-- acknowledged there.
use Rattle.std.proofs.Common.{◌≡◌, ◌≢◌, ℕ, ◌+◌, ◌≤◌, Bool, true, false, List, [], ◌∷◌, ◌++◌, length, Option, None, Some, refl, sym, ap, ◌∙◌, subst, arith, inl, inr, ⊎_elim, eqb-true}
use Rattle.std.specs.Prelude.{◌⊎◌, nat_eq, nat_lt, take}
use Rattle.std.proofs.lemmas.Bool.{cases_eq, cond_both}
use Rattle.std.proofs.lemmas.List.{length-append}
use Rattle.ct_values.specs.Client.{db_of, key_of}
use Rattle.ct_values.specs.declared.client.Answer.{Answer}
use Rattle.ct_values.specs.declared.client.Answer.TheVariants as answer
use Rattle.ct_values.specs.declared.client.ClientOp.{ClientOp}
use Rattle.ct_values.specs.declared.client.ClientOp.TheVariants as op
use Rattle.ct_values.specs.declared.client.Pair.{Pair}
use Rattle.ct_values.specs.declared.client.Why.TheVariants as why
use Rattle.ct_values.specs.declared.config.Config.{Config}
use Rattle.ct_frame.specs.declared.event.Note.{Note}
use Rattle.ct_frame.specs.declared.event.Note.TheVariants as note
use Rattle.ct_call.specs.Rules.{Rules}
use Rattle.ct_persist.specs.Updates.{contents}
use Rattle.ct_rules_cluster.specs.Labels.{Label, Answered, Unasked, Begun, Noted, Ticket, Yielded, Stopped, Started, Pushed, Takeover, Taken}
use Rattle.ct_register.specs.Births.{PersistentBirth, base_of, born_of}
use Rattle.ct_register.specs.Database.{Database, AcceptsBegin, AcceptsCommit, AcceptsRead, contents_after}
use Rattle.ct_register.specs.Legal.{AtRecord, AtDatabase, IfAllHave, AcceptsAnswer, AcceptsNote, AcceptsLabel, AcceptsLabels, lock_owner}
use Rattle.ct_register.specs.Lines
use Rattle.ct_register.specs.Lines.{Lines, with_database, also_had}
use Rattle.ct_register.specs.Register
use Rattle.ct_register.specs.Words.{at}
use Rattle.ct_register.specs.Descent.{HasOf, AcknowledgedIsTakenOver}
use Rattle.ct_register.proofs.Fronts.{taken_length, front_stays, contents_both}
use Rattle.ct_register.proofs.Places.{at_same, at_other, at_all, at_each}
use Rattle.ct_register.proofs.Small.{none_not_some}

-- ---- one database

-- a database later: it began with the same, and commits and acknowledgments only follow those before
pub record Went (d e : Database) : Type 0 where
  pub seq : e.seq ≡ d.seq
  pub base : e.base ≡ d.base
  pub from : e.from ≡ d.from
  pub acked : d.acked ≤ e.acked
  pub first : (j : ℕ) → j ≤ length d.commits → take j e.commits ≡ take j d.commits
  pub longer : length d.commits ≤ length e.commits

pub went_same : (d : Database) → Went d d
went_same d = record { seq = refl; base = refl; from = refl; acked = omega arith; first = λ j l. refl; longer = omega arith }

pub went_then : (d e f : Database) → Went d e → Went e f → Went d f
went_then d e f a b = record {
  seq = b.seq ∙ a.seq;
  base = b.base ∙ a.base;
  from = b.from ∙ a.from;
  acked = (let x = a.acked in let y = b.acked in omega arith);
  first = λ j l. b.first j (let k = a.longer in omega arith) ∙ a.first j l;
  longer = (let x = a.longer in let y = b.longer in omega arith);
}

-- only what nodes have seen, who waits and what is acknowledged change
seen_went : (d e : Database) → e.seq ≡ d.seq → e.base ≡ d.base → e.from ≡ d.from → e.commits ≡ d.commits → d.acked ≤ e.acked → Went d e
seen_went d e s b f c a = record { seq = s; base = b; from = f; acked = a; first = λ j l. ap (take j) c; longer = (let k = ap length c in omega arith) }

begin_went : (n : ℕ) (writes : List Pair) (owner : Option ℕ) (d e : Database) → AcceptsBegin n writes owner d e → Went d e
begin_went n writes owner d e h = subst (Went d) (sym h.2) (record {
  seq = refl;
  base = refl;
  from = refl;
  acked = omega arith;
  first = λ j l. front_stays j d.commits (writes ∷ []) l;
  longer = (let k = length-append d.commits (writes ∷ []) in omega arith);
})

read_went : (n : ℕ) (key v : List ℕ) (d e : Database) → AcceptsRead n key v d e → Went d e
read_went n key v d e h = subst (Went d) (sym h.5) (seen_went d _ refl refl refl refl (omega arith))

commit_went : (members : List ℕ) (n : ℕ) (writes : List Pair) (given : Answer) (d e : Database) → AcceptsCommit members n writes given d e → Went d e
commit_went members n writes (answer.Committed number) d e h = subst (Went d) (sym h.1) (seen_went d _ refl refl refl refl (let u = h.0.unacknowledged in omega arith))
commit_went members n writes (answer.Unsure number missing) d e h = subst (Went d) (sym h.2) (seen_went d _ refl refl refl refl (omega arith))
commit_went members n writes given d e h = absurd h

-- ---- all of them, but for a birth

-- what a line of others has, where this many commits of line g are acknowledged
abbrev AllTook : ℕ → ℕ → ℕ → Lines → Type 0
AllTook g db acked r = (l k : ℕ) → (r.databases l db).from g ≡ Some k → (r.databases g db).seq + acked ≤ k

-- no more are acknowledged than before, or every line that took over has them
abbrev Acks : Lines → ℕ → ℕ → Database → Type 0
Acks r g db e = (e.acked ≤ (r.databases g db).acked) ⊎ AllTook g db e.acked r

record Goes (r s : Lines) : Type 0 where
  went : (l db : ℕ) → Went (r.databases l db) (s.databases l db)
  acks : (g db : ℕ) → Acks r g db (s.databases g db)

goes_same : (r s : Lines) → s.databases ≡ r.databases → Goes r s
goes_same r s is = record {
  went = λ l db. subst (λ (f : ℕ → ℕ → Database). Went (r.databases l db) (f l db)) (sym is) (went_same (r.databases l db));
  acks = λ g db. inl (let e = ap (λ (f : ℕ → ℕ → Database). (f g db).acked) is in omega arith);
}

goes_one : (g db : ℕ) (d : Database) (r : Lines) → Went (r.databases g db) d → Acks r g db d → Goes r (with_database g db d r)
goes_one g db d r w a = record {
  went = at_each (λ l (f : ℕ → Database). (i : ℕ) → Went (r.databases l i) (f i)) g (at db d (r.databases g)) r.databases
      (at_each (λ i (e : Database). Went (r.databases g i) e) db d (r.databases g) w (λ i _. went_same (r.databases g i))) (λ l _ i. went_same (r.databases l i));
  acks = at_each (λ l (f : ℕ → Database). (i : ℕ) → Acks r l i (f i)) g (at db d (r.databases g)) r.databases
      (at_each (λ i (e : Database). Acks r g i e) db d (r.databases g) a (λ i _. inl (omega arith))) (λ l _ i. inl (omega arith));
}

-- ---- what holds after every label

-- no line of this number is born any more
abbrev IsSet : Lines → ℕ → Type 0
IsSet r g = (r.born g ≡ true) ⊎ (g ≡ 0)

record Descends (r : Lines) : Type 0 where
  took : (g l db k : ℕ) → (r.databases l db).from g ≡ Some k → IsSet r g × HasOf (r.databases g db) k (r.databases l db)
  had : (g n l : ℕ) → r.phad g n l ≡ true → IsSet r l
  real : (n : ℕ) → IsSet r (r.pline n)
  none : r.leader 0 ≡ None

-- what a database has of an older one it has still when both go on
has_on : (d e : Database) (k : ℕ) (c f : Database) → Went d c → Went e f → (c.acked ≤ d.acked) ⊎ (d.seq + c.acked ≤ k) → HasOf d k e → HasOf c k f
has_on d e k c f here there acks h = record {
  first = h.first;
  more = h.more;
  within = (let a = here.longer in let b = h.within in omega arith);
  acked = ⊎_elim (λ (a : c.acked ≤ d.acked). (let b = h.acked in omega arith)) (λ (a : d.seq + c.acked ≤ k). (let b = h.number in omega arith)) acks;
  number = h.number ∙ ap (λ (n : ℕ). n + h.first) (sym here.seq);
  seq = there.seq ∙ h.seq;
  base = there.base ∙ h.base ∙ (λ i. contents h.more (contents (sym (here.first h.first h.within) i) (sym here.base i)));
}

took_on : (r s : Lines) → ((g : ℕ) → IsSet r g → IsSet s g) → Goes r s → Descends r → (g l db k : ℕ) → (s.databases l db).from g ≡ Some k → IsSet s g × HasOf (s.databases g db) k (s.databases l db)
took_on r s set goes h g l db k is =
    let before : (r.databases l db).from g ≡ Some k = sym (ap (λ (f : ℕ → Option ℕ). f g) (goes.went l db).from) ∙ is in
    let t = h.took g l db k before in
    let acks : ((s.databases g db).acked ≤ (r.databases g db).acked) ⊎ ((r.databases g db).seq + (s.databases g db).acked ≤ k)
    = ⊎_elim (λ (a : (s.databases g db).acked ≤ (r.databases g db).acked). inl a) (λ (a : AllTook g db (s.databases g db).acked r). inr (a l k before)) (goes.acks g db) in
    (set g t.0, has_on (r.databases g db) (r.databases l db) k (s.databases g db) (s.databases l db) (goes.went g db) (goes.went l db) acks t.1)

-- a label that touches no line, no ticket and no node's line
plain : (r s : Lines) → s.born ≡ r.born → s.phad ≡ r.phad → s.pline ≡ r.pline → s.leader ≡ r.leader → Goes r s → Descends r → Descends s
plain r s born phad pline leader goes h = record {
  took = took_on r s set goes h;
  had = λ g n l e. set l (h.had g n l (ap (λ (f : ℕ → ℕ → ℕ → Bool). f g n l) (sym phad) ∙ e));
  real = λ n. subst (IsSet s) (ap (λ (f : ℕ → ℕ). f n) (sym pline)) (set (r.pline n) (h.real n));
  none = ap (λ (f : ℕ → Option ℕ). f 0) leader ∙ h.none;
}
  where
    set : (g : ℕ) → IsSet r g → IsSet s g
    set g x = ⊎_elim (λ (e : r.born g ≡ true). inl (ap (λ (f : ℕ → Bool). f g) born ∙ e)) (λ (z : g ≡ 0). inr z) x

ticket_descends : (g n : ℕ) (members : List ℕ) (r : Lines) → g ≡ r.last + 1 → Descends r → Descends (Lines.ticketed g n members r)
ticket_descends g n members r next h = record {
  took = h.took;
  had = at_all (λ (f : ℕ → ℕ → Bool). (m l : ℕ) → f m l ≡ true → IsSet r l) g (λ m l. nat_eq (r.pline m) l) r.phad (λ m l e. subst (IsSet r) (eqb-true (r.pline m) l e) (h.real m)) h.had;
  real = h.real;
  none = at_other g 0 (Some n) r.leader (λ (z : 0 ≡ g). absurd (omega (arith, z, next))) ∙ h.none;
}

joined_goes : (g n : ℕ) (r : Lines) → Goes r (Lines.joined g n r)
joined_goes g n r = record {
  went = at_each (λ l (f : ℕ → Database). (i : ℕ) → Went (r.databases l i) (f i)) g (λ db. record (r.databases g db) { seen = at n 0 (r.databases g db).seen }) r.databases
      (λ i. seen_went (r.databases g i) _ refl refl refl refl (omega arith)) (λ l _ i. went_same (r.databases l i));
  acks = at_each (λ l (f : ℕ → Database). (i : ℕ) → Acks r l i (f i)) g (λ db. record (r.databases g db) { seen = at n 0 (r.databases g db).seen }) r.databases (λ i. inl (omega arith)) (λ l _ i. inl (omega arith));
}

joined_descends : (g n : ℕ) (r : Lines) → r.born g ≡ true → Descends r → Descends (Lines.joined g n r)
unfolding also_had
joined_descends g n r born h = record {
  took = took_on r (Lines.joined g n r) (λ g x. x) (joined_goes g n r) h;
  had = λ k. at_all (λ (row : ℕ → Bool). (l : ℕ) → row l ≡ true → IsSet r l) n (at g true (r.phad k n)) (r.phad k)
      (at_each (λ l (b : Bool). b ≡ true → IsSet r l) g true (r.phad k n) (λ _. inl born) (λ l _. h.had k n l)) (h.had k);
  real = at_all (IsSet r) n g r.pline (inl born) h.real;
  none = h.none;
}

-- ---- births

-- what a line takes over of its parent it has of that, and of the parent's own parents with that
base_has : (q j : ℕ) (d older : Database) (k : ℕ) → j ≤ length d.commits → HasOf older k d → HasOf older k (base_of q j d)
base_has q j d older k l h = record {
  first = h.first;
  more = h.more ++ take j d.commits;
  within = h.within;
  acked = h.acked;
  number = h.number;
  seq = (let a = h.seq in let b = length-append h.more (take j d.commits) in let c = taken_length j d.commits l in omega arith);
  base = ap (contents (take j d.commits)) h.base ∙ sym (contents_both h.more (take j d.commits) (contents_after h.first older));
}

parent_has : (q j : ℕ) (d : Database) → j ≤ length d.commits → d.acked ≤ j → HasOf d (d.seq + j) (base_of q j d)
unfolding contents
parent_has q j d l a = record { first = j; more = []; within = l; acked = a; number = refl; seq = (omega arith); base = refl }

module _ (g p : ℕ) (counts : ℕ → List ℕ → ℕ) (q : ℕ) (kept : ℕ → ℕ) (h : ℕ) (ms : List ℕ) (r : Lines) (given : r.leader g ≡ Some h) (unborn : r.born g ≡ false) (b : PersistentBirth r g ms q kept) (d : Descends r) where
  abbrev s : Lines
  s = born_of g p counts q kept r

  set : (l : ℕ) → IsSet r l → IsSet s l
  set l x = ⊎_elim (λ (e : r.born l ≡ true). inl (at_each (λ l (c : Bool). r.born l ≡ true → c ≡ true) g true r.born (λ _. refl) (λ l _ e. e) l e)) (λ (z : l ≡ 0). inr z) x

  -- who is set is not the one that is born
  other : (l : ℕ) → IsSet r l → l ≢ g
  other l x same = ⊎_elim
      (λ (e : r.born l ≡ true). absurd (let f : true ≡ false = sym e ∙ ap r.born same ∙ unborn in cc))
      (λ (z : l ≡ 0). absurd (none_not_some (sym d.none ∙ ap r.leader (sym z ∙ same) ∙ given))) x

  old_line : (l : ℕ) → IsSet r l → (db : ℕ) → s.databases l db ≡ r.databases l db
  old_line l x db = ap (λ (f : ℕ → Database). f db) (at_other g l (λ i. base_of q (kept i) (r.databases q i)) r.databases (other l x))

  -- what a database took over, in registers from before, of a line that is set
  before : (l x db k : ℕ) → (r.databases l db).from x ≡ Some k → IsSet s x × HasOf (s.databases x db) k (r.databases l db)
  before l x db k e = (let t = d.took x l db k e in (set x t.0, subst (λ (c : Database). HasOf c k (r.databases l db)) (sym (old_line x t.0 db)) t.1))

  new_took : (x db k : ℕ) → at q (Some ((r.databases q db).seq + kept db)) (r.databases q db).from x ≡ Some k → IsSet s x × HasOf (s.databases x db) k (base_of q (kept db) (r.databases q db))
  new_took x db k e = ⊎_elim
      (λ (same : x ≡ q).
      let told : Some ((r.databases q db).seq + kept db) ≡ Some k = sym (at_same q x (Some ((r.databases q db).seq + kept db)) (r.databases q db).from same) ∙ e in
      let number : (r.databases q db).seq + kept db ≡ k = cc in
      let here : IsSet r q = d.had g b.had.0 q b.had.2 in (
        subst (IsSet s) (sym same) (set q here),
        subst (λ (c : Database). HasOf c k (base_of q (kept db) (r.databases q db))) (sym (ap (λ (y : ℕ). s.databases y db) same ∙ old_line q here db))
            (subst (λ (c : ℕ). HasOf (r.databases q db) c (base_of q (kept db) (r.databases q db))) number (parent_has q (kept db) (r.databases q db) (b.within db) (b.acked db))),
      ))
      (λ (ne : x ≢ q). (let t = before q x db k (sym (at_other q x (Some ((r.databases q db).seq + kept db)) (r.databases q db).from ne) ∙ e) in (t.0, base_has q (kept db) (r.databases q db) (s.databases x db) k (b.within db) t.1)))
      (cases_eq x q)

  born_descends : Descends s
  born_descends = record {
    took = λ x l db k. at_all (λ (f : ℕ → Database). (f db).from x ≡ Some k → IsSet s x × HasOf (s.databases x db) k (f db)) g (λ i. base_of q (kept i) (r.databases q i)) r.databases (new_took x db k) (λ l. before l x db k) l;
    had = λ y n l e. set l (d.had y n l e);
    real = λ n. set (r.pline n) (d.real n);
    none = d.none;
  }

-- ---- labels

record_goes : (config : Config) (n db : ℕ) (key : List ℕ) (Step : Register.Register → Register.Register → Type 0) (r s : Lines) → AtRecord config n db key Step r s → Descends r → Descends s
record_goes config n db key Step r s p h =
    plain r s (ap (λ (x : Lines). x.born) p.4) (ap (λ (x : Lines). x.phad) p.4) (ap (λ (x : Lines). x.pline) p.4) (ap (λ (x : Lines). x.leader) p.4) (goes_same r s (ap (λ (x : Lines). x.databases) p.4)) h

database_goes : (config : Config) (n db : ℕ) (Step : Database → Database → Type 0) (r s : Lines) (p : AtDatabase config n db Step r s) → Went (r.databases (r.line n) db) p.2 → Acks r (r.line n) db p.2 → Descends r → Descends s
database_goes config n db Step r s p w a h = subst Descends (sym p.4) (plain r (with_database (r.line n) db p.2 r) refl refl refl refl (goes_one (r.line n) db p.2 r w a) h)

commit_acks : (members : List ℕ) (n db : ℕ) (writes : List Pair) (given : Answer) (r : Lines) (e : Database) → IfAllHave (r.line n) db given r → AcceptsCommit members n writes given (r.databases (r.line n) db) e → Acks r (r.line n) db e
commit_acks members n db writes (answer.Committed number) r e all h =
    inr (λ l k is. (let a = all.1 l k is in let b = h.0.numbered in let c = ap (λ (x : Database). x.acked) h.1 in omega arith))
commit_acks members n db writes (answer.Unsure number missing) r e all h = inl (let c = ap (λ (x : Database). x.acked) h.2 in omega arith)
commit_acks members n db writes given r e all h = absurd h

answer_descends : (config : Config) (rules : Rules) (n : ℕ) (asked : ClientOp) (given : Answer) (r s : Lines) → AcceptsAnswer config rules n asked given r s → Descends r → Descends s
answer_descends config rules n asked (answer.Refused (why.TooLong m)) r s p h = record_goes config n (db_of asked) (key_of asked) (Register.Accepts rules n asked (answer.Refused (why.TooLong m))) r s p h
answer_descends config rules n asked (answer.Refused w) r s p h = subst Descends (sym p.1) h
answer_descends config rules n (op.Commit db writes) given r s p h = database_goes config n db (AcceptsCommit (r.members (r.line n)) n writes given) r s p.2
    (commit_went (r.members (r.line n)) n writes given (r.databases (r.line n) db) p.2.2 p.2.3) (commit_acks (r.members (r.line n)) n db writes given r p.2.2 p.1 p.2.3) h
answer_descends config rules n (op.Read db key) (answer.Read v) r s p h = ⊎_elim
    (λ (q : AtRecord config n db key (Register.Accepts rules n (op.Read db key) (answer.Read v)) r s). record_goes config n db key (Register.Accepts rules n (op.Read db key) (answer.Read v)) r s q h)
    (λ (q : AtDatabase config n db (AcceptsRead n key v) r s). database_goes config n db (AcceptsRead n key v) r s q (read_went n key v (r.databases (r.line n) db) q.2 q.3) (inl (let c = ap (λ (x : Database). x.acked) q.3.5 in omega arith)) h) p
answer_descends config rules n asked given r s p h = record_goes config n (db_of asked) (key_of asked) (Register.Accepts rules n asked given) r s p h

note_descends : (config : Config) (n : ℕ) (noted : Note) (r s : Lines) → AcceptsNote config n noted r s → Descends r → Descends s
note_descends config n (note.Vacuumed db key) r s p h = record_goes config n db key Register.AcceptsVacuum r s p h
note_descends config n (note.Ended db key) r s p h = record_goes config n db key (Register.AcceptsEnd n) r s p h
note_descends config n (note.Round g members v w) r s p h = subst Descends (sym p.4) (born_descends g v p.0 w p.1 n members r p.2.given p.2.unborn p.3 h)
note_descends config n (note.Installed g) r s p h = subst Descends (sym p.4) (joined_descends g n r p.0 h)
note_descends config n (note.Thawed g) r s p h = subst Descends (sym p.3) h
note_descends config n (note.Released a) r s p h = subst Descends (sym p.1) (record { took = h.took; had = h.had; real = h.real; none = h.none })
note_descends config n (note.Took a) r s p h = subst Descends (sym p.3) (record { took = h.took; had = h.had; real = h.real; none = h.none })

label_descends : (config : Config) (rules : Rules) (label : Label) (r s : Lines) → AcceptsLabel config rules r label s → Descends r → Descends s
label_descends config rules (Answered n asked given) r s p h = answer_descends config rules n asked given r s p h
label_descends config rules (Unasked call given) r s p h = absurd p
label_descends config rules (Begun n db writes) r s p h = database_goes config n db (AcceptsBegin n writes (lock_owner config (r.line n) db r)) r s p (begin_went n writes (lock_owner config (r.line n) db r) (r.databases (r.line n) db) p.2 p.3) (inl (let c = ap (λ (x : Database). x.acked) p.3.2 in omega arith)) h
label_descends config rules (Noted n noted) r s p h = note_descends config n noted r s p h
label_descends config rules (Ticket g n members) r s p h = subst Descends (sym p.2) (ticket_descends g n members r p.0 h)
label_descends config rules (Yielded n) r s p h = subst Descends (sym p.1) (record { took = h.took; had = h.had; real = h.real; none = h.none })
label_descends config rules (Stopped n) r s p h = subst Descends (sym p) (record { took = h.took; had = h.had; real = h.real; none = h.none })
label_descends config rules (Started n) r s p h = subst Descends (sym p) h
label_descends config rules (Pushed g assigned) r s p h = subst Descends (sym p.3) (record { took = h.took; had = h.had; real = h.real; none = h.none })
label_descends config rules (Takeover n able) r s p h = subst Descends (sym p.3) (record { took = h.took; had = h.had; real = h.real; none = h.none })
label_descends config rules (Taken n g number assigned) r s p h = subst Descends (sym p.1.3) (record { took = h.took; had = h.had; real = h.real; none = h.none })

labels_descend : (config : Config) (rules : Rules) (labels : List Label) (r s : Lines) → AcceptsLabels config rules r labels s → Descends r → Descends s
labels_descend config rules [] r s p h = subst Descends (sym p) h
labels_descend config rules (label ∷ labels) r s p h = labels_descend config rules labels p.0 s p.2 (label_descends config rules label r p.0 p.1 h)

-- ---- the databases of a line go on

-- a line that was born stays, and its database goes on
record GoesOn (l db : ℕ) (r s : Lines) : Type 0 where
  born : r.born l ≡ true → s.born l ≡ true
  went : r.born l ≡ true → Went (r.databases l db) (s.databases l db)

module _ (l db : ℕ) where
  on_same : (r s : Lines) → s.born ≡ r.born → s.databases ≡ r.databases → GoesOn l db r s
  on_same r s born is = record { born = λ e. ap (λ (f : ℕ → Bool). f l) born ∙ e; went = λ e. (goes_same r s is).went l db }

  on_record : (config : Config) (n i : ℕ) (key : List ℕ) (Step : Register.Register → Register.Register → Type 0) (r s : Lines) → AtRecord config n i key Step r s → GoesOn l db r s
  on_record config n i key Step r s p = on_same r s (ap (λ (x : Lines). x.born) p.4) (ap (λ (x : Lines). x.databases) p.4)

  on_database : (config : Config) (n i : ℕ) (Step : Database → Database → Type 0) (r s : Lines) (p : AtDatabase config n i Step r s) → Went (r.databases (r.line n) i) p.2 → GoesOn l db r s
  on_database config n i Step r s p w = subst (GoesOn l db r) (sym p.4) (record {
    born = λ e. e;
    went = λ e. at_each (λ g (f : ℕ → Database). Went (r.databases g db) (f db)) (r.line n) (at i p.2 (r.databases (r.line n))) r.databases
        (at_each (λ j (d : Database). Went (r.databases (r.line n) j) d) i p.2 (r.databases (r.line n)) w (λ j _. went_same (r.databases (r.line n) j)) db) (λ g _. went_same (r.databases g db)) l;
  })

  on_answer : (config : Config) (rules : Rules) (n : ℕ) (asked : ClientOp) (given : Answer) (r s : Lines) → AcceptsAnswer config rules n asked given r s → GoesOn l db r s
  on_answer config rules n asked (answer.Refused (why.TooLong m)) r s p = on_record config n (db_of asked) (key_of asked) (Register.Accepts rules n asked (answer.Refused (why.TooLong m))) r s p
  on_answer config rules n asked (answer.Refused w) r s p = on_same r s (ap (λ (x : Lines). x.born) p.1) (ap (λ (x : Lines). x.databases) p.1)
  on_answer config rules n (op.Commit i writes) given r s p =
      on_database config n i (AcceptsCommit (r.members (r.line n)) n writes given) r s p.2 (commit_went (r.members (r.line n)) n writes given (r.databases (r.line n) i) p.2.2 p.2.3)
  on_answer config rules n (op.Read i key) (answer.Read v) r s p = ⊎_elim
      (λ (q : AtRecord config n i key (Register.Accepts rules n (op.Read i key) (answer.Read v)) r s). on_record config n i key (Register.Accepts rules n (op.Read i key) (answer.Read v)) r s q)
      (λ (q : AtDatabase config n i (AcceptsRead n key v) r s). on_database config n i (AcceptsRead n key v) r s q (read_went n key v (r.databases (r.line n) i) q.2 q.3)) p
  on_answer config rules n asked given r s p = on_record config n (db_of asked) (key_of asked) (Register.Accepts rules n asked given) r s p

  -- a line that is born was none before
  on_birth : (g : ℕ) (new : ℕ → Database) (r s : Lines) → r.born g ≡ false → s.born ≡ at g true r.born → s.databases ≡ at g new r.databases → GoesOn l db r s
  on_birth g new r s unborn born is = record {
    born = λ e. ap (λ (f : ℕ → Bool). f l) born ∙ at_other g l true r.born (other e) ∙ e;
    went = λ e. subst (λ (d : Database). Went (r.databases l db) d) (sym (ap (λ (f : ℕ → ℕ → Database). f l db) is ∙ ap (λ (f : ℕ → Database). f db) (at_other g l new r.databases (other e)))) (went_same (r.databases l db));
  }
    where
      other : r.born l ≡ true → l ≢ g
      other e same = absurd (let f : true ≡ false = sym e ∙ ap r.born same ∙ unborn in cc)

  on_note : (config : Config) (n : ℕ) (noted : Note) (r s : Lines) → AcceptsNote config n noted r s → GoesOn l db r s
  on_note config n (note.Vacuumed i key) r s p = on_record config n i key Register.AcceptsVacuum r s p
  on_note config n (note.Ended i key) r s p = on_record config n i key (Register.AcceptsEnd n) r s p
  on_note config n (note.Round g members v w) r s p = on_birth g (λ i. base_of w (p.1 i) (r.databases w i)) r s p.2.unborn (ap (λ (x : Lines). x.born) p.4) (ap (λ (x : Lines). x.databases) p.4)
  on_note config n (note.Installed g) r s p = subst (GoesOn l db r) (sym p.4) (record { born = λ e. e; went = λ e. (joined_goes g n r).went l db })
  on_note config n (note.Thawed g) r s p = on_same r s (ap (λ (x : Lines). x.born) p.3) (ap (λ (x : Lines). x.databases) p.3)
  on_note config n (note.Released a) r s p = on_same r s (ap (λ (x : Lines). x.born) p.1) (ap (λ (x : Lines). x.databases) p.1)
  on_note config n (note.Took a) r s p = on_same r s (ap (λ (x : Lines). x.born) p.3) (ap (λ (x : Lines). x.databases) p.3)

  on_label : (config : Config) (rules : Rules) (label : Label) (r s : Lines) → AcceptsLabel config rules r label s → GoesOn l db r s
  on_label config rules (Answered n asked given) r s p = on_answer config rules n asked given r s p
  on_label config rules (Unasked call given) r s p = absurd p
  on_label config rules (Begun n i writes) r s p = on_database config n i (AcceptsBegin n writes (lock_owner config (r.line n) i r)) r s p (begin_went n writes (lock_owner config (r.line n) i r) (r.databases (r.line n) i) p.2 p.3)
  on_label config rules (Noted n noted) r s p = on_note config n noted r s p
  on_label config rules (Ticket g n members) r s p = on_same r s (ap (λ (x : Lines). x.born) p.2) (ap (λ (x : Lines). x.databases) p.2)
  on_label config rules (Yielded n) r s p = on_same r s (ap (λ (x : Lines). x.born) p.1) (ap (λ (x : Lines). x.databases) p.1)
  on_label config rules (Stopped n) r s p = on_same r s (ap (λ (x : Lines). x.born) p) (ap (λ (x : Lines). x.databases) p)
  on_label config rules (Started n) r s p = on_same r s (ap (λ (x : Lines). x.born) p) (ap (λ (x : Lines). x.databases) p)
  on_label config rules (Pushed g assigned) r s p = on_same r s (ap (λ (x : Lines). x.born) p.3) (ap (λ (x : Lines). x.databases) p.3)
  on_label config rules (Takeover n able) r s p = on_same r s (ap (λ (x : Lines). x.born) p.3) (ap (λ (x : Lines). x.databases) p.3)
  on_label config rules (Taken n g number assigned) r s p = on_same r s (ap (λ (x : Lines). x.born) p.1.3) (ap (λ (x : Lines). x.databases) p.1.3)

  on_labels : (config : Config) (rules : Rules) (labels : List Label) (r s : Lines) → AcceptsLabels config rules r labels s → GoesOn l db r s
  on_labels config rules [] r s p = on_same r s (ap (λ (x : Lines). x.born) p) (ap (λ (x : Lines). x.databases) p)
  on_labels config rules (label ∷ labels) r s p =
      let a = on_label config rules label r p.0 p.1 in
      let b = on_labels config rules labels p.0 s p.2 in
      record { born = λ e. b.born (a.born e); went = λ e. went_then (r.databases l db) (p.0.databases l db) (s.databases l db) (a.went e) (b.went (a.born e)) }

-- through every list of labels the databases of a line that was born go on
pub went_labels : (config : Config) (rules : Rules) (labels : List Label) (r s : Lines) → AcceptsLabels config rules r labels s → (l db : ℕ) → r.born l ≡ true → Went (r.databases l db) (s.databases l db)
went_labels config rules labels r s p l db e = (on_labels l db config rules labels r s p).went e

-- ---- from the opening

opening_descends : (config : Config) → Descends (Lines.opening config)
opening_descends config = record {
  took = λ g l db k e. absurd (none_not_some e);
  had = λ g n l e. absurd (let z : false ≡ true = e in cc);
  real = λ n. cond_both (nat_lt n config.nodes) 1 0 (λ c. (nat_eq c 1 ≡ true) ⊎ (c ≡ 0)) (λ _. inl refl) (λ _. inr refl);
  none = refl;
}

pub acknowledged_taken : AcknowledgedIsTakenOver
acknowledged_taken config rules labels s legal g l db k is = ((labels_descend config rules labels (Lines.opening config) s legal (opening_descends config)).took g l db k is).1
