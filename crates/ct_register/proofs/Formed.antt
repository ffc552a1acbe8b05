-- The registers of a legal trace are formed: each change keeps that.
use Rattle.std.proofs.Common.{◌≡◌, ◌≢◌, ℕ, ◌+◌, ◌<◌, ◌≤◌, Bool, true, false, List, [], ◌∷◌, length, refl, sym, ◌∙◌, ap, ⊎_elim, inl, inr, arith, subst, eqb-true}
use Rattle.std.specs.Prelude.{◌⊎◌, ◌++◌, nat_eq, nat_lt, not, ◌&&◌, Option, None, Some}
use Rattle.std.proofs.lemmas.Bool.{cases_eq, cond_both, eq-eqb}
use Rattle.std.proofs.lemmas.List.{length-append}
use Rattle.ct_values.specs.declared.address.Address.{Address}
use Rattle.ct_values.specs.Client.{db_of, key_of}
use Rattle.ct_values.specs.declared.client.Answer.{Answer}
use Rattle.ct_values.specs.declared.client.Answer.TheVariants as answer
use Rattle.ct_values.specs.declared.client.ClientOp.{ClientOp}
use Rattle.ct_values.specs.declared.client.ClientOp.TheVariants as op
use Rattle.ct_values.specs.declared.client.Pair.{Pair}
use Rattle.ct_values.specs.declared.client.Why.TheVariants as why
use Rattle.ct_values.specs.declared.config.Config.{Config}
use Rattle.ct_frame.specs.declared.event.Note.{Note}
use Rattle.ct_frame.specs.declared.event.Note.TheVariants as note
use Rattle.ct_call.specs.Rules.{Rules}
use Rattle.ct_rules_cluster.specs.Labels.{Label, Answered, Unasked, Begun, Noted, Ticket, Yielded, Stopped, Started, Pushed, Takeover, Taken}
use Rattle.ct_rules_cluster.specs.Handed.{is_among}
use Rattle.ct_register.specs.Legal
use Rattle.ct_register.specs.Legal.{AtRecord, AtDatabase, AtPlacing}
use Rattle.ct_register.specs.Placing
use Rattle.ct_store.specs.Map.{Pairs}
use Rattle.ct_register.specs.Words.{at, at_key}
use Rattle.ct_register.specs.Register
use Rattle.ct_register.specs.Register.{Register}
use Rattle.ct_register.specs.Database
use Rattle.ct_register.specs.Database.{Database}
use Rattle.ct_register.specs.Placing.{Placing}
use Rattle.ct_register.specs.Lines
use Rattle.ct_register.specs.Lines.{Lines, with_record, with_database, with_placing, also_had}
use Rattle.ct_register.specs.Births
use Rattle.ct_register.specs.Formed.{IsCounted, OwnersAreThere, IsFormed, LegalIsFormed}
use Rattle.ct_register.proofs.Places.{everywhere_at, at_same, at_other, at_all, at_each}
use Rattle.ct_register.proofs.Small.{none_not_some, nought, same}

-- ---- one register

record_formed : (g db : ℕ) (key : List ℕ) (t : Register) (r : Lines) → ((n : ℕ) → t.owner ≡ Some n → r.line n ≡ g) → IsFormed r → IsFormed (with_record g db key t r)
record_formed g db key t r mine f = record {
  owners = at_each (λ l (records : ℕ → List ℕ → Register). (db : ℕ) (key : List ℕ) (n : ℕ) → (records db key).owner ≡ Some n → r.line n ≡ l) g (at db (at_key key t (r.records g db)) (r.records g)) r.records (everywhere_at (λ (x : Register). (n : ℕ) → x.owner ≡ Some n → r.line n ≡ g) db key t (r.records g) mine (f.owners g)) (λ l _. f.owners l);
  order = f.order;
  databases = f.databases;
}

database_formed : (g db : ℕ) (d : Database) (r : Lines) → IsCounted d → IsFormed r → IsFormed (with_database g db d r)
database_formed g db d r mine f = record {
  owners = f.owners;
  order = f.order;
  databases = at_all (λ (databases : ℕ → Database). (db : ℕ) → IsCounted (databases db)) g (at db d (r.databases g)) r.databases (at_all IsCounted db d (r.databases g) mine (f.databases g)) f.databases;
}

placing_formed : (g : ℕ) (p : Placing) (r : Lines) → IsFormed r → IsFormed (with_placing g p r)
placing_formed g p r f = record { owners = f.owners; order = f.order; databases = f.databases }

address_formed : (n : ℕ) (a : Address) (is_held : Bool) (r : Lines) → IsFormed r → IsFormed (Lines.with_address n a is_held r)
address_formed n a is_held r f = record { owners = f.owners; order = f.order; databases = f.databases }

true_not_false : true ≡ false → ⊥
true_not_false e = absurd (cc)

-- ---- tickets

had_ticket : (g : ℕ) (x : Option ℕ) (leader : ℕ → Option ℕ) (line : ℕ → ℕ) (had : ℕ → ℕ → ℕ → Bool) → ((k n m : ℕ) → leader k ≡ Some m → had k n (line n) ≡ true) →
    (k n m : ℕ) → at g x leader k ≡ Some m → at g (λ m l. nat_eq (line m) l) had k n (line n) ≡ true
had_ticket g x leader line had old k n m given =
    ⊎_elim
    (λ (is : k ≡ g). subst (λ (h : ℕ → ℕ → Bool). h n (line n) ≡ true) (sym (at_same g k (λ m l. nat_eq (line m) l) had is)) (eq-eqb (line n) (line n) refl))
    (λ (ne : k ≢ g). subst (λ (h : ℕ → ℕ → Bool). h n (line n) ≡ true) (sym (at_other g k (λ m l. nat_eq (line m) l) had ne)) (old k n m (subst (λ o. o ≡ Some m) (at_other g k x leader ne) given)))
    (cases_eq k g)

ticket_formed : (g n : ℕ) (members : List ℕ) (r : Lines) → g ≡ r.last + 1 → IsFormed r → IsFormed (Lines.ticketed g n members r)
ticket_formed g n members r next f = record {
  owners = f.owners;
  order = record {
    lines = λ l b. (let k = f.order.lines l b in omega arith);
    tickets = at_each (λ l (who : Option ℕ). (m : ℕ) → who ≡ Some m → l ≤ g) g (Some n) r.leader (λ m _. (let z : g ≡ g = refl in omega arith)) (λ l _ m given. (let k = f.order.tickets l m given in omega arith));
    nodes = λ m. (let k = f.order.nodes m in omega arith);
    stays = f.order.stays;
    real = f.order.real;
    has = had_ticket g (Some n) r.leader r.line r.had f.order.has;
    phas = had_ticket g (Some n) r.leader r.pline r.phad f.order.phas;
    newer = f.order.newer;
  };
  databases = f.databases;
}

-- ---- births

fresh : (seq : ℕ) (base : Pairs (List ℕ)) (from : ℕ → Option ℕ) → IsCounted (Database.newborn seq base from)
fresh seq base from = record { acked = nought 0; open_one = nought 1; seen = λ n. nought 0 }

born_formed : (g h p : ℕ) (counts : ℕ → List ℕ → ℕ) (q : ℕ) (kept : ℕ → ℕ) (r : Lines) → r.leader g ≡ Some h → IsFormed r → IsFormed (Births.born_of g p counts q kept r)
born_formed g h p counts q kept r given f = record {
  owners = at_each (λ l (records : ℕ → List ℕ → Register). (db : ℕ) (key : List ℕ) (n : ℕ) → (records db key).owner ≡ Some n → r.line n ≡ l) g (λ db key. Register.newborn (Births.birth_list r p counts db key)) r.records (λ db key n e. absurd (none_not_some e)) (λ l _. f.owners l);
  order = record {
    lines = at_each (λ l (b : Bool). b ≡ true → l ≤ r.last) g true r.born (λ _. f.order.tickets g h given) (λ l _. f.order.lines l);
    tickets = f.order.tickets;
    nodes = f.order.nodes;
    stays = f.order.stays;
    real = λ n some. at_each (λ l (b : Bool). r.born l ≡ true → b ≡ true) g true r.born (λ _. refl) (λ l _ b. b) (r.pline n) (f.order.real n some);
    has = f.order.has;
    phas = f.order.phas;
    newer = f.order.newer;
  };
  databases = at_all (λ (databases : ℕ → Database). (db : ℕ) → IsCounted (databases db)) g (λ db. Births.base_of q (kept db) (r.databases q db)) r.databases (λ db. fresh _ _ _) f.databases;
}

-- ---- installations

had_also : (n l : ℕ) (leader : ℕ → Option ℕ) (line : ℕ → ℕ) (had : ℕ → ℕ → ℕ → Bool) → ((k m who : ℕ) → leader k ≡ Some who → had k m (line m) ≡ true) →
    (k m who : ℕ) → leader k ≡ Some who → also_had n l had k m (at n l line m) ≡ true
unfolding also_had
had_also n l leader line had old k m who given =
    ⊎_elim
    (λ (is : m ≡ n). subst (λ (h : ℕ → Bool). h (at n l line m) ≡ true) (sym (at_same n m (at l true (had k n)) (had k) is)) (at_same l (at n l line m) true (had k n) (at_same n m l line is)))
    (λ (ne : m ≢ n). subst (λ (h : ℕ → Bool). h (at n l line m) ≡ true) (sym (at_other n m (at l true (had k n)) (had k) ne)) (subst (λ v. had k m v ≡ true) (sym (at_other n m l line ne)) (old k m who given)))
    (cases_eq m n)

raised : (n g m : ℕ) (pline : ℕ → ℕ) → pline n < g → pline m ≤ at n g pline m
raised n g m pline low = at_each (λ k (c : ℕ). pline k ≤ c) n g pline (let z : pline n ≤ g = omega arith in z) (λ k _. same (pline k)) m

newest : (n g m : ℕ) (pline : ℕ → ℕ) → m ≡ n → g ≤ at n g pline m
newest n g m pline is = subst (λ c. g ≤ c) (sym (at_same n m g pline is)) (same g)

trans_le : (a b c : ℕ) → a ≤ b → b ≤ c → a ≤ c
trans_le a b c h k = omega arith

newer_joined : (g n : ℕ) (pline : ℕ → ℕ) (installed : ℕ → ℕ → Bool) → pline n < g → ((k m : ℕ) → installed k m ≡ true → k ≤ pline m) →
    (k m : ℕ) → at g (at n true (installed g)) installed k m ≡ true → k ≤ at n g pline m
newer_joined g n pline installed low old = at_each (λ k (row : ℕ → Bool). (m : ℕ) → row m ≡ true → k ≤ at n g pline m) g (at n true (installed g)) installed
    (at_each (λ m (b : Bool). b ≡ true → g ≤ at n g pline m) n true (installed g) (λ _. newest n g n pline refl) (λ m _ is. trans_le g (pline m) (at n g pline m) (old g m is) (raised n g m pline low)))
    (λ k _ m is. trans_le k (pline m) (at n g pline m) (old k m is) (raised n g m pline low))

owners_joined : (g n : ℕ) (records : ℕ → ℕ → List ℕ → Register) (line : ℕ → ℕ) → ((l db : ℕ) (key : List ℕ) → (records l db key).owner ≢ Some n) → OwnersAreThere records line → OwnersAreThere records (at n g line)
owners_joined g n records line none old l db key m is =
    ⊎_elim (λ (same : m ≡ n). absurd (none l db key (subst (λ k. (records l db key).owner ≡ Some k) same is))) (λ (ne : m ≢ n). at_other n m g line ne ∙ old l db key m is) (cases_eq m n)

joined_formed : (g n : ℕ) (r : Lines) → r.born g ≡ true → r.pline n < g → ((l db : ℕ) (key : List ℕ) → (r.records l db key).owner ≢ Some n) → IsFormed r → IsFormed (Lines.joined g n r)
joined_formed g n r b low none f = record {
  owners = at_each (λ l (records : ℕ → List ℕ → Register). (db : ℕ) (key : List ℕ) (m : ℕ) → (records db key).owner ≡ Some m → at n g r.line m ≡ l) g (λ db key. Register.joined_by n (r.records g db key)) r.records (owners_joined g n r.records r.line none f.owners g) (λ l _. owners_joined g n r.records r.line none f.owners l);
  order = record {
    lines = f.order.lines;
    tickets = f.order.tickets;
    nodes = at_all (λ c. c ≤ r.last) n g r.pline (f.order.lines g b) f.order.nodes;
    stays = λ m some. ⊎_elim (λ (is : m ≡ n). at_same n m g r.line is ∙ sym (at_same n m g r.pline is)) (λ (ne : m ≢ n). at_other n m g r.line ne ∙ f.order.stays m (λ z. some (at_other n m g r.line ne ∙ z)) ∙ sym (at_other n m g r.pline ne)) (cases_eq m n);
    real = at_all (λ c. c ≢ 0 → r.born c ≡ true) n g r.pline (λ _. b) f.order.real;
    has = had_also n g r.leader r.line r.had f.order.has;
    phas = had_also n g r.leader r.pline r.phad f.order.phas;
    newer = newer_joined g n r.pline r.installed low f.order.newer;
  };
  databases = at_all (λ (databases : ℕ → Database). (db : ℕ) → IsCounted (databases db)) g (λ db. record (r.databases g db) { seen = at n 0 (r.databases g db).seen }) r.databases (λ db. (let d : IsCounted (r.databases g db) = f.databases g db in record { acked = d.acked; open_one = d.open_one; seen = at_all (λ c. c ≤ length (r.databases g db).commits) n 0 (r.databases g db).seen (nought _) d.seen })) f.databases;
}

-- ---- stops

some_same : (k m : ℕ) → Some k ≡ Some m → k ≡ m
some_same k m e = cc

left_owner : (n m : ℕ) (owner : Option ℕ) → Register.owner_without n owner ≡ Some m → (owner ≡ Some m) × (m ≢ n)
unfolding Register.owner_without
left_owner n m None is = absurd (none_not_some is)
left_owner n m (Some k) is = cond_both (nat_eq k n) None (Some k) (λ o. o ≡ Some m → (Some k ≡ Some m) × (m ≢ n)) (λ _ e. absurd (none_not_some e))
    (λ (t : nat_eq k n ≡ false) (e : Some k ≡ Some m). (e, λ (z : m ≡ n). true_not_false (sym (eq-eqb k n (some_same k m e ∙ z)) ∙ t))) is

stopped_formed : (n : ℕ) (r : Lines) → IsFormed r → IsFormed (Lines.stopped n r)
stopped_formed n r f = record {
  owners = at_each (λ l (records : ℕ → List ℕ → Register). (db : ℕ) (key : List ℕ) (m : ℕ) → (records db key).owner ≡ Some m → at n 0 r.line m ≡ l) (r.line n) (λ db key. Register.left_by n (r.records (r.line n) db key)) r.records
      (λ db key m is. (let o = left_owner n m (r.records (r.line n) db key).owner is in at_other n m 0 r.line o.1 ∙ f.owners (r.line n) db key m o.0))
      (λ l ne db key m is. at_other n m 0 r.line (λ (z : m ≡ n). ne (sym (f.owners l db key m is) ∙ ap r.line z)) ∙ f.owners l db key m is);
  order = record {
    lines = f.order.lines;
    tickets = f.order.tickets;
    nodes = f.order.nodes;
    stays = λ m some. ⊎_elim (λ (is : m ≡ n). absurd (some (at_same n m 0 r.line is))) (λ (ne : m ≢ n). at_other n m 0 r.line ne ∙ f.order.stays m (λ z. some (at_other n m 0 r.line ne ∙ z))) (cases_eq m n);
    real = f.order.real;
    has = had_also n 0 r.leader r.line r.had f.order.has;
    phas = f.order.phas;
    newer = f.order.newer;
  };
  databases = f.databases;
}

-- ---- commits

begun_counted : (n : ℕ) (writes : List Pair) (owner : Option ℕ) (d e : Database) → Database.AcceptsBegin n writes owner d e → IsCounted d → IsCounted e
begun_counted n writes owner d e p f = subst IsCounted (sym p.2) (let more : length (d.commits ++ writes ∷ []) ≡ length d.commits + 1 = length-append d.commits (writes ∷ []) in
    let equal : d.acked ≡ length d.commits = p.1 in record {
      acked = (omega arith);
      open_one = (omega arith);
      seen = at_all (λ c. c ≤ length (d.commits ++ writes ∷ [])) n (length (d.commits ++ writes ∷ [])) d.seen (same _) (λ m. (let k = f.seen m in omega arith));
    })

pub all_seen_counted : (all : ℕ) (members missing : List ℕ) (seen : ℕ → ℕ) → ((m : ℕ) → seen m ≤ all) → (m : ℕ) → Database.all_seen all members missing seen m ≤ all
unfolding Database.all_seen
all_seen_counted all members missing seen within m = cond_both (is_among m members && not (is_among m missing)) all (seen m) (λ c. c ≤ all) (λ _. same all) (λ _. within m)

below_one_more : (n : ℕ) → n ≤ n + 1
below_one_more n = omega arith

commit_counted : (members : List ℕ) (n : ℕ) (writes : List Pair) (given : Answer) (d e : Database) → Database.AcceptsCommit members n writes given d e → IsCounted d → IsCounted e
commit_counted members n writes (answer.Committed number) d e p f = subst IsCounted (sym p.1) (record { acked = same _; open_one = below_one_more _; seen = all_seen_counted (length d.commits) members [] d.seen f.seen })
commit_counted members n writes (answer.Unsure number missing) d e p f = subst IsCounted (sym p.2) (record { acked = f.acked; open_one = f.open_one; seen = all_seen_counted (length d.commits) members missing d.seen f.seen })
commit_counted members n writes given d e p f = elim p [ ]

read_counted : (n : ℕ) (key v : List ℕ) (d e : Database) → Database.AcceptsRead n key v d e → IsCounted d → IsCounted e
read_counted n key v d e p f = subst IsCounted (sym p.5) (record { acked = f.acked; open_one = f.open_one; seen = at_all (λ c. c ≤ length d.commits) n p.0 d.seen p.3 f.seen })

-- ---- labels

record_answered : (rules : Rules) (n : ℕ) (asked : ClientOp) (given : Answer) (x t : Register) → Register.Accepts rules n asked given x t → (m : ℕ) → t.owner ≡ Some m → (x.owner ≡ Some m) ⊎ (m ≡ n)
record_answered rules n (op.Lock db key) (answer.Locked v) x t p m is = inr (some_same m n (sym is ∙ ap (λ (r : Register). r.owner) p.2))
record_answered rules n (op.Read db key) (answer.Read v) x t p m is = inl (sym (ap (λ (r : Register). r.owner) p.2) ∙ is)
record_answered rules n (op.Write db key v) answer.Written x t p m is = inl (sym (ap (λ (r : Register). r.owner) p.1) ∙ is)
record_answered rules n (op.Store db key v) answer.Stored x t p m is = inl (sym (ap (λ (r : Register). r.owner) p.1) ∙ is)
record_answered rules n (op.Unlock db key) answer.Unlocked x t p m is = absurd (none_not_some (sym (ap (λ (r : Register). r.owner) p.1) ∙ is))
record_answered rules n (op.Apply db key function arg) (answer.Applied v) x t p m is = inl (sym (ap (λ (r : Register). r.owner) p.2) ∙ is)
record_answered rules n (op.Apply db key function arg) (answer.Refused (why.TooLong k)) x t p m is = inl (sym (ap (λ (r : Register). r.owner) p.2) ∙ is)
record_answered rules n asked (answer.Refused (why.TooLong k)) x t p m is = elim p [ ]
record_answered rules n asked (answer.Refused w) x t p m is = inl (sym (ap (λ (r : Register). r.owner) p) ∙ is)
record_answered rules n asked given x t p m is = elim p [ ]

at_record_formed : (config : Config) (n db : ℕ) (key : List ℕ) (Step : Register → Register → Type 0) (r s : Lines) → ((x t : Register) → Step x t → (m : ℕ) → t.owner ≡ Some m → (x.owner ≡ Some m) ⊎ (m ≡ n)) →
    AtRecord config n db key Step r s → IsFormed r → IsFormed s
at_record_formed config n db key Step r s owns p f = subst IsFormed (sym p.4) (record_formed (r.line n) db key p.2 r
    (λ m is. ⊎_elim (λ (o : (r.records (r.line n) db key).owner ≡ Some m). f.owners (r.line n) db key m o) (λ (z : m ≡ n). ap r.line z) (owns (r.records (r.line n) db key) p.2 p.3 m is)) f)

at_database_formed : (config : Config) (n db : ℕ) (Step : Database → Database → Type 0) (r s : Lines) → ((x d : Database) → Step x d → IsCounted x → IsCounted d) →
    AtDatabase config n db Step r s → IsFormed r → IsFormed s
at_database_formed config n db Step r s counts p f = subst IsFormed (sym p.4) (database_formed (r.line n) db p.2 r (counts (r.databases (r.line n) db) p.2 p.3 (f.databases (r.line n) db)) f)

at_placing_formed : (n : ℕ) (Step : Placing → Placing → Type 0) (r s : Lines) → AtPlacing n Step r s → IsFormed r → IsFormed s
at_placing_formed n Step r s p f = subst IsFormed (sym p.3) (placing_formed (r.line n) p.1 r f)

answer_formed : (config : Config) (rules : Rules) (n : ℕ) (asked : ClientOp) (given : Answer) (r s : Lines) → Legal.AcceptsAnswer config rules n asked given r s → IsFormed r → IsFormed s
answer_formed config rules n asked (answer.Refused (why.TooLong m)) r s p f =
    at_record_formed config n (db_of asked) (key_of asked) (Register.Accepts rules n asked (answer.Refused (why.TooLong m))) r s (record_answered rules n asked (answer.Refused (why.TooLong m))) p f
answer_formed config rules n asked (answer.Refused w) r s p f = subst IsFormed (sym p.1) f
answer_formed config rules n (op.Commit db writes) given r s p f =
    at_database_formed config n db (Database.AcceptsCommit (r.members (r.line n)) n writes given) r s (commit_counted (r.members (r.line n)) n writes given) p.2 f
answer_formed config rules n (op.Read db key) (answer.Read v) r s p f = ⊎_elim
    (λ (q : AtRecord config n db key (Register.Accepts rules n (op.Read db key) (answer.Read v)) r s). at_record_formed config n db key (Register.Accepts rules n (op.Read db key) (answer.Read v)) r s (record_answered rules n (op.Read db key) (answer.Read v)) q f)
    (λ (q : AtDatabase config n db (Database.AcceptsRead n key v) r s). at_database_formed config n db (Database.AcceptsRead n key v) r s (read_counted n key v) q f) p
answer_formed config rules n asked given r s p f =
    at_record_formed config n (db_of asked) (key_of asked) (Register.Accepts rules n asked given) r s (record_answered rules n asked given) p f

note_formed : (config : Config) (n : ℕ) (noted : Note) (r s : Lines) → Legal.AcceptsNote config n noted r s → IsFormed r → IsFormed s
note_formed config n (note.Vacuumed db key) r s p f = at_record_formed config n db key Register.AcceptsVacuum r s (λ x t a m is. inl (sym (ap (λ (r : Register). r.owner) a.2) ∙ is)) p f
note_formed config n (note.Ended db key) r s p f = at_record_formed config n db key (Register.AcceptsEnd n) r s (λ x t a m is. absurd (none_not_some (sym (ap (λ (r : Register). r.owner) a.1) ∙ is))) p f
note_formed config n (note.Round g members v w) r s p f = subst IsFormed (sym p.4) (born_formed g n v p.0 w p.1 r p.2.given f)
note_formed config n (note.Installed g) r s p f = subst IsFormed (sym p.4) (joined_formed g n r p.0 p.2 p.3 f)
note_formed config n (note.Thawed g) r s p f = subst IsFormed (sym p.3) f
note_formed config n (note.Released a) r s p f = subst IsFormed (sym p.1) (address_formed n a false r f)
note_formed config n (note.Took a) r s p f = subst IsFormed (sym p.3) (address_formed n a true r f)

pub label_formed : (config : Config) (rules : Rules) (label : Label) (r s : Lines) → Legal.AcceptsLabel config rules r label s → IsFormed r → IsFormed s
label_formed config rules (Answered n asked given) r s p f = answer_formed config rules n asked given r s p f
label_formed config rules (Unasked call given) r s p f = absurd p
label_formed config rules (Begun n db writes) r s p f =
    at_database_formed config n db (Database.AcceptsBegin n writes (Legal.lock_owner config (r.line n) db r)) r s (begun_counted n writes (Legal.lock_owner config (r.line n) db r)) p f
label_formed config rules (Noted n noted) r s p f = note_formed config n noted r s p f
label_formed config rules (Ticket g n members) r s p f = subst IsFormed (sym p.2) (ticket_formed g n members r p.0 f)
label_formed config rules (Yielded n) r s p f = subst IsFormed (sym p.1) (record { owners = f.owners; order = f.order; databases = f.databases })
label_formed config rules (Stopped n) r s p f = subst IsFormed (sym p) (stopped_formed n r f)
label_formed config rules (Started n) r s p f = subst IsFormed (sym p) f
label_formed config rules (Pushed g assigned) r s p f = subst IsFormed (sym p.3) (placing_formed g p.1 r f)
label_formed config rules (Takeover n able) r s p f = at_placing_formed n (Placing.AcceptsTakeover (r.members (r.line n)) able) r s p f
label_formed config rules (Taken n g number assigned) r s p f = at_placing_formed n (Placing.AcceptsTake config.addresses number assigned) r s p.1 f

pub labels_formed : (config : Config) (rules : Rules) (labels : List Label) (r s : Lines) → Legal.AcceptsLabels config rules r labels s → IsFormed r → IsFormed s
labels_formed config rules [] r s p f = subst IsFormed (sym p) f
labels_formed config rules (label ∷ labels) r s p f = labels_formed config rules labels p.0 s p.2 (label_formed config rules label r p.0 p.1 f)

-- ---- the opening

opening_formed : (config : Config) → IsFormed (Lines.opening config)
opening_formed config = record {
  owners = λ g db key n e. absurd (none_not_some e);
  order = record {
    lines = λ g b. (let e : g ≡ 1 = eqb-true g 1 b in subst (λ k. k ≤ 1) (sym e) (same 1));
    tickets = λ g n e. absurd (none_not_some e);
    nodes = λ n. cond_both (nat_lt n config.nodes) 1 0 (λ c. c ≤ 1) (λ _. same 1) (λ _. nought 1);
    stays = λ n _. refl;
    real = λ n. cond_both (nat_lt n config.nodes) 1 0 (λ c. c ≢ 0 → nat_eq c 1 ≡ true) (λ _ _. refl) (λ _ some. absurd (some refl));
    has = λ g n m e. absurd (none_not_some e);
    phas = λ g n m e. absurd (none_not_some e);
    newer = λ g n e. absurd (true_not_false (sym e));
  };
  databases = λ g db. fresh 0 [] (λ _. None);
}

pub legal_is_formed : LegalIsFormed
legal_is_formed config rules labels s legal = labels_formed config rules labels (Lines.opening config) s legal (opening_formed config)
