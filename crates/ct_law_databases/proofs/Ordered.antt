-- What else the registers of every run look like: each node has installed the line of its persistent databases and is a member of it,
-- and no record of a persistent database is owned.
use Rattle.std.proofs.Common.{◌≡◌, ◌≢◌, ℕ, ◌+◌, ◌<◌, ◌≤◌, Bool, true, false, cond, List, [], ◌∷◌, Option, None, Some, refl, sym, ap, ◌∙◌, subst, arith, inl, inr, ⊎_elim, eqb-true}
use Rattle.std.specs.Prelude.{nat_eq, nat_lt}
use Rattle.std.proofs.lemmas.Bool.{cases_eq}
use Rattle.ct_values.specs.declared.address.Address.{Address}
use Rattle.ct_values.specs.Client.{db_of, key_of}
use Rattle.ct_values.specs.declared.client.Answer.{Answer}
use Rattle.ct_values.specs.declared.client.Answer.TheVariants as answer
use Rattle.ct_values.specs.declared.client.ClientOp.{ClientOp}
use Rattle.ct_values.specs.declared.client.ClientOp.TheVariants as op
use Rattle.ct_values.specs.declared.client.Why.TheVariants as why
use Rattle.ct_values.specs.declared.config.Config.{Config}
use Rattle.ct_values.specs.declared.config.DbKind.{DbKind}
use Rattle.ct_values.specs.declared.config.DbKind.TheVariants.{Volatile, ReadOnly, Persistent}
use Rattle.ct_frame.specs.declared.event.Note.{Note}
use Rattle.ct_frame.specs.declared.event.Note.TheVariants as note
use Rattle.ct_call.specs.Rules.{Rules}
use Rattle.ct_rules_node.specs.Node.{is_among, is_persistent, has_records, kind_at}
use Rattle.ct_rules_cluster.specs.Labels.{Label, Answered, Unasked, Begun, Noted, Ticket, Yielded, Stopped, Started, Pushed, Takeover, Taken}
use Rattle.ct_register.specs.Births
use Rattle.ct_register.specs.Database.{Database}
use Rattle.ct_register.specs.Database as database
use Rattle.ct_register.specs.Formed.{IsFormed}
use Rattle.ct_register.specs.Legal
use Rattle.ct_register.specs.Legal.{AtRecord, AtDatabase}
use Rattle.ct_register.specs.Lines
use Rattle.ct_register.specs.Lines.{Lines, with_record, also_had}
use Rattle.ct_register.specs.Register
use Rattle.ct_register.specs.Register.{Register, owner_without}
use Rattle.ct_register.specs.Words.{at, at_key}
use Rattle.ct_register.proofs.Formed.{label_formed}
use Rattle.ct_register.proofs.Places.{at_same, at_other, at_all, at_each}
use Rattle.ct_promise.specs.Promises.{IsConfig}
use Rattle.ct_law_run.proofs.Opened.{opened_lives}

-- nobody owns a record of a persistent database of these
abbrev pub Plain : Config → (ℕ → List ℕ → Register) → Type 0
Plain config records = (db : ℕ) → is_persistent (kind_at config db) ≡ true → (key : List ℕ) → (records db key).owner ≡ None

-- this line, which a node had, is one with a ticket, and the node is a member
abbrev pub IsHad : Lines → ℕ → ℕ → Type 0
IsHad r n l = (l ≢ 0) × (l ≤ r.last) × (is_among n (r.members l) ≡ true)

pub record IsOrdered (config : Config) (r : Lines) : Type 0 where
  pub based : (n : ℕ) → nat_lt n config.nodes ≡ true → r.pline n ≢ 0
  pub named : (n : ℕ) → r.pline n ≢ 0 → is_among n (r.members (r.pline n)) ≡ true
  pub had : (g n : ℕ) → nat_lt n config.nodes ≡ true → (l : ℕ) → r.phad g n l ≡ true → IsHad r n l
  pub plain : (g : ℕ) → Plain config (r.records g)

-- ---- one register

pub no_persistent : (k : Option DbKind) → has_records k ≡ true → is_persistent k ≡ false
unfolding has_records is_persistent
no_persistent None e = absurd (cc)
no_persistent (Some Volatile) e = refl
no_persistent (Some ReadOnly) e = refl
no_persistent (Some Persistent) e = absurd (cc)

record_ordered : (config : Config) (g db : ℕ) (key : List ℕ) (t : Register) (r : Lines) → is_persistent (kind_at config db) ≡ false → IsOrdered config r → IsOrdered config (with_record g db key t r)
record_ordered config g db key t r other o = record {
  based = o.based;
  named = o.named;
  had = o.had;
  plain = at_all (Plain config) g (at db (at_key key t (r.records g db)) (r.records g)) r.records
      (at_each (λ d (row : List ℕ → Register). is_persistent (kind_at config d) ≡ true → (k : List ℕ) → (row k).owner ≡ None) db (at_key key t (r.records g db)) (r.records g) (λ kind k. absurd (cc)) (λ d ne. o.plain g d))
      o.plain;
}

at_record_ordered : (config : Config) (n db : ℕ) (key : List ℕ) (Step : Register → Register → Type 0) (r s : Lines) → AtRecord config n db key Step r s → IsOrdered config r → IsOrdered config s
at_record_ordered config n db key Step r s p o = subst (IsOrdered config) (sym p.4) (record_ordered config (r.line n) db key p.2 r (no_persistent (kind_at config db) p.1) o)

at_database_ordered : (config : Config) (n db : ℕ) (Step : Database → Database → Type 0) (r s : Lines) → AtDatabase config n db Step r s → IsOrdered config r → IsOrdered config s
at_database_ordered config n db Step r s p o = subst (IsOrdered config) (sym p.4) (record { based = o.based; named = o.named; had = o.had; plain = o.plain })

-- ---- tickets, births, installations and stops

old_members : (g l : ℕ) (members : List ℕ) (r : Lines) → g ≡ r.last + 1 → l ≤ r.last → at g members r.members l ≡ r.members l
old_members g l members r next le = at_other g l members r.members (λ (is : l ≡ g). absurd (omega (arith, is, next, le)))

ticket_ordered : (config : Config) (g n : ℕ) (members : List ℕ) (r : Lines) → g ≡ r.last + 1 → IsFormed r → IsOrdered config r → IsOrdered config (Lines.ticketed g n members r)
ticket_ordered config g n members r next f o = record {
  based = o.based;
  named = λ m some. subst (λ (ms : List ℕ). is_among m ms ≡ true) (sym (old_members g (r.pline m) members r next (f.order.nodes m))) (o.named m some);
  had = λ k m lt l. at_each (λ k (row : ℕ → ℕ → Bool). row m l ≡ true → IsHad (Lines.ticketed g n members r) m l) g (λ m l. nat_eq (r.pline m) l) r.phad
      (λ e. now m lt l (eqb-true (r.pline m) l e))
      (λ k _ e. later m l (o.had k m lt l e)) k;
  plain = o.plain;
}
  where
    later : (m l : ℕ) → IsHad r m l → IsHad (Lines.ticketed g n members r) m l
    later m l h = (h.0, (let le = h.1 in omega arith), subst (λ (ms : List ℕ). is_among m ms ≡ true) (sym (old_members g l members r next h.1)) h.2)

    now : (m : ℕ) → nat_lt m config.nodes ≡ true → (l : ℕ) → r.pline m ≡ l → IsHad (Lines.ticketed g n members r) m l
    now m lt l is = subst (λ (j : ℕ). IsHad (Lines.ticketed g n members r) m j) is (later m (r.pline m) (o.based m lt, f.order.nodes m, o.named m (o.based m lt)))

born_ordered : (config : Config) (g p : ℕ) (counts : ℕ → List ℕ → ℕ) (q : ℕ) (kept : ℕ → ℕ) (r : Lines) → IsOrdered config r → IsOrdered config (Births.born_of g p counts q kept r)
born_ordered config g p counts q kept r o = record {
  based = o.based;
  named = o.named;
  had = o.had;
  plain = at_all (Plain config) g (λ db key. Register.newborn (Births.birth_list r p counts db key)) r.records (λ db kind key. refl) o.plain;
}

joined_ordered : (config : Config) (g n : ℕ) (r : Lines) → r.born g ≡ true → is_among n (r.members g) ≡ true → r.pline n < g → IsFormed r → IsOrdered config r → IsOrdered config (Lines.joined g n r)
unfolding also_had
joined_ordered config g n r born among low f o = record {
  based = λ m lt. at_each (λ m (c : ℕ). nat_lt m config.nodes ≡ true → c ≢ 0) n g r.pline (λ _. some) (λ m _. o.based m) m lt;
  named = at_each (λ m (c : ℕ). c ≢ 0 → is_among m (r.members c) ≡ true) n g r.pline (λ _. among) (λ m _. o.named m);
  had = λ k m lt l. at_each (λ m (row : ℕ → Bool). nat_lt m config.nodes ≡ true → row l ≡ true → IsHad r m l) n (at g true (r.phad k n)) (r.phad k)
      (λ there. at_each (λ l (b : Bool). b ≡ true → IsHad r n l) g true (r.phad k n) (λ _. (some, f.order.lines g born, among)) (λ l _. o.had k n there l) l)
      (λ m _ there. o.had k m there l) m lt;
  plain = at_all (Plain config) g (λ db key. Register.joined_by n (r.records g db key)) r.records (o.plain g) o.plain;
}
  where
    some : g ≢ 0
    some z = absurd (omega (arith, z, low))

without_none : (n : ℕ) (o : Option ℕ) → o ≡ None → owner_without n o ≡ None
unfolding owner_without
without_none n None e = refl
without_none n (Some m) e = absurd (cc)

stopped_ordered : (config : Config) (n : ℕ) (r : Lines) → IsOrdered config r → IsOrdered config (Lines.stopped n r)
stopped_ordered config n r o = record {
  based = o.based;
  named = o.named;
  had = o.had;
  plain = at_all (Plain config) (r.line n) (λ db key. Register.left_by n (r.records (r.line n) db key)) r.records (λ db kind key. without_none n (r.records (r.line n) db key).owner (o.plain (r.line n) db kind key)) o.plain;
}

-- ---- labels

answer_ordered : (config : Config) (rules : Rules) (n : ℕ) (asked : ClientOp) (given : Answer) (r s : Lines) → Legal.AcceptsAnswer config rules n asked given r s → IsOrdered config r → IsOrdered config s
answer_ordered config rules n asked (answer.Refused (why.TooLong m)) r s p o = at_record_ordered config n (db_of asked) (key_of asked) (Register.Accepts rules n asked (answer.Refused (why.TooLong m))) r s p o
answer_ordered config rules n asked (answer.Refused w) r s p o = subst (IsOrdered config) (sym p.1) o
answer_ordered config rules n (op.Commit db writes) given r s p o = at_database_ordered config n db (database.AcceptsCommit (r.members (r.line n)) n writes given) r s p.2 o
answer_ordered config rules n (op.Read db key) (answer.Read v) r s p o = ⊎_elim
    (λ (q : AtRecord config n db key (Register.Accepts rules n (op.Read db key) (answer.Read v)) r s). at_record_ordered config n db key (Register.Accepts rules n (op.Read db key) (answer.Read v)) r s q o)
    (λ (q : AtDatabase config n db (database.AcceptsRead n key v) r s). at_database_ordered config n db (database.AcceptsRead n key v) r s q o) p
answer_ordered config rules n asked given r s p o = at_record_ordered config n (db_of asked) (key_of asked) (Register.Accepts rules n asked given) r s p o

note_ordered : (config : Config) (n : ℕ) (noted : Note) (r s : Lines) → Legal.AcceptsNote config n noted r s → IsFormed r → IsOrdered config r → IsOrdered config s
note_ordered config n (note.Vacuumed db key) r s p f o = at_record_ordered config n db key Register.AcceptsVacuum r s p o
note_ordered config n (note.Ended db key) r s p f o = at_record_ordered config n db key (Register.AcceptsEnd n) r s p o
note_ordered config n (note.Round g members v w) r s p f o = subst (IsOrdered config) (sym p.4) (born_ordered config g v p.0 w p.1 r o)
note_ordered config n (note.Installed g) r s p f o = subst (IsOrdered config) (sym p.4) (joined_ordered config g n r p.0 p.1 p.2 f o)
note_ordered config n (note.Thawed g) r s p f o = subst (IsOrdered config) (sym p.3) o
note_ordered config n (note.Released a) r s p f o = subst (IsOrdered config) (sym p.1) (record { based = o.based; named = o.named; had = o.had; plain = o.plain })
note_ordered config n (note.Took a) r s p f o = subst (IsOrdered config) (sym p.3) (record { based = o.based; named = o.named; had = o.had; plain = o.plain })

pub label_ordered : (config : Config) (rules : Rules) (label : Label) (r s : Lines) → Legal.AcceptsLabel config rules r label s → IsFormed r → IsOrdered config r → IsOrdered config s
label_ordered config rules (Answered n asked given) r s p f o = answer_ordered config rules n asked given r s p o
label_ordered config rules (Unasked call given) r s p f o = absurd p
label_ordered config rules (Begun n db writes) r s p f o = at_database_ordered config n db (database.AcceptsBegin n writes (Legal.lock_owner config (r.line n) db r)) r s p o
label_ordered config rules (Noted n noted) r s p f o = note_ordered config n noted r s p f o
label_ordered config rules (Ticket g n members) r s p f o = subst (IsOrdered config) (sym p.2) (ticket_ordered config g n members r p.0 f o)
label_ordered config rules (Yielded n) r s p f o = subst (IsOrdered config) (sym p.1) (record { based = o.based; named = o.named; had = o.had; plain = o.plain })
label_ordered config rules (Stopped n) r s p f o = subst (IsOrdered config) (sym p) (stopped_ordered config n r o)
label_ordered config rules (Started n) r s p f o = subst (IsOrdered config) (sym p) o
label_ordered config rules (Pushed g assigned) r s p f o = subst (IsOrdered config) (sym p.3) (record { based = o.based; named = o.named; had = o.had; plain = o.plain })
label_ordered config rules (Takeover n able) r s p f o = subst (IsOrdered config) (sym p.3) (record { based = o.based; named = o.named; had = o.had; plain = o.plain })
label_ordered config rules (Taken n g number assigned) r s p f o = subst (IsOrdered config) (sym p.1.3) (record { based = o.based; named = o.named; had = o.had; plain = o.plain })

pub labels_ordered : (config : Config) (rules : Rules) (labels : List Label) (r s : Lines) → Legal.AcceptsLabels config rules r labels s → IsFormed r → IsOrdered config r → IsOrdered config s
labels_ordered config rules [] r s p f o = subst (IsOrdered config) (sym p) o
labels_ordered config rules (label ∷ labels) r s p f o = labels_ordered config rules labels p.0 s p.2 (label_formed config rules label r p.0 p.1 f) (label_ordered config rules label r p.0 p.1 f o)

-- ---- the opening

abbrev one_if : Bool → ℕ
one_if b = cond b 1 0

one_there : (b : Bool) → b ≡ true → one_if b ≢ 0
one_there true e z = absurd (cc)
one_there false e z = absurd (cc)

there_one : (b : Bool) → one_if b ≢ 0 → b ≡ true
there_one true ne = refl
there_one false ne = absurd (ne refl)

pub opening_ordered : (config : Config) → IsConfig config → IsOrdered config (Lines.opening config)
opening_ordered config is = record {
  based = λ n lt. one_there (nat_lt n config.nodes) lt;
  named = λ n some. (((opened_lives config [] is).0.nodes n (there_one (nat_lt n config.nodes) some)).named some).2;
  had = λ g n lt l e. absurd (cc);
  plain = λ g db kind key. refl;
}
