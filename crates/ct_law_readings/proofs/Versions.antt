-- What a label does to the versions of a record of a line that was born.
use Rattle.std.proofs.Common.{◌≡◌, ◌≢◌, ℕ, Bool, true, false, List, [], ◌∷◌, ◌++◌, None, refl, sym, ap, ◌∙◌, subst, arith, inl, inr, ⊎_elim}
use Rattle.std.specs.Prelude.{◌⊎◌, ◌+◌, ◌≤◌, ◌&&◌, ◌||◌, if◌then◌else◌, nat_eq, bytes_eq}
use Rattle.std.specs.List.{list_any}
use Rattle.std.proofs.lemmas.Bool.{cases_Bool, eq-eqb, or_parts}
use Rattle.std.proofs.lemmas.Slice.Eq.{bytes_eq-Decides}
use Rattle.ct_values.specs.Client.{db_of, key_of}
use Rattle.ct_values.specs.declared.client.Answer.{Answer}
use Rattle.ct_values.specs.declared.client.Answer.TheVariants as answer
use Rattle.ct_values.specs.declared.client.ClientOp.{ClientOp}
use Rattle.ct_values.specs.declared.client.ClientOp.TheVariants as op
use Rattle.ct_values.specs.declared.client.Why.TheVariants as why
use Rattle.ct_values.specs.declared.config.Config.{Config}
use Rattle.ct_frame.specs.declared.event.Note.{Note}
use Rattle.ct_frame.specs.declared.event.Note.TheVariants as note
use Rattle.ct_call.specs.Rules.{Rules}
use Rattle.ct_rules_cluster.specs.Labels.{Label, Answered, Unasked, Begun, Noted, Ticket, Yielded, Stopped, Started, Pushed, Takeover, Taken}
use Rattle.ct_register.specs.Births.{birth_list, born_of}
use Rattle.ct_register.specs.Legal.{AtRecord, AtDatabase, lock_owner, AcceptsAnswer, AcceptsNote, AcceptsLabel, AcceptsLabels}
use Rattle.ct_register.specs.Lines.{Lines, with_record, with_database, with_placing, with_address, ticketed, joined, stopped}
use Rattle.ct_register.specs.Database.{Database, AcceptsBegin, AcceptsCommit, AcceptsRead}
use Rattle.ct_register.specs.Register
use Rattle.ct_register.specs.Register.{Register, newborn, joined_by, left_by}
use Rattle.ct_register.specs.Words.{at, at_key}
use Rattle.ct_register.proofs.Places.{at_other, at_each, at_key_same, at_key_other}
use Rattle.ct_promise.specs.Marked.{removes, is_removal, is_removed}
use Rattle.ct_law_readings.specs.Readings.{VersionsStep}

-- ---- which labels add a version, and which leave none

-- does the operation give a value?
unfoldable pub gives_value : ClientOp → Bool
gives_value (op.Write db key v) = true
gives_value (op.Apply db key function arg) = true
gives_value (op.Store db key v) = true
gives_value _ = false

-- is it the answer that a value was taken?
unfoldable pub is_given : Answer → Bool
is_given answer.Written = true
is_given (answer.Applied v) = true
is_given answer.Stored = true
is_given _ = false

-- is this the record that the operation speaks of?
unfoldable pub is_about : ℕ → List ℕ → ClientOp → Bool
is_about db key asked = nat_eq (db_of asked) db && bytes_eq (key_of asked) key

-- does the label add a version to the record?
unfoldable pub adds : ℕ → List ℕ → Label → Bool
adds db key (Answered n asked given) = (gives_value asked && is_given given) && is_about db key asked
adds db key _ = false

-- does it say that the record was removed?
unfoldable pub clears : ℕ → List ℕ → Label → Bool
clears db key (Noted n noted) = removes db key noted
clears db key _ = false

-- is it the note of an installation?
unfoldable pub is_installation : Note → Bool
is_installation (note.Installed g) = true
is_installation _ = false

-- does it change the line of a node?
unfoldable pub moves : Label → Bool
moves (Noted n noted) = is_installation noted
moves (Stopped n) = true
moves _ = false

-- ---- one register

-- what the label leaves of the versions of a record: all of them, or one more where it adds one, or none where it says so of this line
abbrev pub Comes : Label → Lines → ℕ → ℕ → List ℕ → Register → Type 0
Comes label r g db key x = (x.versions ≡ (r.records g db key).versions)
    ⊎ (adds db key label ≡ true) × ((v : List ℕ) × (x.versions ≡ (r.records g db key).versions ++ v ∷ []))
    ⊎ (clears db key label ≡ true) × (is_removal r g db key label ≡ true)

-- what the label does to the record of line g, and to the lines of nodes
pub record Goes (g db : ℕ) (key : List ℕ) (r : Lines) (label : Label) (s : Lines) : Type 0 where
  pub born : s.born g ≡ true
  pub lines : moves label ≡ false → s.line ≡ r.line
  pub versions : Comes label r g db key (s.records g db key)

it_is_itself : (db : ℕ) (key : List ℕ) → (nat_eq db db && bytes_eq key key) ≡ true
it_is_itself db key = rw (eq-eqb db db refl) ((bytes_eq-Decides key key).1 refl)

-- an answer that adds a version is that a value was taken, to an operation that gives one
accepts_comes : (rules : Rules) (n : ℕ) (asked : ClientOp) (given : Answer) (x y : Register) → Register.Accepts rules n asked given x y →
    (y.versions ≡ x.versions) ⊎ ((gives_value asked && is_given given) ≡ true) × ((v : List ℕ) × (y.versions ≡ x.versions ++ v ∷ []))
unfolding gives_value is_given
accepts_comes rules n (op.Lock db key) (answer.Locked v) x y p = inl (ap (λ (z : Register). z.versions) p.2)
accepts_comes rules n (op.Read db key) (answer.Read v) x y p = inl (ap (λ (z : Register). z.versions) p.2)
accepts_comes rules n (op.Write db key v) answer.Written x y p = inr (refl, (v, ap (λ (z : Register). z.versions) p.1))
accepts_comes rules n (op.Store db key v) answer.Stored x y p = inr (refl, (v, ap (λ (z : Register). z.versions) p.1))
accepts_comes rules n (op.Unlock db key) answer.Unlocked x y p = inl (ap (λ (z : Register). z.versions) p.1)
accepts_comes rules n (op.Apply db key function arg) (answer.Applied v) x y p = inr (refl, (v, ap (λ (z : Register). z.versions) p.2))
accepts_comes rules n (op.Apply db key function arg) (answer.Refused (why.TooLong m)) x y p = inl (ap (λ (z : Register). z.versions) p.2)
accepts_comes rules n asked (answer.Refused (why.TooLong m)) x y p = absurd p
accepts_comes rules n asked (answer.Refused w) x y p = inl (ap (λ (z : Register). z.versions) p)
accepts_comes rules n asked given x y p = absurd p

-- what holds of the new value at its key, and of each old one at its own, holds of each at its own
at_key_each : {X : Type 0} (P : List ℕ → X → Type 0) (key : List ℕ) (x : X) (f : List ℕ → X) → P key x → ((k : List ℕ) → P k (f k)) → (k : List ℕ) → P k (at_key key x f k)
at_key_each P key x f new old k = ⊎_elim
    (λ (t : bytes_eq k key ≡ true). (let is : k ≡ key = (bytes_eq-Decides k key).0 t in subst (λ v. P k v) (sym (at_key_same key k x f is)) (subst (λ q. P q x) (sym is) new)))
    (λ (e : bytes_eq k key ≡ false). subst (λ v. P k v) (sym (at_key_other key k x f (λ (is : k ≡ key). absurd (let t : bytes_eq k key ≡ true = (bytes_eq-Decides k key).1 is in cc)))) (old k))
    (cases_Bool (bytes_eq k key))

-- one record of a line is changed
each_record : (Q : ℕ → ℕ → List ℕ → Register → Type 0) (l d : ℕ) (k : List ℕ) (y : Register) (r : Lines) → Q l d k y → ((g db : ℕ) (key : List ℕ) → Q g db key (r.records g db key)) → (g db : ℕ) (key : List ℕ) → Q g db key ((with_record l d k y r).records g db key)
each_record Q l d k y r new old g db key =
    at_each (λ i (f : ℕ → List ℕ → Register). Q i db key (f db key)) l (at d (at_key k y (r.records l d)) (r.records l)) r.records
    (at_each (λ j (f : List ℕ → Register). Q l j key (f key)) d (at_key k y (r.records l d)) (r.records l)
    (at_key_each (λ q (x : Register). Q l d q x) k y (r.records l d) new (λ q. old l d q) key) (λ j _. old l j key) db)
    (λ i _. old i db key) g

module _ (g db : ℕ) (key : List ℕ) where
  same_goes : (label : Label) (r s : Lines) → r.born g ≡ true → s.records ≡ r.records → s.born ≡ r.born → s.line ≡ r.line → Goes g db key r label s
  same_goes label r s e records born line = record {
    born = ap (λ (f : ℕ → Bool). f g) born ∙ e;
    lines = λ _. line;
    versions = inl (ap (λ (f : ℕ → ℕ → List ℕ → Register). (f g db key).versions) records);
  }

  record_goes : (label : Label) (config : Config) (n d : ℕ) (k : List ℕ) (Step : Register → Register → Type 0) (r s : Lines) → r.born g ≡ true → ((y : Register) → Step (r.records (r.line n) d k) y → Comes label r (r.line n) d k y) →
      AtRecord config n d k Step r s → Goes g db key r label s
  record_goes label config n d k Step r s e f p = subst (λ (z : Lines). Goes g db key r label z) (sym p.4) (record {
    born = e;
    lines = λ _. refl;
    versions = each_record (λ i j q (x : Register). Comes label r i j q x) (r.line n) d k p.2 r (f p.2 p.3) (λ i j q. inl refl) g db key;
  })

  database_goes : (label : Label) (config : Config) (n d : ℕ) (Step : Database → Database → Type 0) (r s : Lines) → r.born g ≡ true → AtDatabase config n d Step r s → Goes g db key r label s
  database_goes label config n d Step r s e p = subst (λ (z : Lines). Goes g db key r label z) (sym p.4) (same_goes label r (with_database (r.line n) d p.2 r) e refl refl refl)

  -- an answer of a record
  told_goes : (config : Config) (rules : Rules) (n : ℕ) (asked : ClientOp) (given : Answer) (r s : Lines) → r.born g ≡ true → AtRecord config n (db_of asked) (key_of asked) (Register.Accepts rules n asked given) r s → Goes g db key r (Answered n asked given) s
  unfolding adds is_about
  told_goes config rules n asked given r s e p =
      record_goes (Answered n asked given) config n (db_of asked) (key_of asked) (Register.Accepts rules n asked given) r s e
      (λ y step. ⊎_elim
      (λ (same : y.versions ≡ (r.records (r.line n) (db_of asked) (key_of asked)).versions). inl same)
      (λ (more : ((gives_value asked && is_given given) ≡ true) × ((v : List ℕ) × (y.versions ≡ (r.records (r.line n) (db_of asked) (key_of asked)).versions ++ v ∷ []))).
      inr (inl (rw more.0 (it_is_itself (db_of asked) (key_of asked)), more.1)))
      (accepts_comes rules n asked given (r.records (r.line n) (db_of asked) (key_of asked)) y step)) p

  answer_goes : (config : Config) (rules : Rules) (n : ℕ) (asked : ClientOp) (given : Answer) (r s : Lines) → r.born g ≡ true → AcceptsAnswer config rules n asked given r s → Goes g db key r (Answered n asked given) s
  answer_goes config rules n asked (answer.Refused (why.TooLong m)) r s e p = told_goes config rules n asked (answer.Refused (why.TooLong m)) r s e p
  answer_goes config rules n asked (answer.Refused w) r s e p = subst (λ (z : Lines). Goes g db key r (Answered n asked (answer.Refused w)) z) (sym p.1) (same_goes (Answered n asked (answer.Refused w)) r r e refl refl refl)
  answer_goes config rules n (op.Commit d writes) given r s e p = database_goes (Answered n (op.Commit d writes) given) config n d (AcceptsCommit (r.members (r.line n)) n writes given) r s e p.2
  answer_goes config rules n (op.Read d k) (answer.Read v) r s e p = ⊎_elim
      (λ (q : AtRecord config n d k (Register.Accepts rules n (op.Read d k) (answer.Read v)) r s). told_goes config rules n (op.Read d k) (answer.Read v) r s e q)
      (λ (q : AtDatabase config n d (AcceptsRead n k v) r s). database_goes (Answered n (op.Read d k) (answer.Read v)) config n d (AcceptsRead n k v) r s e q) p
  answer_goes config rules n asked given r s e p = told_goes config rules n asked given r s e p

  -- a line that is born was none before
  birth_goes : (label : Label) (h p q : ℕ) (counts : ℕ → List ℕ → ℕ) (kept : ℕ → ℕ) (r : Lines) → r.born g ≡ true → r.born h ≡ false → Goes g db key r label (born_of h p counts q kept r)
  birth_goes label h p q counts kept r e unborn = record {
    born = at_other h g true r.born other ∙ e;
    lines = λ _. refl;
    versions = inl (ap (λ (f : ℕ → List ℕ → Register). (f db key).versions) (at_other h g (λ d k. newborn (birth_list r p counts d k)) r.records other));
  }
    where
      other : g ≢ h
      other same = absurd (let f : true ≡ false = sym e ∙ ap r.born same ∙ unborn in cc)

  joined_goes : (n h : ℕ) (r : Lines) → r.born g ≡ true → Goes g db key r (Noted n (note.Installed h)) (joined h n r)
  unfolding moves is_installation
  joined_goes n h r e = record {
    born = e;
    lines = λ t. absurd (cc);
    versions = inl (at_each (λ i (f : ℕ → List ℕ → Register). (f db key).versions ≡ (r.records i db key).versions) h (λ d k. joined_by n (r.records h d k)) r.records refl (λ i _. refl) g);
  }

  stopped_goes : (n : ℕ) (r : Lines) → r.born g ≡ true → Goes g db key r (Stopped n) (stopped n r)
  unfolding moves
  stopped_goes n r e = record {
    born = e;
    lines = λ t. absurd (cc);
    versions = inl (at_each (λ i (f : ℕ → List ℕ → Register). (f db key).versions ≡ (r.records i db key).versions) (r.line n) (λ d k. left_by n (r.records (r.line n) d k)) r.records refl (λ i _. refl) g);
  }

  note_goes : (config : Config) (n : ℕ) (noted : Note) (r s : Lines) → r.born g ≡ true → AcceptsNote config n noted r s → Goes g db key r (Noted n noted) s
  unfolding clears removes is_removal
  note_goes config n (note.Vacuumed d k) r s e p = record_goes (Noted n (note.Vacuumed d k)) config n d k Register.AcceptsVacuum r s e
      (λ y step. inr (inr (it_is_itself d k, rw (eq-eqb (r.line n) (r.line n) refl) (it_is_itself d k)))) p
  note_goes config n (note.Ended d k) r s e p = record_goes (Noted n (note.Ended d k)) config n d k (Register.AcceptsEnd n) r s e (λ y step. inl (ap (λ (z : Register). z.versions) step.1)) p
  note_goes config n (note.Round h members v w) r s e p = subst (λ (z : Lines). Goes g db key r (Noted n (note.Round h members v w)) z) (sym p.4) (birth_goes (Noted n (note.Round h members v w)) h v w p.0 p.1 r e p.2.unborn)
  note_goes config n (note.Installed h) r s e p = subst (λ (z : Lines). Goes g db key r (Noted n (note.Installed h)) z) (sym p.4) (joined_goes n h r e)
  note_goes config n (note.Thawed h) r s e p = subst (λ (z : Lines). Goes g db key r (Noted n (note.Thawed h)) z) (sym p.3) (same_goes (Noted n (note.Thawed h)) r r e refl refl refl)
  note_goes config n (note.Released a) r s e p = subst (λ (z : Lines). Goes g db key r (Noted n (note.Released a)) z) (sym p.1) (same_goes (Noted n (note.Released a)) r (with_address n a false r) e refl refl refl)
  note_goes config n (note.Took a) r s e p = subst (λ (z : Lines). Goes g db key r (Noted n (note.Took a)) z) (sym p.3) (same_goes (Noted n (note.Took a)) r (with_address n a true r) e refl refl refl)

  same_as : (label : Label) (r s t : Lines) → s ≡ t → r.born g ≡ true → t.records ≡ r.records → t.born ≡ r.born → t.line ≡ r.line → Goes g db key r label s
  same_as label r s t is e records born line = subst (λ (z : Lines). Goes g db key r label z) (sym is) (same_goes label r t e records born line)

  label_goes : (config : Config) (rules : Rules) (label : Label) (r s : Lines) → r.born g ≡ true → AcceptsLabel config rules r label s → Goes g db key r label s
  label_goes config rules (Answered n asked given) r s e p = answer_goes config rules n asked given r s e p
  label_goes config rules (Unasked call given) r s e p = absurd p
  label_goes config rules (Begun n d writes) r s e p = database_goes (Begun n d writes) config n d (AcceptsBegin n writes (lock_owner config (r.line n) d r)) r s e p
  label_goes config rules (Noted n noted) r s e p = note_goes config n noted r s e p
  label_goes config rules (Ticket h n members) r s e p = same_as (Ticket h n members) r s (ticketed h n members r) p.2 e refl refl refl
  label_goes config rules (Yielded n) r s e p = same_as (Yielded n) r s (record r { holder = None }) p.1 e refl refl refl
  label_goes config rules (Stopped n) r s e p = subst (λ (z : Lines). Goes g db key r (Stopped n) z) (sym p) (stopped_goes n r e)
  label_goes config rules (Started n) r s e p = same_as (Started n) r s r p e refl refl refl
  label_goes config rules (Pushed h assigned) r s e p = same_as (Pushed h assigned) r s (with_placing h p.1 r) p.3 e refl refl refl
  label_goes config rules (Takeover n able) r s e p = same_as (Takeover n able) r s (with_placing (r.line n) p.1 r) p.3 e refl refl refl
  label_goes config rules (Taken n h number assigned) r s e p = same_as (Taken n h number assigned) r s (with_placing (r.line n) p.1.1 r) p.1.3 e refl refl refl

-- ---- all labels of a step

-- how many of these labels add a version to the record
unfoldable pub additions : ℕ → List ℕ → List Label → ℕ
additions db key [] = 0
additions db key (x ∷ xs) = (if adds db key x then 1 else 0) + additions db key xs

-- none of these labels says that the record was removed; or none changes the line of a node, and none that removed it is of line g
abbrev pub Steady : Lines → ℕ → ℕ → List ℕ → List Label → Type 0
Steady r g db key labels = (list_any (clears db key) labels ≡ false) ⊎ (list_any moves labels ≡ false) × (is_removed r g db key labels ≡ false)

removal_like : (z r : Lines) (g db : ℕ) (key : List ℕ) (label : Label) → z.line ≡ r.line → is_removal z g db key label ≡ is_removal r g db key label
unfolding is_removal
removal_like z r g db key (Noted n noted) e = ap (λ (f : ℕ → ℕ). nat_eq (f n) g && removes db key noted) e
removal_like z r g db key _ e = refl

removed_like : (z r : Lines) (g db : ℕ) (key : List ℕ) (labels : List Label) → z.line ≡ r.line → is_removed z g db key labels ≡ is_removed r g db key labels
removed_like z r g db key [] e = refl
removed_like z r g db key (x ∷ xs) e = (λ i. removal_like z r g db key x e i || removed_like z r g db key xs e i)

steady_head : (r : Lines) (g db : ℕ) (key : List ℕ) (x : Label) (xs : List Label) → Steady r g db key (x ∷ xs) → (clears db key x ≡ true) × (is_removal r g db key x ≡ true) → ⊥
steady_head r g db key x xs h told = ⊎_elim
    (λ (e : list_any (clears db key) (x ∷ xs) ≡ false). absurd (let a = (or_parts (clears db key x) (list_any (clears db key) xs) e).0 in let b = told.0 in cc))
    (λ (e : (list_any moves (x ∷ xs) ≡ false) × (is_removed r g db key (x ∷ xs) ≡ false)). absurd (let a = (or_parts (is_removal r g db key x) (is_removed r g db key xs) e.1).0 in let b = told.1 in cc))
    h

steady_tail : (r z : Lines) (g db : ℕ) (key : List ℕ) (x : Label) (xs : List Label) → (moves x ≡ false → z.line ≡ r.line) → Steady r g db key (x ∷ xs) → Steady z g db key xs
steady_tail r z g db key x xs line h = ⊎_elim
    (λ (e : list_any (clears db key) (x ∷ xs) ≡ false). inl (or_parts (clears db key x) (list_any (clears db key) xs) e).1)
    (λ (e : (list_any moves (x ∷ xs) ≡ false) × (is_removed r g db key (x ∷ xs) ≡ false)).
    let m = or_parts (moves x) (list_any moves xs) e.0 in
    inr (m.1, removed_like z r g db key xs (line m.0) ∙ (or_parts (is_removal r g db key x) (is_removed r g db key xs) e.1).1))
    h

none_more : (b : Bool) (count : ℕ) → b ≡ true → (if b then 1 else 0) + count ≤ 1 → count ≡ 0
none_more true count t le = omega arith
none_more false count t le = absurd (cc)

others_more : (b : Bool) (count most : ℕ) → b ≡ false → (if b then 1 else 0) + count ≤ most → count ≤ most
others_more true count most f le = absurd (cc)
others_more false count most f le = omega arith

no_addition : (b : Bool) (count : ℕ) → (if b then 1 else 0) + count ≡ 0 → (b ≡ false) × (count ≡ 0)
no_addition true count e = absurd (omega arith)
no_addition false count e = (refl, omega arith)

-- labels that add none leave the versions as they are
none_added : (config : Config) (rules : Rules) (g db : ℕ) (key : List ℕ) (labels : List Label) (r s : Lines) → AcceptsLabels config rules r labels s → r.born g ≡ true → Steady r g db key labels → additions db key labels ≡ 0 →
    (s.records g db key).versions ≡ (r.records g db key).versions
unfolding additions
none_added config rules g db key [] r s p e h count = ap (λ (z : Lines). (z.records g db key).versions) p
none_added config rules g db key (x ∷ xs) r s p e h count =
    let a = label_goes g db key config rules x r p.0 e p.1 in
    let c = no_addition (adds db key x) (additions db key xs) count in
    none_added config rules g db key xs p.0 s p.2 a.born (steady_tail r p.0 g db key x xs a.lines h) c.1 ∙ ⊎_elim
    (λ (same : (p.0.records g db key).versions ≡ (r.records g db key).versions). same)
    (λ (or_else : (adds db key x ≡ true) × ((v : List ℕ) × ((p.0.records g db key).versions ≡ (r.records g db key).versions ++ v ∷ [])) ⊎ (clears db key x ≡ true) × (is_removal r g db key x ≡ true)). ⊎_elim
    (λ (more : (adds db key x ≡ true) × ((v : List ℕ) × ((p.0.records g db key).versions ≡ (r.records g db key).versions ++ v ∷ []))). absurd (let f = c.0 in let t = more.0 in cc))
    (λ (told : (clears db key x ≡ true) × (is_removal r g db key x ≡ true)). absurd (steady_head r g db key x xs h told))
    or_else)
    a.versions

-- labels of which one at most adds a version leave the versions, or add one
pub one_added : (config : Config) (rules : Rules) (g db : ℕ) (key : List ℕ) (labels : List Label) (r s : Lines) → AcceptsLabels config rules r labels s → r.born g ≡ true → Steady r g db key labels → additions db key labels ≤ 1 →
    VersionsStep false (r.records g db key).versions (s.records g db key).versions
unfolding additions VersionsStep
one_added config rules g db key [] r s p e h count = inl (ap (λ (z : Lines). (z.records g db key).versions) p)
one_added config rules g db key (x ∷ xs) r s p e h count =
    let a = label_goes g db key config rules x r p.0 e p.1 in
    let tail = steady_tail r p.0 g db key x xs a.lines h in
    ⊎_elim
    (λ (adding : adds db key x ≡ true).
    let same = none_added config rules g db key xs p.0 s p.2 a.born tail (none_more (adds db key x) (additions db key xs) adding count) in
    ⊎_elim
    (λ (e : (p.0.records g db key).versions ≡ (r.records g db key).versions). inl (same ∙ e))
    (λ (or_else : (adds db key x ≡ true) × ((v : List ℕ) × ((p.0.records g db key).versions ≡ (r.records g db key).versions ++ v ∷ [])) ⊎ (clears db key x ≡ true) × (is_removal r g db key x ≡ true)). ⊎_elim
    (λ (more : (adds db key x ≡ true) × ((v : List ℕ) × ((p.0.records g db key).versions ≡ (r.records g db key).versions ++ v ∷ []))). inr (more.1.0, same ∙ more.1.1))
    (λ (told : (clears db key x ≡ true) × (is_removal r g db key x ≡ true)). absurd (steady_head r g db key x xs h told))
    or_else)
    a.versions)
    (λ (other : adds db key x ≡ false).
    let rest : VersionsStep false (p.0.records g db key).versions (s.records g db key).versions = one_added config rules g db key xs p.0 s p.2 a.born tail (others_more (adds db key x) (additions db key xs) 1 other count) in
    ⊎_elim
    (λ (e : (p.0.records g db key).versions ≡ (r.records g db key).versions). subst (λ (l : List (List ℕ)). VersionsStep false l (s.records g db key).versions) e rest)
    (λ (or_else : (adds db key x ≡ true) × ((v : List ℕ) × ((p.0.records g db key).versions ≡ (r.records g db key).versions ++ v ∷ [])) ⊎ (clears db key x ≡ true) × (is_removal r g db key x ≡ true)). ⊎_elim
    (λ (more : (adds db key x ≡ true) × ((v : List ℕ) × ((p.0.records g db key).versions ≡ (r.records g db key).versions ++ v ∷ []))). absurd (let t = more.0 in cc))
    (λ (told : (clears db key x ≡ true) × (is_removal r g db key x ≡ true)). absurd (steady_head r g db key x xs h told))
    or_else)
    a.versions)
    (cases_Bool (adds db key x))

-- a line that was born stays
pub born_stays : (config : Config) (rules : Rules) (g : ℕ) (labels : List Label) (r s : Lines) → AcceptsLabels config rules r labels s → r.born g ≡ true → s.born g ≡ true
born_stays config rules g [] r s p e = ap (λ (z : Lines). z.born g) p ∙ e
born_stays config rules g (x ∷ xs) r s p e = born_stays config rules g xs p.0 s p.2 (label_goes g 0 [] config rules x r p.0 e p.1).born
