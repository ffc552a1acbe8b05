-- What a step at a record tells is of records of one line.
use Rattle.std.proofs.Common.{◌≡◌, ℕ, Bool, true, cond, not, List, [], ◌∷◌, ◌++◌, map, Option, Some, None, refl, sym, ap, ◌∙◌, subst, false, inl, ⊎_elim, inr}
use Rattle.std.specs.List.{AllByRecursion}
use Rattle.std.specs.Prelude.{◌⊎◌}
use Rattle.ct_values.specs.Client.{db_of}
use Rattle.ct_values.specs.declared.client.Answer.{Answer}
use Rattle.ct_values.specs.declared.client.ClientOp.{ClientOp}
use Rattle.ct_values.specs.declared.config.Config.{Config}
use Rattle.ct_values.specs.declared.config.DbKind.{DbKind}
use Rattle.ct_values.specs.declared.config.DbKind.TheVariants.{Volatile, ReadOnly, Persistent}
use Rattle.ct_frame.specs.declared.event.Note.TheVariants as note
use Rattle.ct_frame.specs.declared.frame.Msg.{Msg}
use Rattle.ct_frame.specs.declared.frame.Msg.TheVariants as msg
use Rattle.ct_rules.specs.declared.event.Act.{Act}
use Rattle.ct_rules.specs.declared.event.Act.TheVariants as act
use Rattle.ct_rules.specs.declared.event.Place.{Place}
use Rattle.ct_rules_node.specs.Records.{out_of}
use Rattle.ct_rules_node.specs.Admission.{record_in}
use Rattle.ct_rules_cluster.specs.Labels.{Label, Answered, Noted}
use Rattle.ct_rules_cluster.specs.Traces.{sent_label}
use Rattle.ct_law_generation.specs.Waiting.{answered}
use Rattle.ct_rules_cluster.specs.declared.step.PendingCall.{PendingCall}
use Rattle.ct_register.specs.Lines.{Lines}
use Rattle.ct_promise.specs.Generation.{speaks_of_records, is_note_of_records, record_labels}
use Rattle.ct_law_record.specs.Labels as law
use Rattle.ct_law_record.specs.World.{told, answers, call_of}
use Rattle.ct_law_generation.specs.Shown.{AllAsked, labels_of, Finds, IsOfLine, told_by, told_by_all}
use Rattle.ct_law_generation.proofs.Hearing.{asked_right}
use Rattle.ct_law_generation.proofs.Speaking.{Told, About}
use Rattle.ct_rules_node.specs.Node.{has_records, is_persistent, kind_at}

-- the label is of the line, and speaks of records
pub record Is_kept (config : Config) (line : ℕ) (r : Lines) (x : Label) : Type 0 where
  pub own : IsOfLine config line r x
  pub speaks : speaks_of_records config x ≡ true

pub record_quiet : (n g : ℕ) (m : Msg) (r : ℕ × List ℕ) → record_in m ≡ Some r → sent_label n g m ≡ []
unfolding record_in sent_label
record_quiet n g (msg.Push members table ptables assigned) r e = absurd (cc)
record_quiet n g (msg.Take number assigned) r e = absurd (cc)
record_quiet n g _ r e = refl

no_persistent : (k : Option DbKind) → has_records k ≡ true → is_persistent k ≡ false
unfolding has_records is_persistent
no_persistent None e = absurd (cc)
no_persistent (Some Volatile) e = refl
no_persistent (Some ReadOnly) e = refl
no_persistent (Some Persistent) e = absurd (cc)

answer_kept : (config : Config) (line : ℕ) (r : Lines) (n : ℕ) (asked : ClientOp) (a : Answer) → r.line n ≡ line → has_records (kind_at config (db_of asked)) ≡ true → Is_kept config line r (Answered n asked a)
unfolding IsOfLine speaks_of_records
answer_kept config line r n asked a l k = record { own = (no_persistent (kind_at config (db_of asked)) k, λ _. (l, k)); speaks = ap not (no_persistent (kind_at config (db_of asked)) k) }

vacuum_kept : (config : Config) (line : ℕ) (r : Lines) (n db : ℕ) (key : List ℕ) → r.line n ≡ line → has_records (kind_at config db) ≡ true → Is_kept config line r (Noted n (note.Vacuumed db key))
unfolding IsOfLine speaks_of_records is_note_of_records
vacuum_kept config line r n db key l k = record { own = (l, k); speaks = refl }

answered_kept : (config : Config) (line : ℕ) (r : Lines) (at : Place) (n call : ℕ) (a : Answer) (calls : List PendingCall) (asks : ℕ → Option ClientOp) (rest : List Label) (x : Option ClientOp) → asks call ≡ x → r.line n ≡ line → has_records (kind_at config at.db) ≡ true → Finds at.db at.key n calls asks →
    AllAsked (answers n x (act.Answer call a) ++ []) → AllByRecursion (Is_kept config line r) rest → AllByRecursion (Is_kept config line r) (answered call a calls ++ rest)
unfolding answers AllAsked
answered_kept config line r at n call a calls asks rest None e l k f h more = absurd h
answered_kept config line r at n call a calls asks rest (Some asked) e l k f h more =
    subst (λ (ls : List Label). AllByRecursion (Is_kept config line r) (ls ++ rest)) (sym (f.found call asked e a))
    (answer_kept config line r n asked a l (ap (λ (d : ℕ). has_records (kind_at config d)) (f.about call asked e).0 ∙ k), more)

asked_first : (n : ℕ) (x : Option ClientOp) (call : ℕ) (a : Answer) (more : List law.Label) → AllAsked (answers n x (act.Answer call a) ++ more) → AllAsked (answers n x (act.Answer call a) ++ [])
unfolding answers AllAsked
asked_first n None call a more h = absurd h
asked_first n (Some asked) call a more h = tt

pub labels_kept : (config : Config) (line : ℕ) (r : Lines) (at : Place) (g n : ℕ) (calls : List PendingCall) (asks : ℕ → Option ClientOp) (xs : List Act) → r.line n ≡ line → has_records (kind_at config at.db) ≡ true → Told at xs → Finds at.db at.key n calls asks →
    AllAsked (told n asks xs) → AllByRecursion (Is_kept config line r) (labels_of n calls (map (out_of g n at.db at.key) xs))
unfolding told labels_of out_of call_of Told About
labels_kept config line r at g n calls asks [] l k t f h = tt
labels_kept config line r at g n calls asks (act.Send receiver m ∷ xs) l k t f h =
    subst (λ (ls : List Label). AllByRecursion (Is_kept config line r) (ls ++ labels_of n calls (map (out_of g n at.db at.key) xs))) (sym (record_quiet n g m (at.db, at.key) t.0))
    (labels_kept config line r at g n calls asks xs l k t.1 f (asked_right (answers n (asks 0) (act.Send receiver m)) _ h))
labels_kept config line r at g n calls asks (act.Answer call a ∷ xs) l k t f h =
    answered_kept config line r at n call a calls asks _ (asks call) refl l k f (asked_first n (asks call) call a (told n asks xs) h)
    (labels_kept config line r at g n calls asks xs l k t.1 f (asked_right (answers n (asks call) (act.Answer call a)) _ h))
labels_kept config line r at g n calls asks (act.Finished floor ∷ xs) l k t f h =
    (vacuum_kept config line r n at.db at.key l k, labels_kept config line r at g n calls asks xs l k t.1 f (asked_right (answers n (asks 0) (act.Finished floor)) _ h))

-- ---- what is told beside records

-- the label does not speak of records, and tells nothing of any
pub record Is_aside (config : Config) (x : Label) : Type 0 where
  pub quiet : speaks_of_records config x ≡ false
  pub untold : (db : ℕ) (key : List ℕ) → told_by db key x ≡ []

-- the label is of the line and speaks of records, or it is aside
unfoldable pub Is_fit : Config → ℕ → Lines → Label → Type 0
Is_fit config line r x = Is_kept config line r x ⊎ Is_aside config x

pub kept_fit : (config : Config) (line : ℕ) (r : Lines) (xs : List Label) → AllByRecursion (Is_kept config line r) xs → AllByRecursion (Is_fit config line r) xs
unfolding Is_fit
kept_fit config line r [] h = tt
kept_fit config line r (x ∷ xs) h = (inl h.0, kept_fit config line r xs h.1)

first_own : (config : Config) (line : ℕ) (r : Lines) (x : Label) (rest : List Label) → Is_fit config line r x → AllByRecursion (IsOfLine config line r) rest → AllByRecursion (IsOfLine config line r) (cond (speaks_of_records config x) (x ∷ rest) rest)
unfolding Is_fit
first_own config line r x rest h k = ⊎_elim
    (λ (a : Is_kept config line r x). subst (λ (b : Bool). AllByRecursion (IsOfLine config line r) (cond b (x ∷ rest) rest)) (sym a.speaks) (a.own, k))
    (λ (a : Is_aside config x). subst (λ (b : Bool). AllByRecursion (IsOfLine config line r) (cond b (x ∷ rest) rest)) (sym a.quiet) k) h

-- those of such labels that speak of records are of the line
pub fit_own : (config : Config) (line : ℕ) (r : Lines) (xs : List Label) → AllByRecursion (Is_fit config line r) xs → AllByRecursion (IsOfLine config line r) (record_labels config xs)
fit_own config line r [] h = tt
fit_own config line r (x ∷ xs) h = first_own config line r x (record_labels config xs) h.0 (fit_own config line r xs h.1)

first_told : (config : Config) (line : ℕ) (r : Lines) (db : ℕ) (key : List ℕ) (x : Label) (rest xs : List Label) → Is_fit config line r x → told_by_all db key rest ≡ told_by_all db key xs →
    told_by_all db key (cond (speaks_of_records config x) (x ∷ rest) rest) ≡ told_by db key x ++ told_by_all db key xs
unfolding Is_fit told_by_all
first_told config line r db key x rest xs h e = ⊎_elim
    (λ (a : Is_kept config line r x). subst (λ (b : Bool). told_by_all db key (cond b (x ∷ rest) rest) ≡ told_by db key x ++ told_by_all db key xs) (sym a.speaks) (ap (λ (l : List law.Label). told_by db key x ++ l) e))
    (λ (a : Is_aside config x). subst (λ (b : Bool). told_by_all db key (cond b (x ∷ rest) rest) ≡ told_by db key x ++ told_by_all db key xs) (sym a.quiet) (e ∙ ap (λ (l : List law.Label). l ++ told_by_all db key xs) (sym (a.untold db key)))) h

-- and they tell all that is told of records
pub fit_told : (config : Config) (line : ℕ) (r : Lines) (db : ℕ) (key : List ℕ) (xs : List Label) → AllByRecursion (Is_fit config line r) xs → told_by_all db key (record_labels config xs) ≡ told_by_all db key xs
unfolding told_by_all
fit_told config line r db key [] h = refl
fit_told config line r db key (x ∷ xs) h = first_told config line r db key x (record_labels config xs) xs h.0 (fit_told config line r db key xs h.1)

-- what a message tells by being sent is aside
pub sent_fits : (config : Config) (line : ℕ) (r : Lines) (n g : ℕ) (m : Msg) → AllByRecursion (Is_fit config line r) (sent_label n g m)
unfolding sent_label Is_fit speaks_of_records told_by
sent_fits config line r n g (msg.Push members table ptables assigned) = (inr (record { quiet = refl; untold = λ db key. refl }), tt)
sent_fits config line r n g (msg.Take number assigned) = (inr (record { quiet = refl; untold = λ db key. refl }), tt)
sent_fits config line r n g _ = tt
