-- Labels that speak of no persistent database: they need nothing of any, and leave all of them as they were.
use Rattle.std.proofs.Common.{◌≡◌, ◌≢◌, ℕ, Bool, true, false, cond, List, [], ◌∷◌, ◌++◌, Option, None, Some, refl, sym, ap, ◌∙◌, subst, inl, inr, ⊎_elim}
use Rattle.std.specs.Prelude.{◌⊎◌, nat_eq}
use Rattle.std.specs.List.{AllByRecursion}
use Rattle.std.proofs.lemmas.Bool.{eqb-true}
use Rattle.ct_values.specs.Client.{db_of}
use Rattle.ct_values.specs.declared.client.Answer.{Answer}
use Rattle.ct_values.specs.declared.client.Answer.TheVariants as answer
use Rattle.ct_values.specs.declared.client.ClientOp.{ClientOp}
use Rattle.ct_values.specs.declared.client.ClientOp.TheVariants as op
use Rattle.ct_values.specs.declared.client.Why.{Why}
use Rattle.ct_values.specs.declared.client.Why.TheVariants as why
use Rattle.ct_values.specs.declared.config.Config.{Config}
use Rattle.ct_values.specs.declared.config.DbKind.{DbKind}
use Rattle.ct_values.specs.declared.config.DbKind.TheVariants.{Volatile, ReadOnly, Persistent}
use Rattle.ct_frame.specs.declared.event.Note.{Note}
use Rattle.ct_frame.specs.declared.event.Note.TheVariants as note
use Rattle.ct_frame.specs.declared.event.Out.{Out}
use Rattle.ct_frame.specs.declared.event.Out.TheVariants as out
use Rattle.ct_frame.specs.declared.frame.Msg.{Msg}
use Rattle.ct_frame.specs.declared.frame.Msg.TheVariants as msg
use Rattle.ct_rules_node.specs.Node.{is_persistent, has_records, kind_at}
use Rattle.ct_rules_node.specs.Clients.{is_commit}
use Rattle.ct_rules_cluster.specs.Labels.{Label, Answered, Noted, Yielded, Started, Takeover}
use Rattle.ct_rules_cluster.specs.Traces.{sent_label}
use Rattle.ct_rules_cluster.specs.declared.step.PendingCall.{PendingCall}
use Rattle.ct_register.specs.Lines.{Lines}
use Rattle.ct_register.specs.Legal.{MayRefuse}
use Rattle.ct_law_generation.specs.Shown.{labels_of, is_telling}
use Rattle.ct_law_generation.specs.Waiting.{answered}
use Rattle.ct_law_generation.proofs.Hearing.{list_more}
use Rattle.ct_law_generation.proofs.Pending.{Callers, Fits}
use Rattle.ct_law_registers.proofs.Parts.{Choice, goes, goes_on, answer_goes, note_goes, DatabasesNeed, AllNeed}
use Rattle.ct_law_registers.proofs.Facts.{Bases, bases}
use Rattle.ct_law_registers.specs.Locks.{IsNoLock, KeepsCommits}

-- whatever is chosen, where the registers are these of databases
unfoldable pub IsQuiet : Config → Bases → Label → Type 0
IsQuiet config b label = (x : Choice) (r : Lines) → bases r ≡ b → DatabasesNeed config x r label × (bases (goes config x label r) ≡ bases r)

-- ---- which labels are quiet

no_persistent : (k : Option DbKind) → has_records k ≡ true → is_persistent k ≡ false
unfolding has_records is_persistent
no_persistent None e = absurd (cc)
no_persistent (Some Volatile) e = refl
no_persistent (Some ReadOnly) e = refl
no_persistent (Some Persistent) e = absurd (cc)

-- a call that wants a record: it is of a database that has records, and it is no commit
pub record OfRecord (config : Config) (asked : ClientOp) : Type 0 where
  pub kind : has_records (kind_at config (db_of asked)) ≡ true
  pub plain : is_commit asked ≡ false

-- an unlock gives up no lock under which a commit of its node waits
unfoldable pub LeavesLock : Config → Bases → ℕ → ClientOp → Type 0
LeavesLock config b n (op.Unlock db key) = b.line n ≢ 0 → IsNoLock config n db key (b.databases (b.line n))
LeavesLock config b n asked = Unit {0}

record_needs : (config : Config) (x : Choice) (r : Lines) (n : ℕ) (asked : ClientOp) (a : Answer) → OfRecord config asked → LeavesLock config (bases r) n asked → DatabasesNeed config x r (Answered n asked a)
unfolding DatabasesNeed LeavesLock is_commit
record_needs config x r n (op.Commit db writes) a h k = absurd (let e = h.plain in cc)
record_needs config x r n (op.Read db key) (answer.Read v) h k = λ e. absurd (let k = no_persistent (kind_at config db) h.kind in cc)
record_needs config x r n asked (answer.Refused (why.TooLong m)) h k = no_persistent (kind_at config (db_of asked)) h.kind
record_needs config x r n asked (answer.Refused w) h k = tt
record_needs config x r n (op.Unlock db key) answer.Unlocked h k = (no_persistent (kind_at config db) h.kind, k)
record_needs config x r n asked a h k = no_persistent (kind_at config (db_of asked)) h.kind

record_goes : (config : Config) (x : Choice) (r : Lines) (n : ℕ) (asked : ClientOp) (a : Answer) → is_persistent (kind_at config (db_of asked)) ≡ false → bases (answer_goes config x n asked a r) ≡ bases r
unfolding answer_goes
record_goes config x r n asked (answer.Refused (why.TooLong m)) e = refl
record_goes config x r n asked (answer.Refused w) e = refl
record_goes config x r n asked a e = rw e refl

pub record_quiet : (config : Config) (b : Bases) (n : ℕ) (asked : ClientOp) (a : Answer) → OfRecord config asked → LeavesLock config b n asked → IsQuiet config b (Answered n asked a)
unfolding IsQuiet goes
record_quiet config b n asked a h k x r is = (record_needs config x r n asked a h (subst (λ (c : Bases). LeavesLock config c n asked) (sym is) k), record_goes config x r n asked a (no_persistent (kind_at config (db_of asked)) h.kind))

-- a call is refused for this only where it may be, while a commit of its database waits at the node
unfoldable pub RefusedSo : Config → Bases → ℕ → ClientOp → Why → Type 0
RefusedSo config b n (op.Commit db writes) w = b.line n ≢ 0 → kind_at config db ≡ Some Persistent → (b.databases (b.line n) db).committer ≡ Some n → w ≡ why.CommitPending
RefusedSo config b n asked w = Unit {0}

-- a call that is no commit may be refused for anything
pub plain_refused : (config : Config) (b : Bases) (n : ℕ) (asked : ClientOp) (w : Why) → is_commit asked ≡ false → RefusedSo config b n asked w
unfolding RefusedSo is_commit
plain_refused config b n (op.Commit db writes) w plain = absurd (cc)
plain_refused config b n asked w plain = tt

may_refuse : (config : Config) (r : Lines) (n : ℕ) (asked : ClientOp) (w : Why) → RefusedSo config (bases r) n asked w → MayRefuse config n asked w r
unfolding RefusedSo
may_refuse config r n (op.Commit db writes) w h = λ k. h k.0 k.1 k.2
may_refuse config r n asked w h = tt

refused_needs : (config : Config) (x : Choice) (r : Lines) (n : ℕ) (asked : ClientOp) (w : Why) → is_telling (answer.Refused w) ≡ false → RefusedSo config (bases r) n asked w → DatabasesNeed config x r (Answered n asked (answer.Refused w))
unfolding DatabasesNeed is_telling
refused_needs config x r n asked (why.TooLong m) plain h = absurd (cc)
refused_needs config x r n asked w plain h = may_refuse config r n asked w h

refused_goes : (config : Config) (x : Choice) (r : Lines) (n : ℕ) (asked : ClientOp) (w : Why) → bases (answer_goes config x n asked (answer.Refused w) r) ≡ bases r
unfolding answer_goes
refused_goes config x r n asked (why.TooLong m) = refl
refused_goes config x r n asked w = refl

pub refused_quiet : (config : Config) (b : Bases) (n : ℕ) (asked : ClientOp) (w : Why) → is_telling (answer.Refused w) ≡ false → RefusedSo config b n asked w → IsQuiet config b (Answered n asked (answer.Refused w))
unfolding IsQuiet goes
refused_quiet config b n asked w plain h x r is = (refused_needs config x r n asked w plain (subst (λ (c : Bases). RefusedSo config c n asked w) (sym is) h), refused_goes config x r n asked w)

-- a note that is quiet: all but those of rounds, of installations and of locks that end
unfoldable pub IsQuietNote : Note → Type 0
IsQuietNote (note.Round g members p q) = ⊥
IsQuietNote (note.Installed g) = ⊥
IsQuietNote (note.Ended db key) = ⊥
IsQuietNote noted = Unit {0}

pub note_quiet : (config : Config) (b : Bases) (n : ℕ) (noted : Note) → IsQuietNote noted → IsQuiet config b (Noted n noted)
unfolding IsQuiet IsQuietNote goes note_goes DatabasesNeed
note_quiet config b n (note.Round g members p q) h = absurd h
note_quiet config b n (note.Installed g) h = absurd h
note_quiet config b n (note.Vacuumed db key) h = λ x r is. (tt, refl)
note_quiet config b n (note.Ended db key) h = absurd h
note_quiet config b n (note.Thawed g) h = λ x r is. (tt, refl)
note_quiet config b n (note.Released a) h = λ x r is. (tt, refl)
note_quiet config b n (note.Took a) h = λ x r is. (tt, refl)

pub yielded_quiet : (config : Config) (b : Bases) (n : ℕ) → IsQuiet config b (Yielded n)
unfolding IsQuiet goes DatabasesNeed
yielded_quiet config b n x r is = (tt, refl)

pub started_quiet : (config : Config) (b : Bases) (n : ℕ) → IsQuiet config b (Started n)
unfolding IsQuiet goes DatabasesNeed
started_quiet config b n x r is = (tt, refl)

pub takeover_quiet : (config : Config) (b : Bases) (n : ℕ) (able : List ℕ) → IsQuiet config b (Takeover n able)
unfolding IsQuiet goes DatabasesNeed
takeover_quiet config b n able x r is = (tt, refl)

-- what a message tells by being sent is quiet
pub sent_quiet : (config : Config) (b : Bases) (n g : ℕ) (m : Msg) → AllByRecursion (IsQuiet config b) (sent_label n g m)
unfolding sent_label IsQuiet goes DatabasesNeed
sent_quiet config b n g (msg.Push members table ptables assigned) = ((λ x r is. (tt, refl)), tt)
sent_quiet config b n g (msg.Take number assigned) = ((λ x r is. (tt, refl)), tt)
sent_quiet config b n g _ = tt

-- ---- lists of labels

pub all_quiet : (config : Config) (b : Bases) (x : Choice) (ls : List Label) (r : Lines) → bases r ≡ b → AllByRecursion (IsQuiet config b) ls → AllNeed (DatabasesNeed config x) config x r ls × (bases (goes_on config x ls r) ≡ bases r)
unfolding AllNeed goes_on IsQuiet
all_quiet config b x [] r is h = (tt, refl)
all_quiet config b x (label ∷ labels) r is h = (let a = h.0 x r is in let c = all_quiet config b x labels (goes config x label r) (a.1 ∙ is) h.1 in ((a.0, c.0), c.1 ∙ a.1))

pub goes_more : (config : Config) (x : Choice) (ls ms : List Label) (r : Lines) → goes_on config x (ls ++ ms) r ≡ goes_on config x ms (goes_on config x ls r)
unfolding goes_on
goes_more config x [] ms r = refl
goes_more config x (label ∷ ls) ms r = goes_more config x ls ms (goes config x label r)

pub need_more : (Need : Lines → Label → Type 0) (config : Config) (x : Choice) (ls ms : List Label) (r : Lines) → AllNeed Need config x r ls → AllNeed Need config x (goes_on config x ls r) ms → AllNeed Need config x r (ls ++ ms)
unfolding AllNeed goes_on
need_more Need config x [] ms r h k = k
need_more Need config x (label ∷ ls) ms r h k = (h.0, need_more Need config x ls ms (goes config x label r) h.1 k)

pub labels_more : (n : ℕ) (calls : List PendingCall) (xs ys : List Out) → labels_of n calls (xs ++ ys) ≡ labels_of n calls xs ++ labels_of n calls ys
unfolding labels_of
labels_more n calls [] ys = refl
labels_more n calls (out.Send f ∷ xs) ys = ap (λ (l : List Label). sent_label f.sender f.generation f.msg ++ l) (labels_more n calls xs ys) ∙ list_more (sent_label f.sender f.generation f.msg) (labels_of n calls xs) (labels_of n calls ys)
labels_more n calls (out.Answer call a ∷ xs) ys = ap (λ (l : List Label). answered call a calls ++ l) (labels_more n calls xs ys) ∙ list_more (answered call a calls) (labels_of n calls xs) (labels_of n calls ys)
labels_more n calls (out.Note x ∷ xs) ys = ap (λ (l : List Label). Noted n x ∷ l) (labels_more n calls xs ys)

-- ---- what a node does

-- an answer to a call on a record, or a refusal that tells nothing, for what the call may be refused for
unfoldable pub IsQuietAnswer : Config → Callers → Bases → ℕ → Answer → Type 0
IsQuietAnswer config who b call (answer.Refused (why.TooLong m)) = OfRecord config (who call).1 × LeavesLock config b (who call).0 (who call).1
IsQuietAnswer config who b call (answer.Refused w) = RefusedSo config b (who call).0 (who call).1 w
IsQuietAnswer config who b call a = OfRecord config (who call).1 × LeavesLock config b (who call).0 (who call).1

-- a refusal that tells nothing is quiet
pub plain_refusal : (config : Config) (who : Callers) (b : Bases) (call : ℕ) (w : Why) → is_telling (answer.Refused w) ≡ false → RefusedSo config b (who call).0 (who call).1 w → IsQuietAnswer config who b call (answer.Refused w)
unfolding IsQuietAnswer is_telling
plain_refusal config who b call (why.TooLong m) plain h = absurd (cc)
plain_refusal config who b call w plain h = h

-- the label of an answer is that of the node and the operation of its call, or it has none
pub answered_or_not : (who : Callers) (call : ℕ) (a : Answer) (xs : List PendingCall) → AllByRecursion (Fits who) xs → (answered call a xs ≡ []) ⊎ (answered call a xs ≡ Answered (who call).0 (who call).1 a ∷ [])
unfolding answered Fits
answered_or_not who call a [] h = inl refl
answered_or_not who call a (x ∷ xs) h = by (nat_eq x.call call) refl (answered_or_not who call a xs h.1)
  where
    by : (b : Bool) → nat_eq x.call call ≡ b → ((answered call a xs ≡ []) ⊎ (answered call a xs ≡ Answered (who call).0 (who call).1 a ∷ [])) →
        (cond b (Answered x.node x.op a ∷ []) (answered call a xs) ≡ []) ⊎ (cond b (Answered x.node x.op a ∷ []) (answered call a xs) ≡ Answered (who call).0 (who call).1 a ∷ [])
    by true t rest = inr (let same : who call ≡ (x.node, x.op) = ap who (sym (eqb-true x.call call t)) ∙ h.0 in ap (λ (p : ℕ × ClientOp). Answered p.0 p.1 a ∷ []) (sym same))
    by false t rest = rest

one_answer : (config : Config) (who : Callers) (b : Bases) (call : ℕ) (a : Answer) → IsQuietAnswer config who b call a → IsQuiet config b (Answered (who call).0 (who call).1 a)
unfolding IsQuietAnswer is_telling
one_answer config who b call (answer.Refused (why.TooLong m)) h = record_quiet config b (who call).0 (who call).1 (answer.Refused (why.TooLong m)) h.0 h.1
one_answer config who b call (answer.Refused w) h = refused_quiet config b (who call).0 (who call).1 w refl h
one_answer config who b call a h = record_quiet config b (who call).0 (who call).1 a h.0 h.1

pub answer_quiet : (config : Config) (who : Callers) (b : Bases) (call : ℕ) (a : Answer) (calls : List PendingCall) → AllByRecursion (Fits who) calls → IsQuietAnswer config who b call a → AllByRecursion (IsQuiet config b) (answered call a calls)
answer_quiet config who b call a calls fits h = ⊎_elim
    (λ (e : answered call a calls ≡ []). subst (AllByRecursion (IsQuiet config b)) (sym e) tt)
    (λ (e : answered call a calls ≡ Answered (who call).0 (who call).1 a ∷ []). subst (AllByRecursion (IsQuiet config b)) (sym e) (one_answer config who b call a h, tt))
    (answered_or_not who call a calls fits)
