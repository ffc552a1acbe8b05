-- Calls, messages of records and of commits, vacuums, thaws, and what a retry sends again of records: each leaves a node in form.
use Rattle.std.proofs.Common.{◌≡◌, ℕ, zero, suc, ◌≤◌, true, false, ◌&&◌, List, [], ◌∷◌, length, Option, Some, None, refl, sym, ◌∙◌, ap, subst, arith, ⊎_elim}
use Rattle.std.proofs.lemmas.Bool.{and_from, and_parts, cases_Bool, cond_both, ltb-false, ltb-true}
use Rattle.std.specs.Prelude.{nat_eq, nat_lt, slice_get}
use Rattle.std.specs.List.{list_all}
use Rattle.ct_values.specs.Client.{is_read}
use Rattle.ct_values.specs.declared.client.ClientOp.{ClientOp}
use Rattle.ct_values.specs.declared.client.ClientOp.TheVariants as op
use Rattle.ct_values.specs.declared.client.Why.{Why}
use Rattle.ct_values.specs.declared.client.Pair.{Pair}
use Rattle.ct_values.specs.declared.config.Config.{Config}
use Rattle.ct_frame.specs.Fields.{is_db, is_from_one, is_message, well_formed}
use Rattle.ct_frame.specs.declared.event.Note.TheVariants as note
use Rattle.ct_frame.specs.declared.frame.Frame.{Frame}
use Rattle.ct_frame.specs.declared.frame.Msg.{Msg}
use Rattle.ct_frame.specs.declared.frame.Msg.TheVariants as msg
use Rattle.ct_call.specs.Rules.{Rules}
use Rattle.ct_law_rules_node.specs.Named.{comes_among}
use Rattle.ct_law_rules.specs.Form.{is_of_record}
use Rattle.ct_rules.specs.declared.state.RecState.{RecState}
use Rattle.ct_rules.specs.declared.event.MoveEvent.TheVariants as move_event
use Rattle.ct_rules_node.specs.Admission.{is_current, named_in, record_in}
use Rattle.ct_rules_node.specs.Clients.{client, is_under_lock, reads, refusal, serves, serves_or}
use Rattle.ct_rules_node.specs.Coming.{is_allowed_op}
use Rattle.ct_rules_node.specs.Node.{Database, Node, Phase, Idle, Serving, Installed, Freezing, Frozen, db_at, has_records, is_persistent, is_present, is_present_in, is_serving, kind_at, or_untouched, untouched}
use Rattle.ct_rules_node.specs.Retries.{call_all, retry_records, revoke_in}
use Rattle.ct_rules_node.specs.Rounds.{on_thaw, pending_calls, thaws}
use Rattle.ct_rules_node.specs.Steps.{if_persistent, on_record_of, vacuum_all, vacuums}
use Rattle.ct_rules_node.specs.Turn.{Turn, does, makes, notes, with_phase}
use Rattle.ct_law_form.specs.Whole.{PhaseInForm, TurnInForm, is_node_of}
use Rattle.ct_law_form.proofs.Lists.{among_all, each_among}
use Rattle.ct_law_form.proofs.Putting.{small_db}
use Rattle.ct_law_form.proofs.Turns.{answers_in_form, makes_in_form, notes_in_form, with_phase_in_form}
use Rattle.ct_law_form.proofs.Admitting.{IsServed, records_there, served, serving_present}
use Rattle.ct_law_form.proofs.Clients.{apply_called, event_in_form, lock_called, read_called, store_in_form, unlock_called, write_called, never_finishes}
use Rattle.ct_law_form.proofs.Commits.{commit_in_form, commits_of, pack_in_form, pair_in_form, pupdate_in_form, update_in_in_form, update_in_spent}
use Rattle.ct_law_form.proofs.Going.{Goes, call_all_goes, inside, pending_below, revoke_in_goes, vacuum_all_goes, want_all_goes}
use Rattle.ct_law_form.specs.Laws.{ClientsKeepForm, CommitMessagesKeepForm, RecordMessagesKeepForm, RetriesKeepForm, ThawsKeepForm, VacuumsKeepForm}

-- ---- clients

reads_in_form : (c : Config) (rules : Rules) (me call db : ℕ) (key : List ℕ) (t : Turn) → IsServed c t.node (op.Read db key) → TurnInForm c me t → (reads c rules me call db key t).spent ≡ false → TurnInForm c me (reads c rules me call db key t)
unfolding reads
reads_in_form c rules me call db key t s h unspent =
    cond_both (is_persistent (kind_at c db)) _ _ (λ (u : Turn). u.spent ≡ false → TurnInForm c me u) (λ _ e. pair_in_form c me call db key t h) (λ _ e. read_called c rules me call db key t s h (inside c me db t h s.there) e) unspent

serves_in_form : (c : Config) (rules : Rules) (me call : ℕ) (t : Turn) (o : ClientOp) → IsServed c t.node o → is_allowed_op o ≡ true → TurnInForm c me t → (serves c rules me call t o).spent ≡ false → TurnInForm c me (serves c rules me call t o)
unfolding serves is_allowed_op is_under_lock is_read
serves_in_form c rules me call t (op.Read db key) s may h unspent = reads_in_form c rules me call db key t s h unspent
serves_in_form c rules me call t (op.Store db key v) s may h unspent = store_in_form c rules me call db key v t h (inside c me db t h s.there) (s.locked refl) unspent
serves_in_form c rules me call t (op.Unlock db key) s may h unspent = unlock_called c rules me call db key t s h (inside c me db t h s.there) unspent
serves_in_form c rules me call t (op.Commit db writes) s may h unspent =
    commit_in_form c me call db writes t h (serving_present t.node.phase (s.phase (never_finishes t.node (op.Commit db writes) refl refl))) (small_db c me db t.node h.node (inside c me db t h s.there)) may unspent
serves_in_form c rules me call t (op.Lock db key) s may h unspent = lock_called c rules me call db key t s h (inside c me db t h s.there) unspent
serves_in_form c rules me call t (op.Write db key v) s may h unspent = write_called c rules me call db key v t s h (inside c me db t h s.there) unspent
serves_in_form c rules me call t (op.Apply db key f arg) s may h unspent = apply_called c rules me call db key f arg t s h (inside c me db t h s.there) unspent

serves_or_in_form : (c : Config) (rules : Rules) (me call : ℕ) (o : ClientOp) (t : Turn) (w : Option Why) → refusal c rules t.node o ≡ w → is_allowed_op o ≡ true → TurnInForm c me t → (serves_or c rules me call o t w).spent ≡ false → TurnInForm c me (serves_or c rules me call o t w)
unfolding serves_or
serves_or_in_form c rules me call o t (Some w) is may h unspent = answers_in_form c me call _ t h
serves_or_in_form c rules me call o t None is may h unspent = serves_in_form c rules me call t o (served c rules t.node o is) may h unspent

pub clients_keep_form : ClientsKeepForm
unfolding client makes
clients_keep_form c rules me call o t may h unspent = serves_or_in_form c rules me call o (makes call t) (refusal c rules t.node o) refl may (makes_in_form c me call t h) unspent

-- ---- messages of records and of commits

-- what is current is of the node's generation, in which it is present, and comes from nodes and names nodes
record IsOfMembers (c : Config) (n : Node) (f : Frame) : Type 0 where
  present : is_present n.phase ≡ true
  sender : is_node_of c f.sender ≡ true
  named : list_all (is_node_of c) (named_in f.msg) ≡ true

current : (c : Config) (me : ℕ) (t : Turn) (f : Frame) → TurnInForm c me t → is_current f t.node ≡ true → IsOfMembers c t.node f
unfolding is_current is_present_in
current c me t f h e =
    let p = and_parts _ _ e in let q = and_parts _ _ p.0 in let r = and_parts _ _ q.0 in
    record { present = r.0; sender = among_all (is_node_of c) f.sender t.node.members h.node.members_are q.1; named = each_among (is_node_of c) (named_in f.msg) t.node.members h.node.members_are p.1 }

pub message_of : (f : Frame) → well_formed f ≡ true → is_message f.sender f.msg ≡ true
message_of f e = (and_parts _ (is_message f.sender f.msg) e).1

of_record : (m : Msg) (r : ℕ × List ℕ) → record_in m ≡ Some r → is_of_record m ≡ true
unfolding record_in is_of_record
of_record m r e = grind arith

pub record_messages_keep_form : RecordMessagesKeepForm
unfolding on_record_of comes_among
record_messages_keep_form c rules me f t r is sound h unspent =
    cond_both (is_current f t.node && has_records (kind_at c r.0)) _ _ (λ (u : Turn). u.spent ≡ false → TurnInForm c me u)
    (λ ok e. (let p = and_parts (is_current f t.node) (has_records (kind_at c r.0)) ok in let m = current c me t f h p.0 in
    event_in_form c rules me r.0 r.1 (move_event.Arrive f.sender f.msg) t h (inside c me r.0 t h (records_there c r.0 p.1)) m.present (of_record f.msg r is, message_of f sound) (and_from _ _ m.sender m.named) e))
    (λ _ e. h) unspent

pupdate_parts : (sender db seq : ℕ) (ws : List Pair) → is_message sender (msg.PUpdate db seq ws) ≡ true → (is_db db ≡ true) × (is_from_one seq ≡ true)
pupdate_parts sender db seq ws e = and_parts _ _ (and_parts (is_db db && is_from_one seq) _ e).0

pub commit_messages_keep_form : CommitMessagesKeepForm
unfolding if_persistent
commit_messages_keep_form = record {
  updated = λ c me f db seq ws t is sound h. cond_both (is_current f t.node && is_persistent (kind_at c db)) _ _ (TurnInForm c me)
      (λ ok. (let p = and_parts (is_current f t.node) (is_persistent (kind_at c db)) ok in let m = current c me t f h p.0 in
      let s = pupdate_parts f.sender db seq ws (subst (λ (x : Msg). is_message f.sender x ≡ true) is (message_of f sound)) in
      pupdate_in_form c me f.sender db seq ws t h m.present m.sender s.0 s.1)) (λ _. h);
  acknowledged = λ c me f db seq t h. cond_both (is_current f t.node && is_persistent (kind_at c db)) _ _ (TurnInForm c me) (λ ok. pack_in_form c me f.sender db seq t h) (λ _. h);
}

-- ---- vacuums

no_records : (ds : List Database) (i : ℕ) → length ds ≤ i → (or_untouched (slice_get ds i)).records ≡ []
unfolding or_untouched untouched
no_records [] i l = refl
no_records (d ∷ ds) zero l = absurd (omega arith)
no_records (d ∷ ds) (suc i) l = no_records ds i (omega arith)

vacuum_goes : (c : Config) (rules : Rules) (me db : ℕ) (t : Turn) → TurnInForm c me t → is_present t.node.phase ≡ true → Goes c me t.node.phase (vacuum_all c me db (db_at db t.node).records t)
unfolding db_at vacuum_all
vacuum_goes c rules me db t h present = ⊎_elim
    (λ (l : nat_lt db (length c.dbs) ≡ true). vacuum_all_goes c rules me t.node.phase db (or_untouched (slice_get t.node.dbs db)).records t present (ltb-true db (length c.dbs) l) (λ _. record { turn = h; phase = refl }))
    (λ (l : nat_lt db (length c.dbs) ≡ false). (let k = ltb-false db (length c.dbs) l in let e = h.node.dbs in
    subst (λ (m : List (List ℕ × RecState)). Goes c me t.node.phase (vacuum_all c me db m t)) (sym (no_records t.node.dbs db (omega arith))) (λ _. record { turn = h; phase = refl })))
    (cases_Bool (nat_lt db (length c.dbs)))

pub vacuums_keep_form : VacuumsKeepForm
unfolding vacuums
vacuums_keep_form c rules me db t h unspent =
    cond_both (is_serving t.node.phase) _ _ (λ (u : Turn). u.spent ≡ false → TurnInForm c me u) (λ s e. (vacuum_goes c rules me db t h (serving_present t.node.phase s) e).turn) (λ _ e. h) unspent

-- ---- thaws

thawed_phase : (g : ℕ) (t : Turn) → (notes (note.Thawed g) (with_phase Serving t)).node.phase ≡ Serving
unfolding notes does with_phase
thawed_phase g t = refl

thaws_in_form : (c : Config) (rules : Rules) (me g : ℕ) (t : Turn) → t.node.phase ≡ Installed → TurnInForm c me t → (thaws c rules me g t).spent ≡ false → TurnInForm c me (thaws c rules me g t)
unfolding thaws PhaseInForm is_present
thaws_in_form c rules me g t is h unspent =
    let says = subst (λ (p : Phase). PhaseInForm c t.node p) is h.node.phase in
    let u = notes_in_form c me (note.Thawed g) (with_phase Serving t) (with_phase_in_form c me Serving t says h) in
    (want_all_goes c rules me Serving (pending_calls t.node) (notes (note.Thawed g) (with_phase Serving t)) refl (pending_below t.node (length c.dbs) (let e = h.node.dbs in omega arith)) (λ _. record { turn = u; phase = thawed_phase g t }) unspent).turn

pub thaws_keep_form : ThawsKeepForm
unfolding on_thaw
thaws_keep_form c rules me g t Installed is h unspent = cond_both (nat_eq t.node.generation g) _ _ (λ (u : Turn). u.spent ≡ false → TurnInForm c me u) (λ _ e. thaws_in_form c rules me g t is h e) (λ _ e. h) unspent
thaws_keep_form c rules me g t Idle is h unspent = h
thaws_keep_form c rules me g t Serving is h unspent = h
thaws_keep_form c rules me g t (Freezing j l) is h unspent = h
thaws_keep_form c rules me g t (Frozen j) is h unspent = h

-- ---- sending again

records_again : (c : Config) (me : ℕ) (t : Turn) → TurnInForm c me t → is_present t.node.phase ≡ true → Goes c me t.node.phase (revoke_in c me 0 t.node.dbs (call_all c me (pending_calls t.node) t))
records_again c me t h present =
    revoke_in_goes c me t.node.phase 0 t.node.dbs _ present (let e = h.node.dbs in omega arith)
    (call_all_goes c me t.node.phase (pending_calls t.node) t present (pending_below t.node (length c.dbs) (let e = h.node.dbs in omega arith)) (λ _. record { turn = h; phase = refl }))

pub retries_keep_form : RetriesKeepForm
unfolding retry_records
retries_keep_form c me t h unspent = cond_both (is_present t.node.phase) _ _ (λ (u : Turn). u.spent ≡ false → TurnInForm c me u)
    (λ present e. (let a = records_again c me t h present (sym (update_in_spent me 0 t.node.dbs _) ∙ e) in
    update_in_in_form c me 0 t.node.dbs _ a.turn (ap is_present a.phase ∙ present) (let d = h.node.dbs in let l = h.node.limits.dbs in omega arith) (commits_of c me t.node h.node)))
    (λ _ e. h) unspent
