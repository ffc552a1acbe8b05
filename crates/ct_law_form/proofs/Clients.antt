-- A client's call at a record leaves the node in form.
use Rattle.std.proofs.Common.{◌≡◌, ℕ, ◌<◌, Bool, true, false, ◌&&◌, ◌||◌, List, length, Option, Some, None, refl, sym, ◌∙◌, ap, subst, arith, ⊎_elim}
use Rattle.std.proofs.lemmas.Bool.{cases_Bool, cond_both, or_left, or_parts}
use Rattle.std.specs.Prelude.{is_none, is_some, nat_eq}
use Rattle.ct_values.specs.Client.{is_read, wants_record}
use Rattle.ct_values.specs.declared.client.Answer.TheVariants as answer
use Rattle.ct_values.specs.declared.client.ClientOp.{ClientOp}
use Rattle.ct_values.specs.declared.client.ClientOp.TheVariants as op
use Rattle.ct_values.specs.declared.config.Config.{Config}
use Rattle.ct_frame.specs.declared.frame.Msg.TheVariants as msg
use Rattle.ct_frame.specs.declared.header.RecCopy.{RecCopy}
use Rattle.ct_call.specs.Rules.{Rules}
use Rattle.ct_law_rules_node.specs.Named.{comes_among}
use Rattle.ct_law_rules.specs.Form.{MayCome}
use Rattle.ct_rules.specs.Moves.{move, release, store}
use Rattle.ct_rules.specs.Parts.{Moving, keeps, opened_at_home, performs, reply, want, want_of}
use Rattle.ct_rules.specs.State.{is_for_reading, is_mastered, value_of, with_value}
use Rattle.ct_rules.specs.declared.event.MoveEvent.{MoveEvent}
use Rattle.ct_rules.specs.declared.event.MoveEvent.TheVariants as event
use Rattle.ct_rules.specs.declared.event.Place.{Place}
use Rattle.ct_rules.specs.declared.state.RecState.{RecState}
use Rattle.ct_rules_node.specs.Node.{Node, Phase, Idle, Serving, Installed, Freezing, Frozen, is_freezing, is_present, state_at}
use Rattle.ct_rules_node.specs.Records.{acted, at_record, out_of, place_of, put_back, view}
use Rattle.ct_rules_node.specs.Clients.{any_locked, frozen_if_unlocked, is_locked, is_under_lock, may_finish, unlocks, wants_change}
use Rattle.ct_rules_node.specs.Rounds.{frozen_state}
use Rattle.ct_rules_node.specs.Turn.{Turn}
use Rattle.ct_law_rules_node.proofs.Rounds.{sees_locks}
use Rattle.ct_law_rules_node.proofs.Quiet.{skipped, taken, not_both, some_none}
use Rattle.ct_law_form.specs.Form.{IsFormed}
use Rattle.ct_law_form.specs.Whole.{PhaseInForm, TurnInForm, is_node_of, is_sound_out}
use Rattle.ct_law_form.proofs.Formed.{left_formed}
use Rattle.ct_law_form.proofs.Putting.{RestInForm, acted_in_form, moved_in_form, rests_of, small_db}
use Rattle.ct_law_form.proofs.Turns.{posts_in_form, with_phase_in_form}
use Rattle.ct_law_form.proofs.Admitting.{IsServed, finishes, serving_present}

-- an event at a record of a node that is present
pub event_in_form : (c : Config) (rules : Rules) (me db : ℕ) (key : List ℕ) (e : MoveEvent) (t : Turn) → TurnInForm c me t → db < length t.node.dbs → is_present t.node.phase ≡ true → MayCome (state_at db key t.node) e → comes_among (is_node_of c) e ≡ true →
    (at_record c me db key (λ at o. move at rules e o) t).spent ≡ false → TurnInForm c me (at_record c me db key (λ at o. move at rules e o) t)
unfolding at_record view acted
event_in_form c rules me db key e t h l present may comes unspent =
    moved_in_form c rules me db key e (state_at db key t.node) t h l present (h.node.formed db key) (h.node.named db key) may comes (or_parts t.spent _ unspent).1

-- ---- under the lock

-- a phase says nothing of the copy, and wants no lock
copy_rests : (p : Phase) (s : RecState) (copy : Option RecCopy) → RestInForm p s → RestInForm p (record s { copy = copy })
unfolding RestInForm frozen_state
copy_rests (Freezing g leader) s copy h = ap (λ (x : RecState). record x { copy = copy }) h
copy_rests (Frozen g) s copy h = (ap (λ (x : RecState). record x { copy = copy }) h.0, h.1)
copy_rests Idle s copy h = tt
copy_rests Serving s copy h = tt
copy_rests Installed s copy h = tt

pub unlocked_rests : (p : Phase) (s : RecState) → RestInForm p s → RestInForm p (record s { locked = None })
unfolding RestInForm frozen_state
unlocked_rests (Freezing g leader) s h = ap (λ (x : RecState). record x { locked = None }) h
unlocked_rests (Frozen g) s h = (ap (λ (x : RecState). record x { locked = None }) h.0, refl)
unlocked_rests Idle s h = tt
unlocked_rests Serving s h = tt
unlocked_rests Installed s h = tt

-- the state without its lock
pub unlocked_formed : (at : Place) (next : ℕ) (s : RecState) → IsFormed at next s → IsFormed at next (record s { locked = None })
unlocked_formed at next s h =
    let f = h.form.shape in
    record {
      form = record {
        shape = record {
          sent_on = f.sent_on;
          queue_entry = f.queue_entry;
          lock_held = λ e. absurd (cc);
          revocation_held = f.revocation_held;
          lock_quiet = λ e. absurd (cc);
          revocation_tracked = f.revocation_tracked;
          lock_unwished = λ e. absurd (cc);
          vacuum_home = f.vacuum_home;
          vacuum_queue = f.vacuum_queue;
          vacuum_unlocked = λ e. refl;
          vacuum_unwished = f.vacuum_unwished;
          vacuum_quiet = f.vacuum_quiet;
          wish_wants = f.wish_wants;
          queue_asked = f.queue_asked;
          waiting_recalled = f.waiting_recalled;
        };
        numbers = h.form.numbers;
        counters = h.form.counters;
      };
      tracks = h.tracks;
      waits = h.waits;
    }

pub store_in_form : (c : Config) (rules : Rules) (me call db : ℕ) (key v : List ℕ) (t : Turn) → TurnInForm c me t → db < length t.node.dbs → is_some (state_at db key t.node).locked ≡ true →
    (at_record c me db key (λ at o. store call v o) t).spent ≡ false → TurnInForm c me (at_record c me db key (λ at o. store call v o) t)
unfolding at_record acted view store reply performs keeps out_of is_sound_out place_of
store_in_form c rules me call db key v t h l lock unspent =
    let s = state_at db key t.node in
    acted_in_form c me db key (store call v (view db key t.node)) t h l
    (left_formed (place_of c me db key t.node) rules (event.Store call v) s t.node.next _ (small_db c me db t.node h.node l) (h.node.formed db key) lock refl refl (or_parts t.spent _ unspent).1)
    (h.node.named db key) (copy_rests t.node.phase s (with_value v s.copy) (rests_of c t.node t.node.phase h.node.phase db key)) refl

pub release_in_form : (c : Config) (me call db : ℕ) (key : List ℕ) (t : Turn) → TurnInForm c me t → db < length t.node.dbs → TurnInForm c me (at_record c me db key (λ at o. release call o) t)
unfolding at_record view release reply performs keeps out_of is_sound_out place_of
release_in_form c me call db key t h l =
    let s = state_at db key t.node in
    acted_in_form c me db key (release call (view db key t.node)) t h l (unlocked_formed (place_of c me db key t.node) t.node.next s (h.node.formed db key)) (h.node.named db key) (unlocked_rests t.node.phase s (rests_of c t.node t.node.phase h.node.phase db key)) refl

-- an answer leaves the node as it is
reply_in_form : (c : Config) (me call db : ℕ) (key value : List ℕ) (t : Turn) → TurnInForm c me t → db < length t.node.dbs → TurnInForm c me (acted me db key (reply call (answer.Read value) (view db key t.node)) t)
unfolding view reply performs out_of is_sound_out place_of
reply_in_form c me call db key value t h l =
    acted_in_form c me db key (reply call (answer.Read value) (view db key t.node)) t h l (h.node.formed db key) (h.node.named db key) (rests_of c t.node t.node.phase h.node.phase db key) refl

-- a read of a locked record at its holder is answered
read_locked : (at : Place) (rules : Rules) (call db : ℕ) (key : List ℕ) (o : Moving) → is_none o.state.locked ≡ false → is_mastered at.me o.state.copy ≡ true → want at rules call (op.Read db key) o ≡ reply call (answer.Read (value_of o.state.copy)) o
unfolding want opened_at_home want_of is_read
read_locked at rules call db key o l h =
    ap (want_of at rules call (op.Read db key)) (skipped (nat_eq at.me at.lmaster && is_none o.state.locked) o _ (not_both _ _ l))
    ∙ taken (is_mastered at.me o.state.copy || is_for_reading o.state.copy) _ (reply call (answer.Read (value_of o.state.copy)) o) (or_left _ _ h)

read_in_form : (c : Config) (rules : Rules) (me call db : ℕ) (key : List ℕ) (t : Turn) → TurnInForm c me t → db < length t.node.dbs → is_some (state_at db key t.node).locked ≡ true → TurnInForm c me (at_record c me db key (λ at o. want at rules call (op.Read db key) o) t)
unfolding at_record view place_of
read_in_form c rules me call db key t h l lock =
    let s = state_at db key t.node in
    subst (λ (o : Moving). TurnInForm c me (acted me db key o t)) (sym (read_locked (place_of c me db key t.node) rules call db key (view db key t.node) (some_none s.locked lock) ((h.node.formed db key).form.shape.lock_held (some_none s.locked lock))))
    (reply_in_form c me call db key (value_of s.copy) t h l)

-- ---- a node that freezes without a lock is frozen

none_some : {X : Type 0} (x : Option X) → is_some x ≡ false → x ≡ None
none_some None e = refl
none_some (Some x) e = absurd (cc)

pub frozen_in_form : (c : Config) (me g leader : ℕ) (t : Turn) → TurnInForm c me t → t.node.phase ≡ Freezing g leader → TurnInForm c me (frozen_if_unlocked me g leader t)
unfolding frozen_if_unlocked PhaseInForm is_locked
frozen_in_form c me g leader t h is =
    let says = subst (λ (p : Phase). PhaseInForm c t.node p) is h.node.phase in
    cond_both (any_locked t.node.dbs) _ _ (TurnInForm c me) (λ _. h)
    (λ e. posts_in_form c me g leader msg.FreezeAck _ says.0 says.1 refl (with_phase_in_form c me (Frozen g) t (says.2, λ db key. none_some (state_at db key t.node).locked ((sees_locks t.node h.node.order).all e db key)) h))

kept_phase : (c : Config) (me db : ℕ) (key : List ℕ) (part : Place → Moving → Moving) (t : Turn) → (at_record c me db key part t).node.phase ≡ t.node.phase
unfolding at_record acted put_back
kept_phase c me db key part t = refl

unlocks_in_form : (c : Config) (rules : Rules) (me call db : ℕ) (key : List ℕ) (t : Turn) (p : Phase) → t.node.phase ≡ p → (is_freezing p ≡ false → is_present p ≡ true) → TurnInForm c me t → db < length t.node.dbs → is_some (state_at db key t.node).locked ≡ true →
    (unlocks c me call db key t p).spent ≡ false → TurnInForm c me (unlocks c me call db key t p)
unfolding unlocks is_freezing comes_among
unlocks_in_form c rules me call db key t (Freezing g leader) is ok h l lock unspent = frozen_in_form c me g leader _ (release_in_form c me call db key t h l) (kept_phase c me db key _ t ∙ is)
unlocks_in_form c rules me call db key t Serving is ok h l lock unspent = event_in_form c rules me db key (event.Unlock call) t h l (ap is_present is ∙ ok refl) lock refl unspent
unlocks_in_form c rules me call db key t Idle is ok h l lock unspent = event_in_form c rules me db key (event.Unlock call) t h l (ap is_present is ∙ ok refl) lock refl unspent
unlocks_in_form c rules me call db key t Installed is ok h l lock unspent = event_in_form c rules me db key (event.Unlock call) t h l (ap is_present is ∙ ok refl) lock refl unspent
unlocks_in_form c rules me call db key t (Frozen g) is ok h l lock unspent = event_in_form c rules me db key (event.Unlock call) t h l (ap is_present is ∙ ok refl) lock refl unspent

-- ---- the calls

not_freezing : (f u r l : Bool) → f ≡ false → (f && (u || r) && l) ≡ false
not_freezing true u r l e = absurd (cc)
not_freezing false u r l e = refl

-- the node is present at a call that may not finish
present_for : (c : Config) (t : Turn) (o : ClientOp) → IsServed c t.node o → may_finish t.node o ≡ false → is_present t.node.phase ≡ true
present_for c t o s f = serving_present t.node.phase (s.phase f)

pub never_finishes : (n : Node) (o : ClientOp) → is_under_lock o ≡ false → is_read o ≡ false → may_finish n o ≡ false
unfolding may_finish
never_finishes n o u r = grind arith

pub lock_called : (c : Config) (rules : Rules) (me call db : ℕ) (key : List ℕ) (t : Turn) → IsServed c t.node (op.Lock db key) → TurnInForm c me t → db < length t.node.dbs → (at_record c me db key (λ at o. want at rules call (op.Lock db key) o) t).spent ≡ false → TurnInForm c me (at_record c me db key (λ at o. want at rules call (op.Lock db key) o) t)
unfolding wants_record is_read wants_change is_under_lock comes_among
lock_called c rules me call db key t s h l unspent = event_in_form c rules me db key (event.Want call (op.Lock db key)) t h l (present_for c t (op.Lock db key) s (never_finishes t.node (op.Lock db key) refl refl)) (refl, s.unwished refl, λ _. s.unlocked refl) refl unspent

pub write_called : (c : Config) (rules : Rules) (me call db : ℕ) (key v : List ℕ) (t : Turn) → IsServed c t.node (op.Write db key v) → TurnInForm c me t → db < length t.node.dbs → (at_record c me db key (λ at o. want at rules call (op.Write db key v) o) t).spent ≡ false → TurnInForm c me (at_record c me db key (λ at o. want at rules call (op.Write db key v) o) t)
unfolding wants_record is_read wants_change is_under_lock comes_among
write_called c rules me call db key v t s h l unspent = event_in_form c rules me db key (event.Want call (op.Write db key v)) t h l (present_for c t (op.Write db key v) s (never_finishes t.node (op.Write db key v) refl refl)) (refl, s.unwished refl, λ _. s.unlocked refl) refl unspent

pub apply_called : (c : Config) (rules : Rules) (me call db : ℕ) (key : List ℕ) (f : ℕ) (arg : List ℕ) (t : Turn) → IsServed c t.node (op.Apply db key f arg) → TurnInForm c me t → db < length t.node.dbs → (at_record c me db key (λ at o. want at rules call (op.Apply db key f arg) o) t).spent ≡ false → TurnInForm c me (at_record c me db key (λ at o. want at rules call (op.Apply db key f arg) o) t)
unfolding wants_record is_read wants_change is_under_lock comes_among
apply_called c rules me call db key f arg t s h l unspent = event_in_form c rules me db key (event.Want call (op.Apply db key f arg)) t h l (present_for c t (op.Apply db key f arg) s (never_finishes t.node (op.Apply db key f arg) refl refl)) (refl, s.unwished refl, λ _. s.unlocked refl) refl unspent

pub read_called : (c : Config) (rules : Rules) (me call db : ℕ) (key : List ℕ) (t : Turn) → IsServed c t.node (op.Read db key) → TurnInForm c me t → db < length t.node.dbs → (at_record c me db key (λ at o. want at rules call (op.Read db key) o) t).spent ≡ false → TurnInForm c me (at_record c me db key (λ at o. want at rules call (op.Read db key) o) t)
unfolding wants_record is_read comes_among
read_called c rules me call db key t s h l unspent = ⊎_elim
    (λ (e : may_finish t.node (op.Read db key) ≡ true). read_in_form c rules me call db key t h l (finishes t.node (op.Read db key) e).1)
    (λ (e : may_finish t.node (op.Read db key) ≡ false). event_in_form c rules me db key (event.Want call (op.Read db key)) t h l (present_for c t (op.Read db key) s e) (refl, s.unwished refl, λ n. absurd (cc)) refl unspent)
    (cases_Bool (may_finish t.node (op.Read db key)))

pub unlock_called : (c : Config) (rules : Rules) (me call db : ℕ) (key : List ℕ) (t : Turn) → IsServed c t.node (op.Unlock db key) → TurnInForm c me t → db < length t.node.dbs → (unlocks c me call db key t t.node.phase).spent ≡ false → TurnInForm c me (unlocks c me call db key t t.node.phase)
unfolding is_under_lock may_finish
unlock_called c rules me call db key t s h l unspent = unlocks_in_form c rules me call db key t t.node.phase refl (λ f. present_for c t (op.Unlock db key) s (not_freezing (is_freezing t.node.phase) (is_under_lock (op.Unlock db key)) (is_read (op.Unlock db key)) (is_locked db key t.node) f)) h l (s.locked refl) unspent
