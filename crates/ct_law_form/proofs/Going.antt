-- Where records are stepped through one after the other, the node stays in form, in its phase.
use Rattle.std.proofs.Common.{◌≡◌, ℕ, ◌+◌, ◌<◌, ◌≤◌, Bool, true, false, cond, ◌==◌, List, [], ◌∷◌, ◌++◌, length, Option, Some, None, refl, sym, ◌∙◌, ap, subst, arith}
use Rattle.std.proofs.lemmas.Bool.{and_parts, ltb-true, or_parts}
use Rattle.std.specs.Prelude.{is_none, nat_lt}
use Rattle.std.specs.List.{AllByRecursion, list_all}
use Rattle.std.specs.List.Sorted.{IsStrictlyIncreasing, IsStrictlySortedBy}
use Rattle.std.specs.Ordering.{nat_cmp}
use Rattle.std.specs.declared.cmp.Ordering.TheVariants.{Less}
use Rattle.std.specs.Cmp.{nat_cmp_is, nat_cmp_total}
use Rattle.std.proofs.lemmas.Map.Keys.{IsStrictlyIncreasing-from_sorted}
use Rattle.ct_values.specs.Words.{others}
use Rattle.ct_values.specs.Client.{wants_record}
use Rattle.ct_values.specs.declared.config.Config.{Config}
use Rattle.ct_frame.specs.declared.frame.Msg.{Msg}
use Rattle.ct_call.specs.Rules.{Rules}
use Rattle.ct_tracking.specs.Tracked.{Revocation}
use Rattle.ct_store.specs.Map.{Pairs}
use Rattle.ct_frame.specs.Fields.{ascends, ascends_after}
use Rattle.ct_tracking.proofs.Nodes.{ascends_others}
use Rattle.ct_law_rules_node.specs.Named.{NamesOnly, StaysAmong, comes_among}
use Rattle.ct_law_rules_node.proofs.Events.{others_all, resends_named}
use Rattle.ct_law_rules.specs.Form.{wished_as, wishes_record}
use Rattle.ct_law_rules.specs.Sent.{is_well_formed}
use Rattle.ct_law_rules.proofs.Formed.{send_all_rest}
use Rattle.ct_law_rules.proofs.SentEvents.{begins_sent, call_again_sent, revoke_again_sent, sent_sound}
use Rattle.ct_rules.specs.Moves.{begins, call_again, call_again_of, revoke_again, revoke_again_of, vacuum}
use Rattle.ct_rules.specs.Parts.{Moving, keeps, performs, send, send_all}
use Rattle.ct_rules.specs.declared.event.MoveEvent.TheVariants as event
use Rattle.ct_rules.specs.declared.event.Place.{Place}
use Rattle.ct_rules.specs.declared.state.RecState.{RecState}
use Rattle.ct_rules.specs.declared.state.Wish.{Wish}
use Rattle.ct_rules_node.specs.Node.{Node, Database, Phase, db_at, is_present, state_at}
use Rattle.ct_rules_node.specs.Records.{acted, at_record, place_of, put_back, view}
use Rattle.ct_rules_node.specs.Rounds.{Called, called_of, calls_in, calls_of, pending_calls, want_again, want_again_of, want_all}
use Rattle.ct_rules_node.specs.Retries.{call_all, revoke_all, revoke_in}
use Rattle.ct_rules_node.specs.Steps.{vacuum_all}
use Rattle.ct_rules_node.specs.Turn.{Turn}
use Rattle.ct_law_rules_node.proofs.Numbered.{numbered_all}
use Rattle.ct_law_form.specs.Form.{IsFormed}
use Rattle.ct_law_form.specs.Whole.{TurnInForm, is_node_of}
use Rattle.ct_law_form.proofs.Formed.{formed_same}
use Rattle.ct_law_form.proofs.Putting.{acted_in_form, master_configured, moved_in_form, present_generation, present_rests, small_db, sound_acts}

-- ---- amid a step

-- the turn is in form, and the node in this phase
pub record Amid (c : Config) (me : ℕ) (p : Phase) (t : Turn) : Type 0 where
  pub turn : TurnInForm c me t
  pub phase : t.node.phase ≡ p

-- it is so unless a number was spent
abbrev pub Goes : Config → ℕ → Phase → Turn → Type 0
Goes c me p t = t.spent ≡ false → Amid c me p t

-- a step at a record goes on
pub record_goes : (c : Config) (me : ℕ) (p : Phase) (db : ℕ) (key : List ℕ) (part : Place → Moving → Moving) (t : Turn) → Goes c me p t →
    (TurnInForm c me t → t.node.phase ≡ p → (part (place_of c me db key t.node) (view db key t.node)).spent ≡ false → TurnInForm c me (at_record c me db key part t)) → Goes c me p (at_record c me db key part t)
unfolding at_record acted put_back
record_goes c me p db key part t h step e =
    let s = or_parts t.spent (part (place_of c me db key t.node) (view db key t.node)).spent e in
    let a = h s.0 in
    record { turn = step a.turn a.phase s.1; phase = a.phase }

-- a database of the configuration is one of the node
pub inside : (c : Config) (me db : ℕ) (t : Turn) → TurnInForm c me t → db < length c.dbs → db < length t.node.dbs
inside c me db t h l = (let e = h.node.dbs in omega arith)

-- ---- what leaves the state of a record

-- the state and the numbers are as they were
pub record Leaves (o p : Moving) : Type 0 where
  pub state : p.state ≡ o.state
  pub next : p.next ≡ o.next
  pub floor : p.floor ≡ o.floor

leaves_if : (b : Bool) (o x y : Moving) → Leaves o x → Leaves o y → Leaves o (cond b x y)
leaves_if true o x y h k = h
leaves_if false o x y h k = k

leaves_same : (o : Moving) → Leaves o o
leaves_same o = record { state = refl; next = refl; floor = refl }

send_leaves : (n : ℕ) (m : Msg) (o : Moving) → Leaves o (send n m o)
unfolding send performs
send_leaves n m o = record { state = refl; next = refl; floor = refl }

send_all_leaves : (ns : List ℕ) (m : Msg) (o : Moving) → Leaves o (send_all ns m o)
send_all_leaves ns m o = (let r = send_all_rest ns m o in record { state = r.0; next = r.1; floor = r.2 })

call_leaves : (at : Place) (o : Moving) (w : Option Wish) → Leaves o (call_again_of at o w)
unfolding call_again_of
call_leaves at o None = leaves_same o
call_leaves at o (Some w) = leaves_if (w.request == 0) o _ _ (leaves_same o) (send_leaves _ _ o)

revoke_leaves : (at : Place) (o : Moving) (r : Option Revocation) → Leaves o (revoke_again_of at o r)
unfolding revoke_again_of
revoke_leaves at o None = leaves_same o
revoke_leaves at o (Some r) = send_all_leaves _ _ o

-- what is left so is in form, at its place
leaves_formed : (at : Place) (next : ℕ) (s : RecState) (o : Moving) → Leaves (begins s next at.floor) o → IsFormed at next s → IsFormed (record at { floor = o.floor }) o.next o.state
leaves_formed at next s o l h = subst (λ (n : ℕ). IsFormed (record at { floor = o.floor }) n o.state) (sym l.next) (formed_same at next o.floor at.floor o.state s l.floor l.state h)

-- such a part, at a node that is present
resent_in_form : (c : Config) (me db : ℕ) (key : List ℕ) (o : Moving) (t : Turn) → TurnInForm c me t → db < length t.node.dbs → is_present t.node.phase ≡ true → Leaves (begins (state_at db key t.node) t.node.next (db_at db t.node).floor) o →
    list_all (is_well_formed me) o.acts ≡ true → StaysAmong (is_node_of c) o → TurnInForm c me (acted me db key o t)
unfolding place_of
resent_in_form c me db key o t h l present leaves sound among =
    acted_in_form c me db key o t h l (leaves_formed (place_of c me db key t.node) t.node.next (state_at db key t.node) o leaves (h.node.formed db key)) among.0 (present_rests t.node.phase o.state present)
    (sound_acts c me t.node.generation db key o.acts h.node.limits h.node.own (present_generation c me t.node h.node present) sound among.1)

-- ---- the Call and the Revoke of a retry

lmaster_is : (c : Config) (me db : ℕ) (key : List ℕ) (t : Turn) → TurnInForm c me t → is_node_of c (place_of c me db key t.node).lmaster ≡ true
unfolding place_of
lmaster_is c me db key t h = master_configured c me t.node.members key h.node.own h.node.members_are

pub call_in_form : (c : Config) (me db : ℕ) (key : List ℕ) (t : Turn) → TurnInForm c me t → db < length t.node.dbs → is_present t.node.phase ≡ true → (call_again (place_of c me db key t.node) (view db key t.node)).spent ≡ false → TurnInForm c me (at_record c me db key call_again t)
unfolding at_record view call_again place_of
call_in_form c me db key t h l present unspent =
    let at = place_of c me db key t.node in
    let s = state_at db key t.node in
    let f = h.node.formed db key in
    let b = begins_sent at s t.node.next (small_db c me db t.node h.node l) f.form f.waits in
    let sent = sent_sound at _ unspent (call_again_sent at (begins s t.node.next (db_at db t.node).floor) s.wish refl b) in
    resent_in_form c me db key _ t h l present (call_leaves at (begins s t.node.next (db_at db t.node).floor) s.wish) sent.0
    (resends_named (is_node_of c) at s t.node.next (db_at db t.node).floor (lmaster_is c me db key t h) (h.node.named db key)).0

pub revoke_in_form : (c : Config) (me db : ℕ) (key : List ℕ) (t : Turn) → TurnInForm c me t → db < length t.node.dbs → is_present t.node.phase ≡ true → (revoke_again (place_of c me db key t.node) (view db key t.node)).spent ≡ false → TurnInForm c me (at_record c me db key revoke_again t)
unfolding at_record view revoke_again place_of
revoke_in_form c me db key t h l present unspent =
    let at = place_of c me db key t.node in
    let s = state_at db key t.node in
    let f = h.node.formed db key in
    let b = begins_sent at s t.node.next (small_db c me db t.node h.node l) f.form f.waits in
    let sent = sent_sound at _ unspent (revoke_again_sent at (begins s t.node.next (db_at db t.node).floor) s.tracking.revoking refl b) in
    resent_in_form c me db key _ t h l present (revoke_leaves at (begins s t.node.next (db_at db t.node).floor) s.tracking.revoking) sent.0
    (resends_named (is_node_of c) at s t.node.next (db_at db t.node).floor (lmaster_is c me db key t h) (h.node.named db key)).1

-- ---- the call of a wish, anew

-- the state with its wish cleared
cleared_formed : (at : Place) (next : ℕ) (s : RecState) → IsFormed at next s → IsFormed at next (record s { wish = None })
unfolding wishes_record wished_as
cleared_formed at next s h =
    let f = h.form.shape in let n = h.form.numbers in
    record {
      form = record {
        shape = record {
          sent_on = f.sent_on;
          queue_entry = f.queue_entry;
          lock_held = f.lock_held;
          revocation_held = f.revocation_held;
          lock_quiet = f.lock_quiet;
          revocation_tracked = f.revocation_tracked;
          lock_unwished = λ e. refl;
          vacuum_home = f.vacuum_home;
          vacuum_queue = f.vacuum_queue;
          vacuum_unlocked = f.vacuum_unlocked;
          vacuum_unwished = λ e. refl;
          vacuum_quiet = f.vacuum_quiet;
          wish_wants = refl;
          queue_asked = f.queue_asked;
          waiting_recalled = f.waiting_recalled;
        };
        numbers = record { copy_limit = n.copy_limit; least_limit = n.least_limit; request_limit = n.request_limit; revocation_limit = n.revocation_limit; vacuum_limit = n.vacuum_limit; wish_limit = omega arith };
        counters = h.form.counters;
      };
      tracks = h.tracks;
      waits = h.waits;
    }

cleared_named : (is : ℕ → Bool) (s : RecState) → NamesOnly is s → NamesOnly is (record s { wish = None })
cleared_named is s h = h

unlocked_or : (locked : Option ℕ) (w : Option Wish) (x : Wish) → w ≡ Some x → (is_none locked ≡ false → is_none w ≡ true) → locked ≡ None
unlocked_or None w x e h = refl
unlocked_or (Some call) w x e h = absurd (let k = h refl in let f : is_none w ≡ false = ap (λ (y : Option Wish). is_none y) e in cc)

again_in_form : (c : Config) (rules : Rules) (me db : ℕ) (key : List ℕ) (t : Turn) (w : Option Wish) → (state_at db key t.node).wish ≡ w → TurnInForm c me t → db < length t.node.dbs → is_present t.node.phase ≡ true →
    (want_again_of (place_of c me db key t.node) rules (view db key t.node) w).spent ≡ false → TurnInForm c me (acted me db key (want_again_of (place_of c me db key t.node) rules (view db key t.node) w) t)
unfolding want_again_of view keeps wants_record wishes_record comes_among
again_in_form c rules me db key t None is h l present unspent =
    resent_in_form c me db key _ t h l present (leaves_same _) refl (h.node.named db key, refl)
again_in_form c rules me db key t (Some w) is h l present unspent =
    let s = state_at db key t.node in
    let f = h.node.formed db key in
    moved_in_form c rules me db key (event.Want w.call w.op) (record s { wish = None }) t h l present (cleared_formed (place_of c me db key t.node) t.node.next s f) (cleared_named (is_node_of c) s (h.node.named db key))
    (wants w f.form.shape.wish_wants is, refl, λ e. unlocked_or s.locked s.wish w is f.form.shape.lock_unwished) refl unspent
  where
    wants : (w : Wish) → wishes_record (state_at db key t.node).wish ≡ true → (state_at db key t.node).wish ≡ Some w → wants_record w.op ≡ true
    wants w e is = subst (λ (x : Option Wish). wishes_record x ≡ true) is e

pub want_in_form : (c : Config) (rules : Rules) (me db : ℕ) (key : List ℕ) (t : Turn) → TurnInForm c me t → db < length t.node.dbs → is_present t.node.phase ≡ true → (want_again rules (place_of c me db key t.node) (view db key t.node)).spent ≡ false → TurnInForm c me (at_record c me db key (want_again rules) t)
unfolding at_record want_again view
want_in_form c rules me db key t h l present unspent = again_in_form c rules me db key t (state_at db key t.node).wish refl h l present unspent

-- ---- vacuums

less : (a b : ℕ) → nat_lt a b ≡ true → nat_cmp a b ≡ Less
less a b h = sym (nat_cmp_is a b Less (ltb-true a b h))

above : (a b : ℕ) (ns : List ℕ) → nat_cmp a b ≡ Less → AllByRecursion (λ n. nat_cmp b n ≡ Less) ns → AllByRecursion (λ n. nat_cmp a n ≡ Less) ns
above a b [] l h = tt
above a b (n ∷ ns) l h = (nat_cmp_total.trans a b n l h.0, above a b ns l h.1)

sorted_on : (x : ℕ) (ns : List ℕ) → ascends_after nat_lt x ns ≡ true → AllByRecursion (λ n. nat_cmp x n ≡ Less) ns × IsStrictlySortedBy nat_cmp ns
unfolding IsStrictlySortedBy
sorted_on x [] e = (tt, tt)
sorted_on x (n ∷ ns) e = (let p = and_parts _ _ e in let l = less x n p.0 in let s = sorted_on n ns p.1 in ((l, above x n ns l s.0), s))

sorted_so : (ns : List ℕ) → ascends nat_lt ns ≡ true → IsStrictlySortedBy nat_cmp ns
unfolding IsStrictlySortedBy
sorted_so [] e = tt
sorted_so (n ∷ ns) e = sorted_on n ns e

-- numbers of which each is below the next ascend strictly
pub ascending : (ns : List ℕ) → ascends nat_lt ns ≡ true → IsStrictlyIncreasing ns
ascending ns e = IsStrictlyIncreasing-from_sorted ns (sorted_so ns e)

pub vacuum_in_form : (c : Config) (rules : Rules) (me db : ℕ) (key : List ℕ) (t : Turn) → TurnInForm c me t → db < length t.node.dbs → is_present t.node.phase ≡ true → (vacuum (place_of c me db key t.node) (others me t.node.members) (view db key t.node)).spent ≡ false →
    TurnInForm c me (at_record c me db key (λ at o. vacuum at (others me t.node.members) o) t)
unfolding at_record view comes_among
vacuum_in_form c rules me db key t h l present unspent =
    moved_in_form c rules me db key (event.Vacuum (others me t.node.members)) (state_at db key t.node) t h l present (h.node.formed db key) (h.node.named db key)
    (ascends_others me t.node.members (ascending t.node.members h.node.members_ascend)) (others_all (is_node_of c) me t.node.members h.node.members_are) unspent

pub vacuum_all_goes : (c : Config) (rules : Rules) (me : ℕ) (p : Phase) (db : ℕ) (m : Pairs RecState) (t : Turn) → is_present p ≡ true → db < length c.dbs → Goes c me p t → Goes c me p (vacuum_all c me db m t)
unfolding vacuum_all
vacuum_all_goes c rules me p db [] t present l h = h
vacuum_all_goes c rules me p db (x ∷ m) t present l h = vacuum_all_goes c rules me p db m _ present l
    (record_goes c me p db x.0 _ t h (λ f is. vacuum_in_form c rules me db x.0 t f (inside c me db t f l) (ap is_present is ∙ present)))

-- ---- the calls that wait

-- a record of a database below this number
abbrev Below : ℕ → Called → Type 0
Below b x = x.db < b

both_below : (b : ℕ) (xs ys : List Called) → AllByRecursion (Below b) xs → AllByRecursion (Below b) ys → AllByRecursion (Below b) (xs ++ ys)
both_below b [] ys h k = k
both_below b (x ∷ xs) ys h k = (h.0, both_below b xs ys h.1 k)

called_below : (b db : ℕ) (key : List ℕ) (w : Option Wish) → db < b → AllByRecursion (Below b) (called_of db key w)
unfolding called_of
called_below b db key None l = tt
called_below b db key (Some w) l = (l, tt)

calls_below : (b db : ℕ) (m : Pairs RecState) → db < b → AllByRecursion (Below b) (calls_of db m)
unfolding calls_of
calls_below b db [] l = tt
calls_below b db (x ∷ m) l = both_below b _ _ (called_below b db x.0 x.1.wish l) (calls_below b db m l)

calls_in_below : (b i : ℕ) (ds : List Database) → i + length ds ≤ b → AllByRecursion (Below b) (calls_in i ds)
unfolding calls_in
calls_in_below b i [] l = tt
calls_in_below b i (d ∷ ds) l = both_below b _ _ (calls_below b i d.records (omega arith)) (calls_in_below b (i + 1) ds (omega arith))

-- those of a node are of its databases
pub pending_below : (n : Node) (b : ℕ) → length n.dbs ≤ b → AllByRecursion (Below b) (pending_calls n)
unfolding pending_calls
pending_below n b l = numbered_all (λ (x : Called). x.call) (Below b) (calls_in 0 n.dbs) (calls_in_below b 0 n.dbs (omega arith))

pub call_all_goes : (c : Config) (me : ℕ) (p : Phase) (xs : List Called) (t : Turn) → is_present p ≡ true → AllByRecursion (Below (length c.dbs)) xs → Goes c me p t → Goes c me p (call_all c me xs t)
unfolding call_all
call_all_goes c me p [] t present l h = h
call_all_goes c me p (x ∷ xs) t present l h = call_all_goes c me p xs _ present l.1
    (record_goes c me p x.db x.key call_again t h (λ f is. call_in_form c me x.db x.key t f (inside c me x.db t f l.0) (ap is_present is ∙ present)))

pub want_all_goes : (c : Config) (rules : Rules) (me : ℕ) (p : Phase) (xs : List Called) (t : Turn) → is_present p ≡ true → AllByRecursion (Below (length c.dbs)) xs → Goes c me p t → Goes c me p (want_all c rules me xs t)
unfolding want_all
want_all_goes c rules me p [] t present l h = h
want_all_goes c rules me p (x ∷ xs) t present l h = want_all_goes c rules me p xs _ present l.1
    (record_goes c me p x.db x.key (want_again rules) t h (λ f is. want_in_form c rules me x.db x.key t f (inside c me x.db t f l.0) (ap is_present is ∙ present)))

revoke_all_goes : (c : Config) (me : ℕ) (p : Phase) (db : ℕ) (m : Pairs RecState) (t : Turn) → is_present p ≡ true → db < length c.dbs → Goes c me p t → Goes c me p (revoke_all c me db m t)
unfolding revoke_all
revoke_all_goes c me p db [] t present l h = h
revoke_all_goes c me p db (x ∷ m) t present l h = revoke_all_goes c me p db m _ present l
    (record_goes c me p db x.0 revoke_again t h (λ f is. revoke_in_form c me db x.0 t f (inside c me db t f l) (ap is_present is ∙ present)))

pub revoke_in_goes : (c : Config) (me : ℕ) (p : Phase) (i : ℕ) (ds : List Database) (t : Turn) → is_present p ≡ true → i + length ds ≤ length c.dbs → Goes c me p t → Goes c me p (revoke_in c me i ds t)
unfolding revoke_in
revoke_in_goes c me p i [] t present l h = h
revoke_in_goes c me p i (d ∷ ds) t present l h = revoke_in_goes c me p (i + 1) ds _ present (omega arith) (revoke_all_goes c me p i d.records t present (omega arith) h)
