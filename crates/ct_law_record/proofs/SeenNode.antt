-- A node in the middle of a step, as the law sees it; and that the parts of the rules do the same to both.
use Rattle.std.proofs.Common.{◌≡◌, ◌≢◌, ℕ, Bool, true, false, cond, Option, Some, None, List, [], ◌∷◌, ◌++◌, refl, sym, ap, ◌∙◌, arith, append-nil, append_assoc, not, ◌&&◌, ◌||◌, ◌==◌}
use Rattle.std.specs.Prelude.{is_some, nat_eq, if◌then◌else◌}
use Rattle.ct_values.specs.declared.client.Answer.{Answer}
use Rattle.ct_values.specs.declared.client.ClientOp.{ClientOp}
use Rattle.ct_frame.specs.Header.{for_reading, nobody, plain}
use Rattle.ct_frame.specs.declared.frame.CallKind.{CallKind}
use Rattle.ct_frame.specs.declared.frame.CallKind.TheVariants as kind
use Rattle.ct_frame.specs.declared.frame.Msg.{Msg}
use Rattle.ct_frame.specs.declared.frame.Msg.TheVariants as msg
use Rattle.ct_frame.specs.declared.header.RecCopy.{RecCopy}
use Rattle.ct_rules.specs.State
use Rattle.ct_rules.specs.State.{a_copy, is_read_kind, same_kind, kind_of}
use Rattle.ct_rules.specs.Parts
use Rattle.ct_rules.specs.Parts.{Moving}
use Rattle.ct_rules.specs.declared.event.Act.{Act}
use Rattle.ct_rules.specs.declared.event.Act.TheVariants as act
use Rattle.ct_rules.specs.declared.event.Place.{Place}
use Rattle.ct_rules.specs.declared.state.RecState.{RecState}
use Rattle.ct_rules.specs.declared.state.Wish.{Wish}
use Rattle.ct_law_record.specs.Labels.{Told, Vacuumed}
use Rattle.ct_law_record.specs.World.{Mail, answers, call_of, told, sends, sent}
use Rattle.ct_law_record.proofs.Rule
use Rattle.ct_law_record.proofs.Rule.{Kind, Copy, Node, Frame, Body, Out}

-- a copy that is for reading, and whose data master is the node itself or nobody, is odd: there is none
unfoldable pub kind_at : ℕ → RecCopy → Kind
kind_at me c =
    if c.header.flags == for_reading
    then (if c.header.dmaster == me || c.header.dmaster == nobody then Rule.Odd else Rule.For_reading)
    else (if c.header.dmaster == me then Rule.Here else (if c.header.dmaster == nobody then Rule.Given else Rule.Stale))

unfoldable pub copy_of : ℕ → Option RecCopy → Option Copy
copy_of me None = None
copy_of me (Some c) = Some (record { rsn = c.header.rsn; kind = kind_at me c; value = c.value })

unfoldable pub wish_of : Bool → Option Wish → Option Rule.Wish
wish_of readonly None = None
wish_of readonly (Some w) = Some (record { request = w.request; op = record { real = w.op; readonly = readonly } })

abbrev pub node_of : ℕ → Bool → RecState → ℕ → ℕ → Node
node_of me readonly s next floor = record {
  copy = copy_of me s.copy;
  entry = s.entry;
  queue = s.queue;
  recalls = s.waiting;
  wish = wish_of readonly s.wish;
  next = next;
  locked = is_some s.locked;
  tracked = s.tracking.tracked;
  revoking = s.tracking.revoking;
  vacuum = s.vacuum;
  floor = floor;
  fresh = false;
}

unfoldable pub body_of : Msg → Body
body_of (msg.Call db key q k) = Rule.Call q k
body_of (msg.Recall db key least node q k) = Rule.Recalls (record { least = least; node = node; request = q; kind = k })
body_of (msg.Give db key rsn value) = Rule.Give rsn value
body_of (msg.Pass db key q rsn value) = Rule.Pass q rsn value
body_of (msg.Refuse db key q rsn) = Rule.Refuse q rsn
body_of (msg.Grant db key q rsn value) = Rule.Grant q rsn value
body_of (msg.Done db key node q) = Rule.Done node q
body_of (msg.Revoke db key rsn) = Rule.Revoke rsn
body_of (msg.RevokeAck db key rsn) = Rule.RevokeAck rsn
body_of (msg.VStore db key rsn) = Rule.VStore rsn
body_of (msg.VStored db key rsn) = Rule.VStored rsn
body_of (msg.VDelete db key rsn) = Rule.VDelete rsn
body_of (msg.VDeleted db key rsn) = Rule.VDeleted rsn
body_of _ = Rule.Done 0 0

abbrev pub frame_of : Mail → Frame
frame_of m = record { from = m.sender; to = m.receiver; body = body_of m.msg }

unfoldable pub frames_of : List Mail → List Frame
frames_of [] = []
frames_of (m ∷ ms) = frame_of m ∷ frames_of ms

-- the middle of a step, where the calls asked this
abbrev pub out_of : Place → (ℕ → Option ClientOp) → Moving → Out
out_of at asks o = record { node = node_of at.me at.readonly o.state o.next o.floor; frames = frames_of (sent at.me o.acts); labels = told at.me asks o.acts }

-- no copy is odd, and the call that waits asked what it waits for
pub record Fine (at : Place) (asks : ℕ → Option ClientOp) (copy : Option RecCopy) (wish : Option Wish) : Type 0 where
  pub even : Rule.is_odd (copy_of at.me copy) ≡ false
  pub waits : (w : Wish) → wish ≡ Some w → asks w.call ≡ Some w.op

abbrev pub FineAt : Place → (ℕ → Option ClientOp) → Moving → Type 0
FineAt at asks o = Fine at asks o.state.copy o.state.wish

pub frames_append : (xs ys : List Mail) → frames_of (xs ++ ys) ≡ frames_of xs ++ frames_of ys
unfolding frames_of
frames_append [] ys = refl
frames_append (x ∷ xs) ys = ap (λ l. frame_of x ∷ l) (frames_append xs ys)

sent_more : (n : ℕ) (as' : List Act) (a : Act) → sent n (as' ++ a ∷ []) ≡ sent n as' ++ sends n a
unfolding sent
sent_more n [] a = append-nil (sends n a)
sent_more n (b ∷ bs) a = ap (λ l. sends n b ++ l) (sent_more n bs a) ∙ sym (append_assoc (sends n b) (sent n bs) (sends n a))

told_more : (n : ℕ) (asks : ℕ → Option ClientOp) (as' : List Act) (a : Act) → told n asks (as' ++ a ∷ []) ≡ told n asks as' ++ answers n (asks (call_of a)) a
unfolding told
told_more n asks [] a = append-nil (answers n (asks (call_of a)) a)
told_more n asks (b ∷ bs) a = ap (λ l. answers n (asks (call_of b)) b ++ l) (told_more n asks bs a) ∙ sym (append_assoc (answers n (asks (call_of b)) b) (told n asks bs) (answers n (asks (call_of a)) a))

module _ (at : Place) (asks : ℕ → Option ClientOp) where
  pub like_send : (to : ℕ) (m : Msg) (o : Moving) → out_of at asks (Parts.send to m o) ≡ Rule.send at.me to (body_of m) (out_of at asks o)
  unfolding Parts.send Parts.performs Rule.send sends answers frames_of
  like_send to m o = λ i. record {
    node = node_of at.me at.readonly o.state o.next o.floor;
    frames = (ap frames_of (sent_more at.me o.acts (act.Send to m)) ∙ frames_append (sent at.me o.acts) (record { sender = at.me; receiver = to; msg = m } ∷ [])) i;
    labels = (told_more at.me asks o.acts (act.Send to m) ∙ answered_none (asks (call_of (act.Send to m)))) i;
  }
    where
      answered_none : (x : Option ClientOp) → told at.me asks o.acts ++ answers at.me x (act.Send to m) ≡ told at.me asks o.acts
      answered_none None = append-nil (told at.me asks o.acts)
      answered_none (Some x) = append-nil (told at.me asks o.acts)

  pub like_send_all : (ns : List ℕ) (m : Msg) (o : Moving) → out_of at asks (Parts.send_all ns m o) ≡ Rule.send_all at.me ns (body_of m) (out_of at asks o)
  unfolding Parts.send_all Rule.send_all
  like_send_all [] m o = refl
  like_send_all (n ∷ ns) m o = like_send_all ns m (Parts.send n m o) ∙ ap (Rule.send_all at.me ns (body_of m)) (like_send n m o)

  pub like_reply : (call : ℕ) (asked : ClientOp) (a : Answer) (o : Moving) → asks call ≡ Some asked → out_of at asks (Parts.reply call a o) ≡ Rule.tell (Told at.me asked a) (out_of at asks o)
  unfolding Parts.reply Parts.performs Rule.tell sends answers frames_of call_of
  like_reply call asked a o is = λ i. record {
    node = node_of at.me at.readonly o.state o.next o.floor;
    frames = (ap frames_of (sent_more at.me o.acts (act.Answer call a)) ∙ ap frames_of (append-nil (sent at.me o.acts))) i;
    labels = (told_more at.me asks o.acts (act.Answer call a) ∙ ap (λ x. told at.me asks o.acts ++ answers at.me x (act.Answer call a)) is) i;
  }

  pub like_finished : (floor : ℕ) (o : Moving) → out_of at asks (Parts.performs (act.Finished floor) o) ≡ Rule.tell (Vacuumed at.me) (out_of at asks o)
  unfolding Parts.performs Rule.tell sends answers frames_of
  like_finished floor o = λ i. record {
    node = node_of at.me at.readonly o.state o.next o.floor;
    frames = (ap frames_of (sent_more at.me o.acts (act.Finished floor)) ∙ ap frames_of (append-nil (sent at.me o.acts))) i;
    labels = (told_more at.me asks o.acts (act.Finished floor) ∙ answered_one (asks (call_of (act.Finished floor)))) i;
  }
    where
      answered_one : (x : Option ClientOp) → told at.me asks o.acts ++ answers at.me x (act.Finished floor) ≡ told at.me asks o.acts ++ Vacuumed at.me ∷ []
      answered_one None = refl
      answered_one (Some x) = refl

-- copies
pub rsn_like : (me : ℕ) (c : Option RecCopy) → State.rsn_of c ≡ Rule.rsn_of (copy_of me c)
unfolding State.rsn_of Rule.rsn_of copy_of
rsn_like me None = refl
rsn_like me (Some c) = refl

pub rank_like : (me : ℕ) (c : Option RecCopy) → State.rank c ≡ Rule.rank (copy_of me c)
unfolding State.rank Rule.rank copy_of
rank_like me None = refl
rank_like me (Some c) = refl

pub value_like : (me : ℕ) (c : Option RecCopy) → State.value_of c ≡ Rule.value_of (copy_of me c)
unfolding State.value_of Rule.value_of copy_of
value_like me None = refl
value_like me (Some c) = refl

pub mastered_like : (me : ℕ) (c : Option RecCopy) → Rule.is_odd (copy_of me c) ≡ false → State.is_mastered me c ≡ Rule.is_here (copy_of me c)
unfolding State.is_mastered Rule.is_here Rule.is_odd Rule.is_kind_here Rule.is_kind_odd copy_of kind_at
mastered_like me None e = refl
mastered_like me (Some c) e = grind arith

pub for_reading_like : (me : ℕ) (c : Option RecCopy) → Rule.is_odd (copy_of me c) ≡ false → State.is_for_reading c ≡ Rule.is_reading (copy_of me c)
unfolding State.is_for_reading Rule.is_reading Rule.is_odd Rule.is_kind_reading Rule.is_kind_odd copy_of kind_at
for_reading_like me None e = refl
for_reading_like me (Some c) e = grind arith

pub given_like : (me : ℕ) (c : Option RecCopy) → me ≢ nobody → Rule.is_odd (copy_of me c) ≡ false → State.is_given c ≡ Rule.is_given (copy_of me c)
unfolding State.is_given Rule.is_given Rule.is_odd Rule.is_kind_given Rule.is_kind_odd copy_of kind_at
given_like me None ne e = refl
given_like me (Some c) ne e = grind arith

pub with_value_like : (me : ℕ) (v : List ℕ) (c : Option RecCopy) → copy_of me (State.with_value v c) ≡ Rule.with_value v (copy_of me c)
unfolding State.with_value Rule.with_value copy_of kind_at
with_value_like me v None = refl
with_value_like me v (Some c) = refl

pub risen_like : (me : ℕ) (c : Option RecCopy) → copy_of me (State.risen c) ≡ Rule.risen (copy_of me c)
unfolding State.risen Rule.risen copy_of kind_at
risen_like me None = refl
risen_like me (Some c) = refl

pub gives_like : (me : ℕ) (c : Option RecCopy) → me ≢ nobody → copy_of me (State.given c) ≡ Rule.given_copy (copy_of me c)
unfolding State.given Rule.given_copy copy_of kind_at
gives_like me None ne = refl
gives_like me (Some c) ne = grind arith

-- the holder's flags change, but to no copy for reading
pub flags_like : (me flags : ℕ) (c : Option RecCopy) → flags ≢ for_reading → State.is_mastered me c ≡ true → Rule.is_odd (copy_of me c) ≡ false → copy_of me (State.with_flags flags c) ≡ copy_of me c
unfolding State.with_flags State.is_mastered Rule.is_odd Rule.is_kind_odd copy_of kind_at
flags_like me flags None ne m e = refl
flags_like me flags (Some c) ne m e = grind arith

pub raised_like : (me : ℕ) (c : Option RecCopy) → State.is_mastered me c ≡ true → Rule.is_odd (copy_of me c) ≡ false → copy_of me (State.with_flags plain (State.risen c)) ≡ Rule.risen (copy_of me c)
unfolding State.with_flags State.risen State.is_mastered Rule.risen Rule.is_odd Rule.is_kind_odd copy_of kind_at
raised_like me None m e = refl
raised_like me (Some c) m e = grind arith

pub own_like : (me l rsn : ℕ) (value : List ℕ) → me ≡ l → copy_of me (Some (a_copy rsn l plain value)) ≡ Some (record { rsn = rsn; kind = Rule.Here; value = value })
unfolding copy_of kind_at
own_like me l rsn value e = grind arith

pub free_like : (me : ℕ) (readonly : Bool) (s : RecState) (next floor : ℕ) → Rule.is_odd (copy_of me s.copy) ≡ false → State.is_free me s ≡ Rule.is_free (node_of me readonly s next floor)
unfolding State.is_free Rule.is_free State.is_quiet Rule.is_idle
free_like me readonly s next floor e = grind (arith, mastered_like me s.copy e)

pub wished_like : (readonly : Bool) (q : ℕ) (k : CallKind) (w : Option Wish) → State.is_wished readonly q k w ≡ Rule.is_wish q (is_read_kind k) (wish_of readonly w)
unfolding State.is_wished Rule.is_wish Rule.reads_op wish_of is_read_kind same_kind
wished_like readonly q k None = refl
wished_like readonly q k (Some w) = ap (λ b. nat_eq w.request q && b) (same (kind_of readonly w.op) k)
  where
    same : (a b : CallKind) → same_kind a b ≡ cond (is_read_kind b) (is_read_kind a) (not (is_read_kind a))
    same kind.Lock kind.Lock = refl
    same kind.Lock kind.Read = refl
    same kind.Read kind.Lock = refl
    same kind.Read kind.Read = refl
