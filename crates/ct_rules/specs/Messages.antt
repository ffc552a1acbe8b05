-- What comes of each message that speaks of one record, at its receiver.
use Rattle.std.specs.Prelude.{ℕ, ◌+◌, ◌-◌, ◌==◌, nat_eq, nat_le, nat_lt, Bool, not, ◌&&◌, ◌||◌, if◌then◌else◌, List, [], ◌∷◌, ◌++◌, Option, None, Some, is_none}
use Rattle.std.specs.List.{list_any}
use Rattle.ct_values.specs.declared.client.Answer.TheVariants as answer
use Rattle.ct_frame.specs.Header.{for_reading, plain}
use Rattle.ct_frame.specs.declared.frame.Msg.TheVariants as msg
use Rattle.ct_frame.specs.declared.frame.CallKind.{CallKind}
use Rattle.ct_frame.specs.declared.frame.CallKind.TheVariants as kind
use Rattle.ct_frame.specs.declared.header.RecCopy.{RecCopy}
use Rattle.ct_call.specs.Rules.{Rules}
use Rattle.ct_tracking.specs.Tracked.{untracked, called_back, ends}
use Rattle.ct_tracking.specs.Vacuum.{Vacuuming, ends_phase, stored, deleted}
use Rattle.ct_tracking.specs.declared.vacuum.VacuumPhase.TheVariants.{Storing, Deleting}
use Rattle.ct_rules.specs.State.{a_copy, rank, rsn_of, value_of, is_mastered, is_given, is_free, is_read_kind, same_kind, kind_of, is_wished}
use Rattle.ct_rules.specs.Parts.{Moving, performs, send, send_all, reply, keeps, reaches, opened, end_vacuum, satisfy, grant, yield_record, drained, end_revocation, next, keep}
use Rattle.ct_rules.specs.declared.state.Entry.{Entry}
use Rattle.ct_rules.specs.declared.state.RecallNote.{RecallNote}
use Rattle.ct_rules.specs.declared.state.Waiter.{Waiter}
use Rattle.ct_rules.specs.declared.state.Wish.{Wish}
use Rattle.ct_rules.specs.declared.event.Act.TheVariants as act
use Rattle.ct_rules.specs.declared.event.Place.{Place}

-- is a copy for reading asked for of a database that hands out none?
unfoldable pub is_misplaced : Place → CallKind → Bool
is_misplaced at k = is_read_kind k && not at.readonly

-- ---- Call, at the location master

-- Call: the record is passed again to the entry's holder
unfoldable pub pass_again : Place → Entry → Moving → Moving
pass_again at e o = send e.holder (msg.Pass at.db at.key e.request (e.least - 1) e.value) o

-- is it this request?
unfoldable pub is_request : ℕ → ℕ → Waiter → Bool
is_request n request w = nat_eq w.node n && nat_eq w.request request

-- Call: the request waits behind all others; Next where it is the head
unfoldable pub enqueue : Place → Waiter → Moving → List Waiter → Moving
enqueue at w o [] = next at (keeps (record o.state { queue = w ∷ [] }) o)
enqueue at w o (v ∷ vs) = keeps (record o.state { queue = (v ∷ vs) ++ w ∷ [] }) o

-- Call: who has it gets the Pass again; who waits is asked for again, after the Pass of an entry with a request; else it waits
unfoldable pub on_call_of : Place → ℕ → ℕ → CallKind → Moving → Option Entry → Moving
on_call_of at n request k o None = o
on_call_of at n request k o (Some e) =
    if nat_eq e.holder n && nat_eq e.request request then pass_again at e o
    else (if list_any (is_request n request) o.state.queue
    then next at (if e.request == 0 then o else pass_again at e o)
    else enqueue at (record { node = n; request = request; kind = k }) o o.state.queue)

-- Call, once there is an entry
unfoldable pub called : Place → ℕ → ℕ → CallKind → Moving → Moving
called at n request k o = on_call_of at n request k o o.state.entry

-- Call
unfoldable pub on_call : Place → ℕ → ℕ → CallKind → Moving → Moving
on_call at n request k o = if is_misplaced at k then o else called at n request k (end_vacuum (opened at o))

-- ---- Recall, from the location master

-- are the recalls equal?
unfoldable pub same_recall : RecallNote → RecallNote → Bool
same_recall a b = nat_eq a.least b.least && nat_eq a.node b.node && nat_eq a.request b.request && same_kind a.kind b.kind

-- Recall: it waits, unless an equal one does
unfoldable pub wait : RecallNote → Moving → Moving
wait r o = if list_any (same_recall r) o.state.waiting then o else keeps (record o.state { waiting = o.state.waiting ++ r ∷ [] }) o

-- Handle a recall that comes to a free holder
unfoldable pub handle : Place → RecallNote → Moving → Moving
handle at r o =
    if is_read_kind r.kind then grant at r.node r.request (end_vacuum o)
    else yield_record at (keeps (record o.state { waiting = r ∷ o.state.waiting; vacuum = None }) o)

-- Recall: it waits for a copy or for the holder, is handled, or gets the same Give again
unfoldable pub recalled : Place → RecallNote → Moving → Moving
recalled at r o =
    if nat_lt r.least (rank o.state.copy)
    then (if is_mastered at.me o.state.copy
    then (if is_free at.me o.state then handle at r o else wait r o)
    else (if is_given o.state.copy
    then send at.lmaster (msg.Give at.db at.key (rsn_of o.state.copy) (value_of o.state.copy)) o
    else o))
    else wait r o

-- Recall
unfoldable pub on_recall : Place → RecallNote → Moving → Moving
on_recall at r o = if is_misplaced at r.kind || (nat_eq at.me at.lmaster && is_none o.state.entry) then o else recalled at r o

-- ---- Give, at the location master

-- Give (message): the record goes to the head of the queue where that wants the lock, and else stays
unfoldable pub hand_on : Place → ℕ → List ℕ → Moving → List Waiter → Moving
hand_on at rsn value o [] = keep at (rsn + 1) value o
hand_on at rsn value o (w ∷ ws) =
    if is_read_kind w.kind then keep at (rsn + 1) value o
    else (let o' = keeps (record o.state {
      entry = Some (record { holder = w.node; least = rsn + 1; request = w.request; value = value });
      queue = ws;
    }) o in
    next at (send w.node (msg.Pass at.db at.key w.request rsn value) (reaches (rsn + 1) o')))

-- Give (message), with the entry: only of the record that it waits for
unfoldable pub on_give_of : Place → ℕ → ℕ → List ℕ → Moving → Option Entry → Moving
on_give_of at x rsn value o None = o
on_give_of at x rsn value o (Some e) = if nat_eq e.holder x && nat_le e.least rsn then hand_on at rsn value o o.state.queue else o

-- Give (message)
unfoldable pub on_give : Place → ℕ → ℕ → List ℕ → Moving → Moving
on_give at x rsn value o = on_give_of at x rsn value o o.state.entry

-- ---- Pass, from the location master

-- Pass: the wish is cleared and satisfied
unfoldable pub satisfy_wish : Rules → Moving → Option Wish → Moving
satisfy_wish rules o None = o
satisfy_wish rules o (Some w) =
    let o' = keeps (record o.state { wish = None }) o in
    satisfy rules w.call w.op o'

-- Pass: the node becomes holder, and nothing is tracked
unfoldable pub becomes : Place → ℕ → List ℕ → Moving → Moving
becomes at rsn value o =
    let o' = keeps (record o.state { copy = Some (a_copy rsn at.me plain value); tracking = untracked }) o in
    reaches rsn o'

-- Pass: the node becomes holder, its wish is satisfied, and then Drain
unfoldable pub accept : Place → Rules → ℕ → List ℕ → Moving → Moving
accept at rules rsn value o =
    let o' = becomes at (rsn + 1) value o in
    drained at (satisfy_wish rules o' o.state.wish)

-- Pass: a record that nobody here wishes for any more is refused
unfoldable pub refuse : Place → ℕ → ℕ → Moving → Moving
refuse at request rsn o =
    let o' = keeps (record o.state { waiting = [] }) o in
    send at.lmaster (msg.Refuse at.db at.key request rsn) o'

-- Pass
unfoldable pub on_pass : Place → Rules → ℕ → ℕ → List ℕ → Moving → Moving
on_pass at rules request rsn value o =
    if nat_lt (rsn + 1) (rank o.state.copy) then o
    else (if is_wished at.readonly request kind.Lock o.state.wish then accept at rules rsn value o else refuse at request rsn o)

-- ---- Refuse, at the location master

-- Refuse, with the entry: only of what was passed last
unfoldable pub on_refuse_of : Place → ℕ → ℕ → ℕ → Moving → Option Entry → Moving
on_refuse_of at n request rsn o None = o
on_refuse_of at n request rsn o (Some e) =
    if nat_eq e.holder n && nat_eq e.least (rsn + 1) && nat_eq e.request request && not (request == 0)
    then keep at (rsn + 2) e.value o else o

-- Refuse
unfoldable pub on_refuse : Place → ℕ → ℕ → ℕ → Moving → Moving
on_refuse at n request rsn o = on_refuse_of at n request rsn o o.state.entry

-- ---- Grant, from the holder

-- Grant: the wish is cleared and answered
unfoldable pub read_granted : ℕ → Moving → Option Wish → List ℕ → Moving
read_granted request o None value = o
read_granted request o (Some w) value =
    let o' = keeps (record o.state { wish = None }) o in
    reply w.call (answer.Read value) o'

-- Grant: the copy is kept where it is wished for and not older than the one here
unfoldable pub on_grant : Place → ℕ → ℕ → ℕ → List ℕ → Moving → Moving
on_grant at h request rsn value o =
    let o' = keeps (record o.state { copy = Some (a_copy rsn h for_reading value) }) o in
    if is_wished at.readonly request kind.Read o.state.wish && not (is_mastered at.me o.state.copy) && nat_le (rank o.state.copy) (rsn + 1)
    then read_granted request o' o.state.wish value
    else o

-- ---- Done, at the location master

-- Done, with the queue: the head is taken off; Next
unfoldable pub on_done_of : Place → ℕ → ℕ → Moving → List Waiter → Moving
on_done_of at n request o [] = o
on_done_of at n request o (w ∷ ws) = if is_request n request w then next at (keeps (record o.state { queue = ws }) o) else o

-- Done
unfoldable pub on_done : Place → ℕ → ℕ → Moving → Moving
on_done at n request o = on_done_of at n request o o.state.queue

-- ---- Revoke, from the holder

-- Revoke (message): a copy for reading of at most this RSN is one no more
unfoldable pub called_in : ℕ → Option RecCopy → Option RecCopy
called_in rsn None = None
called_in rsn (Some c) =
    if (c.header.flags == for_reading) && nat_le c.header.rsn rsn then Some (record c { header = record c.header { flags = plain } }) else Some c

-- Revoke (message): the copy is called in, and h gets a RevokeAck
unfoldable pub acknowledge : Place → ℕ → ℕ → Moving → Moving
acknowledge at h rsn o =
    let o' = keeps (record o.state { copy = called_in rsn o.state.copy }) o in
    send h (msg.RevokeAck at.db at.key rsn) o'

-- Revoke (message): a read that waits does so under another number from now on
unfoldable pub renew : Wish → Moving → Moving
renew w o = reaches (o.next + 1) (record o { state = record o.state { wish = Some (record w { request = o.next }) }; next = o.next + 1 })

-- Revoke (message), with the wish: one of kind Read is called for again under another number
unfoldable pub on_revoke_of : Place → ℕ → ℕ → Moving → Option Wish → Moving
on_revoke_of at h rsn o None = acknowledge at h rsn o
on_revoke_of at h rsn o (Some w) =
    if is_read_kind (kind_of at.readonly w.op)
    then (let o' = acknowledge at h rsn (renew w o) in send at.lmaster (msg.Call at.db at.key o.next kind.Read) o')
    else acknowledge at h rsn o

-- Revoke (message)
unfoldable pub on_revoke : Place → ℕ → ℕ → Moving → Moving
on_revoke at h rsn o = on_revoke_of at h rsn o o.state.wish

-- ---- RevokeAck, at the holder

-- RevokeAck: the sender is no longer missing
unfoldable pub acknowledged : ℕ → ℕ → Moving → Moving
acknowledged n rsn o = keeps (record o.state { tracking = called_back n rsn o.state.tracking }) o

-- RevokeAck: the last one is followed by End of revocation
unfoldable pub on_revokeack : Place → Rules → ℕ → ℕ → Moving → Moving
on_revokeack at rules n rsn o =
    let o' = acknowledged n rsn o in
    if ends n rsn o.state.tracking then end_revocation at rules o' else o'

-- ---- the two phases of a vacuum

-- VStore: what is left of the copy
unfoldable pub stored_copy : ℕ → ℕ → ℕ → Bool → Option RecCopy → Option RecCopy
stored_copy me sender rsn unlocked None = None
stored_copy me sender rsn unlocked (Some c) =
    if nat_lt c.header.rsn rsn && unlocked && not (nat_eq c.header.dmaster me) then Some (a_copy rsn sender plain []) else Some c

-- VDelete: what is left of the copy
unfoldable pub deleted_copy : ℕ → ℕ → Bool → Option RecCopy → Option RecCopy
deleted_copy me rsn unlocked None = None
deleted_copy me rsn unlocked (Some c) =
    if nat_le c.header.rsn rsn && unlocked && not (nat_eq c.header.dmaster me) then None else Some c

-- VStore
unfoldable pub on_vstore : Place → ℕ → ℕ → Moving → Moving
on_vstore at l rsn o =
    let o' = keeps (record o.state { copy = stored_copy at.me l rsn (is_none o.state.locked) o.state.copy }) o in
    send l (msg.VStored at.db at.key rsn) o'

-- VDelete
unfoldable pub on_vdelete : Place → ℕ → ℕ → Moving → Moving
on_vdelete at l rsn o =
    let o' = keeps (record o.state { copy = deleted_copy at.me rsn (is_none o.state.locked) o.state.copy }) o in
    send l (msg.VDeleted at.db at.key rsn) o'

-- the greater of two numbers
unfoldable pub greater : ℕ → ℕ → ℕ
greater a b = if nat_le a b then b else a

-- Finish: nothing is left of the record, and the floor is above all that was
unfoldable pub finish : ℕ → Moving → Moving
finish rsn o =
    let floor = greater o.floor (rsn + 2) in
    let o' = record o { state = record o.state { copy = None; entry = None; vacuum = None }; floor = floor } in
    performs (act.Finished floor) (reaches (rsn + 2) o')

-- VStored, with the vacuum: after the last one all others get a VDelete
unfoldable pub on_vstored_of : Place → ℕ → ℕ → Moving → Option Vacuuming → Moving
on_vstored_of at n rsn o None = o
on_vstored_of at n rsn o (Some v) =
    let o' = keeps (record o.state { vacuum = Some (stored n rsn v) }) o in
    if ends_phase Storing n rsn v then send_all v.others (msg.VDelete at.db at.key rsn) o' else o'

-- VStored
unfoldable pub on_vstored : Place → ℕ → ℕ → Moving → Moving
on_vstored at n rsn o = on_vstored_of at n rsn o o.state.vacuum

-- VDeleted, with the vacuum: after the last one Finish
unfoldable pub on_vdeleted_of : ℕ → ℕ → Moving → Option Vacuuming → Moving
on_vdeleted_of n rsn o None = o
on_vdeleted_of n rsn o (Some v) =
    if ends_phase Deleting n rsn v then finish rsn o else keeps (record o.state { vacuum = Some (deleted n rsn v) }) o

-- VDeleted
unfoldable pub on_vdeleted : ℕ → ℕ → Moving → Moving
on_vdeleted n rsn o = on_vdeleted_of n rsn o o.state.vacuum
