-- The parts that the rules of one record are made of: each is a function from the middle of a step to the middle of a step.
use Rattle.std.specs.Prelude.{ℕ, ◌+◌, ◌^◌, ◌==◌, nat_eq, nat_le, Bool, ◌&&◌, ◌||◌, if◌then◌else◌, List, [], ◌∷◌, ◌++◌, Option, None, Some, is_none, Result, Ok, Err}
use Rattle.ct_values.specs.Words.{is_nil}
use Rattle.ct_values.specs.Client.{is_read}
use Rattle.ct_values.specs.declared.client.Answer.{Answer}
use Rattle.ct_values.specs.declared.client.Answer.TheVariants as answer
use Rattle.ct_values.specs.declared.client.ClientOp.{ClientOp}
use Rattle.ct_values.specs.declared.client.ClientOp.TheVariants as op
use Rattle.ct_values.specs.declared.client.Why.TheVariants as why
use Rattle.ct_frame.specs.Header.{being_revoked, delegated, plain}
use Rattle.ct_frame.specs.declared.frame.Msg.{Msg}
use Rattle.ct_frame.specs.declared.frame.Msg.TheVariants as msg
use Rattle.ct_frame.specs.declared.frame.CallKind.TheVariants as kind
use Rattle.ct_call.specs.Rules.{Rules}
use Rattle.ct_call.specs.Table.{applied}
use Rattle.ct_call.specs.declared.fault.CallFault.{CallFault}
use Rattle.ct_call.specs.declared.fault.CallFault.TheVariants as fault
use Rattle.ct_tracking.specs.Tracked.{untracked, added, revocation_begun}
use Rattle.ct_rules.specs.State.{a_copy, rsn_of, value_of, is_mastered, is_for_reading, with_value, with_flags, risen, given, is_quiet, is_free, is_read_kind, kind_of, is_wished}
use Rattle.ct_rules.specs.declared.state.Entry.{Entry}
use Rattle.ct_rules.specs.declared.state.RecState.{RecState}
use Rattle.ct_rules.specs.declared.state.RecallNote.{RecallNote}
use Rattle.ct_rules.specs.declared.state.Waiter.{Waiter}
use Rattle.ct_rules.specs.declared.state.Wish.{Wish}
use Rattle.ct_rules.specs.declared.event.Act.{Act}
use Rattle.ct_rules.specs.declared.event.Act.TheVariants as act
use Rattle.ct_rules.specs.declared.event.Place.{Place}

-- the middle of a step: the key's state, next request number, floor, what is done in order, did a number reach 2^62?
pub record Moving : Type 0 where
  pub state : RecState
  pub next : ℕ
  pub floor : ℕ
  pub acts : List Act
  pub spent : Bool

-- this is done after all else
unfoldable pub performs : Act → Moving → Moving
performs a o = record o { acts = o.acts ++ a ∷ [] }

-- a message is sent
unfoldable pub send : ℕ → Msg → Moving → Moving
send receiver m o = performs (act.Send receiver m) o

-- the same message to several nodes, in order
unfoldable pub send_all : List ℕ → Msg → Moving → Moving
send_all [] m o = o
send_all (n ∷ ns) m o = send_all ns m (send n m o)

-- a client's call is answered
unfoldable pub reply : ℕ → Answer → Moving → Moving
reply call a o = performs (act.Answer call a) o

-- the step goes on with this state
unfoldable pub keeps : RecState → Moving → Moving
keeps s o = record o { state = s }

-- Numbers: this number is reached; where it is 2^62 or more the whole step is refused
unfoldable pub reaches : ℕ → Moving → Moving
reaches n o = record o { spent = o.spent || nat_le (2 ^ 62) n }

-- Open: where there is no entry the record is made, under the floor's RSN
unfoldable pub open_of : Place → Moving → Option Entry → Moving
open_of at o None = keeps (record o.state {
  entry = Some (record { holder = at.lmaster; least = o.floor; request = 0; value = [] });
  copy = Some (a_copy o.floor at.lmaster plain []);
}) o
open_of at o (Some e) = o

-- Open
unfoldable pub opened : Place → Moving → Moving
opened at o = open_of at o o.state.entry

-- a vacuum of the record ends
unfoldable pub end_vacuum : Moving → Moving
end_vacuum o = keeps (record o.state { vacuum = None }) o

-- Satisfy a function, which answered this
unfoldable pub applies : ℕ → Moving → Result (List ℕ) CallFault → Moving
applies call o (Ok v) =
    let o' = keeps (record o.state { copy = with_value v o.state.copy }) o in
    reply call (answer.Applied v) o'
applies call o (Err (fault.TooLong n)) = reply call (answer.Refused (why.TooLong n)) o
applies call o (Err fault.NoSuchCall) = reply call (answer.Refused why.NoSuchCall) o
applies call o (Err fault.NoMemory) = o

-- Satisfy: what a call asks is done at the holder, and answered
unfoldable pub satisfy : Rules → ℕ → ClientOp → Moving → Moving
satisfy rules call (op.Lock db key) o =
    let o' = keeps (record o.state { locked = Some call }) o in
    reply call (answer.Locked (value_of o.state.copy)) o'
satisfy rules call (op.Read db key) o = reply call (answer.Read (value_of o.state.copy)) o
satisfy rules call (op.Write db key v) o =
    let o' = keeps (record o.state { copy = with_value v o.state.copy }) o in
    reply call answer.Written o'
satisfy rules call (op.Apply db key f arg) o = applies call o (applied f (value_of o.state.copy) arg rules)
satisfy rules call _ o = o

-- Revoke: all copies for reading are called in
unfoldable pub revoke : Place → Moving → Moving
revoke at o =
    let rsn = rsn_of o.state.copy in
    let o' = keeps (record o.state { copy = with_flags being_revoked o.state.copy; tracking = revocation_begun rsn o.state.tracking }) o in
    send_all o.state.tracking.tracked (msg.Revoke at.db at.key rsn) o'

-- Give: the record goes back to its location master
unfoldable pub give : Place → Moving → Moving
give at o =
    let o' = keeps (record o.state { copy = given o.state.copy; waiting = [] }) o in
    send at.lmaster (msg.Give at.db at.key (rsn_of o.state.copy) (value_of o.state.copy)) o'

-- Handle a recall of kind Read for this node: a wish with its request is cleared and answered
unfoldable pub read_here : Place → ℕ → Moving → Option Wish → Moving
read_here at request o None = o
read_here at request o (Some w) =
    let o' = keeps (record o.state { wish = None }) o in
    if is_wished at.readonly request kind.Read (Some w) then reply w.call (answer.Read (value_of o.state.copy)) o' else o

-- Handle a recall of kind Read for another node: it is tracked and gets a Grant
unfoldable pub delegate : Place → ℕ → ℕ → Moving → Moving
delegate at node request o =
    let o' = keeps (record o.state { copy = with_flags delegated o.state.copy; tracking = added node o.state.tracking }) o in
    send node (msg.Grant at.db at.key request (rsn_of o.state.copy) (value_of o.state.copy)) o'

-- Handle a recall of kind Read: the copy or the answer, and then Done
unfoldable pub grant : Place → ℕ → ℕ → Moving → Moving
grant at node request o =
    let o' = if nat_eq node at.me then read_here at request o o.state.wish else delegate at node request o in
    send at.lmaster (msg.Done at.db at.key node request) o'

-- Handle a recall of kind Lock, the first that waits: Revoke while nodes are tracked, and else Give
unfoldable pub yield_record : Place → Moving → Moving
yield_record at o = if is_nil o.state.tracking.tracked then give at o else revoke at o

-- Drain: while the node is free the recalls that wait are handled, in order, and a vacuum ends
unfoldable pub drain : Place → List RecallNote → Moving → Moving
drain at [] o = keeps (record o.state { waiting = [] }) o
drain at (r ∷ rs) o =
    if is_free at.me o.state
    then (if is_read_kind r.kind
    then drain at rs (grant at r.node r.request (end_vacuum o))
    else yield_record at (keeps (record o.state { waiting = r ∷ rs; vacuum = None }) o))
    else keeps (record o.state { waiting = r ∷ rs }) o

-- Drain
unfoldable pub drained : Place → Moving → Moving
drained at o = drain at o.state.waiting o

-- End of revocation: a wish without a request is cleared and satisfied
unfoldable pub satisfy_own : Rules → Moving → Option Wish → Moving
satisfy_own rules o None = o
satisfy_own rules o (Some w) = if w.request == 0 then satisfy rules w.call w.op (keeps (record o.state { wish = None }) o) else o

-- End of revocation: the next RSN, no flags, nothing tracked
unfoldable pub raise : Moving → Moving
raise o =
    let o' = keeps (record o.state { copy = with_flags plain (risen o.state.copy); tracking = untracked }) o in
    reaches (rsn_of o.state.copy + 1) o'

-- End of revocation: the next RSN, then the own wish, then Drain
unfoldable pub end_revocation : Place → Rules → Moving → Moving
end_revocation at rules o =
    let o' = satisfy_own rules (raise o) o.state.wish in
    drained at o'

-- Next, with the entry and the queue
unfoldable pub next_of : Place → Moving → Option Entry → List Waiter → Moving
next_of at o None ws = o
next_of at o (Some e) [] = o
next_of at o (Some e) (w ∷ ws) = send e.holder (msg.Recall at.db at.key e.least w.node w.request w.kind) o

-- Next: the holder is asked for the record in the name of the head
unfoldable pub next : Place → Moving → Moving
next at o = next_of at o o.state.entry o.state.queue

-- Keep: the location master has the record itself, and then Next
unfoldable pub keep : Place → ℕ → List ℕ → Moving → Moving
keep at rsn value o =
    let o' = keeps (record o.state {
      entry = Some (record { holder = at.lmaster; least = rsn; request = 0; value = value });
      copy = Some (a_copy rsn at.lmaster plain value);
    }) o in
    next at (reaches rsn o')

-- Want: the call waits under the next request number, and L gets a Call
unfoldable pub call_for : Place → ℕ → ClientOp → Moving → Moving
call_for at call asked o =
    let o' = record o {
      state = record o.state { wish = Some (record { call = call; request = o.next; op = asked }) };
      next = o.next + 1;
    } in
    send at.lmaster (msg.Call at.db at.key o.next (kind_of at.readonly asked)) (reaches (o.next + 1) o')

-- Want: the holder's own wish waits for the end of a revocation, which begins unless it runs
unfoldable pub wait_for_copies : Place → ℕ → ClientOp → Moving → Moving
wait_for_copies at call asked o =
    let o' = keeps (record o.state { wish = Some (record { call = call; request = 0; op = asked }) }) o in
    if is_quiet o.state.tracking then revoke at o' else o'

-- Want, once the location master has an entry
unfoldable pub want_of : Place → Rules → ℕ → ClientOp → Moving → Moving
want_of at rules call asked o =
    if is_read asked && (is_mastered at.me o.state.copy || is_for_reading o.state.copy)
    then reply call (answer.Read (value_of o.state.copy)) o
    else (if is_mastered at.me o.state.copy
    then (if is_nil o.state.tracking.tracked then satisfy rules call asked o else wait_for_copies at call asked o)
    else call_for at call asked o)

-- Want: at L, unless the record is locked, Open, and a vacuum ends
unfoldable pub opened_at_home : Place → Moving → Moving
opened_at_home at o = if nat_eq at.me at.lmaster && is_none o.state.locked then end_vacuum (opened at o) else o

-- Want: a lock, a read, a write or a function wants the record
unfoldable pub want : Place → Rules → ℕ → ClientOp → Moving → Moving
want at rules call asked o = want_of at rules call asked (opened_at_home at o)
