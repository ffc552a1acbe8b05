-- One record as its law sees it: the rules of ct_rules, part by part, over what the facts of the law speak of.
use Rattle.std.specs.Prelude.{ℕ, ◌+◌, ◌-◌, Bool, true, false, not, ◌&&◌, ◌||◌, ◌==◌, nat_lt, nat_le, if◌then◌else◌, Option, Some, None, is_none, List, [], ◌∷◌, ◌++◌, Result, Ok, Err}
use Rattle.std.specs.List.{list_any}
use Rattle.ct_values.specs.Words.{others, is_nil}
use Rattle.ct_values.specs.Client.{is_read}
use Rattle.ct_tracking.specs.Awaited.{including}
use Rattle.ct_values.specs.declared.client.Answer.TheVariants as answer
use Rattle.ct_values.specs.declared.client.ClientOp.{ClientOp}
use Rattle.ct_values.specs.declared.client.ClientOp.TheVariants as op
use Rattle.ct_values.specs.declared.client.Why.TheVariants as why
use Rattle.ct_frame.specs.declared.frame.CallKind.{CallKind}
use Rattle.ct_frame.specs.declared.frame.CallKind.TheVariants as kind
use Rattle.ct_call.specs.Rules.{Rules}
use Rattle.ct_call.specs.Table.{applied}
use Rattle.ct_call.specs.declared.fault.CallFault.{CallFault}
use Rattle.ct_call.specs.declared.fault.CallFault.TheVariants as fault
use Rattle.ct_tracking.specs.Tracked.{Revocation}
use Rattle.ct_tracking.specs.Vacuum.{Vacuuming, vacuum_begun, ends_phase, stored, deleted}
use Rattle.ct_tracking.specs.declared.vacuum.VacuumPhase.{VacuumPhase}
use Rattle.ct_tracking.specs.declared.vacuum.VacuumPhase.TheVariants.{Storing, Deleting}
use Rattle.ct_rules.specs.State.{is_read_kind, kind_of}
use Rattle.ct_rules.specs.Messages.{is_request, same_recall}
use Rattle.ct_rules.specs.declared.state.Entry.{Entry}
use Rattle.ct_rules.specs.declared.state.RecallNote.{RecallNote}
use Rattle.ct_rules.specs.declared.state.Waiter.{Waiter}
use Rattle.ct_law_record.specs.Labels.{Label, Told, Vacuumed}

-- Here: the data master is the node itself. Given: it is nobody. For_reading: a copy for reading. Odd: both of the last two, which there is none of.
-- Stale: any other
pub data Kind : Type 0 where
  Here : Kind
  Given : Kind
  For_reading : Kind
  Stale : Kind
  Odd : Kind

pub record Copy : Type 0 where
  pub rsn : ℕ
  pub kind : Kind
  pub value : List ℕ

-- what a client asks, of a database that hands out copies for reading or not
pub record Op : Type 0 where
  pub real : ClientOp
  pub readonly : Bool

pub record Wish : Type 0 where
  pub request : ℕ
  pub op : Op

pub record Node : Type 0 where
  pub copy : Option Copy
  pub entry : Option Entry
  pub queue : List Waiter
  pub recalls : List RecallNote
  pub wish : Option Wish
  pub next : ℕ
  pub locked : Bool
  pub tracked : List ℕ
  pub revoking : Option Revocation
  pub vacuum : Option Vacuuming
  pub floor : ℕ
  pub fresh : Bool

pub data Body : Type 0 where
  Call : (request : ℕ) (asks : CallKind) → Body
  Recalls : (recall : RecallNote) → Body
  Give : (rsn : ℕ) (value : List ℕ) → Body
  Pass : (request rsn : ℕ) (value : List ℕ) → Body
  Refuse : (request rsn : ℕ) → Body
  Grant : (request rsn : ℕ) (value : List ℕ) → Body
  Done : (node request : ℕ) → Body
  Revoke : (rsn : ℕ) → Body
  RevokeAck : (rsn : ℕ) → Body
  VStore : (rsn : ℕ) → Body
  VStored : (rsn : ℕ) → Body
  VDelete : (rsn : ℕ) → Body
  VDeleted : (rsn : ℕ) → Body

pub record Frame : Type 0 where
  pub from : ℕ
  pub to : ℕ
  pub body : Body

-- a node in the middle of a step: its state, what it sent and what it told
pub record Out : Type 0 where
  pub node : Node
  pub frames : List Frame
  pub labels : List Label

unfoldable pub send : ℕ → ℕ → Body → Out → Out
send me to b o = record o { frames = o.frames ++ (record { from = me; to = to; body = b } ∷ []) }

unfoldable pub tell : Label → Out → Out
tell label o = record o { labels = o.labels ++ (label ∷ []) }

unfoldable pub with_node : Node → Out → Out
with_node n o = record o { node = n }

-- the copy's rank: 0 where it is absent, else one above its RSN
unfoldable pub rank : Option Copy → ℕ
rank None = 0
rank (Some c) = c.rsn + 1

unfoldable pub is_kind_here : Kind → Bool
is_kind_here Here = true
is_kind_here _ = false

unfoldable pub is_kind_given : Kind → Bool
is_kind_given Given = true
is_kind_given _ = false

unfoldable pub is_kind_reading : Kind → Bool
is_kind_reading For_reading = true
is_kind_reading _ = false

unfoldable pub is_kind_odd : Kind → Bool
is_kind_odd Odd = true
is_kind_odd _ = false

unfoldable pub is_odd : Option Copy → Bool
is_odd None = false
is_odd (Some c) = is_kind_odd c.kind

unfoldable pub is_here : Option Copy → Bool
is_here None = false
is_here (Some c) = is_kind_here c.kind

unfoldable pub is_given : Option Copy → Bool
is_given None = false
is_given (Some c) = is_kind_given c.kind

unfoldable pub is_reading : Option Copy → Bool
is_reading None = false
is_reading (Some c) = is_kind_reading c.kind

unfoldable pub value_of : Option Copy → List ℕ
value_of None = []
value_of (Some c) = c.value

unfoldable pub rsn_of : Option Copy → ℕ
rsn_of None = 0
rsn_of (Some c) = c.rsn

unfoldable pub with_value : List ℕ → Option Copy → Option Copy
with_value v None = None
with_value v (Some c) = Some (record c { value = v })

-- the copy that its data master gave away
unfoldable pub given_copy : Option Copy → Option Copy
given_copy None = None
given_copy (Some c) = Some (record c { kind = Given })

-- the copy under the next RSN
unfoldable pub risen : Option Copy → Option Copy
risen None = None
risen (Some c) = Some (record c { rsn = c.rsn + 1 })

unfoldable pub reads_op : Op → Bool
reads_op o = is_read_kind (kind_of o.readonly o.real)

unfoldable pub is_idle : Option Revocation → Bool
is_idle None = true
is_idle (Some r) = false

unfoldable pub is_free : Node → Bool
is_free n = is_here n.copy && not n.locked && is_idle n.revoking

-- Give, at a holder that tracks nobody
unfoldable pub give : ℕ → ℕ → Out → Out
give me master o =
    send me master (Give (rsn_of o.node.copy) (value_of o.node.copy)) (with_node (record o.node { copy = given_copy o.node.copy; recalls = [] }) o)

unfoldable pub send_all : ℕ → List ℕ → Body → Out → Out
send_all me [] b o = o
send_all me (n ∷ ns) b o = send_all me ns b (send me n b o)

-- Revoke, at a holder that tracks somebody
unfoldable pub revoke : ℕ → Out → Out
revoke me o = send_all me o.node.tracked (Revoke (rsn_of o.node.copy)) (with_node (record o.node {
  revoking = Some (record { rsn = rsn_of o.node.copy; missing = o.node.tracked });
}) o)

-- a vacuum of the record ends
unfoldable pub end_vacuum : Out → Out
end_vacuum o = with_node (record o.node { vacuum = None }) o

unfoldable pub has_node : ℕ → List ℕ → Bool
has_node n [] = false
has_node n (m ∷ ms) = m == n || has_node n ms

unfoldable pub is_wish : ℕ → Bool → Option Wish → Bool
is_wish q reads None = false
is_wish q reads (Some w) = w.request == q && (if reads then reads_op w.op else not (reads_op w.op))

unfoldable pub read_here : ℕ → ℕ → Out → Option Wish → Out
read_here me q o None = o
read_here me q o (Some w) =
    if is_wish q true (Some w)
    then tell (Told me w.op.real (answer.Read (value_of o.node.copy))) (with_node (record o.node { wish = None }) o)
    else o

-- Handle a recall of kind Read
unfoldable pub grant : ℕ → ℕ → RecallNote → Out → Out
grant me master r o =
    send me master (Done r.node r.request)
    (if r.node == me
    then read_here me r.request o o.node.wish
    else send me r.node (Grant r.request (rsn_of o.node.copy) (value_of o.node.copy)) (with_node (record o.node { tracked = including r.node o.node.tracked }) o))

-- Handle a recall of kind Lock
unfoldable pub yield_record : ℕ → ℕ → Out → Out
yield_record me master o = if is_nil o.node.tracked then give me master o else revoke me o

-- Drain
unfoldable pub drain : ℕ → ℕ → List RecallNote → Out → Out
drain me master [] o = with_node (record o.node { recalls = [] }) o
drain me master (r ∷ rs) o =
    if is_free o.node
    then (if is_read_kind r.kind then drain me master rs (grant me master r (end_vacuum o)) else yield_record me master (with_node (record o.node { recalls = r ∷ rs; vacuum = None }) o))
    else with_node (record o.node { recalls = r ∷ rs }) o

-- Satisfy a function
unfoldable pub applies : ℕ → ClientOp → Out → Result (List ℕ) CallFault → Out
applies me asked o (Ok v) = tell (Told me asked (answer.Applied v)) (with_node (record o.node { copy = with_value v o.node.copy }) o)
applies me asked o (Err (fault.TooLong n)) = tell (Told me asked (answer.Refused (why.TooLong n))) o
applies me asked o (Err fault.NoSuchCall) = tell (Told me asked (answer.Refused why.NoSuchCall)) o
applies me asked o (Err fault.NoMemory) = o

-- Satisfy
unfoldable pub satisfy : Rules → ℕ → ClientOp → Out → Out
satisfy rules me (op.Lock db key) o = tell (Told me (op.Lock db key) (answer.Locked (value_of o.node.copy))) (with_node (record o.node { locked = true }) o)
satisfy rules me (op.Read db key) o = tell (Told me (op.Read db key) (answer.Read (value_of o.node.copy))) o
satisfy rules me (op.Write db key v) o = tell (Told me (op.Write db key v) answer.Written) (with_node (record o.node { copy = with_value v o.node.copy }) o)
satisfy rules me (op.Apply db key f arg) o = applies me (op.Apply db key f arg) o (applied f (value_of o.node.copy) arg rules)
satisfy rules me _ o = o

unfoldable pub satisfy_wish : Rules → ℕ → Option Wish → Out → Out
satisfy_wish rules me None o = o
satisfy_wish rules me (Some w) o = satisfy rules me w.op.real (with_node (record o.node { wish = None }) o)

-- End of revocation
unfoldable pub end_wish : Rules → ℕ → Option Wish → Out → Out
end_wish rules me None o = o
end_wish rules me (Some w) o = if w.request == 0 then satisfy rules me w.op.real (with_node (record o.node { wish = None }) o) else o

unfoldable pub end_revocation : Rules → ℕ → ℕ → Out → Out
end_revocation rules me master o =
    let o' = end_wish rules me o.node.wish (with_node (record o.node { copy = risen o.node.copy; tracked = []; revoking = None }) o) in
    drain me master o'.node.recalls o'

unfoldable pub on_ack : Rules → ℕ → ℕ → ℕ → ℕ → Out → Option Revocation → Out
on_ack rules me master n rsn o None = o
on_ack rules me master n rsn o (Some v) =
    if v.rsn == rsn
    then (if is_nil (others n v.missing)
    then end_revocation rules me master o
    else with_node (record o.node { revoking = Some (record v { missing = others n v.missing }) }) o)
    else o

unfoldable pub stale : ℕ → Option Copy → Option Copy
stale rsn None = None
stale rsn (Some c) = if is_kind_reading c.kind && nat_le c.rsn rsn then Some (record c { kind = Stale }) else Some c

unfoldable pub on_revoke : ℕ → ℕ → ℕ → ℕ → Out → Option Wish → Out
on_revoke me master h rsn o None = send me h (RevokeAck rsn) (with_node (record o.node { copy = stale rsn o.node.copy }) o)
on_revoke me master h rsn o (Some w) =
    if reads_op w.op
    then send me master (Call o.node.next kind.Read) (send me h (RevokeAck rsn) (with_node (record o.node {
      copy = stale rsn o.node.copy;
      wish = Some (record w { request = o.node.next });
      next = o.node.next + 1;
    }) o))
    else send me h (RevokeAck rsn) (with_node (record o.node { copy = stale rsn o.node.copy }) o)

unfoldable pub read_granted : ℕ → Out → Option Wish → List ℕ → Out
read_granted me o None value = o
read_granted me o (Some w) value = tell (Told me w.op.real (answer.Read value)) (with_node (record o.node { wish = None }) o)

unfoldable pub on_grant : ℕ → ℕ → ℕ → List ℕ → Out → Out
on_grant me q rsn value o =
    if is_wish q true o.node.wish && not (is_here o.node.copy) && nat_le (rank o.node.copy) (rsn + 1)
    then read_granted me (with_node (record o.node { copy = Some (record { rsn = rsn; kind = For_reading; value = value }) }) o) o.node.wish value
    else o

-- Next, at the location master
unfoldable pub next_of : ℕ → Out → Option Entry → List Waiter → Out
next_of me o None asks = o
next_of me o (Some e) [] = o
next_of me o (Some e) (ask ∷ asks) =
    send me e.holder (Recalls (record { least = e.least; node = ask.node; request = ask.request; kind = ask.kind })) o

unfoldable pub next : ℕ → Out → Out
next me o = next_of me o o.node.entry o.node.queue

-- the node has the record
unfoldable pub become : ℕ → List ℕ → Out → Out
become rsn value o = with_node (record o.node { copy = Some (record { rsn = rsn; kind = Here; value = value }) }) o

-- Open, at the location master
unfoldable pub open_of : ℕ → Out → Option Entry → Out
open_of me o (Some e) = o
open_of me o None = become o.node.floor [] (with_node (record o.node { entry = Some (record { holder = me; least = o.node.floor; request = 0; value = [] }) }) o)

unfoldable pub opened : ℕ → Out → Out
opened me o = open_of me o o.node.entry

-- Keep, at the location master
unfoldable pub keep : ℕ → ℕ → List ℕ → Out → Out
keep me rsn value o = next me (become rsn value (with_node (record o.node { entry = Some (record { holder = me; least = rsn; request = 0; value = value }) }) o))

-- a wish is drawn a number, and the location master is called
unfoldable pub call : ℕ → ℕ → Op → Out → Out
call me master op o =
    send me master (Call o.node.next (kind_of op.readonly op.real)) (with_node (record o.node {
      wish = Some (record { request = o.node.next; op = op });
      next = o.node.next + 1;
    }) o)

unfoldable pub wish_kept : Op → Out → Out
wish_kept op o = with_node (record o.node { wish = Some (record { request = 0; op = op }) }) o

unfoldable pub wait_for_copies : ℕ → Op → Out → Out
wait_for_copies me op o = if is_idle o.node.revoking then revoke me (wish_kept op o) else wish_kept op o

-- Want, once the location master has an entry
unfoldable pub want_of : Rules → ℕ → ℕ → Op → Out → Out
want_of rules me master op o =
    if is_read op.real && (is_here o.node.copy || is_reading o.node.copy)
    then tell (Told me op.real (answer.Read (value_of o.node.copy))) o
    else (if is_here o.node.copy
    then (if is_nil o.node.tracked then satisfy rules me op.real o else wait_for_copies me op o)
    else call me master op o)

-- Want
unfoldable pub want : Rules → ℕ → ℕ → Op → Out → Out
want rules me master op o = want_of rules me master op (if me == master && not o.node.locked then opened me (end_vacuum o) else o)

-- Store and Unlock, where the record is locked
unfoldable pub store : ℕ → ℕ → List ℕ → List ℕ → Out → Out
store me db key v o = tell (Told me (op.Store db key v) answer.Stored) (with_node (record o.node { copy = with_value v o.node.copy }) o)

unfoldable pub release : ℕ → ℕ → List ℕ → Out → Out
release me db key o = tell (Told me (op.Unlock db key) answer.Unlocked) (with_node (record o.node { locked = false }) o)

unfoldable pub unlock : ℕ → ℕ → ℕ → List ℕ → Out → Out
unlock me master db key o = drain me master o.node.recalls (tell (Told me (op.Unlock db key) answer.Unlocked) (with_node (record o.node { locked = false }) o))

unfoldable pub revoke_again : ℕ → Out → Option Revocation → Out
revoke_again me o None = o
revoke_again me o (Some v) = send_all me v.missing (Revoke v.rsn) o

unfoldable pub retry : ℕ → ℕ → Out → Option Wish → Out
retry me master o None = o
retry me master o (Some w) = if w.request == 0 then o else send me master (Call w.request (kind_of w.op.readonly w.op.real)) o

unfoldable pub pass_again : ℕ → Entry → Out → Out
pass_again me e o = send me e.holder (Pass e.request (e.least - 1) e.value) o

unfoldable pub enqueue : ℕ → Waiter → Out → List Waiter → Out
enqueue me w o [] = next me (with_node (record o.node { queue = w ∷ [] }) o)
enqueue me w o (v ∷ vs) = with_node (record o.node { queue = (v ∷ vs) ++ w ∷ [] }) o

unfoldable pub on_call_of : ℕ → ℕ → ℕ → CallKind → Out → Option Entry → Out
on_call_of me n q k o None = o
on_call_of me n q k o (Some e) =
    if e.holder == n && e.request == q then pass_again me e o
    else (if list_any (is_request n q) o.node.queue
    then next me (if e.request == 0 then o else pass_again me e o)
    else enqueue me (record { node = n; request = q; kind = k }) o o.node.queue)

unfoldable pub on_call : ℕ → ℕ → ℕ → CallKind → Out → Out
on_call me n q k o = let o' = opened me (end_vacuum o) in on_call_of me n q k o' o'.node.entry

unfoldable pub add_recall : RecallNote → Out → Out
add_recall r o = if list_any (same_recall r) o.node.recalls then o else with_node (record o.node { recalls = o.node.recalls ++ (r ∷ []) }) o

unfoldable pub handle : ℕ → ℕ → RecallNote → Out → Out
handle me master r o = if is_read_kind r.kind then grant me master r (end_vacuum o) else yield_record me master (with_node (record o.node { recalls = r ∷ o.node.recalls; vacuum = None }) o)

unfoldable pub on_recall : ℕ → ℕ → RecallNote → Out → Out
on_recall me master r o =
    if nat_lt r.least (rank o.node.copy)
    then (if is_here o.node.copy
    then (if is_free o.node then handle me master r o else add_recall r o)
    else (if is_given o.node.copy then send me master (Give (rsn_of o.node.copy) (value_of o.node.copy)) o else o))
    else add_recall r o

unfoldable pub give_to : ℕ → ℕ → List ℕ → Out → List Waiter → Out
give_to me rsn value o [] = keep me (rsn + 1) value o
give_to me rsn value o (a ∷ as') =
    if is_read_kind a.kind then keep me (rsn + 1) value o
    else next me (send me a.node (Pass a.request rsn value) (with_node (record o.node {
      entry = Some (record { holder = a.node; least = rsn + 1; request = a.request; value = value });
      queue = as';
    }) o))

unfoldable pub on_give_of : ℕ → ℕ → ℕ → List ℕ → Out → Option Entry → Out
on_give_of me x rsn value o None = o
on_give_of me x rsn value o (Some e) =
    if e.holder == x && nat_le e.least rsn then give_to me rsn value o o.node.queue else o

-- Pass: the node becomes holder
unfoldable pub becomes : ℕ → List ℕ → Out → Out
becomes rsn value o = with_node (record o.node { copy = Some (record { rsn = rsn; kind = Here; value = value }); tracked = []; revoking = None }) o

unfoldable pub accept : Rules → ℕ → ℕ → ℕ → List ℕ → Out → Out
accept rules me master rsn value o =
    let o' = satisfy_wish rules me o.node.wish (becomes (rsn + 1) value o) in
    drain me master o'.node.recalls o'

unfoldable pub refuse : ℕ → ℕ → ℕ → ℕ → Out → Out
refuse me master q rsn o = send me master (Refuse q rsn) (with_node (record o.node { recalls = [] }) o)

unfoldable pub on_pass : Rules → ℕ → ℕ → ℕ → ℕ → List ℕ → Out → Out
on_pass rules me master q rsn value o =
    if nat_lt (rsn + 1) (rank o.node.copy) then o
    else (if is_wish q false o.node.wish then accept rules me master rsn value o else refuse me master q rsn o)

unfoldable pub on_refuse_of : ℕ → ℕ → ℕ → ℕ → Out → Option Entry → Out
on_refuse_of me n q rsn o None = o
on_refuse_of me n q rsn o (Some e) =
    if e.holder == n && e.least == rsn + 1 && e.request == q && not (q == 0)
    then keep me (rsn + 2) e.value o else o

unfoldable pub on_done : ℕ → ℕ → ℕ → Out → List Waiter → Out
on_done me n q o [] = o
on_done me n q o (a ∷ as') = if is_request n q a then next me (with_node (record o.node { queue = as' }) o) else o

-- the copy that VStore leaves, and the one that VDelete leaves
unfoldable pub raise_copy : ℕ → Bool → Option Copy → Option Copy
raise_copy rsn locked None = None
raise_copy rsn locked (Some c) =
    if nat_lt c.rsn rsn && not locked && not (is_kind_here c.kind) then Some (record { rsn = rsn; kind = Stale; value = [] }) else Some c

unfoldable pub drop_copy : ℕ → Bool → Option Copy → Option Copy
drop_copy rsn locked None = None
drop_copy rsn locked (Some c) = if nat_le c.rsn rsn && not locked && not (is_kind_here c.kind) then None else Some c

unfoldable pub on_vstore : ℕ → ℕ → ℕ → Out → Out
on_vstore me h rsn o = send me h (VStored rsn) (with_node (record o.node { copy = raise_copy rsn o.node.locked o.node.copy }) o)

unfoldable pub on_vdelete : ℕ → ℕ → ℕ → Out → Out
on_vdelete me h rsn o = send me h (VDeleted rsn) (with_node (record o.node { copy = drop_copy rsn o.node.locked o.node.copy }) o)

unfoldable pub greater : ℕ → ℕ → ℕ
greater a b = if nat_le a b then b else a

-- Finish
unfoldable pub finish : ℕ → ℕ → Out → Out
finish me rsn o = tell (Vacuumed me) (with_node (record o.node { copy = None; entry = None; vacuum = None; floor = greater o.node.floor (rsn + 2) }) o)

unfoldable pub set_vacuum : Vacuuming → Out → Out
set_vacuum v o = with_node (record o.node { vacuum = Some v }) o

unfoldable pub on_vstored : ℕ → ℕ → ℕ → Out → Option Vacuuming → Out
on_vstored me n rsn o None = o
on_vstored me n rsn o (Some v) =
    if ends_phase Storing n rsn v then send_all me v.others (VDelete rsn) (set_vacuum (stored n rsn v) o) else set_vacuum (stored n rsn v) o

unfoldable pub on_vdeleted : ℕ → ℕ → ℕ → Out → Option Vacuuming → Out
on_vdeleted me n rsn o None = o
on_vdeleted me n rsn o (Some v) =
    if ends_phase Deleting n rsn v then finish me rsn o else set_vacuum (deleted n rsn v) o

unfoldable pub phase_frame : ℕ → VacuumPhase → Body
phase_frame rsn Storing = VStore rsn
phase_frame rsn Deleting = VDelete rsn

unfoldable pub is_storing : VacuumPhase → Bool
is_storing Storing = true
is_storing Deleting = false

unfoldable pub begin_vacuum : ℕ → Out → List ℕ → Out
begin_vacuum me o [] = finish me (rsn_of o.node.copy) o
begin_vacuum me o (n ∷ ns) = send_all me (n ∷ ns) (VStore (rsn_of o.node.copy)) (with_node (record o.node {
  copy = risen o.node.copy;
  vacuum = Some (vacuum_begun (rsn_of o.node.copy) (n ∷ ns));
}) o)

unfoldable pub vacuum_of : ℕ → List ℕ → Out → Option Vacuuming → Out
vacuum_of me peers o (Some v) = send_all me v.missing (phase_frame v.rsn v.phase) o
vacuum_of me peers o None = begin_vacuum me o peers

unfoldable pub is_vacuumed : Node → Bool
is_vacuumed n = is_free n && is_nil (value_of n.copy) && is_nil n.tracked && is_nil n.recalls && is_nil n.queue && is_none n.wish

unfoldable pub vacuum_event : ℕ → ℕ → List ℕ → Out → Out
vacuum_event me master peers o =
    if is_vacuumed o.node
    then (if me == master then vacuum_of me peers o o.node.vacuum else give me master o)
    else o

-- the floor rises
unfoldable pub raise_floor : ℕ → Out → Out
raise_floor low o = with_node (record o.node { floor = greater o.node.floor low }) o
