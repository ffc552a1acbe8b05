-- An event is taken and noted as an entry, or not; a ticket is given, or not; messages are sent, or some of them.
use Rattle.std.proofs.Common.{◌≡◌, ◌∙◌, ℕ, ◌+◌, inl, inr, Bool, true, false, cond, List, [], ◌∷◌, ◌++◌, Option, None, Some, Ok, Err, refl, sym, ap, subst}
use Rattle.std.proofs.lemmas.Grind.{flat_map-append}
use Rattle.std.proofs.lemmas.List.{append-nil}
use Rattle.ct_call.specs.Rules.{Rules}
use Rattle.ct_frame.specs.declared.event.Event.{Event}
use Rattle.ct_frame.specs.declared.event.Event.TheVariants as event
use Rattle.ct_frame.specs.declared.frame.Frame.{Frame}
use Rattle.ct_values.specs.declared.client.ClientOp.{ClientOp}
use Rattle.ct_script.specs.declared.plan.PlanItem.{PlanItem}
use Rattle.ct_script.specs.declared.plan.PlanItem.TheVariants.{Call, Round}
use Rattle.ct_frame.specs.Fields.{well_formed}
use Rattle.ct_script.specs.Cues.{next_item}
use Rattle.ct_script.specs.declared.cue.Cue.{Cue}
use Rattle.ct_rules_node.specs.Coming.{may_come}
use Rattle.ct_actor.specs.Journalled.{IsFed, Journalled, last_outs}
use Rattle.ct_actor.proofs.Stepping.{arrives}
use Rattle.ct_outside.specs.Links.{Parcel, Pieces, Receives}
use Rattle.ct_outside.specs.Locks.{LockState, TakesLock}
use Rattle.ct_outside.specs.Told.{Told}
use Rattle.ct_outside.specs.declared.fault.LinkFault.{LinkFault}
use Rattle.ct_outside.specs.declared.fault.TakeFault.TheVariants as take
use Rattle.ct_outside.specs.declared.link.Received.{Received}
use Rattle.ct_outside.specs.declared.link.Received.TheVariants as answer
use Rattle.ct_wire_link.specs.Parcels.{frame_parcels, frames_sent, parcels_of}
use Rattle.ct_rules_node.specs.Steps.{stepped}
use Rattle.ct_rules_node.specs.Turn.{Turn}
use Rattle.ct_wire_link.specs.Sending.{SendsFrames, before_long, is_long}
use Rattle.ct_wire_link.specs.declared.fault.SendFault.{SendFault}
use Rattle.ct_wire_link.specs.declared.fault.SendFault.TheVariants as send
use Rattle.ct_actor_serving.specs.Hearing.{AreForeign}
use Rattle.ct_actor_serving.specs.Outside.{ArriveUpTo, GivesTickets, NotesOne, HasNoTicket, SendsLong, SendsOnly, ServesFrames, ServesOn, TakesOnly, TakesTicket, arrivals_in, heard, outside, taken_in, tickets_in, with_arrival, with_ticket}
use Rattle.ct_actor_serving.specs.Serving.{IsNextItem, IsNoItem, IsNoPiece, IsNoSend, IsRefused, fault_of}
use Rattle.ct_actor_serving.specs.declared.fault.AtLimit.{AtLimit}
use Rattle.ct_actor_serving.specs.declared.fault.AtLimit.TheVariants as limit
use Rattle.ct_actor_serving.specs.declared.fault.ServeFault.{ServeFault}
use Rattle.ct_actor_serving.specs.declared.fault.ServeFault.TheVariants as fault
use Rattle.ct_actor_serving.proofs.Telling.{notes_sent, serves_lock, told_same, told_so, unrefused}
use Rattle.ct_node_state.specs.declared.turn.CoreFault.{CoreFault}
use Rattle.ct_node_state.specs.declared.turn.CoreFault.TheVariants as core

-- ---- an entry more

noted : (u : Unit {0}) (e : Event) (rule : Option Turn) (arrived : List Frame) (x y : Journalled) (s t : Option LockState) →
    IsFed (Ok u) e rule x y → with_arrival e [] ≡ arrived → Told s t (GivesTickets None (with_ticket e [])) → NotesOne arrived x y s t
unfolding tickets_in arrivals_in
noted u e rule arrived x y s t fed is tickets = record {
  entry = record { event = e; outs = fed.0 };
  all = ap (λ (z : Journalled). z.entries) fed.2;
  arrivals = is;
  tickets = tickets;
}

pub arrival_noted : (rules : Rules) (u : Unit {0}) (f : Frame) (x y : Journalled) (s : Option LockState) →
    IsFed (Ok u) (event.Arrive f) (stepped x.core.config rules x.core.pnn (event.Arrive f) x.core.node) x y → NotesOne (f ∷ []) x y s s
unfolding with_arrival with_ticket
arrival_noted rules u f x y s fed =
    noted u (event.Arrive f) (stepped x.core.config rules x.core.pnn (event.Arrive f) x.core.node) (f ∷ []) x y s s fed refl (told_same s (GivesTickets None []) (λ l. refl))

pub call_noted : (rules : Rules) (u : Unit {0}) (call : ℕ) (o : ClientOp) (x y : Journalled) (s : Option LockState) →
    IsFed (Ok u) (event.Client call o) (stepped x.core.config rules x.core.pnn (event.Client call o) x.core.node) x y → NotesOne [] x y s s
unfolding with_arrival with_ticket
call_noted rules u call o x y s fed =
    noted u (event.Client call o) (stepped x.core.config rules x.core.pnn (event.Client call o) x.core.node) [] x y s s fed refl (told_same s (GivesTickets None []) (λ l. refl))

pub round_noted : (rules : Rules) (u : Unit {0}) (ticket node : ℕ) (members : List ℕ) (x y : Journalled) (s t : Option LockState) →
    IsFed (Ok u) (event.BeginRound ticket members) (stepped x.core.config rules x.core.pnn (event.BeginRound ticket members) x.core.node) x y → Told s t (TakesTicket (Ok ticket) node) → NotesOne [] x y s t
unfolding with_arrival with_ticket
round_noted rules u ticket node members x y s t fed took =
    noted u (event.BeginRound ticket members) (stepped x.core.config rules x.core.pnn (event.BeginRound ticket members) x.core.node) [] x y s t fed refl took

-- ---- a step that is refused

same_fed : (f : CoreFault) (e : Event) (rule : Option Turn) (x y : Journalled) → IsFed (Err f) e rule x y → y ≡ x
same_fed core.Exhausted e rule x y fed = fed.1
same_fed core.NoMemory e rule x y fed = fed

-- where it is refused, the rules give none there
pub refused_here : (rules : Rules) (e : Event) (x y : Journalled) → may_come x.core.config x.core.pnn x.core.node e ≡ true → IsFed (Err core.Exhausted) e (stepped x.core.config rules x.core.pnn e x.core.node) x y → IsRefused rules e y
refused_here rules e x y comes fed = subst (λ (z : Journalled). IsRefused rules e z) (sym fed.1) (record { comes = comes; none = fed.0 })

-- it is an item of the script that the rules refuse
abbrev pub IsItem : AtLimit → Type 0
IsItem limit.Ticket = ⊥
IsItem limit.Call = Unit {0}
IsItem (limit.Round ticket) = Unit {0}
IsItem (limit.Message sender) = ⊥

core_send : (at : AtLimit) (f : CoreFault) → IsNoSend (Some (fault_of at f))
core_send at core.Exhausted = tt
core_send at core.NoMemory = tt

core_piece : (at : AtLimit) (f : CoreFault) → IsItem at → IsNoPiece (Some (fault_of at f))
core_piece limit.Ticket f h = absurd h
core_piece limit.Call core.Exhausted h = tt
core_piece limit.Call core.NoMemory h = tt
core_piece (limit.Round ticket) core.Exhausted h = tt
core_piece (limit.Round ticket) core.NoMemory h = tt
core_piece (limit.Message sender) f h = absurd h

core_ticket : (at : AtLimit) (f : CoreFault) (x : Journalled) (lock : LockState) → IsItem at → HasNoTicket (Some (fault_of at f)) x lock
core_ticket limit.Ticket f x lock h = absurd h
core_ticket limit.Call core.Exhausted x lock h = tt
core_ticket limit.Call core.NoMemory x lock h = tt
core_ticket (limit.Round ticket) core.Exhausted x lock h = tt
core_ticket (limit.Round ticket) core.NoMemory x lock h = tt
core_ticket (limit.Message sender) f x lock h = absurd h

item_refused : (rules : Rules) (at : AtLimit) (f : CoreFault) (e : Event) (x y : Journalled) (p : Option Pieces) (s t : Option LockState) →
    IsItem at → IsFed (Err f) e (stepped x.core.config rules x.core.pnn e x.core.node) x y → Told s t (GivesTickets (Some (fault_of at f)) [])
    → ServesOn rules (Some (fault_of at f)) (heard [] []) x y (outside p s) (outside p t)
item_refused rules at f e x y p s t item fed tickets =
    serves_lock rules (Some (fault_of at f)) x y [] p s t (same_fed f e (stepped x.core.config rules x.core.pnn e x.core.node) x y fed) tickets
    (told_so s t (GivesTickets (Some (fault_of at f)) []) (λ u v. HasNoTicket (Some (fault_of at f)) y v) (λ u v k. core_ticket at f y v item) tickets)
    (core_send at f) (unrefused rules (Some (fault_of at f)) [] y (core_piece at f item))

pub step_refused : (rules : Rules) (at : AtLimit) (f : CoreFault) (g : ServeFault) (e : Event) (x y : Journalled) (p : Option Pieces) (s t : Option LockState) →
    g ≡ fault_of at f → IsItem at → IsFed (Err f) e (stepped x.core.config rules x.core.pnn e x.core.node) x y → Told s t (GivesTickets (Some g) [])
    → ServesOn rules (Some g) (heard [] []) x y (outside p s) (outside p t)
step_refused rules at f g e x y p s t is item fed tickets =
    subst (λ (h : ServeFault). ServesOn rules (Some h) (heard [] []) x y (outside p s) (outside p t)) (sym is)
    (item_refused rules at f e x y p s t item fed (subst (λ (h : ServeFault). Told s t (GivesTickets (Some h) [])) is tickets))

pub step_piece : (at : AtLimit) (f : CoreFault) (g : ServeFault) → g ≡ fault_of at f → IsItem at → IsNoPiece (Some g)
step_piece at f g is item = subst (λ (h : ServeFault). IsNoPiece (Some h)) (sym is) (core_piece at f item)

core_ours : (at : AtLimit) (f : CoreFault) (me : ℕ) (taken : List Parcel) → AreForeign (Some (fault_of at f)) me taken
core_ours at core.Exhausted me taken = tt
core_ours at core.NoMemory me taken = tt

pub step_ours : (at : AtLimit) (f : CoreFault) (g : ServeFault) (me : ℕ) (taken : List Parcel) → g ≡ fault_of at f → AreForeign (Some g) me taken
step_ours at f g me taken is = subst (λ (h : ServeFault). AreForeign (Some h) me taken) (sym is) (core_ours at f me taken)

core_item : (sender : ℕ) (f : CoreFault) → IsNoItem (Some (fault_of (limit.Message sender) f))
core_item sender core.Exhausted = tt
core_item sender core.NoMemory = tt

-- a message is no item
pub step_item : (sender : ℕ) (f : CoreFault) (g : ServeFault) → g ≡ fault_of (limit.Message sender) f → IsNoItem (Some g)
step_item sender f g is = subst (λ (h : ServeFault). IsNoItem (Some h)) (sym is) (core_item sender f)

-- ---- the next item

-- a call that is refused is the next item
call_next : (rules : Rules) (script : List PlanItem) (f : CoreFault) (o : ClientOp) (x y : Journalled) (c : Cue) →
    next_item script c ≡ Some (Call o) → may_come x.core.config x.core.pnn x.core.node (event.Client (c.calls + 1) o) ≡ true
    → IsFed (Err f) (event.Client (c.calls + 1) o) (stepped x.core.config rules x.core.pnn (event.Client (c.calls + 1) o) x.core.node) x y
    → IsNextItem rules script (Some (fault_of limit.Call f)) y c
call_next rules script core.Exhausted o x y c next comes fed = (o, next, refused_here rules (event.Client (c.calls + 1) o) x y comes fed)
call_next rules script core.NoMemory o x y c next comes fed = tt

pub call_at_limit : (rules : Rules) (script : List PlanItem) (f : CoreFault) (g : ServeFault) (o p : ClientOp) (i : PlanItem) (x y : Journalled) (c d : Cue) →
    o ≡ p → i ≡ Call p → next_item script c ≡ Some i → g ≡ fault_of limit.Call f → may_come x.core.config x.core.pnn x.core.node (event.Client (c.calls + 1) o) ≡ true
    → IsFed (Err f) (event.Client (c.calls + 1) o) (stepped x.core.config rules x.core.pnn (event.Client (c.calls + 1) o) x.core.node) x y → d ≡ c
    → IsNextItem rules script (Some g) y d
call_at_limit rules script f g o p i x y c d same is next given comes fed stays =
    let item : next_item script c ≡ Some (Call o) = next ∙ ap (λ (q : PlanItem). Some q) is ∙ ap (λ (q : ClientOp). Some (Call q)) (sym same) in
    subst (λ (h : ServeFault). IsNextItem rules script (Some h) y d) (sym given)
    (subst (λ (e : Cue). IsNextItem rules script (Some (fault_of limit.Call f)) y e) (sym stays) (call_next rules script f o x y c item comes fed))

-- so is a round
round_next : (rules : Rules) (script : List PlanItem) (f : CoreFault) (ticket : ℕ) (members : List ℕ) (x y : Journalled) (c : Cue) →
    next_item script c ≡ Some (Round members) → may_come x.core.config x.core.pnn x.core.node (event.BeginRound ticket members) ≡ true
    → IsFed (Err f) (event.BeginRound ticket members) (stepped x.core.config rules x.core.pnn (event.BeginRound ticket members) x.core.node) x y
    → IsNextItem rules script (Some (fault_of (limit.Round ticket) f)) y c
round_next rules script core.Exhausted ticket members x y c next comes fed = (members, next, refused_here rules (event.BeginRound ticket members) x y comes fed)
round_next rules script core.NoMemory ticket members x y c next comes fed = tt

pub round_at_limit : (rules : Rules) (script : List PlanItem) (f : CoreFault) (g : ServeFault) (ticket : ℕ) (ms ns : List ℕ) (i : PlanItem) (x y : Journalled) (c d : Cue) →
    ms ≡ ns → i ≡ Round ns → next_item script c ≡ Some i → g ≡ fault_of (limit.Round ticket) f → may_come x.core.config x.core.pnn x.core.node (event.BeginRound ticket ms) ≡ true
    → IsFed (Err f) (event.BeginRound ticket ms) (stepped x.core.config rules x.core.pnn (event.BeginRound ticket ms) x.core.node) x y → d ≡ c
    → IsNextItem rules script (Some g) y d
round_at_limit rules script f g ticket ms ns i x y c d same is next given comes fed stays =
    let item : next_item script c ≡ Some (Round ms) = next ∙ ap (λ (q : PlanItem). Some q) is ∙ ap (λ (q : List ℕ). Some (Round q)) (sym same) in
    subst (λ (h : ServeFault). IsNextItem rules script (Some h) y d) (sym given)
    (subst (λ (e : Cue). IsNextItem rules script (Some (fault_of (limit.Round ticket) f)) y e) (sym stays) (round_next rules script f ticket ms x y c item comes fed))

-- a fault that tells nothing of an item
pub no_item : (rules : Rules) (script : List PlanItem) (f : Option ServeFault) (x : Journalled) (c : Cue) → IsNoItem f → IsNextItem rules script f x c
no_item rules script None x c h = tt
no_item rules script (Some fault.Link) x c h = tt
no_item rules script (Some (fault.Foreign sender offset)) x c h = tt
no_item rules script (Some (fault.Held holder)) x c h = absurd h
no_item rules script (Some (fault.TooLong n)) x c h = tt
no_item rules script (Some (fault.Exhausted limit.Ticket)) x c h = absurd h
no_item rules script (Some (fault.Exhausted limit.Call)) x c h = absurd h
no_item rules script (Some (fault.Exhausted (limit.Round ticket))) x c h = absurd h
no_item rules script (Some (fault.Exhausted (limit.Message sender))) x c h = tt
no_item rules script (Some fault.NoMemory) x c h = tt

-- ---- tickets

pub ticket_given : (ticket node : ℕ) (s t : Option LockState) → Told s t (TakesLock (Ok ticket) node) → Told s t (TakesTicket (Ok ticket) node)
ticket_given ticket node s t h = told_so s t (TakesLock (Ok ticket) node) (TakesTicket (Ok ticket) node) (λ u v k. (k.1, ap (λ (l : LockState). l.last) k.3 ∙ sym k.1)) h

pub ticket_held : (holder last node : ℕ) (s t : Option LockState) → Told s t (TakesLock (Err (take.Held holder last)) node) → Told s t (TakesTicket (Err (fault.Held holder)) node)
ticket_held holder last node s t h =
    told_so s t (TakesLock (Err (take.Held holder last)) node) (TakesTicket (Err (fault.Held holder)) node)
    (λ u v k. (ap (λ (l : LockState). l.last) k.3, λ x own. (ap (λ (l : LockState). l.holder) k.3 ∙ k.0, λ same. k.1 (same ∙ own)))) h

pub tickets_out : (node : ℕ) (s t : Option LockState) → Told s t (TakesLock (Err take.Exhausted) node) → Told s t (TakesTicket (Err (fault.Exhausted limit.Ticket)) node)
tickets_out node s t h =
    told_so s t (TakesLock (Err take.Exhausted) node) (TakesTicket (Err (fault.Exhausted limit.Ticket)) node)
    (λ u v k. (ap (λ (l : LockState). l.last) k.2, λ x own. ap (λ (l : LockState). l.last + 1) k.2 ∙ k.1)) h

pub lock_fails : (node : ℕ) (s t : Option LockState) → Told s t (TakesLock (Err take.Failed) node) → Told s t (TakesTicket (Err fault.Link) node)
lock_fails node s t h = told_so s t (TakesLock (Err take.Failed) node) (TakesTicket (Err fault.Link) node) (λ u v k. (ap (λ (l : LockState). l.last) k, λ x own. tt)) h

pub lock_wants : (node : ℕ) (s t : Option LockState) → Told s t (TakesLock (Err take.NoMemory) node) → Told s t (TakesTicket (Err fault.NoMemory) node)
lock_wants node s t h = told_so s t (TakesLock (Err take.NoMemory) node) (TakesTicket (Err fault.NoMemory) node) (λ u v k. (ap (λ (l : LockState). l.last) k, λ x own. tt)) h

-- the lock stays
pub lock_same : (g : ServeFault) (s : Option LockState) → Told s s (GivesTickets (Some g) [])
lock_same g s = told_same s (GivesTickets (Some g) []) (λ l. (l.last, refl, inl refl))

-- a ticket was given, and no round has it
pub ticket_lost : (g : ServeFault) (ticket node : ℕ) (s t : Option LockState) → Told s t (TakesTicket (Ok ticket) node) → Told s t (GivesTickets (Some g) [])
ticket_lost g ticket node s t h = told_so s t (TakesTicket (Ok ticket) node) (GivesTickets (Some g) []) (λ u v k. (u.last, refl, inr (k.1 ∙ k.0))) h

-- none was given
pub no_ticket : (rules : Rules) (g : ServeFault) (node : ℕ) (x : Journalled) (p : Option Pieces) (s t : Option LockState) → x.core.pnn ≡ node → Told s t (TakesTicket (Err g) node) → IsNoSend (Some g) → IsNoPiece (Some g)
    → ServesOn rules (Some g) (heard [] []) x x (outside p s) (outside p t)
no_ticket rules g node x p s t own h send piece =
    serves_lock rules (Some g) x x [] p s t refl
    (told_so s t (TakesTicket (Err g) node) (GivesTickets (Some g) []) (λ u v k. (u.last, refl, inl k.0)) h)
    (told_so s t (TakesTicket (Err g) node) (λ u v. HasNoTicket (Some g) x v) (λ u v k. k.1 x own) h) send (unrefused rules (Some g) [] x piece)

-- ---- pieces

pub all_sent : (u : Unit {0}) (fs : List Frame) (p q : Option Pieces) → Told p q (SendsFrames (Ok u) fs) → Told p q (SendsOnly None fs)
all_sent u fs p q h = told_so p q (SendsFrames (Ok u) fs) (SendsOnly None fs) (λ v w k. (ap (λ (x : Pieces). x.waiting) k, ap (λ (x : Pieces). x.sent) k)) h

front_step : (t : Bool) (f : Frame) (fs kept : List Frame) → ((rest : List Frame) × (fs ≡ kept ++ rest)) → (rest : List Frame) × (f ∷ fs ≡ cond t [] (f ∷ kept) ++ rest)
front_step true f fs kept h = (f ∷ fs, refl)
front_step false f fs kept h = (h.0, ap (λ (l : List Frame). f ∷ l) h.1)

long_front : (fs : List Frame) → (rest : List Frame) × (fs ≡ before_long fs ++ rest)
long_front [] = ([], refl)
long_front (f ∷ fs) = front_step (is_long f) f fs (before_long fs) (long_front fs)

pub some_sent : (e : SendFault) (g : ServeFault) (fs : List Frame) (p q : Option Pieces) → Told p q (SendsFrames (Err e) fs) → Told p q (SendsOnly (Some g) fs)
some_sent send.Link g fs p q h =
    told_so p q (SendsFrames (Err send.Link) fs) (SendsOnly (Some g) fs) (λ u v k. (ap (λ (x : Pieces). x.waiting) k.1.2, (k.1.0, k.0, k.1.1, ap (λ (x : Pieces). x.sent) k.1.2))) h
some_sent send.NoMemory g fs p q h =
    told_so p q (SendsFrames (Err send.NoMemory) fs) (SendsOnly (Some g) fs) (λ u v k. (ap (λ (x : Pieces). x.waiting) k.1.2, (k.1.0, k.0, k.1.1, ap (λ (x : Pieces). x.sent) k.1.2))) h
some_sent (send.TooLong n) g fs p q h =
    let rest = long_front fs in
    told_so p q (SendsFrames (Err (send.TooLong n)) fs) (SendsOnly (Some g) fs)
    (λ u v k. (
      ap (λ (x : Pieces). x.waiting) k,
      (
        parcels_of (before_long fs),
        parcels_of rest.0,
        ap (λ (l : List Frame). parcels_of l) rest.1 ∙ flat_map-append frame_parcels (before_long fs) rest.0,
        ap (λ (x : Pieces). x.sent) k,
      ),
    )) h

-- ---- a look

stays : (p q : Pieces) → q ≡ p → TakesOnly [] p q
stays p q same = (sym (ap (λ (x : Pieces). x.waiting) same), ap (λ (x : Pieces). x.sent) same)

pub looked : (r : Received) (p q : Option Pieces) → Told p q (Receives (Ok r)) → Told p q (TakesOnly (taken_in (Ok r)))
looked (answer.Piece sender bytes) p q h = h
looked answer.Nothing p q h = told_so p q (Receives (Ok answer.Nothing)) (TakesOnly []) (λ u v k. stays u v k.1) h
looked answer.Closed p q h = told_so p q (Receives (Ok answer.Closed)) (TakesOnly []) (λ u v k. stays u v k.1) h

pub not_looked : (e : LinkFault) (p q : Option Pieces) → Told p q (Receives (Err e)) → Told p q (TakesOnly [])
not_looked e p q h = told_so p q (Receives (Err e)) (TakesOnly []) (λ u v k. stays u v k) h

-- ---- a frame that arrives

up_to_all : (f : Option ServeFault) (fs : List Frame) → ArriveUpTo f fs fs []
up_to_all None fs = (refl, refl)
up_to_all (Some f) fs = ([], sym (append-nil (fs ++ []) ∙ append-nil fs))

-- it was noted, and what the node then does is sent
pub frame_served : (rules : Rules) (f : Option ServeFault) (u : Unit {0}) (frame : Frame) (x y : Journalled) (p q : Option Pieces) →
    IsFed (Ok u) (event.Arrive frame) (stepped x.core.config rules x.core.pnn (event.Arrive frame) x.core.node) x y → Told p q (SendsOnly f (frames_sent (last_outs y.entries)))
    → ((lock : LockState) → HasNoTicket f y lock) → SendsLong f y.entries → IsNoPiece f → ServesFrames rules f (frame ∷ []) x y p q
frame_served rules f u frame x y p q fed sends free long piece =
    (frame ∷ [], [], up_to_all f (frame ∷ []), λ lock. notes_sent rules f (frame ∷ []) x y p q lock lock (arrival_noted rules u frame x y lock fed) sends free long piece)

-- its step is refused
refused_frame : (rules : Rules) (f : CoreFault) (frame : Frame) (x y : Journalled) (p : Option Pieces) →
    may_come x.core.config x.core.pnn x.core.node (event.Arrive frame) ≡ true
    → IsFed (Err f) (event.Arrive frame) (stepped x.core.config rules x.core.pnn (event.Arrive frame) x.core.node) x y
    → ServesFrames rules (Some (fault_of (limit.Message frame.sender) f)) (frame ∷ []) x y p p
refused_frame rules core.Exhausted frame x y p comes fed = (
  [],
  frame ∷ [],
  ([], refl),
  λ lock. serves_lock rules (Some (fault.Exhausted (limit.Message frame.sender))) x y (frame ∷ []) p lock lock fed.1 (lock_same (fault.Exhausted (limit.Message frame.sender)) lock)
      (told_same lock (λ u v. HasNoTicket (Some (fault.Exhausted (limit.Message frame.sender))) y v) (λ u. tt)) tt (frame, refl, refl, refused_here rules (event.Arrive frame) x y comes fed),
)
refused_frame rules core.NoMemory frame x y p comes fed = (
  [],
  [],
  (frame ∷ [], refl),
  λ lock. serves_lock rules (Some fault.NoMemory) x y [] p lock lock fed (lock_same fault.NoMemory lock) (told_same lock (λ u v. HasNoTicket (Some fault.NoMemory) y v) (λ u. tt)) tt tt,
)

pub frame_refused : (rules : Rules) (f : CoreFault) (g : ServeFault) (sender : ℕ) (frame : Frame) (x y : Journalled) (p : Option Pieces) →
    g ≡ fault_of (limit.Message sender) f → sender ≡ frame.sender → well_formed frame ≡ true → frame.receiver ≡ x.core.pnn
    → IsFed (Err f) (event.Arrive frame) (stepped x.core.config rules x.core.pnn (event.Arrive frame) x.core.node) x y → ServesFrames rules (Some g) (frame ∷ []) x y p p
frame_refused rules f g sender frame x y p is from formed to fed =
    subst (λ (h : ServeFault). ServesFrames rules (Some h) (frame ∷ []) x y p p) (sym (is ∙ ap (λ (n : ℕ). fault_of (limit.Message n) f) from))
    (refused_frame rules f frame x y p (arrives x.core.config x.core.pnn x.core.node frame formed to) fed)
