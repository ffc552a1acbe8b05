-- What is told of the outside, one thing after the other.
use Rattle.std.proofs.Common.{◌≡◌, ◌∙◌, ℕ, ◌+◌, ◌⊎◌, inl, inr, List, [], ◌∷◌, ◌++◌, Option, None, Some, Ok, Err, refl, sym, ap, subst, append_assoc}
use Rattle.std.proofs.lemmas.Grind.{flat_map-append}
use Rattle.std.proofs.lemmas.List.{append-nil}
use Rattle.ct_call.specs.Rules.{Rules}
use Rattle.ct_frame.specs.declared.event.Event.{Event}
use Rattle.ct_frame.specs.declared.event.Event.TheVariants as event
use Rattle.ct_frame.specs.declared.event.Out.{Out}
use Rattle.ct_frame.specs.declared.frame.Frame.{Frame}
use Rattle.ct_journal.specs.declared.journal.JournalEntry.{JournalEntry}
use Rattle.ct_actor.specs.Journalled.{Journalled, last_outs}
use Rattle.ct_actor.proofs.Running.{put_last}
use Rattle.ct_outside.specs.Links.{Parcel, Pieces}
use Rattle.ct_outside.specs.Locks.{LockState}
use Rattle.ct_outside.specs.Told.{Told}
use Rattle.ct_wire_link.specs.Parcels.{frame_parcels, frames_sent, parcels_of}
use Rattle.ct_wire_link.specs.Sending.{first_long}
use Rattle.ct_actor_serving.specs.Hearing.{AreForeign}
use Rattle.ct_actor_serving.specs.Outside.{ArriveUpTo, GivesTickets, Heard, NotesOne, Outside, HasNoTicket, IsRefusedMessage, SendsAll, SendsLong, SendsOnly, ServesFrames, ServesOn, TakesFirst, TakesOnly, TicketsFollow, arrivals_in, heard, heard_but, heard_then, outside, sent_in, tickets_in, with_arrival, with_ticket}
use Rattle.ct_actor_serving.specs.Serving.{IsNoPiece, IsNoSend}
use Rattle.ct_actor_serving.specs.declared.fault.AtLimit.TheVariants as limit
use Rattle.ct_actor_serving.specs.declared.fault.ServeFault.{ServeFault}
use Rattle.ct_actor_serving.specs.declared.fault.ServeFault.TheVariants as fault

-- ---- what is told

pub told_same : {A : Type 0} (a : Option A) (P : A → A → Type 0) → ((x : A) → P x x) → Told a a P
told_same None P h = tt
told_same (Some x) P h = h x

pub told_so : {A : Type 0} (a b : Option A) (P Q : A → A → Type 0) → ((x y : A) → P x y → Q x y) → Told a b P → Told a b Q
told_so None b P Q h p = tt
told_so (Some x) None P Q h p = absurd p
told_so (Some x) (Some y) P Q h p = h x y p

pub told_then : {A : Type 0} (a b c : Option A) (P Q R : A → A → Type 0) → ((x y z : A) → P x y → Q y z → R x z) → Told a b P → Told b c Q → Told a c R
told_then None b c P Q R h p q = tt
told_then (Some x) None c P Q R h p q = absurd p
told_then (Some x) (Some y) None P Q R h p q = absurd q
told_then (Some x) (Some y) (Some z) P Q R h p q = h x y z p q

-- ---- tickets

with_more : (e : Event) (ts us : List ℕ) → with_ticket e (ts ++ us) ≡ with_ticket e ts ++ us
unfolding with_ticket
with_more (event.BeginRound ticket members) ts us = refl
with_more _ ts us = refl

tickets_more : (xs ys : List JournalEntry) → tickets_in (xs ++ ys) ≡ tickets_in xs ++ tickets_in ys
unfolding tickets_in
tickets_more [] ys = refl
tickets_more (x ∷ xs) ys = ap (with_ticket x.event) (tickets_more xs ys) ∙ with_more x.event (tickets_in xs) (tickets_in ys)

follow_then : (a b c : ℕ) (ts us : List ℕ) → TicketsFollow a ts b → TicketsFollow b us c → TicketsFollow a (ts ++ us) c
follow_then a b c [] us h k = subst (λ (n : ℕ). TicketsFollow n us c) h k
follow_then a b c (t ∷ ts) us h k = (h.0, follow_then t b c ts us h.1 k)

given_then : (f : Option ServeFault) (ts us : List ℕ) (x y z : LockState) → GivesTickets None ts x y → GivesTickets f us y z → GivesTickets f (ts ++ us) x z
given_then None ts us x y z h k = follow_then x.last y.last z.last ts us h k
given_then (Some f) ts us x y z h k = (k.0, follow_then x.last y.last k.0 ts us h k.1, k.2)

pub given_none : (f : Option ServeFault) (x : LockState) → GivesTickets f [] x x
given_none None x = refl
given_none (Some f) x = (x.last, refl, inl refl)

given_so : (f : Option ServeFault) (ts : List ℕ) (s t : LockState) → GivesTickets None ts s t → GivesTickets f ts s t
given_so None ts s t h = h
given_so (Some f) ts s t h = (t.last, h, inl refl)

-- ---- pieces and messages

with_later : (e : Event) (fs gs : List Frame) → with_arrival e (fs ++ gs) ≡ with_arrival e fs ++ gs
unfolding with_arrival
with_later (event.Arrive f) fs gs = refl
with_later _ fs gs = refl

arrivals_more : (xs ys : List JournalEntry) → arrivals_in (xs ++ ys) ≡ arrivals_in xs ++ arrivals_in ys
unfolding arrivals_in
arrivals_more [] ys = refl
arrivals_more (x ∷ xs) ys = ap (with_arrival x.event) (arrivals_more xs ys) ∙ with_later x.event (arrivals_in xs) (arrivals_in ys)

sent_more : (xs ys : List JournalEntry) → sent_in (xs ++ ys) ≡ sent_in xs ++ sent_in ys
unfolding sent_in
sent_more [] ys = refl
sent_more (x ∷ xs) ys = ap (λ (fs : List Frame). frames_sent x.outs ++ fs) (sent_more xs ys) ∙ sym (append_assoc (frames_sent x.outs) (sent_in xs) (sent_in ys))

sends_then : (f : Option ServeFault) (fs gs : List Frame) (p q r : Pieces) → SendsAll None fs p q → SendsAll f gs q r → SendsAll f (fs ++ gs) p r
sends_then None fs gs p q r h k =
    k ∙ ap (λ (ps : List Parcel). ps ++ parcels_of gs) h ∙ append_assoc p.sent (parcels_of fs) (parcels_of gs) ∙ ap (λ (ps : List Parcel). p.sent ++ ps) (sym (flat_map-append frame_parcels fs gs))
sends_then (Some f) fs gs p q r h k = (
  parcels_of fs ++ k.0,
  k.1,
  flat_map-append frame_parcels fs gs ∙ ap (λ (ps : List Parcel). parcels_of fs ++ ps) k.2 ∙ sym (append_assoc (parcels_of fs) k.0 k.1),
  k.3 ∙ ap (λ (ps : List Parcel). ps ++ k.0) h ∙ append_assoc p.sent (parcels_of fs) k.0,
)

sends_none : (f : Option ServeFault) (p q : Pieces) → q.sent ≡ p.sent → SendsAll f [] p q
sends_none None p q same = same ∙ sym (append-nil p.sent)
sends_none (Some f) p q same = ([], [], refl, same ∙ sym (append-nil p.sent))

first_then : (xs ys : List Parcel) (p q r : Pieces) → TakesFirst xs p q → TakesFirst ys q r → TakesFirst (xs ++ ys) p r
first_then xs ys p q r h k = h ∙ ap (λ (ps : List Parcel). xs ++ ps) k ∙ sym (append_assoc xs ys r.waiting)

-- ---- a message that is too long

last_later : (xs ys : List JournalEntry) (y : JournalEntry) → last_outs (xs ++ (ys ++ y ∷ [])) ≡ last_outs (ys ++ y ∷ [])
last_later xs ys y = ap (λ (l : List JournalEntry). last_outs l) (sym (append_assoc xs ys (y ∷ []))) ∙ put_last (xs ++ ys) y ∙ sym (put_last ys y)

-- entries are none, or have a last one
abbrev Ends : List JournalEntry → Type 0
Ends xs = (xs ≡ []) ⊎ ((ys : List JournalEntry) × (y : JournalEntry) × (xs ≡ ys ++ y ∷ []))

ends_then : (x : JournalEntry) (xs : List JournalEntry) → Ends xs → Ends (x ∷ xs)
ends_then x xs (inl e) = inr ([], x, ap (λ (l : List JournalEntry). x ∷ l) e)
ends_then x xs (inr h) = inr (x ∷ h.0, h.1, ap (λ (l : List JournalEntry). x ∷ l) h.2)

ends : (xs : List JournalEntry) → Ends xs
ends [] = inl refl
ends (x ∷ xs) = ends_then x xs (ends xs)

none_long : (n : ℕ) → SendsLong (Some (fault.TooLong n)) [] → ⊥
none_long n h = absurd (cc)

long_of : (n : ℕ) (xs ys : List JournalEntry) → Ends ys → SendsLong (Some (fault.TooLong n)) ys → SendsLong (Some (fault.TooLong n)) (xs ++ ys)
long_of n xs ys (inl e) h = absurd (none_long n (subst (λ (l : List JournalEntry). first_long (frames_sent (last_outs l)) ≡ Some n) e h))
long_of n xs ys (inr k) h =
    ap (λ (o : List Out). first_long (frames_sent o)) (ap (λ (l : List JournalEntry). last_outs (xs ++ l)) k.2 ∙ last_later xs k.0 k.1 ∙ sym (ap (λ (l : List JournalEntry). last_outs l) k.2)) ∙ h

long_later : (f : Option ServeFault) (xs ys : List JournalEntry) → SendsLong f ys → SendsLong f (xs ++ ys)
long_later None xs ys h = tt
long_later (Some fault.Link) xs ys h = tt
long_later (Some (fault.Foreign sender offset)) xs ys h = tt
long_later (Some (fault.Held holder)) xs ys h = tt
long_later (Some (fault.TooLong n)) xs ys h = long_of n xs ys (ends ys) h
long_later (Some (fault.Exhausted at)) xs ys h = tt
long_later (Some fault.NoMemory) xs ys h = tt

-- the same entry is the last
long_last : (f : Option ServeFault) (x : JournalEntry) (xs : List JournalEntry) → SendsLong f (xs ++ x ∷ []) → SendsLong f (x ∷ [])
long_last None x xs h = tt
long_last (Some fault.Link) x xs h = tt
long_last (Some (fault.Foreign sender offset)) x xs h = tt
long_last (Some (fault.Held holder)) x xs h = tt
long_last (Some (fault.TooLong n)) x xs h = ap (λ (o : List Out). first_long (frames_sent o)) (put_last [] x ∙ sym (put_last xs x)) ∙ h
long_last (Some (fault.Exhausted at)) x xs h = tt
long_last (Some fault.NoMemory) x xs h = tt

-- a fault that tells nothing of messages that are sent
pub short : (f : Option ServeFault) (xs : List JournalEntry) → IsNoSend f → SendsLong f xs
short None xs h = tt
short (Some fault.Link) xs h = tt
short (Some (fault.Foreign sender offset)) xs h = tt
short (Some (fault.Held holder)) xs h = tt
short (Some (fault.TooLong n)) xs h = absurd h
short (Some (fault.Exhausted at)) xs h = tt
short (Some fault.NoMemory) xs h = tt

-- ---- a message that is refused

-- a fault that tells nothing of pieces
pub unrefused : (rules : Rules) (f : Option ServeFault) (late : List Frame) (x : Journalled) → IsNoPiece f → IsRefusedMessage rules f late x
unrefused rules None late x h = tt
unrefused rules (Some fault.Link) late x h = tt
unrefused rules (Some (fault.Foreign sender offset)) late x h = absurd h
unrefused rules (Some (fault.Held holder)) late x h = tt
unrefused rules (Some (fault.TooLong n)) late x h = tt
unrefused rules (Some (fault.Exhausted limit.Ticket)) late x h = tt
unrefused rules (Some (fault.Exhausted limit.Call)) late x h = tt
unrefused rules (Some (fault.Exhausted (limit.Round ticket))) late x h = tt
unrefused rules (Some (fault.Exhausted (limit.Message sender))) late x h = absurd h
unrefused rules (Some fault.NoMemory) late x h = tt

-- nor are bytes no frames
pub unforeign : (f : Option ServeFault) (me : ℕ) (taken : List Parcel) → IsNoPiece f → AreForeign f me taken
unforeign None me taken h = tt
unforeign (Some fault.Link) me taken h = tt
unforeign (Some (fault.Foreign sender offset)) me taken h = absurd h
unforeign (Some (fault.Held holder)) me taken h = tt
unforeign (Some (fault.TooLong n)) me taken h = tt
unforeign (Some (fault.Exhausted at)) me taken h = tt
unforeign (Some fault.NoMemory) me taken h = tt

-- ---- nodes

-- one thing, and then another
pub serves_then : (rules : Rules) (f : Option ServeFault) (h k : Heard) (x y z : Journalled) (a b c : Outside) → ServesOn rules None h x y a b → ServesOn rules f k y z b c → ServesOn rules f (heard_then h k) x z a c
serves_then rules f h k x y z a b c s t = record {
  since = s.since ++ t.since;
  all = t.all ∙ ap (λ (xs : List JournalEntry). xs ++ t.since) s.all ∙ append_assoc x.entries s.since t.since;
  arrivals = arrivals_more s.since t.since ∙ ap (λ (fs : List Frame). fs ++ arrivals_in t.since) s.arrivals ∙ ap (λ (fs : List Frame). h.arrived ++ fs) t.arrivals;
  tickets = subst (λ (ts : List ℕ). Told a.lock c.lock (GivesTickets f ts)) (sym (tickets_more s.since t.since))
      (told_then a.lock b.lock c.lock (GivesTickets None (tickets_in s.since)) (GivesTickets f (tickets_in t.since)) (GivesTickets f (tickets_in s.since ++ tickets_in t.since))
      (λ u v w. given_then f (tickets_in s.since) (tickets_in t.since) u v w) s.tickets t.tickets);
  refused = told_then a.lock b.lock c.lock (GivesTickets None (tickets_in s.since)) (λ u v. HasNoTicket f z v) (λ u v. HasNoTicket f z v) (λ u v w m n. n) s.tickets t.refused;
  long = long_later f s.since t.since t.long;
  message = t.message;
  taken = told_then a.pieces b.pieces c.pieces (TakesFirst h.taken) (TakesFirst k.taken) (TakesFirst (h.taken ++ k.taken)) (λ p q r. first_then h.taken k.taken p q r) s.taken t.taken;
  sent = subst (λ (fs : List Frame). Told a.pieces c.pieces (SendsAll f fs)) (sym (sent_more s.since t.since))
      (told_then a.pieces b.pieces c.pieces (SendsAll None (sent_in s.since)) (SendsAll f (sent_in t.since)) (SendsAll f (sent_in s.since ++ sent_in t.since))
      (λ p q r. sends_then f (sent_in s.since) (sent_in t.since) p q r) s.sent t.sent);
}

-- no entry, and of the link at most pieces that were taken
pub serves_none : (rules : Rules) (f : Option ServeFault) (x y : Journalled) (taken : List Parcel) (late : List Frame) (p q : Option Pieces) (s t : Option LockState) → y ≡ x
    → Told p q (TakesOnly taken) → Told s t (GivesTickets f []) → Told s t (λ u v. HasNoTicket f y v) → IsNoSend f → IsRefusedMessage rules f late y
    → ServesOn rules f (heard_but taken [] late) x y (outside p s) (outside q t)
unfolding tickets_in sent_in arrivals_in
serves_none rules f x y taken late p q s t same pieces tickets refused send message = record {
  since = [];
  all = ap (λ (z : Journalled). z.entries) same ∙ sym (append-nil x.entries);
  arrivals = refl;
  tickets = tickets;
  refused = refused;
  long = short f [] send;
  message = message;
  taken = told_so p q (TakesOnly taken) (TakesFirst taken) (λ u v h. h.0) pieces;
  sent = told_so p q (TakesOnly taken) (SendsAll f []) (λ u v h. sends_none f u v h.1) pieces;
}

none_taken : (p : Option Pieces) → Told p p (TakesOnly [])
none_taken p = told_same p (TakesOnly []) (λ u. (refl, refl))

-- a look at the link
pub serves_look : (rules : Rules) (f : Option ServeFault) (x : Journalled) (taken : List Parcel) (p q : Option Pieces) (s : Option LockState) →
    Told p q (TakesOnly taken) → ((t : LockState) → HasNoTicket f x t) → IsNoSend f → IsNoPiece f → ServesOn rules f (heard taken []) x x (outside p s) (outside q s)
serves_look rules f x taken p q s pieces free send piece =
    serves_none rules f x x taken [] p q s s refl pieces (told_same s (GivesTickets f []) (λ t. given_none f t)) (told_same s (λ u v. HasNoTicket f x v) free) send (unrefused rules f [] x piece)

-- nothing
pub serves_same : (rules : Rules) (f : Option ServeFault) (x : Journalled) (p : Option Pieces) (s : Option LockState) → ((t : LockState) → HasNoTicket f x t) → IsNoSend f → IsNoPiece f → ServesOn rules f (heard [] []) x x (outside p s) (outside p s)
serves_same rules f x p s free send piece = serves_look rules f x [] p p s (none_taken p) free send piece

-- no entry, and the link stays
pub serves_lock : (rules : Rules) (f : Option ServeFault) (x y : Journalled) (late : List Frame) (p : Option Pieces) (s t : Option LockState) → y ≡ x → Told s t (GivesTickets f []) → Told s t (λ u v. HasNoTicket f y v)
    → IsNoSend f → IsRefusedMessage rules f late y → ServesOn rules f (heard_but [] [] late) x y (outside p s) (outside p t)
serves_lock rules f x y late p s t same tickets refused send message = serves_none rules f x y [] late p p s t same (none_taken p) tickets refused send message

-- a fault behind all that
pub serves_but : (rules : Rules) (f : ServeFault) (h : Heard) (x y : Journalled) (a b : Outside) → ServesOn rules None h x y a b → ((t : LockState) → HasNoTicket (Some f) y t) → IsNoSend (Some f) → IsRefusedMessage rules (Some f) h.late y
    → ServesOn rules (Some f) h x y a b
serves_but rules f h x y a b s free send message = record {
  since = s.since;
  all = s.all;
  arrivals = s.arrivals;
  tickets = told_so a.lock b.lock (GivesTickets None (tickets_in s.since)) (GivesTickets (Some f) (tickets_in s.since)) (λ u v. given_so (Some f) (tickets_in s.since) u v) s.tickets;
  refused = told_so a.lock b.lock (GivesTickets None (tickets_in s.since)) (λ u v. HasNoTicket (Some f) y v) (λ u v k. free v) s.tickets;
  long = short (Some f) s.since send;
  message = message;
  taken = s.taken;
  sent = told_so a.pieces b.pieces (SendsAll None (sent_in s.since)) (SendsAll (Some f) (sent_in s.since)) (λ p q k. (parcels_of (sent_in s.since), [], sym (append-nil (parcels_of (sent_in s.since))), k)) s.sent;
}

-- ---- one entry, and what it sends

one_sent : (x : JournalEntry) → sent_in (x ∷ []) ≡ frames_sent x.outs
unfolding sent_in
one_sent x = append-nil (frames_sent x.outs)

-- an entry more was noted, and its messages are sent
pub notes_sent : (rules : Rules) (f : Option ServeFault) (arrived : List Frame) (x y : Journalled) (p q : Option Pieces) (s t : Option LockState) →
    NotesOne arrived x y s t → Told p q (SendsOnly f (frames_sent (last_outs y.entries))) → ((u : LockState) → HasNoTicket f y u)
    → SendsLong f y.entries → IsNoPiece f → ServesOn rules f (heard [] arrived) x y (outside p s) (outside q t)
notes_sent rules f arrived x y p q s t h sends free long piece =
    let own : frames_sent (last_outs y.entries) ≡ sent_in (h.entry ∷ []) =
    ap (λ (xs : List JournalEntry). frames_sent (last_outs xs)) h.all ∙ ap (λ (os : List Out). frames_sent os) (put_last x.entries h.entry) ∙ sym (one_sent h.entry) in
    record {
      since = h.entry ∷ [];
      all = h.all;
      arrivals = h.arrivals;
      tickets = told_so s t (GivesTickets None (tickets_in (h.entry ∷ []))) (GivesTickets f (tickets_in (h.entry ∷ []))) (λ u v. given_so f (tickets_in (h.entry ∷ [])) u v) h.tickets;
      refused = told_so s t (GivesTickets None (tickets_in (h.entry ∷ []))) (λ u v. HasNoTicket f y v) (λ u v k. free v) h.tickets;
      long = long_last f h.entry x.entries (subst (λ (xs : List JournalEntry). SendsLong f xs) h.all long);
      message = unrefused rules f [] y piece;
      taken = told_so p q (SendsOnly f (frames_sent (last_outs y.entries))) (TakesFirst []) (λ u v k. sym k.0) sends;
      sent = subst (λ (fs : List Frame). Told p q (SendsAll f fs)) own
          (told_so p q (SendsOnly f (frames_sent (last_outs y.entries))) (SendsAll f (frames_sent (last_outs y.entries))) (λ u v k. k.1) sends);
    }

-- ---- frames, one after the other

-- before the first
pub frames_none : (rules : Rules) (x : Journalled) (p : Option Pieces) → ServesFrames rules None [] x x p p
frames_none rules x p = ([], [], (refl, refl), λ lock. serves_same rules None x p lock (λ t. tt) tt tt)

up_to_then : (f : Option ServeFault) (fs gs done more late : List Frame) → done ≡ fs → ArriveUpTo f gs more late → ArriveUpTo f (fs ++ gs) (done ++ more) late
up_to_then None fs gs done more late h k = (ap (λ (l : List Frame). l ++ more) h ∙ ap (λ (l : List Frame). fs ++ l) k.0, k.1)
up_to_then (Some f) fs gs done more late h k = (
  k.0,
  ap (λ (l : List Frame). fs ++ l) k.1 ∙ ap (λ (l : List Frame). l ++ ((more ++ late) ++ k.0)) (sym h) ∙ sym (append_assoc done (more ++ late) k.0) ∙ ap (λ (l : List Frame). l ++ k.0) (sym (append_assoc done more late)),
)

-- some, and then more
pub frames_then : (rules : Rules) (f : Option ServeFault) (fs gs : List Frame) (x y z : Journalled) (p q r : Option Pieces) → ServesFrames rules None fs x y p q → ServesFrames rules f gs y z q r → ServesFrames rules f (fs ++ gs) x z p r
frames_then rules f fs gs x y z p q r s t = (
  s.0 ++ t.0,
  t.1,
  up_to_then f fs gs s.0 t.0 t.1 s.2.0 t.2,
  λ lock. serves_then rules f (heard_but [] s.0 s.1) (heard_but [] t.0 t.1) x y z (outside p lock) (outside q lock) (outside r lock) (s.3 lock) (t.3 lock),
)

-- a fault before the last of them
pub frames_stopped : (rules : Rules) (f : ServeFault) (fs rest : List Frame) (x y : Journalled) (p q : Option Pieces) → ServesFrames rules (Some f) fs x y p q → ServesFrames rules (Some f) (fs ++ rest) x y p q
frames_stopped rules f fs rest x y p q s = (s.0, s.1, (s.2.0 ++ rest, ap (λ (l : List Frame). l ++ rest) s.2.1 ∙ append_assoc (s.0 ++ s.1) s.2.0 rest), s.3)

-- of these frames some have arrived, and these are left
pub record FramesServed (rules : Rules) (frames left : List Frame) (x y : Journalled) (p q : Option Pieces) : Type 0 where
  pub done : List Frame
  pub parts : frames ≡ done ++ left
  pub on : ServesFrames rules None done x y p q

pub frames_first : (rules : Rules) (frames : List Frame) (x : Journalled) (p : Option Pieces) → FramesServed rules frames frames x x p p
frames_first rules frames x p = record { done = []; parts = refl; on = frames_none rules x p }

next_parts : (frames left rest done : List Frame) (f : Frame) → frames ≡ done ++ left → left ≡ f ∷ rest → frames ≡ (done ++ f ∷ []) ++ rest
next_parts frames left rest done f parts is = parts ∙ ap (λ (l : List Frame). done ++ l) is ∙ sym (append_assoc done (f ∷ []) rest)

pub frames_next : (rules : Rules) (frames left rest : List Frame) (f : Frame) (x y z : Journalled) (p q r : Option Pieces) →
    FramesServed rules frames left x y p q → left ≡ f ∷ rest → ServesFrames rules None (f ∷ []) y z q r → FramesServed rules frames rest x z p r
frames_next rules frames left rest f x y z p q r s is t = record {
  done = s.done ++ f ∷ [];
  parts = next_parts frames left rest s.done f s.parts is;
  on = frames_then rules None s.done (f ∷ []) x y z p q r s.on t;
}

pub frames_last : (rules : Rules) (frames left : List Frame) (x y : Journalled) (p q : Option Pieces) → FramesServed rules frames left x y p q → left ≡ [] → ServesFrames rules None frames x y p q
frames_last rules frames left x y p q s none =
    subst (λ (fs : List Frame). ServesFrames rules None fs x y p q) (sym (s.parts ∙ ap (λ (l : List Frame). s.done ++ l) none ∙ append-nil s.done)) s.on

pub frames_end : (rules : Rules) (e : ServeFault) (frames left rest : List Frame) (f : Frame) (x y z : Journalled) (p q r : Option Pieces) →
    FramesServed rules frames left x y p q → left ≡ f ∷ rest → ServesFrames rules (Some e) (f ∷ []) y z q r → ServesFrames rules (Some e) frames x z p r
frames_end rules e frames left rest f x y z p q r s is t =
    subst (λ (fs : List Frame). ServesFrames rules (Some e) fs x z p r) (sym (next_parts frames left rest s.done f s.parts is))
    (frames_stopped rules e (s.done ++ f ∷ []) rest x z p r (frames_then rules (Some e) s.done (f ∷ []) x y z p q r s.on t))
