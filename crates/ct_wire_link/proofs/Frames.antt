-- Frames are sent one after the other.
use Rattle.std.proofs.Common.{◌≡◌, ℕ, ◌<◌, ◌≤◌, true, false, List, [], ◌∷◌, ◌++◌, length, get_or, drop, ◌+◌, Option, None, Some, Ok, Err, refl, sym, ap, subst, ◌∙◌, append_assoc}
use Rattle.std.proofs.lemmas.Bool.{lt-ltb, le-ltb}
use Rattle.std.proofs.lemmas.Grind.{flat_map-append}
use Rattle.std.proofs.lemmas.List.{append-nil, at_drop_more}
use Rattle.ct_values.specs.declared.client.Answer.{Answer}
use Rattle.ct_frame.specs.declared.event.Note.{Note}
use Rattle.ct_frame.specs.declared.event.Out.{Out}
use Rattle.ct_frame.specs.declared.event.Out.TheVariants as out
use Rattle.ct_frame.specs.declared.frame.Frame.{Frame}
use Rattle.ct_outside.specs.Links.{Parcel, Pieces}
use Rattle.ct_outside.specs.Told.{Told}
use Rattle.ct_wire_link.specs.Parcels.{frame_parcels, frames_sent, parcels_of}
use Rattle.ct_wire_link.specs.Sending.{FindsLong, IsWithin, SendsFrame, SendsFrames, SendsFront, before_long, first_long, is_long, sent_also}
use Rattle.ct_wire_link.specs.declared.fault.SendFault.{SendFault}
use Rattle.ct_wire_link.specs.declared.fault.SendFault.TheVariants.{Link, TooLong, NoMemory}
use Rattle.ct_wire.specs.Spelling.{size}
use Rattle.ct_wire_fields.specs.Version.{newest}

-- of these frames, some are done, of which none is too long, and the others are left
pub record Parts (fs done left : List Frame) : Type 0 where
  pub parts : fs ≡ done ++ left
  pub long : first_long fs ≡ first_long left
  pub short : before_long fs ≡ done ++ before_long left

-- the frames that are done have been sent, and nothing else
abbrev pub HasSent : List Frame → Pieces → Pieces → Type 0
HasSent done old new = new ≡ sent_also (parcels_of done) old

-- so it stands before these frames are left
abbrev pub Stands : List Frame → List Frame → Option Pieces → Option Pieces → Type 0
Stands fs left a b = (done : List Frame) × Parts fs done left × Told a b (HasSent done)

pub sent_none : (p : Pieces) → p ≡ sent_also [] p
sent_none p = ap (λ (ps : List Parcel). record p { sent = ps }) (sym (append-nil p.sent))

told_none : (a : Option Pieces) → Told a a (HasSent [])
told_none None = tt
told_none (Some p) = sent_none p

pub stands_first : (fs : List Frame) (a : Option Pieces) → Stands fs fs a a
stands_first fs a = ([], record { parts = refl; long = refl; short = refl }, told_none a)

parcels_then : (done : List Frame) (f : Frame) → parcels_of (done ++ f ∷ []) ≡ parcels_of done ++ frame_parcels f
parcels_then done f = flat_map-append frame_parcels done (f ∷ []) ∙ ap (λ (ps : List Parcel). parcels_of done ++ ps) (append-nil (frame_parcels f))

sent_then : (done : List Frame) (more : List Parcel) (p : Pieces) → sent_also more (sent_also (parcels_of done) p) ≡ sent_also (parcels_of done ++ more) p
sent_then done more p = ap (λ (ps : List Parcel). record p { sent = ps }) (append_assoc p.sent (parcels_of done) more)

told_frame : (done : List Frame) (f : Frame) (a b c : Option Pieces) → Told a b (HasSent done) → Told b c (SendsFrame (Ok tt) f) → Told a c (HasSent (done ++ f ∷ []))
told_frame done f None b c so_far sends = tt
told_frame done f (Some p) None c so_far sends = absurd so_far
told_frame done f (Some p) (Some q) None so_far sends = absurd sends
told_frame done f (Some p) (Some q) (Some r) so_far sends =
    sends ∙ ap (λ (x : Pieces). sent_also (frame_parcels f) x) so_far ∙ sent_then done (frame_parcels f) p ∙ ap (λ (ps : List Parcel). sent_also ps p) (sym (parcels_then done f))

short_first : (f : Frame) (left : List Frame) → size newest f ≤ 268435456 → (first_long (f ∷ left) ≡ first_long left) × (before_long (f ∷ left) ≡ f ∷ before_long left)
short_first f left short =
    let t : is_long f ≡ false = le-ltb _ _ short in
    (rw t refl, rw t refl)

-- the next frame is sent
pub stands_next : (fs left : List Frame) (f : Frame) (a b c : Option Pieces) → Stands fs (f ∷ left) a b → Told b c (SendsFrame (Ok tt) f) → IsWithin (Ok tt) f → Stands fs left a c
stands_next fs left f a b c s sends within =
    let one = short_first f left within in (
      s.0 ++ f ∷ [],
      record {
        parts = s.1.parts ∙ sym (append_assoc s.0 (f ∷ []) left);
        long = s.1.long ∙ one.0;
        short = s.1.short ∙ ap (λ (gs : List Frame). s.0 ++ gs) one.1 ∙ sym (append_assoc s.0 (f ∷ []) (before_long left));
      },
      told_frame s.0 f a b c s.2 sends,
    )

long_first : (f : Frame) (left : List Frame) → 268435456 < size newest f → (first_long (f ∷ left) ≡ Some (size newest f)) × (before_long (f ∷ left) ≡ [])
long_first f left long =
    let t : is_long f ≡ true = lt-ltb _ _ long in
    (rw t refl, rw t refl)

-- all are sent
told_whole : (fs done : List Frame) (a b : Option Pieces) → fs ≡ done → Told a b (HasSent done) → Told a b (SendsFrames (Ok tt) fs)
told_whole fs done None b is sends = tt
told_whole fs done (Some p) None is sends = absurd sends
told_whole fs done (Some p) (Some q) is sends = sends ∙ ap (λ (gs : List Frame). sent_also (parcels_of gs) p) (sym is)

pub stands_last : (fs : List Frame) (a b : Option Pieces) → Stands fs [] a b → Told a b (SendsFrames (Ok tt) fs)
stands_last fs a b s = told_whole fs s.0 a b (s.1.parts ∙ append-nil s.0) s.2

pub none_long : (fs : List Frame) (a b : Option Pieces) → Stands fs [] a b → FindsLong (Ok tt) fs
none_long fs a b s = s.1.long

-- a front of the next frame's pieces is sent
told_front : (fs done left : List Frame) (f : Frame) (a b c : Option Pieces) → fs ≡ done ++ f ∷ left → Told a b (HasSent done) → Told b c (SendsFront (frame_parcels f)) → Told a c (SendsFront (parcels_of fs))
told_front fs done left f None b c is so_far sends = tt
told_front fs done left f (Some p) None c is so_far sends = absurd so_far
told_front fs done left f (Some p) (Some q) None is so_far sends = absurd sends
told_front fs done left f (Some p) (Some q) (Some r) is so_far sends =
    let whole : parcels_of fs ≡ parcels_of done ++ (frame_parcels f ++ parcels_of left) = ap (λ (gs : List Frame). parcels_of gs) is ∙ flat_map-append frame_parcels done (f ∷ left) in
    let left_of = sends.0 in
    let front = sends.1.0 in
    let frame : frame_parcels f ++ parcels_of left ≡ front ++ (left_of ++ parcels_of left) = ap (λ (ps : List Parcel). ps ++ parcels_of left) sends.1.1 ∙ append_assoc front left_of (parcels_of left) in (
      left_of ++ parcels_of left,
      (
        parcels_of done ++ front,
        whole ∙ ap (λ (ps : List Parcel). parcels_of done ++ ps) frame ∙ sym (append_assoc (parcels_of done) front (left_of ++ parcels_of left)),
        sends.1.2 ∙ ap (λ (x : Pieces). sent_also front x) so_far ∙ sent_then done front p,
      ),
    )

-- the next frame is too long
told_long : (fs done left : List Frame) (f : Frame) (a b c : Option Pieces) → before_long fs ≡ done → Told a b (HasSent done) → Told b c (λ x y. y ≡ x) → Told a c (λ x y. y ≡ sent_also (parcels_of (before_long fs)) x)
told_long fs done left f None b c is so_far same = tt
told_long fs done left f (Some p) None c is so_far same = absurd so_far
told_long fs done left f (Some p) (Some q) None is so_far same = absurd same
told_long fs done left f (Some p) (Some q) (Some r) is so_far same = same ∙ so_far ∙ ap (λ (gs : List Frame). sent_also (parcels_of gs) p) (sym is)

-- the next frame is not sent
pub stands_stopped : (e : SendFault) (fs left : List Frame) (f : Frame) (a b c : Option Pieces) → Stands fs (f ∷ left) a b → Told b c (SendsFrame (Err e) f) → IsWithin (Err e) f → Told a c (SendsFrames (Err e) fs)
stands_stopped Link fs left f a b c s sends within = told_front fs s.0 left f a b c s.1.parts s.2 sends
stands_stopped NoMemory fs left f a b c s sends within = told_front fs s.0 left f a b c s.1.parts s.2 sends
stands_stopped (TooLong n) fs left f a b c s sends within =
    let before : before_long fs ≡ s.0 = s.1.short ∙ ap (λ (gs : List Frame). s.0 ++ gs) (long_first f left within.1).1 ∙ append-nil s.0 in
    told_long fs s.0 left f a b c before s.2 sends

pub long_found : (e : SendFault) (fs left : List Frame) (f : Frame) (a b : Option Pieces) → Stands fs (f ∷ left) a b → IsWithin (Err e) f → FindsLong (Err e) fs
long_found Link fs left f a b s within = tt
long_found NoMemory fs left f a b s within = tt
long_found (TooLong n) fs left f a b s within = s.1.long ∙ (long_first f left within.1).0 ∙ ap (λ (k : ℕ). Some k) (sym within.0)

-- ---- what a node does, one after the other

next_out : (outs : List Out) (i : ℕ) (x : Out) → i < length outs → x ≡ get_or outs i x → frames_sent (drop i outs) ≡ frames_sent (x ∷ drop (i + 1) outs)
next_out outs i x lt is = at_drop_more frames_sent outs i x lt ∙ ap (λ (y : Out). frames_sent (y ∷ drop (i + 1) outs)) (sym is)

-- the next one sends a frame
pub next_sends : (outs : List Out) (i : ℕ) (x : Out) (f : Frame) → i < length outs → x ≡ get_or outs i x → x ≡ out.Send f → frames_sent (drop i outs) ≡ f ∷ frames_sent (drop (i + 1) outs)
next_sends outs i x f lt is sends = next_out outs i x lt is ∙ ap (λ (y : Out). frames_sent (y ∷ drop (i + 1) outs)) sends

-- the next one sends none
pub next_answers : (outs : List Out) (i : ℕ) (x : Out) (call : ℕ) (a : Answer) → i < length outs → x ≡ get_or outs i x → x ≡ out.Answer call a → frames_sent (drop i outs) ≡ frames_sent (drop (i + 1) outs)
next_answers outs i x call a lt is answers = next_out outs i x lt is ∙ ap (λ (y : Out). frames_sent (y ∷ drop (i + 1) outs)) answers

pub next_notes : (outs : List Out) (i : ℕ) (x : Out) (note : Note) → i < length outs → x ≡ get_or outs i x → x ≡ out.Note note → frames_sent (drop i outs) ≡ frames_sent (drop (i + 1) outs)
next_notes outs i x note lt is notes = next_out outs i x lt is ∙ ap (λ (y : Out). frames_sent (y ∷ drop (i + 1) outs)) notes

-- the same frames are left
pub stands_still : (fs left more : List Frame) (a b : Option Pieces) → left ≡ more → Stands fs left a b → Stands fs more a b
stands_still fs left more a b same s = subst (λ (l : List Frame). Stands fs l a b) same s
