-- What arrives of pieces, one after the other.
use Rattle.std.proofs.Common.{◌≡◌, ◌≢◌, ◌∙◌, ℕ, ⊎_elim, inl, inr, true, List, [], ◌∷◌, ◌++◌, Option, None, Some, Ok, refl, sym, ap, subst, append_assoc}
use Rattle.std.proofs.lemmas.Bool.Decides.{eqb_tells}
use Rattle.std.proofs.lemmas.List.{append-nil}
use Rattle.std.specs.List.{list_all}
use Rattle.ct_frame.specs.declared.frame.Frame.{Frame}
use Rattle.ct_outside.specs.Links.{Parcel, parcel}
use Rattle.ct_wire_link.specs.Parcels.{bytes_of}
use Rattle.ct_wire_link.specs.declared.arrived.Arrived.{Arrived}
use Rattle.ct_wire_link.specs.Following.{AreFirst, Follows, frames_from}
use Rattle.ct_wire_link.specs.Reading.{Reading, TakesPiece, broken_at, is_sound, progress_of}
use Rattle.ct_wire_link.proofs.Following.{all_arrive, broken_breaks, first_arrive, first_lead, first_stay, follows_first, follows_next}
use Rattle.ct_actor_serving.specs.Hearing.{AreForeign, Arrive, Hears, IsReadSoFar, IsReadTo}
use Rattle.ct_actor_serving.specs.Outside.{Heard, heard, heard_but, heard_then}
use Rattle.ct_actor_serving.specs.declared.fault.ServeFault.{ServeFault}
use Rattle.ct_actor_serving.specs.declared.fault.ServeFault.TheVariants as fault
use Rattle.ct_wire.specs.declared.decode.Progress.{Progress}
use Rattle.ct_wire.specs.declared.decode.Progress.TheVariants as progress
use Rattle.ct_wire.specs.declared.decode.WireFault.{WireFault}

-- ---- nothing more

-- what is read of some pieces is read of them and no more
read_still : (me : ℕ) (taken : List Parcel) (arrived : List Frame) (readings : List Reading) → Follows me taken arrived readings → Follows me (taken ++ []) (arrived ++ []) readings
read_still me taken arrived readings follows =
    subst (λ (ps : List Parcel). Follows me ps (arrived ++ []) readings) (sym (append-nil taken)) (subst (λ (fs : List Frame). Follows me taken fs readings) (sym (append-nil arrived)) follows)

pub hears_nothing : (me : ℕ) (readings : List Reading) → Hears None me (heard [] []) readings readings
hears_nothing me readings = λ before read. record { follows = read_still me before.taken before.arrived readings read.follows; unbroken = read.unbroken }

-- what has arrived are the first frames
firsts : (me : ℕ) (taken : List Parcel) (arrived : List Frame) (readings : List Reading) (f : ServeFault) → Follows me taken arrived readings → Arrive (Some f) me (heard taken arrived)
firsts me taken arrived readings f follows = λ sender.
    first_arrive me sender taken (arrived ++ []) readings (subst (λ (fs : List Frame). Follows me taken fs readings) (sym (append-nil arrived)) follows)

-- a fault that tells nothing of bytes
pub hears_stopped : (me : ℕ) (f : ServeFault) (readings : List Reading) → ((taken : List Parcel) → AreForeign (Some f) me taken) → Hears (Some f) me (heard [] []) readings readings
hears_stopped me f readings ours = λ before read. (
  firsts me (before.taken ++ []) (before.arrived ++ []) readings f (read_still me before.taken before.arrived readings read.follows),
  ours (before.taken ++ []),
)

-- before the first piece
pub read_first : (me : ℕ) → IsReadSoFar me (heard [] []) []
read_first me = record { follows = follows_first me; unbroken = λ sender. refl }

-- at the end
pub arrive_last : (me : ℕ) (h : Heard) (readings : List Reading) → IsReadSoFar me h readings → Arrive None me h
arrive_last me h readings read = λ sender. all_arrive me sender h.taken h.arrived readings read.follows (read.unbroken sender)

-- ---- a piece

-- the fault that is answered is the one that stands
broken_told : (a : Arrived) (me sender : ℕ) (bytes : List ℕ) (old new : Progress) → TakesPiece (Ok a) me sender bytes old new → a.broken ≡ broken_at new
broken_told a me sender bytes (progress.Amid s) new takes = takes.1
broken_told a me sender bytes (progress.Failed f) new takes =
    takes.3 ∙ sym (ap (λ (p : Progress). broken_at p) (takes.4 ∙ ap (λ (g : WireFault). progress.Failed g) takes.1))

-- what a piece gives
pub record Gives (me sender : ℕ) (bytes : List ℕ) (a : Arrived) (old new : List Reading) : Type 0 where
  pub takes : TakesPiece (Ok a) me sender bytes (progress_of sender old) (progress_of sender new)
  pub others : (other : ℕ) → other ≢ sender → progress_of other new ≡ progress_of other old
  pub sound : list_all (is_sound me sender) a.frames.items ≡ true

follows_piece : (me sender : ℕ) (bytes : List ℕ) (a : Arrived) (old new : List Reading) (before : Heard) → Gives me sender bytes a old new → IsReadSoFar me before old
    → Follows me (before.taken ++ parcel sender bytes ∷ []) (before.arrived ++ a.frames.items) new
follows_piece me sender bytes a old new before g read = follows_next me sender bytes a before.taken before.arrived old new read.follows g.takes g.others g.sound

-- all its frames arrive, and no fault stands behind them
pub hears_piece : (me sender : ℕ) (bytes : List ℕ) (a : Arrived) (arrived : List Frame) (old new : List Reading) → Gives me sender bytes a old new → arrived ≡ a.frames.items → a.broken ≡ None
    → Hears None me (heard (parcel sender bytes ∷ []) arrived) old new
hears_piece me sender bytes a arrived old new g all none =
    subst (λ (fs : List Frame). Hears None me (heard (parcel sender bytes ∷ []) fs) old new) (sym all) (λ before read. record {
      follows = follows_piece me sender bytes a old new before g read;
      unbroken = λ other. elim (eqb_tells other sender) [
        | inl e ↦ ap (λ (n : ℕ). broken_at (progress_of n new)) e.1 ∙ sym (broken_told a me sender bytes (progress_of sender old) (progress_of sender new) g.takes) ∙ none
        | inr e ↦ ap (λ (p : Progress). broken_at p) (g.others other e.1) ∙ read.unbroken other
      ];
    })

-- all its frames arrive, and a fault stands behind them
pub hears_foreign : (me sender offset : ℕ) (bytes : List ℕ) (a : Arrived) (arrived : List Frame) (old new : List Reading) → Gives me sender bytes a old new → arrived ≡ a.frames.items → a.broken ≡ Some offset
    → Hears (Some (fault.Foreign sender offset)) me (heard (parcel sender bytes ∷ []) arrived) old new
hears_foreign me sender offset bytes a arrived old new g all is =
    subst (λ (fs : List Frame). Hears (Some (fault.Foreign sender offset)) me (heard (parcel sender bytes ∷ []) fs) old new) (sym all) (λ before read. (
      firsts me (before.taken ++ parcel sender bytes ∷ []) (before.arrived ++ a.frames.items) new (fault.Foreign sender offset) (follows_piece me sender bytes a old new before g read),
      (broken_breaks me sender offset (before.taken ++ parcel sender bytes ∷ []) (before.arrived ++ a.frames.items) new (follows_piece me sender bytes a old new before g read)).0
          (sym (broken_told a me sender bytes (progress_of sender old) (progress_of sender new) g.takes) ∙ is),
    ))

-- the first of its frames arrive, and the next one may be refused
pub hears_some : (me sender : ℕ) (f : ServeFault) (bytes : List ℕ) (a : Arrived) (arrived late left : List Frame) (old new : List Reading) → Gives me sender bytes a old new → a.frames.items ≡ (arrived ++ late) ++ left
    → ((taken : List Parcel) → AreForeign (Some f) me taken) → Hears (Some f) me (heard_but (parcel sender bytes ∷ []) arrived late) old new
hears_some me sender f bytes a arrived late left old new g all ours = λ before read.
    let parts : before.arrived ++ a.frames.items ≡ ((before.arrived ++ arrived) ++ late) ++ left =
    ap (λ (fs : List Frame). before.arrived ++ fs) all ∙ sym (append_assoc before.arrived (arrived ++ late) left) ∙ ap (λ (fs : List Frame). fs ++ left) (sym (append_assoc before.arrived arrived late)) in
    let whole : Follows me (before.taken ++ parcel sender bytes ∷ []) (((before.arrived ++ arrived) ++ late) ++ left) new =
    subst (λ (fs : List Frame). Follows me (before.taken ++ parcel sender bytes ∷ []) fs new) parts (follows_piece me sender bytes a old new before g read) in (
      λ other. first_lead other (bytes_of other (before.taken ++ parcel sender bytes ∷ [])) ((before.arrived ++ arrived) ++ late) left
          (first_arrive me other (before.taken ++ parcel sender bytes ∷ []) (((before.arrived ++ arrived) ++ late) ++ left) new whole),
      ours (before.taken ++ parcel sender bytes ∷ []),
    )

-- none of its frames arrives
pub hears_none : (me sender : ℕ) (f : ServeFault) (bytes : List ℕ) (old new : List Reading) → ((taken : List Parcel) → AreForeign (Some f) me taken) → Hears (Some f) me (heard (parcel sender bytes ∷ []) []) old new
hears_none me sender f bytes old new ours = λ before read.
    let so_far : Arrive (Some f) me (heard before.taken (before.arrived ++ [])) =
    firsts me before.taken (before.arrived ++ []) old f (subst (λ (fs : List Frame). Follows me before.taken fs old) (sym (append-nil before.arrived)) read.follows) in (
      λ other. first_stay other before.taken (parcel sender bytes ∷ []) (frames_from other ((before.arrived ++ []) ++ [])) (so_far other),
      ours (before.taken ++ parcel sender bytes ∷ []),
    )
