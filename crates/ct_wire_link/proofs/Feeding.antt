-- A piece is read, and the fault behind its frames is told.
use Rattle.std.proofs.Common.{◌≡◌, List, [], ◌∷◌, ◌⊎◌, inl, inr, None, Some, Ok, Err, refl, sym, ap, subst, ◌∙◌, ℕ}
use Rattle.std.specs.Global.{Vec}
use Rattle.ct_frame.specs.declared.frame.Frame.{Frame}
use Rattle.ct_wire_link.specs.declared.arrived.Arrived.{Arrived}
use Rattle.ct_wire_link.specs.Reading.{ReadsOn, broken_at}
use Rattle.ct_wire.specs.declared.decode.Progress.{Progress}
use Rattle.ct_wire.specs.declared.decode.Progress.TheVariants as progress
use Rattle.ct_wire.specs.declared.decode.WireFault.{WireFault}
use Rattle.ct_wire.specs.declared.decode.WireFault.TheVariants as fault
use Rattle.ct_wire.specs.Cursor.{start}
use Rattle.ct_wire.specs.Decoding.{End, eaten, standing_fault, Closes, Completes, Feeds}

-- bytes never end as those of one frame that is to be whole
never_short_here : (e : End) → Closes e (progress.Failed fault.Short) → ⊥
never_short_here (End.Waits s) is = absurd (cc)
never_short_here (End.Ends f n rest) is = is
never_short_here (End.Breaks offset) is = absurd (cc)

never_short : (fs : List Frame) (e : End) → Completes e fs (progress.Failed fault.Short) → ⊥
never_short [] e done = never_short_here e done
never_short (f ∷ fs) (End.Waits s) done = done
never_short (f ∷ fs) (End.Ends g n rest) done = never_short fs (eaten start [] rest) done.1
never_short (f ∷ fs) (End.Breaks offset) done = done

-- a piece that completes no frame and breaks a rule
pub broken_first : (a : Arrived) (offset : ℕ) (old : Progress) (bytes : List ℕ) (new : Progress) → a.frames.items ≡ [] → a.broken ≡ Some offset → Feeds (Err (fault.Malformed offset)) old bytes new → ReadsOn (Ok a) old bytes new
broken_first a offset (progress.Amid s) bytes new none at fed = (
  subst (λ (fs : List Frame). Completes (eaten s.cursor s.raw bytes) fs new) (sym none) fed.1,
  at ∙ ap (λ (p : Progress). broken_at p) (sym fed.0),
)
broken_first a offset (progress.Failed f) bytes new none at fed =
    (offset, cc, none, at, fed.1)

-- no piece is read
pub refused_first : (e : WireFault) (old : Progress) (bytes : List ℕ) (new : Progress) → ((offset : ℕ) → e ≡ fault.Malformed offset → ⊥) → Feeds (Err e) old bytes new → (new ≡ old) ⊎ (new ≡ progress.Failed fault.NoMemory)
refused_first e (progress.Failed f) bytes new other fed = inl fed.1
refused_first fault.NoMemory (progress.Amid s) bytes new other fed = inr fed
refused_first fault.Short (progress.Amid s) bytes new other fed = absurd (never_short [] (eaten s.cursor s.raw bytes) (subst (λ (p : Progress). Closes (eaten s.cursor s.raw bytes) p) fed.0 fed.1))
refused_first (fault.Malformed offset) (progress.Amid s) bytes new other fed = absurd (other offset refl)

-- behind the frames of a piece no fault stands
pub whole_read : (frames : Vec Frame) (old : Progress) (bytes : List ℕ) (new : Progress) → Feeds (Ok frames) old bytes new → standing_fault new ≡ None → ReadsOn (Ok (record { frames = frames; broken = None })) old bytes new
whole_read frames (progress.Amid s) bytes (progress.Amid t) fed none = (fed.0, refl)
whole_read frames (progress.Amid s) bytes (progress.Failed f) fed none = absurd (cc)
whole_read frames (progress.Failed f) bytes new fed none = absurd (cc)

-- behind them bytes break a rule
pub broken_read : (frames : Vec Frame) (offset : ℕ) (old : Progress) (bytes : List ℕ) (new : Progress) → Feeds (Ok frames) old bytes new → standing_fault new ≡ Some (fault.Malformed offset) → ReadsOn (Ok (record { frames = frames; broken = Some offset })) old bytes new
broken_read frames offset (progress.Amid s) bytes (progress.Amid t) fed is = absurd (cc)
broken_read frames offset (progress.Amid s) bytes (progress.Failed f) fed is =
    let same : progress.Failed f ≡ progress.Failed (fault.Malformed offset) = cc in
    (fed.0, ap (λ (p : Progress). broken_at p) (sym same))
broken_read frames offset (progress.Failed f) bytes new fed is = absurd (cc)

-- behind them another fault stands
pub refused_read : (frames : Vec Frame) (e : WireFault) (old : Progress) (bytes : List ℕ) (new : Progress) → ((offset : ℕ) → e ≡ fault.Malformed offset → ⊥) → Feeds (Ok frames) old bytes new → standing_fault new ≡ Some e → (new ≡ old) ⊎ (new ≡ progress.Failed fault.NoMemory)
refused_read frames e (progress.Amid s) bytes (progress.Amid t) other fed is = absurd (cc)
refused_read frames e (progress.Amid s) bytes (progress.Failed fault.NoMemory) other fed is = inr refl
refused_read frames e (progress.Amid s) bytes (progress.Failed fault.Short) other fed is = absurd (never_short frames.items (eaten s.cursor s.raw bytes) fed.0)
refused_read frames e (progress.Amid s) bytes (progress.Failed (fault.Malformed offset)) other fed is = absurd (other offset (cc))
refused_read frames e (progress.Failed f) bytes new other fed is = absurd (cc)
