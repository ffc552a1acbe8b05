-- Messages that wait for their receivers.
use Rattle.std.specs.Prelude.{◌≡◌, ℕ, nat_eq, Bool, ◌&&◌, List, [], ◌∷◌, drop, slice_set, Option, None, Some}
use Rattle.ct_frame.specs.Fields.{well_formed}
use Rattle.ct_frame.specs.declared.frame.Frame.{Frame}
use Rattle.ct_law_journal_growing.specs.Growing.{queue_at}

-- the first of these, where there is one
abbrev pub first_of : List Frame → Option Frame
first_of [] = None
first_of (f ∷ fs) = Some f

-- may the message arrive at node n?
unfoldable pub is_for : ℕ → Frame → Bool
is_for n f = well_formed f && nat_eq f.receiver n

-- the first message that waits for node n is taken off, or there is none
abbrev pub TakesOff : ℕ → Option Frame → List (List Frame) → List (List Frame) → Type 0
TakesOff n None old new = (queue_at old n ≡ []) × (new ≡ old)
TakesOff n (Some f) old new = (queue_at old n ≡ f ∷ drop 1 (queue_at old n)) × (new ≡ slice_set old n (drop 1 (queue_at old n)))
