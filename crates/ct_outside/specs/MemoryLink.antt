-- A link in memory, of whose calls some fail.
use Rattle.std.specs.Prelude.{ℕ, ◌≡◌, Bool, true, false, List, [], ◌∷◌, Result, Ok, Err}
use Rattle.ct_outside.specs.Causes.{one_more}
use Rattle.ct_outside.specs.Links.{Parcel, Pieces, parcel, sent_more}
use Rattle.ct_outside.specs.Memory.{Calls, failed, next_fails, no_calls, passed}
use Rattle.ct_outside.specs.declared.fault.LinkFault.{LinkFault}
use Rattle.ct_outside.specs.declared.fault.LinkFault.TheVariants.{Failed, NoMemory}
use Rattle.ct_outside.specs.declared.link.Received.{Received}
use Rattle.ct_outside.specs.declared.link.Received.TheVariants as answer

-- the pieces, how often the end and how often a look was answered, and the calls so far
pub record Linking : Type 0 where
  pub pieces : Pieces
  pub endings : ℕ
  pub looks : ℕ
  pub calls : Calls

-- before the first call
abbrev pub fresh_link : List Parcel → List ℕ → Linking
fresh_link waiting fail_at = record { pieces = record { waiting = waiting; sent = [] }; endings = 0; looks = 0; calls = no_calls fail_at }

-- after a look that was answered, with these pieces waiting
abbrev pub looked : List Parcel → Linking → Linking
looked rest s = record s { pieces = record s.pieces { waiting = rest }; looks = one_more s.looks; calls = passed s.calls }

-- after a look that was answered with the end
abbrev pub ended : Linking → Linking
ended s = record s { endings = one_more s.endings; looks = one_more s.looks; calls = passed s.calls }

-- a send: the piece is sent, unless the call is one that fails or memory runs out
abbrev pub SendsHere : Result (Unit {0}) LinkFault → ℕ → List ℕ → Linking → Linking → Type 0
SendsHere (Ok u) to bytes old new = (next_fails old.calls ≡ false) × (new ≡ record old { pieces = sent_more to bytes old.pieces; calls = passed old.calls })
SendsHere (Err Failed) to bytes old new = (next_fails old.calls ≡ true) × (new ≡ record old { calls = failed old.calls })
SendsHere (Err NoMemory) to bytes old new = (next_fails old.calls ≡ false) × (new ≡ record old { calls = passed old.calls })

-- a look: the first piece that waits, or, where none does, the end with permission to wait and nothing without it,
-- unless the call is one that fails. It takes no memory
abbrev pub ReceivesHere : Result Received LinkFault → Bool → Linking → Linking → Type 0
ReceivesHere (Ok (answer.Piece sender bytes)) may_wait old new =
    (next_fails old.calls ≡ false) × (old.pieces.waiting ≡ parcel sender bytes.items ∷ new.pieces.waiting) × (new ≡ looked new.pieces.waiting old)
ReceivesHere (Ok answer.Nothing) may_wait old new =
    (next_fails old.calls ≡ false) × (may_wait ≡ false) × (old.pieces.waiting ≡ []) × (new ≡ looked [] old)
ReceivesHere (Ok answer.Closed) may_wait old new =
    (next_fails old.calls ≡ false) × (may_wait ≡ true) × (old.pieces.waiting ≡ []) × (new ≡ ended old)
ReceivesHere (Err Failed) may_wait old new = (next_fails old.calls ≡ true) × (new ≡ record old { calls = failed old.calls })
ReceivesHere (Err NoMemory) may_wait old new = ⊥
