-- Pieces between nodes, and what a link does to them.
use Rattle.std.specs.Prelude.{ℕ, ◌≡◌, ◌+◌, ◌≤◌, Bool, true, false, List, [], ◌∷◌, ◌++◌, Result, Ok, Err}
use Rattle.ct_outside.specs.Causes.{Rose}
use Rattle.ct_outside.specs.declared.fault.LinkFault.{LinkFault}
use Rattle.ct_outside.specs.declared.fault.LinkFault.TheVariants.{Failed, NoMemory}
use Rattle.ct_outside.specs.declared.link.Received.{Received}
use Rattle.ct_outside.specs.declared.link.Received.TheVariants as answer

-- a piece of bytes, and the node that it goes to or comes from
pub record Parcel : Type 0 where
  pub node : ℕ
  pub bytes : List ℕ

abbrev pub parcel : ℕ → List ℕ → Parcel
parcel node bytes = record { node = node; bytes = bytes }

-- the pieces of a link: those that wait to be received, and those that were sent
pub record Pieces : Type 0 where
  pub waiting : List Parcel
  pub sent : List Parcel

-- a piece more was sent
abbrev pub sent_more : ℕ → List ℕ → Pieces → Pieces
sent_more to bytes p = record p { sent = p.sent ++ parcel to bytes ∷ [] }

-- a send adds its piece to the sent ones, and a refused one leaves all as it was
abbrev pub Sends : Result (Unit {0}) LinkFault → ℕ → List ℕ → Pieces → Pieces → Type 0
Sends (Ok u) to bytes old new = new ≡ sent_more to bytes old
Sends (Err e) to bytes old new = new ≡ old

-- a piece that is received was the first waiting one, and waits no more; any other answer leaves all as it was, and
-- only a refusal comes while one waits
abbrev pub Receives : Result Received LinkFault → Pieces → Pieces → Type 0
Receives (Ok (answer.Piece sender bytes)) old new = (old.waiting ≡ parcel sender bytes.items ∷ new.waiting) × (new.sent ≡ old.sent)
Receives (Ok answer.Nothing) old new = (old.waiting ≡ []) × (new ≡ old)
Receives (Ok answer.Closed) old new = (old.waiting ≡ []) × (new ≡ old)
Receives (Err e) old new = new ≡ old

-- did the outside fail?
abbrev pub is_failure : {A : Type 0} → Result A LinkFault → Bool
is_failure (Ok x) = false
is_failure (Err Failed) = true
is_failure (Err NoMemory) = false

-- was the end answered?
abbrev pub is_end : Result Received LinkFault → Bool
is_end (Ok (answer.Piece sender bytes)) = false
is_end (Ok answer.Nothing) = false
is_end (Ok answer.Closed) = true
is_end (Err e) = false

-- an answered look raises the count of looks, by one; a refused one raises it by one at most
pub record Looks (answered : Bool) (before now : ℕ) : Type 0 where
  pub later : before ≤ now
  pub rose : answered ≡ true → Rose before now
  pub once : now ≤ before + 1
