-- A link over streams: what it keeps, what a send and a look do, and which answers it counts.
use Rattle.std.specs.Prelude.{ℕ, ◌≡◌, ◌≢◌, Bool, true, false, ◌&&◌, if◌then◌else◌, List, [], ◌∷◌, ◌++◌, map, Option, Result, Ok, Err, is_ok}
use Rattle.std.specs.List.Sorted.{IsNonDecreasingBy, IsPermutation}
use Rattle.ct_outside.specs.Causes.{one_more}
use Rattle.ct_outside.specs.Links.{Parcel, is_end, is_failure, parcel}
use Rattle.ct_outside.specs.declared.fault.LinkFault.{LinkFault}
use Rattle.ct_outside.specs.declared.fault.LinkFault.TheVariants.{Failed, NoMemory}
use Rattle.ct_outside.specs.declared.link.Received.{Received}
use Rattle.ct_outside.specs.declared.link.Received.TheVariants as answer
use Rattle.ct_links.specs.declared.link.LinkTally.{LinkTally}
use Rattle.ct_links.specs.Lanes.{AllRest, Fails, FirstDoes, Gives, LaneState, Puts, all_ended}

-- a node and the stream to it
pub record Joint (S : Type 0) : Type 0 where
  pub node : ℕ
  pub stream : S

-- the node whose link it is, the pieces that it sent to itself and has not received, the streams, and the counts
pub record LinkState (S : Type 0) : Type 0 where
  pub me : ℕ
  pub own : List Parcel
  pub lanes : List (LaneState S)
  pub tally : LinkTally

-- a stream that has not given its end
abbrev pub open_lane : {S : Type 0} → Joint S → LaneState S
open_lane p = record { node = p.node; stream = p.stream; ended = false }

-- the streams to these nodes, by ascending node
abbrev pub Opened : {S : Type 0} → List (Joint S) → List (LaneState S) → Type 0
Opened {S} peers lanes = (sorted : List (Joint S)) × IsPermutation peers sorted × IsNonDecreasingBy (λ p. p.node) sorted × (lanes ≡ map open_lane sorted)

-- nothing has been answered
abbrev pub no_answers : LinkTally
no_answers = record { faults = 0; endings = 0; looks = 0 }

-- one more where it happened
abbrev pub more_where : Bool → ℕ → ℕ
more_where happened count = if happened then one_more count else count

-- after a send: a failure is counted, and no other answer
abbrev pub tally_sent : Result (Unit {0}) LinkFault → LinkTally → LinkTally
tally_sent r t = record t { faults = more_where (is_failure r) t.faults }

-- after a look: a failure is counted as a fault, the end as an ending, and any answer that is no refusal as a look
abbrev pub tally_looked : Result Received LinkFault → LinkTally → LinkTally
tally_looked r t = record {
  faults = more_where (is_failure r) t.faults;
  endings = more_where (is_end r) t.endings;
  looks = more_where (is_ok r) t.looks;
}

-- a send to the node itself keeps its piece, behind those that are kept; without memory nothing is kept
abbrev pub Keeping : Result (Unit {0}) LinkFault → Parcel → List Parcel → List Parcel → Type 0
Keeping (Ok u) piece old new = new ≡ old ++ piece ∷ []
Keeping (Err Failed) piece old new = ⊥
Keeping (Err NoMemory) piece old new = new ≡ old

-- a send to the node itself keeps the piece, and one to another node writes it to that node's stream, which takes no memory
abbrev pub SendsOver : {S : Type 0} → Bool → (S → Option (List ℕ)) → Result (Unit {0}) LinkFault → ℕ → List ℕ → LinkState S → LinkState S → Type 0
SendsOver true held r to bytes old new = Keeping r (parcel old.me bytes) old.own new.own × (new.lanes ≡ old.lanes)
SendsOver false held r to bytes old new = (r ≢ Err NoMemory) × (new.own ≡ old.own) × Puts held (is_ok r) to bytes old.lanes new.lanes

-- a look where no piece of the node's own is kept: the first bytes of the first stream that has any; where none has, the
-- end where all streams have given theirs and the link may wait, and else nothing
abbrev pub LooksOver : {S : Type 0} → (S → Option (List ℕ)) → Bool → Result Received LinkFault → List (LaneState S) → List (LaneState S) → Type 0
LooksOver left may_wait (Ok (answer.Piece sender bytes)) olds news = FirstDoes left (Gives left sender bytes.items) olds news
LooksOver left may_wait (Ok answer.Nothing) olds news = AllRest left olds news × ((may_wait && all_ended news) ≡ false)
LooksOver left may_wait (Ok answer.Closed) olds news = AllRest left olds news × ((may_wait && all_ended news) ≡ true)
LooksOver left may_wait (Err Failed) olds news = FirstDoes left (Fails left) olds news
LooksOver left may_wait (Err NoMemory) olds news = news ≡ olds

-- the answer that hands over a kept piece
abbrev pub HandsOver : Result Received LinkFault → Parcel → Type 0
HandsOver (Ok (answer.Piece sender bytes)) piece = piece ≡ parcel sender bytes.items
HandsOver (Ok answer.Nothing) piece = ⊥
HandsOver (Ok answer.Closed) piece = ⊥
HandsOver (Err e) piece = ⊥

-- a look: the first kept piece of the node's own, with no stream asked; else what the streams give
abbrev pub ReceivesOver : {S : Type 0} → List Parcel → (S → Option (List ℕ)) → Bool → Result Received LinkFault → LinkState S → LinkState S → Type 0
ReceivesOver (piece ∷ rest) left may_wait r old new = HandsOver r piece × (new.own ≡ rest) × (new.lanes ≡ old.lanes)
ReceivesOver [] left may_wait r old new = (new.own ≡ []) × LooksOver left may_wait r old.lanes new.lanes
