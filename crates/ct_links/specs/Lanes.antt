-- The streams of a link: what a look reads of them, and what a send writes to them.
use Rattle.std.specs.Prelude.{ℕ, ◌≡◌, ◌≢◌, ◌<◌, ◌⊎◌, Bool, true, false, List, [], ◌∷◌, length, take, Option}
use Rattle.std.specs.List.{list_all}
use Rattle.std.specs.Io.KnownBytes.{Appends, Consumes, IsAtEnd, Keeps}
use Rattle.ct_outside.specs.Causes.{AppendsPart}
use Rattle.ct_links.specs.declared.lanes.Found.{Found}
use Rattle.ct_links.specs.declared.lanes.Found.TheVariants as found

-- a node, the stream to it, and whether the stream has given its end
pub record LaneState (S : Type 0) : Type 0 where
  pub node : ℕ
  pub stream : S
  pub ended : Bool

-- have all streams given their end?
abbrev pub all_ended : {S : Type 0} → List (LaneState S) → Bool
all_ended lanes = list_all (λ a. a.ended) lanes

-- a stream that gave nothing: what it has left is as before. One that had ended was not asked, and one that ends now has
-- nothing left
pub record Rests {S : Type 0} (left : S → Option (List ℕ)) (old new : LaneState S) : Type 0 where
  pub node : new.node ≡ old.node
  pub kept : Keeps (left old.stream) (left new.stream)
  pub stays : old.ended ≡ true → new ≡ old
  pub ends : old.ended ≡ false → new.ended ≡ true → IsAtEnd (left new.stream)

-- a stream that had not ended and gave these bytes, one at least, of what it had left; its node is the sender
pub record Gives {S : Type 0} (left : S → Option (List ℕ)) (sender : ℕ) (bytes : List ℕ) (old new : LaneState S) : Type 0 where
  pub from : old.node ≡ sender
  pub node : new.node ≡ old.node
  pub asked : old.ended ≡ false
  pub goes_on : new.ended ≡ false
  pub some : 0 < length bytes
  pub given : Consumes (left old.stream) (left new.stream) bytes

-- a stream that had not ended and failed: what it has left is as before
pub record Fails {S : Type 0} (left : S → Option (List ℕ)) (old new : LaneState S) : Type 0 where
  pub node : new.node ≡ old.node
  pub asked : old.ended ≡ false
  pub goes_on : new.ended ≡ false
  pub kept : Keeps (left old.stream) (left new.stream)

-- a look at one stream, into this room
abbrev pub LooksOnce : {S : Type 0} → (S → Option (List ℕ)) → Found → List ℕ → LaneState S → LaneState S → Type 0
LooksOnce left (found.Bytes sender count) room old new = Gives left sender (take count room) old new
LooksOnce left found.Nothing room old new = Rests left old new
LooksOnce left found.Failed room old new = Fails left old new

-- every stream gave nothing
abbrev pub AllRest : {S : Type 0} → (S → Option (List ℕ)) → List (LaneState S) → List (LaneState S) → Type 0
AllRest left [] news = news ≡ []
AllRest left (a ∷ olds) [] = ⊥
AllRest left (a ∷ olds) (b ∷ news) = Rests left a b × AllRest left olds news

-- one stream did so, those before it gave nothing, and those after it were not asked
abbrev pub FirstDoes : {S : Type 0} → (S → Option (List ℕ)) → (LaneState S → LaneState S → Type 0) → List (LaneState S) → List (LaneState S) → Type 0
FirstDoes left Does [] news = ⊥
FirstDoes left Does (a ∷ olds) [] = ⊥
FirstDoes left Does (a ∷ olds) (b ∷ news) = (Does a b × (news ≡ olds)) ⊎ (Rests left a b × FirstDoes left Does olds news)

-- a look at one stream after the other
abbrev pub Looks : {S : Type 0} → (S → Option (List ℕ)) → Found → List ℕ → List (LaneState S) → List (LaneState S) → Type 0
Looks left (found.Bytes sender count) room olds news = FirstDoes left (Gives left sender (take count room)) olds news
Looks left found.Nothing room olds news = AllRest left olds news
Looks left found.Failed room olds news = FirstDoes left (Fails left) olds news

-- a stream to which all of the bytes were written, or a front of them where it failed
abbrev pub PutsOnce : {S : Type 0} → (S → Option (List ℕ)) → Bool → List ℕ → LaneState S → LaneState S → Type 0
PutsOnce held true bytes old new = (new ≡ record old { stream = new.stream }) × Appends (held old.stream) (held new.stream) bytes
PutsOnce held false bytes old new = (new ≡ record old { stream = new.stream }) × AppendsPart (held old.stream) (held new.stream) bytes

-- a write to the first stream that has the node; the others are as before, and with no such stream it fails
abbrev pub Puts : {S : Type 0} → (S → Option (List ℕ)) → Bool → ℕ → List ℕ → List (LaneState S) → List (LaneState S) → Type 0
Puts held done node bytes [] news = (done ≡ false) × (news ≡ [])
Puts held done node bytes (a ∷ olds) [] = ⊥
Puts held done node bytes (a ∷ olds) (b ∷ news) =
    ((a.node ≡ node) × PutsOnce held done bytes a b × (news ≡ olds)) ⊎ ((a.node ≢ node) × (b ≡ a) × Puts held done node bytes olds news)
