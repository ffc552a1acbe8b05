-- The messages that a node was sent and that had not arrived.
use Rattle.std.specs.Prelude.{◌≡◌, ℕ, ◌+◌, ◌<◌, List, [], ◌∷◌, ◌++◌, length, map, Option, None, Some, slice_get, slice_index_or, slice_set}
use Rattle.ct_frame.specs.declared.frame.Frame.{Frame}
use Rattle.ct_journal.specs.Order.{frames_in, frames_to}
use Rattle.ct_journal.specs.declared.journal.Journal.{Journal}
use Rattle.ct_journal.specs.declared.journal.JournalEntry.{JournalEntry}

-- a message, and how many entries of its sender stand once it is sent
pub record Despatched : Type 0 where
  pub frame : Frame
  pub count : ℕ

-- these messages are sent by the last of so many entries
abbrev pub sent_by : ℕ → List Frame → List Despatched
sent_by count [] = []
sent_by count (f ∷ fs) = record { frame = f; count = count } ∷ sent_by count fs

-- the messages to node n of these entries, before which so many stand
abbrev pub despatched : ℕ → ℕ → List JournalEntry → List Despatched
despatched n count [] = []
despatched n count (x ∷ xs) = sent_by (count + 1) (frames_to n (frames_in x.outs)) ++ despatched n (count + 1) xs

-- the messages to node n of a journal
abbrev pub letters_of : ℕ → Journal → List Despatched
letters_of n j = despatched n 0 j.entries

-- ---- the messages to each node

-- these messages are put behind the others of their sender; of nobody, nowhere
unfoldable pub put_behind : ℕ → List Despatched → List (List Despatched) → List (List Despatched)
put_behind sender more all = slice_set all sender (slice_index_or all sender [] ++ more)

-- the messages to node n, and none where there is no such node
unfoldable pub letters_at : ℕ → List (List (List Despatched)) → List (List Despatched)
letters_at n receivers = slice_index_or receivers n []

-- a message is put behind the others of its sender to its receiver; to what is no node, nowhere
unfoldable pub put_letter : ℕ → Despatched → List (List (List Despatched)) → List (List (List Despatched))
put_letter sender l receivers = slice_set receivers l.frame.receiver (put_behind sender (l ∷ []) (letters_at l.frame.receiver receivers))

-- each of these messages, sent by the last of so many entries
unfoldable pub put_letters : ℕ → ℕ → List Frame → List (List (List Despatched)) → List (List (List Despatched))
put_letters sender count [] receivers = receivers
put_letters sender count (f ∷ fs) receivers = put_letters sender count fs (put_letter sender (record { frame = f; count = count }) receivers)

-- each of the messages of these entries, before which so many stand
unfoldable pub put_all_letters : ℕ → ℕ → List JournalEntry → List (List (List Despatched)) → List (List (List Despatched))
put_all_letters sender count [] receivers = receivers
put_all_letters sender count (x ∷ xs) receivers = put_all_letters sender (count + 1) xs (put_letters sender (count + 1) (frames_in x.outs) receivers)

-- to each node there are the messages of each journal
pub record AllLetters (js : List Journal) (receivers : List (List (List Despatched))) : Type 0 where
  pub count : length receivers ≡ length js
  pub each : (n : ℕ) → n < length js → letters_at n receivers ≡ map (letters_of n) js

-- ---- taking the first

abbrev pub first_of : List Despatched → Option Despatched
first_of [] = None
first_of (l ∷ ls) = Some l

abbrev pub rest_of : List Despatched → List Despatched
rest_of [] = []
rest_of (l ∷ ls) = ls

-- the messages of a sender, and none where there is no such sender
abbrev pub or_none : Option (List Despatched) → List Despatched
or_none None = []
or_none (Some ls) = ls

-- the first message of a sender
abbrev pub first_from : List (List Despatched) → ℕ → Option Despatched
first_from all sender = first_of (or_none (slice_get all sender))

-- what is left once it was taken off
abbrev pub without : List (List Despatched) → ℕ → Option (List Despatched) → List (List Despatched)
without all sender None = all
without all sender (Some ls) = slice_set all sender (rest_of ls)

abbrev pub taken_from : List (List Despatched) → ℕ → List (List Despatched)
taken_from all sender = without all sender (slice_get all sender)
