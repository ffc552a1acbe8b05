-- What may stand next does not go away while entries of other nodes are put.
use Rattle.std.proofs.Common.{◌≡◌, ℕ, zero, suc, ◌+◌, ◌≤◌, List, [], ◌∷◌, ◌++◌, Some, append_assoc, arith, refl, sym, ap, ◌∙◌, subst}
use Rattle.std.specs.Prelude.{slice_get, take}
use Rattle.ct_frame.specs.declared.event.Event.TheVariants as event
use Rattle.ct_frame.specs.declared.frame.Frame.{Frame}
use Rattle.ct_journal.specs.Going.{IsWithin, MayStandLater}
use Rattle.ct_journal.specs.Order.{Front, MayStand, arrived_from, entries_of, frames_in, frames_to, past_of, sent_to, taken_of}
use Rattle.ct_journal.specs.declared.journal.Journal.{Journal}
use Rattle.ct_journal.specs.declared.journal.JournalEntry.{JournalEntry}

-- what stands at a place stands there with more behind it
got_before : (xs ys : List Frame) (k : ℕ) (m : Frame) → slice_get xs k ≡ Some m → slice_get (xs ++ ys) k ≡ Some m
got_before [] ys k m e = absurd (cc)
got_before (x ∷ xs) ys zero m e = e
got_before (x ∷ xs) ys (suc k) m e = got_before xs ys k m e

-- more entries send the same messages first
sent_more : (n a b : ℕ) (xs : List JournalEntry) → a ≤ b → (rest : List Frame) × (sent_to n (take b xs) ≡ sent_to n (take a xs) ++ rest)
unfolding sent_to
sent_more n zero b xs l = (sent_to n (take b xs), refl)
sent_more n (suc a) zero xs l = absurd (omega arith)
sent_more n (suc a) (suc b) [] l = ([], refl)
sent_more n (suc a) (suc b) (x ∷ xs) l =
    let r = sent_more n a b xs (omega arith) in
    let own : List Frame = frames_to n (frames_in x.outs) in
    (r.0, ap (λ (fs : List Frame). own ++ fs) r.1 ∙ sym (append_assoc own (sent_to n (take a xs)) r.0))

sent_later : (n a b k : ℕ) (xs : List JournalEntry) (m : Frame) → a ≤ b → slice_get (sent_to n (take a xs)) k ≡ Some m → slice_get (sent_to n (take b xs)) k ≡ Some m
sent_later n a b k xs m l e =
    let r = sent_more n a b xs l in
    subst (λ (fs : List Frame). slice_get fs k ≡ Some m) (sym r.1) (got_before (sent_to n (take a xs)) r.0 k m e)

-- a message that may arrive may do so later
pub arrives_later : (js : List Journal) (f g : Front) (n : ℕ) (m : Frame) → IsWithin f g → taken_of f n ≡ taken_of g n → MayStand js f n (event.Arrive m) → MayStand js g n (event.Arrive m)
unfolding MayStand past_of
arrives_later js f g n m within same e =
    subst (λ (k : ℕ). slice_get (sent_to n (take (taken_of g m.sender) (entries_of js m.sender))) (arrived_from m.sender (take k (entries_of js n))) ≡ Some m) same
    (sent_later n (taken_of f m.sender) (taken_of g m.sender) (arrived_from m.sender (take (taken_of f n) (entries_of js n))) (entries_of js m.sender) m (within m.sender) e)

pub may_stand_later : MayStandLater
unfolding MayStand
may_stand_later js f g n (event.Client call o) within same ticket may = tt
may_stand_later js f g n (event.Arrive m) within same ticket may = arrives_later js f g n m within same may
may_stand_later js f g n event.Retry within same ticket may = may
may_stand_later js f g n (event.Vacuum db) within same ticket may = may
may_stand_later js f g n (event.BeginRound t members) within same ticket may = (may.0 ∙ ap (λ (k : ℕ). k + 1) ticket, may.1)
may_stand_later js f g n (event.BeginTakeover able) within same ticket may = may
