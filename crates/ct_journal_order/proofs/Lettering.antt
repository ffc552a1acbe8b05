-- Which messages are sent once so many entries of their sender stand.
use Rattle.std.proofs.Common.{◌≡◌, ℕ, zero, suc, ◌+◌, ◌<◌, ◌≤◌, List, [], ◌∷◌, ◌++◌, take, Some, arith, refl, ap}
use Rattle.std.proofs.lemmas.Option.{same_Some}
use Rattle.std.specs.Prelude.{slice_get}
use Rattle.ct_frame.specs.declared.frame.Frame.{Frame}
use Rattle.ct_journal.specs.Order.{frames_in, frames_to, sent_to}
use Rattle.ct_journal.specs.declared.journal.JournalEntry.{JournalEntry}
use Rattle.ct_journal_order.specs.Letters.{Despatched, despatched, sent_by}

-- ---- counts grow

count_in : (b : ℕ) (fs : List Frame) (rest : List Despatched) → ((k : ℕ) (l : Despatched) → slice_get rest k ≡ Some l → b < l.count) → (k : ℕ) (l : Despatched) → slice_get (sent_by (b + 1) fs ++ rest) k ≡ Some l → b < l.count
count_in b [] rest after k l e = after k l e
count_in b (f ∷ fs) rest after zero l e = let s = same_Some _ _ e in let c = ap (λ (d : Despatched). d.count) s in omega arith
count_in b (f ∷ fs) rest after (suc k) l e = count_in b fs rest after k l e

count_above : (n b : ℕ) (xs : List JournalEntry) (k : ℕ) (l : Despatched) → slice_get (despatched n b xs) k ≡ Some l → b < l.count
count_above n b [] k l e = absurd (cc)
count_above n b (x ∷ xs) k l e =
    count_in b (frames_to n (frames_in x.outs)) (despatched n (b + 1) xs) (λ j d h. (let c = count_above n (b + 1) xs j d h in omega arith)) k l e

-- ---- what is despatched is sent by then

sent_in : (b c : ℕ) (fs gs : List Frame) (rest : List Despatched) → ((k : ℕ) (l : Despatched) → slice_get rest k ≡ Some l → l.count ≤ c → slice_get gs k ≡ Some l.frame) →
    (k : ℕ) (l : Despatched) → slice_get (sent_by b fs ++ rest) k ≡ Some l → l.count ≤ c → slice_get (fs ++ gs) k ≡ Some l.frame
sent_in b c [] gs rest h k l e le = h k l e le
sent_in b c (f ∷ fs) gs rest h zero l e le = ap (λ (d : Despatched). Some d.frame) (same_Some _ _ e)
sent_in b c (f ∷ fs) gs rest h (suc k) l e le = sent_in b c fs gs rest h k l e le

pub sent_when : (n b t : ℕ) (xs : List JournalEntry) (k : ℕ) (l : Despatched) → slice_get (despatched n b xs) k ≡ Some l → l.count ≤ b + t → slice_get (sent_to n (take t xs)) k ≡ Some l.frame
unfolding sent_to
sent_when n b t [] k l e le = absurd (cc)
sent_when n b zero (x ∷ xs) k l e le = absurd (let c = count_above n b (x ∷ xs) k l e in omega arith)
sent_when n b (suc t) (x ∷ xs) k l e le =
    sent_in (b + 1) (b + suc t) (frames_to n (frames_in x.outs)) (sent_to n (take t xs)) (despatched n (b + 1) xs) (λ j d h m. sent_when n (b + 1) t xs j d h (omega arith)) k l e le

-- ---- what is sent by then is despatched

told_in : (b c : ℕ) (fs gs : List Frame) (rest : List Despatched) → b ≤ c → ((k : ℕ) (m : Frame) → slice_get gs k ≡ Some m → (l : Despatched) × (slice_get rest k ≡ Some l) × (l.frame ≡ m) × (l.count ≤ c)) →
    (k : ℕ) (m : Frame) → slice_get (fs ++ gs) k ≡ Some m → (l : Despatched) × (slice_get (sent_by b fs ++ rest) k ≡ Some l) × (l.frame ≡ m) × (l.count ≤ c)
told_in b c [] gs rest le h k m e = h k m e
told_in b c (f ∷ fs) gs rest le h zero m e = (record { frame = f; count = b }, refl, same_Some f m e, le)
told_in b c (f ∷ fs) gs rest le h (suc k) m e = told_in b c fs gs rest le h k m e

pub told_when : (n b t : ℕ) (xs : List JournalEntry) (k : ℕ) (m : Frame) → slice_get (sent_to n (take t xs)) k ≡ Some m → (l : Despatched) × (slice_get (despatched n b xs) k ≡ Some l) × (l.frame ≡ m) × (l.count ≤ b + t)
unfolding sent_to
told_when n b zero xs k m e = absurd (cc)
told_when n b (suc t) [] k m e = absurd (cc)
told_when n b (suc t) (x ∷ xs) k m e =
    told_in (b + 1) (b + suc t) (frames_to n (frames_in x.outs)) (sent_to n (take t xs)) (despatched n (b + 1) xs) (omega arith)
    (λ j d h. (let r = told_when n (b + 1) t xs j d h in (r.0, r.1, r.2, omega (arith, r.3)))) k m e
