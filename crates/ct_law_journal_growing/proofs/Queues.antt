-- Messages wait in the queues in the order in which each sender sent them.
use Rattle.std.proofs.Common.{◌≡◌, ◌≢◌, ℕ, zero, suc, ◌+◌, ◌<◌, nat_eq, nat_lt, Bool, true, false, if◌then◌else◌, List, [], ◌∷◌, ◌++◌, length, set, drop, append_assoc, arith, refl, sym, ap, ◌∙◌, subst}
use Rattle.std.proofs.lemmas.Bool.{and_parts, eqb-true, eqb-false, ltb-true}
use Rattle.std.proofs.lemmas.List.{length-set, length-append}
use Rattle.std.specs.List.{list_all}
use Rattle.ct_frame.specs.declared.event.Event.{Event}
use Rattle.ct_frame.specs.declared.event.Event.TheVariants as event
use Rattle.ct_frame.specs.declared.frame.Frame.{Frame}
use Rattle.ct_journal.specs.Order.{frames_to, is_arrival, is_from}
use Rattle.ct_law_journal_growing.specs.Growing.{Carries, MayFollow, count_queued, from_node, is_own, or_no_frames, posted, queue_at, taken_off}
use Rattle.ct_law_journal_growing.proofs.Lists.{append_nil, got_other, got_set}

-- ---- one queue

pub queue_set_same : (qs : List (List Frame)) (n : ℕ) (q : List Frame) → n < length qs → queue_at (set qs n q) n ≡ q
unfolding queue_at or_no_frames
queue_set_same qs n q l = ap or_no_frames (got_set qs n q l)

pub queue_set_other : (qs : List (List Frame)) (n m : ℕ) (q : List Frame) → m ≢ n → queue_at (set qs n q) m ≡ queue_at qs m
unfolding queue_at or_no_frames
queue_set_other qs n m q ne = ap or_no_frames (got_other qs n m q ne)

-- ---- messages of one sender

from_first : (s : ℕ) (f : Frame) (fs : List Frame) → nat_eq f.sender s ≡ true → from_node s (f ∷ fs) ≡ f ∷ from_node s fs
unfolding from_node
from_first s f fs e = ap (λ (b : Bool). if b then f ∷ from_node s fs else from_node s fs) e

from_skip : (s : ℕ) (f : Frame) (fs : List Frame) → nat_eq f.sender s ≡ false → from_node s (f ∷ fs) ≡ from_node s fs
unfolding from_node
from_skip s f fs e = ap (λ (b : Bool). if b then f ∷ from_node s fs else from_node s fs) e

pub from_more : (s : ℕ) (fs gs : List Frame) → from_node s (fs ++ gs) ≡ from_node s fs ++ from_node s gs
unfolding from_node
from_more s [] gs = refl
from_more s (f ∷ fs) gs = by (nat_eq f.sender s) (from_more s fs gs)
  where
    by : (b : Bool) → from_node s (fs ++ gs) ≡ from_node s fs ++ from_node s gs → (if b then f ∷ from_node s (fs ++ gs) else from_node s (fs ++ gs)) ≡ (if b then f ∷ from_node s fs else from_node s fs) ++ from_node s gs
    by true e = ap (λ (hs : List Frame). f ∷ hs) e
    by false e = e

-- what a node's own messages are
own_parts : (n nodes : ℕ) (f : Frame) (fs : List Frame) → list_all (is_own n nodes) (f ∷ fs) ≡ true → (nat_eq f.sender n ≡ true) × (f.receiver < nodes) × (list_all (is_own n nodes) fs ≡ true)
unfolding is_own
own_parts n nodes f fs h =
    let a = and_parts (is_own n nodes f) (list_all (is_own n nodes) fs) h in
    let b = and_parts (nat_eq f.sender n) (nat_lt f.receiver nodes) a.0 in
    (b.0, ltb-true _ _ b.1, a.1)

pub from_own : (me nodes m : ℕ) (fs : List Frame) → list_all (is_own me nodes) fs ≡ true → from_node me (frames_to m fs) ≡ frames_to m fs
unfolding frames_to from_node
from_own me nodes m [] own = refl
from_own me nodes m (f ∷ fs) own = by (nat_eq f.receiver m) (own_parts me nodes f fs own).0 (from_own me nodes m fs (own_parts me nodes f fs own).2)
  where
    by : (b : Bool) → nat_eq f.sender me ≡ true → from_node me (frames_to m fs) ≡ frames_to m fs → from_node me (if b then f ∷ frames_to m fs else frames_to m fs) ≡ (if b then f ∷ frames_to m fs else frames_to m fs)
    by true e more = from_first me f (frames_to m fs) e ∙ ap (λ (hs : List Frame). f ∷ hs) more
    by false e more = more

not_other : (s me : ℕ) (f : Frame) → s ≢ me → nat_eq f.sender me ≡ true → nat_eq f.sender s ≡ false
not_other s me f ne e = by (nat_eq f.sender s) refl
  where
    by : (b : Bool) → nat_eq f.sender s ≡ b → b ≡ false
    by true is = absurd (ne (sym (eqb-true f.sender s is) ∙ eqb-true f.sender me e))
    by false is = refl

pub from_other : (s me nodes m : ℕ) (fs : List Frame) → s ≢ me → list_all (is_own me nodes) fs ≡ true → from_node s (frames_to m fs) ≡ []
unfolding frames_to from_node
from_other s me nodes m [] ne own = refl
from_other s me nodes m (f ∷ fs) ne own = by (nat_eq f.receiver m) (not_other s me f ne (own_parts me nodes f fs own).0) (from_other s me nodes m fs ne (own_parts me nodes f fs own).2)
  where
    by : (b : Bool) → nat_eq f.sender s ≡ false → from_node s (frames_to m fs) ≡ [] → from_node s (if b then f ∷ frames_to m fs else frames_to m fs) ≡ []
    by true e more = from_skip s f (frames_to m fs) e ∙ more
    by false e more = more

-- ---- messages are put

pub posted_length : (fs : List Frame) (qs : List (List Frame)) → length (posted fs qs) ≡ length qs
unfolding posted
posted_length [] qs = refl
posted_length (f ∷ fs) qs = posted_length fs (set qs f.receiver (queue_at qs f.receiver ++ f ∷ [])) ∙ length-set qs f.receiver (queue_at qs f.receiver ++ f ∷ [])

put_at : (b : Bool) (m : ℕ) (f : Frame) (fs : List Frame) (qs : List (List Frame)) → nat_eq f.receiver m ≡ b → f.receiver < length qs →
    queue_at (set qs f.receiver (queue_at qs f.receiver ++ f ∷ [])) m ++ frames_to m fs ≡ queue_at qs m ++ (if b then f ∷ frames_to m fs else frames_to m fs)
put_at true m f fs qs e l =
    let same : f.receiver ≡ m = eqb-true f.receiver m e in
    let at : queue_at (set qs f.receiver (queue_at qs f.receiver ++ f ∷ [])) m ≡ queue_at qs m ++ f ∷ [] =
    subst (λ (k : ℕ). queue_at (set qs f.receiver (queue_at qs f.receiver ++ f ∷ [])) k ≡ queue_at qs k ++ f ∷ []) same (queue_set_same qs f.receiver (queue_at qs f.receiver ++ f ∷ []) l) in
    ap (λ (q : List Frame). q ++ frames_to m fs) at ∙ append_assoc (queue_at qs m) (f ∷ []) (frames_to m fs)
put_at false m f fs qs e l =
    ap (λ (q : List Frame). q ++ frames_to m fs) (queue_set_other qs f.receiver m (queue_at qs f.receiver ++ f ∷ []) (λ same. eqb-false f.receiver m e (sym same)))

pub posted_at : (me nodes m : ℕ) (fs : List Frame) (qs : List (List Frame)) → list_all (is_own me nodes) fs ≡ true → length qs ≡ nodes → queue_at (posted fs qs) m ≡ queue_at qs m ++ frames_to m fs
unfolding posted frames_to
posted_at me nodes m [] qs own size = sym (append_nil (queue_at qs m))
posted_at me nodes m (f ∷ fs) qs own size =
    let p = own_parts me nodes f fs own in
    posted_at me nodes m fs (set qs f.receiver (queue_at qs f.receiver ++ f ∷ [])) p.2 (length-set qs f.receiver (queue_at qs f.receiver ++ f ∷ []) ∙ size)
    ∙ put_at (nat_eq f.receiver m) m f fs qs refl (let l = p.1 in omega arith)

-- ---- how many wait

pub count_set : (qs : List (List Frame)) (n : ℕ) (q : List Frame) → n < length qs → count_queued (set qs n q) + length (queue_at qs n) ≡ count_queued qs + length q
unfolding count_queued queue_at or_no_frames
count_set [] n q l = absurd (omega arith)
count_set (p ∷ qs) zero q l = omega arith
count_set (p ∷ qs) (suc n) q l = let e = count_set qs n q (omega arith) in omega arith

pub count_posted : (me nodes : ℕ) (fs : List Frame) (qs : List (List Frame)) → list_all (is_own me nodes) fs ≡ true → length qs ≡ nodes → count_queued (posted fs qs) ≡ count_queued qs + length fs
unfolding posted
count_posted me nodes [] qs own size = omega arith
count_posted me nodes (f ∷ fs) qs own size =
    let p = own_parts me nodes f fs own in
    let put : List Frame = queue_at qs f.receiver ++ f ∷ [] in
    let more = count_posted me nodes fs (set qs f.receiver put) p.2 (length-set qs f.receiver put ∙ size) in
    let l = p.1 in
    let here = count_set qs f.receiver put (omega arith) in
    let one = length-append (queue_at qs f.receiver) (f ∷ []) in
    omega arith

pub none_queued : (qs : List (List Frame)) → ((n : ℕ) → queue_at qs n ≡ []) → count_queued qs ≡ 0
unfolding count_queued queue_at or_no_frames
none_queued [] none = refl
none_queued (q ∷ qs) none = let own : q ≡ [] = none 0 in let z = ap (λ (fs : List Frame). length fs) own in let more = none_queued qs (λ n. none (suc n)) in omega arith

-- ---- messages are taken off

pub taken_length : (n : ℕ) (e : Event) (qs : List (List Frame)) → length (taken_off n e qs) ≡ length qs
unfolding taken_off
taken_length n (event.Client call o) qs = refl
taken_length n (event.Arrive f) qs = length-set qs n (drop 1 (queue_at qs n))
taken_length n event.Retry qs = refl
taken_length n (event.Vacuum db) qs = refl
taken_length n (event.BeginRound t members) qs = refl
taken_length n (event.BeginTakeover able) qs = refl

pub taken_others : (n m : ℕ) (e : Event) (qs : List (List Frame)) → m ≢ n → queue_at (taken_off n e qs) m ≡ queue_at qs m
unfolding taken_off
taken_others n m (event.Client call o) qs ne = refl
taken_others n m (event.Arrive f) qs ne = queue_set_other qs n m (drop 1 (queue_at qs n)) ne
taken_others n m event.Retry qs ne = refl
taken_others n m (event.Vacuum db) qs ne = refl
taken_others n m (event.BeginRound t members) qs ne = refl
taken_others n m (event.BeginTakeover able) qs ne = refl

rest_of : (q : List Frame) (f : Frame) (rest : List Frame) → q ≡ f ∷ rest → drop 1 q ≡ rest
rest_of q f rest e = ap (λ (fs : List Frame). drop 1 fs) e

-- how many messages are taken off
pub count_taken : (n last : ℕ) (e : Event) (qs : List (List Frame)) → n < length qs → MayFollow n last qs e → count_queued (taken_off n e qs) + (if is_arrival e then 1 else 0) ≡ count_queued qs
unfolding taken_off MayFollow is_arrival
count_taken n last (event.Client call o) qs l may = omega arith
count_taken n last (event.Arrive f) qs l may =
    let here = count_set qs n (drop 1 (queue_at qs n)) l in
    let a = ap (λ (fs : List Frame). length fs) may.1 in
    let b = ap (λ (fs : List Frame). length fs) (rest_of (queue_at qs n) f may.0 may.1) in
    omega arith
count_taken n last event.Retry qs l may = omega arith
count_taken n last (event.Vacuum db) qs l may = omega arith
count_taken n last (event.BeginRound t members) qs l may = omega arith
count_taken n last (event.BeginTakeover able) qs l may = omega arith

-- ---- what was sent has arrived or waits

pub carries_more : (sent : List Frame) (a : ℕ) (w new : List Frame) → Carries sent a w → Carries (sent ++ new) a (w ++ new)
carries_more sent a w new h = record { front = h.front; count = h.count; all = ap (λ (fs : List Frame). fs ++ new) h.all ∙ append_assoc h.front w new }

carries_less : (sent : List Frame) (a : ℕ) (f : Frame) (w : List Frame) → Carries sent a (f ∷ w) → Carries sent (a + 1) w
carries_less sent a f w h = record {
  front = h.front ++ f ∷ [];
  count = (let l = length-append h.front (f ∷ []) in let c = h.count in omega arith);
  all = h.all ∙ sym (append_assoc h.front (f ∷ []) w);
}

carries_still : (sent : List Frame) (a : ℕ) (w : List Frame) → Carries sent a w → Carries sent (a + 0) w
carries_still sent a w h = record { front = h.front; count = (let c = h.count in omega arith); all = h.all }

one_taken : (b : Bool) (s a : ℕ) (f : Frame) (sent rest : List Frame) → nat_eq f.sender s ≡ b → Carries sent a (from_node s (f ∷ rest)) → Carries sent (a + (if b then 1 else 0)) (from_node s rest)
one_taken true s a f sent rest e h = carries_less sent a f (from_node s rest) (subst (λ (w : List Frame). Carries sent a w) (from_first s f rest e) h)
one_taken false s a f sent rest e h = carries_still sent a (from_node s rest) (subst (λ (w : List Frame). Carries sent a w) (from_skip s f rest e) h)

-- at the node to which the event comes
pub taken_carries : (n last s a : ℕ) (e : Event) (qs : List (List Frame)) (sent : List Frame) → n < length qs → MayFollow n last qs e → Carries sent a (from_node s (queue_at qs n)) →
    Carries sent (a + (if is_from s e then 1 else 0)) (from_node s (queue_at (taken_off n e qs) n))
unfolding taken_off MayFollow is_from
taken_carries n last s a (event.Client call o) qs sent l may h = carries_still sent a (from_node s (queue_at qs n)) h
taken_carries n last s a (event.Arrive f) qs sent l may h =
    subst (λ (q : List Frame). Carries sent (a + (if nat_eq f.sender s then 1 else 0)) (from_node s q)) (sym (queue_set_same qs n (drop 1 (queue_at qs n)) l ∙ rest_of (queue_at qs n) f may.0 may.1))
    (one_taken (nat_eq f.sender s) s a f sent may.0 refl (subst (λ (q : List Frame). Carries sent a (from_node s q)) may.1 h))
taken_carries n last s a event.Retry qs sent l may h = carries_still sent a (from_node s (queue_at qs n)) h
taken_carries n last s a (event.Vacuum db) qs sent l may h = carries_still sent a (from_node s (queue_at qs n)) h
taken_carries n last s a (event.BeginRound t members) qs sent l may h = carries_still sent a (from_node s (queue_at qs n)) h
taken_carries n last s a (event.BeginTakeover able) qs sent l may h = carries_still sent a (from_node s (queue_at qs n)) h
