-- Journals that grow entry by entry are in order.
use Rattle.std.proofs.Common.{◌≡◌, ℕ, ◌+◌, ◌<◌, ⊎_elim, nat_eq, Bool, true, false, if◌then◌else◌, List, [], ◌∷◌, ◌++◌, length, take, Some, arith, refl, sym, ap, ◌∙◌, subst}
use Rattle.std.proofs.lemmas.Bool.{cases_eq, eqb-false}
use Rattle.std.proofs.lemmas.List.{length-append}
use Rattle.std.specs.Prelude.{slice_get}
use Rattle.std.specs.List.{list_all}
use Rattle.ct_frame.specs.declared.event.Event.{Event}
use Rattle.ct_frame.specs.declared.event.Event.TheVariants as event
use Rattle.ct_frame.specs.declared.frame.Frame.{Frame}
use Rattle.ct_journal.specs.Going.{IsWhole}
use Rattle.ct_journal.specs.Order.{Front, MayStand, Stand, all_entries, arrived_from, count_arrived, count_sent, entries_of, first_front, frames_in, frames_to, front_after, next_entry, past_of, sent_to, taken_of, ticket_after}
use Rattle.ct_journal.specs.declared.journal.Journal.{Journal}
use Rattle.ct_journal.specs.declared.journal.JournalEntry.{JournalEntry}
use Rattle.ct_journal.proofs.Ends.{size_after, taken_other, taken_own}
use Rattle.ct_law_journal_growing.specs.Growing.{Carries, IsUnderWay, MayFollow, count_queued, from_node, grown, is_own, posted, queue_at, taken_off}
use Rattle.ct_law_journal_growing.specs.GrowingLaws.{AllArrives, BeginsToGrow, CountsGrown, GoesOn, GrowsInOrder}
use Rattle.ct_law_journal_growing.proofs.Fronts.{first_below, first_none, first_places, first_same, first_ticket, grown_front, may_same, one_more, still_stand}
use Rattle.ct_law_journal_growing.proofs.Lists.{append_nil, arrived_one, got_after, grown_arrived, grown_count, grown_length, grown_other, grown_own, grown_sent, no_entries, sent_one, take_all}
use Rattle.ct_law_journal_growing.proofs.Queues.{carries_more, count_posted, count_taken, from_more, from_other, from_own, none_queued, posted_at, posted_length, taken_carries, taken_length, taken_others}

-- ---- at the beginning

nothing_sent : (n s : ℕ) (js : List Journal) (qs : List (List Frame)) → entries_of js s ≡ [] → entries_of js n ≡ [] → queue_at qs n ≡ [] → Carries (sent_to n (entries_of js s)) (arrived_from s (entries_of js n)) (from_node s (queue_at qs n))
unfolding sent_to arrived_from from_node
nothing_sent n s js qs a b c = record {
  front = [];
  count = sym (ap (λ (xs : List JournalEntry). arrived_from s xs) b);
  all = ap (λ (xs : List JournalEntry). sent_to n xs) a ∙ sym (ap (λ (fs : List Frame). from_node s fs) c);
}

none_counted : (js : List Journal) → all_entries js ≡ [] → (count_sent (all_entries js) ≡ 0) × (count_arrived (all_entries js) ≡ 0)
unfolding count_sent count_arrived
none_counted js e = (ap (λ (xs : List JournalEntry). count_sent xs) e, ap (λ (xs : List JournalEntry). count_arrived xs) e)

stands_first : (js : List Journal) → Stand js (first_front js) [] (first_front js)
unfolding Stand
stands_first js = refl

pub begins : BeginsToGrow
begins js qs empty none size = record {
  order = [];
  end = first_front js;
  stand = stands_first js;
  whole = λ n. (let z = first_none js n in let e = ap (λ (xs : List JournalEntry). length xs) (empty n) in omega arith);
  ticket = first_ticket js;
  places = first_places js;
  queues = size;
  carried = λ n s. nothing_sent n s js qs (empty s) (empty n) (none n);
  counted = (let c = none_counted js (no_entries js empty) in let q = none_queued qs none in omega (arith, c.0, c.1));
}

-- ---- the entry that comes may stand

past_whole : (js : List Journal) (f : Front) (n : ℕ) → IsWhole js f → past_of js f n ≡ entries_of js n
unfolding past_of
past_whole js f n whole = ap (λ (k : ℕ). take k (entries_of js n)) (whole n) ∙ take_all (entries_of js n)

same_node : (n : ℕ) → nat_eq n n ≡ true
same_node n = by (nat_eq n n) refl
  where
    by : (b : Bool) → nat_eq n n ≡ b → b ≡ true
    by true e = refl
    by false e = absurd (eqb-false n n e refl)

from_head : (m : Frame) (rest : List Frame) → from_node m.sender (m ∷ rest) ≡ m ∷ from_node m.sender rest
unfolding from_node
from_head m rest = ap (λ (b : Bool). if b then m ∷ from_node m.sender rest else from_node m.sender rest) (same_node m.sender)

first_carried : (sent : List Frame) (a : ℕ) (m : Frame) (rest : List Frame) → Carries sent a (from_node m.sender (m ∷ rest)) → slice_get sent a ≡ Some m
first_carried sent a m rest h =
    let all : sent ≡ h.front ++ m ∷ from_node m.sender rest = h.all ∙ ap (λ (fs : List Frame). h.front ++ fs) (from_head m rest) in
    subst (λ (k : ℕ). slice_get sent k ≡ Some m) h.count
    (subst (λ (fs : List Frame). slice_get fs (length h.front) ≡ Some m) (sym all) (got_after h.front m (from_node m.sender rest)))

may_stand : (js : List Journal) (qs : List (List Frame)) (last n : ℕ) (e : Event) (u : IsUnderWay js qs last) → MayFollow n last qs e → MayStand js u.end n e
unfolding MayStand MayFollow
may_stand js qs last n (event.Client call o) u may = tt
may_stand js qs last n (event.Arrive m) u may =
    let got : slice_get (sent_to n (entries_of js m.sender)) (arrived_from m.sender (entries_of js n)) ≡ Some m =
    first_carried (sent_to n (entries_of js m.sender)) (arrived_from m.sender (entries_of js n)) m may.0
    (subst (λ (q : List Frame). Carries (sent_to n (entries_of js m.sender)) (arrived_from m.sender (entries_of js n)) (from_node m.sender q)) may.1 (u.carried n m.sender)) in
    subst (λ (xs : List JournalEntry). slice_get (sent_to n xs) (arrived_from m.sender (past_of js u.end n)) ≡ Some m) (sym (past_whole js u.end m.sender u.whole))
    (subst (λ (xs : List JournalEntry). slice_get (sent_to n (entries_of js m.sender)) (arrived_from m.sender xs) ≡ Some m) (sym (past_whole js u.end n u.whole)) got)
may_stand js qs last n event.Retry u may = may
may_stand js qs last n (event.Vacuum db) u may = may
may_stand js qs last n (event.BeginRound t members) u may = (may.0 ∙ ap (λ (k : ℕ). k + 1) (sym u.ticket), may.1)
may_stand js qs last n (event.BeginTakeover able) u may = may

-- ---- the list with it

grown_next : (js : List Journal) (f : Front) (n : ℕ) (x : JournalEntry) → IsWhole js f → n < length js → next_entry (grown n x js) f n ≡ Some x
unfolding next_entry
grown_next js f n x whole l =
    subst (λ (xs : List JournalEntry). slice_get xs (taken_of f n) ≡ Some x) (sym (grown_own n x js l))
    (subst (λ (k : ℕ). slice_get (entries_of js n ++ x ∷ []) k ≡ Some x) (sym (whole n)) (got_after (entries_of js n) x []))

may_grown : (js : List Journal) (f : Front) (n m : ℕ) (x : JournalEntry) (e : Event) → n < length js → IsWhole js f → MayStand js f m e → MayStand (grown n x js) f m e
may_grown js f n m x e l whole may = may_same js (grown n x js) f m e (grown_front n x js l) (λ k. (let w = whole k in omega arith)) may

whole_grown : (js : List Journal) (f : Front) (n : ℕ) (x : JournalEntry) → n < length js → length f.taken ≡ length js → IsWhole js f → IsWhole (grown n x js) (front_after n x.event f)
whole_grown js f n x l size whole m = ⊎_elim
    (λ (same : m ≡ n). subst (λ (k : ℕ). taken_of (front_after n x.event f) k ≡ length (entries_of (grown n x js) k)) (sym same) (
    let o = taken_own f n x.event (omega arith) in
    let w = whole n in
    let g = ap (λ (xs : List JournalEntry). length xs) (grown_own n x js l) in
    let a = length-append (entries_of js n) (x ∷ []) in
    omega arith))
    (λ (ne : m ≡ n → ⊥). (
    let o = taken_other f n m x.event ne in
    let w = whole m in
    let g = ap (λ (xs : List JournalEntry). length xs) (grown_other n m x js ne) in
    omega arith))
    (cases_eq m n)

stand_grown : (js : List Journal) (ns : List ℕ) (g : Front) (n : ℕ) (x : JournalEntry) → n < length js → IsWhole js g → Stand js (first_front js) ns g → MayStand js g n x.event →
    Stand (grown n x js) (first_front (grown n x js)) (ns ++ n ∷ []) (front_after n x.event g)
stand_grown js ns g n x l whole s may =
    subst (λ (f : Front). Stand (grown n x js) f (ns ++ n ∷ []) (front_after n x.event g)) (sym (first_same js (grown n x js) (grown_length n x js)))
    (one_more (grown n x js) ns (first_front js) g n x (still_stand js (grown n x js) ns (first_front js) g (grown_front n x js l) (first_below js) (first_places js) s) (grown_next js g n x whole l) (may_grown js g n n x x.event l whole may))

ticket_grown : (f : Front) (n last : ℕ) (e : Event) → f.ticket ≡ last → (front_after n e f).ticket ≡ ticket_after e last
unfolding front_after
ticket_grown f n last e is = ap (λ (k : ℕ). ticket_after e k) is

-- ---- what is carried

-- what has arrived once the event has come, and what waits then
arrived_grown : (js : List Journal) (qs : List (List Frame)) (last n : ℕ) (x : JournalEntry) → IsUnderWay js qs last → n < length js → MayFollow n last qs x.event → (m s : ℕ) →
    Carries (sent_to m (entries_of js s)) (arrived_from s (entries_of (grown n x js) m)) (from_node s (queue_at (taken_off n x.event qs) m))
arrived_grown js qs last n x u l may m s = let size = u.queues in ⊎_elim
    (λ (same : m ≡ n). subst (λ (k : ℕ). Carries (sent_to k (entries_of js s)) (arrived_from s (entries_of (grown n x js) k)) (from_node s (queue_at (taken_off n x.event qs) k))) (sym same)
    (subst (λ (a : ℕ). Carries (sent_to n (entries_of js s)) a (from_node s (queue_at (taken_off n x.event qs) n)))
    (sym (ap (λ (xs : List JournalEntry). arrived_from s xs) (grown_own n x js l) ∙ arrived_one s (entries_of js n) x))
    (taken_carries n last s (arrived_from s (entries_of js n)) x.event qs (sent_to n (entries_of js s)) (omega arith) may (u.carried n s))))
    (λ (ne : m ≡ n → ⊥).
    subst (λ (xs : List JournalEntry). Carries (sent_to m (entries_of js s)) (arrived_from s xs) (from_node s (queue_at (taken_off n x.event qs) m))) (sym (grown_other n m x js ne))
    (subst (λ (q : List Frame). Carries (sent_to m (entries_of js s)) (arrived_from s (entries_of js m)) (from_node s q)) (sym (taken_others n m x.event qs ne)) (u.carried m s)))
    (cases_eq m n)

-- what node n sends, to node m, of that which comes from node s
own_sent : (js : List Journal) (n m : ℕ) (x : JournalEntry) → n < length js → sent_to m (entries_of (grown n x js) n) ≡ sent_to m (entries_of js n) ++ frames_to m (frames_in x.outs)
own_sent js n m x l = ap (λ (xs : List JournalEntry). sent_to m xs) (grown_own n x js l) ∙ sent_one m (entries_of js n) x

all_carried : (js : List Journal) (qs : List (List Frame)) (last n : ℕ) (x : JournalEntry) → IsUnderWay js qs last → n < length js → MayFollow n last qs x.event →
    list_all (is_own n (length js)) (frames_in x.outs) ≡ true → (m s : ℕ) →
    Carries (sent_to m (entries_of (grown n x js) s)) (arrived_from s (entries_of (grown n x js) m)) (from_node s (queue_at (posted (frames_in x.outs) (taken_off n x.event qs)) m))
all_carried js qs last n x u l may own m s =
    let fs : List Frame = frames_in x.outs in
    let left : List (List Frame) = taken_off n x.event qs in
    let put : queue_at (posted fs left) m ≡ queue_at left m ++ frames_to m fs = posted_at n (length js) m fs left own (taken_length n x.event qs ∙ u.queues) in
    let waits : from_node s (queue_at (posted fs left) m) ≡ from_node s (queue_at left m) ++ from_node s (frames_to m fs) =
    ap (λ (q : List Frame). from_node s q) put ∙ from_more s (queue_at left m) (frames_to m fs) in
    let old = arrived_grown js qs last n x u l may m s in
    let a : ℕ = arrived_from s (entries_of (grown n x js) m) in
    subst (λ (w : List Frame). Carries (sent_to m (entries_of (grown n x js) s)) a w) (sym waits)
    (⊎_elim
    (λ (same : s ≡ n).
    subst (λ (w : List Frame). Carries (sent_to m (entries_of (grown n x js) s)) a (from_node s (queue_at left m) ++ w)) (sym (subst (λ (k : ℕ). from_node k (frames_to m fs) ≡ frames_to m fs) (sym same) (from_own n (length js) m fs own)))
    (subst (λ (sent : List Frame). Carries sent a (from_node s (queue_at left m) ++ frames_to m fs))
    (sym (subst (λ (k : ℕ). sent_to m (entries_of (grown n x js) k) ≡ sent_to m (entries_of js k) ++ frames_to m fs) (sym same) (own_sent js n m x l)))
    (carries_more (sent_to m (entries_of js s)) a (from_node s (queue_at left m)) (frames_to m fs) old)))
    (λ (ne : s ≡ n → ⊥).
    subst (λ (w : List Frame). Carries (sent_to m (entries_of (grown n x js) s)) a w) (sym (ap (λ (w : List Frame). from_node s (queue_at left m) ++ w) (from_other s n (length js) m fs ne own) ∙ append_nil (from_node s (queue_at left m))))
    (subst (λ (xs : List JournalEntry). Carries (sent_to m xs) a (from_node s (queue_at left m))) (sym (grown_other n s x js ne)) old))
    (cases_eq s n))

-- ---- the whole

counted_grown : (js : List Journal) (qs : List (List Frame)) (last n : ℕ) (x : JournalEntry) → IsUnderWay js qs last → n < length js → MayFollow n last qs x.event → list_all (is_own n (length js)) (frames_in x.outs) ≡ true →
    count_sent (all_entries (grown n x js)) ≡ count_arrived (all_entries (grown n x js)) + count_queued (posted (frames_in x.outs) (taken_off n x.event qs))
counted_grown js qs last n x u l may own =
    let size = u.queues in
    let a = grown_sent n x js l in
    let b = grown_arrived n x js l in
    let c = count_posted n (length js) (frames_in x.outs) (taken_off n x.event qs) own (taken_length n x.event qs ∙ u.queues) in
    let d = count_taken n last x.event qs (omega arith) may in
    let e = u.counted in
    omega arith

pub goes_on : GoesOn
goes_on js qs last n x u l may own = record {
  order = u.order ++ n ∷ [];
  end = front_after n x.event u.end;
  stand = stand_grown js u.order u.end n x l u.whole u.stand (may_stand js qs last n x.event u may);
  whole = whole_grown js u.end n x l u.places u.whole;
  ticket = ticket_grown u.end n last x.event u.ticket;
  places = size_after u.end n x.event ∙ u.places ∙ sym (grown_length n x js);
  queues = posted_length (frames_in x.outs) (taken_off n x.event qs) ∙ taken_length n x.event qs ∙ u.queues ∙ sym (grown_length n x js);
  carried = all_carried js qs last n x u l may own;
  counted = counted_grown js qs last n x u l may own;
}

pub grows_in_order : GrowsInOrder
grows_in_order js qs last u rise few = record { order = u.order; end = u.end; stand = u.stand; whole = u.whole; calls = rise; few = few }

pub all_arrives : AllArrives
all_arrives js qs last u none = let z = none_queued qs none in let c = u.counted in omega arith

pub counts_grown : CountsGrown
counts_grown js n x l = let a = grown_count n x js l in let b = grown_sent n x js l in omega arith
