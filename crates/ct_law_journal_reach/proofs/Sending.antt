-- Which messages were sent: those that the entries of nodes sent.
use Rattle.std.proofs.Common.{◌≡◌, ℕ, zero, suc, ◌≤◌, true, List, [], ◌∷◌, ◌++◌, map, take, Some, arith, refl, sym, ap, subst, ⊎_elim, ◌⊎◌, inl, inr}
use Rattle.std.proofs.lemmas.Bool.{cases_eq, and_parts}
use Rattle.std.specs.List.{list_all}
use Rattle.std.specs.Prelude.{slice_get}
use Rattle.ct_frame.specs.declared.frame.Frame.{Frame}
use Rattle.ct_rules_cluster.specs.Cluster.{Cluster, Sent, sent_at}
use Rattle.ct_journal.specs.Order.{frames_in}
use Rattle.ct_journal.specs.Schedules.{Noted, entry_under, made_at}
use Rattle.ct_journal.specs.declared.journal.JournalEntry.{JournalEntry}
use Rattle.ct_journal.proofs.Computed.{not_made}
use Rattle.ct_law_journal_numbers.proofs.Runs.{sends_renumbered}
use Rattle.ct_law_journal_schedule.proofs.Numbering.{made_own}
use Rattle.ct_law_journal_reach.specs.Making.{is_not_dropped}
use Rattle.ct_law_journal_reach.proofs.Steps.{frames}
use Rattle.ct_law_journal_reach.proofs.Told.{sent_by}

-- the message is among these
unfoldable pub Has : Frame → List Frame → Type 0
Has m [] = ⊥
Has m (f ∷ fs) = (f ≡ m) ⊎ (Has m fs)

-- the messages that these entries sent
unfoldable pub sent_in : List JournalEntry → List Frame
sent_in [] = []
sent_in (x ∷ xs) = frames_in x.outs ++ sent_in xs

has_left : (m : Frame) (fs gs : List Frame) → Has m fs → Has m (fs ++ gs)
unfolding Has
has_left m [] gs h = absurd h
has_left m (f ∷ fs) gs h = ⊎_elim (λ (e : f ≡ m). inl e) (λ (l : Has m fs). inr (has_left m fs gs l)) h

has_right : (m : Frame) (fs gs : List Frame) → Has m gs → Has m (fs ++ gs)
unfolding Has
has_right m [] gs h = h
has_right m (f ∷ fs) gs h = inr (has_right m fs gs h)

has_cases : (m : Frame) (fs gs : List Frame) → Has m (fs ++ gs) → (Has m fs) ⊎ (Has m gs)
unfolding Has
has_cases m [] gs h = inr h
has_cases m (f ∷ fs) gs h = ⊎_elim
    (λ (e : f ≡ m). inl (inl e))
    (λ (l : Has m (fs ++ gs)). ⊎_elim (λ (a : Has m fs). inl (inr a)) (λ (b : Has m gs). inr b) (has_cases m fs gs l))
    h

-- ---- of one node, and of all

pub sent_at_one : (m : Frame) (ms : List Noted) → Has m (sent_by ms) → (n : ℕ) × (Has m (sent_in (made_at n ms)))
unfolding Has sent_by sent_in made_at
sent_at_one m [] h = absurd h
sent_at_one m (y ∷ ys) h = ⊎_elim
    (λ (now : Has m (frames_in y.entry.outs)). (y.node, subst (λ (xs : List JournalEntry). Has m (sent_in xs)) (sym (made_own y.node y ys refl)) (has_left m (frames_in y.entry.outs) (sent_in (made_at y.node ys)) now)))
    (λ (later : Has m (sent_by ys)). (
    let l = sent_at_one m ys later in (
      l.0,
      ⊎_elim
          (λ (same : y.node ≡ l.0). subst (λ (xs : List JournalEntry). Has m (sent_in xs)) (sym (made_own l.0 y ys same)) (has_right m (frames_in y.entry.outs) (sent_in (made_at l.0 ys)) l.1))
          (λ (ne : y.node ≡ l.0 → ⊥). subst (λ (xs : List JournalEntry). Has m (sent_in xs)) (sym (not_made l.0 y ys ne)) l.1)
          (cases_eq y.node l.0),
    )))
    (has_cases m (frames_in y.entry.outs) (sent_by ys) h)

pub sent_of_one : (m : Frame) (n : ℕ) (ms : List Noted) → Has m (sent_in (made_at n ms)) → Has m (sent_by ms)
unfolding Has sent_by sent_in made_at
sent_of_one m n [] h = h
sent_of_one m n (y ∷ ys) h = ⊎_elim
    (λ (same : y.node ≡ n). ⊎_elim
    (λ (now : Has m (frames_in y.entry.outs)). has_left m (frames_in y.entry.outs) (sent_by ys) now)
    (λ (later : Has m (sent_in (made_at n ys))). has_right m (frames_in y.entry.outs) (sent_by ys) (sent_of_one m n ys later))
    (has_cases m (frames_in y.entry.outs) (sent_in (made_at n ys)) (subst (λ (xs : List JournalEntry). Has m (sent_in xs)) (made_own n y ys same) h)))
    (λ (ne : y.node ≡ n → ⊥). has_right m (frames_in y.entry.outs) (sent_by ys) (sent_of_one m n ys (subst (λ (xs : List JournalEntry). Has m (sent_in xs)) (not_made n y ys ne) h)))
    (cases_eq y.node n)

-- messages have no numbers of calls
pub sent_under : (f : ℕ → ℕ) (xs : List JournalEntry) → sent_in (map (entry_under f) xs) ≡ sent_in xs
unfolding sent_in entry_under
sent_under f [] = refl
sent_under f (x ∷ xs) = λ i. sends_renumbered f x.outs i ++ sent_under f xs i

pub sent_first : (m : Frame) (k l : ℕ) (xs : List JournalEntry) → k ≤ l → Has m (sent_in (take k xs)) → Has m (sent_in (take l xs))
unfolding Has sent_in
sent_first m zero l xs le h = absurd h
sent_first m (suc k) zero xs le h = absurd (omega arith)
sent_first m (suc k) (suc l) [] le h = h
sent_first m (suc k) (suc l) (x ∷ xs) le h = ⊎_elim
    (λ (now : Has m (frames_in x.outs)). has_left m (frames_in x.outs) (sent_in (take l xs)) now)
    (λ (later : Has m (sent_in (take k xs))). has_right m (frames_in x.outs) (sent_in (take l xs)) (sent_first m k l xs (omega arith) later))
    (has_cases m (frames_in x.outs) (sent_in (take k xs)) h)

-- ---- in the cluster

got_has : (ss : List Sent) (k : ℕ) (s : Sent) → slice_get ss k ≡ Some s → Has s.frame (frames ss)
unfolding Has
got_has [] k s e = absurd (cc)
got_has (y ∷ ys) zero s e = inl (let same : y ≡ s = cc in ap (λ (z : Sent). z.frame) same)
got_has (y ∷ ys) (suc k) s e = inr (got_has ys k s e)

pub sent_has : (w : Cluster) (k : ℕ) (s : Sent) → sent_at k w ≡ Some s → Has s.frame (frames w.sent)
unfolding sent_at
sent_has w zero s e = absurd (cc)
sent_has w (suc k) s e = got_has w.sent k s e

-- a message that was sent, none of which was dropped
pub record Kept (w : Cluster) (m : Frame) : Type 0 where
  pub number : ℕ
  pub sent : Sent
  pub is : sent_at number w ≡ Some sent
  pub frame : sent.frame ≡ m
  pub kept : is_not_dropped sent.fate ≡ true

has_got : (ss : List Sent) (m : Frame) → list_all (λ (s : Sent). is_not_dropped s.fate) ss ≡ true → Has m (frames ss) → (k : ℕ) × (s : Sent) × (slice_get ss k ≡ Some s) × (s.frame ≡ m) × (is_not_dropped s.fate ≡ true)
unfolding Has
has_got [] m all h = absurd h
has_got (y ∷ ys) m all h =
    let p = and_parts (is_not_dropped y.fate) (list_all (λ (s : Sent). is_not_dropped s.fate) ys) all in
    ⊎_elim
    (λ (e : y.frame ≡ m). (0, y, refl, e, p.0))
    (λ (l : Has m (frames ys)). (let r = has_got ys m p.1 l in (suc r.0, r.1, r.2, r.3, r.4)))
    h

pub has_sent : (w : Cluster) (m : Frame) → list_all (λ (s : Sent). is_not_dropped s.fate) w.sent ≡ true → Has m (frames w.sent) → Kept w m
unfolding sent_at
has_sent w m all h = let r = has_got w.sent m all h in record { number = suc r.0; sent = r.1; is = r.2; frame = r.3; kept = r.4 }
