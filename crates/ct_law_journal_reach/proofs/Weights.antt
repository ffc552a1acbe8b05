-- Entries of journals that are not too many stay below every limit.
use Rattle.std.proofs.Common.{◌≡◌, ◌≢◌, ℕ, zero, suc, ◌+◌, ◌^◌, ◌<◌, ◌≤◌, List, [], ◌∷◌, length, map, take, length-append, arith, refl, sym, ap, ◌∙◌, subst, ⊎_elim}
use Rattle.std.proofs.lemmas.Bool.{cases_eq, cases_lt}
use Rattle.ct_values.specs.declared.config.Config.{Config}
use Rattle.ct_journal.specs.Order.{all_entries, count_sent, entries_of, frames_in, or_no_entries}
use Rattle.ct_journal.specs.Schedules.{IsRenumbered, Noted, entry_under, made_at}
use Rattle.ct_journal.specs.declared.journal.Journal.{Journal}
use Rattle.ct_journal.specs.declared.journal.JournalEntry.{JournalEntry}
use Rattle.ct_journal.proofs.Computed.{not_made}
use Rattle.ct_law_journal_numbers.proofs.Runs.{sends_renumbered}
use Rattle.ct_law_journal_schedule.proofs.Fronts.{sent_both, weight}
use Rattle.ct_law_journal_schedule.proofs.Numbering.{made_own}
use Rattle.ct_law_journal_reach.specs.Counts.{AreNotTooMany}
use Rattle.ct_law_journal_reach.proofs.Told.{ArePlaced, sent_by}

-- ---- sums

-- the sum of these numbers, of so many
unfoldable total : ℕ → (ℕ → ℕ) → ℕ
total zero f = 0
total (suc k) f = f 0 + total k (λ i. f (suc i))

total_same : (k : ℕ) (f g : ℕ → ℕ) → ((m : ℕ) → g m ≡ f m) → total k g ≡ total k f
unfolding total
total_same zero f g h = refl
total_same (suc k) f g h = let a = h 0 in let b = total_same k (λ i. f (suc i)) (λ i. g (suc i)) (λ m. h (suc m)) in omega arith

total_most : (k : ℕ) (f g : ℕ → ℕ) → ((m : ℕ) → f m ≤ g m) → total k f ≤ total k g
unfolding total
total_most zero f g h = omega arith
total_most (suc k) f g h = let a = h 0 in let b = total_most k (λ i. f (suc i)) (λ i. g (suc i)) (λ m. h (suc m)) in omega arith

total_none : (k : ℕ) (f : ℕ → ℕ) → ((m : ℕ) → f m ≡ 0) → total k f ≡ 0
unfolding total
total_none zero f h = refl
total_none (suc k) f h = let a = h 0 in let b = total_none k (λ i. f (suc i)) (λ m. h (suc m)) in omega arith

total_more : (k n d : ℕ) (f g : ℕ → ℕ) → n < k → g n ≡ d + f n → ((m : ℕ) → m ≢ n → g m ≡ f m) → total k g ≡ d + total k f
unfolding total
total_more zero n d f g l own other = absurd (omega arith)
total_more (suc k) zero d f g l own other = let b = total_same k (λ i. f (suc i)) (λ i. g (suc i)) (λ m. other (suc m) (λ e. absurd (cc))) in omega arith
total_more (suc k) (suc n) d f g l own other =
    let a = other 0 (λ e. absurd (cc)) in
    let b = total_more k n d (λ i. f (suc i)) (λ i. g (suc i)) (omega arith) own (λ m ne. other (suc m) (λ e. ne (omega arith))) in
    omega arith

-- ---- entries

journals_total : (js : List Journal) → total (length js) (λ n. weight (entries_of js n)) ≡ weight (all_entries js)
unfolding total weight entries_of or_no_entries all_entries count_sent
journals_total [] = refl
journals_total (j ∷ js) = let r = journals_total js in let l = length-append j.entries (all_entries js) in let s = sent_both j.entries (all_entries js) in omega arith

placed_now : (c : Config) (y : Noted) (ys : List Noted) → ArePlaced c (y ∷ ys) → y.node < c.nodes
placed_now c y ys p = ⊎_elim
    (λ (l : y.node < c.nodes). l)
    (λ (g : c.nodes ≤ y.node). absurd (let none = p y.node g in let own = made_own y.node y ys refl in cc))
    (cases_lt y.node c.nodes)

placed_later : (c : Config) (y : Noted) (ys : List Noted) → ArePlaced c (y ∷ ys) → ArePlaced c ys
placed_later c y ys p n g = ⊎_elim
    (λ (e : y.node ≡ n). absurd (let l = placed_now c y ys p in omega arith))
    (λ (ne : y.node ≡ n → ⊥). sym (not_made n y ys ne) ∙ p n g)
    (cases_eq y.node n)

made_total : (c : Config) (ms : List Noted) → ArePlaced c ms → total c.nodes (λ n. weight (made_at n ms)) ≡ length ms + length (sent_by ms)
unfolding weight sent_by count_sent made_at
made_total c [] p = total_none c.nodes (λ n. weight []) (λ m. refl)
made_total c (y ∷ ys) p =
    let d : ℕ = 1 + length (frames_in y.entry.outs) in
    let r = made_total c ys (placed_later c y ys p) in
    let l = length-append (frames_in y.entry.outs) (sent_by ys) in
    let b = total_more c.nodes y.node d (λ n. weight (made_at n ys)) (λ n. weight (made_at n (y ∷ ys))) (placed_now c y ys p)
    (ap weight (made_own y.node y ys refl) ∙ omega arith)
    (λ m ne. ap weight (not_made m y ys (λ e. ne (sym e)))) in
    omega arith

weight_under : (f : ℕ → ℕ) (xs : List JournalEntry) → weight (map (entry_under f) xs) ≡ weight xs
unfolding weight count_sent entry_under
weight_under f [] = refl
weight_under f (x ∷ xs) = let r = weight_under f xs in let s = ap length (sends_renumbered f x.outs) in omega arith

weight_first : (k : ℕ) (xs : List JournalEntry) → weight (take k xs) ≤ weight xs
unfolding weight count_sent
weight_first zero xs = omega arith
weight_first (suc k) [] = omega arith
weight_first (suc k) (x ∷ xs) = let r = weight_first k xs in omega arith

-- Entries that are made of first entries of journals are few, and so are the messages that they sent
pub made_few : (c : Config) (js : List Journal) (ms : List Noted) (k : ℕ → ℕ) → AreNotTooMany js → length js ≡ c.nodes → ArePlaced c ms → ((n : ℕ) → IsRenumbered (take (k n) (entries_of js n)) (made_at n ms)) → length ms + length (sent_by ms) < 2 ^ 61
unfolding weight
made_few c js ms k few count placed r =
    let most = total_most c.nodes (λ n. weight (made_at n ms)) (λ n. weight (entries_of js n))
    (λ n. subst (λ (xs : List JournalEntry). weight xs ≤ weight (entries_of js n)) (r n).same (let u = weight_under (r n).number (take (k n) (entries_of js n)) in let f = weight_first (k n) (entries_of js n) in omega arith)) in
    let made = made_total c ms placed in
    let all : total c.nodes (λ n. weight (entries_of js n)) ≡ weight (all_entries js) = subst (λ (i : ℕ). total i (λ n. weight (entries_of js n)) ≡ weight (all_entries js)) count (journals_total js) in
    omega arith
