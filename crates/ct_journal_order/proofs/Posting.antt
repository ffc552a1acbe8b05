-- What is put for nodes journal by journal is, of each sender to each node, what the sender sends there.
use Rattle.std.proofs.Common.{◌≡◌, ◌≢◌, ℕ, zero, suc, ◌+◌, ◌<◌, ◌≤◌, Bool, true, false, nat_eq, if◌then◌else◌, List, [], ◌∷◌, ◌++◌, length, get_or, set, map, replicate, add-one, append-nil, append_assoc, length-set, arith, refl, sym, ap, ◌∙◌, subst}
use Rattle.std.specs.Prelude.{slice_set}
use Rattle.std.proofs.lemmas.Bool.{eqb-true, eqb-false}
use Rattle.std.proofs.lemmas.List.{get_or-replicate, get_or-set_other, length-replicate, set-get_or}
use Rattle.ct_frame.specs.declared.frame.Frame.{Frame}
use Rattle.ct_journal.specs.Order.{frames_in, frames_to}
use Rattle.ct_journal.specs.declared.journal.Journal.{Journal}
use Rattle.ct_journal.specs.declared.journal.JournalEntry.{JournalEntry}
use Rattle.ct_journal_order.specs.Letters.{AllLetters, Despatched, put_behind, despatched, letters_at, letters_of, put_letter, put_letters, put_all_letters, sent_by}

-- ---- behind the messages of one sender

added_none : (s : ℕ) (all : List (List Despatched)) → put_behind s [] all ≡ all
unfolding put_behind
added_none s all = ap (λ (ls : List Despatched). set all s ls) (append-nil (get_or all s [])) ∙ set-get_or all s []

added_more : (s : ℕ) (ls ms : List Despatched) (all : List (List Despatched)) → put_behind s ms (put_behind s ls all) ≡ put_behind s (ls ++ ms) all
unfolding put_behind
added_more s ls ms [] = refl
added_more zero ls ms (l ∷ all) = ap (λ (k : List Despatched). k ∷ all) (append_assoc l ls ms)
added_more (suc s) ls ms (l ∷ all) = ap (λ (k : List (List Despatched)). l ∷ k) (added_more s ls ms all)

-- ---- the messages to one node

added_here : (r s : ℕ) (ls : List Despatched) (rs : List (List (List Despatched))) → letters_at r (set rs r (put_behind s ls (letters_at r rs))) ≡ put_behind s ls (letters_at r rs)
unfolding put_behind letters_at
added_here r s ls [] = refl
added_here zero s ls (x ∷ rs) = refl
added_here (suc r) s ls (x ∷ rs) = added_here r s ls rs

posted_same : (n s : ℕ) (l : Despatched) (rs : List (List (List Despatched))) → l.frame.receiver ≡ n → letters_at n (put_letter s l rs) ≡ put_behind s (l ∷ []) (letters_at n rs)
unfolding put_letter
posted_same n s l rs e = subst (λ (k : ℕ). letters_at k (put_letter s l rs) ≡ put_behind s (l ∷ []) (letters_at k rs)) e (added_here l.frame.receiver s (l ∷ []) rs)

posted_other : (n s : ℕ) (l : Despatched) (rs : List (List (List Despatched))) → n ≢ l.frame.receiver → letters_at n (put_letter s l rs) ≡ letters_at n rs
unfolding put_letter letters_at
posted_other n s l rs ne = get_or-set_other rs l.frame.receiver n (put_behind s (l ∷ []) (letters_at l.frame.receiver rs)) [] ne

all_at : (n s c : ℕ) (fs : List Frame) (rs : List (List (List Despatched))) → letters_at n (put_letters s c fs rs) ≡ put_behind s (sent_by c (frames_to n fs)) (letters_at n rs)
unfolding put_letters frames_to
all_at n s c [] rs = sym (added_none s (letters_at n rs))
all_at n s c (f ∷ fs) rs = all_at n s c fs (put_letter s (record { frame = f; count = c }) rs) ∙ by (nat_eq f.receiver n) refl
  where
    by : (b : Bool) → nat_eq f.receiver n ≡ b → put_behind s (sent_by c (frames_to n fs)) (letters_at n (put_letter s (record { frame = f; count = c }) rs)) ≡ put_behind s (sent_by c (if b then f ∷ frames_to n fs else frames_to n fs)) (letters_at n rs)
    by true is =
        ap (λ (all : List (List Despatched)). put_behind s (sent_by c (frames_to n fs)) all) (posted_same n s (record { frame = f; count = c }) rs (eqb-true _ _ is))
        ∙ added_more s (record { frame = f; count = c } ∷ []) (sent_by c (frames_to n fs)) (letters_at n rs)
    by false is = ap (λ (all : List (List Despatched)). put_behind s (sent_by c (frames_to n fs)) all) (posted_other n s (record { frame = f; count = c }) rs (λ e. eqb-false _ _ is (sym e)))

entries_at : (n s c : ℕ) (xs : List JournalEntry) (rs : List (List (List Despatched))) → letters_at n (put_all_letters s c xs rs) ≡ put_behind s (despatched n c xs) (letters_at n rs)
unfolding put_all_letters
entries_at n s c [] rs = sym (added_none s (letters_at n rs))
entries_at n s c (x ∷ xs) rs =
    entries_at n s (c + 1) xs (put_letters s (c + 1) (frames_in x.outs) rs)
    ∙ (ap (λ (all : List (List Despatched)). put_behind s (despatched n (c + 1) xs) all) (all_at n s (c + 1) (frames_in x.outs) rs)
    ∙ added_more s (sent_by (c + 1) (frames_to n (frames_in x.outs))) (despatched n (c + 1) xs) (letters_at n rs))

all_count : (s c : ℕ) (fs : List Frame) (rs : List (List (List Despatched))) → length (put_letters s c fs rs) ≡ length rs
unfolding put_letters put_letter
all_count s c [] rs = refl
all_count s c (f ∷ fs) rs = all_count s c fs (put_letter s (record { frame = f; count = c }) rs) ∙ length-set rs f.receiver (put_behind s (record { frame = f; count = c } ∷ []) (letters_at f.receiver rs))

entries_count : (s c : ℕ) (xs : List JournalEntry) (rs : List (List (List Despatched))) → length (put_all_letters s c xs rs) ≡ length rs
unfolding put_all_letters
entries_count s c [] rs = refl
entries_count s c (x ∷ xs) rs = entries_count s (c + 1) xs (put_letters s (c + 1) (frames_in x.outs) rs) ∙ all_count s (c + 1) (frames_in x.outs) rs

-- ---- journal by journal

-- the messages to node n of each of the first so many journals, and none of the others
abbrev pub so_far : ℕ → ℕ → List Journal → List (List Despatched)
so_far n i [] = []
so_far n zero (j ∷ js) = [] ∷ so_far n zero js
so_far n (suc i) (j ∷ js) = letters_of n j ∷ so_far n i js

none_so_far : (n : ℕ) (js : List Journal) → replicate (length js) [] ≡ so_far n zero js
none_so_far n [] = refl
none_so_far n (j ∷ js) = ap (λ (ls : List (List Despatched)). [] ∷ ls) (none_so_far n js)

all_so_far : (n i : ℕ) (js : List Journal) → length js ≤ i → so_far n i js ≡ map (letters_of n) js
all_so_far n i [] l = refl
all_so_far n zero (j ∷ js) l = absurd (omega arith)
all_so_far n (suc i) (j ∷ js) l = ap (λ (ls : List (List Despatched)). letters_of n j ∷ ls) (all_so_far n i js (omega arith))

one_more : (n i : ℕ) (js : List Journal) (j : Journal) → i < length js → j ≡ get_or js i j → put_behind i (letters_of n j) (so_far n i js) ≡ so_far n (suc i) js
unfolding put_behind
one_more n i [] j l is = absurd (omega arith)
one_more n zero (k ∷ js) j l is = ap (λ (a : Journal). letters_of n a ∷ so_far n zero js) is
one_more n (suc i) (k ∷ js) j l is = ap (λ (ls : List (List Despatched)). letters_of n k ∷ ls) (one_more n i js j (omega arith) is)

-- to each of so many nodes there are the messages of the first so many journals
pub record SoFar (js : List Journal) (i : ℕ) (rs : List (List (List Despatched))) : Type 0 where
  pub count : length rs ≡ length js
  pub each : (n : ℕ) → n < length js → letters_at n rs ≡ so_far n i js

pub far_first : (js : List Journal) (k : ℕ) → k ≡ length js → SoFar js 0 (replicate k (replicate k []))
unfolding letters_at
far_first js k e = subst (λ (m : ℕ). SoFar js 0 (replicate m (replicate m []))) (sym e) (record {
  count = length-replicate (length js) (replicate (length js) []);
  each = λ n l. get_or-replicate (length js) n (replicate (length js) []) [] l ∙ none_so_far n js;
})

pub far_more : (js : List Journal) (i : ℕ) (j : Journal) (rs new : List (List (List Despatched))) → i < length js → j ≡ get_or js i j → new ≡ put_all_letters i 0 j.entries rs → SoFar js i rs → SoFar js (i + 1) new
far_more js i j rs new inside is e h = subst (λ (more : List (List (List Despatched))). SoFar js (i + 1) more) (sym e) (record {
  count = entries_count i 0 j.entries rs ∙ h.count;
  each = λ n l.
      entries_at n i 0 j.entries rs
      ∙ (ap (λ (all : List (List Despatched)). put_behind i (letters_of n j) all) (h.each n l)
      ∙ (one_more n i js j inside is ∙ ap (λ (m : ℕ). so_far n m js) (sym (add-one i))));
})

pub far_end : (js : List Journal) (i : ℕ) (rs : List (List (List Despatched))) → length js ≤ i → SoFar js i rs → AllLetters js rs
far_end js i rs le h = record { count = h.count; each = λ n l. h.each n l ∙ all_so_far n i js le }

-- ---- node by node

-- once the messages to a node are taken off, those to the nodes behind it are there still
pub rest_more : (js : List Journal) (rs new : List (List (List Despatched))) (k : ℕ) → new ≡ slice_set rs k [] → ((n : ℕ) → k ≤ n → n < length js → letters_at n rs ≡ map (letters_of n) js) → (n : ℕ) → k + 1 ≤ n → n < length js → letters_at n new ≡ map (letters_of n) js
unfolding letters_at
rest_more js rs new k e h n l m = subst (λ (more : List (List (List Despatched))). get_or more n [] ≡ map (letters_of n) js) (sym e) (get_or-set_other rs k n [] [] (λ (q : n ≡ k). absurd (omega arith)) ∙ h n (omega arith) m)
