-- What is kept of a key is the greatest of all rows that came for it.
use Rattle.std.proofs.Common.{◌⊎◌, ◌≡◌, ◌≢◌, ℕ, ◌<◌, ◌≤◌, Bool, true, false, cond, ◌||◌, List, [], ◌∷◌, ◌++◌, Option, None, Some, refl, sym, ap, ◌∙◌, ⊎_elim, inl, inr, arith, subst}
use Rattle.std.specs.Prelude.{◌&&◌, nat_lt, bytes_eq}
use Rattle.std.specs.List.{list_any}
use Rattle.std.proofs.lemmas.Bool.{cases_Bool, ltb-true, ltb-false, lt-ltb, le-ltb}
use Rattle.std.proofs.lemmas.List.{append-nil, append_assoc}
use Rattle.std.proofs.lemmas.List.Folds.{list_any-append}
use Rattle.std.proofs.lemmas.Slice.Eq.{bytes_eq-Decides}
use Rattle.ct_frame.specs.declared.frame.TableRow.{TableRow}
use Rattle.ct_store.specs.Map.{Pairs, look, write}
use Rattle.ct_store.proofs.Maps.{written, not_written}
use Rattle.ct_traverse_parts.specs.Best.{beats, row_from, merged, gathered}
use Rattle.ct_traverse_parts.specs.declared.best.Best.{Best}
use Rattle.ct_traverse_parts.specs.declared.line.Pass.{Pass}
use Rattle.ct_traverse_parts.specs.Kept.{Batch, kept_of, rows_for, all_for, IsSameRow, IsAmong, IsUnbeaten, IsBestOf, IsKeptOf, KeptIsUnbeaten, IsAboveAll, EntryIsAbove}

-- ---- who beats whom

-- of the same RSN a copy is ahead of an entry, and else the lower node
unfoldable Ahead : Bool → ℕ → Bool → ℕ → Type 0
Ahead true n true k = n < k
Ahead true n false k = ⊥
Ahead false n true k = Unit {0}
Ahead false n false k = n < k

abbrev Wins : ℕ → Bool → ℕ → ℕ → Bool → ℕ → Type 0
Wins r e n s f k = (s < r) ⊎ (r ≡ s) × Ahead e n f k

abbrev wins : ℕ → Bool → ℕ → ℕ → Bool → ℕ → Bool
wins r e n s f k = cond (nat_lt s r) true (cond (nat_lt r s) false (cond e (f && nat_lt n k) (f || nat_lt n k)))

ahead_says : (e f : Bool) (n k : ℕ) → cond e (f && nat_lt n k) (f || nat_lt n k) ≡ true → Ahead e n f k
unfolding Ahead
ahead_says true true n k t = ltb-true n k t
ahead_says true false n k t = absurd (cc)
ahead_says false true n k t = tt
ahead_says false false n k t = ltb-true n k t

ahead_wins : (e f : Bool) (n k : ℕ) → Ahead e n f k → cond e (f && nat_lt n k) (f || nat_lt n k) ≡ true
unfolding Ahead
ahead_wins true true n k a = lt-ltb n k a
ahead_wins true false n k a = absurd a
ahead_wins false true n k a = refl
ahead_wins false false n k a = lt-ltb n k a

wins_says : (r : ℕ) (e : Bool) (n s : ℕ) (f : Bool) (k : ℕ) → wins r e n s f k ≡ true → Wins r e n s f k
wins_says r e n s f k t = by (nat_lt s r) (nat_lt r s) refl refl t
  where
    by : (a b : Bool) → nat_lt s r ≡ a → nat_lt r s ≡ b → cond a true (cond b false (cond e (f && nat_lt n k) (f || nat_lt n k))) ≡ true → Wins r e n s f k
    by true b first second t = inl (ltb-true s r first)
    by false true first second t = absurd (cc)
    by false false first second t = inr ((let u = ltb-false s r first in let v = ltb-false r s second in omega arith), ahead_says e f n k t)

says_wins : (r : ℕ) (e : Bool) (n s : ℕ) (f : Bool) (k : ℕ) → Wins r e n s f k → wins r e n s f k ≡ true
says_wins r e n s f k w = ⊎_elim
    (λ (lt : s < r). ap (λ (b : Bool). cond b true (cond (nat_lt r s) false (cond e (f && nat_lt n k) (f || nat_lt n k)))) (lt-ltb s r lt))
    (λ (x : (r ≡ s) × Ahead e n f k).
    let same = x.0 in
    let first : nat_lt s r ≡ false = le-ltb s r (omega arith) in
    let second : nat_lt r s ≡ false = le-ltb r s (omega arith) in
    let third = ahead_wins e f n k x.1 in (λ i. cond (first i) true (cond (second i) false (third i))))
    w

ahead_then : (d : Bool) (m : ℕ) (e : Bool) (n : ℕ) (f : Bool) (k : ℕ) → Ahead d m e n → Ahead e n f k → Ahead d m f k
unfolding Ahead
ahead_then true m true n true k a b = omega arith
ahead_then true m true n false k a b = absurd b
ahead_then true m false n f k a b = absurd a
ahead_then false m true n true k a b = tt
ahead_then false m true n false k a b = absurd b
ahead_then false m false n true k a b = tt
ahead_then false m false n false k a b = omega arith

wins_then : (q : ℕ) (d : Bool) (m r : ℕ) (e : Bool) (n s : ℕ) (f : Bool) (k : ℕ) → Wins q d m r e n → Wins r e n s f k → Wins q d m s f k
wins_then q d m r e n s f k v w = ⊎_elim
    (λ (lt : r < q). ⊎_elim (λ (u : s < r). inl (omega arith)) (λ (x : (r ≡ s) × Ahead e n f k). inl (let u = x.0 in omega arith)) w)
    (λ (y : (q ≡ r) × Ahead d m e n). ⊎_elim (λ (u : s < r). inl (let o = y.0 in omega arith)) (λ (x : (r ≡ s) × Ahead e n f k). inr (y.0 ∙ x.0, ahead_then d m e n f k y.1 x.1)) w)
    v

-- who does not beat the one before does not beat the better one
wins_later : (q : ℕ) (d : Bool) (m r : ℕ) (e : Bool) (n s : ℕ) (f : Bool) (k : ℕ) → wins r e n s f k ≡ true → wins q d m s f k ≡ false → wins q d m r e n ≡ false
wins_later q d m r e n s f k better not = ⊎_elim
    (λ (t : wins q d m r e n ≡ true). absurd (let u = says_wins q d m s f k (wins_then q d m r e n s f k (wins_says q d m r e n t) (wins_says r e n s f k better)) in let v = sym u ∙ not in cc))
    (λ (g : wins q d m r e n ≡ false). g)
    (cases_Bool (wins q d m r e n))

ahead_itself : (e : Bool) (n : ℕ) → Ahead e n e n → ⊥
unfolding Ahead
ahead_itself true n a = absurd (omega arith)
ahead_itself false n a = absurd (omega arith)

wins_itself : (r : ℕ) (e : Bool) (n : ℕ) → wins r e n r e n ≡ false
wins_itself r e n = ⊎_elim
    (λ (t : wins r e n r e n ≡ true). absurd (⊎_elim (λ (lt : r < r). absurd (omega arith)) (λ (x : (r ≡ r) × Ahead e n e n). ahead_itself e n x.1) (wins_says r e n r e n t)))
    (λ (g : wins r e n r e n ≡ false). g)
    (cases_Bool (wins r e n r e n))

-- ---- what is kept, row by row

-- the better of both, and that an entry came
joined : Option Best → Best → Best
joined None x = record x { has_entry = x.of_entry || false }
joined (Some b) x = cond (beats x.rsn x.of_entry x.node b) (record x { has_entry = x.of_entry || b.has_entry }) (record b { has_entry = x.of_entry || b.has_entry })

all_joined : Option Best → List Best → Option Best
all_joined o [] = o
all_joined o (x ∷ xs) = all_joined (Some (joined o x)) xs

merged_is : (pass : Pass) (node : ℕ) (row : TableRow) (o : Option Best) → merged pass node row o ≡ joined o (row_from pass node row false)
unfolding joined
merged_is pass node row None = refl
merged_is pass node row (Some b) = refl

look_gathered : (key : List ℕ) (pass : Pass) (node : ℕ) (rows : List TableRow) (kept : Pairs Best) → look key (gathered pass node rows kept) ≡ all_joined (look key kept) (rows_for key pass node rows)
unfolding gathered rows_for all_joined
look_gathered key pass node [] kept = refl
look_gathered key pass node (row ∷ rows) kept =
    let new : Best = merged pass node row (look row.key kept) in
    let rest = rows_for key pass node rows in
    let mine = row_from pass node row false in
    look_gathered key pass node rows (write row.key new kept) ∙ ⊎_elim
    (λ (t : bytes_eq row.key key ≡ true).
    let is : row.key ≡ key = (bytes_eq-Decides row.key key).0 t in
    let there : look key (write row.key new kept) ≡ Some new = subst (λ (q : List ℕ). look q (write row.key new kept) ≡ Some new) is (written kept row.key new) in
    let so : new ≡ joined (look key kept) mine = merged_is pass node row (look row.key kept) ∙ ap (λ (q : List ℕ). joined (look q kept) mine) is in
    ap (λ (o : Option Best). all_joined o rest) (there ∙ ap (λ (b : Best). Some b) so) ∙ sym (ap (λ (b : Bool). all_joined (look key kept) (cond b (mine ∷ rest) rest)) t))
    (λ (f : bytes_eq row.key key ≡ false).
    let other : key ≢ row.key = (λ is. absurd (let t : bytes_eq row.key key ≡ true = (bytes_eq-Decides row.key key).1 (sym is) in cc)) in
    ap (λ (o : Option Best). all_joined o rest) (not_written kept row.key key new other) ∙ sym (ap (λ (b : Bool). all_joined (look key kept) (cond b (mine ∷ rest) rest)) f))
    (cases_Bool (bytes_eq row.key key))

joined_more : (o : Option Best) (xs ys : List Best) → all_joined o (xs ++ ys) ≡ all_joined (all_joined o xs) ys
unfolding all_joined
joined_more o [] ys = refl
joined_more o (x ∷ xs) ys = joined_more (Some (joined o x)) xs ys

look_kept : (key : List ℕ) (bs : List Batch) (kept : Pairs Best) → look key (kept_of bs kept) ≡ all_joined (look key kept) (all_for key bs)
unfolding kept_of all_for all_joined
look_kept key [] kept = refl
look_kept key (b ∷ bs) kept = look_kept key bs (gathered b.pass b.node b.rows kept)
    ∙ ap (λ (o : Option Best). all_joined o (all_for key bs)) (look_gathered key b.pass b.node b.rows kept) ∙ sym (joined_more (look key kept) (rows_for key b.pass b.node b.rows) (all_for key bs))

-- ---- it is the greatest

among_last : (best x : Best) (ys : List Best) → IsSameRow best x → IsAmong best (ys ++ x ∷ [])
unfolding IsAmong
among_last best x [] same = inl same
among_last best x (y ∷ ys) same = inr (among_last best x ys same)

among_first : (best : Best) (h : Bool) (x : Best) (ys : List Best) → IsAmong best ys → IsAmong (record best { has_entry = h }) (ys ++ x ∷ [])
unfolding IsAmong
among_first best h x [] a = absurd a
among_first best h x (y ∷ ys) a = ⊎_elim (λ (same : IsSameRow best y). inl same) (λ (rest : IsAmong best ys). inr (among_first best h x ys rest)) a

unbeaten_first : (best : Best) (h : Bool) (x : Best) (ys : List Best) → IsUnbeaten best ys → beats x.rsn x.of_entry x.node best ≡ false → IsUnbeaten (record best { has_entry = h }) (ys ++ x ∷ [])
unfolding IsUnbeaten
unbeaten_first best h x [] u f = (f, tt)
unbeaten_first best h x (y ∷ ys) u f = (u.0, unbeaten_first best h x ys u.1 f)

unbeaten_last : (best : Best) (h : Bool) (x : Best) (ys : List Best) → IsUnbeaten best ys → beats x.rsn x.of_entry x.node best ≡ true → IsUnbeaten (record x { has_entry = h }) (ys ++ x ∷ [])
unfolding IsUnbeaten
unbeaten_last best h x [] u t = (wins_itself x.rsn x.of_entry x.node, tt)
unbeaten_last best h x (y ∷ ys) u t = (wins_later y.rsn y.of_entry y.node x.rsn x.of_entry x.node best.rsn best.of_entry best.node t u.0, unbeaten_last best h x ys u.1 t)

turned : (a b : Bool) → (a || b) ≡ (b || (a || false))
turned true true = refl
turned true false = refl
turned false true = refl
turned false false = refl

entry_next : (x : Best) (h : Bool) (ys : List Best) → h ≡ list_any (λ (y : Best). y.of_entry) ys → (x.of_entry || h) ≡ list_any (λ (y : Best). y.of_entry) (ys ++ x ∷ [])
entry_next x h ys e = turned x.of_entry h ∙ ap (λ (b : Bool). b || (x.of_entry || false)) e ∙ sym (list_any-append (λ (y : Best). y.of_entry) ys (x ∷ []))

greatest_first : (x : Best) → IsBestOf (record x { has_entry = x.of_entry || false }) (x ∷ [])
unfolding IsAmong IsUnbeaten
greatest_first x = record { among = inl (refl, refl, refl, refl); unbeaten = (wins_itself x.rsn x.of_entry x.node, tt); entry = refl }

greatest_next : (o : Option Best) (ys : List Best) (x : Best) → IsKeptOf o ys → IsBestOf (joined o x) (ys ++ x ∷ [])
unfolding IsKeptOf joined
greatest_next None ys x none = subst (λ (l : List Best). IsBestOf (record x { has_entry = x.of_entry || false }) (l ++ x ∷ [])) (sym none) (greatest_first x)
greatest_next (Some b) ys x g = ⊎_elim
    (λ (t : beats x.rsn x.of_entry x.node b ≡ true). subst (λ (c : Bool). IsBestOf (cond c (record x { has_entry = x.of_entry || b.has_entry }) (record b { has_entry = x.of_entry || b.has_entry })) (ys ++ x ∷ [])) (sym t)
    (record { among = among_last (record x { has_entry = x.of_entry || b.has_entry }) x ys (refl, refl, refl, refl); unbeaten = unbeaten_last b (x.of_entry || b.has_entry) x ys g.unbeaten t; entry = entry_next x b.has_entry ys g.entry }))
    (λ (f : beats x.rsn x.of_entry x.node b ≡ false). subst (λ (c : Bool). IsBestOf (cond c (record x { has_entry = x.of_entry || b.has_entry }) (record b { has_entry = x.of_entry || b.has_entry })) (ys ++ x ∷ [])) (sym f)
    (record { among = among_first b (x.of_entry || b.has_entry) x ys g.among; unbeaten = unbeaten_first b (x.of_entry || b.has_entry) x ys g.unbeaten f; entry = entry_next x b.has_entry ys g.entry }))
    (cases_Bool (beats x.rsn x.of_entry x.node b))

greatest_all : (o : Option Best) (ys xs : List Best) → IsKeptOf o ys → IsKeptOf (all_joined o xs) (ys ++ xs)
unfolding all_joined IsKeptOf
greatest_all o ys [] k = subst (λ (l : List Best). IsKeptOf o l) (sym (append-nil ys)) k
greatest_all o ys (x ∷ xs) k =
    subst (λ (l : List Best). IsKeptOf (all_joined (Some (joined o x)) xs) l) (append_assoc ys (x ∷ []) xs) (greatest_all (Some (joined o x)) (ys ++ x ∷ []) xs (greatest_next o ys x k))

pub kept_is_unbeaten : KeptIsUnbeaten
unfolding IsKeptOf
kept_is_unbeaten batches key = subst (λ (o : Option Best). IsKeptOf o (all_for key batches)) (sym (look_kept key batches [])) (greatest_all None [] (all_for key batches) refl)

-- ---- what it means to be beaten by none

not_above : (q : ℕ) (d : Bool) (m r : ℕ) (e : Bool) (n : ℕ) → wins q d m r e n ≡ false → q ≤ r
not_above q d m r e n f = ⊎_elim
    (λ (t : nat_lt r q ≡ true). absurd (let u = says_wins q d m r e n (inl (ltb-true r q t)) in let v = sym u ∙ f in cc))
    (λ (g : nat_lt r q ≡ false). ltb-false r q g)
    (cases_Bool (nat_lt r q))

copy_below : (q m r n : ℕ) (d e : Bool) → e ≡ true → d ≡ false → wins q d m r e n ≡ false → q < r
unfolding Ahead
copy_below q m r n d true en is f = by d is f
  where
    by : (d : Bool) → d ≡ false → wins q d m r true n ≡ false → q < r
    by true is f = absurd (cc)
    by false is f = ⊎_elim
        (λ (t : nat_lt q r ≡ true). ltb-true q r t)
        (λ (g : nat_lt q r ≡ false). (let le = ltb-false q r g in let ge = not_above q false m r true n f in absurd (let u = says_wins q false m r true n (inr ((omega arith), tt)) in let v = sym u ∙ f in cc)))
        (cases_Bool (nat_lt q r))
copy_below q m r n d false en is f = absurd (cc)

above_all : (best : Best) (rows : List Best) → IsUnbeaten best rows → IsAboveAll best rows
unfolding IsUnbeaten IsAboveAll
above_all best [] u = tt
above_all best (x ∷ xs) u =
    (not_above x.rsn x.of_entry x.node best.rsn best.of_entry best.node u.0, (λ en is. copy_below x.rsn x.node best.rsn best.node x.of_entry best.of_entry en is u.0), above_all best xs u.1)

pub entry_is_above : EntryIsAbove
entry_is_above best rows g = above_all best rows g.unbeaten
