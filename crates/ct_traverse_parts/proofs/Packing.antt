-- Rows that have their bytes in one place.
use Rattle.std.proofs.Common.{◌≡◌, ℕ, ◌+◌, ◌-◌, ◌<◌, ◌≤◌, List, [], ◌∷◌, ◌++◌, length, take, drop, refl, sym, ap, ap₂, ◌∙◌, subst, arith}
use Rattle.std.specs.Prelude.{get_or}
use Rattle.std.proofs.lemmas.List.{append_assoc, drop-drop, drop_at, take_at, length-drop, length-append, drop_more}
use Rattle.ct_frame.specs.declared.frame.TableRow.{TableRow}
use Rattle.ct_traverse_parts.specs.Packed.{packed}

-- a row that stands before others
here : (rows : List TableRow) (i : ℕ) (row : TableRow) → i < length rows → row ≡ get_or rows i row → drop i rows ≡ row ∷ drop (i + 1) rows
here rows i row l at = drop_more rows i row l ∙ ap (λ (r : TableRow). r ∷ drop (i + 1) rows) (sym at)

-- a part stands first, and what is behind it
behind : (all part more : List ℕ) (start : ℕ) → drop start all ≡ part ++ more → drop (start + length part) all ≡ more
behind all part more start is = sym (drop-drop (length part) start all) ∙ ap (drop (length part)) is ∙ drop_at part more (length part) refl

first : (all part more : List ℕ) (start : ℕ) → drop start all ≡ part ++ more → take (start + length part - start) (drop start all) ≡ part
first all part more start is =
    let long : start + length part - start ≡ length part = omega arith in
    ap (λ (n : ℕ). take n (drop start all)) long ∙ ap (take (length part)) is ∙ take_at part more (length part) refl

within : (all part more : List ℕ) (start : ℕ) → start ≤ length all → drop start all ≡ part ++ more → start + length part ≤ length all
within all part more start l is =
    let left : length all - start ≡ length part + length more = sym (length-drop start all) ∙ ap length is ∙ length-append part more in
    omega arith

-- the key and the value of a row whose bytes come next, and what comes then
pub record CutsRow (all : List ℕ) (start : ℕ) (row : TableRow) (k v : List ℕ) (more : List ℕ) : Type 0 where
  pub middle : start + length k ≤ length all
  pub end : start + length k + length v ≤ length all
  pub key : take (start + length k - start) (drop start all) ≡ row.key
  pub value : take (start + length k + length v - (start + length k)) (drop (start + length k) all) ≡ row.value
  pub rest : drop (start + length k + length v) all ≡ more

cuts : (all : List ℕ) (start : ℕ) (row : TableRow) (more : List ℕ) → start ≤ length all → drop start all ≡ row.key ++ (row.value ++ more) → CutsRow all start row row.key row.value more
cuts all start row more l is =
    let a = within all row.key (row.value ++ more) start l is in
    let b = behind all row.key (row.value ++ more) start is in
    record { middle = a; end = within all row.value more (start + length row.key) a b; key = first all row.key (row.value ++ more) start is; value = first all row.value more (start + length row.key) b; rest = behind all row.value more (start + length row.key) b }

pub cut_next : (all : List ℕ) (rows : List TableRow) (i start : ℕ) (row : TableRow) (k v : List ℕ) → i < length rows → row ≡ get_or rows i row → k ≡ row.key → v ≡ row.value → start ≤ length all → drop start all ≡ packed (drop i rows) → CutsRow all start row k v (packed (drop (i + 1) rows))
unfolding packed
cut_next all rows i start row k v l at same_key same_value within is =
    subst (λ (x : List ℕ). CutsRow all start row x v (packed (drop (i + 1) rows))) (sym same_key)
    (subst (λ (x : List ℕ). CutsRow all start row row.key x (packed (drop (i + 1) rows))) (sym same_value) (cuts all start row (packed (drop (i + 1) rows)) within (is ∙ ap packed (here rows i row l at))))

-- one row more was cut
pub cut_more : (rows list now : List TableRow) (i : ℕ) (row it : TableRow) → i < length rows → row ≡ get_or rows i row → now ≡ list ++ (it ∷ []) → it ≡ row → list ++ drop i rows ≡ rows → now ++ drop (i + 1) rows ≡ rows
cut_more rows list now i row it l at pushed is k =
    ap (λ (x : List TableRow). x ++ drop (i + 1) rows) (pushed ∙ ap (λ (r : TableRow). list ++ (r ∷ [])) is)
    ∙ append_assoc list (row ∷ []) (drop (i + 1) rows) ∙ ap (λ (x : List TableRow). list ++ x) (sym (here rows i row l at)) ∙ k

pub same_row : (row : TableRow) (key value : List ℕ) → key ≡ row.key → value ≡ row.value → record row { key = key; value = value } ≡ row
same_row row key value a b = ap₂ (λ (k v : List ℕ). record row { key = k; value = v }) a b
