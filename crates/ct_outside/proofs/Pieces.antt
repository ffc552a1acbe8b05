-- Bytes that are read or written piece by piece.
use Rattle.std.proofs.Common.{◌≡◌, ℕ, ◌+◌, ◌-◌, ◌<◌, min, List, [], ◌++◌, length, take, drop, Option, Result, Ok, Err, OnErr, sym, ap, subst, ◌∙◌, arith, length-take, length-drop, length-append}
use Rattle.std.proofs.Math.Seq.{take-add, take-append_seam}
use Rattle.std.proofs.lemmas.List.{take-append-drop, take_rest, nil_from_length}
use Rattle.std.specs.Io.KnownBytes.{Appends, Keeps}
use Rattle.std.proofs.KnownBytes.{Appends-trans, Appends-kept}
use Rattle.ct_outside.specs.Causes.{AppendsPart}

pub on_err : {T E : Type 0} (r : Result T E) (P : Type 0) → P → OnErr r P
on_err (Ok x) P p = tt
on_err (Err e) P p = p

taken_more : (xs : List ℕ) (i n : ℕ) → take (i + n) xs ≡ take i xs ++ take n (take (length xs - i) (drop i xs))
taken_more xs i n = take-add i n xs ∙ ap (λ ys. take i xs ++ take n ys) (sym (take_rest xs i))

-- one more piece of xs is appended
pub piece_appended : (a b c : Option (List ℕ)) (xs : List ℕ) (i n : ℕ) → Appends a b (take i xs) → Appends b c (take n (take (length xs - i) (drop i xs))) → Appends a c (take (i + n) xs)
piece_appended a b c xs i n p q = subst (Appends a c) (sym (taken_more xs i n)) (Appends-trans a b c _ _ p q)

-- the next piece of xs is refused
pub piece_refused : (a b c : Option (List ℕ)) (xs : List ℕ) (i : ℕ) → Appends a b (take i xs) → Keeps b c → AppendsPart a c xs
piece_refused a b c xs i p k = (take i xs, drop i xs, sym (take-append-drop i xs), Appends-kept a b c _ p k)

-- what a read copies to the front of a buffer is the front of what was left
pub front_copied : (left before copied rest : List ℕ) (n : ℕ) → n ≡ min (length before) (length left) → copied ≡ take n left → rest ≡ drop n left → left ≡ take n (copied ++ drop n before) ++ rest
front_copied left before copied rest n least c r =
    let len : n ≡ length copied = omega (arith, ap length c, length-take n left) in
    let front : take n (copied ++ drop n before) ≡ copied = subst (λ k. take k (copied ++ drop n before) ≡ copied) (sym len) (take-append_seam copied (drop n before)) in
    sym (take-append-drop n left) ∙ ap (λ l. l ++ drop n left) (sym c) ∙ ap (λ l. l ++ drop n left) (sym front) ∙ ap (λ l. take n (copied ++ drop n before) ++ l) (sym r)

-- nothing is copied to a buffer that has room only where nothing was left
pub none_copied : (left before copied rest : List ℕ) (n : ℕ) → n ≡ min (length before) (length left) → copied ≡ take n left → rest ≡ drop n left → n ≡ 0 → 0 < length (copied ++ drop n before) → rest ≡ []
none_copied left before copied rest n least c r none room =
    nil_from_length rest (omega (arith, ap length c, ap length r, length-take n left, length-drop n left, length-append copied (drop n before), length-drop n before))
