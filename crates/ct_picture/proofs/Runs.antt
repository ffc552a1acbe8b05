-- Runs that are read line by line.
use Rattle.std.proofs.Common.{◌≡◌, ℕ, ◌+◌, ◌-◌, ◌≤◌, ◌==◌, List, [], ◌∷◌, ◌++◌, length, map, take, Option, None, Some, Result, Ok, Err, Vec, refl, sym, ap, subst, ◌∙◌, append_assoc, arith}
use Rattle.std.specs.List.{count_by, slice_split}
use Rattle.std.proofs.lemmas.List.{length-map, length-take, take-map}
use Rattle.std.proofs.lemmas.List.Splits.{length-slice_split}
use Rattle.std.proofs.lemmas.List.Sums.{count_by-le-length}
use Rattle.ct_picture.specs.declared.row.Row.{Row}
use Rattle.std.specs.declared.alloc.Global.{Global}
use Rattle.ct_picture.specs.declared.reading.RunFault.{RunFault}
use Rattle.ct_picture.specs.Rows.{row_of, word_at}
use Rattle.ct_picture.specs.Reading.{ReadsRun, Run, at_end, behind, lines_of, parts_of, rest_of, run_from, run_in, run_of, with_row}

-- a row more
behind_one : (done : List Row) (row : Row) (later : Run) → behind done (behind (row ∷ []) later) ≡ behind (done ++ row ∷ []) later
behind_one done row (Ok rows) = ap Ok (sym (append_assoc done (row ∷ []) rows))
behind_one done row (Err n) = refl

-- a line that has a reading goes behind those before it
pub next_row : (done : List Row) (n : ℕ) (line : List ℕ) (lines : List (List ℕ)) (rest : List ℕ) (row : Row) → row_of line ≡ Some row → behind done (run_from n (line ∷ lines) rest) ≡ behind (done ++ row ∷ []) (run_from (n + 1) lines rest)
next_row done n line lines rest row is = ap (λ r. behind done (with_row r n (run_from (n + 1) lines rest))) is ∙ behind_one done row (run_from (n + 1) lines rest)

-- the first that has none is told
pub no_row : (done : List Row) (n : ℕ) (line : List ℕ) (lines : List (List ℕ)) (rest : List ℕ) → row_of line ≡ None → behind done (run_from n (line ∷ lines) rest) ≡ Err n
no_row done n line lines rest is = ap (λ r. behind done (with_row r n (run_from (n + 1) lines rest))) is

-- there are at most as many lines as bytes
pub few_lines : (bytes : List ℕ) → length (parts_of bytes) ≤ length bytes + 1
few_lines bytes = let n = length-slice_split (λ b. b == 10) bytes in let m = count_by-le-length (λ b. b == 10) bytes in omega arith

-- a row more than so many
one_more_row : (r : Option Row) (later : Run) (all : List Row) (line : List ℕ) (lines : List (List ℕ)) (n : ℕ) → with_row r n later ≡ Ok all → ((rows : List Row) → later ≡ Ok rows → length rows ≤ length lines) → length all ≤ length (line ∷ lines)
one_more_row None later all line lines n e k = absurd cc
one_more_row (Some row) (Ok rows) all line lines n e k = let f : row ∷ rows ≡ all = cc in let l = k rows refl in subst (λ xs. length xs ≤ length (line ∷ lines)) f (omega arith)
one_more_row (Some row) (Err m) all line lines n e k = absurd cc

-- a run has no more rows than lines
as_many : (n : ℕ) (lines : List (List ℕ)) (rest : List ℕ) (rows : List Row) → run_from n lines rest ≡ Ok rows → length rows ≤ length lines
as_many n [] [] rows is = let e : [] ≡ rows = cc in subst (λ xs. length xs ≤ 0) e (omega arith)
as_many n [] (b ∷ bs) rows is = absurd cc
as_many n (line ∷ lines) rest rows is = one_more_row (row_of line) (run_from (n + 1) lines rest) rows line lines n is (λ later e. as_many (n + 1) lines rest later e)

-- the lines of parts, as they are
same_lines : {A : Type 0} (v : A → List ℕ) (parts : List A) → map v (take (length parts - 1) parts) ≡ lines_of (map v parts)
same_lines v parts = sym (take-map v (length parts - 1) parts) ∙ ap (λ n. take (n - 1) (map v parts)) (sym (length-map parts v))

-- what is read of the lines and the rest is what is read of the parts
pub parts_read : {A : Type 0} (v : A → List ℕ) (parts : List A) (n : ℕ) (last : List ℕ) (r : Result (Vec Row Global) RunFault) → n ≡ length parts - 1 → last ≡ word_at (map v parts) n → ReadsRun r (run_from 1 (map v (take n parts)) last) → ReadsRun r (run_in (map v parts))
parts_read v parts n last r e f h =
    let lines : map v (take n parts) ≡ lines_of (map v parts) = ap (λ k. map v (take k parts)) e ∙ same_lines v parts in
    let rest : last ≡ rest_of (map v parts) = f ∙ ap (word_at (map v parts)) (e ∙ ap (λ k. k - 1) (sym (length-map parts v))) in
    subst (λ l. ReadsRun r (run_from 1 (lines_of (map v parts)) l)) rest (subst (λ ls. ReadsRun r (run_from 1 ls last)) lines h)

pub fewer_lines : {A : Type 0} (n : ℕ) (parts : List A) → length (take n parts) ≤ length parts
fewer_lines n parts = let e = length-take n parts in omega arith

-- a text below 2^40 bytes has no more parts than that
pub few_parts : {A : Type 0} (v : A → List ℕ) (parts : List A) (bytes : List ℕ) → map v parts ≡ parts_of bytes → length parts ≤ length bytes + 1
few_parts v parts bytes is = let n = few_lines bytes in let m = length-map parts v in let e = ap length is in omega arith

-- and no more rows
pub few_rows : (bytes : List ℕ) (rows : List Row) → run_of bytes ≡ Ok rows → length rows ≤ length bytes
few_rows bytes rows is = let n = few_lines bytes in let m = as_many 1 (lines_of (parts_of bytes)) (rest_of (parts_of bytes)) rows is in let k = length-take (length (parts_of bytes) - 1) (parts_of bytes) in omega arith
