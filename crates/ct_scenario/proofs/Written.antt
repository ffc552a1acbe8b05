-- The text of a scenario is read as that scenario, and as no other.
use Rattle.std.proofs.Common.{◌≡◌, ℕ, ◌+◌, ◌≤◌, Bool, true, false, cond, eqb, List, [], ◌∷◌, ◌++◌, length, Option, Some, None, Result, Ok, Err, refl, ap, sym, ◌∙◌, ◌<◌, subst, append_assoc, drop, get_or}
use Rattle.std.proofs.lemmas.Bool.{ltb-false, le-ltb}
use Rattle.std.proofs.lemmas.List.{append-nil, at_drop_all, at_drop_more}
use Rattle.std.proofs.lemmas.List.Splits.{join_with_byte-slice_split, slice_split_at}
use Rattle.std.specs.List.{join_with_byte, slice_split}
use Rattle.std.specs.Prelude.{nat_lt}
use Rattle.ct_lines.specs.Grammar.{line_of}
use Rattle.ct_lines.specs.Places.{Accepted, nothing_accepted, refusal, with_line}
use Rattle.ct_lines.specs.Spelled.{spelled_line}
use Rattle.ct_lines.specs.declared.line.LineKind.{LineKind}
use Rattle.ct_lines.specs.declared.line.LineKind.TheVariants.{Long}
use Rattle.ct_lines.specs.declared.line.ScenarioLine.{ScenarioLine}
use Rattle.ct_lines.proofs.Whole.{line_back, line_only}
use Rattle.ct_scenario.specs.Scenarios.{AreInPlace, IsScenario, after_lines, before_lines, line_read, lines_read, placed_line, rest_read, said_line, scenario_of, text_of}
use Rattle.ct_scenario.specs.declared.scenario.LineFault.{LineFault}
use Rattle.ct_scenario.proofs.Free.{line_free}

-- ---- a line that is read

-- it is this line, which is in its place
abbrev Says : Accepted → ScenarioLine → Option ScenarioLine → Type 0
Says a x o = (o ≡ Some x) × (refusal x a ≡ None)

placed_says : (a : Accepted) (x y : ScenarioLine) (k : Option LineKind) → refusal y a ≡ k → placed_line y k ≡ Ok x → Says a x (Some y)
placed_says a x y None e h =
    let same : y ≡ x = cc in
    (ap (λ (z : ScenarioLine). Some z) same, subst (λ (z : ScenarioLine). refusal z a ≡ None) same e)
placed_says a x y (Some kind) e h = absurd (cc)

line_says : (a : Accepted) (x : ScenarioLine) (o : Option ScenarioLine) → said_line a o ≡ Ok x → Says a x o
line_says a x None h = absurd (cc)
line_says a x (Some y) h = placed_says a x y (refusal y a) refl h

short_line : (a : Accepted) (x : ScenarioLine) (t : Bool) (o : Option ScenarioLine) → cond t (Err Long) (said_line a o) ≡ Ok x → (t ≡ false) × Says a x o
short_line a x true o h = absurd (cc)
short_line a x false o h = (refl, line_says a x o h)

pub read_says : (a : Accepted) (x : ScenarioLine) (bytes : List ℕ) → line_read a bytes ≡ Ok x → (length bytes ≤ 65535) × (line_of bytes ≡ Some x) × (refusal x a ≡ None)
unfolding line_read
read_says a x bytes h =
    let s = short_line a x (nat_lt 65535 (length bytes)) (line_of bytes) h in
    (ltb-false 65535 (length bytes) s.0, s.1.0, s.1.1)

-- a line in its place is read
pub read_so : (a : Accepted) (x : ScenarioLine) (bytes : List ℕ) → length bytes ≤ 65535 → line_of bytes ≡ Some x → refusal x a ≡ None → line_read a bytes ≡ Ok x
unfolding line_read
read_so a x bytes short says placed =
    ap (λ (t : Bool). cond t (Err Long) (said_line a (line_of bytes))) (le-ltb 65535 (length bytes) short) ∙ ap (λ (o : Option ScenarioLine). said_line a o) says ∙ ap (λ (k : Option LineKind). placed_line x k) placed

-- ---- what is read has the text

-- these pieces, with a line feed between each two, are the text of the lines, which are in their places
abbrev Spells : Accepted → List (List ℕ) → List ScenarioLine → Type 0
Spells a ps lines = AreInPlace a lines × (join_with_byte 10 ps ≡ text_of lines)

nothing_spelled : (a : Accepted) (ps : List (List ℕ)) (lines : List ScenarioLine) → join_with_byte 10 ps ≡ [] → lines ≡ [] → Spells a ps lines
unfolding AreInPlace text_of
nothing_spelled a ps lines none same = subst (λ (ls : List ScenarioLine). Spells a ps ls) (sym same) (tt, none)

rest_only : (a : Accepted) (n : ℕ) (p : List ℕ) (lines : List ScenarioLine) → rest_read n p ≡ Ok lines → Spells a (p ∷ []) lines
unfolding rest_read
rest_only a n [] lines h = let none : lines ≡ [] = cc in nothing_spelled a ([] ∷ []) lines refl none
rest_only a n (b ∷ bs) lines h = absurd (cc)

line_first : (a : Accepted) (p : List ℕ) (qs : List (List ℕ)) (x : ScenarioLine) (xs : List ScenarioLine) → line_read a p ≡ Ok x → Spells (with_line x a) qs xs → join_with_byte 10 (p ∷ qs) ≡ p ++ 10 ∷ join_with_byte 10 qs → Spells a (p ∷ qs) (x ∷ xs)
unfolding AreInPlace text_of
line_first a p qs x xs read rest joined =
    let says = read_says a x p read in
    let line = line_only p x says.1 in (
      (line.0, subst (λ (bytes : List ℕ). length bytes ≤ 65535) line.1 says.0, says.2, rest.0),
      joined ∙ ap (λ (bytes : List ℕ). bytes ++ 10 ∷ join_with_byte 10 qs) line.1 ∙ ap (λ (bytes : List ℕ). spelled_line x ++ 10 ∷ bytes) rest.1,
    )

after_only : (a : Accepted) (p q : List ℕ) (qs : List (List ℕ)) (x : ScenarioLine) (lines : List ScenarioLine) (r : Result (List ScenarioLine) LineFault) → line_read a p ≡ Ok x → after_lines (x ∷ []) r ≡ Ok lines
    → ((xs : List ScenarioLine) → r ≡ Ok xs → Spells (with_line x a) (q ∷ qs) xs) → Spells a (p ∷ q ∷ qs) lines
after_only a p q qs x lines (Err f) read h rest = absurd (cc)
after_only a p q qs x lines (Ok xs) read h rest =
    let same : x ∷ xs ≡ lines = cc in
    subst (λ (ls : List ScenarioLine). Spells a (p ∷ q ∷ qs) ls) same (line_first a p (q ∷ qs) x xs read (rest xs refl) refl)

before_only : (n : ℕ) (a : Accepted) (p q : List ℕ) (qs : List (List ℕ)) (lines : List ScenarioLine) (r : Result ScenarioLine LineKind) → line_read a p ≡ r
    → before_lines n r (λ x. lines_read (n + 1) (with_line x a) (q ∷ qs)) ≡ Ok lines
    → ((x : ScenarioLine) (xs : List ScenarioLine) → lines_read (n + 1) (with_line x a) (q ∷ qs) ≡ Ok xs → Spells (with_line x a) (q ∷ qs) xs) → Spells a (p ∷ q ∷ qs) lines
before_only n a p q qs lines (Err kind) read h rest = absurd (cc)
before_only n a p q qs lines (Ok x) read h rest = after_only a p q qs x lines (lines_read (n + 1) (with_line x a) (q ∷ qs)) read h (rest x)

read_only : (n : ℕ) (a : Accepted) (ps : List (List ℕ)) (lines : List ScenarioLine) → lines_read n a ps ≡ Ok lines → Spells a ps lines
unfolding lines_read
read_only n a [] lines h = let none : lines ≡ [] = cc in nothing_spelled a [] lines refl none
read_only n a (p ∷ []) lines h = rest_only a n p lines h
read_only n a (p ∷ q ∷ qs) lines h = before_only n a p q qs lines (line_read a p) refl h (λ x xs k. read_only (n + 1) (with_line x a) (q ∷ qs) xs k)

-- what is read has the text of what it is read as
pub only : (bytes : List ℕ) (lines : List ScenarioLine) → scenario_of bytes ≡ Ok lines → IsScenario lines × (bytes ≡ text_of lines)
unfolding scenario_of
only bytes lines h =
    let s = read_only 1 nothing_accepted (slice_split (λ b. eqb b 10) bytes) lines h in
    (s.0, sym (join_with_byte-slice_split 10 bytes) ∙ s.1)

pub only_cut : (bytes : List ℕ) (ps : List (List ℕ)) (lines xs : List ScenarioLine) → ps ≡ slice_split (λ b. eqb b 10) bytes → lines_read 1 nothing_accepted ps ≡ Ok lines → xs ≡ lines → IsScenario xs × (bytes ≡ text_of xs)
unfolding scenario_of
only_cut bytes ps lines xs cut read same =
    only bytes xs (ap (λ (l : List (List ℕ)). lines_read 1 nothing_accepted l) (sym cut) ∙ read ∙ ap (λ (ls : List ScenarioLine). Ok ls) (sym same))

-- ---- what has the text is read

-- the text, cut at each line feed
pieces_of : List ScenarioLine → List (List ℕ)
pieces_of [] = [] ∷ []
pieces_of (x ∷ xs) = spelled_line x ∷ pieces_of xs

cut_text : (a : Accepted) (lines : List ScenarioLine) → AreInPlace a lines → slice_split (λ b. eqb b 10) (text_of lines) ≡ pieces_of lines
unfolding AreInPlace text_of pieces_of
cut_text a [] h = refl
cut_text a (x ∷ xs) h =
    slice_split_at (λ b. eqb b 10) (spelled_line x) 10 (text_of xs) (line_free x h.0) refl ∙ ap (λ (ps : List (List ℕ)). spelled_line x ∷ ps) (cut_text (with_line x a) xs h.3)

line_then : (n : ℕ) (a : Accepted) (x : ScenarioLine) (q : List ℕ) (qs : List (List ℕ)) (xs : List ScenarioLine) → line_read a (spelled_line x) ≡ Ok x → lines_read (n + 1) (with_line x a) (q ∷ qs) ≡ Ok xs
    → lines_read n a (spelled_line x ∷ q ∷ qs) ≡ Ok (x ∷ xs)
unfolding lines_read
line_then n a x q qs xs first rest =
    ap (λ (r : Result ScenarioLine LineKind). before_lines n r (λ y. lines_read (n + 1) (with_line y a) (q ∷ qs))) first ∙ ap (λ (r : Result (List ScenarioLine) LineFault). after_lines (x ∷ []) r) rest

first_read : (a : Accepted) (x : ScenarioLine) (xs : List ScenarioLine) → AreInPlace a (x ∷ xs) → line_read a (spelled_line x) ≡ Ok x
unfolding AreInPlace
first_read a x xs h = read_so a x (spelled_line x) h.1 (line_back x h.0) h.2

others_placed : (a : Accepted) (x : ScenarioLine) (xs : List ScenarioLine) → AreInPlace a (x ∷ xs) → AreInPlace (with_line x a) xs
unfolding AreInPlace
others_placed a x xs h = h.3

rest_back : (n : ℕ) (a : Accepted) → lines_read n a ([] ∷ []) ≡ Ok []
unfolding lines_read rest_read
rest_back n a = refl

read_back : (n : ℕ) (a : Accepted) (lines : List ScenarioLine) → AreInPlace a lines → lines_read n a (pieces_of lines) ≡ Ok lines
unfolding pieces_of
read_back n a [] h = rest_back n a
read_back n a (x ∷ []) h = line_then n a x [] [] [] (first_read a x [] h) (rest_back (n + 1) (with_line x a))
read_back n a (x ∷ y ∷ ys) h =
    line_then n a x (spelled_line y) (pieces_of ys) (y ∷ ys) (first_read a x (y ∷ ys) h) (read_back (n + 1) (with_line x a) (y ∷ ys) (others_placed a x (y ∷ ys) h))

-- the text of a scenario is read as it
pub back : (lines : List ScenarioLine) → IsScenario lines → scenario_of (text_of lines) ≡ Ok lines
unfolding scenario_of
back lines h = ap (λ (ps : List (List ℕ)). lines_read 1 nothing_accepted ps) (cut_text nothing_accepted lines h) ∙ read_back 1 nothing_accepted lines h

pub written_back : (lines : List ScenarioLine) (text : List ℕ) → text ≡ text_of lines → IsScenario lines → scenario_of text ≡ Ok lines
written_back lines text is h = ap (λ (bytes : List ℕ). scenario_of bytes) is ∙ back lines h

-- ---- the text as it is written

pub line_more : (t : List ℕ) (x : ScenarioLine) (xs : List ScenarioLine) → (t ++ (spelled_line x ++ 10 ∷ [])) ++ text_of xs ≡ t ++ text_of (x ∷ xs)
unfolding text_of
line_more t x xs = append_assoc t (spelled_line x ++ 10 ∷ []) (text_of xs) ∙ ap (λ (bytes : List ℕ). t ++ bytes) (append_assoc (spelled_line x) (10 ∷ []) (text_of xs))

-- a line more is written
pub kept : (t u : List ℕ) (lines : List ScenarioLine) (i : ℕ) (x : ScenarioLine) → i < length lines → x ≡ get_or lines i x → u ≡ t ++ (spelled_line x ++ 10 ∷ []) → t ++ text_of (drop i lines) ≡ text_of lines
    → u ++ text_of (drop (i + 1) lines) ≡ text_of lines
kept t u lines i x within is put h =
    ap (λ (l : List ℕ). l ++ text_of (drop (i + 1) lines)) put ∙ line_more t x (drop (i + 1) lines) ∙ ap (λ (y : ScenarioLine). t ++ text_of (y ∷ drop (i + 1) lines)) is
    ∙ sym (at_drop_more (λ l. t ++ text_of l) lines i x within) ∙ h

pub no_more : (t : List ℕ) → t ++ text_of [] ≡ t
unfolding text_of
no_more t = append-nil t

-- all is written
pub all_kept : (t : List ℕ) (lines : List ScenarioLine) (i : ℕ) → length lines ≤ i → t ++ text_of (drop i lines) ≡ text_of lines → t ≡ text_of lines
all_kept t lines i beyond h = sym (no_more t) ∙ sym (at_drop_all (λ l. t ++ text_of l) lines i beyond) ∙ h
