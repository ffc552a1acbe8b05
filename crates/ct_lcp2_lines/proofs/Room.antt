-- How much may still come.
use Rattle.std.proofs.Common.{◌≡◌, ℕ, zero, suc, ◌+◌, ◌<◌, ◌≤◌, ◌≢◌, Bool, true, false, List, [], ◌∷◌, ◌++◌, length, Option, None, Some, refl, sym, ap, subst, ◌∙◌, arith}
use Rattle.std.proofs.lemmas.Bool.Decides.{nat_tests}
use Rattle.std.specs.List.{filter, range_with_len}
use Rattle.std.specs.Prelude.{if◌then◌else◌, is_none, is_some, nat_eq, nat_le, nat_lt, not, ◌&&◌, ◌||◌, codes, option_map}
use Rattle.std.specs.Str.{bytes_eq}
use Rattle.ct_spelling.specs.Number.{number_of}
use Rattle.ct_values.specs.Words.{is_nil}
use Rattle.ct_values.specs.declared.address.Address.{Address}
use Rattle.ct_lines.specs.Grammar.{words_of}
use Rattle.ct_lines.specs.Words.{address_word, number_word, within}
use Rattle.ct_lines.specs.declared.line.LineKind.TheVariants.{Long}
use Rattle.ct_lcp2_lines.specs.Grammar.{at_node, at_none, form, line_of, one_form, two_form}
use Rattle.ct_lcp2_lines.specs.Placing.{Given, first_reason, form_refusal, is_beyond, is_disabled, is_held_beyond, is_there, refusal, said_refusal, with_form, with_line, with_said}
use Rattle.ct_lcp2_lines.proofs.Given.{one_more}
use Rattle.ct_lcp2_lines.specs.declared.line.GivenLine.{GivenLine}
use Rattle.ct_lcp2_lines.specs.declared.line.GivenLine.TheVariants as given
use Rattle.ct_lcp2_lines.specs.Feeding.{Fed, first}
use Rattle.ct_lcp2_lines.specs.Room.{AreFew, Fits, lines_left, room}
use Rattle.ct_lcp2_lines.specs.declared.placer.Placer.{Placer}
use Rattle.ct_lcp2_lines.proofs.Feeding.{line_ends}

-- ---- nodes that are not disabled

-- one node more is disabled
one_disabled : (d : List ℕ) (p n : ℕ) → is_disabled (d ++ p ∷ []) n ≡ (is_disabled d n || nat_eq n p)
one_disabled [] p n = grind arith
one_disabled (x ∷ xs) p n = grind (arith, one_disabled xs p n)

able_in : List ℕ → List ℕ → List ℕ
able_in d ns = filter (λ n. not (is_disabled d n)) ns

no_more_able : (d : List ℕ) (p : ℕ) (ns : List ℕ) → length (able_in (d ++ p ∷ []) ns) ≤ length (able_in d ns)
unfolding able_in
no_more_able d p [] = omega arith
no_more_able d p (n ∷ ns) = by (is_disabled d n) (is_disabled (d ++ p ∷ []) n) (one_disabled d p n) (no_more_able d p ns)
  where
    by : (b c : Bool) → c ≡ (b || nat_eq n p) → length (able_in (d ++ p ∷ []) ns) ≤ length (able_in d ns)
        → length (if not c then n ∷ able_in (d ++ p ∷ []) ns else able_in (d ++ p ∷ []) ns) ≤ length (if not b then n ∷ able_in d ns else able_in d ns)
    by true true e k = k
    by true false e k = absurd (cc)
    by false true e k = omega (arith, k)
    by false false e k = omega (arith, k)

-- of the nodes from a on, one that was not disabled is
one_less_able : (d : List ℕ) (p a k : ℕ) → a ≤ p → p < a + k → is_disabled d p ≡ false → length (able_in (d ++ p ∷ []) (range_with_len a k)) < length (able_in d (range_with_len a k))
unfolding able_in
one_less_able d p a zero l h f = absurd (omega (arith, l, h))
one_less_able d p a (suc k) l h f = by (nat_eq a p) refl (λ m. one_less_able d p (a + 1) k m (omega (arith, h)) f)
  where
    rest : List ℕ
    rest = range_with_len (a + 1) k

    here : (b c : Bool) → b ≡ false → c ≡ true → length (able_in (d ++ p ∷ []) rest) ≤ length (able_in d rest)
        → length (if not c then a ∷ able_in (d ++ p ∷ []) rest else able_in (d ++ p ∷ []) rest) < length (if not b then a ∷ able_in d rest else able_in d rest)
    here true c e f k = absurd (cc)
    here false false e f k = absurd (cc)
    here false true e f k = omega (arith, k)

    there : (b c : Bool) → c ≡ b → length (able_in (d ++ p ∷ []) rest) < length (able_in d rest)
        → length (if not c then a ∷ able_in (d ++ p ∷ []) rest else able_in (d ++ p ∷ []) rest) < length (if not b then a ∷ able_in d rest else able_in d rest)
    there true true e k = k
    there true false e k = absurd (cc)
    there false true e k = absurd (cc)
    there false false e k = omega (arith, k)

    by : (b : Bool) → nat_eq a p ≡ b → (a + 1 ≤ p → length (able_in (d ++ p ∷ []) rest) < length (able_in d rest)) → length (able_in (d ++ p ∷ []) (a ∷ rest)) < length (able_in d (a ∷ rest))
    by true e less =
        let same : a ≡ p = grind (arith, nat_tests) in
        here (is_disabled d a) (is_disabled (d ++ p ∷ []) a) (subst (λ n. is_disabled d n ≡ false) (sym same) f) (one_disabled d p a ∙ grind arith) (no_more_able d p rest)
    by false e less =
        let more : a ≢ p = grind (arith, nat_tests) in
        there (is_disabled d a) (is_disabled (d ++ p ∷ []) a) (one_disabled d p a ∙ grind arith) (less (omega (arith, l, more)))

-- ---- one line more

-- where a line is not refused, none of the reasons holds
no_reason : (words order repeat limit : Bool) → first_reason words order repeat limit ≡ None → (words ≡ false) × (order ≡ false) × (repeat ≡ false) × (limit ≡ false)
no_reason true order repeat limit e = absurd (cc)
no_reason false true repeat limit e = absurd (cc)
no_reason false false true limit e = absurd (cc)
no_reason false false false true e = absurd (cc)
no_reason false false false false e = (refl, refl, refl, refl)

-- a node that a line may disable is one of at most sixteen
is_one_of : (nodes : Option ℕ) (at : Bool) (p : ℕ) → AreFew nodes → is_beyond nodes p ≡ false → (is_none nodes || at) ≡ false → p < 16
is_one_of None at p few b o = absurd (cc)
is_one_of (Some n) at p few b o = grind (arith, nat_tests)

-- the number of nodes is told once
told_once : (nodes : Option ℕ) (n : ℕ) → is_some nodes ≡ false → ◌≡◌ {A = ℕ} (if is_none nodes then 1 else 0) 1
told_once None n e = refl
told_once (Some m) n e = absurd (cc)

-- a line says of at most sixteen nodes
abbrev SaysFew : Option GivenLine → Type 0
SaysFew None = Unit {0}
SaysFew (Some (given.Nodes n)) = n ≤ 16
SaysFew (Some (given.Disabled p)) = Unit {0}
SaysFew (Some (given.Address x)) = Unit {0}

few_within : (o : Option ℕ) → SaysFew (option_map given.Nodes (within 1 17 o))
few_within None = tt
few_within (Some k) = by (nat_le 1 k) (nat_lt k 17) refl
  where
    by : (a b : Bool) → nat_lt k 17 ≡ b → SaysFew (option_map given.Nodes (if a && b then Some k else None))
    by true true e = grind (arith, nat_tests)
    by true false e = tt
    by false b e = tt

few_disabled : (o : Option ℕ) → SaysFew (option_map given.Disabled o)
few_disabled None = tt
few_disabled (Some p) = tt

few_none : (o : Option Address) → SaysFew (option_map at_none o)
few_none None = tt
few_none (Some a) = tt

few_node : (o : Option Address) (p : Option ℕ) → SaysFew (at_node o p)
few_node None p = tt
few_node (Some a) None = tt
few_node (Some a) (Some p) = tt

few_one : (w a : List ℕ) → SaysFew (one_form w a)
few_one w a = by (bytes_eq w (codes "nodes")) (bytes_eq w (codes "disabled")) (bytes_eq w (codes "address"))
  where
    by : (b c d : Bool)
        → SaysFew (if b then option_map given.Nodes (within 1 17 (number_of a)) else if c then option_map given.Disabled (number_word a) else if d then option_map at_none (address_word a) else None)
    by true c d = few_within (number_of a)
    by false true d = few_disabled (number_word a)
    by false false true = few_none (address_word a)
    by false false false = tt

few_two : (w a p : List ℕ) → SaysFew (two_form w a p)
few_two w a p = by (bytes_eq w (codes "address"))
  where
    by : (b : Bool) → SaysFew (if b then at_node (address_word a) (number_word p) else None)
    by true = few_node (address_word a) (number_word p)
    by false = tt

few_form : (ws : List (List ℕ)) → SaysFew (form ws)
few_form [] = tt
few_form (w ∷ []) = tt
few_form (w ∷ a ∷ []) = few_one w a
few_form (w ∷ a ∷ p ∷ []) = few_two w a p
few_form (w ∷ a ∷ p ∷ x ∷ more) = tt

-- what is said and not refused leaves less
less_after_said : (said : GivenLine) (g : Given) → said_refusal said g ≡ None → SaysFew (Some said) → AreFew g.nodes → AreFew (with_said said g).nodes × (lines_left (with_said said g) < lines_left g)
unfolding lines_left able_in
less_after_said (given.Nodes n) g e s few =
    let o = no_reason false (is_some g.nodes) false false e in
    (s, omega (arith, told_once g.nodes n o.1))
less_after_said (given.Disabled p) g e s few =
    let o = no_reason (is_beyond g.nodes p) (is_none g.nodes || not (is_nil g.at)) (is_disabled g.disabled p) false e in
    let less = one_less_able g.disabled p 0 16 (omega arith) (is_one_of g.nodes (not (is_nil g.at)) p few o.0 o.1) o.2 in
    (few, omega (arith, less))
less_after_said (given.Address x) g e s few =
    let o = no_reason (is_held_beyond g.nodes x.node) (is_none g.nodes) (is_there x.address g.at) (nat_le 256 (length g.at)) e in
    let free : length g.at < 256 = grind (arith, nat_tests, o.3) in
    (few, omega (arith, one_more x g.at, free))

less_after_form : (o : Option GivenLine) (g : Given) → form_refusal o g ≡ None → SaysFew o → AreFew g.nodes → AreFew (with_form o g).nodes × (lines_left (with_form o g) < lines_left g)
less_after_form None g e s few = absurd (cc)
less_after_form (Some said) g e s few = less_after_said said g e s few

few_line : (line : List ℕ) → SaysFew (line_of line)
unfolding line_of
few_line line = few_form (words_of line)

-- a line that is not refused leaves less
less_after : (line : List ℕ) (g : Given) → refusal line g ≡ None → AreFew g.nodes → AreFew (with_line line g).nodes × (lines_left (with_line line g) < lines_left g)
less_after line g e few = less_after_form (line_of line) g (by (nat_lt 65535 (length line)) e) (few_line line) few
  where
    by : (b : Bool) → (if b then Some Long else form_refusal (line_of line) g) ≡ None → form_refusal (line_of line) g ≡ None
    by true e = absurd (cc)
    by false e = e

-- ---- placers

-- a whole line was taken
line_fits : (p q : Placer) → refusal p.line p.placing ≡ None → q ≡ record { placing = with_line p.line p.placing; line = []; count = p.count + 1 } → Fits p → Fits q × (room q < room p)
line_fits p q e h f =
    let k = less_after p.line p.placing e f.few in
    subst (λ r. Fits r × (room r < room p)) (sym h) (record { line = omega arith; few = k.0; count = omega (arith, k.1, f.count) }, omega (arith, k.1, f.line))

-- a whole line was read
pub line_read : (p : Placer) (l m : List ℕ) (g : Given) → l ≡ p.line → (refusal l p.placing ≡ None) × (g ≡ with_line l p.placing) → m ≡ [] → Fits p
    → Fed p (record { placing = g; line = m; count = p.count + 1 }) (10 ∷ []) × Fits (record { placing = g; line = m; count = p.count + 1 }) × (room (record { placing = g; line = m; count = p.count + 1 }) < room p)
line_read p l m g e t n f =
    let made : Given → List ℕ → Placer = λ g l. record { placing = g; line = l; count = p.count + 1 } in
    let free = subst (λ x. refusal x p.placing ≡ None) e t.0 in
    let next : made g m ≡ made (with_line p.line p.placing) [] = ap (λ x. made x m) (t.1 ∙ ap (λ x. with_line x p.placing) e) ∙ ap (made (with_line p.line p.placing)) n in
    let k = line_fits p (made g m) free next f in
    (line_ends p (made g m) free next, k.0, k.1)

-- before the first byte
pub first_fits : Fits first
unfolding lines_left
first_fits = record { line = omega arith; few = tt; count = omega arith }
