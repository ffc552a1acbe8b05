-- Lines that are read one after the other.
use Rattle.std.proofs.Common.{◌≡◌, ◌∙◌, ℕ, ◌+◌, ◌<◌, Bool, cond, List, [], ◌∷◌, ◌++◌, length, Option, Result, Ok, Err, refl, ap, sym, subst, append_assoc, arith, drop, map, get_or}
use Rattle.std.proofs.lemmas.Bool.{le-ltb, lt-ltb}
use Rattle.std.proofs.lemmas.List.{append-nil, at_drop_more, map-append}
use Rattle.ct_lines.specs.Grammar.{line_of}
use Rattle.ct_lines.specs.Places.{Accepted, Checks, nothing_accepted, refusal, with_line}
use Rattle.ct_lines.specs.Reading.{ReadsLine}
use Rattle.ct_lines.specs.declared.line.LineKind.{LineKind}
use Rattle.ct_lines.specs.declared.line.LineKind.TheVariants.{Long, Unended, Words, Order, Repeat, Limit}
use Rattle.ct_lines.specs.declared.line.LineKindFault.{LineKindFault}
use Rattle.ct_lines.specs.declared.line.LineKindFault.TheVariants as kinds
use Rattle.ct_lines.specs.declared.line.ScenarioLine.{ScenarioLine}
use Rattle.ct_scenario.specs.Scenarios.{AddsLine, AddsLines, EndsLines, ReadsLines, after_lines, before_lines, fault_at, line_read, lines_read, placed_line, rest_read, said_line, so_far}
use Rattle.ct_scenario.specs.declared.scenario.LineFault.TheVariants.{At, NoMemory}
use Rattle.ct_scenario.specs.declared.scenario.LineFault.{LineFault}
use Rattle.ct_scenario.proofs.Written.{read_so}

-- ---- one line

unread_by : (n : ℕ) (f : LineKindFault) (bytes : List ℕ) (a : Accepted) (before : List ScenarioLine) → ReadsLine (Err f) bytes → AddsLine (Err (fault_at n f)) n bytes a a before before
unfolding line_read
unread_by n (kinds.Kind Long) bytes a before h = (refl, ap (λ (t : Bool). cond t (Err Long) (said_line a (line_of bytes))) (lt-ltb 65535 (length bytes) h))
unread_by n (kinds.Kind Unended) bytes a before h = absurd h
unread_by n (kinds.Kind Words) bytes a before h =
    (refl, ap (λ (t : Bool). cond t (Err Long) (said_line a (line_of bytes))) (le-ltb 65535 (length bytes) h.0) ∙ ap (λ (o : Option ScenarioLine). said_line a o) h.1)
unread_by n (kinds.Kind Order) bytes a before h = absurd h
unread_by n (kinds.Kind Repeat) bytes a before h = absurd h
unread_by n (kinds.Kind Limit) bytes a before h = absurd h
unread_by n kinds.NoMemory bytes a before h = tt

-- bytes that are no line
pub unread : (n : ℕ) (f : LineKindFault) (g : LineFault) (bytes : List ℕ) (a : Accepted) (before : List ScenarioLine) → g ≡ fault_at n f → ReadsLine (Err f) bytes → AddsLine (Err g) n bytes a a before before
unread n f g bytes a before is h = subst (λ (e : LineFault). AddsLine (Err e) n bytes a a before before) (sym is) (unread_by n f bytes a before h)

refused_by : (n : ℕ) (f : LineKindFault) (x : ScenarioLine) (bytes : List ℕ) (a b : Accepted) (before : List ScenarioLine) → ReadsLine (Ok x) bytes → Checks (Err f) (refusal x a) (with_line x a) a b → AddsLine (Err (fault_at n f)) n bytes a b before before
unfolding line_read
refused_by n (kinds.Kind kind) x bytes a b before read h = (
  refl,
  ap (λ (t : Bool). cond t (Err Long) (said_line a (line_of bytes))) (le-ltb 65535 (length bytes) read.0) ∙ ap (λ (o : Option ScenarioLine). said_line a o) read.1 ∙ ap (λ (k : Option LineKind). placed_line x k) h.0,
)
refused_by n kinds.NoMemory x bytes a b before read h = tt

-- a line out of its place
pub refused : (n : ℕ) (f : LineKindFault) (g : LineFault) (x : ScenarioLine) (bytes : List ℕ) (a b : Accepted) (before : List ScenarioLine) →
    g ≡ fault_at n f → ReadsLine (Ok x) bytes → Checks (Err f) (refusal x a) (with_line x a) a b → AddsLine (Err g) n bytes a b before before
refused n f g x bytes a b before is read h = subst (λ (e : LineFault). AddsLine (Err e) n bytes a b before before) (sym is) (refused_by n f x bytes a b before read h)

-- a line in its place
pub added : (n : ℕ) (u v : Unit {0}) (x : ScenarioLine) (bytes : List ℕ) (a b : Accepted) (before now : List ScenarioLine) →
    ReadsLine (Ok x) bytes → Checks (Ok u) (refusal x a) (with_line x a) a b → now ≡ before ++ x ∷ [] → AddsLine (Ok v) n bytes a b before now
added n u v x bytes a b before now read h put = (x, read_so a x bytes read.0 read.1 h.0, h.1, put)

-- ---- one after the other

after_both : (xs ys : List ScenarioLine) (r : Result (List ScenarioLine) LineFault) → after_lines xs (after_lines ys r) ≡ after_lines (xs ++ ys) r
after_both xs ys (Ok zs) = ap (λ (ls : List ScenarioLine). Ok ls) (sym (append_assoc xs ys zs))
after_both xs ys (Err f) = refl

longer : (xs : List ScenarioLine) (x : ScenarioLine) → length (xs ++ x ∷ []) ≡ length xs + 1
longer [] x = refl
longer (y ∷ ys) x = let h = longer ys x in omega (arith, h)

one_line : (n : ℕ) (a : Accepted) (x : ScenarioLine) (p q : List ℕ) (qs : List (List ℕ)) → line_read a p ≡ Ok x → lines_read n a (p ∷ q ∷ qs) ≡ after_lines (x ∷ []) (lines_read (n + 1) (with_line x a) (q ∷ qs))
unfolding lines_read
one_line n a x p q qs read = ap (λ (r : Result ScenarioLine LineKind). before_lines n r (λ y. lines_read (n + 1) (with_line y a) (q ∷ qs))) read

-- a line more was read, and others come
read_next : (xs ys : List ScenarioLine) (a b : Accepted) (x : ScenarioLine) (p q : List ℕ) (qs : List (List ℕ)) → line_read a p ≡ Ok x → b ≡ with_line x a → ys ≡ xs ++ x ∷ [] → so_far ys b (q ∷ qs) ≡ so_far xs a (p ∷ q ∷ qs)
read_next xs ys a b x p q qs read placed put =
    ap (λ (ls : List ScenarioLine). after_lines ls (lines_read (length ys + 1) b (q ∷ qs))) put
    ∙ ap (λ (n : ℕ). after_lines (xs ++ x ∷ []) (lines_read (n + 1) b (q ∷ qs))) (ap (λ (ls : List ScenarioLine). length ls) put ∙ longer xs x)
    ∙ ap (λ (c : Accepted). after_lines (xs ++ x ∷ []) (lines_read ((length xs + 1) + 1) c (q ∷ qs))) placed
    ∙ sym (after_both xs (x ∷ []) (lines_read ((length xs + 1) + 1) (with_line x a) (q ∷ qs)))
    ∙ ap (λ (r : Result (List ScenarioLine) LineFault). after_lines xs r) (sym (one_line (length xs + 1) a x p q qs read))

-- the rest comes behind these
pub read_on : (xs ys : List ScenarioLine) (a b : Accepted) (p rest : List ℕ) (ps : List (List ℕ)) (u : Unit {0}) (n : ℕ) → AddsLine (Ok u) n p a b xs ys → so_far ys b (ps ++ rest ∷ []) ≡ so_far xs a (p ∷ (ps ++ rest ∷ []))
read_on xs ys a b p rest [] u n h = read_next xs ys a b h.0 p rest [] h.1 h.2 h.3
read_on xs ys a b p rest (q ∷ qs) u n h = read_next xs ys a b h.0 p q (qs ++ rest ∷ []) h.1 h.2 h.3

refused_first : (n : ℕ) (a : Accepted) (p q : List ℕ) (qs : List (List ℕ)) (kind : LineKind) → line_read a p ≡ Err kind → lines_read n a (p ∷ q ∷ qs) ≡ Err (At n kind)
unfolding lines_read
refused_first n a p q qs kind read = ap (λ (r : Result ScenarioLine LineKind). before_lines n r (λ y. lines_read (n + 1) (with_line y a) (q ∷ qs))) read

stopped_by : (xs : List ScenarioLine) (a : Accepted) (p q : List ℕ) (qs : List (List ℕ)) (m : ℕ) (kind : LineKind) → m ≡ length xs + 1 → line_read a p ≡ Err kind → so_far xs a (p ∷ q ∷ qs) ≡ Err (At m kind)
stopped_by xs a p q qs m kind is read =
    ap (λ (r : Result (List ScenarioLine) LineFault). after_lines xs r) (refused_first (length xs + 1) a p q qs kind read) ∙ ap (λ (k : ℕ). Err (At k kind)) (sym is)

stopped_at : (xs : List ScenarioLine) (a : Accepted) (p rest : List ℕ) (ps : List (List ℕ)) (m : ℕ) (kind : LineKind) → m ≡ length xs + 1 → line_read a p ≡ Err kind → so_far xs a (p ∷ (ps ++ rest ∷ [])) ≡ Err (At m kind)
stopped_at xs a p rest [] m kind is read = stopped_by xs a p rest [] m kind is read
stopped_at xs a p rest (q ∷ qs) m kind is read = stopped_by xs a p q (qs ++ rest ∷ []) m kind is read

-- a line is refused
pub stopped : (f : LineFault) (n : ℕ) (xs ys zs : List ScenarioLine) (a b c : Accepted) (p rest : List ℕ) (ps : List (List ℕ)) (read : Result (List ScenarioLine) LineFault) →
    n ≡ length xs + 1 → AddsLine (Err f) n p a b xs ys → so_far xs a (p ∷ (ps ++ rest ∷ [])) ≡ read → AddsLines (Err f) read c zs rest
stopped (At m kind) n xs ys zs a b c p rest ps read is h sofar = sym sofar ∙ stopped_at xs a p rest ps m kind (h.0 ∙ is) h.1
stopped NoMemory n xs ys zs a b c p rest ps read is h sofar = tt

-- ---- pieces, one after the other

-- a piece is a line
pub go_on : {X : Type 0} (f : X → List ℕ) (pieces : List X) (i : ℕ) (d : X) (rest : List ℕ) (xs ys : List ScenarioLine) (a b : Accepted) (u : Unit {0}) (n : ℕ) (read : Result (List ScenarioLine) LineFault) →
    i < length pieces → AddsLine (Ok u) n (f (get_or pieces i d)) a b xs ys → so_far xs a (map f (drop i pieces) ++ rest ∷ []) ≡ read → so_far ys b (map f (drop (i + 1) pieces) ++ rest ∷ []) ≡ read
go_on f pieces i d rest xs ys a b u n read within adds is =
    read_on xs ys a b (f (get_or pieces i d)) rest (map f (drop (i + 1) pieces)) u n adds ∙ sym (at_drop_more (λ l. so_far xs a (map f l ++ rest ∷ [])) pieces i d within) ∙ is

-- or it is refused
pub go_stop : {X : Type 0} (f : X → List ℕ) (pieces : List X) (i : ℕ) (d : X) (rest : List ℕ) (xs ys : List ScenarioLine) (a b : Accepted) (e : LineFault) (n : ℕ) (read : Result (List ScenarioLine) LineFault) →
    i < length pieces → n ≡ length xs + 1 → AddsLine (Err e) n (f (get_or pieces i d)) a b xs ys → so_far xs a (map f (drop i pieces) ++ rest ∷ []) ≡ read → AddsLines (Err e) read b ys rest
go_stop f pieces i d rest xs ys a b e n read within number adds is =
    stopped e n xs ys ys a b b (f (get_or pieces i d)) rest (map f (drop (i + 1) pieces)) read number adds
    (sym (at_drop_more (λ l. so_far xs a (map f l ++ rest ∷ [])) pieces i d within) ∙ is)

-- ---- the rest

rest_of : (n : ℕ) (a : Accepted) (p : List ℕ) → lines_read n a (p ∷ []) ≡ rest_read n p
unfolding lines_read
rest_of n a p = refl

rest_none : (n : ℕ) → rest_read n [] ≡ Ok []
unfolding rest_read
rest_none n = refl

so_ended : (xs : List ScenarioLine) (a : Accepted) (p : List ℕ) → p ≡ [] → so_far xs a (p ∷ []) ≡ Ok xs
so_ended xs a p none =
    ap (λ (r : Result (List ScenarioLine) LineFault). after_lines xs r) (rest_of (length xs + 1) a p ∙ ap (λ (q : List ℕ). rest_read (length xs + 1) q) none ∙ rest_none (length xs + 1))
    ∙ ap (λ (ls : List ScenarioLine). Ok ls) (append-nil xs)

-- nothing follows
pub ended : (xs : List ScenarioLine) (a : Accepted) (p : List ℕ) (read : Result (List ScenarioLine) LineFault) → p ≡ [] → so_far xs a (p ∷ []) ≡ read → read ≡ Ok xs
ended xs a p read none is = sym is ∙ so_ended xs a p none

-- something does
pub unended : (f : LineFault) (n : ℕ) (xs : List ScenarioLine) (a : Accepted) (p : List ℕ) (read : Result (List ScenarioLine) LineFault) →
    n ≡ length xs + 1 → EndsLines (Err f) n p → so_far xs a (p ∷ []) ≡ read → ReadsLines (Err f) read
unended (At m kind) n xs a p read is h sofar =
    sym sofar ∙ ap (λ (r : Result (List ScenarioLine) LineFault). after_lines xs r) (rest_of (length xs + 1) a p ∙ ap (λ (k : ℕ). rest_read k p) (sym is) ∙ h)
unended NoMemory n xs a p read is h sofar = tt

-- before the first
pub nothing_read : (ps : List (List ℕ)) → so_far [] nothing_accepted ps ≡ lines_read 1 nothing_accepted ps
nothing_read ps = after_none (lines_read 1 nothing_accepted ps)
  where
    after_none : (r : Result (List ScenarioLine) LineFault) → after_lines [] r ≡ r
    after_none (Ok xs) = refl
    after_none (Err f) = refl

pub all_read : {X : Type 0} (f : X → List ℕ) (pieces whole : List X) (r : X) (xs : List ScenarioLine) (a : Accepted) → xs ≡ [] → a ≡ nothing_accepted → pieces ≡ whole ++ r ∷ []
    → so_far xs a (map f whole ++ f r ∷ []) ≡ lines_read 1 nothing_accepted (map f pieces)
all_read f pieces whole r xs a none first is =
    ap (λ (ls : List ScenarioLine). so_far ls a (map f whole ++ f r ∷ [])) none ∙ ap (λ (c : Accepted). so_far [] c (map f whole ++ f r ∷ [])) first
    ∙ nothing_read (map f whole ++ f r ∷ []) ∙ ap (λ (ps : List (List ℕ)). lines_read 1 nothing_accepted ps) (sym (ap (λ l. map f l) is ∙ map-append f whole (r ∷ [])))

pub none_read : {X : Type 0} (f : X → List ℕ) (pieces : List X) (lines : List ScenarioLine) → pieces ≡ [] → lines ≡ [] → lines_read 1 nothing_accepted (map f pieces) ≡ Ok lines
unfolding lines_read
none_read f pieces lines none empty = ap (λ l. lines_read 1 nothing_accepted (map f l)) none ∙ ap (λ (ls : List ScenarioLine). Ok ls) (sym empty)
