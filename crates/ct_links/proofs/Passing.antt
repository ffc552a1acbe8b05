-- Streams that are looked at one after the other.
use Rattle.std.proofs.Common.{◌≡◌, ◌≢◌, ℕ, suc, zero, ◌+◌, ◌-◌, ◌<◌, ◌≤◌, List, [], ◌∷◌, Bool, false, length, take, drop, get_or, slice_set, Option, None, Some, Result, Ok, Err, refl, sym, ap, subst, arith, length-take, add-one, inl, inr}
use Rattle.std.specs.Io.KnownBytes.{Appends, Consumes, Keeps, WriteAppends}
use Rattle.std.proofs.lemmas.List.{take-append-drop}
use Rattle.ct_outside.specs.Causes.{AppendsPart}
use Rattle.ct_outside.proofs.Pieces.{piece_appended, piece_refused}
use Rattle.ct_links.specs.Lanes.{LaneState, Rests, AllRest, FirstDoes, Puts, PutsOnce}

-- what was not read stays
pub keeps_same : (a : Option (List ℕ)) → Keeps a a
keeps_same None = tt
keeps_same (Some xs) = refl

-- a read of nothing leaves all
pub keeps_none : (a b : Option (List ℕ)) → Consumes a b [] → Keeps a b
keeps_none None b p = tt
keeps_none (Some xs) None p = absurd p
keeps_none (Some xs) (Some ys) p = sym p

-- a read of some bytes took one at least
pub took_some : (n : ℕ) (xs : List ℕ) → n ≤ length xs → n ≢ 0 → 0 < length (take n xs)
took_some n xs le ne = omega (arith, length-take n xs, le, ne)

-- the first i streams gave nothing, and the others were not asked
abbrev pub LookedTo : {S : Type 0} → (S → Option (List ℕ)) → ℕ → List (LaneState S) → List (LaneState S) → Type 0
LookedTo left zero olds news = news ≡ olds
LookedTo left (suc i) [] news = news ≡ []
LookedTo left (suc i) (a ∷ olds) [] = ⊥
LookedTo left (suc i) (a ∷ olds) (b ∷ news) = Rests left a b × LookedTo left i olds news

looked_zero : {S : Type 0} (left : S → Option (List ℕ)) (news : List (LaneState S)) (d b : LaneState S)
    → 0 < length news → Rests left (get_or news 0 d) b → LookedTo left (suc zero) news (slice_set news 0 b)
looked_zero left [] d b lt r = let no : ⊥ = omega (arith, lt) in absurd no
looked_zero left (n ∷ news) d b lt r = (r, refl)

looked_suc : {S : Type 0} (left : S → Option (List ℕ)) (i : ℕ) (olds news : List (LaneState S)) (d b : LaneState S)
    → LookedTo left i olds news → i < length news → Rests left (get_or news i d) b → LookedTo left (suc i) olds (slice_set news i b)
looked_suc left zero olds news d b p lt r = subst (λ os. LookedTo left (suc zero) os (slice_set news 0 b)) p (looked_zero left news d b lt r)
looked_suc left (suc i) [] news d b p lt r = let no : ⊥ = omega (arith, ap length p, lt) in absurd no
looked_suc left (suc i) (o ∷ olds) [] d b p lt r = absurd p
looked_suc left (suc i) (o ∷ olds) (n ∷ news) d b p lt r =
    let more : i < length news = omega (arith, lt) in
    (p.0, looked_suc left i olds news d b p.1 more r)

-- one more gave nothing
pub looked_more : {S : Type 0} (left : S → Option (List ℕ)) (i : ℕ) (olds news : List (LaneState S)) (d b : LaneState S)
    → LookedTo left i olds news → i < length news → Rests left (get_or news i d) b → LookedTo left (i + 1) olds (slice_set news i b)
looked_more left i olds news d b p lt r = subst (λ k. LookedTo left k olds (slice_set news i b)) (sym (add-one i)) (looked_suc left i olds news d b p lt r)

does_zero : {S : Type 0} (left : S → Option (List ℕ)) (Does : LaneState S → LaneState S → Type 0) (news : List (LaneState S)) (d b : LaneState S)
    → 0 < length news → Does (get_or news 0 d) b → FirstDoes left Does news (slice_set news 0 b)
does_zero left Does [] d b lt did = let no : ⊥ = omega (arith, lt) in absurd no
does_zero left Does (n ∷ news) d b lt did = inl (did, refl)

-- the next one did so
pub does_first : {S : Type 0} (left : S → Option (List ℕ)) (Does : LaneState S → LaneState S → Type 0) (i : ℕ) (olds news : List (LaneState S)) (d b : LaneState S)
    → LookedTo left i olds news → i < length news → Does (get_or news i d) b → FirstDoes left Does olds (slice_set news i b)
does_first left Does zero olds news d b p lt did = subst (λ os. FirstDoes left Does os (slice_set news 0 b)) p (does_zero left Does news d b lt did)
does_first left Does (suc i) [] news d b p lt did = let no : ⊥ = omega (arith, ap length p, lt) in absurd no
does_first left Does (suc i) (o ∷ olds) [] d b p lt did = absurd p
does_first left Does (suc i) (o ∷ olds) (n ∷ news) d b p lt did =
    let more : i < length news = omega (arith, lt) in
    inr (p.0, does_first left Does i olds news d b p.1 more did)

rest_zero : {S : Type 0} (left : S → Option (List ℕ)) (news : List (LaneState S)) → length news ≤ 0 → AllRest left news news
rest_zero left [] le = refl
rest_zero left (n ∷ news) le = let no : ⊥ = omega (arith, le) in absurd no

-- all gave nothing
pub all_rest : {S : Type 0} (left : S → Option (List ℕ)) (i : ℕ) (olds news : List (LaneState S)) → LookedTo left i olds news → length news ≤ i → AllRest left olds news
all_rest left zero olds news p le = subst (λ os. AllRest left os news) p (rest_zero left news le)
all_rest left (suc i) [] news p le = p
all_rest left (suc i) (o ∷ olds) [] p le = absurd p
all_rest left (suc i) (o ∷ olds) (n ∷ news) p le =
    let less : length news ≤ i = omega (arith, le) in
    (p.0, all_rest left i olds news p.1 less)

-- none of the first i streams has the node
abbrev pub PassedTo : {S : Type 0} → ℕ → ℕ → List (LaneState S) → Type 0
PassedTo node zero lanes = Unit {0}
PassedTo node (suc i) [] = Unit {0}
PassedTo node (suc i) (a ∷ lanes) = (a.node ≢ node) × PassedTo node i lanes

passed_suc : {S : Type 0} (node i : ℕ) (lanes : List (LaneState S)) (a : LaneState S)
    → PassedTo node i lanes → a ≡ get_or lanes i a → a.node ≢ node → PassedTo node (suc i) lanes
passed_suc node zero [] a p is ne = tt
passed_suc node zero (x ∷ lanes) a p is ne = (subst (λ y. y.node ≢ node) is ne, tt)
passed_suc node (suc i) [] a p is ne = tt
passed_suc node (suc i) (x ∷ lanes) a p is ne = (p.0, passed_suc node i lanes a p.1 is ne)

-- one more has it not
pub passed_more : {S : Type 0} (node i : ℕ) (lanes : List (LaneState S)) (a : LaneState S)
    → PassedTo node i lanes → a ≡ get_or lanes i a → a.node ≢ node → PassedTo node (i + 1) lanes
passed_more node i lanes a p is ne = subst (λ k. PassedTo node k lanes) (sym (add-one i)) (passed_suc node i lanes a p is ne)

puts_first : {S : Type 0} (held : S → Option (List ℕ)) (done : Bool) (node : ℕ) (bytes : List ℕ) (i : ℕ) (lanes : List (LaneState S)) (d e b : LaneState S)
    → PassedTo node i lanes → i < length lanes → (get_or lanes i d).node ≡ node → PutsOnce held done bytes (get_or lanes i e) b
    → Puts held done node bytes lanes (slice_set lanes i b)
puts_first held done node bytes i [] d e b p lt has put = let no : ⊥ = omega (arith, lt) in absurd no
puts_first held done node bytes zero (x ∷ lanes) d e b p lt has put =
    inl (has, put, refl)
puts_first held done node bytes (suc i) (x ∷ lanes) d e b p lt has put =
    let more : i < length lanes = omega (arith, lt) in
    inr (p.0, refl, puts_first held done node bytes i lanes d e b p.1 more has put)

-- the next one has it
pub puts_at : {S : Type 0} (held : S → Option (List ℕ)) (done : Bool) (node : ℕ) (bytes : List ℕ) (i : ℕ) (olds lanes : List (LaneState S)) (d e b : LaneState S)
    → PassedTo node i lanes → lanes ≡ olds → i < length lanes → (get_or lanes i d).node ≡ node → PutsOnce held done bytes (get_or lanes i e) b
    → Puts held done node bytes olds (slice_set lanes i b)
puts_at held done node bytes i olds lanes d e b p same lt has put =
    subst (λ os. Puts held done node bytes os (slice_set lanes i b)) same (puts_first held done node bytes i lanes d e b p lt has put)

puts_no : {S : Type 0} (held : S → Option (List ℕ)) (node : ℕ) (bytes : List ℕ) (i : ℕ) (lanes : List (LaneState S)) → PassedTo node i lanes → length lanes ≤ i → Puts held false node bytes lanes lanes
puts_no held node bytes i [] p le = (refl, refl)
puts_no held node bytes zero (x ∷ lanes) p le = let no : ⊥ = omega (arith, le) in absurd no
puts_no held node bytes (suc i) (x ∷ lanes) p le =
    let less : length lanes ≤ i = omega (arith, le) in
    inr (p.0, refl, puts_no held node bytes i lanes p.1 less)

-- none has it
pub puts_none : {S : Type 0} (held : S → Option (List ℕ)) (node : ℕ) (bytes : List ℕ) (i : ℕ) (olds lanes : List (LaneState S)) → PassedTo node i lanes → lanes ≡ olds → length lanes ≤ i → Puts held false node bytes olds lanes
puts_none held node bytes i olds lanes p same le = subst (λ os. Puts held false node bytes os lanes) same (puts_no held node bytes i lanes p le)

-- a write that takes some or none leaves a front written
pub part_written : {E : Type 0} (a b c : Option (List ℕ)) (xs : List ℕ) (i : ℕ) (r : Result ℕ E) → Appends a b (take i xs) → WriteAppends b c r (take (length xs - i) (drop i xs)) → AppendsPart a c xs
part_written a b c xs i (Ok n) p q = (take (i + n) xs, drop (i + n) xs, sym (take-append-drop (i + n) xs), piece_appended a b c xs i n p q)
part_written a b c xs i (Err e) p k = piece_refused a b c xs i p k
