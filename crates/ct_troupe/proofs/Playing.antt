-- One column after the other is played.
use Rattle.std.proofs.Common.{◌≡◌, ℕ, ◌+◌, ◌<◌, ◌≤◌, List, [], ◌∷◌, ◌++◌, length, take, get_or, Option, None, Some, sym, ap, subst, arith}
use Rattle.std.specs.List.{AllZip}
use Rattle.std.specs.Prelude.{IsSomeAnd, MatchOption, slice_get}
use Rattle.std.proofs.lemmas.List.{take_more}
use Rattle.std.proofs.lemmas.Option.{slice_get_past}
use Rattle.std.proofs.lemmas.Slice.Zip.{AllZip-left, AllZip-long}
use Rattle.ct_call.specs.Rules.{Rules}
use Rattle.ct_script.specs.declared.plan.Plan.{Plan}
use Rattle.ct_troupe.specs.Played.{ArePlayed}
use Rattle.ct_troupe.specs.declared.turns.Turns.{Turns}
use Rattle.ct_troupe.specs.Columns.{ArePlayedIn}
use Rattle.ct_troupe.specs.ColumnTurns.{journals_in, or_no_journals}

-- one played the plan last
abbrev pub Plays : Rules → Plan → Turns → Type 0
Plays rules p t = ArePlayed rules p t.journals

zip_more : {A B : Type 0} (R : A → B → Type 0) (xs : List A) (ys : List B) (x : A) (y : B) → AllZip R xs ys → R x y → AllZip R (xs ++ x ∷ []) (ys ++ y ∷ [])
zip_more R [] [] x y h r = (r, tt)
zip_more R [] (b ∷ ys) x y h r = absurd h
zip_more R (a ∷ xs) [] x y h r = absurd h
zip_more R (a ∷ xs) (b ∷ ys) x y h r = (h.0, zip_more R xs ys x y h.1 r)

-- the plans so far are played, and one more
pub one_more : (rules : Rules) (ps : List Plan) (i : ℕ) (d : Plan) (ts next : List Turns) (t : Turns) → AllZip (Plays rules) (take i ps) ts → i < length ps → Plays rules (get_or ps i d) t → next ≡ ts ++ t ∷ []
    → AllZip (Plays rules) (take (i + 1) ps) next
one_more rules ps i d ts next t h l plays is =
    subst (λ (xs : List Turns). AllZip (Plays rules) (take (i + 1) ps) xs) (sym is)
    (subst (λ (qs : List Plan). AllZip (Plays rules) qs (ts ++ t ∷ [])) (sym (take_more ps i d l)) (zip_more (Plays rules) (take i ps) ts (get_or ps i d) t h plays))

has_played : (rules : Rules) (p : Plan) (o : Option Turns) → IsSomeAnd o (Plays rules p) → ArePlayed rules p (or_no_journals o)
unfolding or_no_journals
has_played rules p None h = absurd h
has_played rules p (Some t) h = h

played_at : (rules : Rules) (ps : List Plan) (ts : List Turns) → AllZip (Plays rules) ps ts → (i : ℕ) (p : Plan) → slice_get ps i ≡ Some p → ArePlayed rules p (journals_in ts i)
unfolding journals_in
played_at rules ps ts h i p e =
    has_played rules p (slice_get ts i) (subst (λ (o : Option Plan). MatchOption o (Unit {0}) (λ q. IsSomeAnd (slice_get ts i) (Plays rules q))) e (AllZip-left (Plays rules) ps ts h i))

nobody : (ts : List Turns) (i : ℕ) → length ts ≤ i → journals_in ts i ≡ []
unfolding journals_in or_no_journals
nobody ts i l = ap (λ (o : Option Turns). or_no_journals o) (slice_get_past ts i l)

-- all are played
pub all_played : (rules : Rules) (ps : List Plan) (ts : List Turns) → AllZip (Plays rules) ps ts → ArePlayedIn rules ps (journals_in ts)
all_played rules ps ts h = record {
  played = played_at rules ps ts h;
  beyond = λ i l. nobody ts i (let e = AllZip-long (Plays rules) ps ts h in omega arith);
}

pub none_in : (ts : List Turns) → ts ≡ [] → (i : ℕ) → journals_in ts i ≡ []
none_in ts is i = nobody ts i (let e = ap (λ (xs : List Turns). length xs) is in omega arith)
