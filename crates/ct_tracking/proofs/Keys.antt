-- Keys that are put into a set in their order.
use Rattle.std.proofs.Common.{◌≡◌, List, [], ◌∷◌, ◌++◌, ℕ, refl, sym, ◌∙◌, ap, subst}
use Rattle.std.specs.BTreeSet.{insert_key}
use Rattle.std.specs.Cmp.Lexicographic.{nat_list_cmp_total}
use Rattle.std.specs.List.{AllByRecursion}
use Rattle.std.specs.List.Sorted.{IsStrictlySortedBy}
use Rattle.std.specs.Ordering.{ordering_reverse, match_ordering}
use Rattle.std.specs.declared.cmp.Ordering.TheVariants.{Less}
use Rattle.ct_values.specs.Key.{key_cmp}
use Rattle.ct_tracking.specs.Candidates.{Ascends}

behind : (P : List ℕ → Type 0) (ks rest : List (List ℕ)) (k : List ℕ) → AllByRecursion P (ks ++ k ∷ rest) → P k
behind P [] rest k all = all.0
behind P (x ∷ ks) rest k all = behind P ks rest k all.1

-- a key above all that are there goes to the end
last_key : (ks rest : List (List ℕ)) (k : List ℕ) → Ascends (ks ++ k ∷ rest) → insert_key key_cmp ks k ++ rest ≡ ks ++ k ∷ rest
unfolding IsStrictlySortedBy
last_key [] rest k a = refl
last_key (x ∷ ks) rest k a =
    let greater = nat_list_cmp_total.antisymm k x ∙ ap ordering_reverse (behind (λ q. key_cmp x q ≡ Less) ks rest k a.0) in
    ap (λ o. match_ordering o (k ∷ x ∷ ks) (x ∷ ks) (x ∷ insert_key key_cmp ks k) ++ rest) greater ∙ ap (λ l. x ∷ l) (last_key ks rest k a.1)

-- one key more of those that are left, in order
pub one_more : (ks more left rest all : List (List ℕ)) (k : List ℕ) → Ascends all → ks ++ left ≡ all → left ≡ k ∷ rest → more ≡ insert_key key_cmp ks k → more ++ rest ≡ all
one_more ks more left rest all k a e l m =
    let whole = ap (λ xs. ks ++ xs) (sym l) ∙ e in
    ap (λ xs. xs ++ rest) m ∙ last_key ks rest k (subst Ascends (sym whole) a) ∙ whole
