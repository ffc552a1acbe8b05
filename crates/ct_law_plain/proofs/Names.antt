-- No two databases of a configuration have one name: so no two commits stand under one lock.
use Rattle.std.proofs.Common.{◌≡◌, ◌≢◌, ℕ, zero, suc, ◌+◌, ◌<◌, ◌≤◌, Bool, true, false, cond, ◌||◌, List, [], ◌∷◌, ◌++◌, length, Option, Some, None, refl, sym, ap, ◌∙◌, subst, arith, append_assoc, ⊎_elim}
use Rattle.std.specs.Prelude.{slice_get, nat_lt, option_map, Ok}
use Rattle.std.specs.List.{list_any}
use Rattle.std.proofs.lemmas.Bool.{cases_eq, ltb-true, ltb-false, or_right}
use Rattle.std.proofs.lemmas.Slice.Eq.{bytes_eq-Decides}
use Rattle.ct_values.specs.declared.address.Address.{Address}
use Rattle.ct_values.specs.Config.{Configures, config_fault, repeat_from, repeated_name, repeated_address, first_place, same_name, lock_db}
use Rattle.ct_values.specs.declared.config.Config.{Config}
use Rattle.ct_values.specs.declared.config.ConfigFault.{ConfigFault}
use Rattle.ct_values.specs.declared.config.ConfigFault.TheVariants.{Repeated}
use Rattle.ct_values.specs.declared.config.DbDecl.{DbDecl}
use Rattle.ct_rules_node.specs.Node.{name_of, name_in}

any_at : (f : DbDecl → Bool) (ys : List DbDecl) (k : ℕ) (y : DbDecl) → slice_get ys k ≡ Some y → f y ≡ true → list_any f ys ≡ true
any_at f [] k y e h = absurd (cc)
any_at f (x ∷ ys) zero y e h = (let same : x ≡ y = cc in rw same (rw h refl))
any_at f (x ∷ ys) (suc k) y e h = or_right (f x) _ (any_at f ys k y e h)

front_at : (xs ys : List DbDecl) (a : ℕ) → a < length xs → slice_get (xs ++ ys) a ≡ slice_get xs a
front_at [] ys a l = absurd (omega arith)
front_at (x ∷ xs) ys zero l = refl
front_at (x ∷ xs) ys (suc a) l = front_at xs ys a (omega arith)

one_more : (xs : List DbDecl) (x : DbDecl) → length (xs ++ x ∷ []) ≡ suc (length xs)
one_more [] x = refl
one_more (y ∷ xs) x = ap (λ (n : ℕ). suc n) (one_more xs x)

not_repeated : (b : Bool) (i : ℕ) (r : Option ℕ) → cond b (Some i) r ≡ None → (b ≡ false) × (r ≡ None)
not_repeated true i r e = absurd (cc)
not_repeated false i r e = (refl, e)

-- where none repeats, each is unlike all before it
unlike : (before xs : List DbDecl) (i : ℕ) → repeat_from same_name before i xs ≡ None → (k : ℕ) (y : DbDecl) → slice_get xs k ≡ Some y → (a : ℕ) (x : DbDecl) → a < length before + k → slice_get (before ++ xs) a ≡ Some x → same_name y x ≡ true → ⊥
unlike before [] i n k y e a x l f same = absurd (cc)
unlike before (z ∷ xs) i n zero y e a x l f same =
    let is : z ≡ y = cc in
    let none = (not_repeated (list_any (same_name z) before) i _ n).0 in
    let any = any_at (same_name z) before a x (sym (front_at before (z ∷ xs) a (omega arith)) ∙ f) (ap (λ (d : DbDecl). same_name d x) is ∙ same) in
    absurd (cc)
unlike before (z ∷ xs) i n (suc k) y e a x l f same =
    let more = one_more before z in
    unlike (before ++ z ∷ []) xs (i + 1) (not_repeated (list_any (same_name z) before) i _ n).1 k y e a x (omega arith) (ap (λ (ds : List DbDecl). slice_get ds a) (append_assoc before (z ∷ []) xs) ∙ f) same

some_at : (xs : List DbDecl) (k : ℕ) → k < length xs → (x : DbDecl) × (slice_get xs k ≡ Some x)
some_at [] k l = absurd (omega arith)
some_at (x ∷ xs) zero l = (x, refl)
some_at (x ∷ xs) (suc k) l = some_at xs k (omega arith)

no_fault : (b : Bool) (f : ConfigFault) (r : Option ConfigFault) → cond b (Some f) r ≡ None → r ≡ None
no_fault true f r e = absurd (cc)
no_fault false f r e = e

no_name_twice : (a b : Option ℕ) → option_map Repeated (first_place a b) ≡ None → a ≡ None
no_name_twice None b e = refl
no_name_twice (Some i) b e = absurd (cc)

fresh_names : (nodes : ℕ) (dbs : List DbDecl) (addresses : List Address) → config_fault nodes dbs addresses ≡ None → repeated_name dbs ≡ None
fresh_names nodes dbs addresses e =
    let a = no_fault (nat_lt nodes 1 || nat_lt 16 nodes) _ _ e in
    let b = no_fault (nat_lt 15 (length dbs) || nat_lt 64 (length addresses)) _ _ a in
    no_name_twice (repeated_name dbs) (repeated_address addresses) b

-- a later one has another name
later_differs : (dbs : List DbDecl) → repeated_name dbs ≡ None → (i j : ℕ) → i < j → j < length (lock_db ∷ dbs) → name_in (slice_get (lock_db ∷ dbs) i) ≡ name_in (slice_get (lock_db ∷ dbs) j) → ⊥
unfolding name_in
later_differs dbs n i zero l m e = absurd (omega arith)
later_differs dbs n i (suc j) l m e =
    let y = some_at dbs j (omega arith) in
    let x = some_at (lock_db ∷ dbs) i (omega arith) in
    let a : x.0.name ≡ name_in (slice_get (lock_db ∷ dbs) i) = sym (ap name_in x.1) in
    let b : name_in (slice_get dbs j) ≡ y.0.name = ap name_in y.1 in
    unlike (lock_db ∷ []) dbs 0 n j y.0 y.1 i x.0 (omega arith) x.1 ((bytes_eq-Decides y.0.name x.0.name).1 (sym (a ∙ e ∙ b)))

names_apart : (dbs : List DbDecl) → repeated_name dbs ≡ None → (i j : ℕ) → i < length (lock_db ∷ dbs) → j < length (lock_db ∷ dbs) → name_in (slice_get (lock_db ∷ dbs) i) ≡ name_in (slice_get (lock_db ∷ dbs) j) → i ≡ j
names_apart dbs n i j l m e = ⊎_elim (λ (is : i ≡ j). is) (λ (ne : i ≢ j). by (nat_lt i j) refl ne) (cases_eq i j)
  where
    below : j ≤ i → i ≢ j → j < i
    below u ne = omega arith

    by : (b : Bool) → nat_lt i j ≡ b → i ≢ j → i ≡ j
    by true t ne = absurd (later_differs dbs n i j (ltb-true i j t) m e)
    by false t ne = (let u = ltb-false i j t in absurd (later_differs dbs n j i (below u ne) l (sym e)))

-- two databases of one name are one
pub names_differ : (c : Config) (nodes : ℕ) (dbs : List DbDecl) (addresses : List Address) → Configures (Ok c) nodes dbs addresses → (i j : ℕ) → i < length c.dbs → j < length c.dbs → name_of c i ≡ name_of c j → i ≡ j
unfolding name_of
names_differ c nodes dbs addresses h i j l m e = named c.dbs h.2 l m e
  where
    named : (ds : List DbDecl) → ds ≡ lock_db ∷ dbs → i < length ds → j < length ds → name_in (slice_get ds i) ≡ name_in (slice_get ds j) → i ≡ j
    named ds is = subst (λ (es : List DbDecl). i < length es → j < length es → name_in (slice_get es i) ≡ name_in (slice_get es j) → i ≡ j) (sym is) (names_apart dbs (fresh_names nodes dbs addresses h.0) i j)
