-- What is shown of what a traverse keeps.
use Rattle.std.proofs.Common.{◌≡◌, ◌≢◌, ℕ, Bool, true, false, cond, List, [], ◌∷◌, ◌++◌, map, Option, None, Some, refl, sym, ap, ◌∙◌, subst, ⊎_elim}
use Rattle.std.specs.Prelude.{◌⊎◌, ◌&&◌, not, bytes_eq}
use Rattle.std.specs.List.{AllByRecursion}
use Rattle.std.specs.List.Sorted.{IsStrictlySortedBy}
use Rattle.std.specs.Map.{keys_of}
use Rattle.std.specs.Cmp.{eq_by_cmp_equiv}
use Rattle.std.specs.declared.cmp.Ordering.TheVariants.{Less}
use Rattle.std.proofs.lemmas.Bool.{cases_Bool}
use Rattle.std.proofs.lemmas.Slice.Eq.{bytes_eq-Decides}
use Rattle.ct_values.specs.Key.{key_cmp}
use Rattle.ct_values.specs.Words.{is_nil}
use Rattle.ct_values.specs.declared.client.Pair.{Pair}
use Rattle.ct_frame.specs.declared.frame.TableRow.{TableRow}
use Rattle.ct_store.specs.Map.{Pairs, Ascends, look}
use Rattle.ct_store.proofs.Maps.{empty_ascends, write_ascends, key_total, apart}
use Rattle.ct_register.specs.Lines.{Lines}
use Rattle.ct_traverse_parts.proofs.Exact.{all_apart}
use Rattle.ct_traverse_parts.specs.Best.{is_shown, merged, gathered, shown}
use Rattle.ct_traverse_parts.specs.Kept.{Batch, kept_of}
use Rattle.ct_traverse_parts.specs.declared.best.Best.{Best}
use Rattle.ct_traverse_parts.specs.declared.line.Pass.{Pass}
use Rattle.ct_law_traverse.specs.Snapshot.{WasReadIn, value_shown, IsShownSince, IsSnapshot}

-- ---- what is kept

gathered_ascends : (pass : Pass) (node : ℕ) (rows : List TableRow) (kept : Pairs Best) → Ascends kept → Ascends (gathered pass node rows kept)
unfolding gathered
gathered_ascends pass node [] kept h = h
gathered_ascends pass node (row ∷ rows) kept h = gathered_ascends pass node rows _ (write_ascends kept row.key (merged pass node row (look row.key kept)) h)

kept_ascends_from : (bs : List Batch) (kept : Pairs Best) → Ascends kept → Ascends (kept_of bs kept)
unfolding kept_of
kept_ascends_from [] kept h = h
kept_ascends_from (b ∷ bs) kept h = kept_ascends_from bs (gathered b.pass b.node b.rows kept) (gathered_ascends b.pass b.node b.rows kept h)

pub kept_ascends : (bs : List Batch) → Ascends (kept_of bs [])
kept_ascends bs = kept_ascends_from bs [] (empty_ascends Best)

pub kept_more : (bs : List Batch) (b : Batch) (kept : Pairs Best) → kept_of (bs ++ b ∷ []) kept ≡ gathered b.pass b.node b.rows (kept_of bs kept)
unfolding kept_of
kept_more [] b kept = refl
kept_more (c ∷ bs) b kept = kept_more bs b (gathered c.pass c.node c.rows kept)

-- ---- what is shown

shown_value : Option Best → Option (List ℕ)
shown_value None = None
shown_value (Some b) = cond (is_shown b) (Some b.value) None

-- a pair with this key, or with another, stands first
value_own : (key : List ℕ) (p : Pair) (ps : List Pair) → p.key ≡ key → value_shown key (p ∷ ps) ≡ Some p.value
unfolding value_shown
value_own key p ps is = ap (λ (b : Bool). cond b (Some p.value) (value_shown key ps)) ((bytes_eq-Decides p.key key).1 is)

other_false : (a b : List ℕ) → a ≢ b → bytes_eq a b ≡ false
other_false a b ne = ⊎_elim (λ (t : bytes_eq a b ≡ true). absurd (ne ((bytes_eq-Decides a b).0 t))) (λ (f : bytes_eq a b ≡ false). f) (cases_Bool (bytes_eq a b))

value_other : (key : List ℕ) (p : Pair) (ps : List Pair) → p.key ≢ key → value_shown key (p ∷ ps) ≡ value_shown key ps
unfolding value_shown
value_other key p ps ne = ap (λ (b : Bool). cond b (Some p.value) (value_shown key ps)) (other_false p.key key ne)

none_shown : (key : List ℕ) (kept : Pairs Best) → AllByRecursion (λ q. key ≢ q) (keys_of kept) → value_shown key (shown kept) ≡ None
unfolding shown value_shown
none_shown key [] h = refl
none_shown key (e ∷ m) h = ⊎_elim
    (λ (t : is_shown e.1 ≡ true). rw t (value_other key (record { key = e.0; value = e.1.value }) (shown m) (λ is. h.0 (sym is)) ∙ none_shown key m h.1))
    (λ (f : is_shown e.1 ≡ false). rw f (none_shown key m h.1))
    (cases_Bool (is_shown e.1))

own_shown : (key : List ℕ) (b : Best) (m : Pairs Best) → AllByRecursion (λ q. key ≢ q) (keys_of m) → value_shown key (shown ((key, b) ∷ m)) ≡ shown_value (Some b)
unfolding shown shown_value
own_shown key b m h = ⊎_elim
    (λ (t : is_shown b ≡ true). rw t (value_own key (record { key = key; value = b.value }) (shown m) refl))
    (λ (f : is_shown b ≡ false). rw f (none_shown key m h))
    (cases_Bool (is_shown b))

other_shown : (key : List ℕ) (e : List ℕ × Best) (m : Pairs Best) → e.0 ≢ key → value_shown key (shown (e ∷ m)) ≡ value_shown key (shown m)
unfolding shown
other_shown key e m ne = ⊎_elim
    (λ (t : is_shown e.1 ≡ true). rw t (value_other key (record { key = e.0; value = e.1.value }) (shown m) ne))
    (λ (f : is_shown e.1 ≡ false). rw f refl)
    (cases_Bool (is_shown e.1))

look_own : (key : List ℕ) (b : Best) (m : Pairs Best) → look key ((key, b) ∷ m) ≡ Some b
look_own key b m = ap (λ (t : Bool). cond t (Some b) (look key m)) ((eq_by_cmp_equiv key_total).refl key)

look_other : (key : List ℕ) (e : List ℕ × Best) (m : Pairs Best) → e.0 ≢ key → look key (e ∷ m) ≡ look key m
look_other key e m ne = ap (λ (t : Bool). cond t (Some e.1) (look key m)) (apart key e.0 (λ is. ne (sym is)))

shown_is : (key : List ℕ) (kept : Pairs Best) → Ascends kept → value_shown key (shown kept) ≡ shown_value (look key kept)
unfolding shown value_shown shown_value IsStrictlySortedBy
shown_is key [] h = refl
shown_is key (e ∷ m) h = ⊎_elim
    (λ (t : bytes_eq e.0 key ≡ true).
    let is : e.0 ≡ key = (bytes_eq-Decides e.0 key).0 t in
    subst (λ (k : List ℕ). value_shown key (shown ((k, e.1) ∷ m)) ≡ shown_value (look key ((k, e.1) ∷ m))) (sym is)
    (own_shown key e.1 m (all_apart key (keys_of m) (subst (λ (k : List ℕ). AllByRecursion (λ q. key_cmp k q ≡ Less) (keys_of m)) is h.0)) ∙ sym (ap (λ (o : Option Best). shown_value o) (look_own key e.1 m))))
    (λ (f : bytes_eq e.0 key ≡ false).
    let ne : e.0 ≢ key = (λ is. absurd (let t : bytes_eq e.0 key ≡ true = (bytes_eq-Decides e.0 key).1 is in cc)) in
    other_shown key e m ne ∙ shown_is key m h.1 ∙ sym (ap (λ (o : Option Best). shown_value o) (look_other key e m ne)))
    (cases_Bool (bytes_eq e.0 key))

-- ---- keys ascend

shown_keys : (P : List ℕ → Type 0) (kept : Pairs Best) → AllByRecursion P (keys_of kept) → AllByRecursion P (map (λ (p : Pair). p.key) (shown kept))
unfolding shown
shown_keys P [] h = tt
shown_keys P (e ∷ m) h = ⊎_elim
    (λ (t : is_shown e.1 ≡ true). rw t (h.0, shown_keys P m h.1))
    (λ (f : is_shown e.1 ≡ false). rw f (shown_keys P m h.1))
    (cases_Bool (is_shown e.1))

shown_order : (kept : Pairs Best) → Ascends kept → IsStrictlySortedBy key_cmp (map (λ (p : Pair). p.key) (shown kept))
unfolding shown IsStrictlySortedBy
shown_order [] h = tt
shown_order (e ∷ m) h = ⊎_elim
    (λ (t : is_shown e.1 ≡ true). rw t (shown_keys (λ q. key_cmp e.0 q ≡ Less) m h.0, shown_order m h.1))
    (λ (f : is_shown e.1 ≡ false). rw f (shown_order m h.1))
    (cases_Bool (is_shown e.1))

-- ---- the answer

-- where an entry came, what is kept was read; where none did, the empty value was
unfoldable pub KeptSince : List Lines → ℕ → ℕ → List ℕ → Option Best → Type 0
KeptSince since g db key None = WasReadIn g db key [] since
KeptSince since g db key (Some best) = (best.has_entry ≡ true → WasReadIn g db key best.value since) × (best.has_entry ≡ false → WasReadIn g db key [] since)

one_since : (since : List Lines) (g db : ℕ) (key : List ℕ) (has : Bool) (value : List ℕ) → (has ≡ true → WasReadIn g db key value since) → (has ≡ false → WasReadIn g db key [] since) →
    IsShownSince since g db key (cond (has && not (is_nil value)) (Some value) None)
unfolding IsShownSince
one_since since g db key true [] came none = came refl
one_since since g db key true (b ∷ bs) came none = came refl
one_since since g db key false value came none = none refl

shown_since : (since : List Lines) (g db : ℕ) (key : List ℕ) (o : Option Best) → KeptSince since g db key o → IsShownSince since g db key (shown_value o)
unfolding KeptSince shown_value IsShownSince
shown_since since g db key None h = h
shown_since since g db key (Some best) h = one_since since g db key best.has_entry best.value h.0 h.1

pub is_snapshot : (since : List Lines) (g db : ℕ) (kept : Pairs Best) → Ascends kept → ((key : List ℕ) → KeptSince since g db key (look key kept)) → IsSnapshot since g db (shown kept)
is_snapshot since g db kept order h = record {
  order = shown_order kept order;
  shown = λ key. subst (λ (o : Option (List ℕ)). IsShownSince since g db key o) (sym (shown_is key kept order)) (shown_since since g db key (look key kept) (h key));
}
