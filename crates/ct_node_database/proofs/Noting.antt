-- Which keys are noted, as states are put and taken out.
use Rattle.std.proofs.Common.{◌≡◌, ◌≢◌, ℕ, Bool, true, false, cond, not, ◌||◌, List, [], ◌∷◌, Option, None, Result, Ok, Err, OnOk, OnErr, refl, sym, ◌∙◌, ap, subst}
use Rattle.std.proofs.lemmas.Bool.{cond_both}
use Rattle.std.specs.BTreeMap.{is_at}
use Rattle.std.specs.BTreeSet.{insert_key}
use Rattle.std.specs.Ordering.{is_eq, match_ordering}
use Rattle.std.specs.declared.cmp.Ordering.{Ordering}
use Rattle.std.specs.declared.cmp.Ordering.TheVariants.{Less, Equal, Greater}
use Rattle.ct_values.specs.Key.{key_cmp}
use Rattle.ct_store.specs.Map.{Pairs, Ascends, look, write, erase}
use Rattle.ct_store.proofs.Maps.{one_key, itself, equal, apart, written, not_written, erased, not_erased}
use Rattle.ct_tracking.specs.Candidates.{noted, forgotten}
use Rattle.ct_rules.specs.State.{is_blank}
use Rattle.ct_rules.specs.declared.state.RecState.{RecState}
use Rattle.ct_rules_node.specs.Node.{or_nothing}
use Rattle.ct_node_database.specs.Noted.{is_deleted, is_noted, is_worth, IsTidy}

or_right : (a b : Bool) → b ≡ true → a || b ≡ true
or_right true b e = refl
or_right false b e = e

or_more : (a b c : Bool) → (b ≡ true → c ≡ true) → a || b ≡ true → a || c ≡ true
or_more true b c f e = refl
or_more false b c f e = f e

-- ---- noting and forgetting

noted_by : (k x : List ℕ) (keys : List (List ℕ)) (o : Ordering) → key_cmp k x ≡ o → is_noted k (insert_key key_cmp keys k) ≡ true
    → is_noted k (match_ordering o (k ∷ x ∷ keys) (x ∷ keys) (x ∷ insert_key key_cmp keys k)) ≡ true
noted_by k x keys Less e i = ap (λ b. b || is_noted k (x ∷ keys)) (itself k)
noted_by k x keys Equal e i = ap (λ o. is_eq o || is_noted k keys) e
noted_by k x keys Greater e i = or_right (is_at (key_cmp k) x) _ i

pub noted_itself : (k : List ℕ) (keys : List (List ℕ)) → is_noted k (noted k keys) ≡ true
noted_itself k [] = ap (λ b. b || false) (itself k)
noted_itself k (x ∷ keys) = noted_by k x keys (key_cmp k x) refl (noted_itself k keys)

noted_more_by : (q k x : List ℕ) (keys : List (List ℕ)) (o : Ordering) → (is_noted q keys ≡ true → is_noted q (insert_key key_cmp keys k) ≡ true) → is_noted q (x ∷ keys) ≡ true
    → is_noted q (match_ordering o (k ∷ x ∷ keys) (x ∷ keys) (x ∷ insert_key key_cmp keys k)) ≡ true
noted_more_by q k x keys Less f e = or_right (is_at (key_cmp q) k) _ e
noted_more_by q k x keys Equal f e = e
noted_more_by q k x keys Greater f e = or_more (is_at (key_cmp q) x) (is_noted q keys) _ f e

pub noted_more : (q k : List ℕ) (keys : List (List ℕ)) → is_noted q keys ≡ true → is_noted q (noted k keys) ≡ true
noted_more q k [] e = absurd (cc)
noted_more q k (x ∷ keys) e = noted_more_by q k x keys (key_cmp k x) (noted_more q k keys) e

forgotten_by : (q k x : List ℕ) (keys : List (List ℕ)) → q ≢ k → (b : Bool) → is_at (key_cmp k) x ≡ b → (is_noted q keys ≡ true → is_noted q (forgotten k keys) ≡ true) → is_noted q (x ∷ keys) ≡ true
    → is_noted q (cond b keys (x ∷ forgotten k keys)) ≡ true
forgotten_by q k x keys n true t f e = subst (λ (y : List ℕ). is_at (key_cmp q) y || is_noted q keys ≡ true → is_noted q keys ≡ true) (one_key k x (equal _ t)) (λ h. ap (λ b. b || is_noted q keys) (sym (apart q k n)) ∙ h) e
forgotten_by q k x keys n false t f e = or_more (is_at (key_cmp q) x) (is_noted q keys) _ f e

pub forgotten_others : (q k : List ℕ) (keys : List (List ℕ)) → q ≢ k → is_noted q keys ≡ true → is_noted q (forgotten k keys) ≡ true
forgotten_others q k [] n e = e
forgotten_others q k (x ∷ keys) n e = forgotten_by q k x keys n (is_at (key_cmp k) x) refl (forgotten_others q k keys n) e

-- ---- one key, and the others

-- what holds at a key and at all others holds everywhere
everywhere : (P : List ℕ → Type 0) (k : List ℕ) → P k → ((q : List ℕ) → q ≢ k → P q) → (q : List ℕ) → P q
everywhere P k at others q = cond_both (is_at (key_cmp q) k) true false (λ (_ : Bool). P q)
    (λ t. subst P (sym (one_key q k (equal _ t))) at) (λ f. others q (λ e. absurd (let h = ap (λ (x : List ℕ). is_at (key_cmp x) k) e ∙ itself k in cc)))

not_true : (b : Bool) → b ≡ false → not b ≡ true
not_true b e = ap not e

-- ---- a state is put, or taken out

pub tidy_empty : IsTidy [] []
unfolding is_deleted or_nothing is_worth
tidy_empty = record { noted = λ key e. absurd (cc); worth = λ key. refl }

pub tidy_more : (keys : List (List ℕ)) (m : Pairs RecState) (k : List ℕ) → IsTidy keys m → IsTidy (noted k keys) m
tidy_more keys m k h = record { noted = λ q e. noted_more q k keys (h.noted q e); worth = h.worth }

written_worth : (m : Pairs RecState) (k : List ℕ) (s : RecState) → is_blank s ≡ false → ((q : List ℕ) → is_worth (look q m) ≡ true) → (q : List ℕ) → is_worth (look q (write k s m)) ≡ true
unfolding is_worth
written_worth m k s b h = everywhere (λ (q : List ℕ). is_worth (look q (write k s m)) ≡ true) k (ap is_worth (written m k s) ∙ not_true _ b) (λ q n. ap is_worth (not_written m k q s n) ∙ h q)

-- a state that is put, with its key noted
pub tidy_noted : (keys : List (List ℕ)) (m : Pairs RecState) (k : List ℕ) (s : RecState) → is_blank s ≡ false → IsTidy keys m → IsTidy (noted k keys) (write k s m)
tidy_noted keys m k s b h = record {
  noted = everywhere (λ (q : List ℕ). is_deleted (or_nothing (look q (write k s m))).copy ≡ true → is_noted q (noted k keys) ≡ true) k (λ _. noted_itself k keys)
      (λ q n e. noted_more q k keys (h.noted q (ap (λ (x : Option RecState). is_deleted (or_nothing x).copy) (sym (not_written m k q s n)) ∙ e)));
  worth = written_worth m k s b h.worth;
}

-- a state that is put and is not deleted, with its key forgotten
pub tidy_forgotten : (keys : List (List ℕ)) (m : Pairs RecState) (k : List ℕ) (s : RecState) → is_blank s ≡ false → is_deleted s.copy ≡ false → IsTidy keys m → IsTidy (forgotten k keys) (write k s m)
unfolding or_nothing
tidy_forgotten keys m k s b d h = record {
  noted = everywhere (λ (q : List ℕ). is_deleted (or_nothing (look q (write k s m))).copy ≡ true → is_noted q (forgotten k keys) ≡ true) k
      (λ e. absurd (let h = ap (λ (x : Option RecState). is_deleted (or_nothing x).copy) (sym (written m k s)) ∙ e in cc))
      (λ q n e. forgotten_others q k keys n (h.noted q (ap (λ (x : Option RecState). is_deleted (or_nothing x).copy) (sym (not_written m k q s n)) ∙ e)));
  worth = written_worth m k s b h.worth;
}

-- with its key noted still
pub after_kept : (keys : List (List ℕ)) (m n : Pairs RecState) (k : List ℕ) (s : RecState) → n ≡ write k s m → is_blank s ≡ false → is_deleted s.copy ≡ false → IsTidy keys m → IsTidy keys n
unfolding or_nothing
after_kept keys m n k s i b d h = subst (λ (x : Pairs RecState). IsTidy keys x) (sym i) (record {
  noted = everywhere (λ (q : List ℕ). is_deleted (or_nothing (look q (write k s m))).copy ≡ true → is_noted q keys ≡ true) k
      (λ e. absurd (let h = ap (λ (x : Option RecState). is_deleted (or_nothing x).copy) (sym (written m k s)) ∙ e in cc))
      (λ q n e. h.noted q (ap (λ (x : Option RecState). is_deleted (or_nothing x).copy) (sym (not_written m k q s n)) ∙ e));
  worth = written_worth m k s b h.worth;
})

-- a state that is taken out, with its key forgotten
pub tidy_erased : (keys : List (List ℕ)) (m : Pairs RecState) (k : List ℕ) → Ascends m → IsTidy keys m → IsTidy (forgotten k keys) (erase k m)
unfolding or_nothing is_deleted is_worth
tidy_erased keys m k a h = record {
  noted = everywhere (λ (q : List ℕ). is_deleted (or_nothing (look q (erase k m))).copy ≡ true → is_noted q (forgotten k keys) ≡ true) k
      (λ e. absurd (let h = ap (λ (x : Option RecState). is_deleted (or_nothing x).copy) (sym (erased m k a)) ∙ e in cc))
      (λ q n e. forgotten_others q k keys n (h.noted q (ap (λ (x : Option RecState). is_deleted (or_nothing x).copy) (sym (not_erased m k q n)) ∙ e)));
  worth = everywhere (λ (q : List ℕ). is_worth (look q (erase k m)) ≡ true) k (ap is_worth (erased m k a)) (λ q n. ap is_worth (not_erased m k q n) ∙ h.worth q);
}

-- ---- after a call that puts or takes out

-- a deleted state was put, or memory ran out once its key was noted
pub after_deleted : {E : Type 0} (keys more : List (List ℕ)) (m n : Pairs RecState) (k : List ℕ) (s : RecState) (r : Result (Unit {0}) E) →
    more ≡ noted k keys → OnOk r (n ≡ write k s m) → OnErr r (n ≡ m) → is_blank s ≡ false → IsTidy keys m → IsTidy more n
after_deleted keys more m n k s (Ok u) e ok err b h = subst (λ (x : List (List ℕ)). IsTidy x n) (sym e) (subst (λ (x : Pairs RecState). IsTidy (noted k keys) x) (sym ok) (tidy_noted keys m k s b h))
after_deleted keys more m n k s (Err f) e ok err b h = subst (λ (x : List (List ℕ)). IsTidy x n) (sym e) (subst (λ (x : Pairs RecState). IsTidy (noted k keys) x) (sym err) (tidy_more keys m k h))

-- a state was taken out
pub after_erase : (keys more : List (List ℕ)) (m n : Pairs RecState) (k : List ℕ) → more ≡ forgotten k keys → n ≡ erase k m → Ascends m → IsTidy keys m → IsTidy more n
after_erase keys more m n k e i a h = subst (λ (x : List (List ℕ)). IsTidy x n) (sym e) (subst (λ (x : Pairs RecState). IsTidy (forgotten k keys) x) (sym i) (tidy_erased keys m k a h))

-- ---- a deleted record gets another state

-- it has one
pub deleted_is_there : (m : Pairs RecState) (k : List ℕ) → is_deleted (or_nothing (look k m)).copy ≡ true → look k m ≢ None
unfolding or_nothing is_deleted
deleted_is_there m k d e = absurd (let h = ap (λ (x : Option RecState). is_deleted (or_nothing x).copy) (sym e) ∙ d in cc)

-- its key stays noted
tidy_still : (keys : List (List ℕ)) (m : Pairs RecState) (k : List ℕ) (s : RecState) → is_blank s ≡ false → is_noted k keys ≡ true → IsTidy keys m → IsTidy keys (write k s m)
tidy_still keys m k s b i h = record {
  noted = everywhere (λ (q : List ℕ). is_deleted (or_nothing (look q (write k s m))).copy ≡ true → is_noted q keys ≡ true) k (λ _. i)
      (λ q n e. h.noted q (ap (λ (x : Option RecState). is_deleted (or_nothing x).copy) (sym (not_written m k q s n)) ∙ e));
  worth = written_worth m k s b h.worth;
}

pub after_still : (keys : List (List ℕ)) (m n : Pairs RecState) (k : List ℕ) (s : RecState) → n ≡ write k s m → is_blank s ≡ false → is_deleted (or_nothing (look k m)).copy ≡ true → IsTidy keys m → IsTidy keys n
after_still keys m n k s e b d h = subst (λ (x : Pairs RecState). IsTidy keys x) (sym e) (tidy_still keys m k s b (h.noted k d) h)

pub after_forgotten : (keys more : List (List ℕ)) (m n : Pairs RecState) (k : List ℕ) (s : RecState) → more ≡ forgotten k keys → n ≡ write k s m → is_blank s ≡ false → is_deleted s.copy ≡ false → IsTidy keys m → IsTidy more n
after_forgotten keys more m n k s e i b d h = subst (λ (x : List (List ℕ)). IsTidy x n) (sym e) (subst (λ (x : Pairs RecState). IsTidy (forgotten k keys) x) (sym i) (tidy_forgotten keys m k s b d h))
