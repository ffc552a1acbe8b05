-- Small lemmas of a vacuum: whom it misses, its phases, and copies that are absent or far enough.
use Rattle.std.proofs.Common.{◌≡◌, ◌≢◌, ◌⊎◌, ℕ, ◌≤◌, Bool, true, false, Option, Some, None, List, [], ◌∷◌, refl, ap, inl, inr, ⊎_elim, arith, ◌&&◌, ◌==◌, eqb-true}
use Rattle.std.proofs.lemmas.Bool.{and_parts, cases_eq, false_from_ne_true, true_from_ne_false}
use Rattle.ct_values.specs.Words.{is_nil, others}
use Rattle.ct_values.proofs.Words.{nil_is}
use Rattle.ct_tracking.specs.Awaited.{is_last}
use Rattle.ct_law_record.proofs.Invariant.{Past}
use Rattle.ct_law_record.proofs.Revoking.{has-without}
use Rattle.std.specs.Prelude.{List, nat_eq}
use Rattle.std.specs.List.{list_any}
use Rattle.ct_tracking.specs.Vacuum.{Vacuuming, is_phase, is_in, ends_phase}
use Rattle.ct_tracking.specs.declared.vacuum.VacuumPhase.{VacuumPhase}
use Rattle.ct_tracking.specs.declared.vacuum.VacuumPhase.TheVariants.{Storing, Deleting}
use Rattle.ct_law_record.proofs.Rule.{is_storing, Copy, has_node, rank, value_of}

pub fewer_has : (k n : ℕ) (ns : List ℕ) → has_node k ns ≡ false → has_node k (others n ns) ≡ false
unfolding has_node
fewer_has k n [] h = refl
fewer_has k n (m ∷ ms) h = grind (arith, fewer_has k n ms)

pub not_has : (k n : ℕ) (ns : List ℕ) → k ≢ n → has_node k (others n ns) ≡ false → has_node k ns ≡ false
not_has k n ns ne e = false_from_ne_true _ (λ t. (let a = has-without k n ns ne t in cc))

pub rank_none : (c : Option Copy) → c ≡ None → rank c ≡ 0
unfolding rank
rank_none c e = ap rank e

pub none_rank : (c : Option Copy) → rank c ≡ 0 → c ≡ None
unfolding rank
none_rank None e = refl
none_rank (Some c) e = absurd (omega arith)

pub value_none : (c : Option Copy) → rank c ≡ 0 → value_of c ≡ []
unfolding rank value_of
value_none None e = refl
value_none (Some c) e = absurd (omega arith)

pub past_is : (low : ℕ) (c : Option Copy) → Past low c → (rank c ≡ 0) ⊎ (low ≤ rank c)
unfolding Past
past_is low c h = ⊎_elim (λ (e : rank c ≡ 0). inl e) (λ (e : rank c ≢ 0). inr (h (omega arith))) (cases_eq (rank c) 0)

pub phase_storing : (p : VacuumPhase) → is_phase Storing p ≡ true → is_storing p ≡ true
unfolding is_storing
phase_storing Storing h = refl
phase_storing Deleting h = absurd (cc)

pub phase_deleting : (p : VacuumPhase) → is_phase Deleting p ≡ true → is_storing p ≡ false
unfolding is_storing
phase_deleting Storing h = absurd (cc)
phase_deleting Deleting h = refl

pub in_parts : (phase : VacuumPhase) (rsn : ℕ) (v : Vacuuming) → is_in phase rsn v ≡ true → (is_phase phase v.phase ≡ true) × (v.rsn ≡ rsn)
in_parts phase rsn v t =
    let q = and_parts (is_phase phase v.phase) (v.rsn == rsn) t in
    (q.0, eqb-true v.rsn rsn q.1)

pub last_parts : (phase : VacuumPhase) (n rsn : ℕ) (v : Vacuuming) → ends_phase phase n rsn v ≡ true → (is_phase phase v.phase ≡ true) × (v.rsn ≡ rsn) × (others n v.missing ≡ [])
last_parts phase n rsn v t =
    let p = and_parts (is_in phase rsn v) (is_last n v.missing) t in
    let q = in_parts phase rsn v p.0 in
    (q.0, q.1, nil_is (others n v.missing) (and_parts (list_any (nat_eq n) v.missing) (is_nil (others n v.missing)) p.1).1)
