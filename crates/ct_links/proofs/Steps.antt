-- The tickets of takes and releases that make a lock.
use Rattle.std.proofs.Common.{◌≡◌, ◌+◌, ◌==◌, not, ◌&&◌, List, [], ◌∷◌, length, Option, None, Some, ap, ◌∙◌, refl}
use Rattle.std.specs.Prelude.{fold}
use Rattle.std.proofs.lemmas.Bool.{cond_both, eqb-true, and_parts}
use Rattle.ct_outside.specs.Locks.{LockState, free_lock, freed, given, is_with_another}
use Rattle.ct_links.specs.Book.{is_with, onward, state_after, tickets_of, in_a_row, CountsFromTwo}
use Rattle.ct_links.specs.declared.book.LockStep.{LockStep}
use Rattle.ct_links.specs.declared.book.LockStep.TheVariants.{Take, Release}

-- after a step that could not come there is no lock any more
lost_for_good : (xs : List LockStep) (s : LockState) → fold onward None xs ≡ Some s → ⊥
lost_for_good [] s is = absurd (cc)
lost_for_good (x ∷ xs) s is = lost_for_good xs s is

-- from any lock on, the tickets are those after its last one, in a row
counted_from : (xs : List LockStep) (s end : LockState) → fold onward (Some s) xs ≡ Some end → tickets_of xs ≡ in_a_row (s.last + 1) (length (tickets_of xs))
counted_from [] s end is = refl
counted_from (Take node ticket ∷ xs) s end is =
    cond_both (not (is_with_another node s.holder) && (ticket == s.last + 1)) (Some (given node s)) None
    (λ (o : Option LockState). fold onward o xs ≡ Some end → ticket ∷ tickets_of xs ≡ in_a_row (s.last + 1) (length (ticket ∷ tickets_of xs)))
    (λ yes rest. let same : ticket ≡ s.last + 1 = eqb-true ticket (s.last + 1) (and_parts (not (is_with_another node s.holder)) (ticket == s.last + 1) yes).1 in
    ap (λ n. n ∷ tickets_of xs) same ∙ ap (λ l. (s.last + 1) ∷ l) (counted_from xs (given node s) end rest))
    (λ no rest. absurd (lost_for_good xs end rest))
    is
counted_from (Release node ∷ xs) s end is =
    cond_both (is_with node s.holder) (Some (freed s)) None
    (λ (o : Option LockState). fold onward o xs ≡ Some end → tickets_of xs ≡ in_a_row (s.last + 1) (length (tickets_of xs)))
    (λ yes rest. counted_from xs (freed s) end rest)
    (λ no rest. absurd (lost_for_good xs end rest))
    is

-- where steps make a lock, their tickets are 2, 3, 4 and so on
pub counts_from_two : (steps : List LockStep) (s : LockState) → state_after steps ≡ Some s → CountsFromTwo (tickets_of steps)
counts_from_two steps s is = counted_from steps free_lock s is
