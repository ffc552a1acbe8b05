-- The reading of a sender, among others.
use Rattle.std.proofs.Common.{◌≡◌, ◌≢◌, ℕ, zero, suc, ◌+◌, ◌<◌, ◌≤◌, ◌==◌, true, false, cond, List, [], ◌∷◌, ◌++◌, length, get_or, slice_set, Result, refl, sym, ap, subst, ◌∙◌, add-one, arith}
use Rattle.std.proofs.lemmas.Bool.{eq-eqb, ne_eqb}
use Rattle.std.proofs.lemmas.List.{get_or_default}
use Rattle.ct_values.specs.declared.memory.NoMemory.{NoMemory}
use Rattle.ct_wire_link.specs.declared.arrived.Arrived.{Arrived}
use Rattle.ct_wire_link.specs.Reading.{Reading, TakesPiece, NoneBefore, fresh, progress_of, unread}
use Rattle.ct_wire.specs.declared.decode.Progress.{Progress}

passed_suc : (sender i : ℕ) (rs : List Reading) (r : Reading) → NoneBefore i sender rs → r ≡ get_or rs i r → r.sender ≢ sender → NoneBefore (suc i) sender rs
passed_suc sender zero [] r p is ne = tt
passed_suc sender zero (x ∷ rs) r p is ne = (subst (λ (y : Reading). y.sender ≢ sender) is ne, tt)
passed_suc sender (suc i) [] r p is ne = tt
passed_suc sender (suc i) (x ∷ rs) r p is ne = (p.0, passed_suc sender i rs r p.1 is ne)

-- one more is of another
pub passed_more : (sender i : ℕ) (rs : List Reading) (r : Reading) → NoneBefore i sender rs → r ≡ get_or rs i r → r.sender ≢ sender → NoneBefore (i + 1) sender rs
passed_more sender i rs r p is ne = subst (λ (k : ℕ). NoneBefore k sender rs) (sym (add-one i)) (passed_suc sender i rs r p is ne)

own_first : (sender : ℕ) (r : Reading) (rs : List Reading) → r.sender ≡ sender → progress_of sender (r ∷ rs) ≡ r.progress
own_first sender r rs is = let t : (r.sender == sender) ≡ true = eq-eqb r.sender sender is in rw t refl

other_first : (sender : ℕ) (r : Reading) (rs : List Reading) → r.sender ≢ sender → progress_of sender (r ∷ rs) ≡ progress_of sender rs
other_first sender r rs ne = let t : (r.sender == sender) ≡ false = ne_eqb r.sender sender ne in rw t refl

-- two lists that begin with one reading
same_first : (sender : ℕ) (r : Reading) (xs ys : List Reading) → progress_of sender xs ≡ progress_of sender ys → progress_of sender (r ∷ xs) ≡ progress_of sender (r ∷ ys)
same_first sender r xs ys is = ap (λ (p : Progress). cond (r.sender == sender) r.progress p) is

-- the next one is the sender's
pub own_at : (sender i : ℕ) (rs : List Reading) (d e : Reading) → NoneBefore i sender rs → i < length rs → (get_or rs i d).sender ≡ sender → progress_of sender rs ≡ (get_or rs i e).progress
own_at sender i [] d e p lt is = let no : ⊥ = omega (arith, lt) in absurd no
own_at sender zero (r ∷ rs) d e p lt is = own_first sender r rs is
own_at sender (suc i) (r ∷ rs) d e p lt is = other_first sender r rs p.0 ∙ own_at sender i rs d e p.1 (omega (arith, lt)) is

-- it is put in its place
pub own_put : (sender i : ℕ) (rs : List Reading) (r : Reading) → NoneBefore i sender rs → i < length rs → r.sender ≡ sender → progress_of sender (slice_set rs i r) ≡ r.progress
own_put sender i [] r p lt is = let no : ⊥ = omega (arith, lt) in absurd no
own_put sender zero (x ∷ rs) r p lt is = own_first sender r rs is
own_put sender (suc i) (x ∷ rs) r p lt is = other_first sender x (slice_set rs i r) p.0 ∙ own_put sender i rs r p.1 (omega (arith, lt)) is

pub others_put : (sender other i : ℕ) (rs : List Reading) (r d : Reading) → other ≢ sender → i < length rs → (get_or rs i d).sender ≡ sender → r.sender ≡ sender → progress_of other (slice_set rs i r) ≡ progress_of other rs
others_put sender other i [] r d ne lt was is = let no : ⊥ = omega (arith, lt) in absurd no
others_put sender other zero (x ∷ rs) r d ne lt was is = other_first other r rs (λ e. ne (sym e ∙ is)) ∙ sym (other_first other x rs (λ e. ne (sym e ∙ was)))
others_put sender other (suc i) (x ∷ rs) r d ne lt was is = same_first other x (slice_set rs i r) rs (others_put sender other i rs r d ne (omega (arith, lt)) was is)

-- none is the sender's
pub own_none : (sender i : ℕ) (rs : List Reading) → NoneBefore i sender rs → length rs ≤ i → progress_of sender rs ≡ unread
own_none sender i [] p le = refl
own_none sender zero (r ∷ rs) p le = let no : ⊥ = omega (arith, le) in absurd no
own_none sender (suc i) (r ∷ rs) p le = other_first sender r rs p.0 ∙ own_none sender i rs p.1 (omega (arith, le))

-- its first one is put at the end
pub own_pushed : (sender i : ℕ) (rs : List Reading) (r : Reading) → NoneBefore i sender rs → length rs ≤ i → r.sender ≡ sender → progress_of sender (rs ++ r ∷ []) ≡ r.progress
own_pushed sender i [] r p le is = own_first sender r [] is
own_pushed sender zero (x ∷ rs) r p le is = let no : ⊥ = omega (arith, le) in absurd no
own_pushed sender (suc i) (x ∷ rs) r p le is = other_first sender x (rs ++ r ∷ []) p.0 ∙ own_pushed sender i rs r p.1 (omega (arith, le)) is

pub others_pushed : (sender other : ℕ) (rs : List Reading) (r : Reading) → other ≢ sender → r.sender ≡ sender → progress_of other (rs ++ r ∷ []) ≡ progress_of other rs
others_pushed sender other [] r ne is = other_first other r [] (λ e. ne (sym e ∙ is))
others_pushed sender other (x ∷ rs) r ne is = same_first other x (rs ++ r ∷ []) rs (others_pushed sender other rs r ne is)

-- ---- a piece is taken

-- the reading at a place is the sender's
own_there : (sender i : ℕ) (xs : List Reading) (old : Reading) → i < length xs → (get_or xs i (fresh sender)).sender ≡ sender → old ≡ get_or xs i old → old.sender ≡ sender
own_there sender i xs old lt found is = ap (λ (r : Reading). r.sender) (is ∙ get_or_default xs i old (fresh sender) lt) ∙ found

-- by the reading that the sender has
pub takes_at : (r : Result Arrived NoMemory) (me sender : ℕ) (bytes : List ℕ) (i : ℕ) (xs : List Reading) (old new : Reading) → NoneBefore i sender xs → i < length xs → (get_or xs i (fresh sender)).sender ≡ sender → old ≡ get_or xs i old → new.sender ≡ old.sender
    → TakesPiece r me old.sender bytes old.progress new.progress → TakesPiece r me sender bytes (progress_of sender xs) (progress_of sender (slice_set xs i new))
takes_at r me sender bytes i xs old new p lt found is kept takes =
    let own : old.sender ≡ sender = own_there sender i xs old lt found is in
    let before : progress_of sender xs ≡ old.progress = own_at sender i xs (fresh sender) old p lt found ∙ ap (λ (x : Reading). x.progress) (sym is) in
    let after : progress_of sender (slice_set xs i new) ≡ new.progress = own_put sender i xs new p lt (kept ∙ own) in
    subst (λ (x : Progress). TakesPiece r me sender bytes (progress_of sender xs) x) (sym after)
    (subst (λ (x : Progress). TakesPiece r me sender bytes x new.progress) (sym before)
    (subst (λ (n : ℕ). TakesPiece r me n bytes old.progress new.progress) own takes))

pub others_at : (sender i : ℕ) (xs : List Reading) (old new : Reading) → i < length xs → (get_or xs i (fresh sender)).sender ≡ sender → old ≡ get_or xs i old → new.sender ≡ old.sender
    → (other : ℕ) → other ≢ sender → progress_of other (slice_set xs i new) ≡ progress_of other xs
others_at sender i xs old new lt found is kept other ne = others_put sender other i xs new (fresh sender) ne lt found (kept ∙ own_there sender i xs old lt found is)

-- by a new reading
pub takes_pushed : (r : Result Arrived NoMemory) (me sender : ℕ) (bytes : List ℕ) (i : ℕ) (xs ys : List Reading) (old new : Reading) → NoneBefore i sender xs → length xs ≤ i → old ≡ fresh sender → new.sender ≡ old.sender → ys ≡ xs ++ new ∷ []
    → TakesPiece r me old.sender bytes old.progress new.progress → TakesPiece r me sender bytes (progress_of sender xs) (progress_of sender ys)
takes_pushed r me sender bytes i xs ys old new p le is kept put takes =
    let own : old.sender ≡ sender = ap (λ (x : Reading). x.sender) is in
    let before : progress_of sender xs ≡ old.progress = own_none sender i xs p le ∙ ap (λ (x : Reading). x.progress) (sym is) in
    let after : progress_of sender ys ≡ new.progress = ap (progress_of sender) put ∙ own_pushed sender i xs new p le (kept ∙ own) in
    subst (λ (x : Progress). TakesPiece r me sender bytes (progress_of sender xs) x) (sym after)
    (subst (λ (x : Progress). TakesPiece r me sender bytes x new.progress) (sym before)
    (subst (λ (n : ℕ). TakesPiece r me n bytes old.progress new.progress) own takes))

pub others_after : (sender : ℕ) (xs ys : List Reading) (old new : Reading) → old ≡ fresh sender → new.sender ≡ old.sender → ys ≡ xs ++ new ∷ [] → (other : ℕ) → other ≢ sender → progress_of other ys ≡ progress_of other xs
others_after sender xs ys old new is kept put other ne = ap (progress_of other) put ∙ others_pushed sender other xs new ne (kept ∙ ap (λ (x : Reading). x.sender) is)
