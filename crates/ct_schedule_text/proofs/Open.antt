-- The calls that are told to be open, and those that are open in a run.
use Rattle.std.proofs.Common.{◌≡◌, ℕ, Bool, true, false, cond, ◌||◌, List, [], ◌∷◌, ◌++◌, None, Some, refl, sym, ap, ap₂, ◌∙◌, subst, ⊎_elim}
use Rattle.std.proofs.lemmas.Bool.{and_parts, cases_eq, eq-eqb, eqb-true, ne_eqb, or_from, or_parts}
use Rattle.std.specs.Prelude.{nat_eq}
use Rattle.ct_values.specs.declared.client.ClientOp.{ClientOp}
use Rattle.ct_rules_cluster.specs.Traces.{OpenCall, asked_in, closed}
use Rattle.ct_schedule_text.specs.Telling.{is_asked_call, open_call, open_without}
use Rattle.ct_schedule_text.specs.declared.telling.Asked.{Asked}

-- each has the number that the cluster gives to the call
unfoldable pub AreNumbered : (ℕ → ℕ → ℕ) → List Asked → Type 0
AreNumbered number [] = Unit {0}
AreNumbered number (x ∷ xs) = (x.number ≡ number x.node x.call) × AreNumbered number xs

-- has one of these calls this number among all?
unfoldable pub has_number : ℕ → List Asked → Bool
has_number g [] = false
has_number g (x ∷ xs) = nat_eq x.number g || has_number g xs

-- a call of a run is open only where one of these has its number
abbrev pub Covers : List Asked → List OpenCall → Type 0
Covers xs log = (g : ℕ) → has_number g xs ≡ false → asked_in g log ≡ None

-- ---- the call that is answered

pub found_number : (number : ℕ → ℕ → ℕ) (n call : ℕ) (xs : List Asked) (x : Asked) → open_call n call xs ≡ Some x → AreNumbered number xs → number n call ≡ x.number
unfolding open_call AreNumbered is_asked_call
found_number number n call [] x is h = absurd (cc)
found_number number n call (y ∷ ys) x is h = by (λ later. found_number number n call ys x later h.1) (is_asked_call n call y) refl
  where
    by : (open_call n call ys ≡ Some x → number n call ≡ x.number) → (b : Bool) → is_asked_call n call y ≡ b → number n call ≡ x.number
    by again true same =
        let first : Some y ≡ Some x = sym (ap (λ (b : Bool). cond b (Some y) (open_call n call ys)) same) ∙ is in
        let this : y ≡ x = cc in
        let p = and_parts (nat_eq y.node n) (nat_eq y.call call) same in
        sym (ap₂ number (eqb-true y.node n p.0) (eqb-true y.call call p.1)) ∙ sym h.0 ∙ ap (λ (z : Asked). z.number) this
    by again false other = again (sym (ap (λ (b : Bool). cond b (Some y) (open_call n call ys)) other) ∙ is)

pub without_numbered : (number : ℕ → ℕ → ℕ) (n call : ℕ) (xs : List Asked) → AreNumbered number xs → AreNumbered number (open_without n call xs)
unfolding open_without AreNumbered
without_numbered number n call [] h = h
without_numbered number n call (y ∷ ys) h = by (without_numbered number n call ys h.1) (is_asked_call n call y) refl
  where
    by : AreNumbered number (open_without n call ys) → (b : Bool) → is_asked_call n call y ≡ b → AreNumbered number (open_without n call (y ∷ ys))
    by again true same = subst (λ (b : Bool). AreNumbered number (cond b ys (y ∷ open_without n call ys))) (sym same) h.1
    by again false other = subst (λ (b : Bool). AreNumbered number (cond b ys (y ∷ open_without n call ys))) (sym other) (h.0, again)

-- a number that no other one has
other_number : (n call g : ℕ) (xs : List Asked) (x : Asked) → open_call n call xs ≡ Some x → nat_eq x.number g ≡ false → has_number g (open_without n call xs) ≡ false → has_number g xs ≡ false
unfolding open_call open_without has_number
other_number n call g [] x is ne none = none
other_number n call g (y ∷ ys) x is ne none = by (λ later left. other_number n call g ys x later ne left) (is_asked_call n call y) refl
  where
    by : (open_call n call ys ≡ Some x → has_number g (open_without n call ys) ≡ false → has_number g ys ≡ false) → (b : Bool) → is_asked_call n call y ≡ b → has_number g (y ∷ ys) ≡ false
    by again true same =
        let first : Some y ≡ Some x = sym (ap (λ (b : Bool). cond b (Some y) (open_call n call ys)) same) ∙ is in
        let this : y ≡ x = cc in
        or_from (nat_eq y.number g) (has_number g ys) (ap (λ (z : Asked). nat_eq z.number g) this ∙ ne)
        (sym (ap (λ (b : Bool). has_number g (cond b ys (y ∷ open_without n call ys))) same) ∙ none)
    by again false other =
        let left : (nat_eq y.number g || has_number g (open_without n call ys)) ≡ false = sym (ap (λ (b : Bool). has_number g (cond b ys (y ∷ open_without n call ys))) other) ∙ none in
        let p = or_parts (nat_eq y.number g) (has_number g (open_without n call ys)) left in
        or_from (nat_eq y.number g) (has_number g ys) p.0 (again (sym (ap (λ (b : Bool). cond b (Some y) (open_call n call ys)) other) ∙ is) p.1)

-- ---- the log

-- a call that is answered is open no more
closed_gone : (g : ℕ) (log : List OpenCall) → asked_in g (closed g log) ≡ None
unfolding asked_in closed
closed_gone g [] = refl
closed_gone g (x ∷ log) = by (closed_gone g log) (nat_eq g x.call) refl
  where
    by : asked_in g (closed g log) ≡ None → (b : Bool) → nat_eq g x.call ≡ b → asked_in g (closed g (x ∷ log)) ≡ None
    by again true same = ap (λ (b : Bool). asked_in g (cond b (closed g log) (x ∷ closed g log))) same ∙ again
    by again false other =
        ap (λ (b : Bool). asked_in g (cond b (closed g log) (x ∷ closed g log))) other
        ∙ ap (λ (b : Bool). cond b (Some (x.node, x.asked)) (asked_in g (closed g log))) other
        ∙ again

-- a call that is not open is not open once another is answered
still_closed : (g h : ℕ) (log : List OpenCall) → asked_in h log ≡ None → asked_in h (closed g log) ≡ None
unfolding asked_in closed
still_closed g h [] none = refl
still_closed g h (x ∷ log) none = by (λ later. still_closed g h log later) (nat_eq h x.call) refl
  where
    by : (asked_in h log ≡ None → asked_in h (closed g log) ≡ None) → (b : Bool) → nat_eq h x.call ≡ b → asked_in h (closed g (x ∷ log)) ≡ None
    by again true same =
        let some : Some (x.node, x.asked) ≡ None = sym (ap (λ (b : Bool). cond b (Some (x.node, x.asked)) (asked_in h log)) same) ∙ none in
        absurd (cc)
    by again false other = rest (again (sym (ap (λ (b : Bool). cond b (Some (x.node, x.asked)) (asked_in h log)) other) ∙ none)) (nat_eq g x.call) refl
      where
        rest : asked_in h (closed g log) ≡ None → (b : Bool) → nat_eq g x.call ≡ b → asked_in h (closed g (x ∷ log)) ≡ None
        rest left true same = ap (λ (b : Bool). asked_in h (cond b (closed g log) (x ∷ closed g log))) same ∙ left
        rest left false ne =
            ap (λ (b : Bool). asked_in h (cond b (closed g log) (x ∷ closed g log))) ne
            ∙ ap (λ (b : Bool). cond b (Some (x.node, x.asked)) (asked_in h (closed g log))) other
            ∙ left

pub without_covers : (n call : ℕ) (xs : List Asked) (x : Asked) (log : List OpenCall) → open_call n call xs ≡ Some x → Covers xs log → Covers (open_without n call xs) (closed x.number log)
without_covers n call xs x log is h g none = ⊎_elim
    (λ (same : x.number ≡ g). subst (λ (i : ℕ). asked_in i (closed x.number log) ≡ None) same (closed_gone x.number log))
    (λ (ne : x.number ≡ g → ⊥). still_closed x.number g log (h g (other_number n call g xs x is (ne_eqb x.number g ne) none)))
    (cases_eq x.number g)

-- ---- the call that is asked

pub more_numbered : (number : ℕ → ℕ → ℕ) (xs : List Asked) (x : Asked) → AreNumbered number xs → x.number ≡ number x.node x.call → AreNumbered number (xs ++ x ∷ [])
unfolding AreNumbered
more_numbered number [] x h is = (is, tt)
more_numbered number (y ∷ ys) x h is = (h.0, more_numbered number ys x h.1 is)

more_has : (g : ℕ) (xs : List Asked) (x : Asked) → has_number g (xs ++ x ∷ []) ≡ false → (has_number g xs ≡ false) × (nat_eq x.number g ≡ false)
unfolding has_number
more_has g [] x none = (refl, (or_parts (nat_eq x.number g) false none).0)
more_has g (y ∷ ys) x none =
    let p = or_parts (nat_eq y.number g) (has_number g (ys ++ x ∷ [])) none in
    let r = more_has g ys x p.1 in
    (or_from (nat_eq y.number g) (has_number g ys) p.0 r.0, r.1)

pub more_covers : (xs : List Asked) (x : Asked) (k : ℕ) (n : ℕ) (o : ClientOp) (log : List OpenCall) → x.number ≡ k → Covers xs log → Covers (xs ++ x ∷ []) (record { call = k; node = n; asked = o } ∷ log)
unfolding asked_in
more_covers xs x k n o log is h g none =
    let p = more_has g xs x none in
    ⊎_elim
    (λ (same : g ≡ k). absurd (let t : true ≡ false = sym (eq-eqb x.number g (is ∙ sym same)) ∙ p.1 in cc))
    (λ (ne : g ≡ k → ⊥). ap (λ (b : Bool). cond b (Some (n, o)) (asked_in g log)) (ne_eqb g k ne) ∙ h g p.0)
    (cases_eq g k)
