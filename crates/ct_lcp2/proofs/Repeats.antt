-- A step that is taken while there is one, where a number falls at each.
use Rattle.std.proofs.Common.{◌≡◌, ℕ, zero, suc, ◌<◌, ◌≤◌, Option, Some, None, refl, sym, ap, ◌∙◌, arith}
use Rattle.ct_lcp2.specs.declared.placement.Placement.{Placement}
use Rattle.ct_lcp2.specs.Placing.{if_some, repeated}

-- the number falls at each step from a placement that is good, and the next is good
pub record Falls (size : Placement → ℕ) (Good : Placement → Type 0) (next : Placement → Option Placement) : Type 0 where
  pub less : (p q : Placement) → Good p → next p ≡ Some q → size q < size p
  pub kept : (p q : Placement) → Good p → next p ≡ Some q → Good q

pub at_end : (next : Placement → Option Placement) (n : ℕ) (p : Placement) → next p ≡ None → repeated n next p ≡ p
unfolding repeated
at_end next zero p e = refl
at_end next (suc n) p e = ap (λ o. if_some o (repeated n next) p) e

one_step : (next : Placement → Option Placement) (n : ℕ) (p q : Placement) → next p ≡ Some q → repeated (suc n) next p ≡ repeated n next q
unfolding repeated
one_step next n p q e = ap (λ o. if_some o (repeated n next) p) e

module _ {size : Placement → ℕ} {Good : Placement → Type 0} {next : Placement → Option Placement} where
  -- with so many steps none is left
  pub none_left : Falls size Good next → (n : ℕ) (p : Placement) → Good p → size p ≤ n → next (repeated n next p) ≡ None
  unfolding repeated
  none_left f zero p g h = by (next p) refl
    where
      by : (o : Option Placement) → next p ≡ o → o ≡ None
      by None e = refl
      by (Some q) e = let l = f.less p q g e in absurd (omega (arith, l, h))
  none_left f (suc n) p g h = by (next p) refl (λ q good small. none_left f n q good small)
    where
      by : (o : Option Placement) → next p ≡ o → ((q : Placement) → Good q → size q ≤ n → next (repeated n next q) ≡ None) → next (if_some o (repeated n next) p) ≡ None
      by None e more = e
      by (Some q) e more = let l = f.less p q g e in more q (f.kept p q g e) (omega (arith, l, h))

  nothing : Falls size Good next → (p : Placement) → Good p → size p ≤ 0 → next p ≡ None
  nothing f p g h = by (next p) refl
    where
      by : (o : Option Placement) → next p ≡ o → o ≡ None
      by None e = refl
      by (Some q) e = let l = f.less p q g e in absurd (omega (arith, l, h))

  -- more steps than that change nothing
  pub same_end : Falls size Good next → (n m : ℕ) (p : Placement) → Good p → size p ≤ n → size p ≤ m → repeated n next p ≡ repeated m next p
  unfolding repeated
  same_end f zero m p g hn hm = sym (at_end next m p (nothing f p g hn))
  same_end f (suc n) zero p g hn hm = at_end next (suc n) p (nothing f p g hm)
  same_end f (suc n) (suc m) p g hn hm = by (next p) refl (λ q good a b. same_end f n m q good a b)
    where
      by : (o : Option Placement) → next p ≡ o → ((q : Placement) → Good q → size q ≤ n → size q ≤ m → repeated n next q ≡ repeated m next q) → if_some o (repeated n next) p ≡ if_some o (repeated m next) p
      by None e more = refl
      by (Some q) e more = let l = f.less p q g e in more q (f.kept p q g e) (omega (arith, l, hn)) (omega (arith, l, hm))

  -- one step and then the others
  pub one_more : Falls size Good next → (p q : Placement) → Good p → next p ≡ Some q → repeated (size q) next q ≡ repeated (size p) next p
  one_more f p q g e = by (size p) refl
    where
      by : (n : ℕ) → size p ≡ n → repeated (size q) next q ≡ repeated n next p
      by zero h = let l = f.less p q g e in absurd (omega (arith, l, h))
      by (suc n) h = let l = f.less p q g e in same_end f (size q) n q (f.kept p q g e) (omega arith) (omega (arith, l, h)) ∙ sym (one_step next n p q e)
