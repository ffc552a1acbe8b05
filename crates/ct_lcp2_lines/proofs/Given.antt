-- What is given stays in form.
use Rattle.std.proofs.Common.{◌≡◌, ℕ, suc, ◌<◌, ◌≤◌, Bool, true, false, List, [], ◌∷◌, length, None, Option, refl, sym, ap, ◌∙◌, subst, arith}
use Rattle.std.proofs.lemmas.Bool.Decides.{nat_tests}
use Rattle.std.specs.List.Sorted.{IsStrictlySortedBy}
use Rattle.std.specs.Ordering.{nat_cmp, is_lt}
use Rattle.std.specs.Prelude.{if◌then◌else◌, is_none, nat_le, ◌&&◌, ◌||◌, ◌==◌}
use Rattle.ct_values.specs.Address.{address_before, same_address}
use Rattle.ct_values.specs.declared.address.Address.{Address}
use Rattle.ct_values.specs.declared.address.Address.TheVariants.{V4, V6}
use Rattle.ct_frame.specs.Fields.{ascends, ascends_after, assigned_before}
use Rattle.ct_frame.specs.declared.frame.Assigned.{Assigned}
use Rattle.ct_lcp2.proofs.Standing.{ascend_from, ascend_to}
use Rattle.ct_lcp2_lines.specs.Grammar.{form}
use Rattle.ct_lcp2_lines.specs.Placing.{Given, InForm, first_reason, is_held_beyond, is_there, said_refusal, with_address, with_said}
use Rattle.ct_lcp2_lines.specs.declared.line.GivenLine.{GivenLine}
use Rattle.ct_lcp2_lines.specs.declared.line.GivenLine.TheVariants as given

-- ---- words

pub one_word : (ws : List (List ℕ)) → length ws ≡ 1 → form ws ≡ None
one_word [] h = refl
one_word (w ∷ []) h = refl
one_word (w ∷ a ∷ ws) h = absurd (omega (arith, h))

pub many_words : (ws : List (List ℕ)) → 4 ≤ length ws → form ws ≡ None
many_words [] h = refl
many_words (w ∷ []) h = refl
many_words (w ∷ a ∷ []) h = absurd (omega (arith, h))
many_words (w ∷ a ∷ p ∷ []) h = absurd (omega (arith, h))
many_words (w ∷ a ∷ p ∷ x ∷ more) h = refl

-- ---- one address more

number_after : (a b : ℕ) → is_lt (nat_cmp a b) ≡ false → (a == b) ≡ false → is_lt (nat_cmp b a) ≡ true
number_after a b h e = grind (arith, nat_tests)

-- of two addresses that are not the same one comes before the other
address_after : (a b : Address) → address_before a b ≡ false → same_address a b ≡ false → address_before b a ≡ true
address_after (V4 a) (V4 b) h e = number_after a b h e
address_after (V4 a) (V6 b) h e = absurd (let c : true ≡ false = h in cc)
address_after (V6 a) (V4 b) h e = refl
address_after (V6 a) (V6 b) h e = number_after a b h e

or_parts : (a b : Bool) → (a || b) ≡ false → (a ≡ false) × (b ≡ false)
or_parts a b h = (grind arith, grind arith)

and_parts : (a b : Bool) → (a && b) ≡ true → (a ≡ true) × (b ≡ true)
and_parts a b h = (grind arith, grind arith)

both : (a b : Bool) → a ≡ true → b ≡ true → (a && b) ≡ true
both a b h k = grind arith

stays_after : (z x : Assigned) (ys : List Assigned) → assigned_before z x ≡ true → ascends_after assigned_before z ys ≡ true → is_there x.address ys ≡ false → ascends_after assigned_before z (with_address x ys) ≡ true
unfolding with_address
stays_after z x [] h k n = both (assigned_before z x) true h refl
stays_after z x (y ∷ ys) h k n = by (assigned_before x y) refl (stays_after y x ys)
  where
    by : (t : Bool) → assigned_before x y ≡ t → (assigned_before y x ≡ true → ascends_after assigned_before y ys ≡ true → is_there x.address ys ≡ false → ascends_after assigned_before y (with_address x ys) ≡ true)
        → ascends_after assigned_before z (if t then x ∷ y ∷ ys else y ∷ with_address x ys) ≡ true
    by true e more = both (assigned_before z x) (assigned_before x y && ascends_after assigned_before y ys) h (both (assigned_before x y) (ascends_after assigned_before y ys) e (and_parts (assigned_before z y) (ascends_after assigned_before y ys) k).1)
    by false e more =
        let p = and_parts (assigned_before z y) (ascends_after assigned_before y ys) k in
        let q = or_parts (same_address x.address y.address) (is_there x.address ys) n in
        both (assigned_before z y) (ascends_after assigned_before y (with_address x ys)) p.0 (more (address_after x.address y.address e q.0) p.1 q.1)

stays_ascending : (x : Assigned) (ys : List Assigned) → ascends assigned_before ys ≡ true → is_there x.address ys ≡ false → ascends assigned_before (with_address x ys) ≡ true
unfolding with_address
stays_ascending x [] k n = refl
stays_ascending x (y ∷ ys) k n = by (assigned_before x y) refl
  where
    by : (t : Bool) → assigned_before x y ≡ t → ascends assigned_before (if t then x ∷ y ∷ ys else y ∷ with_address x ys) ≡ true
    by true e = both (assigned_before x y) (ascends_after assigned_before y ys) e k
    by false e =
        let q = or_parts (same_address x.address y.address) (is_there x.address ys) n in
        stays_after y x ys (address_after x.address y.address e q.0) k q.1

pub one_more : (x : Assigned) (ys : List Assigned) → length (with_address x ys) ≡ suc (length ys)
unfolding with_address
one_more x [] = refl
one_more x (y ∷ ys) = by (assigned_before x y) (one_more x ys)
  where
    by : (t : Bool) → length (with_address x ys) ≡ suc (length ys) → length (if t then x ∷ y ∷ ys else y ∷ with_address x ys) ≡ suc (suc (length ys))
    by true e = refl
    by false e = ap suc e

-- where a line is not refused, none of the reasons holds
no_reason : (words order repeat limit : Bool) → first_reason words order repeat limit ≡ None → (repeat ≡ false) × (limit ≡ false)
no_reason true order repeat limit e = absurd (cc)
no_reason false true repeat limit e = absurd (cc)
no_reason false false true limit e = absurd (cc)
no_reason false false false true e = absurd (cc)
no_reason false false false false e = (refl, refl)

fewer : (n : ℕ) → nat_le 256 n ≡ false → n < 256
fewer n e = grind (arith, nat_tests)

pub empty_in_form : (disabled : List ℕ) (at : List Assigned) → at ≡ [] → InForm (record { nodes = None; disabled = disabled; at = at })
unfolding IsStrictlySortedBy
empty_in_form disabled [] e = record { ascending = tt; few = omega arith }
empty_in_form disabled (x ∷ xs) e = absurd (cc)

pub stays_in_form : (said : GivenLine) (g : Given) → said_refusal said g ≡ None → InForm g → InForm (with_said said g)
stays_in_form (given.Nodes n) g e h = record { ascending = h.ascending; few = h.few }
stays_in_form (given.Disabled p) g e h = record { ascending = h.ascending; few = h.few }
stays_in_form (given.Address x) g e h =
    let free = no_reason (is_held_beyond g.nodes x.node) (is_none g.nodes) (is_there x.address g.at) (nat_le 256 (length g.at)) e in
    let less = fewer (length g.at) free.1 in
    let more = one_more x g.at in
    record { ascending = ascend_from (with_address x g.at) (stays_ascending x g.at (ascend_to g.at h.ascending) free.0); few = omega (arith, less, more) }

-- an address that is not refused was put at its place
pub put_in_form : (said : GivenLine) (g : Given) (x : Assigned) (nodes : Option ℕ) (disabled : List ℕ) (at ys : List Assigned) → said ≡ given.Address x → said_refusal said g ≡ None
    → record { nodes = nodes; disabled = disabled; at = at } ≡ g → InForm (record { nodes = nodes; disabled = disabled; at = at }) → ys ≡ with_address x at → InForm (record { nodes = nodes; disabled = disabled; at = ys })
put_in_form said g x nodes disabled at ys s e v h p =
    let before : Given = record { nodes = nodes; disabled = disabled; at = at } in
    let free : said_refusal (given.Address x) before ≡ None = ap (λ t. said_refusal t before) (sym s) ∙ ap (said_refusal said) v ∙ e in
    subst (λ zs. InForm (record { nodes = nodes; disabled = disabled; at = zs })) (sym p) (stays_in_form (given.Address x) before free h)
