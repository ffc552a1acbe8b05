-- What is fresh was read: no copy of the newest RSN of a moment, or of a newer one, is older than that moment.
use Rattle.std.proofs.Common.{◌⊎◌, ◌≡◌, ◌≢◌, ℕ, ◌+◌, ◌<◌, ◌≤◌, Bool, true, false, List, [], ◌∷◌, ◌++◌, length, Option, None, Some, refl, sym, ap, ◌∙◌, ⊎_elim, inl, inr, arith, subst, cond, length-append, take_all, take-take, take_at}
use Rattle.std.specs.Prelude.{nat_lt, take}
use Rattle.std.proofs.lemmas.Bool.{cases_eq, eq-eqb, ne_eqb, cases_lt, lt-ltb, le-ltb}
use Rattle.ct_register.specs.Register.{reading}
use Rattle.ct_register.specs.Marks.{Mark, RisesAfter, Rises, EndsAt, place_of, place_below_from, IsCopyAt, IsEntryAt, AreFrom, GoOn, AreBelow, Site, Marks, AreMarks, SiteStep, MarksStep}
use Rattle.ct_law_readings.specs.Readings.{VersionsStep}
use Rattle.ct_law_readings.specs.Fresh.{Moment, IsMarked, LivesOn, last_of, WasRead, FreshCopyWasRead, FreshEntryWasRead, RecordIsFound}

pub same_place : (a b : ℕ) → Some a ≡ Some b → a ≡ b
same_place a b e = cc

-- a mark stays, and its place does not fall
grown : (low r p : ℕ) (ms ns : List Mark) → GoOn low ms ns → place_of r ms ≡ Some p → (q : ℕ) × (place_of r ns ≡ Some q) × (p ≤ q)
unfolding GoOn place_of
grown low r p [] ns h e = absurd (cc)
grown low r p (m ∷ ms) [] h e = absurd h
grown low r p (m ∷ []) (n ∷ ns) h e = ⊎_elim
    (λ (is : m.rsn ≡ r). (n.place, rw (eq-eqb n.rsn r (h.0 ∙ is)) refl, (let s = same_place m.place p (sym (ap (λ (b : Bool). cond b (Some m.place) None) (eq-eqb m.rsn r is)) ∙ e) in let u = h.1 in omega arith)))
    (λ (ne : m.rsn ≢ r). absurd (let s = sym (ap (λ (b : Bool). cond b (Some m.place) None) (ne_eqb m.rsn r ne)) ∙ e in cc))
    (cases_eq m.rsn r)
grown low r p (m ∷ k ∷ ms) (n ∷ ns) h e = ⊎_elim
    (λ (is : m.rsn ≡ r). (
      n.place,
      rw (eq-eqb n.rsn r (ap (λ (x : Mark). x.rsn) h.0 ∙ is)) refl,
      (let s = same_place m.place p (sym (ap (λ (b : Bool). cond b (Some m.place) (place_of r (k ∷ ms))) (eq-eqb m.rsn r is)) ∙ e) in let u = ap (λ (x : Mark). x.place) h.0 in omega arith),
    ))
    (λ (ne : m.rsn ≢ r). (let g = grown low r p (k ∷ ms) ns h.1 (sym (ap (λ (b : Bool). cond b (Some m.place) (place_of r (k ∷ ms))) (ne_eqb m.rsn r ne)) ∙ e) in
    (g.0, rw (ne_eqb n.rsn r (λ x. ne (sym (ap (λ (y : Mark). y.rsn) h.0) ∙ x))) g.1, g.2)))
    (cases_eq m.rsn r)

-- a mark behind another one is above it, and its place is not before
after : (s q : ℕ) (m : Mark) (ms : List Mark) → RisesAfter m ms → place_of s ms ≡ Some q → (m.rsn < s) × (m.place ≤ q)
unfolding RisesAfter place_of
after s q m [] h e = absurd (cc)
after s q m (n ∷ ns) h e = ⊎_elim
    (λ (is : n.rsn ≡ s). (let x = same_place n.place q (sym (ap (λ (b : Bool). cond b (Some n.place) (place_of s ns)) (eq-eqb n.rsn s is)) ∙ e) in let u = h.0 in let v = h.1 in (omega arith, omega arith)))
    (λ (ne : n.rsn ≢ s). (let g = after s q n ns h.2 (sym (ap (λ (b : Bool). cond b (Some n.place) (place_of s ns)) (ne_eqb n.rsn s ne)) ∙ e) in let u = h.0 in let v = h.1 in let w = g.0 in let x = g.1 in (omega arith, omega arith)))
    (cases_eq n.rsn s)

rises_behind : (m : Mark) (ms : List Mark) → RisesAfter m ms → Rises ms
unfolding RisesAfter Rises
rises_behind m [] h = tt
rises_behind m (n ∷ ns) h = h.2

-- places never fall as the RSN rises
ordered : (r s p q : ℕ) (ms : List Mark) → Rises ms → place_of r ms ≡ Some p → place_of s ms ≡ Some q → r ≤ s → p ≤ q
unfolding Rises place_of RisesAfter
ordered r s p q [] h e f le = absurd (cc)
ordered r s p q (m ∷ ms) h e f le = ⊎_elim
    (λ (is : m.rsn ≡ r). (let x = same_place m.place p (sym (ap (λ (b : Bool). cond b (Some m.place) (place_of r ms)) (eq-eqb m.rsn r is)) ∙ e) in ⊎_elim
    (λ (it : m.rsn ≡ s). (let y = same_place m.place q (sym (ap (λ (b : Bool). cond b (Some m.place) (place_of s ms)) (eq-eqb m.rsn s it)) ∙ f) in omega arith))
    (λ (other : m.rsn ≢ s). (let g = after s q m ms h (sym (ap (λ (b : Bool). cond b (Some m.place) (place_of s ms)) (ne_eqb m.rsn s other)) ∙ f) in let v = g.1 in omega arith))
    (cases_eq m.rsn s)))
    (λ (ne : m.rsn ≢ r). (let e' : place_of r ms ≡ Some p = sym (ap (λ (b : Bool). cond b (Some m.place) (place_of r ms)) (ne_eqb m.rsn r ne)) ∙ e in
    let g = after r p m ms h e' in let lt = g.0 in
    ordered r s p q ms (rises_behind m ms h) e' (sym (ap (λ (b : Bool). cond b (Some m.place) (place_of s ms)) (ne_eqb m.rsn s (λ x. absurd (omega arith)))) ∙ f) le))
    (cases_eq m.rsn r)

-- the last mark has the last place, and is below what is above all
last_mark : (count low : ℕ) (m : Mark) (ms : List Mark) → RisesAfter m ms → EndsAt count (m ∷ ms) → AreBelow low (m ∷ ms) → (r : ℕ) × (place_of r (m ∷ ms) ≡ Some count) × (m.rsn ≤ r) × (r < low)
unfolding RisesAfter EndsAt AreBelow place_of
last_mark count low m [] h e b = (m.rsn, rw (eq-eqb m.rsn m.rsn refl) (ap (λ (x : ℕ). Some x) e), omega arith, b.0)
last_mark count low m (n ∷ ns) h e b = (let g = last_mark count low n ns h.2 e b.1 in let u = h.0 in let v = g.2 in (g.0, rw (ne_eqb m.rsn g.0 (λ x. absurd (omega arith))) g.1, omega arith, g.3))

-- ---- what was the newest at the beginning

-- the newest mark of the beginning is there later, below what was above all
newest : (vs : List (List ℕ)) (m n : Marks) → AreMarks vs m → MarksStep false m n → (length vs ≡ 0) ⊎ ((r q : ℕ) × (place_of r n.marks ≡ Some q) × (length vs ≤ q) × (r < m.low))
unfolding Rises EndsAt
newest vs m n a l = of m.marks a.rise a.ends a.below l.0
  where
    of : (ms : List Mark) → Rises ms → EndsAt (length vs) ms → AreBelow m.low ms → GoOn m.low ms n.marks → (length vs ≡ 0) ⊎ ((r q : ℕ) × (place_of r n.marks ≡ Some q) × (length vs ≤ q) × (r < m.low))
    of [] rise ends below on = inl ends
    of (k ∷ ks) rise ends below on = (let x = last_mark (length vs) m.low k ks rise ends below in let g = grown m.low x.0 (length vs) (k ∷ ks) n.marks on x.1 in inr (x.0, g.0, g.1, g.2, x.3))

-- a copy that has an RSN from the newest of the beginning on is not older than the beginning
copy_is_fresh : (vs ws : List (List ℕ)) (m n : Marks) (r p : ℕ) → AreMarks vs m → AreMarks ws n → MarksStep false m n → m.low ≤ r + 1 → place_of r n.marks ≡ Some p → length vs ≤ p
copy_is_fresh vs ws m n r p a b l up e = ⊎_elim
    (λ (z : length vs ≡ 0). omega arith)
    (λ x. (let le = ordered x.0 r x.1 p n.marks b.rise x.2 e (let lt = x.4 in omega arith) in let u = x.3 in omega arith))
    (newest vs m n a l)

-- the greatest place below an RSN is at least that of each mark below it
behind : (m : Mark) (l : ℕ) (ms : List Mark) → RisesAfter m ms → m.place ≤ place_below_from m.place l ms
unfolding RisesAfter place_below_from
behind m l [] h = omega arith
behind m l (n ∷ ns) h = ⊎_elim
    (λ (lt : n.rsn < l). subst (λ (b : Bool). m.place ≤ place_below_from (cond b n.place m.place) l ns) (sym (lt-ltb n.rsn l lt)) (let g = behind n l ns h.2 in let u = h.1 in omega arith))
    (λ (le : l ≤ n.rsn). subst (λ (b : Bool). m.place ≤ place_below_from (cond b n.place m.place) l ns) (sym (le-ltb n.rsn l le)) (behind (record { rsn = m.rsn; place = m.place }) l ns (skip ns h.2)))
    (cases_lt n.rsn l)
  where
    skip : (ks : List Mark) → RisesAfter n ks → RisesAfter (record { rsn = m.rsn; place = m.place }) ks
    skip [] a = tt
    skip (k ∷ ks) a = (let u = h.0 in let v = h.1 in let w = a.0 in let x = a.1 in (omega arith, omega arith, a.2))

below_has : (r p l found : ℕ) (ms : List Mark) → Rises ms → place_of r ms ≡ Some p → r < l → p ≤ place_below_from found l ms
unfolding Rises place_of place_below_from RisesAfter
below_has r p l found [] h e lt = absurd (cc)
below_has r p l found (m ∷ ms) h e lt = ⊎_elim
    (λ (is : m.rsn ≡ r). (let s = same_place m.place p (sym (ap (λ (b : Bool). cond b (Some m.place) (place_of r ms)) (eq-eqb m.rsn r is)) ∙ e) in
    subst (λ (b : Bool). p ≤ place_below_from (cond b m.place found) l ms) (sym (lt-ltb m.rsn l (omega arith))) (let g = behind m l ms h in omega arith)))
    (λ (ne : m.rsn ≢ r). below_has r p l (cond (nat_lt m.rsn l) m.place found) ms (rises_behind m ms h) (sym (ap (λ (b : Bool). cond b (Some m.place) (place_of r ms)) (ne_eqb m.rsn r ne)) ∙ e) lt)
    (cases_eq m.rsn r)

-- nor is an entry whose least RSN is above all marks of the beginning
entry_is_fresh : (vs ws : List (List ℕ)) (m n : Marks) (l : ℕ) → AreMarks vs m → AreMarks ws n → MarksStep false m n → m.low ≤ l → length vs ≤ place_below_from 0 l n.marks
entry_is_fresh vs ws m n l a b on up = ⊎_elim
    (λ (z : length vs ≡ 0). omega arith)
    (λ x. (let le = below_has x.0 x.1 l 0 n.marks b.rise x.2 (let lt = x.4 in omega arith) in let u = x.3 in omega arith))
    (newest vs m n a on)

-- ---- steps one after the other

sites_then : (low high : ℕ) (a b c : Option Site) → low ≤ high → SiteStep low a b → SiteStep high b c → SiteStep low a c
unfolding SiteStep
sites_then low high None b c le h k = tt
sites_then low high (Some x) None c le h k = ⊎_elim (λ e. absurd (cc)) (λ e. absurd (let n = e.1 in cc)) h
sites_then low high (Some x) (Some y) c le h k = ⊎_elim
    (λ (same : c ≡ Some y). ⊎_elim (λ e. inl (same ∙ e)) (λ e. inr (e.0, same ∙ e.1, e.2)) h)
    (λ j. inr (j.0, j.1, (let u = j.2 in omega arith)))
    k

from_on : (low high : ℕ) (ms ns : List Mark) → low ≤ high → AreFrom low ms → GoOn high ms ns → AreFrom low ns
unfolding AreFrom GoOn
from_on low high [] ns le h k = weaker ns k
  where
    weaker : (ns : List Mark) → AreFrom high ns → AreFrom low ns
    weaker [] a = tt
    weaker (n ∷ ns) a = (let u = a.0 in omega arith, weaker ns a.1)
from_on low high (m ∷ ms) [] le h k = absurd k
from_on low high (m ∷ []) (n ∷ ns) le h k = (let u = h.0 in let e = k.0 in omega arith, from_on low high [] ns le tt k.2)
from_on low high (m ∷ j ∷ ms) (n ∷ ns) le h k = (let u = h.0 in let e = ap (λ (x : Mark). x.rsn) k.0 in omega arith, from_on low high (j ∷ ms) ns le h.1 k.1)

goes_then : (low high : ℕ) (a b c : List Mark) → low ≤ high → GoOn low a b → GoOn high b c → GoOn low a c
unfolding GoOn AreFrom
goes_then low high [] b c le h k = from_on low high b c le h k
goes_then low high (m ∷ ms) [] c le h k = absurd h
goes_then low high (m ∷ ms) (n ∷ ns) [] le h k = absurd (none n ns k)
  where
    none : (n : Mark) (ns : List Mark) → GoOn high (n ∷ ns) [] → ⊥
    none n ns x = x
goes_then low high (m ∷ []) (n ∷ []) (o ∷ c) le h k = (k.0 ∙ h.0, (let u = h.1 in let v = k.1 in omega arith), from_on low high [] c le tt k.2)
goes_then low high (m ∷ []) (n ∷ p ∷ ns) (o ∷ c) le h k = (ap (λ (x : Mark). x.rsn) k.0 ∙ h.0, (let u = h.1 in let v = ap (λ (x : Mark). x.place) k.0 in omega arith), from_on low high (p ∷ ns) c le h.2 k.1)
goes_then low high (m ∷ j ∷ ms) (n ∷ []) (o ∷ c) le h k = absurd (empty j ms h.1)
  where
    empty : (j : Mark) (ms : List Mark) → GoOn low (j ∷ ms) [] → ⊥
    empty j ms x = x
goes_then low high (m ∷ j ∷ ms) (n ∷ p ∷ ns) (o ∷ c) le h k = (k.0 ∙ h.0, goes_then low high (j ∷ ms) (p ∷ ns) c le h.1 k.1)

pub later_then : (a b c : Marks) → MarksStep false a b → MarksStep false b c → MarksStep false a c
later_then a b c h k =
    (goes_then a.low b.low a.marks b.marks c.marks h.1 h.0 k.0, (let u = h.1 in let v = k.1 in omega arith), sites_then a.low b.low a.site b.site c.site h.1 h.2 k.2)

pub on_itself : (low : ℕ) (ms : List Mark) → GoOn low ms ms
unfolding GoOn AreFrom
on_itself low [] = tt
on_itself low (m ∷ []) = (refl, omega arith, tt)
on_itself low (m ∷ k ∷ ms) = (refl, on_itself low (k ∷ ms))

pub site_itself : (low : ℕ) (x : Option Site) → SiteStep low x x
unfolding SiteStep
site_itself low None = tt
site_itself low (Some x) = inl refl

-- ---- places are within the versions

ends_above : (count : ℕ) (n : Mark) (ns : List Mark) → RisesAfter n ns → EndsAt count (n ∷ ns) → n.place ≤ count
unfolding RisesAfter EndsAt
ends_above count n [] h e = omega arith
ends_above count n (k ∷ ks) h e = (let u = ends_above count k ks h.2 e in let v = h.1 in omega arith)

place_within : (count r p : ℕ) (ms : List Mark) → Rises ms → EndsAt count ms → place_of r ms ≡ Some p → p ≤ count
unfolding Rises RisesAfter EndsAt place_of
place_within count r p [] h e f = absurd (cc)
place_within count r p (m ∷ []) h e f = ⊎_elim
    (λ (is : m.rsn ≡ r). (let s = same_place m.place p (sym (ap (λ (b : Bool). cond b (Some m.place) None) (eq-eqb m.rsn r is)) ∙ f) in omega arith))
    (λ (ne : m.rsn ≢ r). absurd (let s = sym (ap (λ (b : Bool). cond b (Some m.place) None) (ne_eqb m.rsn r ne)) ∙ f in cc))
    (cases_eq m.rsn r)
place_within count r p (m ∷ n ∷ ns) h e f = ⊎_elim
    (λ (is : m.rsn ≡ r). (let s = same_place m.place p (sym (ap (λ (b : Bool). cond b (Some m.place) (place_of r (n ∷ ns))) (eq-eqb m.rsn r is)) ∙ f) in let u = h.1 in let v = ends_above count n ns h.2 e in omega arith))
    (λ (ne : m.rsn ≢ r). place_within count r p (n ∷ ns) h.2 e (sym (ap (λ (b : Bool). cond b (Some m.place) (place_of r (n ∷ ns))) (ne_eqb m.rsn r ne)) ∙ f))
    (cases_eq m.rsn r)

either_within : (b : Bool) (x y count : ℕ) → x ≤ count → y ≤ count → cond b x y ≤ count
either_within true x y count le other = le
either_within false x y count le other = other

below_within : (count l found : ℕ) (ms : List Mark) → Rises ms → EndsAt count ms → found ≤ count → place_below_from found l ms ≤ count
unfolding Rises RisesAfter EndsAt place_below_from
below_within count l found [] h e le = le
below_within count l found (m ∷ []) h e le = either_within (nat_lt m.rsn l) m.place found count (omega arith) le
below_within count l found (m ∷ n ∷ ns) h e le =
    below_within count l (cond (nat_lt m.rsn l) m.place found) (n ∷ ns) h.2 e (either_within (nat_lt m.rsn l) m.place found count (let u = h.1 in let v = ends_above count n ns h.2 e in omega arith) le)

-- ---- moments

pub later_all : (m : Moment) (ns : List Moment) → LivesOn m ns → MarksStep false m.marks (last_of m ns).marks
unfolding LivesOn last_of
later_all m [] h = (on_itself m.marks.low m.marks.marks, omega arith, site_itself m.marks.low m.marks.site)
later_all m (n ∷ ns) h = later_then m.marks n.marks (last_of n ns).marks h.0 (later_all n ns h.3)

pub last_marked : (m : Moment) (ns : List Moment) → IsMarked m → LivesOn m ns → IsMarked (last_of m ns)
unfolding LivesOn last_of
last_marked m [] a h = a
last_marked m (n ∷ ns) a h = last_marked n ns h.2 h.3

take_front : (k : ℕ) (vs ws : List (List ℕ)) → k ≤ length vs → take k (vs ++ ws) ≡ take k vs
take_front k vs ws le = sym (take-take k (length vs) (vs ++ ws) le) ∙ ap (λ (l : List (List ℕ)). take k l) (take_at vs ws (length vs) refl)

-- a step leaves the first versions
first_stay : (vs ws : List (List ℕ)) (k : ℕ) → VersionsStep false vs ws → k ≤ length vs → (take k ws ≡ take k vs) × (k ≤ length ws)
unfolding VersionsStep
first_stay vs ws k h le = ⊎_elim
    (λ (e : ws ≡ vs). (ap (λ (l : List (List ℕ)). take k l) e, subst (λ (l : List (List ℕ)). k ≤ length l) (sym e) le))
    (λ (x : (v : List ℕ) × (ws ≡ vs ++ v ∷ [])). (
      ap (λ (l : List (List ℕ)). take k l) x.1 ∙ take_front k vs (x.0 ∷ []) le,
      (let u = ap (λ (l : List (List ℕ)). length l) x.1 in let w = length-append vs (x.0 ∷ []) in omega arith),
    ))
    h

all_stay : (m : Moment) (ns : List Moment) (k : ℕ) → LivesOn m ns → k ≤ length m.versions → take k (last_of m ns).versions ≡ take k m.versions
unfolding LivesOn last_of
all_stay m [] k h le = refl
all_stay m (n ∷ ns) k h le = (let s = first_stay m.versions n.versions k h.1 le in all_stay n ns k h.3 s.1 ∙ s.0)

-- and adds one at most
next_within : (vs ws : List (List ℕ)) (p : ℕ) → VersionsStep false vs ws → length vs < p → length ws ≤ p
unfolding VersionsStep
next_within vs ws p h lt = ⊎_elim
    (λ (e : ws ≡ vs). (let u = ap (λ (l : List (List ℕ)). length l) e in omega arith))
    (λ (x : (v : List ℕ) × (ws ≡ vs ++ v ∷ [])). (let u = ap (λ (l : List (List ℕ)). length l) x.1 in let w = length-append vs (x.0 ∷ []) in omega arith))
    h

-- each number of versions in between was that of some moment
attained : (m : Moment) (ns : List Moment) (p : ℕ) → LivesOn m ns → length m.versions ≤ p → p ≤ length (last_of m ns).versions → WasRead (reading (take p (last_of m ns).versions)) m ns
unfolding LivesOn last_of WasRead
attained m [] p h le up = ap reading (sym (take_all p m.versions le))
attained m (n ∷ ns) p h le up = ⊎_elim
    (λ (lt : length m.versions < p). inr (attained n ns p h.3 (next_within m.versions n.versions p h.1 lt) up))
    (λ (ge : p ≤ length m.versions). inl (ap reading (sym (all_stay m (n ∷ ns) p h ge ∙ take_all p m.versions le))))
    (cases_lt (length m.versions) p)

-- ---- the three laws

pub fresh_copy_was_read : FreshCopyWasRead
unfolding IsCopyAt
fresh_copy_was_read m ns rsn value a h up c =
    let last = last_of m ns in
    let b = last_marked m ns a h in
    subst (λ (v : List ℕ). WasRead v m ns) (sym c.2)
    (attained m ns c.0 h (copy_is_fresh m.versions last.versions m.marks last.marks rsn c.0 a b (later_all m ns h) up c.1) (place_within (length last.versions) rsn c.0 last.marks.marks b.rise b.ends c.1))

pub fresh_entry_was_read : FreshEntryWasRead
unfolding IsEntryAt
fresh_entry_was_read m ns least value a h up c =
    let last = last_of m ns in
    let b = last_marked m ns a h in
    let from = entry_is_fresh m.versions last.versions m.marks last.marks least a b (later_all m ns h) up in
    let to = below_within (length last.versions) (least + 1) 0 last.marks.marks b.rise b.ends (omega arith) in
    subst (λ (v : List ℕ). WasRead v m ns) (sym c.3) (attained m ns c.0 h (let u = c.1 in omega arith) (let u = c.2 in omega arith))

same_site : (x y : Site) (s : Option Site) → s ≡ Some x → s ≡ Some y → x.least ≡ y.least
same_site x y s e f = (let t : Some x ≡ Some y = sym e ∙ f in let u : x ≡ y = cc in ap (λ (z : Site). z.least) u)

-- where it stays or moves on from here, its least RSN at the end is at least what it was, or above all marks
pub site_after : (low : ℕ) (x y : Site) (s : Option Site) → SiteStep low (Some x) s → s ≡ Some y → (x.least ≡ y.least) ⊎ (low ≤ y.least)
unfolding SiteStep
site_after low x y s h e = ⊎_elim
    (λ (stays : s ≡ Some x). inl (same_site x y s stays e))
    (λ (t : (z : Site) × (s ≡ Some z) × (low ≤ z.least)). inr (let u = same_site t.0 y s t.1 e in let v = t.2 in omega arith))
    h

moved_so : (low : ℕ) (x : Site) (s : Option Site) → SiteStep low (Some x) s → (s ≡ Some x) ⊎ ((z : Site) × (s ≡ Some z) × (low ≤ z.least))
unfolding SiteStep
moved_so low x s h = h

pub found_so : (Seen : ℕ → Type 0) (m n o : Marks) (x y : Site) → MarksStep false m n → MarksStep false n o → m.site ≡ Some x → o.site ≡ Some y →
    ((z : Site) → n.site ≡ Some z → z.holder ≡ x.holder → (n.low ≤ z.least) ⊎ ((rsn : ℕ) × Seen rsn × (rsn + 1 ≡ n.low))) → (m.low ≤ y.least) ⊎ ((rsn : ℕ) × Seen rsn × (m.low ≤ rsn + 1))
found_so Seen m n o x y first second at end found = ⊎_elim
    (λ (same : n.site ≡ Some x). ⊎_elim
    (λ (past : n.low ≤ x.least). inl (⊎_elim
    (λ (e : x.least ≡ y.least). (let u = first.1 in omega arith))
    (λ (le : n.low ≤ y.least). (let u = first.1 in omega arith))
    (site_after n.low x y o.site (subst (λ (s : Option Site). SiteStep n.low s o.site) same second.2) end)))
    (λ (c : (rsn : ℕ) × Seen rsn × (rsn + 1 ≡ n.low)). inr (c.0, c.1, (let u = first.1 in let v = c.2 in omega arith)))
    (found x same refl))
    (λ (j : (z : Site) × (n.site ≡ Some z) × (m.low ≤ z.least)). inl (⊎_elim
    (λ (e : j.0.least ≡ y.least). (let u = j.2 in omega arith))
    (λ (le : n.low ≤ y.least). (let u = first.1 in omega arith))
    (site_after n.low j.0 y o.site (subst (λ (s : Option Site). SiteStep n.low s o.site) j.1 second.2) end)))
    (moved_so m.low x n.site (subst (λ (s : Option Site). SiteStep m.low s n.site) at first.2))

pub record_is_found : RecordIsFound
record_is_found m ns os x y copy h k at end found = found_so (λ (rsn : ℕ). copy ≡ Some rsn) m.marks (last_of m ns).marks (last_of (last_of m ns) os).marks x y (later_all m ns h) (later_all (last_of m ns) os k) at end found
