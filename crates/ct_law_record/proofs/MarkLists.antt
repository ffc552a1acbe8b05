-- The marks of a span: one for each RSN from its base to below its top.
use Rattle.std.proofs.Common.{◌≡◌, ◌≢◌, ℕ, zero, suc, ◌+◌, ◌-◌, ◌<◌, ◌≤◌, Bool, true, false, Option, None, Some, List, [], ◌∷◌, refl, sym, ap, ◌∙◌, ⊎_elim, inl, inr, arith, subst, nat_lt, cond}
use Rattle.std.proofs.lemmas.Bool.{cases_eq, eq-eqb, ne_eqb, cond_both, ltb-true, lt-ltb, le-ltb, cases_lt}
use Rattle.ct_rules.specs.declared.state.Entry.{Entry}
use Rattle.ct_register.specs.Marks.{Mark, Site, Marks, BeginBy, SiteStep, Rises, RisesAfter, EndsAt, AreBelow, AreFrom, GoOn, place_of, place_below_from, MarksStep}
use Rattle.ct_law_record.proofs.Invariant.{Span, Grows, Goes}

-- so many marks from an RSN on
unfoldable pub dense : (from count : ℕ) (mark : ℕ → ℕ) → List Mark
dense from zero mark = []
dense from (suc n) mark = record { rsn = from; place = mark (from + 1) } ∷ dense (from + 1) n mark

-- where the record is, if it has marks
abbrev pub site_in : Span → Option Site
site_in a = cond (nat_lt a.base a.top) (Some (record { holder = a.entry.holder; least = a.entry.least })) None

abbrev pub marks_in : Span → Marks
marks_in a = record { marks = dense a.base (a.top - a.base) a.mark; low = a.top; site = site_in a }

module _ (mark : ℕ → ℕ) where
  pub dense_from : (low from n : ℕ) → low ≤ from → AreFrom low (dense from n mark)
  unfolding dense AreFrom
  dense_from low from zero le = tt
  dense_from low from (suc n) le = (le, dense_from low (from + 1) n (omega arith))

  pub dense_below : (high from n : ℕ) → from + n ≤ high → AreBelow high (dense from n mark)
  unfolding dense AreBelow
  dense_below high from zero le = tt
  dense_below high from (suc n) le = (omega arith, dense_below high (from + 1) n (omega arith))

  dense_after : (m : Mark) (from n : ℕ) → ((a b : ℕ) → a ≤ b → mark a ≤ mark b) → m.rsn < from → m.place ≤ mark from → RisesAfter m (dense from n mark)
  unfolding dense RisesAfter
  dense_after m from zero rises low le = tt
  dense_after m from (suc n) rises low le = (low, (let u = rises from (from + 1) (omega arith) in omega arith), dense_after (record { rsn = from; place = mark (from + 1) }) (from + 1) n rises (omega arith) (omega arith))

  pub dense_rises : (from n : ℕ) → ((a b : ℕ) → a ≤ b → mark a ≤ mark b) → Rises (dense from n mark)
  unfolding dense Rises
  dense_rises from zero rises = tt
  dense_rises from (suc n) rises = dense_after (record { rsn = from; place = mark (from + 1) }) (from + 1) n rises (omega arith) (omega arith)

  pub dense_ends : (count from n : ℕ) → mark (from + suc n) ≡ count → EndsAt count (dense from (suc n) mark)
  unfolding dense EndsAt
  dense_ends count from zero is = is
  dense_ends count from (suc n) is = dense_ends count (from + 1) n (ap mark (let e : from + 1 + suc n ≡ from + suc (suc n) = omega arith in e) ∙ is)

  pub dense_has : (rsn from n : ℕ) → from ≤ rsn → rsn < from + n → place_of rsn (dense from n mark) ≡ Some (mark (rsn + 1))
  unfolding dense place_of
  dense_has rsn from zero low high = absurd (omega arith)
  dense_has rsn from (suc n) low high = ⊎_elim
      (λ (e : from ≡ rsn). rw (eq-eqb from rsn e) (ap (λ x. Some (mark (x + 1))) e))
      (λ (ne : from ≢ rsn). rw (ne_eqb from rsn ne) (dense_has rsn (from + 1) n (omega arith) (omega arith)))
      (cases_eq from rsn)

  -- no mark below an RSN is above the mark of its rank
  pub dense_low : (found rsn from n : ℕ) → ((a b : ℕ) → a ≤ b → mark a ≤ mark b) → found ≤ mark rsn → place_below_from found rsn (dense from n mark) ≤ mark rsn
  unfolding dense place_below_from
  dense_low found rsn from zero rises le = le
  dense_low found rsn from (suc n) rises le = cond_both (nat_lt from rsn) (mark (from + 1)) found (λ (x : ℕ). place_below_from x rsn (dense (from + 1) n mark) ≤ mark rsn)
      (λ t. dense_low (mark (from + 1)) rsn (from + 1) n rises (rises (from + 1) rsn (let l = ltb-true from rsn t in omega arith)))
      (λ _. dense_low found rsn (from + 1) n rises le)

  dense_stays : (x found rsn from n : ℕ) → ((a b : ℕ) → a ≤ b → mark a ≤ mark b) → x ≤ found → x ≤ mark from → x ≤ place_below_from found rsn (dense from n mark)
  unfolding dense place_below_from
  dense_stays x found rsn from zero rises le low = le
  dense_stays x found rsn from (suc n) rises le low = (let u = rises from (from + 1) (omega arith) in cond_both (nat_lt from rsn) (mark (from + 1)) found (λ (y : ℕ). x ≤ place_below_from y rsn (dense (from + 1) n mark))
      (λ _. dense_stays x (mark (from + 1)) rsn (from + 1) n rises (omega arith) (omega arith))
      (λ _. dense_stays x found rsn (from + 1) n rises le (omega arith)))

  -- the greatest mark up to an RSN is at least the mark of its rank
  pub dense_high : (found least from n : ℕ) → ((a b : ℕ) → a ≤ b → mark a ≤ mark b) → from ≤ least → mark least ≤ mark (from + suc n) → mark least ≤ place_below_from found (least + 1) (dense from (suc n) mark)
  unfolding dense place_below_from
  dense_high found least from zero rises low high = subst (λ (b : Bool). mark least ≤ place_below_from (cond b (mark (from + 1)) found) (least + 1) []) (sym (lt-ltb from (least + 1) (omega arith))) high
  dense_high found least from (suc k) rises low high = subst (λ (b : Bool). mark least ≤ place_below_from (cond b (mark (from + 1)) found) (least + 1) (dense (from + 1) (suc k) mark)) (sym (lt-ltb from (least + 1) (omega arith)))
      (⊎_elim
      (λ (l : from < least). dense_high (mark (from + 1)) least (from + 1) k rises (omega arith) (let e : from + suc (suc k) ≡ from + 1 + suc k = omega arith in subst (λ x. mark least ≤ mark x) e high))
      (λ (l : least ≤ from). (let u = rises least (from + 1) (omega arith) in dense_stays (mark least) (mark (from + 1)) (least + 1) (from + 1) (suc k) rises u u))
      (cases_lt from least))

-- the marks go on
dense_goes : (low from n k : ℕ) (mark new : ℕ → ℕ) → low ≡ from + n → n ≤ k → ((x : ℕ) → x < from + n → new x ≡ mark x) → mark (from + n) ≤ new (from + n) → GoOn low (dense from n mark) (dense from k new)
unfolding dense GoOn
dense_goes low from zero k mark new is le same raised = dense_from new low from k (omega arith)
dense_goes low from (suc n) zero mark new is le same raised = absurd (omega arith)
dense_goes low from (suc zero) (suc k) mark new is le same raised = (refl, raised, dense_from new low (from + 1) k (omega arith))
dense_goes low from (suc (suc n)) (suc k) mark new is le same raised = (
  ap (λ (x : ℕ). record { rsn = from; place = x }) (same (from + 1) (omega arith)),
  dense_goes low (from + 1) (suc n) k mark new (omega arith) (omega arith) (λ x l. same x (omega arith))
      (let e : from + suc (suc n) ≡ from + 1 + suc n = omega arith in subst (λ x. mark x ≤ new x) e raised),
)

-- some mark is up to an RSN from the first on
pub dense_begins : (high from n : ℕ) (mark : ℕ → ℕ) → from ≤ high → BeginBy high (dense from (suc n) mark)
unfolding dense BeginBy
dense_begins high from n mark le = inl le

pub none_in : (a : Span) → a.top ≤ a.base → (marks_in a).marks ≡ []
unfolding dense
none_in a le = ap (λ n. dense a.base n a.mark) (let e : a.top - a.base ≡ 0 = omega arith in e)

pub nowhere : (a : Span) → a.top ≤ a.base → site_in a ≡ None
nowhere a le = ap (λ (b : Bool). cond b (Some (record { holder = a.entry.holder; least = a.entry.least })) None) (le-ltb a.base a.top le)

pub somewhere : (a : Span) → a.base < a.top → site_in a ≡ Some (record { holder = a.entry.holder; least = a.entry.least })
somewhere a some = ap (λ (b : Bool). cond b (Some (record { holder = a.entry.holder; least = a.entry.least })) None) (lt-ltb a.base a.top some)

-- a record that is somewhere has marks
pub has_site : (a : Span) (x : Site) → site_in a ≡ Some x → (a.base < a.top) × (x ≡ record { holder = a.entry.holder; least = a.entry.least })
has_site a x is = ⊎_elim
    (λ (some : a.base < a.top). (some, (let e = sym is ∙ somewhere a some in cc)))
    (λ (none : a.top ≤ a.base). absurd (let e = sym is ∙ nowhere a none in cc))
    (cases_lt a.base a.top)

-- it stays where it is, or moves on
site_steps : (a c : Span) → Grows a c → SiteStep a.top (site_in a) (site_in c)
unfolding SiteStep
site_steps a c h = ⊎_elim
    (λ (some : a.base < a.top).
    let base = h.base in let top = h.top in
    let now : site_in c ≡ Some (record { holder = c.entry.holder; least = c.entry.least }) = somewhere c (omega arith) in
    subst (λ (x : Option Site). SiteStep a.top x (site_in c)) (sym (somewhere a some))
    (⊎_elim
    (λ (same : c.entry ≡ a.entry). inl (now ∙ ap (λ (e : Entry). Some (record { holder = e.holder; least = e.least })) same))
    (λ (le : a.top ≤ c.entry.least). inr (record { holder = c.entry.holder; least = c.entry.least }, now, le))
    h.moved))
    (λ (none : a.top ≤ a.base). subst (λ (x : Option Site). SiteStep a.top x (site_in c)) (sym (nowhere a none)) tt)
    (cases_lt a.base a.top)

pub marks_grow : (a c : Span) → a.base ≤ a.top → Grows a c → MarksStep false (marks_in a) (marks_in c)
marks_grow a c le h =
    let up = h.top in
    let base = h.base in
    let all : a.base + (a.top - a.base) ≡ a.top = omega arith in (
      subst (λ (x : ℕ). GoOn a.top (dense a.base (a.top - a.base) a.mark) (dense x (c.top - x) c.mark)) (sym base)
          (dense_goes a.top a.base (a.top - a.base) (c.top - a.base) a.mark c.mark (omega arith) (omega arith) (λ x l. h.same x (omega arith)) (subst (λ x. a.mark x ≤ c.mark x) (sym all) h.raised)),
      up,
      site_steps a c h,
    )

pub marks_go : (b : Bool) (a c : Span) → a.base ≤ a.top → Goes b a c → MarksStep b (marks_in a) (marks_in c)
unfolding Goes
marks_go true a c le h = (none_in c h.none, h.top, nowhere c h.none)
marks_go false a c le h = marks_grow a c le h

pub marks_from : (low : ℕ) (a : Span) → low ≤ a.base → AreFrom low (marks_in a).marks
marks_from low a le = dense_from a.mark low a.base (a.top - a.base) le

-- marks may stay as they are
go_on_same : (low : ℕ) (ms : List Mark) → GoOn low ms ms
unfolding GoOn AreFrom
go_on_same low [] = tt
go_on_same low (m ∷ []) = (refl, omega arith, tt)
go_on_same low (m ∷ k ∷ ms) = (refl, go_on_same low (k ∷ ms))

site_same : (low : ℕ) (x : Option Site) → SiteStep low x x
unfolding SiteStep
site_same low None = tt
site_same low (Some x) = inl refl

pub marks_stay : (m : Marks) → MarksStep false m m
marks_stay m = (go_on_same m.low m.marks, omega arith, site_same m.low m.site)
