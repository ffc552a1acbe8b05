-- Small lists of marks.
use Rattle.std.proofs.Common.{◌≡◌, ◌≢◌, ℕ, ◌<◌, ◌≤◌, ◌+◌, [], refl, sym, ap, ⊎_elim, inl, inr, arith, subst}
use Rattle.std.proofs.lemmas.Bool.{cases_eq}
use Rattle.std.specs.Prelude.{take, get_or, None, Some}
use Rattle.ct_register.specs.Register
use Rattle.ct_register_worked.specs.Runs.{x, y}
use Rattle.ct_register.specs.Marks
use Rattle.ct_register_worked.specs.Marked.{versions, ThreeAreMarks, CopiesHaveMarks, EntriesHaveMarks, MarksGoOn, MarksDoNotGoBack}

lt : (k n : ℕ) → k < k + n + 1
lt k n = omega arith

le : (k n : ℕ) → k ≤ k + n
le k n = omega arith

pub three_are_marks : ThreeAreMarks
unfolding Marks.Rises Marks.RisesAfter Marks.EndsAt Marks.AreBelow Marks.IsSiteOf Marks.BeginBy
three_are_marks = record { rise = (lt 0 1, le 0 1, (lt 2 2, le 1 1, tt)); ends = refl; below = (lt 0 5, (lt 2 3, (lt 5 0, tt))); sited = inl (le 0 4) }

one_of : (place : ℕ) → place ≢ 0 → place ≤ 1 → place ≡ 1
one_of place some high = omega arith

same_place : (p q : ℕ) → Some p ≡ Some q → p ≡ q
same_place p q e = cc

different : ◌≡◌ {A = ℕ} 121 120 → ⊥
different e = absurd (omega arith)

y_not_x : y ≡ x → ⊥
y_not_x e = different (ap (λ v. get_or v 0 0) e)

y_is_not : (place : ℕ) → place ≡ 1 → y ≡ Register.reading (take place versions) → ⊥
unfolding Register.reading
y_is_not place one is = y_not_x (subst (λ k. y ≡ Register.reading (take k versions)) one is)

y_is_not_before : (place : ℕ) → place ≤ 1 → y ≡ Register.reading (take place versions) → ⊥
unfolding Register.reading
y_is_not_before place high is =
    ⊎_elim (λ (none : place ≡ 0). absurd (let e : y ≡ [] = subst (λ k. y ≡ Register.reading (take k versions)) none is in cc))
    (λ (some : place ≢ 0). y_is_not place (one_of place some high) is) (cases_eq place 0)

pub copies_have_marks : CopiesHaveMarks
unfolding Marks.IsCopyAt Marks.place_of Register.reading
copies_have_marks = ((1, refl, refl), (0, refl, refl), (λ p. y_is_not p.0 (sym (same_place 1 p.0 p.1)) p.2), λ p. (let e : None ≡ Some p.0 = p.1 in absurd (cc)))

pub entries_have_marks : EntriesHaveMarks
unfolding Marks.IsEntryAt Marks.place_below_from Register.reading
entries_have_marks =
    ((0, le 0 0, le 0 1, refl), (1, le 0 1, le 1 0, refl), (λ p. y_is_not_before p.0 p.2 p.3), (1, le 1 0, le 1 0, refl), (λ p. y_is_not_before p.0 p.2 p.3))

pub marks_go_on : MarksGoOn
unfolding Marks.GoOn Marks.AreFrom Marks.SiteStep
marks_go_on = (((refl, (refl, (refl, le 2 1, tt))), le 6 0, inl refl), ((refl, (refl, (refl, le 2 0, (le 6 0, tt)))), le 6 1, inr (record { holder = 2; least = 6 }, refl, le 6 0)), (refl, le 6 0, refl), ((le 6 2, tt), le 6 3, tt))

two_above_one : 2 ≤ 1 → ⊥
two_above_one h = absurd (omega arith)

six_above_five : 6 ≤ 5 → ⊥
six_above_five h = absurd (omega arith)

two_not_one : ◌≢◌ {A = ℕ} 2 1
two_not_one = λ e. cc

-- to be at another node it would have to be above all marks
not_moved : (a b : Marks.Site) → Some a ≡ Some b → b.holder ≡ 1 → a.holder ≡ 2 → ⊥
not_moved a b e one two = (let s : a ≡ b = cc in let h = ap (λ (x : Marks.Site). x.holder) s in absurd (omega arith))

not_above : (t : Marks.Site) → Some (record { holder = 2; least = 5 }) ≡ Some t → 6 ≤ t.least → ⊥
not_above t e le = (let s : record { holder = 2; least = 5 } ≡ t = cc in let l = ap (λ (x : Marks.Site). x.least) s in absurd (omega arith))

site_stays : Marks.SiteStep 6 (Some (record { holder = 1; least = 4 })) (Some (record { holder = 2; least = 5 })) → ⊥
unfolding Marks.SiteStep
site_stays h = ⊎_elim (λ (e : Some (record { holder = 2; least = 5 }) ≡ Some (record { holder = 1; least = 4 })). not_moved (record { holder = 2; least = 5 }) (record { holder = 1; least = 4 }) e refl refl) (λ t. not_above t.0 t.1 t.2) h

not_nowhere : Marks.SiteStep 6 (Some (record { holder = 1; least = 4 })) None → ⊥
unfolding Marks.SiteStep
not_nowhere h = ⊎_elim (λ (e : None ≡ Some (record { holder = 1; least = 4 })). absurd (cc)) (λ t. absurd (let e = t.1 in cc)) h

pub marks_do_not_go_back : MarksDoNotGoBack
unfolding Marks.GoOn Marks.AreFrom
marks_do_not_go_back = ((λ p. two_above_one p.0.1.1.1), (λ p. two_not_one (ap (λ (m : Marks.Mark). m.place) p.0.1.0)), (λ p. elim p.0.1.1 [ ]), (λ p. six_above_five p.0.0), (λ p. site_stays p.2), (λ p. not_nowhere p.2))
