-- How the marks go on: what each change of the ghost owes of them.
use Rattle.std.proofs.Common.{length, ◌≡◌, ℕ, ◌+◌, ◌<◌, ◌≤◌, Bool, true, false, List, [], ◌∷◌, ◌++◌, refl, sym, ap, ◌∙◌, ⊎_elim, inl, inr, arith, subst, cond, leb, length-append, ◌||◌}
use Rattle.std.proofs.lemmas.Bool.{lt-leb, le-leb, cases_lt}
use Rattle.std.proofs.lemmas.List.{take_all, take-append-le}
use Rattle.ct_rules.specs.declared.state.Entry.{Entry}
use Rattle.ct_register.specs.Register.{reading}
use Rattle.ct_law_record.specs.Labels.{Label, Joined}
use Rattle.ct_law_record.specs.Marked.{is_removal, is_removed}
use Rattle.ct_law_record.proofs.Invariant.{Span, Grows, Empties, Goes, Marking}
use Rattle.ct_law_record.proofs.Rule.{greater}

-- spans
pub grows_none : (a : Span) → Grows a a
grows_none a = record { base = refl; top = omega arith; same = λ x l. refl; raised = omega arith; moved = inl refl }

pub grows_top : (base top t : ℕ) (mark : ℕ → ℕ) (e : Entry) → top ≤ t → Grows (record { base = base; top = top; mark = mark; entry = e }) (record { base = base; top = t; mark = mark; entry = e })
grows_top base top t mark e le = record { base = refl; top = le; same = λ x l. refl; raised = omega arith; moved = inl refl }

grows_on : (a c d : Span) → Grows a c → Grows c d → Grows a d
grows_on a c d h k = record {
  base = k.base ∙ h.base;
  top = (let x = h.top in let y = k.top in omega arith);
  same = λ x l. (let t = h.top in k.same x (omega arith) ∙ h.same x l);
  raised = (let t = h.top in ⊎_elim
      (λ (l : a.top < c.top). (let e = k.same a.top l in let s = h.raised in omega arith))
      (λ (l : c.top ≤ a.top). (let e : c.top ≡ a.top = omega arith in let s = h.raised in let y : c.mark a.top ≤ d.mark a.top = subst (λ x. c.mark x ≤ d.mark x) e k.raised in omega arith))
      (cases_lt a.top c.top));
  moved = (let t = h.top in ⊎_elim
      (λ (same : d.entry ≡ c.entry). ⊎_elim
      (λ (e : c.entry ≡ a.entry). inl (same ∙ e))
      (λ (le : a.top ≤ c.entry.least). inr (let e = ap (λ (x : Entry). x.least) same in omega arith))
      h.moved)
      (λ (le : c.top ≤ d.entry.least). inr (omega arith))
      k.moved);
}

-- the entry moves on to a least rank above all marks, whether the step has removed the record before or not
pub goes_moved : (b : Bool) (a c : Span) (e : Entry) → c.top ≤ e.least → Goes b a c → Goes b a (record c { entry = e })
unfolding Goes
goes_moved false a c e le h = grows_on a c (record c { entry = e }) h (record { base = refl; top = omega arith; same = λ x l. refl; raised = omega arith; moved = inr le })
goes_moved true a c e le h = record { none = h.none; top = h.top }

pub goes_on : (b : Bool) (a c d : Span) → (b ≡ true → c.top ≤ c.base → ⊥) → Grows c d → Goes b a c → Goes b a d
unfolding Goes
goes_on false a c d some k h = grows_on a c d h k
goes_on true a c d some k h = absurd (some refl h.none)

pub goes_top : (b : Bool) (a c : Span) → Goes b a c → a.top ≤ c.top
unfolding Goes
goes_top false a c h = h.top
goes_top true a c h = h.top

-- labels that tell of no removal, and one that does
removed_more : (ls : List Label) (l : Label) → is_removal l ≡ false → is_removed (ls ++ (l ∷ [])) ≡ is_removed ls
unfolding is_removed
removed_more [] l e = rw e refl
removed_more (k ∷ ls) l e = ap (λ b. is_removal k || b) (removed_more ls l e)

removed_last : (ls : List Label) (l : Label) → is_removal l ≡ true → is_removed (ls ++ (l ∷ [])) ≡ true
unfolding is_removed
removed_last [] l e = rw e refl
removed_last (k ∷ ls) l e = (let r = removed_last ls l e in grind arith)

pub goes_told : (ls : List Label) (l : Label) (a c : Span) → is_removal l ≡ false → Goes (is_removed ls) a c → Goes (is_removed (ls ++ (l ∷ []))) a c
goes_told ls l a c e h = subst (λ b. Goes b a c) (sym (removed_more ls l e)) h

pub goes_removed : (ls : List Label) (l : Label) (a c : Span) → is_removal l ≡ true → Empties a c → Goes (is_removed (ls ++ (l ∷ []))) a c
unfolding Goes
goes_removed ls l a c e h = subst (λ b. Goes b a c) (sym (removed_last ls l e)) h

-- a step that tells nothing, and one that tells of no removal
pub goes_stays : (a : Span) → Goes (is_removed []) a a
unfolding Goes is_removed
goes_stays a = grows_none a

pub goes_joined : (n : ℕ) (a : Span) → Goes (is_removed (Joined n ∷ [])) a a
unfolding Goes is_removed is_removal
goes_joined n a = grows_none a

-- after a removal amid many steps there may be marks again, above all that were
pub record Restarts (a c : Span) : Type 0 where
  pub low : a.top ≤ c.base
  pub top : a.top ≤ c.top

unfoldable pub RunsOn : (is_removed : Bool) → Span → Span → Type 0
RunsOn true a c = Restarts a c
RunsOn false a c = Grows a c

goes_then : (x y : Bool) (a c d : Span) → Goes x a c → RunsOn y c d → RunsOn (x || y) a d
unfolding Goes RunsOn
goes_then false false a c d h k = grows_on a c d h k
goes_then false true a c d h k = (let u = h.top in let l = k.low in let t = k.top in record { low = omega arith; top = omega arith })
goes_then true false a c d h k = (let u = h.top in let n = h.none in let b = k.base in let t = k.top in record { low = omega arith; top = omega arith })
goes_then true true a c d h k = (let u = h.top in let l = k.low in let t = k.top in record { low = omega arith; top = omega arith })

removed_append : (ls ks : List Label) → is_removed (ls ++ ks) ≡ (is_removed ls || is_removed ks)
unfolding is_removed
removed_append [] ks = refl
removed_append (l ∷ ls) ks = (let r = removed_append ls ks in grind arith)

pub runs_then : (ls ks : List Label) (a c d : Span) → Goes (is_removed ls) a c → RunsOn (is_removed ks) c d → RunsOn (is_removed (ls ++ ks)) a d
runs_then ls ks a c d h k = subst (λ b. RunsOn b a d) (sym (removed_append ls ks)) (goes_then (is_removed ls) (is_removed ks) a c d h k)

pub runs_none : (a : Span) → RunsOn (is_removed []) a a
unfolding RunsOn is_removed
runs_none a = grows_none a

-- the marks
module _ (base joint top least : ℕ) (mark place : ℕ → ℕ) (versions : List (List ℕ)) (value : List ℕ) where
  pub mark_within : Marking base joint top least mark place versions value → (a : ℕ) → mark a ≤ length versions
  mark_within h a = (let u = h.rises a (a + top) (omega arith) in let w = h.whole (a + top) (omega arith) in omega arith)

  -- the top rises
  pub marking_top : (t : ℕ) → top ≤ t → Marking base joint top least mark place versions value → Marking base joint t least mark place versions value
  marking_top t up h = record {
    rises = h.rises;
    whole = λ a l. h.whole a (omega arith);
    agrees = h.agrees;
    low = h.low;
    near = (let n = h.near in omega arith);
    fits = λ l. (let n = h.near in let u = h.under in ⊎_elim (λ (k : base < top). (let f = h.fits k in omega arith)) (λ (k : top ≤ base). omega arith) (cases_lt base top));
    under = (let u = h.under in omega arith);
    first = h.first;
    entry = h.entry;
    none = λ l. h.none (omega arith);
  }

  -- the entry moves on, and its value is the newest
  pub marking_moved : (more : ℕ) (new : List ℕ) → least < more → top ≤ more → new ≡ reading versions → Marking base joint top least mark place versions value → Marking base joint top more mark place versions new
  marking_moved more new up high is h = record {
    rises = h.rises;
    whole = h.whole;
    agrees = h.agrees;
    low = h.low;
    near = h.near;
    fits = h.fits;
    under = h.under;
    first = (let f = h.first in omega arith);
    entry = is ∙ ap reading (sym (take_all (mark more) versions (let w = h.whole more high in omega arith)));
    none = h.none;
  }

  -- one version more
  abbrev pub grown_mark : ℕ → ℕ
  grown_mark a = cond (leb top a) (length versions + 1) (mark a)

  pub marking_grown : (v : List ℕ) → least < top → Marking base joint top least mark place versions value →
      Marking base joint top least (λ a. cond (leb top a) (length versions + 1) (mark a)) (λ a. cond (leb top a) (length versions + 1) (place a)) (versions ++ (v ∷ [])) value
  marking_grown v some h =
      let more : length (versions ++ (v ∷ [])) ≡ length versions + 1 = length-append versions (v ∷ []) in record {
        rises = rises;
        whole = λ a l. rw (le-leb top a l) (sym more);
        agrees = λ a l. ap (λ x. cond (leb top a) (length versions + 1) x) (h.agrees a l);
        low = h.low;
        near = h.near;
        fits = h.fits;
        under = h.under;
        first = h.first;
        entry = h.entry ∙ sym (rw (lt-leb top least some) (ap reading (take-append-le (mark least) versions (v ∷ []) (mark_within h least))));
        none = λ l. absurd (let f = h.first in omega arith);
      }
    where
      rises : (a b : ℕ) → a ≤ b → cond (leb top a) (length versions + 1) (mark a) ≤ cond (leb top b) (length versions + 1) (mark b)
      rises a b le = (let u = h.rises a b le in let w = mark_within h a in grind arith)

  -- absent copies come to stand for what those of a rank below the top do
  pub marking_deleting : (rsn : ℕ) → top ≡ rsn + 2 → Marking base joint top least mark place versions value → Marking base (greater joint (rsn + 1)) top least mark (λ a. place (greater a (rsn + 1))) versions value
  unfolding greater
  marking_deleting rsn above h = record {
    rises = h.rises;
    whole = h.whole;
    agrees = λ a l. (let k : greater a (rsn + 1) ≡ a = grind arith in ap place k ∙ h.agrees a (grind arith));
    low = (let l = h.low in grind arith);
    near = (let n = h.near in grind arith);
    fits = λ l. (let f = h.fits l in grind arith);
    under = h.under;
    first = h.first;
    entry = h.entry;
    none = h.none;
  }

pub grows_grown : (base top count : ℕ) (mark : ℕ → ℕ) (e : Entry) → mark top ≤ count → Grows (record { base = base; top = top; mark = mark; entry = e }) (record { base = base; top = top; mark = λ a. cond (leb top a) count (mark a); entry = e })
grows_grown base top count mark e le = record { base = refl; top = omega arith; same = λ x l. rw (lt-leb top x l) refl; raised = rw (le-leb top top (omega arith)) le; moved = inl refl }
