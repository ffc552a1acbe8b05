-- Fronts that meet demands, one after the other.
use Rattle.std.proofs.Common.{◌≡◌, ℕ, zero, suc, ◌+◌, ◌<◌, ◌≤◌, ⊎_elim, Bool, true, false, List, [], ◌∷◌, ◌++◌, length, set, None, Some, arith, below_more, refl, sym, ap, ◌∙◌, subst}
use Rattle.std.proofs.lemmas.Bool.{cases_lt}
use Rattle.std.proofs.lemmas.List.{append-nil, append_assoc, length-set}
use Rattle.std.specs.Prelude.{replicate, slice_get}
use Rattle.ct_rules_node.specs.Node.{or_zero}
use Rattle.ct_journal.specs.Order.{Front, taken_of}
use Rattle.ct_journal_order.specs.Demands.{Advances, AllHeld, Ends, HasAll, IsHeld, IsMet, Leads, Meets, Passes, demands_at, front_with, left, next_demand, none_stands, or_free}
use Rattle.ct_journal_order.specs.declared.demand.Demand.{Demand}

-- ---- one after the other

pub leads_none : (all : List (List Demand)) (f : Front) → Leads all f f
unfolding Meets
leads_none all f = record { order = []; meets = refl }

pub leads_same : (all : List (List Demand)) (f g : Front) → f ≡ g → Leads all f g
unfolding Meets
leads_same all f g e = record { order = []; meets = e }

meets_more : (all : List (List Demand)) (ns : List ℕ) (n : ℕ) (d : Demand) (f g : Front) → Meets all f ns g → next_demand all g n ≡ Some d → IsMet g d → Meets all f (ns ++ n ∷ []) (front_with n d g)
unfolding Meets
meets_more all [] n d f g m next met =
    subst (λ (h : Front). Meets all h (n ∷ []) (front_with n d g)) (sym m) (d, next, met, refl)
meets_more all (k ∷ ns) n d f g m next met = (m.0, m.1, m.2, meets_more all ns n d (front_with k m.0 f) g m.3 next met)

pub leads_more : (all : List (List Demand)) (n : ℕ) (f g h : Front) → Leads all f g → Advances all n true g h → Leads all f h
leads_more all n f g h l a = record { order = l.order ++ n ∷ []; meets = subst (λ (k : Front). Meets all f (l.order ++ n ∷ []) k) (sym a.3) (meets_more all l.order n a.0 f g l.meets a.1 a.2) }

meets_then : (all : List (List Demand)) (ns ms : List ℕ) (f g h : Front) → Meets all f ns g → Meets all g ms h → Meets all f (ns ++ ms) h
unfolding Meets
meets_then all [] ms f g h m k = subst (λ (i : Front). Meets all i ms h) (sym m) k
meets_then all (n ∷ ns) ms f g h m k = (m.0, m.1, m.2, meets_then all ns ms (front_with n m.0 f) g h m.3 k)

pub leads_then : (all : List (List Demand)) (f g h : Front) → Leads all f g → Leads all g h → Leads all f h
leads_then all f g h a b = record { order = a.order ++ b.order; meets = meets_then all a.order b.order f g h a.meets b.meets }

-- ---- fewer are left

pub got_short : (ds : List Demand) (i : ℕ) (d : Demand) → slice_get ds i ≡ Some d → i < length ds
got_short [] i d e = absurd (cc)
got_short (c ∷ ds) zero d e = omega arith
got_short (c ∷ ds) (suc i) d e = let l = got_short ds i d e in omega arith

left_set : (all : List (List Demand)) (ts : List ℕ) (n : ℕ) (d : Demand) → n < length ts → slice_get (or_free (slice_get all n)) (or_zero (slice_get ts n)) ≡ Some d → left all (set ts n (or_zero (slice_get ts n) + 1)) < left all ts
unfolding or_zero
left_set [] ts n d l e = absurd (cc)
left_set (ds ∷ all) [] n d l e = absurd (omega arith)
left_set (ds ∷ all) (t ∷ ts) zero d l e = let s = got_short ds t d e in omega arith
left_set (ds ∷ all) (t ∷ ts) (suc n) d l e = let h = left_set all ts n d (omega arith) e in omega arith

fewer_with : (all : List (List Demand)) (f : Front) (n : ℕ) (d : Demand) → n < length f.taken → next_demand all f n ≡ Some d → left all (front_with n d f).taken < left all f.taken
unfolding taken_of
fewer_with all f n d l e = left_set all f.taken n d l e

pub fewer : (all : List (List Demand)) (n : ℕ) (f g : Front) → n < length f.taken → Advances all n true f g → left all g.taken < left all f.taken
fewer all n f g l a = subst (λ (h : Front). left all h.taken < left all f.taken) (sym a.3) (fewer_with all f n a.0 l a.1)

-- ---- nodes that are held

pub past_end : (all : List (List Demand)) (n : ℕ) → length all ≤ n → demands_at all n ≡ []
past_end [] n l = refl
past_end (ds ∷ all) zero l = absurd (omega arith)
past_end (ds ∷ all) (suc n) l = past_end all n (omega arith)

-- a node with no demands is held
pub held_past : (all : List (List Demand)) (f : Front) (n : ℕ) → length all ≤ n → IsHeld all f n
unfolding IsHeld
held_past all f n l = λ d e met. (let p = past_end all n l in let q : slice_get [] (taken_of f n) ≡ Some d = subst (λ (ds : List Demand). slice_get ds (taken_of f n) ≡ Some d) p e in absurd (cc))

pub held_more : (all : List (List Demand)) (f : Front) (k : ℕ) → ((n : ℕ) → n < k → IsHeld all f n) → IsHeld all f k → (n : ℕ) → n < k + 1 → IsHeld all f n
held_more all f k below here = below_more (λ (n : ℕ). IsHeld all f n) k below here

pub held_none : (all : List (List Demand)) (f : Front) (n : ℕ) → next_demand all f n ≡ None → IsHeld all f n
unfolding IsHeld
held_none all f n none = λ d e met. absurd (cc)

pub held_unmet : (all : List (List Demand)) (f : Front) (n : ℕ) (d : Demand) → next_demand all f n ≡ Some d → (IsMet f d → ⊥) → IsHeld all f n
unfolding IsHeld
held_unmet all f n d is unmet = λ c e met. unmet (subst (λ (b : Demand). IsMet f b) (let s : c ≡ d = cc in s) met)

pub same_size : (n : ℕ) (d : Demand) (f : Front) → length (front_with n d f).taken ≡ length f.taken
same_size n d f = length-set f.taken n (taken_of f n + 1)

pub none_count : (k : ℕ) → length {A = ℕ} (replicate k 0) ≡ k
none_count zero = refl
none_count (suc k) = ap suc (none_count k)

-- ---- the end

taken_past : (ts : List ℕ) (n : ℕ) → length ts ≤ n → or_zero (slice_get ts n) ≡ 0
unfolding or_zero
taken_past [] n l = refl
taken_past (t ∷ ts) zero l = absurd (omega arith)
taken_past (t ∷ ts) (suc n) l = taken_past ts n (omega arith)

pub all_taken : (all : List (List Demand)) (f : Front) (k : ℕ) → length f.taken ≡ length all → length all ≤ k → ((n : ℕ) → n < k → taken_of f n ≡ length (demands_at all n)) → HasAll all f
unfolding taken_of
all_taken all f k count le below n = ⊎_elim
    (λ (l : n < k). below n l)
    (λ (l : k ≤ n). taken_past f.taken n (omega arith) ∙ sym (ap length (past_end all n (omega arith))))
    (cases_lt n k)

pub not_taken : (all : List (List Demand)) (f : Front) (n : ℕ) → (taken_of f n ≡ length (demands_at all n) → ⊥) → HasAll all f → ⊥
not_taken all f n other has = other (has n)

-- ---- one node after the other

-- once so many nodes had their turn; were there any entries?
pub record Passing (all : List (List Demand)) (k : ℕ) (some : Bool) (f : Front) (before : List ℕ) (g : Front) (now : List ℕ) : Type 0 where
  pub leads : Leads all f g
  pub noted : now ≡ before ++ leads.order
  pub count : length g.taken ≡ length f.taken
  pub same : some ≡ false → g ≡ f
  pub held : some ≡ false → (n : ℕ) → n < k → IsHeld all g n
  pub fewer : some ≡ true → left all g.taken < left all f.taken

pub passing_first : (all : List (List Demand)) (f : Front) (before : List ℕ) → Passing all 0 false f before f before
unfolding leads_none
passing_first all f before = record { leads = leads_none all f; noted = sym (append-nil before); count = refl; same = λ e. refl; held = λ e n l. absurd (omega arith); fewer = λ e. absurd (cc) }

no_more : (all : List (List Demand)) (k : ℕ) (some : Bool) (f : Front) (before : List ℕ) (g : Front) (now : List ℕ) → Passing all k some f before g now → left all g.taken ≤ left all f.taken
no_more all k true f before g now p = let l = p.fewer refl in omega arith
no_more all k false f before g now p = subst (λ (h : Front). left all g.taken ≤ left all h.taken) (p.same refl) (omega arith)

pub passing_put : (all : List (List Demand)) (n : ℕ) (some b : Bool) (f : Front) (before : List ℕ) (g : Front) (now : List ℕ) (h : Front) (later : List ℕ) → Passing all n some f before g now → n < length g.taken → Advances all n true g h → length h.taken ≡ length g.taken → later ≡ now ++ n ∷ [] → b ≡ true →
    Passing all (n + 1) b f before h later
unfolding leads_more
passing_put all n some b f before g now h later p l a size more is = record {
  leads = leads_more all n f g h p.leads a;
  noted = more ∙ ap (λ (xs : List ℕ). xs ++ n ∷ []) p.noted ∙ append_assoc before p.leads.order (n ∷ []);
  count = size ∙ p.count;
  same = λ e. absurd (cc);
  held = λ e. absurd (cc);
  fewer = λ e. (let x = fewer all n g h l a in let y = no_more all n some f before g now p in omega arith);
}

passing_on : (all : List (List Demand)) (n : ℕ) (some : Bool) (f : Front) (before : List ℕ) (g : Front) (now : List ℕ) → Passing all n some f before g now → IsHeld all g n → Passing all (n + 1) some f before g now
passing_on all n some f before g now p here = record { leads = p.leads; noted = p.noted; count = p.count; same = p.same; held = λ e k l. held_more all g n (p.held e) here k l; fewer = p.fewer }

pub passing_still : (all : List (List Demand)) (n : ℕ) (some b : Bool) (f : Front) (before : List ℕ) (g : Front) (now : List ℕ) (h : Front) (later : List ℕ) → Passing all n some f before g now → Advances all n false g h → later ≡ now → b ≡ some → Passing all (n + 1) b f before h later
passing_still all n some b f before g now h later p a same is =
    subst (λ (c : Bool). Passing all (n + 1) c f before h later) (sym is)
    (subst (λ (i : Front). Passing all (n + 1) some f before i later) (sym a.0) (subst (λ (xs : List ℕ). Passing all (n + 1) some f before g xs) (sym same) (passing_on all n some f before g now p a.1)))

pub passing_end : (all : List (List Demand)) (k : ℕ) (some : Bool) (f : Front) (before : List ℕ) (g : Front) (now : List ℕ) → length all ≤ k → Passing all k some f before g now → Passes all some f before g now
passing_end all k some f before g now le p = record {
  leads = p.leads;
  noted = p.noted;
  count = p.count;
  same = p.same;
  held = λ e n. ⊎_elim (λ (l : n < k). p.held e n l) (λ (l : k ≤ n). held_past all g n (omega arith)) (cases_lt n k);
  fewer = p.fewer;
}

-- ---- pass after pass

-- once some passes were made; was an entry put in the last one?
pub record Sweeping (all : List (List Demand)) (some : Bool) (g : Front) (now : List ℕ) : Type 0 where
  pub leads : Leads all (none_stands (length all)) g
  pub noted : now ≡ leads.order
  pub count : length g.taken ≡ length all
  pub held : some ≡ false → AllHeld all g

pub sweeping_first : (all : List (List Demand)) (g : Front) (now : List ℕ) → g ≡ none_stands (length all) → now ≡ [] → Sweeping all true g now
unfolding leads_same
sweeping_first all g now is none = record {
  leads = leads_same all (none_stands (length all)) g (sym is);
  noted = none;
  count = ap (λ (f : Front). length f.taken) is ∙ none_count (length all);
  held = λ e. absurd (cc);
}

pub sweeping_more : (all : List (List Demand)) (was some : Bool) (g : Front) (now : List ℕ) (h : Front) (later : List ℕ) → Sweeping all was g now → Passes all some g now h later → Sweeping all some h later
unfolding leads_then
sweeping_more all was some g now h later s p = record {
  leads = leads_then all (none_stands (length all)) g h s.leads p.leads;
  noted = p.noted ∙ ap (λ (xs : List ℕ). xs ++ p.leads.order) s.noted;
  count = p.count ∙ s.count;
  held = p.held;
}

pub sweeping_end : (all : List (List Demand)) (g : Front) (now : List ℕ) → Sweeping all false g now → Ends all g now
sweeping_end all g now s = record { leads = s.leads; noted = s.noted; count = s.count; held = s.held refl }
