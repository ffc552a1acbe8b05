-- The open calls of a run, and what a node's answers leave of them.
use Rattle.std.proofs.Common.{◌≡◌, ◌≢◌, ℕ, Bool, true, false, cond, ◌||◌, List, [], ◌∷◌, ◌++◌, map, Option, Some, None, refl, sym, ap, ◌∙◌}
use Rattle.std.specs.Prelude.{nat_eq}
use Rattle.std.specs.List.{list_any}
use Rattle.std.proofs.lemmas.Bool.{eqb-true, or_parts}
use Rattle.ct_values.specs.declared.client.ClientOp.{ClientOp}
use Rattle.ct_frame.specs.declared.event.Out.{Out}
use Rattle.ct_frame.specs.declared.event.Out.TheVariants as out
use Rattle.ct_rules.specs.declared.event.Act.{Act}
use Rattle.ct_rules.specs.declared.event.Act.TheVariants as act
use Rattle.ct_rules.specs.declared.state.Wish.{Wish}
use Rattle.ct_rules_node.specs.Records.{out_of}
use Rattle.ct_law_record.proofs.Even.{answers_in, number_of}

-- of each number the node and the operation of its call, where that is open
abbrev pub Opened : Type 0
Opened = ℕ → Option (ℕ × ClientOp)

-- once this call is open no more
unfoldable pub without : ℕ → Opened → Opened
without call who k = cond (nat_eq k call) None (who k)

-- after these answers
unfoldable pub without_all : List ℕ → Opened → Opened
without_all [] who = who
without_all (x ∷ xs) who = without_all xs (without x who)

-- the calls that a node answers, in order
unfoldable pub answered_by : List Out → List ℕ
answered_by [] = []
answered_by (out.Send f ∷ xs) = answered_by xs
answered_by (out.Answer call a ∷ xs) = call ∷ answered_by xs
answered_by (out.Note x ∷ xs) = answered_by xs

-- each of these is an open call of this node, when its turn comes
unfoldable pub AllOpen : ℕ → Opened → List ℕ → Type 0
AllOpen n who [] = Unit {0}
AllOpen n who (x ∷ xs) = ((asked : ClientOp) × who x ≡ Some (n, asked)) × AllOpen n (without x who) xs

abbrev pub is_one : ℕ → List ℕ → Bool
is_one k xs = list_any (λ x. nat_eq k x) xs

-- ---- one list after another

pub answered_more : (xs ys : List Out) → answered_by (xs ++ ys) ≡ answered_by xs ++ answered_by ys
unfolding answered_by
answered_more [] ys = refl
answered_more (out.Send f ∷ xs) ys = answered_more xs ys
answered_more (out.Answer call a ∷ xs) ys = ap (λ (l : List ℕ). call ∷ l) (answered_more xs ys)
answered_more (out.Note x ∷ xs) ys = answered_more xs ys

pub without_more : (xs ys : List ℕ) (who : Opened) → without_all (xs ++ ys) who ≡ without_all ys (without_all xs who)
unfolding without_all
without_more [] ys who = refl
without_more (x ∷ xs) ys who = without_more xs ys (without x who)

pub open_more : (n : ℕ) (who : Opened) (xs ys : List ℕ) → AllOpen n who xs → AllOpen n (without_all xs who) ys → AllOpen n who (xs ++ ys)
unfolding AllOpen without_all
open_more n who [] ys h k = k
open_more n who (x ∷ xs) ys h k = (h.0, open_more n (without x who) xs ys h.1 k)

pub open_first : (n : ℕ) (who : Opened) (xs ys : List ℕ) → AllOpen n who (xs ++ ys) → AllOpen n who xs
unfolding AllOpen
open_first n who [] ys h = tt
open_first n who (x ∷ xs) ys h = (h.0, open_first n (without x who) xs ys h.1)

pub open_rest : (n : ℕ) (who : Opened) (xs ys : List ℕ) → AllOpen n who (xs ++ ys) → AllOpen n (without_all xs who) ys
unfolding AllOpen without_all
open_rest n who [] ys h = h
open_rest n who (x ∷ xs) ys h = open_rest n (without x who) xs ys h.1

-- what the rule of a record answers
pub outs_answer : (g me db : ℕ) (key : List ℕ) (xs : List Act) → answered_by (map (out_of g me db key) xs) ≡ answers_in xs
unfolding answered_by answers_in out_of
outs_answer g me db key [] = refl
outs_answer g me db key (act.Send receiver m ∷ xs) = outs_answer g me db key xs
outs_answer g me db key (act.Answer call a ∷ xs) = ap (λ (l : List ℕ). call ∷ l) (outs_answer g me db key xs)
outs_answer g me db key (act.Finished floor ∷ xs) = outs_answer g me db key xs

-- ---- what stays open was open

pub case_open : (b : Bool) (x y : Option (ℕ × ClientOp)) → cond b None x ≡ y → y ≢ None → (b ≡ false) × (x ≡ y)
case_open true x y e ne = absurd (ne (sym e))
case_open false x y e ne = (refl, e)

pub some_none : (v : ℕ × ClientOp) → Some v ≢ None
some_none v e = absurd (cc)

pub was_open : (xs : List ℕ) (who : Opened) (k : ℕ) (v : ℕ × ClientOp) → without_all xs who k ≡ Some v → who k ≡ Some v
unfolding without_all without
was_open [] who k v e = e
was_open (x ∷ xs) who k v e = (case_open (nat_eq k x) (who k) (Some v) (was_open xs (without x who) k v e) (some_none v)).1

-- what is none of the answered ones stays
pub stays_case : (b : Bool) (x : Option (ℕ × ClientOp)) → b ≡ false → cond b None x ≡ x
stays_case true x e = absurd (cc)
stays_case false x e = refl

pub stays_open : (xs : List ℕ) (who : Opened) (k : ℕ) → is_one k xs ≡ false → without_all xs who k ≡ who k
unfolding without_all without
stays_open [] who k e = refl
stays_open (x ∷ xs) who k e = (let p = or_parts (nat_eq k x) (is_one k xs) e in stays_open xs (without x who) k p.1 ∙ stays_case (nat_eq k x) (who k) p.0)

-- one of these that is open after the first of them is one of the others
or_other : (a b : Bool) → (a || b) ≡ true → a ≡ false → b ≡ true
or_other true b e f = absurd (cc)
or_other false b e f = e

pub is_later : (xs ys : List ℕ) (who : Opened) (k : ℕ) (v : ℕ × ClientOp) → is_one k (xs ++ ys) ≡ true → without_all xs who k ≡ Some v → is_one k ys ≡ true
unfolding without_all without
is_later [] ys who k v is e = is
is_later (x ∷ xs) ys who k v is e =
    is_later xs ys (without x who) k v (or_other (nat_eq k x) (is_one k (xs ++ ys)) is (case_open (nat_eq k x) (who k) (Some v) (was_open xs (without x who) k v e) (some_none v)).0) e

-- ---- the call that waits

pub only_one : (k : ℕ) (w : Option Wish) → is_one k (number_of w) ≡ true → (x : Wish) × (w ≡ Some x) × (x.call ≡ k)
unfolding number_of
only_one k None e = absurd (cc)
only_one k (Some w) e = (w, refl, sym (eqb-true k w.call (one_case (nat_eq k w.call) e)))
  where
    one_case : (b : Bool) → (b || false) ≡ true → b ≡ true
    one_case true e = refl
    one_case false e = e
