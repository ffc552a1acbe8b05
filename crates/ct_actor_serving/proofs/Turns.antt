-- One turn more, with its look and its pass.
use Rattle.std.proofs.Common.{◌≡◌, ◌∙◌, ℕ, ◌+◌, ◌<◌, ◌≤◌, ◌⊎◌, inl, inr, nat_lt, Bool, true, false, not, ◌&&◌, List, [], ◌∷◌, ◌++◌, length, Option, None, Some, Result, Ok, Err, arith, refl, sym, ap, subst, append_assoc, length-append}
use Rattle.std.proofs.lemmas.Bool.{and_parts, le-ltb, lt-ltb}
use Rattle.std.proofs.lemmas.List.{append-nil, append_cancel_left}
use Rattle.ct_call.specs.Rules.{Rules}
use Rattle.ct_script.specs.declared.plan.PlanItem.{PlanItem}
use Rattle.ct_journal.specs.declared.journal.JournalEntry.{JournalEntry}
use Rattle.ct_script.specs.Cues.{cue_after, cue_over, first_cue}
use Rattle.ct_script.specs.declared.cue.Cue.{Cue}
use Rattle.ct_actor.specs.Acting.{IsActing}
use Rattle.ct_actor.specs.Journalled.{Journalled}
use Rattle.ct_outside.specs.Told.{Lists}
use Rattle.ct_actor_serving.specs.Serving.{is_full, most_turns}
use Rattle.ct_actor_serving.specs.Turns.{ServesTurns, made_in, may_all_turn, may_turn, may_wait_at, passes_over, permissions_over}
use Rattle.ct_actor_serving.specs.declared.fault.Served.{Served}
use Rattle.ct_actor_serving.specs.declared.fault.Served.TheVariants as served
use Rattle.ct_actor_serving.specs.declared.fault.ServeFault.{ServeFault}
use Rattle.ct_actor_serving.specs.declared.fault.Until.{Until}

-- ---- what is listed

lists_none : {A : Type 0} (a : Option (List A)) → Lists [] a a
lists_none None = tt
lists_none (Some xs) = sym (append-nil xs)

lists_then : {A : Type 0} (us vs : List A) (a b c : Option (List A)) → Lists us a b → Lists vs b c → Lists (us ++ vs) a c
lists_then us vs a b None h k = tt
lists_then us vs a None (Some z) h k = absurd k
lists_then us vs None (Some y) (Some z) h k = absurd h
lists_then us vs (Some x) (Some y) (Some z) h k = k ∙ ap (λ ys. ys ++ vs) h ∙ append_assoc x us vs

-- a look with this permission, and nothing that is asked of the link behind it
pub asked : (may_wait is : Bool) (a b c : Option (List Bool)) → may_wait ≡ is → Lists (may_wait ∷ []) a b → c ≡ b → Lists (is ∷ []) a c
asked may_wait is a b c e h same = subst (λ (o : Option (List Bool)). Lists (is ∷ []) a o) (sym same) (subst (λ (w : Bool). Lists (w ∷ []) a b) e h)

-- ---- one turn more

made_more : (turns : List (List JournalEntry)) (xs : List JournalEntry) → made_in (turns ++ xs ∷ []) ≡ made_in turns ++ xs
unfolding made_in
made_more [] xs = append-nil xs
made_more (ys ∷ turns) xs = ap (λ (zs : List JournalEntry). ys ++ zs) (made_more turns xs) ∙ sym (append_assoc ys (made_in turns) xs)

over_more : (xs ys : List JournalEntry) (c : Cue) → cue_over (xs ++ ys) c ≡ cue_over ys (cue_over xs c)
unfolding cue_over
over_more [] ys c = refl
over_more (x ∷ xs) ys c = over_more xs ys (cue_after x c)

permissions_more : (script : List PlanItem) (c : Cue) (turns : List (List JournalEntry)) (xs : List JournalEntry) →
    permissions_over script c (turns ++ xs ∷ []) ≡ permissions_over script c turns ++ may_wait_at script (cue_over (made_in turns) c) ∷ []
unfolding permissions_over made_in cue_over
permissions_more script c [] xs = refl
permissions_more script c (ys ∷ turns) xs =
    ap (λ (bs : List Bool). may_wait_at script c ∷ bs) (permissions_more script (cue_over ys c) turns xs)
    ∙ ap (λ (d : Cue). may_wait_at script c ∷ (permissions_over script (cue_over ys c) turns ++ may_wait_at script d ∷ [])) (sym (over_more ys (made_in turns) c))

passes_more : (node number : ℕ) (turns : List (List JournalEntry)) (xs : List JournalEntry) → passes_over node number (turns ++ xs ∷ []) ≡ passes_over node number turns ++ (node, number + length turns) ∷ []
unfolding passes_over
passes_more node number [] xs = let e : number ≡ number + 0 = omega arith in ap (λ (k : ℕ). (node, k) ∷ []) e
passes_more node number (ys ∷ turns) xs =
    let e : number + 1 + length turns ≡ number + length (ys ∷ turns) = omega arith in
    ap (λ (ps : List (ℕ × ℕ)). (node, number) ∷ ps) (passes_more node (number + 1) turns xs) ∙ ap (λ (k : ℕ). (node, number) ∷ (passes_over node (number + 1) turns ++ (node, k) ∷ [])) e

began_more : (u : Until) (number count : ℕ) (turns : List (List JournalEntry)) (xs : List JournalEntry) →
    may_all_turn u number count turns ≡ true → may_turn u (number + length turns) (count + length (made_in turns)) ≡ true → may_all_turn u number count (turns ++ xs ∷ []) ≡ true
unfolding may_all_turn made_in
began_more u number count [] xs h k =
    let e : number + 0 ≡ number = omega arith in
    let f : count + 0 ≡ count = omega arith in
    let m = subst (λ (n : ℕ). may_turn u n count ≡ true) e (subst (λ (n : ℕ). may_turn u (number + 0) n ≡ true) f k) in
    (λ i. m i && true)
began_more u number count (ys ∷ turns) xs h k =
    let p = and_parts (may_turn u number count) (may_all_turn u (number + 1) (count + length ys) turns) h in
    let e : number + length (ys ∷ turns) ≡ number + 1 + length turns = omega arith in
    let f : count + length (ys ++ made_in turns) ≡ count + length ys + length (made_in turns) = omega (arith, length-append ys (made_in turns)) in
    let m = subst (λ (n : ℕ). may_turn u n (count + length ys + length (made_in turns)) ≡ true) e (subst (λ (n : ℕ). may_turn u (number + length (ys ∷ turns)) n ≡ true) f k) in
    let rest = began_more u (number + 1) (count + length ys) turns xs p.1 m in
    (λ i. p.0 i && rest i)

-- ---- whether a turn may begin

pub may_begin : (u : Until) (number most count : ℕ) (full : Bool) → most ≡ most_turns u → number < most → full ≡ is_full u count → full ≡ false → may_turn u number count ≡ true
may_begin u number most count full is less f free = (λ i. lt-ltb number (most_turns u) (subst (λ (n : ℕ). number < n) is less) i && not ((sym f ∙ free) i))

-- it has had its turns
pub none_left : (u : Until) (number most count : ℕ) → most ≡ most_turns u → most ≤ number → may_turn u number count ≡ false
none_left u number most count is over = (λ i. le-ltb number (most_turns u) (subst (λ (n : ℕ). n ≤ number) is over) i && not (is_full u count))

and_false : (b : Bool) → (b && false) ≡ false
and_false true = refl
and_false false = refl

-- it has its entries
pub none_wanted : (u : Until) (number count : ℕ) (full : Bool) → full ≡ is_full u count → full ≡ true → may_turn u number count ≡ false
none_wanted u number count full f is = (λ i. nat_lt number (most_turns u) && not ((sym f ∙ is) i)) ∙ and_false (nat_lt number (most_turns u))

-- ---- so far

-- so many turns were made, and nothing else
pub record IsTurning (u : Until) (script : List PlanItem) (number : ℕ) (x y : Journalled) (c : Cue) (old new : Option (List Bool)) (p q : Option (List (ℕ × ℕ))) : Type 0 where
  pub turns : List (List JournalEntry)
  pub number_is : length turns ≡ number
  pub all : y.entries ≡ x.entries ++ made_in turns
  pub cue_is : c ≡ cue_over (made_in turns) (first_cue x.entries)
  pub began : may_all_turn u 0 (length x.entries) turns ≡ true
  pub looks : Lists (permissions_over script (first_cue x.entries) turns) old new
  pub passes : Lists (passes_over x.core.pnn 0 turns) p q

pub turning_first : (u : Until) (script : List PlanItem) (x : Journalled) (c : Cue) (a : Option (List Bool)) (p : Option (List (ℕ × ℕ))) → c ≡ first_cue x.entries → IsTurning u script 0 x x c a a p p
unfolding made_in may_all_turn permissions_over passes_over cue_over
turning_first u script x c a p e = record {
  turns = [];
  number_is = refl;
  all = sym (append-nil x.entries);
  cue_is = e;
  began = refl;
  looks = lists_none a;
  passes = lists_none p;
}

-- the entries since are told by the journal
since_is : (rules : Rules) (script : List PlanItem) (x z : Journalled) (d : Cue) (made : List JournalEntry) → IsActing rules script x.entries z d → z.entries ≡ x.entries ++ made → d ≡ cue_over made (first_cue x.entries)
since_is rules script x z d made h all =
    h.follows.cue_is ∙ ap (λ (xs : List JournalEntry). cue_over xs (first_cue x.entries)) (append_cancel_left x.entries h.since made (sym h.all ∙ all))

-- so many entries
count_is : (x y : Journalled) (made : List JournalEntry) → y.entries ≡ x.entries ++ made → length y.entries ≡ length x.entries + length made
count_is x y made all = ap (λ (xs : List JournalEntry). length xs) all ∙ length-append x.entries made

may_here : (u : Until) (script : List PlanItem) (number : ℕ) (x y : Journalled) (c : Cue) (a b : Option (List Bool)) (p q : Option (List (ℕ × ℕ))) (may : Bool) →
    (t : IsTurning u script number x y c a b p q) → may_turn u number (length y.entries) ≡ may → may_turn u (length t.turns) (length x.entries + length (made_in t.turns)) ≡ may
may_here u script number x y c a b p q may t h =
    subst (λ (n : ℕ). may_turn u n (length x.entries + length (made_in t.turns)) ≡ may) (sym t.number_is)
    (subst (λ (n : ℕ). may_turn u number n ≡ may) (count_is x y (made_in t.turns) t.all) h)

pub turning_next : (u : Until) (rules : Rules) (script : List PlanItem) (number : ℕ) (x y z : Journalled) (c d : Cue) (a b e : Option (List Bool)) (p q r : Option (List (ℕ × ℕ))) (since : List JournalEntry) →
    IsTurning u script number x y c a b p q → IsActing rules script x.entries z d → z.entries ≡ y.entries ++ since → may_turn u number (length y.entries) ≡ true
    → Lists (may_wait_at script c ∷ []) b e → Lists ((x.core.pnn, number) ∷ []) q r → IsTurning u script (number + 1) x z d a e p r
turning_next u rules script number x y z c d a b e p q r since t acting more may look pass =
    let first = first_cue x.entries in
    let whole : length t.turns ≡ 0 + length t.turns = omega arith in
    let all : z.entries ≡ x.entries ++ made_in (t.turns ++ since ∷ []) =
    more ∙ ap (λ (xs : List JournalEntry). xs ++ since) t.all ∙ append_assoc x.entries (made_in t.turns) since ∙ ap (λ (xs : List JournalEntry). x.entries ++ xs) (sym (made_more t.turns since)) in
    record {
      turns = t.turns ++ since ∷ [];
      number_is = length-append t.turns (since ∷ []) ∙ ap (λ (n : ℕ). n + 1) t.number_is;
      all = all;
      cue_is = since_is rules script x z d (made_in (t.turns ++ since ∷ [])) acting all;
      began = began_more u 0 (length x.entries) t.turns since t.began
          (subst (λ (n : ℕ). may_turn u n (length x.entries + length (made_in t.turns)) ≡ true) whole (may_here u script number x y c a b p q true t may));
      looks = subst (λ (bs : List Bool). Lists bs a e) (sym (permissions_more script first t.turns since))
          (lists_then (permissions_over script first t.turns) (may_wait_at script (cue_over (made_in t.turns) first) ∷ []) a b e t.looks (subst (λ (k : Cue). Lists (may_wait_at script k ∷ []) b e) t.cue_is look));
      passes = subst (λ (ps : List (ℕ × ℕ)). Lists ps p r) (sym (passes_more x.core.pnn 0 t.turns since))
          (lists_then (passes_over x.core.pnn 0 t.turns) ((x.core.pnn, 0 + length t.turns) ∷ []) p q r t.passes (subst (λ (n : ℕ). Lists ((x.core.pnn, n) ∷ []) q r) (sym t.number_is ∙ whole) pass));
    }

-- ---- at the end

pub turns_closed : (u : Until) (script : List PlanItem) (number : ℕ) (x y : Journalled) (c : Cue) (a b : Option (List Bool)) (p q : Option (List (ℕ × ℕ))) → IsTurning u script number x y c a b p q → ServesTurns u script (Ok served.Closed) x y a b p q
turns_closed u script number x y c a b p q t = record {
  turns = t.turns;
  rest = [];
  all = t.all ∙ ap (λ (xs : List JournalEntry). x.entries ++ xs) (sym (append-nil (made_in t.turns)));
  began = t.began;
  looks = t.looks;
  passes = t.passes;
  left = refl;
}

pub turns_broken : (u : Until) (script : List PlanItem) (f : ServeFault) (number : ℕ) (x y : Journalled) (c : Cue) (a b : Option (List Bool)) (p q : Option (List (ℕ × ℕ))) → IsTurning u script number x y c a b p q → ServesTurns u script (Err f) x y a b p q
turns_broken u script f number x y c a b p q t = record {
  turns = t.turns;
  rest = [];
  all = t.all ∙ ap (λ (xs : List JournalEntry). x.entries ++ xs) (sym (append-nil (made_in t.turns)));
  began = t.began;
  looks = t.looks;
  passes = t.passes;
  left = inl refl;
}

-- the last turn is over, and what is left was taken
pub turns_budget : (u : Until) (script : List PlanItem) (number : ℕ) (x y z : Journalled) (c : Cue) (a b e : Option (List Bool)) (p q : Option (List (ℕ × ℕ))) (since : List JournalEntry) →
    IsTurning u script number x y c a b p q → z.entries ≡ y.entries ++ since → may_turn u number (length y.entries) ≡ false → e ≡ b → ServesTurns u script (Ok served.Budget) x z a e p q
turns_budget u script number x y z c a b e p q since t more none same = record {
  turns = t.turns;
  rest = since;
  all = more ∙ ap (λ (xs : List JournalEntry). xs ++ since) t.all ∙ append_assoc x.entries (made_in t.turns) since;
  began = t.began;
  looks = subst (λ (o : Option (List Bool)). Lists (permissions_over script (first_cue x.entries) t.turns) a o) (sym same) t.looks;
  passes = t.passes;
  left = may_here u script number x y c a b p q false t none;
}

-- the last turn is over, and what is left could not be taken whole
pub turns_stopped : (u : Until) (script : List PlanItem) (f : ServeFault) (number : ℕ) (x y z : Journalled) (c : Cue) (a b e : Option (List Bool)) (p q : Option (List (ℕ × ℕ))) (since : List JournalEntry) →
    IsTurning u script number x y c a b p q → z.entries ≡ y.entries ++ since → may_turn u number (length y.entries) ≡ false → e ≡ b → ServesTurns u script (Err f) x z a e p q
turns_stopped u script f number x y z c a b e p q since t more none same = record {
  turns = t.turns;
  rest = since;
  all = more ∙ ap (λ (xs : List JournalEntry). xs ++ since) t.all ∙ append_assoc x.entries (made_in t.turns) since;
  began = t.began;
  looks = subst (λ (o : Option (List Bool)). Lists (permissions_over script (first_cue x.entries) t.turns) a o) (sym same) t.looks;
  passes = t.passes;
  left = inr (may_here u script number x y c a b p q false t none);
}
