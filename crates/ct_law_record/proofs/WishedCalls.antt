-- By the log of open calls a schedule tells what it tells by the calls that wait, and these are exactly the open ones.
use Rattle.std.proofs.Common.{◌≡◌, ◌≢◌, ℕ, Bool, true, false, cond, List, [], ◌∷◌, ◌++◌, Option, Some, None, refl, sym, ap, ◌∙◌, subst, ⊎_elim, ◌&&◌, eq-eqb}
use Rattle.std.specs.Prelude.{nat_eq}
use Rattle.std.proofs.lemmas.Bool.{cases_eq, ne_eqb}
use Rattle.ct_values.specs.declared.client.Answer.{Answer}
use Rattle.ct_values.specs.declared.client.ClientOp.{ClientOp}
use Rattle.ct_call.specs.Rules.{Rules}
use Rattle.ct_rules.specs.declared.event.Act.{Act}
use Rattle.ct_rules.specs.declared.event.Act.TheVariants as act
use Rattle.ct_rules.specs.declared.state.Wish.{Wish}
use Rattle.ct_law_record.specs.Handed.{Register}
use Rattle.ct_law_record.specs.Labels.{Label, AcceptsAll}
use Rattle.ct_law_record.specs.World.{own_call, waiting_call, answers, call_of, told}
use Rattle.ct_law_record.specs.Calls.{Log, with_call, closed_by, closed_by_all, told_by}
use Rattle.ct_law_wishes.proofs.Wishing.{Wishful}
use Rattle.ct_law_record.proofs.Even.{answers_in, number_of}

-- ---- the log, and the numbers that a step answers

-- the log after these answers of node n
unfoldable pub closed_calls : ℕ → List ℕ → Log → Log
closed_calls n [] log = log
closed_calls n (c ∷ cs) log = closed_calls n cs (with_call n c None log)

pub closed_at : (n : ℕ) (xs : List Act) (log : Log) → closed_by_all n xs log ≡ closed_calls n (answers_in xs) log
unfolding closed_by_all closed_by answers_in closed_calls
closed_at n [] log = refl
closed_at n (act.Send receiver m ∷ xs) log = closed_at n xs log
closed_at n (act.Answer call a ∷ xs) log = closed_at n xs (with_call n call None log)
closed_at n (act.Finished floor ∷ xs) log = closed_at n xs log

-- a call of this node, another one, and one of another node
pub same_call : (n call : ℕ) (x : Option ClientOp) (log : Log) → with_call n call x log n call ≡ x
unfolding with_call
same_call n call x log = rw (eq-eqb n n refl, eq-eqb call call refl) refl

pub other_call : (n call k c : ℕ) (x : Option ClientOp) (log : Log) → c ≢ call → with_call n call x log k c ≡ log k c
unfolding with_call
other_call n call k c x log ne = rw (ne_eqb c call ne) (both (nat_eq k n))
  where
    both : (b : Bool) → cond (b && false) x (log k c) ≡ log k c
    both true = refl
    both false = refl

pub other_node : (n call k c : ℕ) (x : Option ClientOp) (log : Log) → k ≢ n → with_call n call x log k c ≡ log k c
unfolding with_call
other_node n call k c x log ne = rw (ne_eqb k n ne) refl

pub others_stay : (n k c : ℕ) (cs : List ℕ) (log : Log) → k ≢ n → closed_calls n cs log k c ≡ log k c
unfolding closed_calls
others_stay n k c [] log ne = refl
others_stay n k c (x ∷ cs) log ne = others_stay n k c cs (with_call n x None log) ne ∙ other_node n x k c None log ne

-- ---- what is told

-- each answer finds in the log, when its turn comes, what is asked by the other words
unfoldable pub Matches : ℕ → Log → (ℕ → Option ClientOp) → List ℕ → Type 0
Matches n log asks [] = Unit {0}
Matches n log asks (c ∷ cs) = (log n c ≡ asks c) × Matches n (with_call n c None log) asks cs

send_answers : (n : ℕ) (x y : Option ClientOp) (receiver : ℕ) (m : _) → answers n x (act.Send receiver m) ≡ answers n y (act.Send receiver m)
unfolding answers
send_answers n None None receiver m = refl
send_answers n None (Some b) receiver m = refl
send_answers n (Some a) None receiver m = refl
send_answers n (Some a) (Some b) receiver m = refl

finished_answers : (n : ℕ) (x y : Option ClientOp) (floor : ℕ) → answers n x (act.Finished floor) ≡ answers n y (act.Finished floor)
unfolding answers
finished_answers n None None floor = refl
finished_answers n None (Some b) floor = refl
finished_answers n (Some a) None floor = refl
finished_answers n (Some a) (Some b) floor = refl

pub told_same : (n : ℕ) (log : Log) (asks : ℕ → Option ClientOp) (xs : List Act) → Matches n log asks (answers_in xs) → told_by n log xs ≡ told n asks xs
unfolding told_by told closed_by answers_in call_of Matches
told_same n log asks [] h = refl
told_same n log asks (act.Send receiver m ∷ xs) h =
    ap (λ (l : List Label). l ++ told_by n log xs) (send_answers n (log n 0) (asks 0) receiver m) ∙ ap (λ (l : List Label). answers n (asks 0) (act.Send receiver m) ++ l) (told_same n log asks xs h)
told_same n log asks (act.Answer call a ∷ xs) h =
    ap (λ (x : Option ClientOp). answers n x (act.Answer call a) ++ told_by n (with_call n call None log) xs) h.0 ∙ ap (λ (l : List Label). answers n (asks call) (act.Answer call a) ++ l) (told_same n (with_call n call None log) asks xs h.1)
told_same n log asks (act.Finished floor ∷ xs) h =
    ap (λ (l : List Label). l ++ told_by n log xs) (finished_answers n (log n 0) (asks 0) floor) ∙ ap (λ (l : List Label). answers n (asks 0) (act.Finished floor) ++ l) (told_same n log asks xs h)

-- what is accepted is asked
unfoldable pub AllAsk : (ℕ → Option ClientOp) → List ℕ → Type 0
AllAsk asks [] = Unit {0}
AllAsk asks (c ∷ cs) = (asks c ≢ None) × AllAsk asks cs

rest_accepted : (rules : Rules) (front back : List Label) (r t : Register) → AcceptsAll rules r (front ++ back) t → (mid : Register) × AcceptsAll rules mid back t
rest_accepted rules [] back r t h = (r, h)
rest_accepted rules (x ∷ front) back r t h = rest_accepted rules front back h.0 t h.2

some_asked : (rules : Rules) (n call : ℕ) (a : Answer) (x : Option ClientOp) (back : List Label) (r t : Register) → AcceptsAll rules r (answers n x (act.Answer call a) ++ back) t → x ≢ None
unfolding answers
some_asked rules n call a None back r t h e = h.1
some_asked rules n call a (Some o) back r t h e = absurd (cc)

pub accepts_asked : (rules : Rules) (n : ℕ) (asks : ℕ → Option ClientOp) (xs : List Act) (r t : Register) → AcceptsAll rules r (told n asks xs) t → AllAsk asks (answers_in xs)
unfolding told answers_in call_of AllAsk
accepts_asked rules n asks [] r t h = tt
accepts_asked rules n asks (act.Send receiver m ∷ xs) r t h = (let k = rest_accepted rules (answers n (asks 0) (act.Send receiver m)) (told n asks xs) r t h in accepts_asked rules n asks xs k.0 t k.1)
accepts_asked rules n asks (act.Answer call a ∷ xs) r t h =
    (let k = rest_accepted rules (answers n (asks call) (act.Answer call a)) (told n asks xs) r t h in (some_asked rules n call a (asks call) (told n asks xs) r t h, accepts_asked rules n asks xs k.0 t k.1))
accepts_asked rules n asks (act.Finished floor ∷ xs) r t h = (let k = rest_accepted rules (answers n (asks 0) (act.Finished floor)) (told n asks xs) r t h in accepts_asked rules n asks xs k.0 t k.1)

-- ---- the call that waits

pub own_self : (call : ℕ) (asked : ClientOp) → own_call call asked call ≡ Some asked
unfolding own_call
own_self call asked = rw (eq-eqb call call refl) refl

pub own_other : (call : ℕ) (asked : ClientOp) (c : ℕ) → c ≢ call → own_call call asked c ≡ None
unfolding own_call
own_other call asked c ne = rw (ne_eqb call c (λ e. ne (sym e))) refl

-- what a node's step leaves of its calls, and what it tells
abbrev pub Tells : ℕ → Log → (ℕ → Option ClientOp) → Option Wish → List ℕ → Type 0
Tells n log asks after zs = Matches n log asks zs × ((c : ℕ) → closed_calls n zs log n c ≡ waiting_call after c)

-- the same call with the same words
same_wish : (w v : Wish) → v.call ≡ w.call → own_call w.call w.op v.call ≡ Some v.op → (c : ℕ) → own_call w.call w.op c ≡ own_call v.call v.op c
same_wish w v is has c =
    let same : Some w.op ≡ Some v.op = sym (own_self w.call w.op) ∙ ap (own_call w.call w.op) (sym is) ∙ has in
    let op_same : w.op ≡ v.op = cc in
    ap (λ (k : ℕ). own_call k w.op c) (sym is) ∙ ap (λ (o : ClientOp). own_call v.call o c) op_same

-- once it is answered, no call waits
answered_none : (n call : ℕ) (asked : ClientOp) (log : Log) → ((c : ℕ) → log n c ≡ own_call call asked c) → (c : ℕ) → with_call n call None log n c ≡ None
answered_none n call asked log fit c = ⊎_elim
    (λ (is : c ≡ call). subst (λ (k : ℕ). with_call n call None log n k ≡ None) (sym is) (same_call n call None log))
    (λ (ne : c ≢ call). other_call n call n c None log ne ∙ fit c ∙ own_other call asked c ne)
    (cases_eq c call)

-- a step that answers the call that waits, or keeps it
pub waiting_tells : (n : ℕ) (log : Log) (before after : Option Wish) (zs : List ℕ) → ((c : ℕ) → log n c ≡ waiting_call before c) → zs ++ number_of after ≡ number_of before → Wishful (λ c o. waiting_call before c ≡ Some o) after → Tells n log (waiting_call before) after zs
unfolding Matches closed_calls number_of waiting_call Wishful
waiting_tells n log None None [] fit whole has = (tt, fit)
waiting_tells n log None None (z ∷ zs) fit whole has = absurd (cc)
waiting_tells n log None (Some v) [] fit whole has = absurd (cc)
waiting_tells n log None (Some v) (z ∷ zs) fit whole has = absurd (cc)
waiting_tells n log (Some w) None [] fit whole has = absurd (cc)
waiting_tells n log (Some w) None (z ∷ []) fit whole has = (let is : z ≡ w.call = cc in ((fit z, tt), λ c. subst (λ (k : ℕ). with_call n k None log n c ≡ None) (sym is) (answered_none n w.call w.op log fit c)))
waiting_tells n log (Some w) None (z ∷ y ∷ zs) fit whole has = absurd (cc)
waiting_tells n log (Some w) (Some v) [] fit whole has = (let is : v.call ≡ w.call = cc in (tt, λ c. fit c ∙ same_wish w v is has c))
waiting_tells n log (Some w) (Some v) (z ∷ []) fit whole has = absurd (cc)
waiting_tells n log (Some w) (Some v) (z ∷ y ∷ zs) fit whole has = absurd (cc)

-- what is open beside the own call
own_closed : (n call : ℕ) (asked : ClientOp) (log : Log) → log n call ≡ None → (c : ℕ) → with_call n call None (with_call n call (Some asked) log) n c ≡ log n c
own_closed n call asked log fresh c = ⊎_elim
    (λ (is : c ≡ call). subst (λ (k : ℕ). with_call n call None (with_call n call (Some asked) log) n k ≡ log n k) (sym is) (same_call n call None (with_call n call (Some asked) log) ∙ sym fresh))
    (λ (ne : c ≢ call). other_call n call n c None (with_call n call (Some asked) log) ne ∙ other_call n call n c (Some asked) log ne)
    (cases_eq c call)

still_waits : (before after : Option Wish) → number_of after ≡ number_of before → Wishful (λ c o. waiting_call before c ≡ Some o) after → (c : ℕ) → waiting_call before c ≡ waiting_call after c
unfolding number_of waiting_call Wishful
still_waits None None whole has c = refl
still_waits None (Some v) whole has c = absurd (cc)
still_waits (Some w) None whole has c = absurd (cc)
still_waits (Some w) (Some v) whole has c = (let is : v.call ≡ w.call = cc in same_wish w v is has c)

tail_is : (a b : ℕ) (xs ys : List ℕ) → a ∷ xs ≡ b ∷ ys → (a ≡ b) × (xs ≡ ys)
tail_is a b xs ys e = (cc, cc)

-- the own call is not the one that waits
not_waiting : (n call : ℕ) (log : Log) (w : Wish) → log n call ≡ None → ((c : ℕ) → log n c ≡ waiting_call (Some w) c) → w.call ≢ call
unfolding waiting_call
not_waiting n call log w fresh fit is = absurd (let e : None ≡ Some w.op = sym fresh ∙ ap (log n) (sym is) ∙ fit w.call ∙ own_self w.call w.op in cc)

-- the own call is answered
unanswered : (call : ℕ) (before after : Option Wish) → number_of after ≡ call ∷ number_of before → Wishful (λ c o. waiting_call before c ≡ Some o) after → ⊥
unfolding number_of waiting_call Wishful
unanswered call None None e has = absurd (cc)
unanswered call None (Some v) e has = absurd (cc)
unanswered call (Some w) None e has = absurd (cc)
unanswered call (Some w) (Some v) e has = absurd (cc)

-- and no other one is
answered_twice : (n call : ℕ) (asked : ClientOp) (log : Log) (before : Option Wish) (y : ℕ) (ys : List ℕ) → log n call ≡ None → ((c : ℕ) → log n c ≡ waiting_call before c) → y ∷ ys ≡ number_of before → own_call call asked y ≢ None → ⊥
unfolding number_of
answered_twice n call asked log None y ys fresh fit e ask = absurd (cc)
answered_twice n call asked log (Some w) y ys fresh fit e ask = (let is : y ≡ w.call = cc in ask (own_other call asked y (λ same. not_waiting n call log w fresh fit (sym is ∙ same))))

-- a step that answers its own call, while another may wait
pub own_tells : (n call : ℕ) (asked : ClientOp) (log : Log) (before after : Option Wish) (zs : List ℕ) → log n call ≡ None → ((c : ℕ) → log n c ≡ waiting_call before c) → zs ++ number_of after ≡ call ∷ number_of before → AllAsk (own_call call asked) zs →
    Wishful (λ c o. waiting_call before c ≡ Some o) after → Tells n (with_call n call (Some asked) log) (own_call call asked) after zs
unfolding Matches closed_calls AllAsk
own_tells n call asked log before after [] fresh fit whole asks has = absurd (unanswered call before after whole has)
own_tells n call asked log before after (z ∷ []) fresh fit whole asks has =
    let k = tail_is z call (number_of after) (number_of before) whole in (
      (subst (λ (i : ℕ). with_call n call (Some asked) log n i ≡ own_call call asked i) (sym k.0) (same_call n call (Some asked) log ∙ sym (own_self call asked)), tt),
      λ c. subst (λ (i : ℕ). with_call n i None (with_call n call (Some asked) log) n c ≡ waiting_call after c) (sym k.0) (own_closed n call asked log fresh c ∙ fit c ∙ still_waits before after k.1 has c),
    )
own_tells n call asked log before after (z ∷ y ∷ zs) fresh fit whole asks has = absurd (answered_twice n call asked log before y (zs ++ number_of after) fresh fit (tail_is z call (y ∷ (zs ++ number_of after)) (number_of before) whole).1 asks.1.0)
