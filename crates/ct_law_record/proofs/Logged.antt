-- Every event tells by the log what it tells by the call that waits, or it does not happen.
use Rattle.std.proofs.Common.{arith, ◌≡◌, ◌≢◌, ℕ, Bool, true, false, cond, List, [], ◌∷◌, ◌++◌, Option, Some, None, refl, sym, ap, ◌∙◌, subst, inl, inr, ⊎_elim, ◌&&◌, eq-eqb}
use Rattle.std.specs.Prelude.{◌⊎◌, nat_eq, not, is_none, is_some, slice_get}
use Rattle.std.specs.List.{list_all}
use Rattle.std.proofs.lemmas.Bool.{cases_eq, ne_eqb}
use Rattle.ct_values.specs.Client.{wants_record}
use Rattle.ct_values.specs.declared.client.ClientOp.{ClientOp}
use Rattle.ct_values.specs.declared.client.ClientOp.TheVariants as op
use Rattle.ct_frame.specs.Fields.{is_node}
use Rattle.ct_rules.specs.Messages.{greater}
use Rattle.ct_rules.specs.Moves.{move, release, begins}
use Rattle.ct_rules.specs.Parts.{Moving}
use Rattle.ct_rules.specs.declared.event.MoveEvent.TheVariants as event
use Rattle.ct_rules.specs.declared.state.RecState.{RecState}
use Rattle.ct_rules.specs.declared.state.Wish.{Wish}
use Rattle.ct_rules_node.specs.Node.{is_among}
use Rattle.ct_register.specs.Register.{Register}
use Rattle.ct_law_record.specs.Labels.{Label, Joined, AcceptsAll}
use Rattle.ct_law_record.specs.World as world
use Rattle.ct_law_record.specs.World.{Scene, View, Mail, World, Event, Wants, Stores, Unlocks, Releases, Comes, Vacuums, Resends, Thaws, Ends, Leaves, Joins, Rises, place, starts, peers, may_want, own_call, waiting_call, told, sent, view_of, unlocked}
use Rattle.ct_law_record.specs.Calls.{Log, with_call, closed_by_all, CallsStand, told_by, Logged, put, happens, stays, calls, comes_logged}
use Rattle.ct_law_record.proofs.Invariant.{Ghost}
use Rattle.ct_law_wishes.proofs.Wishing.{Wishful, want_wish, store_wish, release_wish, unlock_wish, arrive_wish, vacuum_wish, want_again_wish, call_again_wish, revoke_again_wish}
use Rattle.ct_law_record.proofs.Even.{answers_in, Even, number_of, even_is, want_even, store_even, release_even, unlock_even, arrive_even, vacuum_even, want_again_even, call_again_even, revoke_again_even}
use Rattle.ct_law_record.proofs.WishedCalls.{closed_calls, closed_at, others_stay, same_call, other_call, other_node, Tells, told_same, accepts_asked, waiting_tells, own_tells, own_self, own_other}
use Rattle.ct_law_record.proofs.Events.{none_none, may_parts}
use Rattle.ct_law_record.proofs.Worlds.{WorldInv, Leads, step_holds}

-- each call that waits wants the record
abbrev pub AllWant : World → Type 0
AllWant w = (n : ℕ) (x : Wish) → (w.nodes n).state.wish ≡ Some x → wants_record x.op ≡ true

-- both steps lead to the same world and tell the same, and the calls that wait are the open ones again
pub record Same (x : Logged) (y : world.Stepped) : Type 0 where
  pub world : x.world ≡ y.world
  pub labels : x.labels ≡ y.labels
  pub stand : CallsStand x.world x.log
  pub want : AllWant x.world

-- ---- the call that waits at a node

wanting_in : (xs : List ℕ) (o : Moving) (w : Option Wish) → Even xs o.acts w → (x : Wish) → w ≡ Some x → wants_record x.op ≡ true
unfolding Even
wanting_in xs o None h x e = absurd (cc)
wanting_in xs o (Some v) h x e = (let same : v ≡ x = cc in subst (λ (y : Wish). wants_record y.op ≡ true) same h.1)

even_begin : (w : Option Wish) → ((x : Wish) → w ≡ Some x → wants_record x.op ≡ true) → Even (number_of w) [] w
unfolding Even number_of answers_in
even_begin None h = refl
even_begin (Some x) h = (refl, h x refl)

wish_begin : (w : Option Wish) → Wishful (λ c o. waiting_call w c ≡ Some o) w
unfolding Wishful waiting_call
wish_begin None = tt
wish_begin (Some x) = own_self x.call x.op

-- ---- what a rule makes of a node

-- another view at one node
other_view : (w : World) (n k : ℕ) (v : View) → k ≢ n → cond (nat_eq k n) v (w.nodes k) ≡ w.nodes k
other_view w n k v ne = rw (ne_eqb k n ne) refl

own_view : (w : World) (n : ℕ) (v : View) → cond (nat_eq n n) v (w.nodes n) ≡ v
own_view w n v = rw (eq-eqb n n refl) refl

-- what is owed of the rule where the node may step: that it tells the same, and what waits after it
pub record Owed (n : ℕ) (opened : Log) (asks : ℕ → Option ClientOp) (o : Moving) : Type 0 where
  pub tells : Tells n opened asks o.state.wish (answers_in o.acts)
  pub want : (x : Wish) → o.state.wish ≡ Some x → wants_record x.op ≡ true

put_same : (s : Scene) (w : World) (log opened : Log) (n : ℕ) (asks : ℕ → Option ClientOp) (o : Moving) → ((is_among n s.members && w.joined n && not o.spent) ≡ true → Owed n opened asks o) → ((k c : ℕ) → k ≢ n → opened k c ≡ log k c) →
    CallsStand w log → AllWant w → Same (put s w log opened n o) (world.put s w n asks o)
put_same s w log opened n asks o owed others stand want = either (is_among n s.members && w.joined n && not o.spent) refl
  where
    after : World
    after = record { nodes = λ k. cond (nat_eq k n) (view_of o) (w.nodes k); joined = w.joined; mail = w.mail ++ sent n o.acts }

    still : Owed n opened asks o → CallsStand after (closed_by_all n o.acts opened)
    still h k c = ap (λ (l : Log). l k c) (closed_at n o.acts opened) ∙ ⊎_elim
        (λ (is : k ≡ n). subst (λ (i : ℕ). closed_calls n (answers_in o.acts) opened i c ≡ waiting_call (after.nodes i).state.wish c) (sym is) (h.tells.1 c ∙ ap (λ (v : View). waiting_call v.state.wish c) (sym (own_view w n (view_of o)))))
        (λ (ne : k ≢ n). others_stay n k c (answers_in o.acts) opened ne ∙ others k c ne ∙ stand k c ∙ ap (λ (v : View). waiting_call v.state.wish c) (sym (other_view w n k (view_of o) ne)))
        (cases_eq k n)

    wanted : Owed n opened asks o → AllWant after
    wanted h k x e = ⊎_elim
        (λ (is : k ≡ n). h.want x (sym (ap (λ (v : View). v.state.wish) (own_view w n (view_of o))) ∙ ap (λ (i : ℕ). (after.nodes i).state.wish) (sym is) ∙ e))
        (λ (ne : k ≢ n). want k x (sym (ap (λ (v : View). v.state.wish) (other_view w n k (view_of o) ne)) ∙ e))
        (cases_eq k n)

    either : (b : Bool) → (is_among n s.members && w.joined n && not o.spent) ≡ b →
        Same (cond b (record { world = after; log = closed_by_all n o.acts opened; labels = told_by n opened o.acts }) (stays w log)) (cond b (record { world = after; labels = told n asks o.acts }) (world.stays w))
    either true t = (let h = owed t in record { world = refl; labels = told_same n opened asks o.acts h.tells.0; stand = still h; want = wanted h })
    either false f = record { world = refl; labels = refl; stand = stand; want = want }

-- a rule that no call begins
quiet_owed : (n : ℕ) (log : Log) (before : Option Wish) (o : Moving) → ((c : ℕ) → log n c ≡ waiting_call before c) → Even (number_of before) o.acts o.state.wish → Wishful (λ c o. waiting_call before c ≡ Some o) o.state.wish → Owed n log (waiting_call before) o
quiet_owed n log before o fit even has = record {
  tells = waiting_tells n log before o.state.wish (answers_in o.acts) fit (even_is (number_of before) o.acts o.state.wish even) has;
  want = wanting_in (number_of before) o o.state.wish even;
}

quiet_same : (s : Scene) (w : World) (log : Log) (n : ℕ) (o : Moving) → CallsStand w log → AllWant w → Even (number_of (w.nodes n).state.wish) o.acts o.state.wish → Wishful (λ c o. waiting_call (w.nodes n).state.wish c ≡ Some o) o.state.wish →
    Same (put s w log log n o) (world.put s w n (waiting_call (w.nodes n).state.wish) o)
quiet_same s w log n o stand want even has = put_same s w log log n (waiting_call (w.nodes n).state.wish) o (λ t. quiet_owed n log (w.nodes n).state.wish o (λ c. stand n c) even has) (λ k c ne. refl) stand want

-- ---- a client's call

-- what is accepted of the rule, where the node may step
accepted_in : (s : Scene) (w : World) (r t : Register) (n : ℕ) (asks : ℕ → Option ClientOp) (o : Moving) → (is_among n s.members && w.joined n && not o.spent) ≡ true → AcceptsAll s.rules r (world.put s w n asks o).labels t → AcceptsAll s.rules r (told n asks o.acts) t
accepted_in s w r t n asks o may h = either (is_among n s.members && w.joined n && not o.spent) may h
  where
    either : (b : Bool) → b ≡ true → AcceptsAll s.rules r (cond b (record { world = record { nodes = λ k. cond (nat_eq k n) (view_of o) (w.nodes k); joined = w.joined; mail = w.mail ++ sent n o.acts }; labels = told n asks o.acts }) (world.stays w)).labels t → AcceptsAll s.rules r (told n asks o.acts) t
    either true e h = h
    either false e h = absurd (cc)

-- the call comes where none waits
want_owed : (n call : ℕ) (asked : ClientOp) (log : Log) (before : Option Wish) (o : Moving) → before ≡ None → ((c : ℕ) → log n c ≡ waiting_call before c) → Even (call ∷ []) o.acts o.state.wish → Wishful (λ c o. own_call call asked c ≡ Some o) o.state.wish →
    Owed n (with_call n call (Some asked) log) (own_call call asked) o
unfolding waiting_call number_of
want_owed n call asked log before o none fit even has = quiet_owed n (with_call n call (Some asked) log) (Some (record { call = call; request = 0; op = asked })) o fits even has
  where
    fits : (c : ℕ) → with_call n call (Some asked) log n c ≡ own_call call asked c
    fits c = ⊎_elim
        (λ (is : c ≡ call). subst (λ (k : ℕ). with_call n call (Some asked) log n k ≡ own_call call asked k) (sym is) (same_call n call (Some asked) log ∙ sym (own_self call asked)))
        (λ (ne : c ≢ call). other_call n call n c (Some asked) log ne ∙ fit c ∙ ap (λ (x : Option Wish). waiting_call x c) none ∙ sym (own_other call asked c ne))
        (cases_eq c call)

own_owed : (s : Scene) (r t : Register) (n call : ℕ) (asked : ClientOp) (log : Log) (before : Option Wish) (o : Moving) → log n call ≡ None → ((c : ℕ) → log n c ≡ waiting_call before c) → AcceptsAll s.rules r (told n (own_call call asked) o.acts) t → Even (call ∷ number_of before) o.acts o.state.wish →
    Wishful (λ c o. waiting_call before c ≡ Some o) o.state.wish → Owed n (with_call n call (Some asked) log) (own_call call asked) o
own_owed s r t n call asked log before o fresh fit accepts even has = record {
  tells = own_tells n call asked log before o.state.wish (answers_in o.acts) fresh fit (even_is (call ∷ number_of before) o.acts o.state.wish even) (accepts_asked s.rules n (own_call call asked) o.acts r t accepts) has;
  want = wanting_in (call ∷ number_of before) o o.state.wish even;
}

-- it comes under a number of an open call, and nothing happens; or it happens as before
calls_same : (s : Scene) (w : World) (log : Log) (n call : ℕ) (asked : ClientOp) (may : Bool) (o : Moving) → CallsStand w log → AllWant w →
    (log n call ≡ None → may ≡ true → (is_among n s.members && w.joined n && not o.spent) ≡ true → Owed n (with_call n call (Some asked) log) (own_call call asked) o) →
    (calls s w log n call asked may o ≡ stays w log) ⊎ Same (calls s w log n call asked may o) (cond may (world.put s w n (own_call call asked) o) (world.stays w))
calls_same s w log n call asked may o stand want owed = fresh (log n call) refl
  where
    now : Logged
    now = put s w log (with_call n call (Some asked) log) n o

    old : world.Stepped
    old = world.put s w n (own_call call asked) o

    allowed : (b : Bool) → log n call ≡ None → may ≡ b → (cond b now (stays w log) ≡ stays w log) ⊎ Same (cond b now (stays w log)) (cond b old (world.stays w))
    allowed true none t = inr (put_same s w log (with_call n call (Some asked) log) n (own_call call asked) o (owed none t) (λ k c ne. other_node n call k c (Some asked) log ne) stand want)
    allowed false none f = inl refl

    fresh : (x : Option ClientOp) → log n call ≡ x → (cond (is_none x && may) now (stays w log) ≡ stays w log) ⊎ Same (cond (is_none x && may) now (stays w log)) (cond may old (world.stays w))
    fresh None e = allowed may e refl
    fresh (Some y) e = inl refl

-- ---- each event

-- a view without the lock has the same call
aside_same : (s : Scene) (w : World) (log : Log) (n : ℕ) (may : Bool) (labels : List Label) → CallsStand w log → AllWant w →
    Same (record { world = (world.steps s w n may labels (unlocked (w.nodes n)) []).world; log = log; labels = (world.steps s w n may labels (unlocked (w.nodes n)) []).labels }) (world.steps s w n may labels (unlocked (w.nodes n)) [])
aside_same s w log n may labels stand want = either (is_among n s.members && w.joined n && may)
  where
    after : World
    after = record { nodes = λ k. cond (nat_eq k n) (unlocked (w.nodes n)) (w.nodes k); joined = w.joined; mail = w.mail ++ [] }

    same_wish_at : (k : ℕ) → (after.nodes k).state.wish ≡ (w.nodes k).state.wish
    same_wish_at k = ⊎_elim
        (λ (is : k ≡ n). subst (λ (i : ℕ). (after.nodes i).state.wish ≡ (w.nodes i).state.wish) (sym is) (ap (λ (v : View). v.state.wish) (own_view w n (unlocked (w.nodes n)))))
        (λ (ne : k ≢ n). ap (λ (v : View). v.state.wish) (other_view w n k (unlocked (w.nodes n)) ne))
        (cases_eq k n)

    moved : world.Stepped
    moved = record { world = after; labels = labels }

    either : (b : Bool) → Same (record { world = (cond b moved (world.stays w)).world; log = log; labels = (cond b moved (world.stays w)).labels }) (cond b moved (world.stays w))
    either true = record { world = refl; labels = refl; stand = λ k c. stand k c ∙ ap (λ (x : Option Wish). waiting_call x c) (sym (same_wish_at k)); want = λ k x e. want k x (sym (same_wish_at k) ∙ e) }
    either false = record { world = refl; labels = refl; stand = stand; want = want }

joins_same : (s : Scene) (w : World) (log : Log) (n : ℕ) → CallsStand w log → AllWant w → Same (record { world = (world.joins s w n).world; log = log; labels = (world.joins s w n).labels }) (world.joins s w n)
joins_same s w log n stand want = either (is_among n s.members && not (w.joined n))
  where
    moved : world.Stepped
    moved = record { world = record { nodes = w.nodes; joined = λ k. cond (nat_eq k n) true (w.joined k); mail = w.mail }; labels = Joined n ∷ [] }

    either : (b : Bool) → Same (record { world = (cond b moved (world.stays w)).world; log = log; labels = (cond b moved (world.stays w)).labels }) (cond b moved (world.stays w))
    either true = record { world = refl; labels = refl; stand = stand; want = want }
    either false = record { world = refl; labels = refl; stand = stand; want = want }

comes_same : (s : Scene) (w : World) (log : Log) (m : Option Mail) → CallsStand w log → AllWant w → Same (comes_logged s w log m) (world.comes s w m)
comes_same s w log None stand want = record { world = refl; labels = refl; stand = stand; want = want }
comes_same s w log (Some m) stand want =
    let n = m.receiver in
    let v = w.nodes n in
    quiet_same s w log n _ stand want
    (arrive_even (number_of v.state.wish) (place s n v) s.rules m.sender m.msg (starts v) (even_begin v.state.wish (want n)))
    (arrive_wish (λ c o. waiting_call v.state.wish c ≡ Some o) (place s n v) s.rules m.sender m.msg (starts v) (wish_begin v.state.wish))

-- a call that may want the record wants it
wants_asked : (v : RecState) (asked : ClientOp) → may_want v asked ≡ true → wants_record asked ≡ true
unfolding may_want
wants_asked v asked t = grind arith

no_wish : (P : ℕ → ClientOp → Type 0) (w : Option Wish) → w ≡ None → Wishful P w
unfolding Wishful
no_wish P None e = tt
no_wish P (Some x) e = absurd (cc)

-- what the register accepts of a client's step that may come
accepted_by : (s : Scene) (r : Register) (g : Ghost) (may : Bool) (x : world.Stepped) (w : World) → may ≡ true → Leads s r g (cond may x (world.stays w)) → (t : Register) × AcceptsAll s.rules r x.labels t
accepted_by s r g true x w e h = (h.0, h.2)
accepted_by s r g false x w e h = absurd (cc)

pub step_same : (s : Scene) (w : World) (log : Log) (r : Register) (g : Ghost) (e : Event) → list_all is_node s.members ≡ true → WorldInv s w r g → CallsStand w log → AllWant w →
    (happens s w log e ≡ stays w log) ⊎ Same (happens s w log e) (world.happens s w e)
unfolding answers_in
step_same s w log r g (Wants n call asked) real h stand want =
    let v = w.nodes n in
    calls_same s w log n call asked (may_want v.state asked) (move (place s n v) s.rules (event.Want call asked) (starts v)) stand want (λ fresh t may.
    (let p = may_parts v.state asked t in let none = none_none v.state.wish p.0 in
    want_owed n call asked log v.state.wish _ none (λ c. stand n c)
    (want_even (call ∷ []) (place s n v) s.rules call asked (starts v) none (wants_asked v.state asked t) refl)
    (want_wish (λ c o. own_call call asked c ≡ Some o) (place s n v) s.rules call asked (starts v) (own_self call asked) (no_wish (λ c o. own_call call asked c ≡ Some o) v.state.wish none))))
step_same s w log r g (Stores n call x) real h stand want =
    let v = w.nodes n in
    let asked = op.Store s.db s.key x in
    let o = move (place s n v) s.rules (event.Store call x) (starts v) in
    let k = step_holds s w r g (Stores n call x) real h in
    calls_same s w log n call asked (is_some v.state.locked) o stand want (λ fresh t may.
    (let a = accepted_by s r g (is_some v.state.locked) (world.put s w n (own_call call asked) o) w t k in
    own_owed s r a.0 n call asked log v.state.wish o fresh (λ c. stand n c) (accepted_in s w r a.0 n (own_call call asked) o may a.1)
    (store_even (number_of v.state.wish) call x (starts v) refl (even_begin v.state.wish (want n)))
    (store_wish (λ c o. waiting_call v.state.wish c ≡ Some o) call x (starts v) (wish_begin v.state.wish))))
step_same s w log r g (Unlocks n call) real h stand want =
    let v = w.nodes n in
    let asked = op.Unlock s.db s.key in
    let o = move (place s n v) s.rules (event.Unlock call) (starts v) in
    let k = step_holds s w r g (Unlocks n call) real h in
    calls_same s w log n call asked (is_some v.state.locked) o stand want (λ fresh t may.
    (let a = accepted_by s r g (is_some v.state.locked) (world.put s w n (own_call call asked) o) w t k in
    own_owed s r a.0 n call asked log v.state.wish o fresh (λ c. stand n c) (accepted_in s w r a.0 n (own_call call asked) o may a.1)
    (unlock_even (number_of v.state.wish) (place s n v) call (starts v) refl (even_begin v.state.wish (want n)))
    (unlock_wish (λ c o. waiting_call v.state.wish c ≡ Some o) (place s n v) call (starts v) (wish_begin v.state.wish))))
step_same s w log r g (Releases n call) real h stand want =
    let v = w.nodes n in
    let asked = op.Unlock s.db s.key in
    let o = release call (starts v) in
    let k = step_holds s w r g (Releases n call) real h in
    calls_same s w log n call asked (is_some v.state.locked) o stand want (λ fresh t may.
    (let a = accepted_by s r g (is_some v.state.locked) (world.put s w n (own_call call asked) o) w t k in
    own_owed s r a.0 n call asked log v.state.wish o fresh (λ c. stand n c) (accepted_in s w r a.0 n (own_call call asked) o may a.1)
    (release_even (number_of v.state.wish) call (starts v) refl (even_begin v.state.wish (want n)))
    (release_wish (λ c o. waiting_call v.state.wish c ≡ Some o) call (starts v) (wish_begin v.state.wish))))
step_same s w log r g (Comes which) real h stand want = inr (comes_same s w log (slice_get w.mail which) stand want)
step_same s w log r g (Vacuums n) real h stand want = (let v = w.nodes n in inr (quiet_same s w log n _ stand want
    (vacuum_even (number_of v.state.wish) (place s n v) (peers s n) (starts v) (even_begin v.state.wish (want n)))
    (vacuum_wish (λ c o. waiting_call v.state.wish c ≡ Some o) (place s n v) (peers s n) (starts v) (wish_begin v.state.wish))))
step_same s w log r g (Resends n) real h stand want = (let v = w.nodes n in inr (quiet_same s w log n _ stand want
    (revoke_again_even (number_of v.state.wish) (place s n v) _ (call_again_even (number_of v.state.wish) (place s n v) (starts v) (even_begin v.state.wish (want n))))
    (revoke_again_wish (λ c o. waiting_call v.state.wish c ≡ Some o) (place s n v) _ (call_again_wish (λ c o. waiting_call v.state.wish c ≡ Some o) (place s n v) (starts v) (wish_begin v.state.wish)))))
step_same s w log r g (Thaws n) real h stand want = (let v = w.nodes n in inr (quiet_same s w log n _ stand want
    (want_again_even (number_of v.state.wish) s.rules (place s n v) (starts v) (even_begin v.state.wish (want n)))
    (want_again_wish (λ c o. waiting_call v.state.wish c ≡ Some o) s.rules (place s n v) (starts v) (wish_begin v.state.wish))))
step_same s w log r g (Ends n) real h stand want = inr (aside_same s w log n (is_some (w.nodes n).state.locked) _ stand want)
step_same s w log r g (Leaves n) real h stand want = inr (aside_same s w log n true _ stand want)
step_same s w log r g (Joins n) real h stand want = inr (joins_same s w log n stand want)
step_same s w log r g (Rises n next floor) real h stand want = (let v = w.nodes n in inr (quiet_same s w log n (begins v.state (greater v.next next) (greater v.floor floor)) stand want (even_begin v.state.wish (want n)) (wish_begin v.state.wish)))
