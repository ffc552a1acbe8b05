-- At one record, no call is forgotten or answered twice: what the rule answers, and then the call that waits, are what waited before.
use Rattle.std.proofs.Common.{◌≡◌, ◌≢◌, ℕ, Bool, true, false, cond, List, [], ◌∷◌, ◌++◌, length, Option, Some, None, refl, sym, ap, ◌∙◌, subst, arith}
use Rattle.std.specs.Prelude.{Result, Ok, Err, nat_le, nat_eq, ◌==◌, ◌&&◌, ◌||◌, if◌then◌else◌, is_none}
use Rattle.std.proofs.lemmas.Bool.{cond_both}
use Rattle.ct_values.specs.Words.{is_nil}
use Rattle.ct_values.specs.Client.{is_read, wants_record}
use Rattle.ct_call.specs.Rules.{Rules}
use Rattle.ct_frame.specs.declared.frame.CallKind.{CallKind}
use Rattle.ct_frame.specs.declared.frame.Msg.{Msg}
use Rattle.ct_frame.specs.declared.frame.Msg.TheVariants as msg
use Rattle.ct_values.specs.declared.client.ClientOp.{ClientOp}
use Rattle.ct_rules.specs.State.{is_read_kind, kind_of}
use Rattle.ct_rules.specs.Parts.{Moving, performs, send, send_all, reply, keeps, reaches, opened, open_of, end_vacuum, give, applies, satisfy, revoke, read_here, delegate, grant, yield_record, drain, drained, satisfy_own, raise, end_revocation, next, next_of, keep, call_for, wait_for_copies, want_of, opened_at_home, want}
use Rattle.ct_rules.specs.Messages.{pass_again, enqueue, on_call_of, called, on_call, wait, handle, recalled, on_recall, hand_on, on_give_of, on_give, satisfy_wish, becomes, accept, refuse, on_pass, on_refuse_of, on_refuse, read_granted, on_grant, on_done_of, on_done, acknowledge, renew, on_revoke_of, on_revoke, acknowledged, on_revokeack, on_vstore, on_vdelete, finish, on_vstored_of, on_vstored, on_vdeleted_of, on_vdeleted}
use Rattle.ct_rules.specs.declared.event.Place.{Place}
use Rattle.ct_rules.specs.declared.state.RecallNote.{RecallNote}
use Rattle.ct_rules.specs.declared.state.Entry.{Entry}
use Rattle.ct_rules.specs.declared.state.Waiter.{Waiter}
use Rattle.ct_rules.specs.declared.state.Wish.{Wish}
use Rattle.ct_rules.specs.Moves.{store, release, unlock, begin_vacuum, vacuum_at_home, vacuum, at_home, from_home, arrive}
use Rattle.ct_rules.specs.Moves.{call_again_of, call_again, revoke_again_of, revoke_again}
use Rattle.ct_rules.specs.State.{value_of, is_wished, is_quiet, is_mastered, is_for_reading}
use Rattle.ct_rules.specs.declared.event.Act.{Act}
use Rattle.ct_rules.specs.declared.event.Act.TheVariants as act
use Rattle.ct_tracking.specs.Tracked.{Revocation}
use Rattle.ct_call.specs.Rules.{Rule, rule_of}
use Rattle.ct_call.specs.Rules as call_rules
use Rattle.ct_call.specs.Table.{applied_by, bounded}
use Rattle.ct_call.specs.declared.fault.CallFault.{CallFault}
use Rattle.ct_call.specs.declared.fault.CallFault.TheVariants as fault
use Rattle.ct_frame.specs.declared.frame.CallKind.TheVariants as kind
use Rattle.ct_values.specs.declared.client.Answer.{Answer}
use Rattle.ct_values.specs.declared.client.Answer.TheVariants as answer
use Rattle.ct_values.specs.declared.client.ClientOp.TheVariants as op
use Rattle.ct_values.specs.declared.client.Why.TheVariants as why
use Rattle.ct_law_record.specs.Handed.{want_again_of, want_again}
use Rattle.std.proofs.lemmas.List.{append-nil}

-- ---- the primitives

unfoldable pub answers_in : List Act → List ℕ
answers_in [] = []
answers_in (act.Send receiver m ∷ xs) = answers_in xs
answers_in (act.Answer call a ∷ xs) = call ∷ answers_in xs
answers_in (act.Finished floor ∷ xs) = answers_in xs

-- What was answered, in order, and then the call that waits, if there is one: these are the calls. One that waits wants the record.
unfoldable pub Even : List ℕ → List Act → Option Wish → Type 0
Even xs as' None = answers_in as' ≡ xs
Even xs as' (Some w) = (answers_in as' ++ w.call ∷ [] ≡ xs) × (wants_record w.op ≡ true)

-- the number of the call that waits, if there is one
unfoldable pub number_of : Option Wish → List ℕ
number_of None = []
number_of (Some w) = w.call ∷ []

pub even_is : (xs : List ℕ) (as' : List Act) (w : Option Wish) → Even xs as' w → answers_in as' ++ number_of w ≡ xs
unfolding Even number_of
even_is xs as' None h = append-nil (answers_in as') ∙ h
even_is xs as' (Some w) h = h.0

sent_more : (as' : List Act) (n : ℕ) (m : Msg) → answers_in (as' ++ act.Send n m ∷ []) ≡ answers_in as'
unfolding answers_in
sent_more [] n m = refl
sent_more (act.Send k x ∷ xs) n m = sent_more xs n m
sent_more (act.Answer call a ∷ xs) n m = ap (λ (l : List ℕ). call ∷ l) (sent_more xs n m)
sent_more (act.Finished floor ∷ xs) n m = sent_more xs n m

finished_more : (as' : List Act) (n : ℕ) → answers_in (as' ++ act.Finished n ∷ []) ≡ answers_in as'
unfolding answers_in
finished_more [] n = refl
finished_more (act.Send k x ∷ xs) n = finished_more xs n
finished_more (act.Answer call a ∷ xs) n = ap (λ (l : List ℕ). call ∷ l) (finished_more xs n)
finished_more (act.Finished floor ∷ xs) n = finished_more xs n

answered_more : (as' : List Act) (call : ℕ) (a : Answer) → answers_in (as' ++ act.Answer call a ∷ []) ≡ answers_in as' ++ call ∷ []
unfolding answers_in
answered_more [] call a = refl
answered_more (act.Send k x ∷ xs) call a = answered_more xs call a
answered_more (act.Answer c x ∷ xs) call a = ap (λ (l : List ℕ). c ∷ l) (answered_more xs call a)
answered_more (act.Finished floor ∷ xs) call a = answered_more xs call a

send_even : (xs : List ℕ) (as' : List Act) (w : Option Wish) (n : ℕ) (m : Msg) → Even xs as' w → Even xs (as' ++ act.Send n m ∷ []) w
unfolding Even
send_even xs as' None n m h = sent_more as' n m ∙ h
send_even xs as' (Some w) n m h = (ap (λ (l : List ℕ). l ++ w.call ∷ []) (sent_more as' n m) ∙ h.0, h.1)

finished_even : (xs : List ℕ) (as' : List Act) (w : Option Wish) (n : ℕ) → Even xs as' w → Even xs (as' ++ act.Finished n ∷ []) w
unfolding Even
finished_even xs as' None n h = finished_more as' n ∙ h
finished_even xs as' (Some w) n h = (ap (λ (l : List ℕ). l ++ w.call ∷ []) (finished_more as' n) ∙ h.0, h.1)

-- the call that waited is answered
answer_even : (xs : List ℕ) (as' : List Act) (call : ℕ) (a : Answer) → answers_in as' ++ call ∷ [] ≡ xs → Even xs (as' ++ act.Answer call a ∷ []) None
unfolding Even
answer_even xs as' call a h = answered_more as' call a ∙ h

due : (xs : List ℕ) (as' : List Act) (w : Wish) → Even xs as' (Some w) → (answers_in as' ++ w.call ∷ [] ≡ xs) × (wants_record w.op ≡ true)
unfolding Even
due xs as' w h = h

waits_even : (xs : List ℕ) (as' : List Act) (w : Wish) → answers_in as' ++ w.call ∷ [] ≡ xs → wants_record w.op ≡ true → Even xs as' (Some w)
unfolding Even
waits_even xs as' w h k = (h, k)

send_all_even : (xs : List ℕ) (ns : List ℕ) (m : Msg) (o : Moving) → Even xs o.acts o.state.wish → Even xs (send_all ns m o).acts (send_all ns m o).state.wish
unfolding send_all send performs
send_all_even xs [] m o h = h
send_all_even xs (n ∷ ns) m o h = send_all_even xs ns m (send n m o) (send_even xs o.acts o.state.wish n m h)

either_even : (xs : List ℕ) (b : Bool) (x y : Moving) → Even xs x.acts x.state.wish → Even xs y.acts y.state.wish → Even xs (cond b x y).acts (cond b x y).state.wish
either_even xs true x y h k = h
either_even xs false x y h k = k

read_here_even : (xs : List ℕ) (at : Place) (request : ℕ) (o : Moving) (w : Option Wish) → o.state.wish ≡ w → Even xs o.acts o.state.wish → Even xs (read_here at request o w).acts (read_here at request o w).state.wish
unfolding read_here reply performs keeps
read_here_even xs at request o None e h = h
read_here_even xs at request o (Some w) e h = (let k = subst (λ (x : Option Wish). Even xs o.acts x) e h in
    either_even xs (is_wished at.readonly request kind.Read (Some w)) _ _ (answer_even xs o.acts w.call _ (due xs o.acts w k).0) h)

grant_even : (xs : List ℕ) (at : Place) (node request : ℕ) (o : Moving) → Even xs o.acts o.state.wish → Even xs (grant at node request o).acts (grant at node request o).state.wish
unfolding send performs keeps grant delegate
grant_even xs at node request o h = grind (arith, h, send_even xs, finished_even xs, read_here_even xs)

revoke_even : (xs : List ℕ) (at : Place) (o : Moving) → Even xs o.acts o.state.wish → Even xs (revoke at o).acts (revoke at o).state.wish
unfolding keeps revoke
revoke_even xs at o h = grind (arith, h, send_even xs, finished_even xs, send_all_even xs)

give_even : (xs : List ℕ) (at : Place) (o : Moving) → Even xs o.acts o.state.wish → Even xs (give at o).acts (give at o).state.wish
unfolding send performs keeps give
give_even xs at o h = grind (arith, h, send_even xs, finished_even xs)

yield_even : (xs : List ℕ) (at : Place) (o : Moving) → Even xs o.acts o.state.wish → Even xs (yield_record at o).acts (yield_record at o).state.wish
unfolding yield_record
yield_even xs at o h = grind (arith, h, send_even xs, finished_even xs, give_even xs, revoke_even xs)

drain_even : (xs : List ℕ) (at : Place) (ws : List RecallNote) (o : Moving) → Even xs o.acts o.state.wish → Even xs (drain at ws o).acts (drain at ws o).state.wish
unfolding drain keeps end_vacuum
drain_even xs at [] o h = h
drain_even xs at (r ∷ rs) o h = grind (arith, h, send_even xs, finished_even xs, grant_even xs, yield_even xs, drain_even xs at rs (grant at r.node r.request (end_vacuum o)))

drained_even : (xs : List ℕ) (at : Place) (o : Moving) → Even xs o.acts o.state.wish → Even xs (drained at o).acts (drained at o).state.wish
unfolding drained
drained_even xs at o h = grind (arith, h, send_even xs, finished_even xs, drain_even xs)

bounded_never : (x : List ℕ) → bounded x ≢ Err fault.NoMemory
bounded_never x e = cond_both (nat_le (length x) 1024) (Ok x) (Err (fault.TooLong (length x))) (λ (y : Result (List ℕ) CallFault). y ≢ Err fault.NoMemory) (λ _ k. absurd (cc)) (λ _ k. absurd (cc)) e

applied_never : (r : Option Rule) (old arg : List ℕ) → applied_by r old arg ≢ Err fault.NoMemory
applied_never None old arg e = absurd (cc)
applied_never (Some r) old arg e = bounded_never (call_rules.value_of r old arg) e

applies_even : (xs : List ℕ) (call : ℕ) (o : Moving) (r : Result (List ℕ) CallFault) → r ≢ Err fault.NoMemory → o.state.wish ≡ None → answers_in o.acts ++ call ∷ [] ≡ xs → Even xs (applies call o r).acts (applies call o r).state.wish
unfolding applies reply performs keeps
applies_even xs call o (Ok v) never none h = subst (λ (x : Option Wish). Even xs (o.acts ++ act.Answer call (answer.Applied v) ∷ []) x) (sym none) (answer_even xs o.acts call _ h)
applies_even xs call o (Err (fault.TooLong n)) never none h = subst (λ (x : Option Wish). Even xs (o.acts ++ act.Answer call (answer.Refused (why.TooLong n)) ∷ []) x) (sym none) (answer_even xs o.acts call _ h)
applies_even xs call o (Err fault.NoSuchCall) never none h = subst (λ (x : Option Wish). Even xs (o.acts ++ act.Answer call (answer.Refused why.NoSuchCall) ∷ []) x) (sym none) (answer_even xs o.acts call _ h)
applies_even xs call o (Err fault.NoMemory) never none h = absurd (never refl)

-- a call that wants the record, and waits no more, is answered once
satisfied_even : (xs : List ℕ) (rules : Rules) (call : ℕ) (asked : ClientOp) (o : Moving) → o.state.wish ≡ None → wants_record asked ≡ true → answers_in o.acts ++ call ∷ [] ≡ xs → Even xs (satisfy rules call asked o).acts (satisfy rules call asked o).state.wish
unfolding satisfy reply performs keeps wants_record
satisfied_even xs rules call (op.Lock db key) o none is h = subst (λ (x : Option Wish). Even xs (o.acts ++ act.Answer call (answer.Locked (value_of o.state.copy)) ∷ []) x) (sym none) (answer_even xs o.acts call _ h)
satisfied_even xs rules call (op.Read db key) o none is h = subst (λ (x : Option Wish). Even xs (o.acts ++ act.Answer call (answer.Read (value_of o.state.copy)) ∷ []) x) (sym none) (answer_even xs o.acts call _ h)
satisfied_even xs rules call (op.Write db key v) o none is h = subst (λ (x : Option Wish). Even xs (o.acts ++ act.Answer call answer.Written ∷ []) x) (sym none) (answer_even xs o.acts call _ h)
satisfied_even xs rules call (op.Apply db key f arg) o none is h = applies_even xs call o _ (applied_never (rule_of f rules) (value_of o.state.copy) arg) none h
satisfied_even xs rules call (op.Store db key v) o none is h = absurd (cc)
satisfied_even xs rules call (op.Unlock db key) o none is h = absurd (cc)
satisfied_even xs rules call (op.Commit db writes) o none is h = absurd (cc)

own_even : (xs : List ℕ) (rules : Rules) (o : Moving) (w : Option Wish) → o.state.wish ≡ w → Even xs o.acts o.state.wish → Even xs (satisfy_own rules o w).acts (satisfy_own rules o w).state.wish
unfolding satisfy_own keeps
own_even xs rules o None e h = h
own_even xs rules o (Some w) e h = (let k = due xs o.acts w (subst (λ (x : Option Wish). Even xs o.acts x) e h) in
    either_even xs (w.request == 0) _ _ (satisfied_even xs rules w.call w.op (record o { state = record o.state { wish = None } }) refl k.1 k.0) h)

wish_even : (xs : List ℕ) (rules : Rules) (o : Moving) (w : Option Wish) → o.state.wish ≡ w → Even xs o.acts o.state.wish → Even xs (satisfy_wish rules o w).acts (satisfy_wish rules o w).state.wish
unfolding satisfy_wish keeps
wish_even xs rules o None e h = h
wish_even xs rules o (Some w) e h = (let k = due xs o.acts w (subst (λ (x : Option Wish). Even xs o.acts x) e h) in
    satisfied_even xs rules w.call w.op (record o { state = record o.state { wish = None } }) refl k.1 k.0)

end_revocation_even : (xs : List ℕ) (at : Place) (rules : Rules) (o : Moving) → Even xs o.acts o.state.wish → Even xs (end_revocation at rules o).acts (end_revocation at rules o).state.wish
unfolding keeps reaches end_revocation raise
end_revocation_even xs at rules o h = grind (arith, h, send_even xs, finished_even xs, own_even xs, drained_even xs)

next_even : (xs : List ℕ) (at : Place) (o : Moving) → Even xs o.acts o.state.wish → Even xs (next at o).acts (next at o).state.wish
unfolding send performs next next_of
next_even xs at o h = grind (arith, h, send_even xs, finished_even xs)

keep_even : (xs : List ℕ) (at : Place) (rsn : ℕ) (value : List ℕ) (o : Moving) → Even xs o.acts o.state.wish → Even xs (keep at rsn value o).acts (keep at rsn value o).state.wish
unfolding keeps reaches keep
keep_even xs at rsn value o h = grind (arith, h, send_even xs, finished_even xs, next_even xs)

opened_even : (xs : List ℕ) (at : Place) (o : Moving) → Even xs o.acts o.state.wish → Even xs (opened at o).acts (opened at o).state.wish
unfolding keeps opened open_of
opened_even xs at o h = grind (arith, h, send_even xs, finished_even xs)

enqueue_even : (xs : List ℕ) (at : Place) (w : Waiter) (o : Moving) (ws : List Waiter) → Even xs o.acts o.state.wish → Even xs (enqueue at w o ws).acts (enqueue at w o ws).state.wish
unfolding keeps enqueue
enqueue_even xs at w o ws h = grind (arith, h, send_even xs, finished_even xs, next_even xs)

pass_again_even : (xs : List ℕ) (at : Place) (e : Entry) (o : Moving) → Even xs o.acts o.state.wish → Even xs (pass_again at e o).acts (pass_again at e o).state.wish
unfolding send performs pass_again
pass_again_even xs at e o h = grind (arith, h, send_even xs, finished_even xs)

call_of_even : (xs : List ℕ) (at : Place) (n request : ℕ) (k : CallKind) (o : Moving) (e : Option Entry) → Even xs o.acts o.state.wish → Even xs (on_call_of at n request k o e).acts (on_call_of at n request k o e).state.wish
unfolding on_call_of
call_of_even xs at n request k o e h = grind (arith, h, send_even xs, finished_even xs, pass_again_even xs, next_even xs, enqueue_even xs)

call_even : (xs : List ℕ) (at : Place) (n request : ℕ) (k : CallKind) (o : Moving) → Even xs o.acts o.state.wish → Even xs (on_call at n request k o).acts (on_call at n request k o).state.wish
unfolding keeps on_call called end_vacuum
call_even xs at n request k o h = grind (arith, h, send_even xs, finished_even xs, call_of_even xs, opened_even xs)

handle_even : (xs : List ℕ) (at : Place) (r : RecallNote) (o : Moving) → Even xs o.acts o.state.wish → Even xs (handle at r o).acts (handle at r o).state.wish
unfolding keeps handle end_vacuum
handle_even xs at r o h = grind (arith, h, send_even xs, finished_even xs, grant_even xs, yield_even xs)

recall_even : (xs : List ℕ) (at : Place) (r : RecallNote) (o : Moving) → Even xs o.acts o.state.wish → Even xs (on_recall at r o).acts (on_recall at r o).state.wish
unfolding send performs keeps on_recall recalled wait
recall_even xs at r o h = grind (arith, h, send_even xs, finished_even xs, handle_even xs)

hand_on_even : (xs : List ℕ) (at : Place) (rsn : ℕ) (value : List ℕ) (o : Moving) (ws : List Waiter) → Even xs o.acts o.state.wish → Even xs (hand_on at rsn value o ws).acts (hand_on at rsn value o ws).state.wish
unfolding send performs keeps reaches hand_on
hand_on_even xs at rsn value o ws h = grind (arith, h, send_even xs, finished_even xs, keep_even xs, next_even xs)

on_give_even : (xs : List ℕ) (at : Place) (x rsn : ℕ) (value : List ℕ) (o : Moving) → Even xs o.acts o.state.wish → Even xs (on_give at x rsn value o).acts (on_give at x rsn value o).state.wish
unfolding on_give on_give_of
on_give_even xs at x rsn value o h = grind (arith, h, send_even xs, finished_even xs, hand_on_even xs)

take_even : (xs : List ℕ) (at : Place) (rules : Rules) (rsn : ℕ) (value : List ℕ) (o : Moving) → Even xs o.acts o.state.wish → Even xs (accept at rules rsn value o).acts (accept at rules rsn value o).state.wish
unfolding keeps reaches accept becomes
take_even xs at rules rsn value o h = drained_even xs at _ (wish_even xs rules _ o.state.wish refl h)

pass_even : (xs : List ℕ) (at : Place) (rules : Rules) (request rsn : ℕ) (value : List ℕ) (o : Moving) → Even xs o.acts o.state.wish → Even xs (on_pass at rules request rsn value o).acts (on_pass at rules request rsn value o).state.wish
unfolding send performs keeps on_pass refuse
pass_even xs at rules request rsn value o h = grind (arith, h, send_even xs, finished_even xs, take_even xs)

reads_even : (xs : List ℕ) (request : ℕ) (o : Moving) (w : Option Wish) (value : List ℕ) → o.state.wish ≡ w → Even xs o.acts o.state.wish → Even xs (read_granted request o w value).acts (read_granted request o w value).state.wish
unfolding read_granted reply performs keeps
reads_even xs request o None value e h = h
reads_even xs request o (Some w) value e h = answer_even xs o.acts w.call _ (due xs o.acts w (subst (λ (x : Option Wish). Even xs o.acts x) e h)).0

on_grant_even : (xs : List ℕ) (at : Place) (n request rsn : ℕ) (value : List ℕ) (o : Moving) → Even xs o.acts o.state.wish → Even xs (on_grant at n request rsn value o).acts (on_grant at n request rsn value o).state.wish
unfolding keeps on_grant
on_grant_even xs at n request rsn value o h = either_even xs _ _ _ (reads_even xs request _ o.state.wish value refl h) h

on_refuse_even : (xs : List ℕ) (at : Place) (n request rsn : ℕ) (o : Moving) → Even xs o.acts o.state.wish → Even xs (on_refuse at n request rsn o).acts (on_refuse at n request rsn o).state.wish
unfolding on_refuse on_refuse_of
on_refuse_even xs at n request rsn o h = grind (arith, h, send_even xs, finished_even xs, keep_even xs)

on_done_even : (xs : List ℕ) (at : Place) (n request : ℕ) (o : Moving) → Even xs o.acts o.state.wish → Even xs (on_done at n request o).acts (on_done at n request o).state.wish
unfolding keeps on_done on_done_of
on_done_even xs at n request o h = grind (arith, h, send_even xs, finished_even xs, next_even xs)

on_revoke_of_even : (xs : List ℕ) (at : Place) (n rsn : ℕ) (o : Moving) (w : Option Wish) → o.state.wish ≡ w → Even xs o.acts w → Even xs (on_revoke_of at n rsn o w).acts (on_revoke_of at n rsn o w).state.wish
unfolding send performs keeps reaches renew on_revoke_of acknowledge
on_revoke_of_even xs at n rsn o None e h = send_even xs o.acts _ n _ (subst (λ (x : Option Wish). Even xs o.acts x) (sym e) h)
on_revoke_of_even xs at n rsn o (Some w) e h =
    either_even xs (is_read_kind (kind_of at.readonly w.op)) _ _ (send_even xs _ _ at.lmaster _ (send_even xs o.acts _ n _ (waits_even xs o.acts (record w { request = o.next }) (due xs o.acts w h).0 (due xs o.acts w h).1)))
    (send_even xs o.acts _ n _ (subst (λ (x : Option Wish). Even xs o.acts x) (sym e) h))

on_revoke_even : (xs : List ℕ) (at : Place) (n rsn : ℕ) (o : Moving) → Even xs o.acts o.state.wish → Even xs (on_revoke at n rsn o).acts (on_revoke at n rsn o).state.wish
unfolding on_revoke
on_revoke_even xs at n rsn o h = on_revoke_of_even xs at n rsn o o.state.wish refl h

on_revokeack_even : (xs : List ℕ) (at : Place) (rules : Rules) (n rsn : ℕ) (o : Moving) → Even xs o.acts o.state.wish → Even xs (on_revokeack at rules n rsn o).acts (on_revokeack at rules n rsn o).state.wish
unfolding keeps on_revokeack acknowledged
on_revokeack_even xs at rules n rsn o h = grind (arith, h, send_even xs, finished_even xs, end_revocation_even xs)

on_vstore_even : (xs : List ℕ) (at : Place) (n rsn : ℕ) (o : Moving) → Even xs o.acts o.state.wish → Even xs (on_vstore at n rsn o).acts (on_vstore at n rsn o).state.wish
unfolding send performs keeps on_vstore
on_vstore_even xs at n rsn o h = grind (arith, h, send_even xs, finished_even xs)

on_vdelete_even : (xs : List ℕ) (at : Place) (n rsn : ℕ) (o : Moving) → Even xs o.acts o.state.wish → Even xs (on_vdelete at n rsn o).acts (on_vdelete at n rsn o).state.wish
unfolding send performs keeps on_vdelete
on_vdelete_even xs at n rsn o h = grind (arith, h, send_even xs, finished_even xs)

finish_even : (xs : List ℕ) (rsn : ℕ) (o : Moving) → Even xs o.acts o.state.wish → Even xs (finish rsn o).acts (finish rsn o).state.wish
unfolding performs reaches finish
finish_even xs rsn o h = grind (arith, h, send_even xs, finished_even xs)

on_vstored_even : (xs : List ℕ) (at : Place) (n rsn : ℕ) (o : Moving) → Even xs o.acts o.state.wish → Even xs (on_vstored at n rsn o).acts (on_vstored at n rsn o).state.wish
unfolding keeps on_vstored on_vstored_of
on_vstored_even xs at n rsn o h = grind (arith, h, send_even xs, finished_even xs, send_all_even xs)

on_vdeleted_even : (xs : List ℕ) (n rsn : ℕ) (o : Moving) → Even xs o.acts o.state.wish → Even xs (on_vdeleted n rsn o).acts (on_vdeleted n rsn o).state.wish
unfolding keeps on_vdeleted on_vdeleted_of
on_vdeleted_even xs n rsn o h = grind (arith, h, send_even xs, finished_even xs, finish_even xs)

begin_vacuum_even : (xs : List ℕ) (at : Place) (o : Moving) (ns : List ℕ) → Even xs o.acts o.state.wish → Even xs (begin_vacuum at o ns).acts (begin_vacuum at o ns).state.wish
unfolding keeps reaches begin_vacuum
begin_vacuum_even xs at o ns h = grind (arith, h, send_even xs, finished_even xs, finish_even xs, send_all_even xs)

pub vacuum_even : (xs : List ℕ) (at : Place) (ns : List ℕ) (o : Moving) → Even xs o.acts o.state.wish → Even xs (vacuum at ns o).acts (vacuum at ns o).state.wish
unfolding vacuum vacuum_at_home
vacuum_even xs at ns o h = grind (arith, h, send_even xs, finished_even xs, begin_vacuum_even xs, send_all_even xs, give_even xs)

home_even : (xs : List ℕ) (at : Place) (o p : Moving) → Even xs o.acts o.state.wish → Even xs p.acts p.state.wish → Even xs (at_home at p o).acts (at_home at p o).state.wish
unfolding at_home
home_even xs at o p h f = grind (arith, h, send_even xs, finished_even xs, f)

from_even : (xs : List ℕ) (at : Place) (n : ℕ) (o p : Moving) → Even xs o.acts o.state.wish → Even xs p.acts p.state.wish → Even xs (from_home at n p o).acts (from_home at n p o).state.wish
unfolding from_home
from_even xs at n o p h f = grind (arith, h, send_even xs, finished_even xs, f)

-- a message that comes leaves the call that waits, or no call
pub arrive_even : (xs : List ℕ) (at : Place) (rules : Rules) (n : ℕ) (m : Msg) (o : Moving) → Even xs o.acts o.state.wish → Even xs (arrive at rules n m o).acts (arrive at rules n m o).state.wish
unfolding arrive
arrive_even xs at rules n (msg.Call db key request k) o h = home_even xs at o _ h (call_even xs at n request k o h)
arrive_even xs at rules n (msg.Recall db key least node request k) o h = from_even xs at n o _ h (recall_even xs at (record { least = least; node = node; request = request; kind = k }) o h)
arrive_even xs at rules n (msg.Give db key rsn value) o h = home_even xs at o _ h (on_give_even xs at n rsn value o h)
arrive_even xs at rules n (msg.Pass db key request rsn value) o h = from_even xs at n o _ h (pass_even xs at rules request rsn value o h)
arrive_even xs at rules n (msg.Refuse db key request rsn) o h = home_even xs at o _ h (on_refuse_even xs at n request rsn o h)
arrive_even xs at rules n (msg.Grant db key request rsn value) o h = on_grant_even xs at n request rsn value o h
arrive_even xs at rules n (msg.Done db key node request) o h = home_even xs at o _ h (on_done_even xs at node request o h)
arrive_even xs at rules n (msg.Revoke db key rsn) o h = on_revoke_even xs at n rsn o h
arrive_even xs at rules n (msg.RevokeAck db key rsn) o h = on_revokeack_even xs at rules n rsn o h
arrive_even xs at rules n (msg.VStore db key rsn) o h = from_even xs at n o _ h (on_vstore_even xs at n rsn o h)
arrive_even xs at rules n (msg.VStored db key rsn) o h = home_even xs at o _ h (on_vstored_even xs at n rsn o h)
arrive_even xs at rules n (msg.VDelete db key rsn) o h = from_even xs at n o _ h (on_vdelete_even xs at n rsn o h)
arrive_even xs at rules n (msg.VDeleted db key rsn) o h = home_even xs at o _ h (on_vdeleted_even xs n rsn o h)
arrive_even xs at rules n _ o h = h

-- ---- a client's call comes

call_for_even : (xs : List ℕ) (at : Place) (call : ℕ) (asked : ClientOp) (o : Moving) → wants_record asked ≡ true → answers_in o.acts ++ call ∷ [] ≡ xs → Even xs (call_for at call asked o).acts (call_for at call asked o).state.wish
unfolding send performs reaches call_for
call_for_even xs at call asked o is h = send_even xs o.acts _ at.lmaster _ (waits_even xs o.acts (record { call = call; request = o.next; op = asked }) h is)

wait_even : (xs : List ℕ) (at : Place) (call : ℕ) (asked : ClientOp) (o : Moving) → wants_record asked ≡ true → answers_in o.acts ++ call ∷ [] ≡ xs → Even xs (wait_for_copies at call asked o).acts (wait_for_copies at call asked o).state.wish
unfolding keeps wait_for_copies
wait_even xs at call asked o is h = (let k = waits_even xs o.acts (record { call = call; request = 0; op = asked }) h is in either_even xs (is_quiet o.state.tracking) _ _ (revoke_even xs at _ k) k)

want_of_even : (xs : List ℕ) (at : Place) (rules : Rules) (call : ℕ) (asked : ClientOp) (o : Moving) → o.state.wish ≡ None → wants_record asked ≡ true → answers_in o.acts ++ call ∷ [] ≡ xs → Even xs (want_of at rules call asked o).acts (want_of at rules call asked o).state.wish
unfolding reply performs want_of
want_of_even xs at rules call asked o none is h =
    let satisfied = satisfy rules call asked o in
    let waits = wait_for_copies at call asked o in
    let mastered = if is_nil o.state.tracking.tracked then satisfied else waits in
    let calls = call_for at call asked o in
    let wanted = if is_mastered at.me o.state.copy then mastered else calls in
    either_even xs (is_read asked && (is_mastered at.me o.state.copy || is_for_reading o.state.copy)) (record o { acts = o.acts ++ act.Answer call (answer.Read (value_of o.state.copy)) ∷ [] }) wanted
    (subst (λ (x : Option Wish). Even xs (o.acts ++ act.Answer call (answer.Read (value_of o.state.copy)) ∷ []) x) (sym none) (answer_even xs o.acts call _ h))
    (either_even xs (is_mastered at.me o.state.copy) mastered calls (either_even xs (is_nil o.state.tracking.tracked) satisfied waits (satisfied_even xs rules call asked o none is h) (wait_even xs at call asked o is h)) (call_for_even xs at call asked o is h))

open_acts : (at : Place) (o : Moving) (e : Option Entry) → ((open_of at o e).acts ≡ o.acts) × ((open_of at o e).state.wish ≡ o.state.wish)
unfolding keeps open_of
open_acts at o None = (refl, refl)
open_acts at o (Some e) = (refl, refl)

opened_acts : (at : Place) (o : Moving) → ((opened_at_home at o).acts ≡ o.acts) × ((opened_at_home at o).state.wish ≡ o.state.wish)
unfolding keeps opened_at_home end_vacuum opened
opened_acts at o = cond_both (nat_eq at.me at.lmaster && is_none o.state.locked) _ _ (λ (p : Moving). (p.acts ≡ o.acts) × (p.state.wish ≡ o.state.wish)) (λ _. open_acts at o o.state.entry) (λ _. (refl, refl))

-- a call that wants the record, where none waits: it is answered, or waits
pub want_even : (xs : List ℕ) (at : Place) (rules : Rules) (call : ℕ) (asked : ClientOp) (o : Moving) → o.state.wish ≡ None → wants_record asked ≡ true → answers_in o.acts ++ call ∷ [] ≡ xs → Even xs (want at rules call asked o).acts (want at rules call asked o).state.wish
unfolding want
want_even xs at rules call asked o none is h = (let k = opened_acts at o in want_of_even xs at rules call asked (opened_at_home at o) (k.1 ∙ none) is (ap (λ (l : List Act). answers_in l ++ call ∷ []) k.0 ∙ h))

want_again_of_even : (xs : List ℕ) (at : Place) (rules : Rules) (o : Moving) (w : Option Wish) → o.state.wish ≡ w → Even xs o.acts o.state.wish → Even xs (want_again_of at rules o w).acts (want_again_of at rules o w).state.wish
unfolding want_again_of keeps
want_again_of_even xs at rules o None e h = h
want_again_of_even xs at rules o (Some w) e h = (let k = due xs o.acts w (subst (λ (x : Option Wish). Even xs o.acts x) e h) in want_even xs at rules w.call w.op (record o { state = record o.state { wish = None } }) refl k.1 k.0)

pub want_again_even : (xs : List ℕ) (rules : Rules) (at : Place) (o : Moving) → Even xs o.acts o.state.wish → Even xs (want_again rules at o).acts (want_again rules at o).state.wish
unfolding want_again
want_again_even xs rules at o h = want_again_of_even xs at rules o o.state.wish refl h

again_even : (xs : List ℕ) (at : Place) (o : Moving) (w : Option Wish) → Even xs o.acts o.state.wish → Even xs (call_again_of at o w).acts (call_again_of at o w).state.wish
unfolding call_again_of send performs
again_even xs at o None h = h
again_even xs at o (Some w) h = either_even xs (w.request == 0) _ _ h (send_even xs o.acts _ at.lmaster _ h)

pub call_again_even : (xs : List ℕ) (at : Place) (o : Moving) → Even xs o.acts o.state.wish → Even xs (call_again at o).acts (call_again at o).state.wish
unfolding call_again
call_again_even xs at o h = again_even xs at o o.state.wish h

revokes_even : (xs : List ℕ) (at : Place) (o : Moving) (r : Option Revocation) → Even xs o.acts o.state.wish → Even xs (revoke_again_of at o r).acts (revoke_again_of at o r).state.wish
unfolding revoke_again_of
revokes_even xs at o None h = h
revokes_even xs at o (Some r) h = send_all_even xs r.missing _ o h

pub revoke_again_even : (xs : List ℕ) (at : Place) (o : Moving) → Even xs o.acts o.state.wish → Even xs (revoke_again at o).acts (revoke_again at o).state.wish
unfolding revoke_again
revoke_again_even xs at o h = revokes_even xs at o o.state.tracking.revoking h

-- at the beginning of a step: the call that comes is answered first
begun_even : (xs : List ℕ) (call : ℕ) (a : Answer) (w : Option Wish) → Even xs [] w → Even (call ∷ xs) (act.Answer call a ∷ []) w
unfolding Even answers_in
begun_even xs call a None h = ap (λ (l : List ℕ). call ∷ l) h
begun_even xs call a (Some w) h = (ap (λ (l : List ℕ). call ∷ l) h.0, h.1)

pub store_even : (xs : List ℕ) (call : ℕ) (v : List ℕ) (o : Moving) → o.acts ≡ [] → Even xs [] o.state.wish → Even (call ∷ xs) (store call v o).acts (store call v o).state.wish
unfolding reply performs keeps store
store_even xs call v o none h = subst (λ (l : List Act). Even (call ∷ xs) (l ++ act.Answer call answer.Stored ∷ []) o.state.wish) (sym none) (begun_even xs call answer.Stored o.state.wish h)

pub release_even : (xs : List ℕ) (call : ℕ) (o : Moving) → o.acts ≡ [] → Even xs [] o.state.wish → Even (call ∷ xs) (release call o).acts (release call o).state.wish
unfolding reply performs keeps release
release_even xs call o none h = subst (λ (l : List Act). Even (call ∷ xs) (l ++ act.Answer call answer.Unlocked ∷ []) o.state.wish) (sym none) (begun_even xs call answer.Unlocked o.state.wish h)

pub unlock_even : (xs : List ℕ) (at : Place) (call : ℕ) (o : Moving) → o.acts ≡ [] → Even xs [] o.state.wish → Even (call ∷ xs) (unlock at call o).acts (unlock at call o).state.wish
unfolding unlock
unlock_even xs at call o none h = drained_even (call ∷ xs) at (release call o) (release_even xs call o none h)
