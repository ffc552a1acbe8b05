-- A record is removed only at its location master, which then has no entry of it: no other rule does so.
use Rattle.std.proofs.Common.{◌≡◌, ℕ, List, [], ◌∷◌, ◌++◌, Option, Some, None, refl, arith, inl, inr}
use Rattle.std.specs.Prelude.{◌⊎◌, nat_eq}
use Rattle.std.specs.List.{AllByRecursion}
use Rattle.std.proofs.lemmas.Bool.{cond_both, eqb-true}
use Rattle.ct_call.specs.Rules.{Rules}
use Rattle.ct_frame.specs.declared.frame.CallKind.{CallKind}
use Rattle.ct_frame.specs.declared.frame.Msg.{Msg}
use Rattle.ct_frame.specs.declared.frame.Msg.TheVariants as msg
use Rattle.ct_values.specs.declared.client.Answer.{Answer}
use Rattle.ct_values.specs.declared.client.ClientOp.{ClientOp}
use Rattle.ct_rules.specs.Parts.{Moving, performs, send, send_all, reply, keeps, reaches, opened, open_of, end_vacuum, give, applies, satisfy, revoke, read_here, delegate, grant, yield_record, drain, drained, satisfy_own, raise, end_revocation, next, next_of, keep, call_for, wait_for_copies, want_of, opened_at_home, want}
use Rattle.ct_rules.specs.Messages.{pass_again, enqueue, on_call_of, called, on_call, wait, handle, recalled, on_recall, hand_on, on_give_of, on_give, satisfy_wish, becomes, accept, refuse, on_pass, on_refuse_of, on_refuse, read_granted, on_grant, on_done_of, on_done, acknowledge, renew, on_revoke_of, on_revoke, acknowledged, on_revokeack, on_vstore, on_vdelete, finish, on_vstored_of, on_vstored, on_vdeleted_of, on_vdeleted}
use Rattle.ct_rules.specs.declared.event.Place.{Place}
use Rattle.ct_rules.specs.declared.state.RecallNote.{RecallNote}
use Rattle.ct_rules.specs.declared.state.Entry.{Entry}
use Rattle.ct_rules.specs.declared.state.Waiter.{Waiter}
use Rattle.ct_rules.specs.declared.state.Wish.{Wish}
use Rattle.ct_rules.specs.Moves.{is_vacuumed, store, release, unlock, begin_vacuum, vacuum_at_home, vacuum, call_again_of, call_again, revoke_again_of, revoke_again, at_home, from_home, arrive}
use Rattle.ct_rules_node.specs.Rounds.{want_again_of, want_again}
use Rattle.ct_tracking.specs.Vacuum.{Vacuuming, ends_phase}
use Rattle.ct_tracking.specs.declared.vacuum.VacuumPhase.TheVariants.{Deleting}
use Rattle.ct_rules.specs.declared.event.Act.{Act}
use Rattle.ct_rules.specs.declared.event.Act.TheVariants as act

-- ---- a rule that removes nothing

-- no removal is among what is done
unfoldable pub IsNoFinish : Act → Type 0
IsNoFinish (act.Finished floor) = ⊥
IsNoFinish _ = Unit {0}

unfoldable pub Unfinished : List Act → Type 0
Unfinished done = AllByRecursion IsNoFinish done

more_unfinished : (as' : List Act) (a : Act) → IsNoFinish a → Unfinished as' → Unfinished (as' ++ a ∷ [])
unfolding Unfinished
more_unfinished [] a k h = (k, tt)
more_unfinished (b ∷ bs) a k h = (h.0, more_unfinished bs a k h.1)

send_unfinished : (n : ℕ) (m : Msg) (o : Moving) → Unfinished o.acts → Unfinished (send n m o).acts
unfolding send performs IsNoFinish
send_unfinished n m o h = more_unfinished o.acts (act.Send n m) tt h

reply_unfinished : (call : ℕ) (a : Answer) (o : Moving) → Unfinished o.acts → Unfinished (reply call a o).acts
unfolding reply performs IsNoFinish
reply_unfinished call a o h = more_unfinished o.acts (act.Answer call a) tt h

send_all_unfinished : (ns : List ℕ) (m : Msg) (o : Moving) → Unfinished o.acts → Unfinished (send_all ns m o).acts
unfolding send_all
send_all_unfinished [] m o h = h
send_all_unfinished (n ∷ ns) m o h = send_all_unfinished ns m (send n m o) (send_unfinished n m o h)

read_here_unfinished : (at : Place) (request : ℕ) (o : Moving) (w : Option Wish) → Unfinished o.acts → Unfinished (read_here at request o w).acts
unfolding keeps reaches read_here
read_here_unfinished at request o w h = grind (arith, h, send_unfinished, reply_unfinished)

grant_unfinished : (at : Place) (node request : ℕ) (o : Moving) → Unfinished o.acts → Unfinished (grant at node request o).acts
unfolding keeps reaches grant delegate
grant_unfinished at node request o h = grind (arith, h, send_unfinished, reply_unfinished, read_here_unfinished)

revoke_unfinished : (at : Place) (o : Moving) → Unfinished o.acts → Unfinished (revoke at o).acts
unfolding keeps reaches revoke
revoke_unfinished at o h = grind (arith, h, send_unfinished, reply_unfinished, send_all_unfinished)

give_unfinished : (at : Place) (o : Moving) → Unfinished o.acts → Unfinished (give at o).acts
unfolding keeps reaches give
give_unfinished at o h = grind (arith, h, send_unfinished, reply_unfinished)

yield_unfinished : (at : Place) (o : Moving) → Unfinished o.acts → Unfinished (yield_record at o).acts
unfolding yield_record
yield_unfinished at o h = grind (arith, h, send_unfinished, reply_unfinished, give_unfinished, revoke_unfinished)

drain_unfinished : (at : Place) (ws : List RecallNote) (o : Moving) → Unfinished o.acts → Unfinished (drain at ws o).acts
unfolding drain keeps end_vacuum
drain_unfinished at [] o h = h
drain_unfinished at (r ∷ rs) o h = grind (arith, h, grant_unfinished, yield_unfinished, drain_unfinished at rs (grant at r.node r.request (end_vacuum o)))

drained_unfinished : (at : Place) (o : Moving) → Unfinished o.acts → Unfinished (drained at o).acts
unfolding drained
drained_unfinished at o h = grind (arith, h, send_unfinished, reply_unfinished, drain_unfinished)

satisfy_unfinished : (at : Place) (rules : Rules) (call : ℕ) (asked : ClientOp) (o : Moving) → Unfinished o.acts → Unfinished (satisfy rules call asked o).acts
unfolding keeps reaches satisfy applies
satisfy_unfinished at rules call asked o h = grind (arith, h, send_unfinished, reply_unfinished)

own_unfinished : (at : Place) (rules : Rules) (o : Moving) (w : Option Wish) → Unfinished o.acts → Unfinished (satisfy_own rules o w).acts
unfolding keeps reaches satisfy_own
own_unfinished at rules o w h = grind (arith, h, send_unfinished, reply_unfinished, satisfy_unfinished)

end_revocation_unfinished : (at : Place) (rules : Rules) (o : Moving) → Unfinished o.acts → Unfinished (end_revocation at rules o).acts
unfolding keeps reaches end_revocation raise
end_revocation_unfinished at rules o h = grind (arith, h, send_unfinished, reply_unfinished, own_unfinished, drained_unfinished)

next_unfinished : (at : Place) (o : Moving) → Unfinished o.acts → Unfinished (next at o).acts
unfolding keeps reaches next next_of
next_unfinished at o h = grind (arith, h, send_unfinished, reply_unfinished)

keep_unfinished : (at : Place) (rsn : ℕ) (value : List ℕ) (o : Moving) → Unfinished o.acts → Unfinished (keep at rsn value o).acts
unfolding keeps reaches keep
keep_unfinished at rsn value o h = grind (arith, h, send_unfinished, reply_unfinished, next_unfinished)

opened_unfinished : (at : Place) (o : Moving) → Unfinished o.acts → Unfinished (opened at o).acts
unfolding keeps reaches opened open_of end_vacuum
opened_unfinished at o h = grind (arith, h, send_unfinished, reply_unfinished)

enqueue_unfinished : (at : Place) (w : Waiter) (o : Moving) (ws : List Waiter) → Unfinished o.acts → Unfinished (enqueue at w o ws).acts
unfolding keeps reaches enqueue
enqueue_unfinished at w o ws h = grind (arith, h, send_unfinished, reply_unfinished, next_unfinished)

pass_again_unfinished : (at : Place) (e : Entry) (o : Moving) → Unfinished o.acts → Unfinished (pass_again at e o).acts
unfolding keeps reaches pass_again
pass_again_unfinished at e o h = grind (arith, h, send_unfinished, reply_unfinished)

call_of_unfinished : (at : Place) (n request : ℕ) (k : CallKind) (o : Moving) (e : Option Entry) → Unfinished o.acts → Unfinished (on_call_of at n request k o e).acts
unfolding on_call_of
call_of_unfinished at n request k o e h = grind (arith, h, send_unfinished, reply_unfinished, pass_again_unfinished, next_unfinished, enqueue_unfinished)

call_unfinished : (at : Place) (n request : ℕ) (k : CallKind) (o : Moving) → Unfinished o.acts → Unfinished (on_call at n request k o).acts
unfolding keeps reaches on_call called end_vacuum
call_unfinished at n request k o h = grind (arith, h, send_unfinished, reply_unfinished, call_of_unfinished, opened_unfinished)

handle_unfinished : (at : Place) (r : RecallNote) (o : Moving) → Unfinished o.acts → Unfinished (handle at r o).acts
unfolding keeps reaches handle end_vacuum
handle_unfinished at r o h = grind (arith, h, send_unfinished, reply_unfinished, grant_unfinished, yield_unfinished)

recall_unfinished : (at : Place) (r : RecallNote) (o : Moving) → Unfinished o.acts → Unfinished (on_recall at r o).acts
unfolding keeps reaches on_recall recalled wait
recall_unfinished at r o h = grind (arith, h, send_unfinished, reply_unfinished, handle_unfinished)

hand_on_unfinished : (at : Place) (rsn : ℕ) (value : List ℕ) (o : Moving) (ws : List Waiter) → Unfinished o.acts → Unfinished (hand_on at rsn value o ws).acts
unfolding keeps reaches hand_on
hand_on_unfinished at rsn value o ws h = grind (arith, h, send_unfinished, reply_unfinished, keep_unfinished, next_unfinished)

on_give_unfinished : (at : Place) (x rsn : ℕ) (value : List ℕ) (o : Moving) → Unfinished o.acts → Unfinished (on_give at x rsn value o).acts
unfolding keeps reaches on_give on_give_of
on_give_unfinished at x rsn value o h = grind (arith, h, send_unfinished, reply_unfinished, hand_on_unfinished)

take_unfinished : (at : Place) (rules : Rules) (rsn : ℕ) (value : List ℕ) (o : Moving) → Unfinished o.acts → Unfinished (accept at rules rsn value o).acts
unfolding keeps reaches accept becomes satisfy_wish
take_unfinished at rules rsn value o h = grind (arith, h, send_unfinished, reply_unfinished, satisfy_unfinished, drained_unfinished)

pass_unfinished : (at : Place) (rules : Rules) (request rsn : ℕ) (value : List ℕ) (o : Moving) → Unfinished o.acts → Unfinished (on_pass at rules request rsn value o).acts
unfolding keeps reaches on_pass refuse
pass_unfinished at rules request rsn value o h = grind (arith, h, send_unfinished, reply_unfinished, take_unfinished)

on_refuse_unfinished : (at : Place) (n request rsn : ℕ) (o : Moving) → Unfinished o.acts → Unfinished (on_refuse at n request rsn o).acts
unfolding keeps reaches on_refuse on_refuse_of
on_refuse_unfinished at n request rsn o h = grind (arith, h, send_unfinished, reply_unfinished, keep_unfinished)

on_grant_unfinished : (at : Place) (n request rsn : ℕ) (value : List ℕ) (o : Moving) → Unfinished o.acts → Unfinished (on_grant at n request rsn value o).acts
unfolding keeps reaches on_grant read_granted
on_grant_unfinished at n request rsn value o h = grind (arith, h, send_unfinished, reply_unfinished)

on_done_unfinished : (at : Place) (n request : ℕ) (o : Moving) → Unfinished o.acts → Unfinished (on_done at n request o).acts
unfolding keeps reaches on_done on_done_of
on_done_unfinished at n request o h = grind (arith, h, send_unfinished, reply_unfinished, next_unfinished)

on_revoke_unfinished : (at : Place) (n rsn : ℕ) (o : Moving) → Unfinished o.acts → Unfinished (on_revoke at n rsn o).acts
unfolding keeps reaches on_revoke renew on_revoke_of acknowledge
on_revoke_unfinished at n rsn o h = grind (arith, h, send_unfinished, reply_unfinished)

on_revokeack_unfinished : (at : Place) (rules : Rules) (n rsn : ℕ) (o : Moving) → Unfinished o.acts → Unfinished (on_revokeack at rules n rsn o).acts
unfolding keeps reaches on_revokeack acknowledged
on_revokeack_unfinished at rules n rsn o h = grind (arith, h, send_unfinished, reply_unfinished, end_revocation_unfinished)

on_vstore_unfinished : (at : Place) (n rsn : ℕ) (o : Moving) → Unfinished o.acts → Unfinished (on_vstore at n rsn o).acts
unfolding keeps reaches on_vstore
on_vstore_unfinished at n rsn o h = grind (arith, h, send_unfinished, reply_unfinished)

on_vdelete_unfinished : (at : Place) (n rsn : ℕ) (o : Moving) → Unfinished o.acts → Unfinished (on_vdelete at n rsn o).acts
unfolding keeps reaches on_vdelete
on_vdelete_unfinished at n rsn o h = grind (arith, h, send_unfinished, reply_unfinished)

on_vstored_unfinished : (at : Place) (n rsn : ℕ) (o : Moving) → Unfinished o.acts → Unfinished (on_vstored at n rsn o).acts
unfolding keeps reaches on_vstored on_vstored_of
on_vstored_unfinished at n rsn o h = grind (arith, h, send_unfinished, reply_unfinished, send_all_unfinished)

call_for_unfinished : (at : Place) (call : ℕ) (asked : ClientOp) (o : Moving) → Unfinished o.acts → Unfinished (call_for at call asked o).acts
unfolding keeps reaches call_for
call_for_unfinished at call asked o h = grind (arith, h, send_unfinished, reply_unfinished)

wait_unfinished : (at : Place) (call : ℕ) (asked : ClientOp) (o : Moving) → Unfinished o.acts → Unfinished (wait_for_copies at call asked o).acts
unfolding keeps reaches wait_for_copies
wait_unfinished at call asked o h = grind (arith, h, send_unfinished, reply_unfinished, revoke_unfinished)

want_of_unfinished : (at : Place) (rules : Rules) (call : ℕ) (asked : ClientOp) (o : Moving) → Unfinished o.acts → Unfinished (want_of at rules call asked o).acts
unfolding keeps reaches want_of
want_of_unfinished at rules call asked o h = grind (arith, h, send_unfinished, reply_unfinished, satisfy_unfinished, wait_unfinished, call_for_unfinished)

pub want_unfinished : (at : Place) (rules : Rules) (call : ℕ) (asked : ClientOp) (o : Moving) → Unfinished o.acts → Unfinished (want at rules call asked o).acts
unfolding keeps reaches want opened_at_home end_vacuum
want_unfinished at rules call asked o h = grind (arith, h, send_unfinished, reply_unfinished, want_of_unfinished, opened_unfinished)

pub store_unfinished : (at : Place) (call : ℕ) (v : List ℕ) (o : Moving) → Unfinished o.acts → Unfinished (store call v o).acts
unfolding keeps reaches store
store_unfinished at call v o h = grind (arith, h, send_unfinished, reply_unfinished)

pub release_unfinished : (at : Place) (call : ℕ) (o : Moving) → Unfinished o.acts → Unfinished (release call o).acts
unfolding keeps reaches release
release_unfinished at call o h = grind (arith, h, send_unfinished, reply_unfinished)

pub unlock_unfinished : (at : Place) (call : ℕ) (o : Moving) → Unfinished o.acts → Unfinished (unlock at call o).acts
unfolding keeps reaches unlock
unlock_unfinished at call o h = grind (arith, h, send_unfinished, reply_unfinished, drained_unfinished, release_unfinished)

pub call_again_unfinished : (at : Place) (o : Moving) → Unfinished o.acts → Unfinished (call_again at o).acts
unfolding keeps reaches call_again call_again_of
call_again_unfinished at o h = grind (arith, h, send_unfinished, reply_unfinished)

pub revoke_again_unfinished : (at : Place) (o : Moving) → Unfinished o.acts → Unfinished (revoke_again at o).acts
unfolding keeps reaches revoke_again revoke_again_of
revoke_again_unfinished at o h = grind (arith, h, send_unfinished, reply_unfinished, send_all_unfinished)

want_again_of_unfinished : (at : Place) (rules : Rules) (o : Moving) (w : Option Wish) → Unfinished o.acts → Unfinished (want_again_of at rules o w).acts
unfolding want_again_of keeps
want_again_of_unfinished at rules o None h = h
want_again_of_unfinished at rules o (Some w) h = want_unfinished at rules w.call w.op (keeps (record o.state { wish = None }) o) h

pub want_again_unfinished : (rules : Rules) (at : Place) (o : Moving) → Unfinished o.acts → Unfinished (want_again rules at o).acts
unfolding want_again
want_again_unfinished rules at o h = want_again_of_unfinished at rules o o.state.wish h

home_unfinished : (at : Place) (o p : Moving) → Unfinished o.acts → Unfinished p.acts → Unfinished (at_home at p o).acts
unfolding at_home
home_unfinished at o p h f = grind (arith, h, f)

from_unfinished : (at : Place) (n : ℕ) (o p : Moving) → Unfinished o.acts → Unfinished p.acts → Unfinished (from_home at n p o).acts
unfolding from_home
from_unfinished at n o p h f = grind (arith, h, f)

-- ---- a rule that may remove the record

-- it removed nothing, or it is the location master's and left no entry
abbrev pub Finishes : Place → Moving → Type 0
Finishes at p = Unfinished p.acts ⊎ (at.me ≡ at.lmaster) × (p.state.entry ≡ None)

finish_finishes : (at : Place) (rsn : ℕ) (o : Moving) → at.me ≡ at.lmaster → Finishes at (finish rsn o)
unfolding finish performs reaches
finish_finishes at rsn o e = inr (e, refl)

begin_finishes : (at : Place) (o : Moving) (ns : List ℕ) → at.me ≡ at.lmaster → Unfinished o.acts → Finishes at (begin_vacuum at o ns)
unfolding begin_vacuum keeps reaches
begin_finishes at o [] e h = finish_finishes at _ o e
begin_finishes at o (n ∷ ns) e h = inl (send_all_unfinished (n ∷ ns) _ _ h)

home_finishes : (at : Place) (ns : List ℕ) (o : Moving) (v : Option Vacuuming) → at.me ≡ at.lmaster → Unfinished o.acts → Finishes at (vacuum_at_home at ns o v)
unfolding vacuum_at_home
home_finishes at ns o None e h = begin_finishes at o ns e h
home_finishes at ns o (Some v) e h = inl (send_all_unfinished v.missing _ o h)

pub vacuum_finishes : (at : Place) (ns : List ℕ) (o : Moving) → Unfinished o.acts → Finishes at (vacuum at ns o)
unfolding vacuum
vacuum_finishes at ns o h = cond_both (is_vacuumed at.me o.state) _ o (λ (p : Moving). Finishes at p)
    (λ _. cond_both (nat_eq at.me at.lmaster) (vacuum_at_home at ns o o.state.vacuum) (give at o) (λ (p : Moving). Finishes at p)
    (λ t. home_finishes at ns o o.state.vacuum (eqb-true at.me at.lmaster t) h) (λ _. inl (give_unfinished at o h)))
    (λ _. inl h)

deleted_finishes : (at : Place) (n rsn : ℕ) (o : Moving) (v : Option Vacuuming) → at.me ≡ at.lmaster → Unfinished o.acts → Finishes at (on_vdeleted_of n rsn o v)
unfolding on_vdeleted_of keeps
deleted_finishes at n rsn o None e h = inl h
deleted_finishes at n rsn o (Some v) e h = cond_both (ends_phase Deleting n rsn v) (finish rsn o) _ (λ (p : Moving). Finishes at p) (λ _. finish_finishes at rsn o e) (λ _. inl h)

pub arrive_finishes : (at : Place) (rules : Rules) (n : ℕ) (m : Msg) (o : Moving) → Unfinished o.acts → Finishes at (arrive at rules n m o)
unfolding arrive at_home on_vdeleted
arrive_finishes at rules n (msg.Call db key request k) o h = inl (home_unfinished at o _ h (call_unfinished at n request k o h))
arrive_finishes at rules n (msg.Recall db key least node request k) o h = inl (from_unfinished at n o _ h (recall_unfinished at (record { least = least; node = node; request = request; kind = k }) o h))
arrive_finishes at rules n (msg.Give db key rsn value) o h = inl (home_unfinished at o _ h (on_give_unfinished at n rsn value o h))
arrive_finishes at rules n (msg.Pass db key request rsn value) o h = inl (from_unfinished at n o _ h (pass_unfinished at rules request rsn value o h))
arrive_finishes at rules n (msg.Refuse db key request rsn) o h = inl (home_unfinished at o _ h (on_refuse_unfinished at n request rsn o h))
arrive_finishes at rules n (msg.Grant db key request rsn value) o h = inl (on_grant_unfinished at n request rsn value o h)
arrive_finishes at rules n (msg.Done db key node request) o h = inl (home_unfinished at o _ h (on_done_unfinished at node request o h))
arrive_finishes at rules n (msg.Revoke db key rsn) o h = inl (on_revoke_unfinished at n rsn o h)
arrive_finishes at rules n (msg.RevokeAck db key rsn) o h = inl (on_revokeack_unfinished at rules n rsn o h)
arrive_finishes at rules n (msg.VStore db key rsn) o h = inl (from_unfinished at n o _ h (on_vstore_unfinished at n rsn o h))
arrive_finishes at rules n (msg.VStored db key rsn) o h = inl (home_unfinished at o _ h (on_vstored_unfinished at n rsn o h))
arrive_finishes at rules n (msg.VDelete db key rsn) o h = inl (from_unfinished at n o _ h (on_vdelete_unfinished at n rsn o h))
arrive_finishes at rules n (msg.VDeleted db key rsn) o h = cond_both (nat_eq at.me at.lmaster) (on_vdeleted_of n rsn o o.state.vacuum) o (λ (p : Moving). Finishes at p)
    (λ t. deleted_finishes at n rsn o o.state.vacuum (eqb-true at.me at.lmaster t) h) (λ _. inl h)
arrive_finishes at rules n _ o h = inl h
