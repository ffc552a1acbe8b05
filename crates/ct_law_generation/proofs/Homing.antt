-- Only the location master of a record has an entry of it: so its rules leave it.
use Rattle.std.proofs.Common.{◌≡◌, ◌≢◌, ℕ, List, [], ◌∷◌, Option, Some, None, ap, ◌∙◌, arith}
use Rattle.std.specs.Prelude.{nat_eq, is_none, ◌&&◌}
use Rattle.std.proofs.lemmas.Bool.{cond_both, and_parts, eqb-true}
use Rattle.ct_call.specs.Rules.{Rules}
use Rattle.ct_frame.specs.declared.frame.Msg.{Msg}
use Rattle.ct_frame.specs.declared.frame.Msg.TheVariants as msg
use Rattle.ct_values.specs.declared.client.ClientOp.{ClientOp}
use Rattle.ct_rules.specs.Parts.{Moving, performs, send, send_all, reply, keeps, reaches, end_vacuum, give, applies, satisfy, revoke, read_here, delegate, grant, yield_record, drain, drained, satisfy_own, raise, end_revocation, call_for, wait_for_copies, want_of, opened_at_home, want}
use Rattle.ct_rules.specs.Messages.{wait, handle, recalled, on_recall, satisfy_wish, becomes, accept, refuse, on_pass, read_granted, on_grant, acknowledge, renew, on_revoke_of, on_revoke, acknowledged, on_revokeack, on_vstore, on_vdelete}
use Rattle.ct_rules.specs.declared.event.Place.{Place}
use Rattle.ct_rules.specs.declared.state.RecallNote.{RecallNote}
use Rattle.ct_rules.specs.declared.state.RecState.{RecState}
use Rattle.ct_rules.specs.declared.state.Wish.{Wish}
use Rattle.ct_rules.specs.Moves.{is_vacuumed, store, release, unlock, vacuum_at_home, vacuum, call_again_of, call_again, revoke_again_of, revoke_again, at_home, from_home, arrive}
use Rattle.ct_rules_node.specs.Rounds.{want_again_of, want_again}
use Rattle.ct_law_wishes.proofs.Wishing.{send_all_same}

-- ---- a rule that does not look at the entry

send_all_away : (ns : List ℕ) (m : Msg) (o : Moving) → o.state.entry ≡ None → (send_all ns m o).state.entry ≡ None
send_all_away ns m o h = ap (λ (s : RecState). s.entry) (send_all_same ns m o) ∙ h

read_here_away : (at : Place) (request : ℕ) (o : Moving) (w : Option Wish) → o.state.entry ≡ None → (read_here at request o w).state.entry ≡ None
unfolding send performs reply keeps reaches read_here
read_here_away at request o w h = grind (arith, h)

grant_away : (at : Place) (node request : ℕ) (o : Moving) → o.state.entry ≡ None → (grant at node request o).state.entry ≡ None
unfolding send performs keeps grant delegate
grant_away at node request o h = grind (arith, h, read_here_away)

revoke_away : (at : Place) (o : Moving) → o.state.entry ≡ None → (revoke at o).state.entry ≡ None
unfolding keeps revoke
revoke_away at o h = grind (arith, h, send_all_away)

give_away : (at : Place) (o : Moving) → o.state.entry ≡ None → (give at o).state.entry ≡ None
unfolding send performs keeps give
give_away at o h = grind (arith, h)

yield_away : (at : Place) (o : Moving) → o.state.entry ≡ None → (yield_record at o).state.entry ≡ None
unfolding yield_record
yield_away at o h = grind (arith, h, give_away, revoke_away)

drain_away : (at : Place) (ws : List RecallNote) (o : Moving) → o.state.entry ≡ None → (drain at ws o).state.entry ≡ None
unfolding drain keeps end_vacuum
drain_away at [] o h = h
drain_away at (r ∷ rs) o h = grind (arith, h, grant_away, yield_away, drain_away at rs (grant at r.node r.request (end_vacuum o)))

drained_away : (at : Place) (o : Moving) → o.state.entry ≡ None → (drained at o).state.entry ≡ None
unfolding drained
drained_away at o h = grind (arith, h, drain_away)

satisfied_away : (rules : Rules) (call : ℕ) (asked : ClientOp) (o : Moving) → o.state.entry ≡ None → (satisfy rules call asked o).state.entry ≡ None
unfolding performs reply keeps satisfy applies
satisfied_away rules call asked o h = grind (arith, h)

own_away : (rules : Rules) (o : Moving) (w : Option Wish) → o.state.entry ≡ None → (satisfy_own rules o w).state.entry ≡ None
unfolding keeps satisfy_own
own_away rules o w h = grind (arith, h, satisfied_away)

end_revocation_away : (at : Place) (rules : Rules) (o : Moving) → o.state.entry ≡ None → (end_revocation at rules o).state.entry ≡ None
unfolding keeps reaches end_revocation raise
end_revocation_away at rules o h = grind (arith, h, own_away, drained_away)

handle_away : (at : Place) (r : RecallNote) (o : Moving) → o.state.entry ≡ None → (handle at r o).state.entry ≡ None
unfolding keeps handle end_vacuum
handle_away at r o h = grind (arith, h, grant_away, yield_away)

recall_away : (at : Place) (r : RecallNote) (o : Moving) → o.state.entry ≡ None → (on_recall at r o).state.entry ≡ None
unfolding send performs keeps on_recall recalled wait
recall_away at r o h = grind (arith, h, handle_away)

take_away : (at : Place) (rules : Rules) (rsn : ℕ) (value : List ℕ) (o : Moving) → o.state.entry ≡ None → (accept at rules rsn value o).state.entry ≡ None
unfolding keeps reaches accept becomes satisfy_wish
take_away at rules rsn value o h = grind (arith, h, satisfied_away, drained_away)

pass_away : (at : Place) (rules : Rules) (request rsn : ℕ) (value : List ℕ) (o : Moving) → o.state.entry ≡ None → (on_pass at rules request rsn value o).state.entry ≡ None
unfolding send performs keeps on_pass refuse
pass_away at rules request rsn value o h = grind (arith, h, take_away)

on_grant_away : (at : Place) (n request rsn : ℕ) (value : List ℕ) (o : Moving) → o.state.entry ≡ None → (on_grant at n request rsn value o).state.entry ≡ None
unfolding send performs reply keeps reaches on_grant read_granted
on_grant_away at n request rsn value o h = grind (arith, h)

on_revoke_of_away : (at : Place) (n rsn : ℕ) (o : Moving) (w : Option Wish) → o.state.entry ≡ None → (on_revoke_of at n rsn o w).state.entry ≡ None
unfolding send performs keeps reaches renew on_revoke_of acknowledge
on_revoke_of_away at n rsn o None h = h
on_revoke_of_away at n rsn o (Some w) h = grind (arith, h)

on_revoke_away : (at : Place) (n rsn : ℕ) (o : Moving) → o.state.entry ≡ None → (on_revoke at n rsn o).state.entry ≡ None
unfolding on_revoke
on_revoke_away at n rsn o h = on_revoke_of_away at n rsn o o.state.wish h

on_revokeack_away : (at : Place) (rules : Rules) (n rsn : ℕ) (o : Moving) → o.state.entry ≡ None → (on_revokeack at rules n rsn o).state.entry ≡ None
unfolding keeps on_revokeack acknowledged
on_revokeack_away at rules n rsn o h = grind (arith, h, end_revocation_away)

on_vstore_away : (at : Place) (n rsn : ℕ) (o : Moving) → o.state.entry ≡ None → (on_vstore at n rsn o).state.entry ≡ None
unfolding send performs keeps on_vstore
on_vstore_away at n rsn o h = grind (arith, h)

on_vdelete_away : (at : Place) (n rsn : ℕ) (o : Moving) → o.state.entry ≡ None → (on_vdelete at n rsn o).state.entry ≡ None
unfolding send performs keeps on_vdelete
on_vdelete_away at n rsn o h = grind (arith, h)

call_for_away : (at : Place) (call : ℕ) (asked : ClientOp) (o : Moving) → o.state.entry ≡ None → (call_for at call asked o).state.entry ≡ None
unfolding send performs reply keeps reaches call_for
call_for_away at call asked o h = grind (arith, h)

wait_away : (at : Place) (call : ℕ) (asked : ClientOp) (o : Moving) → o.state.entry ≡ None → (wait_for_copies at call asked o).state.entry ≡ None
unfolding keeps wait_for_copies
wait_away at call asked o h = grind (arith, h, revoke_away)

want_of_away : (at : Place) (rules : Rules) (call : ℕ) (asked : ClientOp) (o : Moving) → o.state.entry ≡ None → (want_of at rules call asked o).state.entry ≡ None
unfolding reply performs want_of
want_of_away at rules call asked o h = grind (arith, h, satisfied_away, wait_away at call asked o h, call_for_away at call asked o h)

pub store_away : (call : ℕ) (v : List ℕ) (o : Moving) → o.state.entry ≡ None → (store call v o).state.entry ≡ None
unfolding reply performs keeps store
store_away call v o h = grind (arith, h)

pub release_away : (call : ℕ) (o : Moving) → o.state.entry ≡ None → (release call o).state.entry ≡ None
unfolding reply performs keeps release
release_away call o h = grind (arith, h)

pub unlock_away : (at : Place) (call : ℕ) (o : Moving) → o.state.entry ≡ None → (unlock at call o).state.entry ≡ None
unfolding unlock
unlock_away at call o h = grind (arith, h, drained_away, release_away)

pub call_again_away : (at : Place) (o : Moving) → o.state.entry ≡ None → (call_again at o).state.entry ≡ None
unfolding send performs call_again call_again_of
call_again_away at o h = grind (arith, h)

pub revoke_again_away : (at : Place) (o : Moving) → o.state.entry ≡ None → (revoke_again at o).state.entry ≡ None
unfolding revoke_again revoke_again_of
revoke_again_away at o h = grind (arith, h, send_all_away)

-- ---- every rule, at a node that is not the location master

-- who is not the location master makes no entry
abbrev pub LeavesNone : (Place → Moving → Moving) → Type 0
LeavesNone part = (at : Place) (o : Moving) → at.me ≢ at.lmaster → o.state.entry ≡ None → (part at o).state.entry ≡ None

-- what only a location master does
home_away : (at : Place) (done o : Moving) → at.me ≢ at.lmaster → o.state.entry ≡ None → (at_home at done o).state.entry ≡ None
unfolding at_home
home_away at done o ne h = cond_both (nat_eq at.me at.lmaster) done o (λ (p : Moving). p.state.entry ≡ None) (λ t. absurd (ne (eqb-true at.me at.lmaster t))) (λ _. h)

from_away : (at : Place) (n : ℕ) (o p : Moving) → o.state.entry ≡ None → p.state.entry ≡ None → (from_home at n p o).state.entry ≡ None
unfolding from_home
from_away at n o p h f = grind (arith, h, f)

opened_away : (at : Place) (o : Moving) → at.me ≢ at.lmaster → o.state.entry ≡ None → (opened_at_home at o).state.entry ≡ None
unfolding opened_at_home
opened_away at o ne h = cond_both (nat_eq at.me at.lmaster && is_none o.state.locked) _ o (λ (p : Moving). p.state.entry ≡ None)
    (λ t. absurd (ne (eqb-true at.me at.lmaster (and_parts (nat_eq at.me at.lmaster) (is_none o.state.locked) t).0))) (λ _. h)

pub want_away : (rules : Rules) (call : ℕ) (asked : ClientOp) → LeavesNone (λ at o. want at rules call asked o)
unfolding want
want_away rules call asked at o ne h = want_of_away at rules call asked (opened_at_home at o) (opened_away at o ne h)

want_again_of_away : (at : Place) (rules : Rules) (o : Moving) (w : Option Wish) → at.me ≢ at.lmaster → o.state.entry ≡ None → (want_again_of at rules o w).state.entry ≡ None
unfolding want_again_of keeps
want_again_of_away at rules o None ne h = h
want_again_of_away at rules o (Some w) ne h = want_away rules w.call w.op at (keeps (record o.state { wish = None }) o) ne h

pub want_again_away : (rules : Rules) → LeavesNone (want_again rules)
unfolding want_again
want_again_away rules at o ne h = want_again_of_away at rules o o.state.wish ne h

pub vacuum_away : (ns : List ℕ) → LeavesNone (λ at o. vacuum at ns o)
unfolding vacuum
vacuum_away ns at o ne h = cond_both (is_vacuumed at.me o.state) _ o (λ (p : Moving). p.state.entry ≡ None)
    (λ _. cond_both (nat_eq at.me at.lmaster) (vacuum_at_home at ns o o.state.vacuum) (give at o) (λ (p : Moving). p.state.entry ≡ None) (λ t. absurd (ne (eqb-true at.me at.lmaster t))) (λ _. give_away at o h))
    (λ _. h)

pub arrive_away : (rules : Rules) (n : ℕ) (m : Msg) → LeavesNone (λ at o. arrive at rules n m o)
unfolding arrive
arrive_away rules n (msg.Call db key request k) at o ne h = home_away at _ o ne h
arrive_away rules n (msg.Recall db key least node request k) at o ne h = from_away at n o _ h (recall_away at (record { least = least; node = node; request = request; kind = k }) o h)
arrive_away rules n (msg.Give db key rsn value) at o ne h = home_away at _ o ne h
arrive_away rules n (msg.Pass db key request rsn value) at o ne h = from_away at n o _ h (pass_away at rules request rsn value o h)
arrive_away rules n (msg.Refuse db key request rsn) at o ne h = home_away at _ o ne h
arrive_away rules n (msg.Grant db key request rsn value) at o ne h = on_grant_away at n request rsn value o h
arrive_away rules n (msg.Done db key node request) at o ne h = home_away at _ o ne h
arrive_away rules n (msg.Revoke db key rsn) at o ne h = on_revoke_away at n rsn o h
arrive_away rules n (msg.RevokeAck db key rsn) at o ne h = on_revokeack_away at rules n rsn o h
arrive_away rules n (msg.VStore db key rsn) at o ne h = from_away at n o _ h (on_vstore_away at n rsn o h)
arrive_away rules n (msg.VStored db key rsn) at o ne h = home_away at _ o ne h
arrive_away rules n (msg.VDelete db key rsn) at o ne h = from_away at n o _ h (on_vdelete_away at n rsn o h)
arrive_away rules n (msg.VDeleted db key rsn) at o ne h = home_away at _ o ne h
arrive_away rules n _ at o ne h = h
