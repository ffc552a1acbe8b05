-- The next request number where a call wants its record anew: it stays below 2^62, or the step is spent.
use Rattle.std.proofs.Common.{◌≡◌, ℕ, ◌+◌, ◌<◌, ◌^◌, Bool, true, false, cond, ◌||◌, ◌&&◌, List, Option, None, Some, Result, Ok, Err, refl, sym, subst, arith}
use Rattle.std.specs.Prelude.{nat_eq, nat_le, is_none}
use Rattle.std.proofs.lemmas.Bool.Decides.{nat_tests}
use Rattle.ct_values.specs.Words.{is_nil}
use Rattle.ct_call.specs.Rules.{Rules}
use Rattle.ct_call.specs.Table.{applied}
use Rattle.ct_call.specs.declared.fault.CallFault.{CallFault}
use Rattle.ct_call.specs.declared.fault.CallFault.TheVariants as fault
use Rattle.ct_frame.specs.declared.frame.Msg.TheVariants as msg
use Rattle.ct_values.specs.declared.client.Answer.TheVariants as answer
use Rattle.ct_values.specs.Client.{is_read}
use Rattle.ct_values.specs.declared.client.ClientOp.{ClientOp}
use Rattle.ct_values.specs.declared.client.ClientOp.TheVariants as op
use Rattle.ct_rules.specs.Parts.{Moving, applies, call_for, end_vacuum, keeps, open_of, opened, opened_at_home, performs, reaches, reply, revoke, satisfy, send, wait_for_copies, want, want_of}
use Rattle.ct_rules.specs.State.{is_for_reading, is_mastered, is_quiet, rsn_of, value_of}
use Rattle.ct_rules.specs.declared.event.Place.{Place}
use Rattle.ct_rules.specs.declared.state.Entry.{Entry}
use Rattle.ct_rules.specs.declared.state.Wish.{Wish}
use Rattle.ct_law_rules.proofs.Formed.{send_all_rest}
use Rattle.ct_rules_node.specs.Rounds.{want_again, want_again_of}

-- a number of the step reached 2^62, or the next request number is below it
abbrev pub IsLow : Moving → Type 0
IsLow o = o.spent ≡ false → o.next < 2 ^ 62

low_either : (b : Bool) (o p : Moving) → IsLow o → IsLow p → IsLow (cond b o p)
low_either true o p x y = x
low_either false o p x y = y

not_reached : (b : Bool) (n : ℕ) → (b || nat_le (2 ^ 62) n) ≡ false → n < 2 ^ 62
not_reached true n e = absurd (cc)
not_reached false n e = grind (arith, nat_tests)

reply_low : (rules : Rules) (call : ℕ) (o : Moving) → o.next < 2 ^ 62 → IsLow (reply call (answer.Read (value_of o.state.copy)) o)
unfolding reply performs
reply_low rules call o l e = l

applies_low : (call : ℕ) (o : Moving) (r : Result (List ℕ) CallFault) → o.next < 2 ^ 62 → IsLow (applies call o r)
unfolding applies reply performs keeps
applies_low call o (Ok v) l e = l
applies_low call o (Err (fault.TooLong n)) l e = l
applies_low call o (Err fault.NoSuchCall) l e = l
applies_low call o (Err fault.NoMemory) l e = l

satisfy_low : (rules : Rules) (call : ℕ) (asked : ClientOp) (o : Moving) → o.next < 2 ^ 62 → IsLow (satisfy rules call asked o)
unfolding satisfy reply performs keeps
satisfy_low rules call (op.Lock db key) o l e = l
satisfy_low rules call (op.Read db key) o l e = l
satisfy_low rules call (op.Write db key v) o l e = l
satisfy_low rules call (op.Apply db key f arg) o l e = applies_low call o (applied f (value_of o.state.copy) arg rules) l e
satisfy_low rules call (op.Store db key v) o l e = l
satisfy_low rules call (op.Unlock db key) o l e = l
satisfy_low rules call (op.Commit db writes) o l e = l

revoke_low : (at : Place) (o : Moving) → o.next < 2 ^ 62 → IsLow (revoke at o)
unfolding revoke keeps
revoke_low at o l e = subst (λ (n : ℕ). n < 2 ^ 62) (sym (send_all_rest o.state.tracking.tracked (msg.Revoke at.db at.key (rsn_of o.state.copy)) _).1) l

wait_low : (at : Place) (call : ℕ) (asked : ClientOp) (o : Moving) → o.next < 2 ^ 62 → IsLow (wait_for_copies at call asked o)
unfolding wait_for_copies keeps
wait_low at call asked o l = low_either (is_quiet o.state.tracking) (revoke at waits) waits (revoke_low at waits l) (λ e. l)
  where
    waits : Moving
    waits = record o { state = record o.state { wish = Some (record { call = call; request = 0; op = asked }) } }

call_low : (at : Place) (call : ℕ) (asked : ClientOp) (o : Moving) → IsLow (call_for at call asked o)
unfolding call_for send performs reaches
call_low at call asked o e = not_reached o.spent (o.next + 1) e

want_of_low : (at : Place) (rules : Rules) (call : ℕ) (asked : ClientOp) (o : Moving) → o.next < 2 ^ 62 → IsLow (want_of at rules call asked o)
unfolding want_of
want_of_low at rules call asked o l =
    low_either (is_read asked && (is_mastered at.me o.state.copy || is_for_reading o.state.copy)) _ _ (reply_low rules call o l)
    (low_either (is_mastered at.me o.state.copy) _ _ (low_either (is_nil o.state.tracking.tracked) _ _ (satisfy_low rules call asked o l) (wait_low at call asked o l)) (call_low at call asked o))

open_next : (at : Place) (o : Moving) (x : Option Entry) → (open_of at o x).next ≡ o.next
unfolding open_of keeps
open_next at o None = refl
open_next at o (Some x) = refl

home_next : (at : Place) (o : Moving) → (opened_at_home at o).next ≡ o.next
unfolding opened_at_home end_vacuum opened keeps
home_next at o = by (nat_eq at.me at.lmaster && is_none o.state.locked)
  where
    by : (b : Bool) → (cond b (end_vacuum (opened at o)) o).next ≡ o.next
    by true = open_next at o o.state.entry
    by false = refl

want_low : (at : Place) (rules : Rules) (call : ℕ) (asked : ClientOp) (o : Moving) → o.next < 2 ^ 62 → IsLow (want at rules call asked o)
unfolding want
want_low at rules call asked o l = want_of_low at rules call asked (opened_at_home at o) (subst (λ (n : ℕ). n < 2 ^ 62) (sym (home_next at o)) l)

again_of_low : (rules : Rules) (at : Place) (o : Moving) (w : Option Wish) → o.next < 2 ^ 62 → IsLow (want_again_of at rules o w)
unfolding want_again_of keeps
again_of_low rules at o None l e = l
again_of_low rules at o (Some w) l e = want_low at rules w.call w.op (record o { state = record o.state { wish = None } }) l e

pub again_low : (rules : Rules) (at : Place) (o : Moving) → o.next < 2 ^ 62 → IsLow (want_again rules at o)
unfolding want_again
again_low rules at o l = again_of_low rules at o o.state.wish l
