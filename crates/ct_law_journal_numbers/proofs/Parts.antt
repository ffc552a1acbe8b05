-- The parts of the rules of one record, under other numbers of calls.
use Rattle.std.proofs.Common.{◌≡◌, ℕ, ◌+◌, ◌==◌, Bool, true, false, cond, ◌&&◌, ◌||◌, List, [], ◌∷◌, map, Option, Some, None, refl, sym, ap, ◌∙◌}
use Rattle.std.proofs.lemmas.List.{map-append}
use Rattle.std.specs.Prelude.{nat_eq, is_none, Result, Ok, Err}
use Rattle.ct_values.specs.Words.{is_nil}
use Rattle.ct_values.specs.Client.{is_read}
use Rattle.ct_values.specs.declared.client.Answer.{Answer}
use Rattle.ct_values.specs.declared.client.Answer.TheVariants as answer
use Rattle.ct_values.specs.declared.client.ClientOp.{ClientOp}
use Rattle.ct_values.specs.declared.client.ClientOp.TheVariants as op
use Rattle.ct_values.specs.declared.client.Why.TheVariants as why
use Rattle.ct_frame.specs.Header.{being_revoked, delegated, plain}
use Rattle.ct_frame.specs.declared.frame.CallKind.TheVariants as kind
use Rattle.ct_frame.specs.declared.frame.Msg.{Msg}
use Rattle.ct_frame.specs.declared.frame.Msg.TheVariants as msg
use Rattle.ct_call.specs.Rules.{Rules}
use Rattle.ct_call.specs.Table.{applied}
use Rattle.ct_call.specs.declared.fault.CallFault.{CallFault}
use Rattle.ct_call.specs.declared.fault.CallFault.TheVariants as fault
use Rattle.ct_tracking.specs.Tracked.{added, revocation_begun}
use Rattle.ct_rules.specs.State.{a_copy, rsn_of, value_of, with_value, with_flags, given, is_free, kind_of, is_blank, is_wished, is_read_kind, is_quiet, is_mastered, is_for_reading}
use Rattle.ct_rules.specs.Parts.{Moving, performs, send, send_all, reply, keeps, reaches, open_of, opened, end_vacuum, applies, satisfy, revoke, give, read_here, delegate, grant, yield_record, drain, drained, satisfy_own, raise, end_revocation, next_of, next, keep, call_for, wait_for_copies, want_of, opened_at_home, want}
use Rattle.ct_rules.specs.declared.event.Act.{Act}
use Rattle.ct_rules.specs.declared.event.Act.TheVariants as act
use Rattle.ct_rules.specs.declared.event.Place.{Place}
use Rattle.ct_rules.specs.declared.state.Entry.{Entry}
use Rattle.ct_rules.specs.declared.state.RecallNote.{RecallNote}
use Rattle.ct_rules.specs.declared.state.RecState.{RecState}
use Rattle.ct_rules.specs.declared.state.Waiter.{Waiter}
use Rattle.ct_rules.specs.declared.state.Wish.{Wish}
use Rattle.ct_journal.specs.Schedules.{answer_under, why_under}
use Rattle.ct_law_journal_numbers.specs.Renumbered.{lock_under, wish_under, state_under}

-- what the rule of a record does, with other numbers of calls
unfoldable pub act_under : (ℕ → ℕ) → Act → Act
act_under number (act.Answer call a) = act.Answer (number call) (answer_under number a)
act_under number a = a

-- the middle of a step of one record, with other numbers of calls
unfoldable pub moving_under : (ℕ → ℕ) → Moving → Moving
moving_under number o = record o { state = state_under number o.state; acts = map (act_under number) o.acts }

module _ (number : ℕ → ℕ) where
  -- ---- tests

  pub lock_none : (l : Option ℕ) → is_none (lock_under number l) ≡ is_none l
  unfolding lock_under
  lock_none None = refl
  lock_none (Some call) = refl

  pub wish_none : (w : Option Wish) → is_none (wish_under number w) ≡ is_none w
  unfolding wish_under
  wish_none None = refl
  wish_none (Some w) = refl

  pub free_under : (me : ℕ) (s : RecState) → is_free me (state_under number s) ≡ is_free me s
  unfolding is_free state_under
  free_under me s = rw (lock_none s.locked)

  pub blank_under : (s : RecState) → is_blank (state_under number s) ≡ is_blank s
  unfolding state_under
  blank_under s = rw (lock_none s.locked, wish_none s.wish)

  -- the same is done in either case
  pub either_under : {b' : Bool} {x' y' : Moving} (b : Bool) (x y : Moving) → b' ≡ b → x' ≡ moving_under number x → y' ≡ moving_under number y → cond b' x' y' ≡ moving_under number (cond b x y)
  either_under {b'} {x'} {y'} b x y e f g = ap (λ (t : Bool). cond t x' y') e ∙ by b
    where
      by : (t : Bool) → cond t x' y' ≡ moving_under number (cond t x y)
      by true = f
      by false = g

  -- nothing is done
  pub unchanged : (o : Moving) → moving_under number o ≡ moving_under number o
  unchanged o = refl

  -- ---- what is done

  performs_under : (a : Act) (o : Moving) → performs (act_under number a) (moving_under number o) ≡ moving_under number (performs a o)
  unfolding performs moving_under
  performs_under a o = ap (λ (xs : List Act). record (moving_under number o) { acts = xs }) (sym (map-append (act_under number) o.acts (a ∷ [])))

  pub send_under : (receiver : ℕ) (m : Msg) (o : Moving) → send receiver m (moving_under number o) ≡ moving_under number (send receiver m o)
  unfolding send act_under
  send_under receiver m o = performs_under (act.Send receiver m) o

  pub finished_under : (floor : ℕ) (o : Moving) → performs (act.Finished floor) (moving_under number o) ≡ moving_under number (performs (act.Finished floor) o)
  unfolding act_under
  finished_under floor o = performs_under (act.Finished floor) o

  pub send_all_under : (ns : List ℕ) (m : Msg) (o : Moving) → send_all ns m (moving_under number o) ≡ moving_under number (send_all ns m o)
  unfolding send_all
  send_all_under [] m o = refl
  send_all_under (n ∷ ns) m o = ap (send_all ns m) (send_under n m o) ∙ send_all_under ns m (send n m o)

  pub reply_under : (call : ℕ) (a : Answer) (o : Moving) → reply (number call) (answer_under number a) (moving_under number o) ≡ moving_under number (reply call a o)
  unfolding reply act_under
  reply_under call a o = performs_under (act.Answer call a) o

  -- ---- the record is made

  open_of_under : (at : Place) (o : Moving) (e : Option Entry) → open_of at (moving_under number o) e ≡ moving_under number (open_of at o e)
  unfolding open_of keeps moving_under state_under
  open_of_under at o None = refl
  open_of_under at o (Some e) = refl

  pub opened_under : (at : Place) (o : Moving) → opened at (moving_under number o) ≡ moving_under number (opened at o)
  unfolding opened moving_under state_under
  opened_under at o = open_of_under at o o.state.entry

  pub end_vacuum_under : (o : Moving) → end_vacuum (moving_under number o) ≡ moving_under number (end_vacuum o)
  unfolding end_vacuum keeps moving_under state_under
  end_vacuum_under o = refl

  -- ---- a wish is satisfied

  applies_under : (call : ℕ) (o : Moving) (r : Result (List ℕ) CallFault) → applies (number call) (moving_under number o) r ≡ moving_under number (applies call o r)
  unfolding applies keeps moving_under state_under answer_under why_under
  applies_under call o (Ok v) = reply_under call (answer.Applied v) (keeps (record o.state { copy = with_value v o.state.copy }) o)
  applies_under call o (Err (fault.TooLong n)) = reply_under call (answer.Refused (why.TooLong n)) o
  applies_under call o (Err fault.NoSuchCall) = reply_under call (answer.Refused why.NoSuchCall) o
  applies_under call o (Err fault.NoMemory) = refl

  pub satisfy_under : (rules : Rules) (call : ℕ) (asked : ClientOp) (o : Moving) → satisfy rules (number call) asked (moving_under number o) ≡ moving_under number (satisfy rules call asked o)
  unfolding satisfy keeps moving_under state_under lock_under answer_under
  satisfy_under rules call (op.Lock db key) o = reply_under call (answer.Locked (value_of o.state.copy)) (keeps (record o.state { locked = Some call }) o)
  satisfy_under rules call (op.Read db key) o = reply_under call (answer.Read (value_of o.state.copy)) o
  satisfy_under rules call (op.Write db key v) o = reply_under call answer.Written (keeps (record o.state { copy = with_value v o.state.copy }) o)
  satisfy_under rules call (op.Apply db key f arg) o = applies_under call o (applied f (value_of o.state.copy) arg rules)
  satisfy_under rules call _ o = refl

  -- ---- Revoke, Give and Grant

  revoke_under : (at : Place) (o : Moving) → revoke at (moving_under number o) ≡ moving_under number (revoke at o)
  unfolding revoke keeps moving_under state_under
  revoke_under at o = send_all_under o.state.tracking.tracked (msg.Revoke at.db at.key (rsn_of o.state.copy))
      (keeps (record o.state { copy = with_flags being_revoked o.state.copy; tracking = revocation_begun (rsn_of o.state.copy) o.state.tracking }) o)

  pub give_under : (at : Place) (o : Moving) → give at (moving_under number o) ≡ moving_under number (give at o)
  unfolding give keeps moving_under state_under
  give_under at o = send_under at.lmaster _ (keeps (record o.state { copy = given o.state.copy; waiting = [] }) o)

  read_here_under : (at : Place) (request : ℕ) (o : Moving) (w : Option Wish) → read_here at request (moving_under number o) (wish_under number w) ≡ moving_under number (read_here at request o w)
  unfolding read_here keeps moving_under state_under wish_under answer_under is_wished
  read_here_under at request o None = refl
  read_here_under at request o (Some w) = either_under (is_wished at.readonly request kind.Read (Some w)) _ _ refl (reply_under w.call (answer.Read (value_of o.state.copy)) (keeps (record o.state { wish = None }) o)) (unchanged o)

  delegate_under : (at : Place) (node request : ℕ) (o : Moving) → delegate at node request (moving_under number o) ≡ moving_under number (delegate at node request o)
  unfolding delegate keeps moving_under state_under
  delegate_under at node request o = send_under node _ (keeps (record o.state { copy = with_flags delegated o.state.copy; tracking = added node o.state.tracking }) o)

  read_own_under : (at : Place) (request : ℕ) (o : Moving) → read_here at request (moving_under number o) (moving_under number o).state.wish ≡ moving_under number (read_here at request o o.state.wish)
  unfolding moving_under state_under
  read_own_under at request o = read_here_under at request o o.state.wish

  pub grant_under : (at : Place) (node request : ℕ) (o : Moving) → grant at node request (moving_under number o) ≡ moving_under number (grant at node request o)
  unfolding grant
  grant_under at node request o =
      ap (send at.lmaster (msg.Done at.db at.key node request)) (either_under (nat_eq node at.me) _ _ refl (read_own_under at request o) (delegate_under at node request o))
      ∙ send_under at.lmaster (msg.Done at.db at.key node request) (cond (nat_eq node at.me) (read_here at request o o.state.wish) (delegate at node request o))

  pub yield_under : (at : Place) (o : Moving) → yield_record at (moving_under number o) ≡ moving_under number (yield_record at o)
  unfolding yield_record moving_under state_under
  yield_under at o = either_under (is_nil o.state.tracking.tracked) _ _ refl (give_under at o) (revoke_under at o)

  drain_under : (at : Place) (rs : List RecallNote) (o : Moving) → drain at rs (moving_under number o) ≡ moving_under number (drain at rs o)
  unfolding drain keeps end_vacuum moving_under state_under
  drain_under at [] o = refl
  drain_under at (r ∷ rs) o = either_under (is_free at.me o.state) _ _ (free_under at.me o.state)
      (either_under (is_read_kind r.kind) _ _ refl
      (ap (drain at rs) (grant_under at r.node r.request (end_vacuum o)) ∙ drain_under at rs (grant at r.node r.request (end_vacuum o)))
      (yield_under at (keeps (record o.state { waiting = r ∷ rs; vacuum = None }) o)))
      (unchanged (keeps (record o.state { waiting = r ∷ rs }) o))

  pub drained_under : (at : Place) (o : Moving) → drained at (moving_under number o) ≡ moving_under number (drained at o)
  unfolding drained moving_under state_under
  drained_under at o = drain_under at o.state.waiting o

  -- ---- End of revocation

  satisfy_own_under : (rules : Rules) (o : Moving) (w : Option Wish) → satisfy_own rules (moving_under number o) (wish_under number w) ≡ moving_under number (satisfy_own rules o w)
  unfolding satisfy_own keeps moving_under state_under wish_under
  satisfy_own_under rules o None = refl
  satisfy_own_under rules o (Some w) = either_under (w.request == 0) _ _ refl (satisfy_under rules w.call w.op (keeps (record o.state { wish = None }) o)) (unchanged o)

  pub end_revocation_under : (at : Place) (rules : Rules) (o : Moving) → end_revocation at rules (moving_under number o) ≡ moving_under number (end_revocation at rules o)
  unfolding end_revocation raise keeps reaches moving_under state_under
  end_revocation_under at rules o = ap (drained at) (satisfy_own_under rules (raise o) o.state.wish) ∙ drained_under at (satisfy_own rules (raise o) o.state.wish)

  -- ---- Next and Keep

  next_of_under : (at : Place) (o : Moving) (e : Option Entry) (ws : List Waiter) → next_of at (moving_under number o) e ws ≡ moving_under number (next_of at o e ws)
  unfolding next_of
  next_of_under at o None ws = refl
  next_of_under at o (Some e) [] = refl
  next_of_under at o (Some e) (w ∷ ws) = send_under e.holder _ o

  pub next_under : (at : Place) (o : Moving) → next at (moving_under number o) ≡ moving_under number (next at o)
  unfolding next moving_under state_under
  next_under at o = next_of_under at o o.state.entry o.state.queue

  pub keep_under : (at : Place) (rsn : ℕ) (value : List ℕ) (o : Moving) → keep at rsn value (moving_under number o) ≡ moving_under number (keep at rsn value o)
  unfolding keep keeps reaches moving_under state_under
  keep_under at rsn value o = next_under at (reaches rsn (keeps (record o.state {
    entry = Some (record { holder = at.lmaster; least = rsn; request = 0; value = value });
    copy = Some (a_copy rsn at.lmaster plain value);
  }) o))

  -- ---- Want

  call_for_under : (at : Place) (call : ℕ) (asked : ClientOp) (o : Moving) → call_for at (number call) asked (moving_under number o) ≡ moving_under number (call_for at call asked o)
  unfolding call_for reaches moving_under state_under wish_under
  call_for_under at call asked o = send_under at.lmaster (msg.Call at.db at.key o.next (kind_of at.readonly asked)) (reaches (o.next + 1) (record o {
    state = record o.state { wish = Some (record { call = call; request = o.next; op = asked }) };
    next = o.next + 1;
  }))

  wait_for_copies_under : (at : Place) (call : ℕ) (asked : ClientOp) (o : Moving) → wait_for_copies at (number call) asked (moving_under number o) ≡ moving_under number (wait_for_copies at call asked o)
  unfolding wait_for_copies keeps moving_under state_under wish_under
  wait_for_copies_under at call asked o =
      let mid : Moving = keeps (record o.state { wish = Some (record { call = call; request = 0; op = asked }) }) o in
      either_under (is_quiet o.state.tracking) _ _ refl (revoke_under at mid) (unchanged mid)

  want_of_under : (at : Place) (rules : Rules) (call : ℕ) (asked : ClientOp) (o : Moving) → want_of at rules (number call) asked (moving_under number o) ≡ moving_under number (want_of at rules call asked o)
  unfolding want_of moving_under state_under answer_under
  want_of_under at rules call asked o = either_under (is_read asked && (is_mastered at.me o.state.copy || is_for_reading o.state.copy)) _ _ refl (reply_under call (answer.Read (value_of o.state.copy)) o)
      (either_under (is_mastered at.me o.state.copy) _ _ refl (either_under (is_nil o.state.tracking.tracked) _ _ refl (satisfy_under rules call asked o) (wait_for_copies_under at call asked o)) (call_for_under at call asked o))

  is_open_under : (at : Place) (o : Moving) → (nat_eq at.me at.lmaster && is_none (moving_under number o).state.locked) ≡ (nat_eq at.me at.lmaster && is_none o.state.locked)
  unfolding moving_under state_under
  is_open_under at o = ap (λ (b : Bool). nat_eq at.me at.lmaster && b) (lock_none o.state.locked)

  opened_at_home_under : (at : Place) (o : Moving) → opened_at_home at (moving_under number o) ≡ moving_under number (opened_at_home at o)
  unfolding opened_at_home
  opened_at_home_under at o = either_under (nat_eq at.me at.lmaster && is_none o.state.locked) _ _ (is_open_under at o) (ap end_vacuum (opened_under at o) ∙ end_vacuum_under (opened at o)) (unchanged o)

  pub want_under : (at : Place) (rules : Rules) (call : ℕ) (asked : ClientOp) (o : Moving) → want at rules (number call) asked (moving_under number o) ≡ moving_under number (want at rules call asked o)
  unfolding want
  want_under at rules call asked o = ap (want_of at rules (number call) asked) (opened_at_home_under at o) ∙ want_of_under at rules call asked (opened_at_home at o)
