-- What comes of a client's call at a node, under other numbers of calls.
use Rattle.std.proofs.Common.{◌≡◌, ℕ, ◌+◌, ◌^◌, ◌==◌, Bool, true, false, cond, ◌&&◌, ◌||◌, List, [], ◌∷◌, map, Option, Some, None, refl, sym, ap, ◌∙◌}
use Rattle.std.proofs.lemmas.List.{length-map}
use Rattle.std.specs.Prelude.{nat_eq, nat_le, nat_lt, not, is_none, is_some, option_map}
use Rattle.std.specs.Ordering.{is_eq}
use Rattle.std.specs.Cmp.Lexicographic.{pointwise}
use Rattle.ct_values.specs.Key.{key_cmp}
use Rattle.ct_values.specs.Client.{db_of, is_read, key_of, wants_record}
use Rattle.ct_values.specs.declared.client.Answer.TheVariants as answer
use Rattle.ct_values.specs.declared.client.ClientOp.{ClientOp}
use Rattle.ct_values.specs.declared.client.ClientOp.TheVariants as op
use Rattle.ct_values.specs.declared.client.Why.{Why}
use Rattle.ct_values.specs.declared.client.Why.TheVariants as why
use Rattle.ct_values.specs.declared.config.Config.{Config}
use Rattle.ct_frame.specs.declared.frame.Msg.TheVariants as msg
use Rattle.ct_call.specs.Rules.{Rules, is_known}
use Rattle.ct_store.specs.Map.{Pairs, look, has_room}
use Rattle.ct_persist.specs.Persisted.{fits}
use Rattle.ct_rules.specs.Moves.{store, release, unlock}
use Rattle.ct_rules.specs.Parts.{want}
use Rattle.ct_rules.specs.declared.state.RecState.{RecState}
use Rattle.ct_rules.specs.declared.state.Wish.{Wish}
use Rattle.ct_rules_node.specs.Node.{Node, Phase, Idle, Serving, Installed, Freezing, Frozen, Database, Committing, is_serving, is_freezing, is_persistent, db_at, state_at, kind_at, name_of}
use Rattle.ct_rules_node.specs.Turn.{Turn, with_phase, makes}
use Rattle.ct_rules_node.specs.Records.{at_record}
use Rattle.ct_rules_node.specs.Refusals.{refused_if, first_of}
use Rattle.ct_rules_node.specs.Clients.{is_commit, is_unlock, wants_change, is_under_lock, is_locked, no_such_db, wrong_kind, may_finish, not_serving, pending_of, call_pending, is_committing, is_name_of_commit, commit_pending, already_locked, not_locked, no_such_call, full, refusal, any_locked_in, any_locked, frozen_if_unlocked, unlocks, reads, serves, serves_or, client}
use Rattle.ct_journal.specs.Schedules.{answer_under, why_under}
use Rattle.ct_law_journal_numbers.specs.Renumbered.{wish_under, state_under, records_under, commit_under, database_under, node_under, turn_under}
use Rattle.ct_law_journal_numbers.proofs.Parts.{want_under}
use Rattle.ct_law_journal_numbers.proofs.Messages.{store_under, release_under, unlock_under}
use Rattle.ct_law_journal_numbers.proofs.Nodes.{db_at_under, state_at_under, at_record_under, lock_some}
use Rattle.ct_law_journal_numbers.proofs.Turns.{either_turn, turn_unchanged, answers_under, posts_under, commit_begins_under, read_pair_under}

module _ (number : ℕ → ℕ) where
  -- a refusal that may be there, with other numbers of calls
  abbrev pub refused_under : Option Why → Option Why
  refused_under w = option_map (why_under number) w

  -- ---- what is tested of the node

  lock_at_under : (db : ℕ) (key : List ℕ) (n : Node) → is_locked db key (node_under number n) ≡ is_locked db key n
  unfolding is_locked state_under
  lock_at_under db key n = ap (λ (s : RecState). is_some s.locked) (state_at_under number db key n) ∙ lock_some number (state_at db key n).locked

  commit_some : (x : Option Committing) → is_some (commit_under number x) ≡ is_some x
  unfolding commit_under
  commit_some None = refl
  commit_some (Some x) = refl

  committing_under : (db : ℕ) (n : Node) → is_committing db (node_under number n) ≡ is_committing db n
  unfolding is_committing database_under
  committing_under db n = ap (λ (d : Database). is_some d.commit) (db_at_under number db n) ∙ commit_some (db_at db n).commit

  name_of_commit_under : (c : Config) (key : List ℕ) (i : ℕ) (ds : List Database) → is_name_of_commit c key i (map (database_under number) ds) ≡ is_name_of_commit c key i ds
  unfolding is_name_of_commit database_under
  name_of_commit_under c key i [] = refl
  name_of_commit_under c key i (d ∷ ds) = λ j. (commit_some d.commit j && pointwise nat_eq key (name_of c i)) || name_of_commit_under c key (i + 1) ds j

  look_some : (key : List ℕ) (m : Pairs RecState) → is_some (look key (records_under number m)) ≡ is_some (look key m)
  unfolding records_under
  look_some key [] = refl
  look_some key (e ∷ m) = elim (is_eq (key_cmp key e.0)) as (λ b. is_some (cond b (Some (state_under number e.1)) (look key (records_under number m))) ≡ is_some (cond b (Some e.1) (look key m))) [ true ↦ refl | false ↦ look_some key m ]

  room_under : (key : List ℕ) (m : Pairs RecState) → has_room key (records_under number m) ≡ has_room key m
  unfolding records_under
  room_under key m =
      let other : List ℕ × RecState → List ℕ × RecState = λ e. (e.0, state_under number e.1) in
      λ j. look_some key m j || nat_lt (length-map m other j) 1024

  any_lock_in : (m : Pairs RecState) → any_locked_in (records_under number m) ≡ any_locked_in m
  unfolding any_locked_in records_under state_under
  any_lock_in [] = refl
  any_lock_in (e ∷ m) = λ j. lock_some number e.1.locked j || any_lock_in m j

  any_lock : (ds : List Database) → any_locked (map (database_under number) ds) ≡ any_locked ds
  unfolding any_locked database_under
  any_lock [] = refl
  any_lock (d ∷ ds) = λ j. any_lock_in d.records j || any_lock ds j

  -- ---- the refusals

  -- this refusal names no call
  plain_under : (b : Bool) (w : Why) → why_under number w ≡ w → refused_if b w ≡ refused_under (refused_if b w)
  unfolding refused_if
  plain_under true w e = ap Some (sym e)
  plain_under false w e = refl

  not_serving_under : (n : Node) (o : ClientOp) → not_serving (node_under number n) o ≡ refused_under (not_serving n o)
  unfolding not_serving may_finish node_under why_under
  not_serving_under n o =
      ap (λ (b : Bool). refused_if (not (is_serving n.phase) && not (is_freezing n.phase && (is_under_lock o || is_read o) && b)) why.NotServing) (lock_at_under (db_of o) (key_of o) n)
      ∙ plain_under (not (is_serving n.phase) && not (may_finish n o)) why.NotServing refl

  pending_of_under : (w : Option Wish) → pending_of (wish_under number w) ≡ refused_under (pending_of w)
  unfolding pending_of wish_under why_under
  pending_of_under None = refl
  pending_of_under (Some w) = refl

  call_pending_under : (n : Node) (o : ClientOp) → call_pending (node_under number n) o ≡ refused_under (call_pending n o)
  unfolding call_pending state_under
  call_pending_under n o = ap (λ (s : RecState). cond (wants_record o) (pending_of s.wish) None) (state_at_under number (db_of o) (key_of o) n) ∙ by (wants_record o)
    where
      by : (b : Bool) → cond b (pending_of (wish_under number (state_at (db_of o) (key_of o) n).wish)) None ≡ refused_under (cond b (pending_of (state_at (db_of o) (key_of o) n).wish) None)
      by true = pending_of_under (state_at (db_of o) (key_of o) n).wish
      by false = refl

  commit_pending_under : (c : Config) (n : Node) (o : ClientOp) → commit_pending c (node_under number n) o ≡ refused_under (commit_pending c n o)
  unfolding commit_pending node_under why_under
  commit_pending_under c n o =
      (λ j. refused_if ((is_commit o && committing_under (db_of o) n j) || (is_unlock o && (db_of o == 0) && name_of_commit_under c (key_of o) 0 n.dbs j)) why.CommitPending)
      ∙ plain_under ((is_commit o && is_committing (db_of o) n) || (is_unlock o && (db_of o == 0) && is_name_of_commit c (key_of o) 0 n.dbs)) why.CommitPending refl

  already_locked_under : (n : Node) (o : ClientOp) → already_locked (node_under number n) o ≡ refused_under (already_locked n o)
  unfolding already_locked why_under
  already_locked_under n o =
      ap (λ (b : Bool). refused_if (wants_change o && b) why.AlreadyLocked) (lock_at_under (db_of o) (key_of o) n)
      ∙ plain_under (wants_change o && is_locked (db_of o) (key_of o) n) why.AlreadyLocked refl

  not_locked_under : (c : Config) (n : Node) (o : ClientOp) → not_locked c (node_under number n) o ≡ refused_under (not_locked c n o)
  unfolding not_locked why_under
  not_locked_under c n o =
      (λ j. refused_if ((is_under_lock o && not (lock_at_under (db_of o) (key_of o) n j)) || (is_commit o && not (lock_at_under 0 (name_of c (db_of o)) n j))) why.NotLocked)
      ∙ plain_under ((is_under_lock o && not (is_locked (db_of o) (key_of o) n)) || (is_commit o && not (is_locked 0 (name_of c (db_of o)) n))) why.NotLocked refl

  no_such_call_under : (rules : Rules) (o : ClientOp) → no_such_call rules o ≡ refused_under (no_such_call rules o)
  unfolding no_such_call why_under
  no_such_call_under rules (op.Apply db key f arg) = plain_under (not (is_known f rules)) why.NoSuchCall refl
  no_such_call_under rules _ = refl

  full_record_under : (c : Config) (n : Node) (o : ClientOp) → refused_if (wants_record o && not (is_persistent (kind_at c (db_of o))) && not (has_room (key_of o) (db_at (db_of o) (node_under number n)).records)) why.Full
      ≡ refused_under (refused_if (wants_record o && not (is_persistent (kind_at c (db_of o))) && not (has_room (key_of o) (db_at (db_of o) n).records)) why.Full)
  unfolding database_under why_under
  full_record_under c n o =
      ap (λ (d : Database). refused_if (wants_record o && not (is_persistent (kind_at c (db_of o))) && not (has_room (key_of o) d.records)) why.Full) (db_at_under number (db_of o) n)
      ∙ ap (λ (b : Bool). refused_if (wants_record o && not (is_persistent (kind_at c (db_of o))) && not b) why.Full) (room_under (key_of o) (db_at (db_of o) n).records)
      ∙ plain_under (wants_record o && not (is_persistent (kind_at c (db_of o))) && not (has_room (key_of o) (db_at (db_of o) n).records)) why.Full refl

  full_under : (c : Config) (n : Node) (o : ClientOp) → full c (node_under number n) o ≡ refused_under (full c n o)
  unfolding full database_under why_under
  full_under c n (op.Commit db writes) =
      ap (λ (d : Database). refused_if (not (fits writes d.store.pairs)) why.Full) (db_at_under number db n)
      ∙ plain_under (not (fits writes (db_at db n).store.pairs)) why.Full refl
  full_under c n o = full_record_under c n o

  first_of_under : (xs : List (Option Why)) → first_of (map refused_under xs) ≡ refused_under (first_of xs)
  unfolding first_of
  first_of_under [] = refl
  first_of_under (None ∷ xs) = first_of_under xs
  first_of_under (Some w ∷ xs) = refl

  -- the same refusal holds first, where there is one
  refusal_under : (c : Config) (rules : Rules) (n : Node) (o : ClientOp) → refusal c rules (node_under number n) o ≡ refused_under (refusal c rules n o)
  unfolding refusal no_such_db wrong_kind why_under
  refusal_under c rules n o =
      let db : Bool = is_none (kind_at c (db_of o)) in
      let kind : Bool = cond (is_commit o) (not (is_persistent (kind_at c (db_of o)))) (is_persistent (kind_at c (db_of o)) && not (is_read o)) in
      (λ i. first_of (
      plain_under db why.NoSuchDb refl i ∷
      plain_under kind why.WrongKind refl i ∷
      not_serving_under n o i ∷
      call_pending_under n o i ∷
      commit_pending_under c n o i ∷
      already_locked_under n o i ∷
      not_locked_under c n o i ∷
      no_such_call_under rules o i ∷
      full_under c n o i ∷
      []
      ))
      ∙ first_of_under (no_such_db c o ∷ wrong_kind c o ∷ not_serving n o ∷ call_pending n o ∷ commit_pending c n o ∷ already_locked n o ∷ not_locked c n o ∷ no_such_call rules o ∷ full c n o ∷ [])

  -- ---- the calls

  pub frozen_if_unlocked_under : (me g leader : ℕ) (t : Turn) → frozen_if_unlocked me g leader (turn_under number t) ≡ turn_under number (frozen_if_unlocked me g leader t)
  unfolding frozen_if_unlocked with_phase turn_under node_under
  frozen_if_unlocked_under me g leader t = either_turn number (any_locked t.node.dbs) _ _ (any_lock t.node.dbs) (turn_unchanged number t) (posts_under number g me leader msg.FreezeAck (with_phase (Frozen g) t))

  unlocks_in : (c : Config) (me call db : ℕ) (key : List ℕ) (t : Turn) → at_record c me db key (λ at o. unlock at (number call) o) (turn_under number t) ≡ turn_under number (at_record c me db key (λ at o. unlock at call o) t)
  unlocks_in c me call db key t = at_record_under number c me db key (λ at o. unlock at (number call) o) (λ at o. unlock at call o) t (λ at o. unlock_under number at call o)

  unlocks_under : (c : Config) (me call db : ℕ) (key : List ℕ) (t : Turn) (p : Phase) → unlocks c me (number call) db key (turn_under number t) p ≡ turn_under number (unlocks c me call db key t p)
  unfolding unlocks
  unlocks_under c me call db key t (Freezing g leader) =
      ap (frozen_if_unlocked me g leader) (at_record_under number c me db key (λ at o. release (number call) o) (λ at o. release call o) t (λ at o. release_under number call o))
      ∙ frozen_if_unlocked_under me g leader (at_record c me db key (λ at o. release call o) t)
  unlocks_under c me call db key t Idle = unlocks_in c me call db key t
  unlocks_under c me call db key t Serving = unlocks_in c me call db key t
  unlocks_under c me call db key t Installed = unlocks_in c me call db key t
  unlocks_under c me call db key t (Frozen g) = unlocks_in c me call db key t

  wants_under : (c : Config) (rules : Rules) (me call db : ℕ) (key : List ℕ) (o : ClientOp) (t : Turn) → at_record c me db key (λ at x. want at rules (number call) o x) (turn_under number t) ≡ turn_under number (at_record c me db key (λ at x. want at rules call o x) t)
  wants_under c rules me call db key o t = at_record_under number c me db key (λ at x. want at rules (number call) o x) (λ at x. want at rules call o x) t (λ at x. want_under number at rules call o x)

  reads_under : (c : Config) (rules : Rules) (me call db : ℕ) (key : List ℕ) (t : Turn) → reads c rules me (number call) db key (turn_under number t) ≡ turn_under number (reads c rules me call db key t)
  unfolding reads
  reads_under c rules me call db key t = either_turn number (is_persistent (kind_at c db)) _ _ refl (read_pair_under number call db key t) (wants_under c rules me call db key (op.Read db key) t)

  serves_under : (c : Config) (rules : Rules) (me call : ℕ) (t : Turn) (o : ClientOp) → serves c rules me (number call) (turn_under number t) o ≡ turn_under number (serves c rules me call t o)
  unfolding serves turn_under node_under
  serves_under c rules me call t (op.Read db key) = reads_under c rules me call db key t
  serves_under c rules me call t (op.Store db key v) = at_record_under number c me db key (λ at o. store (number call) v o) (λ at o. store call v o) t (λ at o. store_under number call v o)
  serves_under c rules me call t (op.Unlock db key) = unlocks_under c me call db key t t.node.phase
  serves_under c rules me call t (op.Commit db writes) = commit_begins_under number me call db writes t
  serves_under c rules me call t (op.Lock db key) = wants_under c rules me call db key (op.Lock db key) t
  serves_under c rules me call t (op.Write db key v) = wants_under c rules me call db key (op.Write db key v) t
  serves_under c rules me call t (op.Apply db key f arg) = wants_under c rules me call db key (op.Apply db key f arg) t

  serves_or_under : (c : Config) (rules : Rules) (me call : ℕ) (o : ClientOp) (t : Turn) (w : Option Why) → serves_or c rules me (number call) o (turn_under number t) (refused_under w) ≡ turn_under number (serves_or c rules me call o t w)
  unfolding serves_or answer_under
  serves_or_under c rules me call o t (Some w) = answers_under number call (answer.Refused w) t
  serves_or_under c rules me call o t None = serves_under c rules me call t o

  makes_call_under : (call : ℕ) (t : Turn) → nat_le (2 ^ 62) (number call) ≡ nat_le (2 ^ 62) call → makes (number call) (turn_under number t) ≡ turn_under number (makes call t)
  unfolding makes turn_under
  makes_call_under call t e = ap (λ (b : Bool). record (turn_under number t) { spent = t.spent || b }) e

  refusal_at_under : (c : Config) (rules : Rules) (o : ClientOp) (t : Turn) → refusal c rules (turn_under number t).node o ≡ refused_under (refusal c rules t.node o)
  unfolding turn_under
  refusal_at_under c rules o t = refusal_under c rules t.node o

  -- a call, whose new number reaches 2^62 where the old one does
  pub client_under : (c : Config) (rules : Rules) (me call : ℕ) (o : ClientOp) (t : Turn) → nat_le (2 ^ 62) (number call) ≡ nat_le (2 ^ 62) call → client c rules me (number call) o (turn_under number t) ≡ turn_under number (client c rules me call o t)
  unfolding client
  client_under c rules me call o t e =
      (λ i. serves_or c rules me (number call) o (makes_call_under call t e i) (refusal_at_under c rules o t i))
      ∙ serves_or_under c rules me call o (makes call t) (refusal c rules t.node o)
