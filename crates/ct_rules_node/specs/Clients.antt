-- What a client's call is refused for, and what else comes of it.
use Rattle.std.specs.Prelude.{ℕ, ◌+◌, ◌==◌, nat_eq, Bool, true, false, not, ◌&&◌, ◌||◌, if◌then◌else◌, List, [], ◌∷◌, Option, None, Some, is_none, is_some}
use Rattle.std.specs.List.{list_any}
use Rattle.std.specs.Cmp.Lexicographic.{pointwise}
use Rattle.ct_values.specs.Client.{db_of, is_read, key_of, wants_record}
use Rattle.ct_values.specs.declared.client.Answer.TheVariants as answer
use Rattle.ct_values.specs.declared.client.ClientOp.{ClientOp}
use Rattle.ct_values.specs.declared.client.ClientOp.TheVariants as op
use Rattle.ct_values.specs.declared.client.Why.{Why}
use Rattle.ct_values.specs.declared.client.Why.TheVariants as why
use Rattle.ct_values.specs.declared.config.Config.{Config}
use Rattle.ct_frame.specs.declared.frame.Msg.TheVariants as msg
use Rattle.ct_call.specs.Rules.{Rules, is_known}
use Rattle.ct_store.specs.Map.{Pairs, has_room}
use Rattle.ct_persist.specs.Persisted.{fits}
use Rattle.ct_rules.specs.Moves.{store, release, unlock}
use Rattle.ct_rules.specs.Parts.{want}
use Rattle.ct_rules.specs.declared.state.RecState.{RecState}
use Rattle.ct_rules.specs.declared.state.Wish.{Wish}
use Rattle.ct_rules_node.specs.Node.{Node, Phase, Freezing, Frozen, Database, is_serving, is_freezing, is_persistent, db_at, state_at, kind_at, name_of}
use Rattle.ct_rules_node.specs.Turn.{Turn, with_phase, makes, answers, posts}
use Rattle.ct_rules_node.specs.Records.{at_record}
use Rattle.ct_rules_node.specs.Refusals.{refused_if, first_of}
use Rattle.ct_rules_node.specs.Databases.{commit, read_pair}

-- ---- what a call asks for

-- is the call a commit?
unfoldable pub is_commit : ClientOp → Bool
is_commit (op.Commit db writes) = true
is_commit _ = false

-- is the call an unlock?
unfoldable pub is_unlock : ClientOp → Bool
is_unlock (op.Unlock db key) = true
is_unlock _ = false

-- is the call a lock, a write or a function? Each is refused while the node has the record locked
unfoldable pub wants_change : ClientOp → Bool
wants_change (op.Lock db key) = true
wants_change (op.Write db key v) = true
wants_change (op.Apply db key f arg) = true
wants_change _ = false

-- is the call a store or an unlock, which is made under the lock?
unfoldable pub is_under_lock : ClientOp → Bool
is_under_lock (op.Store db key v) = true
is_under_lock (op.Unlock db key) = true
is_under_lock _ = false

-- ---- the refusals, each with its condition

-- is the record locked here?
unfoldable pub is_locked : ℕ → List ℕ → Node → Bool
is_locked db key n = is_some (state_at db key n).locked

-- Refusals of a client, `no-such-db`: no database has the number
unfoldable pub no_such_db : Config → ClientOp → Option Why
no_such_db c o = refused_if (is_none (kind_at c (db_of o))) why.NoSuchDb

-- Refusals of a client, `wrong-kind`: a commit wants a persistent database, and all but a read another one
unfoldable pub wrong_kind : Config → ClientOp → Option Why
wrong_kind c o = refused_if (if is_commit o then not (is_persistent (kind_at c (db_of o))) else (is_persistent (kind_at c (db_of o)) && not (is_read o))) why.WrongKind

-- while the node is Freezing, a store, an unlock or a read of a record that is locked here is not refused
unfoldable pub may_finish : Node → ClientOp → Bool
may_finish n o = is_freezing n.phase && (is_under_lock o || is_read o) && is_locked (db_of o) (key_of o) n

-- Refusals of a client, `not-serving`: the phase is not Serving, and the call may not finish
unfoldable pub not_serving : Node → ClientOp → Option Why
not_serving n o = refused_if (not (is_serving n.phase) && not (may_finish n o)) why.NotServing

-- the refusal that names the call of a wish
unfoldable pub pending_of : Option Wish → Option Why
pending_of None = None
pending_of (Some w) = Some (why.CallPending w.call)

-- Refusals of a client, `call-pending`: another call waits for the record here
unfoldable pub call_pending : Node → ClientOp → Option Why
call_pending n o = if wants_record o then pending_of (state_at (db_of o) (key_of o) n).wish else None

-- does a commit of the database wait here?
unfoldable pub is_committing : ℕ → Node → Bool
is_committing db n = is_some (db_at db n).commit

-- is this the name of a database with a commit that waits? i is the number of the first of these
unfoldable pub is_name_of_commit : Config → List ℕ → ℕ → List Database → Bool
is_name_of_commit c key i [] = false
is_name_of_commit c key i (d ∷ ds) = (is_some d.commit && pointwise nat_eq key (name_of c i)) || is_name_of_commit c key (i + 1) ds

-- Refusals of a client, `commit-pending`: a commit while one waits, or the unlock that would end its lock
unfoldable pub commit_pending : Config → Node → ClientOp → Option Why
commit_pending c n o = refused_if ((is_commit o && is_committing (db_of o) n) || (is_unlock o && (db_of o == 0) && is_name_of_commit c (key_of o) 0 n.dbs)) why.CommitPending

-- Refusals of a client, `already-locked`: a lock, a write or a function of a record that is locked here
unfoldable pub already_locked : Node → ClientOp → Option Why
already_locked n o = refused_if (wants_change o && is_locked (db_of o) (key_of o) n) why.AlreadyLocked

-- Refusals of a client, `not-locked`: a store or an unlock of a record, or a commit of a database, without its lock
unfoldable pub not_locked : Config → Node → ClientOp → Option Why
not_locked c n o = refused_if ((is_under_lock o && not (is_locked (db_of o) (key_of o) n)) || (is_commit o && not (is_locked 0 (name_of c (db_of o)) n))) why.NotLocked

-- Refusals of a client, `no-such-call`: no function has the number
unfoldable pub no_such_call : Rules → ClientOp → Option Why
no_such_call rules (op.Apply db key f arg) = refused_if (not (is_known f rules)) why.NoSuchCall
no_such_call rules _ = None

-- Refusals of a client, `full`: no room for one more key with state, or for the pairs of a commit
unfoldable pub full : Config → Node → ClientOp → Option Why
full c n (op.Commit db writes) = refused_if (not (fits writes (db_at db n).store.pairs)) why.Full
full c n o = refused_if (wants_record o && not (is_persistent (kind_at c (db_of o))) && not (has_room (key_of o) (db_at (db_of o) n).records)) why.Full

-- Refusals of a client: the first that holds, in this order
unfoldable pub refusal : Config → Rules → Node → ClientOp → Option Why
refusal c rules n o = first_of (no_such_db c o ∷ wrong_kind c o ∷ not_serving n o ∷ call_pending n o ∷ commit_pending c n o ∷ already_locked n o ∷ not_locked c n o ∷ no_such_call rules o ∷ full c n o ∷ [])

-- ---- the calls

-- is one of these records locked here?
unfoldable pub any_locked_in : Pairs RecState → Bool
any_locked_in m = list_any (λ e. is_some e.1.locked) m

-- is a record of these databases locked here?
unfoldable pub any_locked : List Database → Bool
any_locked dbs = list_any (λ d. any_locked_in d.records) dbs

-- Frozen: a Freezing node without locks is Frozen, and the round's leader gets a FreezeAck
unfoldable pub frozen_if_unlocked : ℕ → ℕ → ℕ → Turn → Turn
frozen_if_unlocked me g leader t = if any_locked t.node.dbs then t else posts g me leader msg.FreezeAck (with_phase (Frozen g) t)

-- Unlock: the lock ends; Drain follows while the node serves, and Frozen while it is Freezing
unfoldable pub unlocks : Config → ℕ → ℕ → ℕ → List ℕ → Turn → Phase → Turn
unlocks c me call db key t (Freezing g leader) = frozen_if_unlocked me g leader (at_record c me db key (λ at o. release call o) t)
unlocks c me call db key t _ = at_record c me db key (λ at o. unlock at call o) t

-- a read: Read of a pair in a persistent database, and else Want
unfoldable pub reads : Config → Rules → ℕ → ℕ → ℕ → List ℕ → Turn → Turn
reads c rules me call db key t =
    if is_persistent (kind_at c db) then read_pair call db key t else at_record c me db key (λ at o. want at rules call (op.Read db key) o) t

-- Calls that are not refused: each by its rule
unfoldable pub serves : Config → Rules → ℕ → ℕ → Turn → ClientOp → Turn
serves c rules me call t (op.Read db key) = reads c rules me call db key t
serves c rules me call t (op.Store db key v) = at_record c me db key (λ at o. store call v o) t
serves c rules me call t (op.Unlock db key) = unlocks c me call db key t t.node.phase
serves c rules me call t (op.Commit db writes) = commit me call db writes t
serves c rules me call t (op.Lock db key) = at_record c me db key (λ at o. want at rules call (op.Lock db key) o) t
serves c rules me call t (op.Write db key v) = at_record c me db key (λ at o. want at rules call (op.Write db key v) o) t
serves c rules me call t (op.Apply db key f arg) = at_record c me db key (λ at o. want at rules call (op.Apply db key f arg) o) t

-- the call is refused so, or served where there is no refusal
unfoldable pub serves_or : Config → Rules → ℕ → ℕ → ClientOp → Turn → Option Why → Turn
serves_or c rules me call o t (Some w) = answers call (answer.Refused w) t
serves_or c rules me call o t None = serves c rules me call t o

-- a client's call: the first refusal that holds is answered, and else the call is served
unfoldable pub client : Config → Rules → ℕ → ℕ → ClientOp → Turn → Turn
client c rules me call o t = serves_or c rules me call o (makes call t) (refusal c rules t.node o)
