-- Retry: what was not answered is sent again, in a fixed order.
use Rattle.std.specs.Prelude.{ℕ, ◌+◌, if◌then◌else◌, List, [], ◌∷◌, Option, None, Some}
use Rattle.ct_values.specs.declared.config.Config.{Config}
use Rattle.ct_frame.specs.declared.frame.Msg.TheVariants as msg
use Rattle.ct_store.specs.Map.{Pairs}
use Rattle.ct_rules.specs.Moves.{call_again, revoke_again}
use Rattle.ct_rules.specs.declared.state.RecState.{RecState}
use Rattle.ct_rules_node.specs.Node.{Database, Committing, Lead, Nothing, Freezes, Pulls, Installs, Completed, Takeover, Run, NoRun, Releasing, Taking, is_present, is_present_in}
use Rattle.ct_rules_node.specs.Turn.{Turn, posts_all}
use Rattle.ct_rules_node.specs.Records.{at_record}
use Rattle.ct_rules_node.specs.Rounds.{Called, pending_calls, push_of}
use Rattle.ct_rules_node.specs.Takeovers.{send_releases, assigned_in}

-- Retry: the Call of each wish that has a request, for these calls in order
unfoldable pub call_all : Config → ℕ → List Called → Turn → Turn
call_all c me [] t = t
call_all c me (x ∷ xs) t = call_all c me xs (at_record c me x.db x.key call_again t)

-- Retry: the Revoke of each revocation in a database, by key
unfoldable pub revoke_all : Config → ℕ → ℕ → Pairs RecState → Turn → Turn
revoke_all c me db [] t = t
revoke_all c me db (e ∷ m) t = revoke_all c me db m (at_record c me db e.0 revoke_again t)

-- Retry: the Revoke of each revocation, by database and key; i is the number of the first of these
unfoldable pub revoke_in : Config → ℕ → ℕ → List Database → Turn → Turn
revoke_in c me i [] t = t
revoke_in c me i (d ∷ ds) t = revoke_in c me (i + 1) ds (revoke_all c me i d.records t)

-- Retry: the PUpdate of a commit that waits
unfoldable pub update_again : ℕ → ℕ → Turn → Option Committing → Turn
update_again me db t None = t
update_again me db t (Some x) = posts_all t.node.generation me x.pending.missing (msg.PUpdate db x.pending.seq x.writes) t

-- Retry: the PUpdate of each commit that waits, by database; i is the number of the first of these
unfoldable pub update_in : ℕ → ℕ → List Database → Turn → Turn
update_in me i [] t = t
update_in me i (d ∷ ds) t = update_in me (i + 1) ds (update_again me i t d.commit)

-- Retry, where the node is present: Calls, then Revokes, then PUpdates
unfoldable pub retry_records : Config → ℕ → Turn → Turn
retry_records c me t =
    if is_present t.node.phase
    then update_in me 0 t.node.dbs (revoke_in c me 0 t.node.dbs (call_all c me (pending_calls t.node) t))
    else t

-- Retry, where a run was begun: the Releases of the missing members, or the Take to all
unfoldable pub retry_run : ℕ → ℕ → List ℕ → Takeover → Turn → Run → Turn
retry_run me g members x t NoRun = t
retry_run me g members x t (Releasing placement missing) = send_releases me g x.number placement missing t
retry_run me g members x t (Taking placement) = posts_all g me members (msg.Take x.number (assigned_in placement)) t

-- Retry, where the node leads: what it waits for, from those that are missing; then Thaw and the run
unfoldable pub retry_lead : ℕ → Turn → Lead → Turn
retry_lead me t Nothing = t
retry_lead me t (Freezes g members missing) = posts_all g me missing (msg.Freeze members) t
retry_lead me t (Pulls g members missing x) = posts_all g me missing msg.Pull t
retry_lead me t (Installs g members missing b) = posts_all g me missing (push_of b) t
retry_lead me t (Completed g members x) =
    let t' = posts_all g me members msg.Thaw t in
    if is_present_in g t.node then retry_run me g members x t' x.run else t'

-- Retry: first of records and commits, then of the round and of the run
unfoldable pub retry : Config → ℕ → Turn → Turn
retry c me t = let t' = retry_records c me t in retry_lead me t' t'.node.lead
