-- Retry: what is sent again of records and commits.
use Rattle.std.specs.Prelude.{◌≡◌, ℕ, ◌+◌, ◌==◌, true, if◌then◌else◌, List, [], ◌∷◌, ◌++◌, Option, None, Some, map}
use Rattle.std.specs.List.{AllByRecursion}
use Rattle.ct_node_database.specs.Noted.{is_worth}
use Rattle.ct_tracking.specs.Tracked.{Revocation}
use Rattle.ct_frame.specs.declared.event.Out.{Out}
use Rattle.ct_frame.specs.declared.frame.Msg.TheVariants as msg
use Rattle.ct_values.specs.declared.config.Config.{Config}
use Rattle.ct_node_plan.specs.Posts.{sent}
use Rattle.ct_rules.specs.State.{kind_of}
use Rattle.ct_rules.specs.declared.event.Place.{Place}
use Rattle.ct_rules.specs.declared.state.RecState.{RecState}
use Rattle.ct_rules.specs.declared.state.Wish.{Wish}
use Rattle.ct_rules_node.specs.Node.{Node, Committing, Database, is_present, state_at}
use Rattle.ct_rules_node.specs.Records.{place_of}
use Rattle.ct_rules_node.specs.Rounds.{Called, pending_calls}
use Rattle.ct_store.specs.Map.{Pairs, look}

-- no blank state is kept in these databases
abbrev pub AllWorth : List Database → Type 0
AllWorth dbs = AllByRecursion (λ d. (key : List ℕ) → is_worth (look key d.records) ≡ true) dbs

-- the Call of a wish that has a request
unfoldable pub called_again : ℕ → Place → Option Wish → List Out
called_again g at None = []
called_again g at (Some w) = if w.request == 0 then [] else sent g at.me (msg.Call at.db at.key w.request (kind_of at.readonly w.op)) at.lmaster ∷ []

-- that of each of these calls, in order
unfoldable pub all_called : Config → ℕ → Node → List Called → List Out
all_called c me n [] = []
all_called c me n (x ∷ xs) = called_again n.generation (place_of c me x.db x.key n) (state_at x.db x.key n).wish ++ all_called c me n xs

-- the Revoke of a revocation, to the missing nodes
unfoldable pub revoked_again : ℕ → ℕ → ℕ → List ℕ → Option Revocation → List Out
revoked_again g me db key None = []
revoked_again g me db key (Some r) = map (sent g me (msg.Revoke db key r.rsn)) r.missing

-- that of each revocation in a database, by key
unfoldable pub revoked_in : ℕ → ℕ → ℕ → Pairs RecState → List Out
revoked_in g me db [] = []
revoked_in g me db (e ∷ m) = revoked_again g me db e.0 e.1.tracking.revoking ++ revoked_in g me db m

-- that of each revocation, by database and key; i is the number of the first of these
unfoldable pub all_revoked : ℕ → ℕ → ℕ → List Database → List Out
all_revoked g me i [] = []
all_revoked g me i (d ∷ ds) = revoked_in g me i d.records ++ all_revoked g me (i + 1) ds

-- the PUpdate of a commit that waits
unfoldable pub updated_again : ℕ → ℕ → ℕ → Option Committing → List Out
updated_again g me db None = []
updated_again g me db (Some x) = map (sent g me (msg.PUpdate db x.pending.seq x.writes)) x.pending.missing

-- that of each commit that waits, by database; i is the number of the first of these
unfoldable pub all_updated : ℕ → ℕ → ℕ → List Database → List Out
all_updated g me i [] = []
all_updated g me i (d ∷ ds) = updated_again g me i d.commit ++ all_updated g me (i + 1) ds

-- all of these, where the node is present
unfoldable pub records_again : Config → ℕ → Node → List Out
records_again c me n =
    if is_present n.phase
    then (all_called c me n (pending_calls n) ++ all_revoked n.generation me 0 n.dbs) ++ all_updated n.generation me 0 n.dbs
    else []
