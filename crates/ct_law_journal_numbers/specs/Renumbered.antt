-- The state of a node with other numbers of client calls, and which numbers it holds.
use Rattle.std.specs.Prelude.{ℕ, Bool, true, ◌&&◌, map, Option, None, Some}
use Rattle.std.specs.List.{list_all}
use Rattle.ct_frame.specs.declared.event.Event.{Event}
use Rattle.ct_frame.specs.declared.event.Event.TheVariants as event
use Rattle.ct_journal.specs.Schedules.{out_under}
use Rattle.ct_rules.specs.declared.state.RecState.{RecState}
use Rattle.ct_rules.specs.declared.state.Wish.{Wish}
use Rattle.ct_rules_node.specs.Node.{Node, Database, Committing}
use Rattle.ct_rules_node.specs.Turn.{Turn}
use Rattle.ct_store.specs.Map.{Pairs}

-- ---- other numbers

-- the call that holds a lock, under another number
unfoldable pub lock_under : (ℕ → ℕ) → Option ℕ → Option ℕ
lock_under number None = None
lock_under number (Some call) = Some (number call)

-- a call that waits for a record, under another number
unfoldable pub wish_under : (ℕ → ℕ) → Option Wish → Option Wish
wish_under number None = None
wish_under number (Some w) = Some (record w { call = number w.call })

-- the state of a record with other numbers of calls
unfoldable pub state_under : (ℕ → ℕ) → RecState → RecState
state_under number s = record s { locked = lock_under number s.locked; wish = wish_under number s.wish }

-- the states of all records of a database with other numbers of calls
unfoldable pub records_under : (ℕ → ℕ) → Pairs RecState → Pairs RecState
records_under number m = map (λ e. (e.0, state_under number e.1)) m

-- a commit that waits, under another number of its call
unfoldable pub commit_under : (ℕ → ℕ) → Option Committing → Option Committing
commit_under number None = None
commit_under number (Some x) = Some (record x { call = number x.call })

-- a database with other numbers of calls
unfoldable pub database_under : (ℕ → ℕ) → Database → Database
database_under number d = record d { records = records_under number d.records; commit = commit_under number d.commit }

-- a node with other numbers of calls: it holds them nowhere but in its databases
unfoldable pub node_under : (ℕ → ℕ) → Node → Node
node_under number n = record n { dbs = map (database_under number) n.dbs }

-- the middle of a step with other numbers of calls
unfoldable pub turn_under : (ℕ → ℕ) → Turn → Turn
turn_under number t = record t { node = node_under number t.node; outs = map (out_under number) t.outs }

-- a step that may be refused, with other numbers of calls
unfoldable pub step_under : (ℕ → ℕ) → Option Turn → Option Turn
step_under number None = None
step_under number (Some t) = Some (turn_under number t)

-- ---- the numbers that are held

-- is the call that holds a lock one of these?
unfoldable pub locks_only : (ℕ → Bool) → Option ℕ → Bool
locks_only among None = true
locks_only among (Some call) = among call

-- is the call that waits for a record one of these?
unfoldable pub wishes_only : (ℕ → Bool) → Option Wish → Bool
wishes_only among None = true
wishes_only among (Some w) = among w.call

-- are the calls of all these records among these?
unfoldable pub records_only : (ℕ → Bool) → Pairs RecState → Bool
records_only among m = list_all (λ e. locks_only among e.1.locked && wishes_only among e.1.wish) m

-- is the call of a commit that waits one of these?
unfoldable pub commits_only : (ℕ → Bool) → Option Committing → Bool
commits_only among None = true
commits_only among (Some x) = among x.call

-- are all calls that a node holds among these: those that hold locks, those that wait for records, and those of commits?
unfoldable pub holds_only : (ℕ → Bool) → Node → Bool
holds_only among n = list_all (λ d. records_only among d.records && commits_only among d.commit) n.dbs

-- is the call of an event, where it is one, among these?
unfoldable pub calls_only : (ℕ → Bool) → Event → Bool
calls_only among (event.Client call o) = among call
calls_only among e = true
