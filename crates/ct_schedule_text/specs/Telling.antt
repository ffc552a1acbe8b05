-- The lines that journals in order print: those of the run that they make, told from their entries alone.
use Rattle.std.specs.Prelude.{◌≡◌, ◌≢◌, ◌≤◌, ◌⊎◌, ◌^◌, ℕ, ◌+◌, nat_eq, Bool, true, false, ◌&&◌, if◌then◌else◌, List, [], ◌∷◌, ◌++◌, Option, None, Some}
use Rattle.std.specs.List.{flat_map}
use Rattle.ct_values.specs.declared.client.Answer.{Answer}
use Rattle.ct_values.specs.declared.client.Answer.TheVariants as answer
use Rattle.ct_values.specs.declared.client.Why.TheVariants as why
use Rattle.ct_values.specs.declared.config.Config.{Config}
use Rattle.ct_frame.specs.declared.event.Event.{Event}
use Rattle.ct_frame.specs.declared.event.Event.TheVariants as event
use Rattle.ct_frame.specs.declared.event.Out.{Out}
use Rattle.ct_frame.specs.declared.event.Out.TheVariants as out
use Rattle.ct_rules_cluster.specs.declared.step.Line.{Line}
use Rattle.ct_rules_cluster.specs.declared.step.Line.TheVariants as line
use Rattle.ct_journal.specs.Order.{Front, first_front, front_after, next_entry}
use Rattle.ct_journal.specs.declared.journal.Journal.{Journal}
use Rattle.ct_journal.specs.declared.journal.JournalEntry.{JournalEntry}
use Rattle.ct_text.specs.Line.{line_text}
use Rattle.ct_schedule_text.specs.declared.telling.Asked.{Asked}

-- ---- open calls

-- is it this call of this node?
unfoldable pub is_asked_call : ℕ → ℕ → Asked → Bool
is_asked_call node call x = nat_eq x.node node && nat_eq x.call call

-- the open call of this node that has this number there
unfoldable pub open_call : ℕ → ℕ → List Asked → Option Asked
open_call node call [] = None
open_call node call (x ∷ xs) = if is_asked_call node call x then Some x else open_call node call xs

-- the open calls without it
unfoldable pub open_without : ℕ → ℕ → List Asked → List Asked
open_without node call [] = []
open_without node call (x ∷ xs) = if is_asked_call node call x then xs else x ∷ open_without node call xs

-- ---- how far lines are told

-- How far lines are told: the front of the entries that printed them, how many messages these sent and how many calls they
-- asked, who holds the recovery lock, and the calls that are open
pub record Telling : Type 0 where
  pub front : Front
  pub sent : ℕ
  pub asked : ℕ
  pub holder : Option ℕ
  pub calls : List Asked

-- no line is told
unfoldable pub first_telling : List Journal → Telling
first_telling js = record { front = first_front js; sent = 0; asked = 0; holder = None; calls = [] }

-- lines, and how far they are told with these
pub record ToldLines : Type 0 where
  pub telling : Telling
  pub lines : List Line

-- these lines, and then those, where there are those
unfoldable pub lines_before : List Line → Option ToldLines → Option ToldLines
lines_before ls None = None
lines_before ls (Some u) = Some (record { telling = u.telling; lines = ls ++ u.lines })

-- what is told first, and then what follows it
unfoldable pub lines_then : Option ToldLines → (Telling → Option ToldLines) → Option ToldLines
lines_then None go = None
lines_then (Some u) go = lines_before u.lines (go u.telling)

-- ---- the lines of an entry

-- Lines: an answer, under the number that the call has among those of all nodes
unfoldable pub told_answered : ℕ → ℕ → Answer → Telling → Option Asked → Option ToldLines
told_answered node call a t None = None
told_answered node call a t (Some x) = Some (record { telling = record t { calls = open_without node call t.calls }; lines = line.Answered x.number a ∷ [] })

-- a refusal that names another call is not told, since that has another number in its journal
unfoldable pub names_no_call : Answer → Bool
names_no_call (answer.Refused (why.CallPending call)) = false
names_no_call a = true

-- Lines: what a node does
unfoldable pub told_out : ℕ → Out → Telling → Option ToldLines
told_out node (out.Send f) t = Some (record { telling = record t { sent = t.sent + 1 }; lines = line.Sent (t.sent + 1) f ∷ [] })
told_out node (out.Answer call a) t = if names_no_call a then told_answered node call a t (open_call node call t.calls) else None
told_out node (out.Note x) t = Some (record { telling = t; lines = line.Noted node x ∷ [] })

unfoldable pub told_outs : ℕ → List Out → Telling → Option ToldLines
told_outs node [] t = Some (record { telling = t; lines = [] })
told_outs node (o ∷ os) t = lines_then (told_out node o t) (told_outs node os)

-- Lines: where another node holds the recovery lock, it gives the lock back
unfoldable pub told_yield : ℕ → Option ℕ → List Line
told_yield node None = []
told_yield node (Some h) = if nat_eq h node then [] else line.Yielded h ∷ []

-- Lines: those of a step before what the node does then
unfoldable pub told_event : ℕ → Event → Telling → Option ToldLines
told_event node (event.Client call o) t = Some (record { telling = record t { asked = t.asked + 1; calls = t.calls ++ record { node = node; call = call; number = t.asked + 1 } ∷ [] }; lines = [] })
told_event node (event.Arrive m) t = Some (record { telling = t; lines = [] })
told_event node (event.BeginRound ticket members) t = Some (record { telling = record t { holder = Some node }; lines = told_yield node t.holder ++ line.Ticket ticket node ∷ [] })
told_event node event.Retry t = None
told_event node (event.Vacuum db) t = None
told_event node (event.BeginTakeover able) t = None

-- the front with an entry of a node
unfoldable pub entry_passed : ℕ → Event → Telling → Telling
entry_passed node e t = record t { front = front_after node e t.front }

unfoldable pub told_entry : ℕ → JournalEntry → Telling → Option ToldLines
told_entry node x t = lines_then (told_event node x.event t) (λ u. told_outs node x.outs (entry_passed node x.event u))

-- ---- the lines of journals

unfoldable pub told_if_next : ℕ → Option JournalEntry → Telling → Option ToldLines
told_if_next node None t = None
told_if_next node (Some x) t = told_entry node x t

-- Lines: those of the next entries of these nodes, one after the other
unfoldable pub told_from : List Journal → List ℕ → Telling → Option ToldLines
told_from js [] t = Some (record { telling = t; lines = [] })
told_from js (n ∷ ns) t = lines_then (told_if_next n (next_entry js t.front n) t) (told_from js ns)

-- ---- what a call adds to a text

-- the number of a message, or that of a call among those of all nodes, reaches 2^62
abbrev pub IsPastLimit : Telling → Type 0
IsPastLimit t = (2 ^ 62 ≤ t.sent) ⊎ (2 ^ 62 ≤ t.asked)

-- A call that tells what is to be told adds its lines to the text, and is as far as that. One that does not tell has nothing to
-- tell, or a number would reach 2^62.
abbrev pub AddsLines : Config → Bool → Option ToldLines → Telling → List ℕ → List ℕ → Type 0
AddsLines c true (Some u) t before now = (t ≡ u.telling) × (now ≡ before ++ flat_map (line_text c) u.lines)
AddsLines c true None t before now = ⊥
AddsLines c false (Some u) t before now = IsPastLimit u.telling
AddsLines c false None t before now = Unit {0}

-- Nothing tells all lines of journals in this order, or a call is open at their end, or a number would reach 2^62
abbrev pub AreUntold : List Journal → List ℕ → Type 0
AreUntold js order = (u : ToldLines) → told_from js order (first_telling js) ≡ Some u → (u.telling.calls ≢ []) ⊎ IsPastLimit u.telling

-- All lines of journals in this order, at whose end no call is open, and how many messages they tell of
pub record AreLines (c : Config) (js : List Journal) (order : List ℕ) (text : List ℕ) (sent : ℕ) : Type 0 where
  pub told : ToldLines
  pub are_told : told_from js order (first_telling js) ≡ Some told
  pub none_open : told.telling.calls ≡ []
  pub text_is : text ≡ flat_map (line_text c) told.lines
  pub sent_is : sent ≡ told.telling.sent
