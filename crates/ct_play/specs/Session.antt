-- What one line of a scenario does.
use Rattle.std.specs.Prelude.{◌≡◌, ℕ, nat_lt, Bool, true, false, if◌then◌else◌, List, [], ◌++◌, length, map, Option, None, Some, Result, Ok, Err, Vec}
use Rattle.std.specs.declared.alloc.Global.{Global}
use Rattle.ct_call.specs.Rules.{Rules}
use Rattle.ct_rules_cluster.specs.Cluster.{pending, World}
use Rattle.ct_traverse_parts.specs.Walk.{Walk, no_walk, pending as pending_traverses}
use Rattle.ct_lines.specs.Grammar.{line_of}
use Rattle.ct_lines.specs.Places.{Accepted, nothing_accepted, refusal, with_line}
use Rattle.ct_lines.specs.declared.line.LineKind.{LineKind}
use Rattle.ct_lines.specs.declared.line.LineKind.TheVariants.{Long, Words}
use Rattle.ct_lines.specs.declared.line.ScenarioLine.{ScenarioLine}
use Rattle.ct_lines.specs.declared.line.ScenarioLine.TheVariants as item
use Rattle.ct_text.specs.Line.{pending_text}
use Rattle.ct_traverse_parts.specs.Text.{pending_traverse_text}
use Rattle.ct_play.specs.Course.{Deed, Effect}
use Rattle.ct_play.specs.Effect.{line_effect}
use Rattle.ct_play.specs.Opening.{world_at}
use Rattle.ct_play.specs.declared.session.Session.{Session}
use Rattle.ct_play_text.specs.declared.what.PlayFault.{PlayFault}
use Rattle.ct_play_text.specs.declared.what.PlayFault.TheVariants.{Refused, NoMemory}
use Rattle.ct_play_text.specs.declared.what.What.{What}
use Rattle.ct_play_text.specs.declared.what.What.TheVariants as what

-- before the first line
abbrev pub start : Session
start = record { places = nothing_accepted; world = None; walker = no_walk }

-- where a line leaves the session, the lines of text that it prints, and what was done
pub record Played : Type 0 where
  pub session : Session
  pub texts : List (List ℕ)
  pub deeds : List Deed

-- a configuration line prints nothing, and opens no cluster
abbrev pub quiet : Accepted → Option World → Walk → Played
quiet a world walk = record { session = record { places = a; world = world; walker = walk }; texts = []; deeds = [] }

-- the effect of a line on the cluster, as what it does to the session
abbrev pub put : Accepted → Result Effect What → Result Played What
put a (Ok e) = Ok (record { session = record { places = a; world = Some e.world; walker = e.walk }; texts = e.texts; deeds = e.deeds })
put a (Err what) = Err what

-- does the line say what the cluster is?
abbrev pub is_config_line : ScenarioLine → Bool
is_config_line (item.Config said) = true
is_config_line _ = false

-- a line in its place, where the lines with it said this: the first that is no configuration line opens the cluster
abbrev pub in_its_place : Rules → ScenarioLine → Option World → Walk → Accepted → Result Played What
in_its_place rules line world walk a = if is_config_line line then Ok (quiet a world walk) else put a (line_effect rules (world_at a world) walk line)

-- a line out of its place is refused
abbrev pub placed : Rules → ScenarioLine → Session → Option LineKind → Result Played What
placed rules line s None = in_its_place rules line s.world s.walker (with_line line s.places)
placed rules line s (Some kind) = Err (what.Line kind)

-- bytes that are no line of the grammar are refused
abbrev pub item_played : Rules → Option ScenarioLine → Session → Result Played What
item_played rules None s = Err (what.Line Words)
item_played rules (Some line) s = placed rules line s (refusal line s.places)

-- the longest line
abbrev pub longest : ℕ
longest = 65535

-- a line, without its line feed
unfoldable pub line_played : Rules → List ℕ → Session → Result Played What
line_played rules line s = if nat_lt longest (length line) then Err (what.Line Long) else item_played rules (line_of line) s

-- the text of each call that waits, and then of each traverse
abbrev pub waiting_texts : World → Walk → List (List ℕ)
waiting_texts w walk = map (pending_text w.config) (pending w.cluster) ++ map (pending_traverse_text w.config) (pending_traverses walk)

abbrev pub waiting_at : Option World → Walk → List (List ℕ)
waiting_at None walk = []
waiting_at (Some w) walk = waiting_texts w walk

-- what waits where a session stands, once a cluster was opened
abbrev pub pending_texts : Session → List (List ℕ)
pending_texts s = waiting_at s.world s.walker

-- the new session and the texts are those of what was played
abbrev pub Matches : Result Played What → Session → List (List ℕ) → Type 0
Matches (Ok p) session texts = (p.session ≡ session) × (p.texts ≡ texts)
Matches (Err what) session texts = ⊥

-- Ok is exactly what the line does, and a refusal comes exactly where the line has it. Memory may be wanting in place of each.
abbrev pub Plays : Result (Vec (List ℕ) Global) PlayFault → Result Played What → Session → Type 0
Plays (Ok texts) played new = Matches played new texts.items
Plays (Err (Refused what)) played new = played ≡ Err what
Plays (Err NoMemory) played new = Unit {0}
