-- Bytes that are played piece by piece, from one moment of a run to another.
use Rattle.std.specs.Prelude.{◌≡◌, ◌≢◌, ◌≤◌, ◌<◌, ◌+◌, ℕ, List, [], ◌++◌, length, take, Option, None, Some, Result, Ok, Err, IsErrOf}
use Rattle.std.specs.Io.KnownBytes.{Appends, Consumes, IsAtEnd}
use Rattle.ct_outside.specs.Causes.{AppendsPart, Rose}
use Rattle.ct_outside.specs.declared.fault.SinkFault.{SinkFault}
use Rattle.ct_outside.specs.declared.fault.SinkFault.TheVariants as sink
use Rattle.ct_call.specs.Rules.{Rules}
use Rattle.ct_play.specs.Course.{Deed}
use Rattle.ct_play.specs.Play.{Run, all_text, pending_text_of, rest_after, run_from, preceded}
use Rattle.ct_play.specs.Session.{pending_texts}
use Rattle.ct_play_text.specs.declared.what.PlayFault.{PlayFault}
use Rattle.ct_play_text.specs.declared.what.PlayFault.TheVariants as play
use Rattle.ct_play_text.specs.declared.what.What.{What}
use Rattle.ct_main.specs.Claims.{HasEndCause, text_at}
use Rattle.ct_main.specs.declared.player.End.{End}
use Rattle.ct_main.specs.declared.player.End.TheVariants as end
use Rattle.ct_main.specs.declared.player.Player.{Player}
use Rattle.ct_main.specs.declared.player.Stop.{Stop}
use Rattle.ct_main.specs.declared.player.Stop.TheVariants.{Refused, WriteFault, NoMemory}

-- the run of these bytes, and of what follows them, from where a player stands
abbrev pub run_on : Rules → Player → List ℕ → Run
run_on rules p bytes = run_from rules p.session p.line bytes

-- From p to q the bytes were played: the text t was appended, and whatever comes later, the run from p tells t and
-- goes on as the run from q.
pub record Fed (rules : Rules) (p q : Player) (bytes : List ℕ) (before now : Option (List ℕ)) : Type 0 where
  pub text : List ℕ
  pub deeds : List Deed
  pub count : ℕ
  pub wrote : Appends before now text
  pub counted : q.count ≡ p.count + count
  pub rests : (later : List ℕ) → rest_after p.line (bytes ++ later) ≡ rest_after q.line later
  pub goes_on : (later : List ℕ) → run_on rules p (bytes ++ later) ≡ preceded text deeds count (run_on rules q later)

-- A line among the bytes was refused: whatever comes later, the run from p has this text, this refusal and this
-- many lines before it.
pub record FedRefused (rules : Rules) (p q : Player) (what : What) (bytes : List ℕ) (before now : Option (List ℕ)) : Type 0 where
  pub text : List ℕ
  pub wrote : Appends before now text
  pub ends : (later : List ℕ) → ((run_on rules p (bytes ++ later)).text ≡ text) × ((run_on rules p (bytes ++ later)).refusal ≡ Some what) × (p.count + (run_on rules p (bytes ++ later)).count ≡ q.count)

-- A write or memory failed: a front of the text was appended.
pub record FedPart (rules : Rules) (p : Player) (bytes : List ℕ) (before now : Option (List ℕ)) : Type 0 where
  pub text : List ℕ
  pub wrote : Appends before now text
  pub front : (later : List ℕ) → (more : List ℕ) × ((run_on rules p (bytes ++ later)).text ≡ text ++ more)

abbrev pub Feeds : Rules → Result (Unit {0}) Stop → Player → List ℕ → Player → Option (List ℕ) → Option (List ℕ) → Type 0
Feeds rules (Ok u) p bytes q before now = Fed rules p q bytes before now
Feeds rules (Err (Refused what)) p bytes q before now = FedRefused rules p q what bytes before now
Feeds rules (Err WriteFault) p bytes q before now = FedPart rules p bytes before now
Feeds rules (Err NoMemory) p bytes q before now = FedPart rules p bytes before now

-- so many of the bytes were taken, one at least, and played
abbrev pub FeedsFront : Rules → Result ℕ Stop → Player → List ℕ → Player → Option (List ℕ) → Option (List ℕ) → Type 0
FeedsFront rules (Ok n) p bytes q before now = (0 < n) × (n ≤ length bytes) × Fed rules p q (take n bytes) before now
FeedsFront rules (Err e) p bytes q before now = Feeds rules (Err e) p bytes q before now

-- a write fault comes only where the count rose
pub record HasStopCause {T : Type 0} (before now : ℕ) (result : Result T Stop) : Type 0 where
  pub later : before ≤ now
  pub failed : IsErrOf result WriteFault → Rose before now

-- a fault of a sink as the reason to stop
abbrev pub stop_of : SinkFault → Stop
stop_of sink.Failed = WriteFault
stop_of sink.NoMemory = NoMemory

abbrev pub stop_at : PlayFault → Stop
stop_at (play.Refused what) = Refused what
stop_at play.NoMemory = NoMemory

-- texts were printed, or a front of all their text
abbrev pub Prints : Result (Unit {0}) Stop → List (List ℕ) → Option (List ℕ) → Option (List ℕ) → Type 0
Prints (Ok u) texts before now = Appends before now (all_text texts)
Prints (Err (Refused what)) texts before now = ⊥
Prints (Err WriteFault) texts before now = AppendsPart before now (all_text texts)
Prints (Err NoMemory) texts before now = AppendsPart before now (all_text texts)

-- a stop as an end, where so many lines were played
abbrev pub end_of : Stop → ℕ → End
end_of (Refused what) count = end.Refused (count + 1) what
end_of WriteFault count = end.WriteFault
end_of NoMemory count = end.NoMemory

-- the text of the calls and the traverses that wait where a player stands
abbrev pub waiting_text : Player → List ℕ
waiting_text p = all_text (pending_texts p.session)

-- How a play ends where the input has no more: inside a line, or after the calls that wait were told
abbrev pub Finishes : End → Player → Option (List ℕ) → Option (List ℕ) → Type 0
Finishes end.Read p before now = (p.line ≡ []) × Appends before now (waiting_text p)
Finishes (end.Unended line) p before now = (p.line ≢ []) × (line ≡ p.count + 1) × (now ≡ before)
Finishes end.WriteFault p before now = (p.line ≡ []) × AppendsPart before now (waiting_text p)
Finishes end.NoMemory p before now = (p.line ≡ []) × AppendsPart before now (waiting_text p)
Finishes (end.Refused line what) p before now = ⊥
Finishes end.ReadFault p before now = ⊥
Finishes end.TooLong p before now = ⊥

-- How an end, the bytes played on from p, what is left of the input and what out held and holds go together.
abbrev pub EndsOn : Rules → End → Player → List ℕ → Option (List ℕ) → Option (List ℕ) → Option (List ℕ) → Type 0
EndsOn rules end.Read p bytes left before now =
    IsAtEnd left × (rest_after p.line bytes ≡ []) × ((run_on rules p bytes).refusal ≡ None) × Appends before now ((run_on rules p bytes).text ++ pending_text_of (run_on rules p bytes))
EndsOn rules (end.Unended line) p bytes left before now =
    IsAtEnd left × (rest_after p.line bytes ≢ []) × (line ≡ p.count + (run_on rules p bytes).count + 1) × ((run_on rules p bytes).refusal ≡ None) × Appends before now (run_on rules p bytes).text
EndsOn rules (end.Refused line what) p bytes left before now = ((run_on rules p bytes).refusal ≡ Some what) × (line ≡ p.count + (run_on rules p bytes).count + 1) × Appends before now (run_on rules p bytes).text
EndsOn rules end.ReadFault p bytes left before now = ((run_on rules p bytes).refusal ≡ None) × Appends before now (run_on rules p bytes).text
EndsOn rules end.TooLong p bytes left before now = ⊥
EndsOn rules end.WriteFault p bytes left before now = AppendsPart before now (text_at (rest_after p.line bytes) (run_on rules p bytes))
EndsOn rules end.NoMemory p bytes left before now = AppendsPart before now (text_at (rest_after p.line bytes) (run_on rules p bytes))

-- at these ends the last read took nothing
abbrev pub TookNone : End → List ℕ → Type 0
TookNone end.Read bytes = bytes ≡ []
TookNone (end.Unended line) bytes = bytes ≡ []
TookNone end.ReadFault bytes = bytes ≡ []
TookNone other bytes = Unit {0}

-- a piece was read and played
pub record Turned (rules : Rules) (n room : ℕ) (p q : Player) (left_before left before now : Option (List ℕ)) : Type 0 where
  pub bytes : List ℕ
  pub length_is : length bytes ≡ n
  pub some : 0 < n
  pub fits : n ≤ room
  pub taken : Consumes left_before left bytes
  pub fed : Fed rules p q bytes before now

-- the play ended
pub record TurnEnded (rules : Rules) (e : End) (room : ℕ) (p : Player) (left_before left before now : Option (List ℕ)) : Type 0 where
  pub bytes : List ℕ
  pub fits : length bytes ≤ room
  pub took : TookNone e bytes
  pub taken : Consumes left_before left bytes
  pub ends : EndsOn rules e p bytes left before now

abbrev pub Turns : Rules → Result ℕ End → ℕ → Player → Player → Option (List ℕ) → Option (List ℕ) → Option (List ℕ) → Option (List ℕ) → Type 0
Turns rules (Ok n) room p q left_before left before now = Turned rules n room p q left_before left before now
Turns rules (Err e) room p q left_before left before now = TurnEnded rules e room p left_before left before now

abbrev pub TurnCause : Result ℕ End → ℕ → ℕ → ℕ → ℕ → Type 0
TurnCause (Ok n) in_before in_now out_before out_now = (in_before ≤ in_now) × (out_before ≤ out_now)
TurnCause (Err e) in_before in_now out_before out_now = HasEndCause e in_before in_now out_before out_now
