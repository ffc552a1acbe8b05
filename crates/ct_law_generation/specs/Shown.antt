-- What a cluster in one generation shows of one record, and what its labels tell of that record.
use Rattle.std.specs.Prelude.{◌≡◌, ℕ, nat_eq, bytes_eq, Bool, true, false, ◌&&◌, ◌||◌, if◌then◌else◌, List, [], ◌∷◌, ◌++◌, Option, None, Some}
use Rattle.ct_values.specs.Client.{db_of, key_of}
use Rattle.ct_values.specs.declared.client.Answer.{Answer}
use Rattle.ct_values.specs.declared.client.Answer.TheVariants as answer
use Rattle.ct_values.specs.declared.client.ClientOp.{ClientOp}
use Rattle.ct_values.specs.declared.client.Why.TheVariants as why
use Rattle.ct_values.specs.declared.config.Config.{Config}
use Rattle.ct_frame.specs.declared.event.Out.{Out}
use Rattle.ct_frame.specs.declared.event.Out.TheVariants as out
use Rattle.ct_frame.specs.declared.event.Note.TheVariants as note
use Rattle.ct_frame.specs.declared.frame.Frame.{Frame}
use Rattle.ct_call.specs.Rules.{Rules}
use Rattle.ct_rules_node.specs.Node.{Node, db_at, state_at, master_of, kind_at, is_readonly, is_persistent, is_among, has_records}
use Rattle.ct_rules_node.specs.Admission.{record_in}
use Rattle.ct_rules_cluster.specs.Cluster.{Cluster, Sent, node_at}
use Rattle.ct_rules_cluster.specs.Labels.{Label, Answered, Noted}
use Rattle.ct_rules_cluster.specs.Traces.{sent_label}
use Rattle.ct_law_generation.specs.Waiting.{answered}
use Rattle.ct_rules_cluster.specs.declared.step.PendingCall.{PendingCall}
use Rattle.ct_register.specs.Lines.{Lines}
use Rattle.ct_law_record.specs.Labels as law
use Rattle.ct_rules_node.specs.Turn.{Turn}
use Rattle.ct_rules_cluster.specs.Steps.{frames_of}
use Rattle.ct_law_record.specs.World.{Scene, View, Mail, World, Event, last, trace}

-- A generation: its number, its members, whether they all serve in it, whether no other generation is begun beside it, and
-- the world of each record from which on it is followed.
pub record Era : Type 0 where
  pub number : ℕ
  pub members : List ℕ
  pub thawed : Bool
  pub alone : Bool
  pub start : ℕ → List ℕ → World

-- the record in the generation
abbrev pub scene : Config → Era → Rules → ℕ → List ℕ → Scene
scene c era rules db key = record { db = db; key = key; lmaster = master_of era.members key; readonly = is_readonly (kind_at c db); members = era.members; rules = rules }

-- what a node has of the record
abbrev pub view : ℕ → List ℕ → Node → View
view db key n = record { state = state_at db key n; next = n.next; floor = (db_at db n).floor }

-- is this the record?
unfoldable pub is_it : ℕ → List ℕ → ℕ → List ℕ → Bool
is_it db key d k = nat_eq d db && bytes_eq k key

-- the message, where it is of generation g and speaks of the record
unfoldable pub mail_of : ℕ → ℕ → List ℕ → Frame → Option (ℕ × List ℕ) → List Mail
mail_of g db key f None = []
mail_of g db key f (Some r) = if nat_eq f.generation g && is_it db key r.0 r.1 then record { sender = f.sender; receiver = f.receiver; msg = f.msg } ∷ [] else []

-- those of the messages that do, in their order
unfoldable pub mails : ℕ → ℕ → List ℕ → List Sent → List Mail
mails g db key [] = []
mails g db key (s ∷ ss) = mail_of g db key s.frame (record_in s.frame.msg) ++ mails g db key ss

-- the world of the record shows all that the cluster has of it in generation g
pub record Shows (g db : ℕ) (key : List ℕ) (c : Cluster) (w : World) : Type 0 where
  pub nodes : (n : ℕ) → w.nodes n ≡ view db key (node_at n c)
  pub mail : w.mail ≡ mails g db key c.sent

-- does the answer tell anything of a record? A refusal does not, but for that of a value which is too long
unfoldable pub is_telling : Answer → Bool
is_telling (answer.Refused (why.TooLong n)) = true
is_telling (answer.Refused w) = false
is_telling _ = true

-- a label, where it is of the record
unfoldable pub told_of : Bool → law.Label → List law.Label
told_of true x = x ∷ []
told_of false x = []

-- what a label of the cluster tells of the record
unfoldable pub told_by : ℕ → List ℕ → Label → List law.Label
told_by db key (Answered n asked a) = told_of (is_telling a && is_it db key (db_of asked) (key_of asked)) (law.Told n asked a)
told_by db key (Noted n (note.Vacuumed d k)) = told_of (is_it db key d k) (law.Vacuumed n)
told_by db key _ = []

-- what labels of the cluster tell of the record
unfoldable pub told_by_all : ℕ → List ℕ → List Label → List law.Label
told_by_all db key [] = []
told_by_all db key (x ∷ xs) = told_by db key x ++ told_by_all db key xs

-- every member has installed line g
abbrev pub AllInstalled : ℕ → Lines → Type 0
AllInstalled g r = (m : ℕ) → is_among m (r.members g) ≡ true → r.installed g m ≡ true

-- The label is of records of nodes in line g: it is an answer that is of no persistent database, or ends a vacuum. An answer that tells
-- nothing may be of a database that there is not. Or a node serves in the line, which all have installed.
unfoldable pub IsOfLine : Config → ℕ → Lines → Label → Type 0
IsOfLine config g r (Answered n asked a) = (is_persistent (kind_at config (db_of asked)) ≡ false) × (is_telling a ≡ true → (r.line n ≡ g) × (has_records (kind_at config (db_of asked)) ≡ true))
IsOfLine config g r (Noted n (note.Vacuumed db key)) = (r.line n ≡ g) × (has_records (kind_at config db) ≡ true)
IsOfLine config g r (Noted n (note.Thawed h)) = (h ≡ g) × (r.line n ≡ g) × AllInstalled g r
IsOfLine config g r _ = ⊥

-- what a world's labels tell: all but the answers that tell nothing
unfoldable pub heard : List law.Label → List law.Label
heard [] = []
heard (law.Told n asked a ∷ xs) = told_of (is_telling a) (law.Told n asked a) ++ heard xs
heard (x ∷ xs) = x ∷ heard xs

-- every answer is of a call that was asked
unfoldable pub AllAsked : List law.Label → Type 0
AllAsked [] = Unit {0}
AllAsked (law.Unasked n a ∷ xs) = ⊥
AllAsked (x ∷ xs) = AllAsked xs

-- the labels of what node n does, where these calls may be answered
unfoldable pub labels_of : ℕ → List PendingCall → List Out → List Label
labels_of n calls [] = []
labels_of n calls (out.Send f ∷ xs) = sent_label f.sender f.generation f.msg ++ labels_of n calls xs
labels_of n calls (out.Answer call a ∷ xs) = answered call a calls ++ labels_of n calls xs
labels_of n calls (out.Note x ∷ xs) = Noted n x ∷ labels_of n calls xs

-- what a call asks that may be answered at the record is found among these calls, and asks of the record
pub record Finds (db : ℕ) (key : List ℕ) (n : ℕ) (calls : List PendingCall) (asks : ℕ → Option ClientOp) : Type 0 where
  pub found : (call : ℕ) (asked : ClientOp) → asks call ≡ Some asked → (a : Answer) → answered call a calls ≡ Answered n asked a ∷ []
  pub about : (call : ℕ) (asked : ClientOp) → asks call ≡ Some asked → (db_of asked ≡ db) × (key_of asked ≡ key)

-- The world of the record while node n is amid a step: what it has and sent so far, over the world before the step. It has
-- joined there, as who has not takes no step.
abbrev pub amid : ℕ → ℕ → List ℕ → ℕ → World → Turn → World
amid g db key n w t = record { nodes = λ k. if nat_eq k n then view db key t.node else w.nodes k; joined = λ k. w.joined k || nat_eq k n; mail = w.mail ++ mails g db key (frames_of t.outs) }

-- From one middle of a step to another the world of the record comes by these events, which tell what the step tells of the
-- record.
pub record Comes_by (g : ℕ) (s : Scene) (n : ℕ) (w : World) (calls : List PendingCall) (t u : Turn) (es : List Event) : Type 0 where
  pub world : last s (amid g s.db s.key n w t) es ≡ amid g s.db s.key n w u
  pub labels : told_by_all s.db s.key (labels_of n calls u.outs) ≡ told_by_all s.db s.key (labels_of n calls t.outs) ++ heard (trace s (amid g s.db s.key n w t) es)

-- by some events
abbrev pub Follows : ℕ → Scene → ℕ → World → List PendingCall → Turn → Turn → Type 0
Follows g s n w calls t u = (es : List Event) × Comes_by g s n w calls t u es

-- the world of the record, as the cluster shows it in generation g
abbrev pub project : ℕ → ℕ → List ℕ → Cluster → World
project g db key c = record { nodes = λ n. view db key (node_at n c); joined = λ _. true; mail = mails g db key c.sent }

-- schedules of the worlds of all records lead from where these begin to what the cluster shows of them, and tell what these
-- labels tell
abbrev pub Schedules : Config → Era → Rules → Cluster → List Label → (ℕ → List ℕ → List Event) → Type 0
Schedules config era rules c labels es = (db : ℕ) (key : List ℕ) →
    (last (scene config era rules db key) (era.start db key) (es db key) ≡ project era.number db key c) ×
    (heard (trace (scene config era rules db key) (era.start db key) (es db key)) ≡ told_by_all db key labels)
