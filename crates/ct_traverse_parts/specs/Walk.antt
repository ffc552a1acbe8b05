-- Traverses of a cluster: what each call does, and what it prints.
use Rattle.std.specs.Prelude.{◌≡◌, ℕ, ◌+◌, ◌^◌, nat_eq, nat_lt, Bool, true, false, not, ◌&&◌, if◌then◌else◌, List, [], ◌∷◌, ◌++◌, length, map, Option, None, Some, is_none, is_some, Result, Ok, Err, slice_get, slice_set}
use Rattle.std.specs.List.{filter, remove}
use Rattle.ct_mail.specs.declared.sent.Fate.{Fate}
use Rattle.ct_mail.specs.declared.sent.Fate.TheVariants.{Waiting, Delivered, Dropped}
use Rattle.ct_frame.specs.declared.frame.TableRow.{TableRow}
use Rattle.ct_node_view.specs.Had.{entries_of}
use Rattle.ct_rules_node.specs.Node.{Node, db_at, is_among, is_present_in, is_serving, kind_at}
use Rattle.ct_rules_node.specs.Rounds.{rows_of}
use Rattle.ct_rules_cluster.specs.Cluster.{is_up, node_at, World}
use Rattle.ct_traverse_parts.specs.Best.{gathered, shown}
use Rattle.ct_traverse_parts.specs.Posts.{ended_as, is_delivered, is_waiting, numbered}
use Rattle.ct_traverse_parts.specs.declared.line.Pass.{Pass}
use Rattle.ct_traverse_parts.specs.declared.line.Pass.TheVariants.{Copies, Entries}
use Rattle.ct_traverse_parts.specs.declared.line.TFault.{TFault}
use Rattle.ct_traverse_parts.specs.declared.line.TFault.TheVariants as fault
use Rattle.ct_traverse_parts.specs.declared.line.TLine.{TLine}
use Rattle.ct_traverse_parts.specs.declared.line.TLine.TheVariants as line
use Rattle.ct_traverse_parts.specs.declared.line.TPending.{TPending}
use Rattle.ct_traverse_parts.specs.declared.post.Post.{Post}
use Rattle.ct_traverse_parts.specs.declared.traverse.Traverse.{Traverse}

-- the number of the last traverse that was begun; those that have neither ended nor were answered, by number; all messages
pub record Walk : Type 0 where
  pub begun : ℕ
  pub running : List Traverse
  pub posts : List Post

-- what there is after a call, and the lines that it printed
pub record Walked : Type 0 where
  pub walk : Walk
  pub lines : List TLine

-- before the first call
abbrev pub no_walk : Walk
no_walk = record { begun = 0; running = []; posts = [] }

-- a call that only prints
abbrev pub told : List TLine → Walk → Result Walked TFault
told lines walk = Ok (record { walk = walk; lines = lines })

-- a call that would bring a number to 2^62 is refused
abbrev pub limited : Bool → Walked → Result Walked TFault
limited fits walked = if fits then Ok walked else Err fault.Exhausted

-- does the node run, and is it present in the generation?
unfoldable pub is_there : ℕ → ℕ → World → Bool
is_there n g w = is_up n w.cluster && is_present_in g (node_at n w.cluster)

-- ---- a traverse begins

-- why none begins at this node: the first that holds
unfoldable pub begin_fault : ℕ → ℕ → World → Option TFault
begin_fault n db w =
    if not (nat_lt n w.config.nodes) then Some (fault.NoSuchNode n)
    else if not (is_up n w.cluster) then Some (fault.NodeDown n)
    else if is_none (kind_at w.config db) then Some (fault.NoSuchDb db)
    else if not (is_serving (node_at n w.cluster).phase) then Some (fault.NotServing n)
    else None

-- the message by which node n asks a member in a pass, for traverse k of a generation and a database
abbrev pub question : Pass → (n g k db : ℕ) → ℕ → Post
question pass n g k db member = record { sender = n; receiver = member; generation = g; traverse = k; db = db; pass = pass; rows = None; fate = Waiting }

-- the messages by which it asks these members
unfoldable pub questions : Pass → (n g k db : ℕ) → List ℕ → List Post
questions pass n g k db [] = []
questions pass n g k db (m ∷ members) = question pass n g k db m ∷ questions pass n g k db members

-- and their lines, where the first message has this number
unfoldable pub question_lines : ℕ → Pass → (n g k : ℕ) → List ℕ → List TLine
question_lines number pass n g k [] = []
question_lines number pass n g k (m ∷ members) = line.Asked number n m g k pass ∷ question_lines (number + 1) pass n g k members

-- the messages by which a traverse asks all members of its generation in a pass, and their lines
abbrev pub asks : Pass → Traverse → List Post
asks pass t = questions pass t.node t.generation t.number t.db t.members

abbrev pub ask_lines : ℕ → Pass → Traverse → List TLine
ask_lines number pass t = question_lines number pass t.node t.generation t.number t.members

-- do so many more messages have numbers below 2^62?
abbrev pub have_numbers : ℕ → Walk → Bool
have_numbers count walk = nat_lt (length walk.posts + count) (2 ^ 62)

-- a traverse asks all members of its generation in its pass
abbrev pub asked_all : Traverse → Walk → Walked
asked_all t walk = record { walk = record walk { posts = walk.posts ++ asks t.pass t }; lines = ask_lines (length walk.posts + 1) t.pass t }

-- the traverse of this number that a node begins: of the generation that it serves in, for the copies of its members first
abbrev pub first_pass : ℕ → ℕ → ℕ → Node → Traverse
first_pass number n db x = record { number = number; node = n; generation = x.generation; db = db; members = x.members; pass = Copies; missing = x.members; kept = [] }

-- this traverse begins
abbrev pub begun_as : Traverse → Walk → Result Walked TFault
begun_as t walk = limited (nat_lt t.number (2 ^ 62) && have_numbers (length t.members) walk) (asked_all t (record walk { begun = t.number; running = walk.running ++ (t ∷ []) }))

unfoldable pub begun_or : Option TFault → ℕ → ℕ → World → Walk → Result Walked TFault
begun_or (Some f) n db w walk = Err f
begun_or None n db w walk = begun_as (first_pass (walk.begun + 1) n db (node_at n w.cluster)) walk

-- a node begins a traverse of a database
abbrev pub begun : ℕ → ℕ → World → Walk → Result Walked TFault
begun n db w walk = begun_or (begin_fault n db w) n db w walk

-- ---- a question comes

-- all copies of a database at a node, or all its entries
abbrev pub told_rows : Pass → ℕ → ℕ → Node → List TableRow
told_rows Copies n db x = rows_of n db (db_at db x).records
told_rows Entries n db x = entries_of db (db_at db x).records

-- the message by which a member answers
abbrev pub reply : Post → List TableRow → Post
reply p rows = record { sender = p.receiver; receiver = p.sender; generation = p.generation; traverse = p.traverse; db = p.db; pass = p.pass; rows = Some rows; fate = Waiting }

-- an answer with so many rows is sent
abbrev pub sent_back : Post → ℕ → Walk → Result Walked TFault
sent_back answer count walk = limited (have_numbers 1 walk) (record {
  walk = record walk { posts = walk.posts ++ (answer ∷ []) };
  lines = line.Rows (length walk.posts + 1) answer.sender answer.receiver answer.generation answer.traverse answer.pass count ∷ [];
})

abbrev pub replied : Post → List TableRow → Walk → Result Walked TFault
replied p rows walk = sent_back (reply p rows) (length rows) walk

-- ---- rows come

-- where the traverse of this number stands among these, the first of which stands at i
unfoldable pub place_from : ℕ → ℕ → List Traverse → Option ℕ
place_from i k [] = None
place_from i k (t ∷ ts) = if nat_eq t.number k then Some i else place_from (i + 1) k ts

-- where the traverse of this number stands, if it goes on
abbrev pub place_of : ℕ → Walk → Option ℕ
place_of k walk = place_from 0 k walk.running

-- without this member, wherever it stands
unfoldable pub without_member : ℕ → List ℕ → List ℕ
without_member n [] = []
without_member n (m ∷ ms) = if nat_eq m n then without_member n ms else m ∷ without_member n ms

abbrev pub is_same_pass : Pass → Pass → Bool
is_same_pass Copies Copies = true
is_same_pass Copies Entries = false
is_same_pass Entries Copies = false
is_same_pass Entries Entries = true

-- do these rows count? They are of the pass that runs, and the first of their member
abbrev pub counts : Post → Traverse → Bool
counts p t = is_same_pass p.pass t.pass && is_among p.sender t.missing

-- it asks for entries next
abbrev pub second_pass : Traverse → Traverse
second_pass t = record t { pass = Entries; missing = t.members }

-- the traverse with these rows
abbrev pub with_rows : Post → List TableRow → Traverse → Traverse
with_rows p rows t = record t { missing = without_member p.sender t.missing; kept = gathered p.pass p.sender rows t.kept }

-- the walk with another state of the traverse at a place
abbrev pub with_traverse : ℕ → Traverse → Walk → Walk
with_traverse i t walk = record walk { running = slice_set walk.running i t }

-- all have answered the pass: entries are asked for, or the traverse is answered
unfoldable pub passed : Pass → ℕ → Traverse → Walk → Result Walked TFault
passed Copies i t walk = limited (have_numbers (length t.members) walk) (asked_all (second_pass t) (with_traverse i (second_pass t) walk))
passed Entries i t walk = told (line.Shown (shown t.kept) ∷ []) (record walk { running = remove walk.running i })

-- the traverse at a place has these rows, and these members are missing yet
unfoldable pub counted : List ℕ → ℕ → Traverse → Walk → Result Walked TFault
counted [] i t walk = passed t.pass i t walk
counted (m ∷ ms) i t walk = told [] (with_traverse i t walk)

-- rows come to the traverse at a place
unfoldable pub gave : Post → List TableRow → ℕ → Option Traverse → Walk → Result Walked TFault
gave p rows i None walk = told [] walk
gave p rows i (Some t) walk = if counts p t then counted (with_rows p rows t).missing i (with_rows p rows t) walk else told [] walk

-- ---- a message comes, again, or never

-- does anybody take it? A question the member that runs and is present in its generation, and rows a traverse that goes on
unfoldable pub is_taken : Post → Option (List TableRow) → World → Walk → Bool
is_taken p None w walk = is_there p.receiver p.generation w
is_taken p (Some rows) w walk = is_some (place_of p.traverse walk)

-- what comes of it then
unfoldable pub gave_at : Post → List TableRow → Option ℕ → Walk → Result Walked TFault
gave_at p rows None walk = told [] walk
gave_at p rows (Some i) walk = gave p rows i (slice_get walk.running i) walk

unfoldable pub given : Post → Option (List TableRow) → World → Walk → Result Walked TFault
given p None w walk = replied p (told_rows p.pass p.receiver p.db (node_at p.receiver w.cluster)) walk
given p (Some rows) w walk = gave_at p rows (place_of p.traverse walk) walk

-- the walk with another fate of a message
abbrev pub with_fate : ℕ → Post → Fate → Walk → Walk
with_fate k p fate walk = record walk { posts = ended_as k p fate walk.posts }

-- what came of a message, which is delivered now
unfoldable pub delivered : ℕ → Post → Result Walked TFault → Result Walked TFault
delivered k p (Ok x) = Ok (record x { walk = with_fate k p Delivered x.walk })
delivered k p (Err f) = Err f

unfoldable pub carried_of : ℕ → Option Post → World → Walk → Result Walked TFault
carried_of k None w walk = Err (fault.NoSuchMessage k)
carried_of k (Some p) w walk =
    if not (is_waiting (Some p)) then Err (fault.NoSuchMessage k)
    else if is_taken p p.rows w walk then delivered k p (given p p.rows w walk)
    else told (line.TLost k ∷ []) (with_fate k p Dropped walk)

-- a message that waits comes, and is dropped where nobody takes it
abbrev pub carried : ℕ → World → Walk → Result Walked TFault
carried k w walk = carried_of k (numbered k walk.posts) w walk

unfoldable pub lost_of : ℕ → Option Post → Walk → Result Walked TFault
lost_of k None walk = Err (fault.NoSuchMessage k)
lost_of k (Some p) walk = if is_waiting (Some p) then told [] (with_fate k p Dropped walk) else Err (fault.NoSuchMessage k)

-- a message that waits is dropped
abbrev pub lost : ℕ → Walk → Result Walked TFault
lost k walk = lost_of k (numbered k walk.posts) walk

unfoldable pub repeated_of : ℕ → Option Post → World → Walk → Result Walked TFault
repeated_of k None w walk = Err (fault.NoSuchMessage k)
repeated_of k (Some p) w walk =
    if not (is_delivered (Some p)) then Err (fault.NoSuchMessage k)
    else if is_taken p p.rows w walk then given p p.rows w walk
    else told (line.TLost k ∷ []) walk

-- a message that was delivered comes again, and stays delivered where nobody takes it
abbrev pub repeated : ℕ → World → Walk → Result Walked TFault
repeated k w walk = repeated_of k (numbered k walk.posts) w walk

-- ---- after a step of the cluster

-- is the traverse's node present in its generation?
abbrev pub goes_on : World → Traverse → Bool
goes_on w t = is_there t.node t.generation w

-- a line for each of the others, by number
unfoldable pub end_lines : World → List Traverse → List TLine
end_lines w [] = []
end_lines w (t ∷ ts) = if goes_on w t then end_lines w ts else line.Ended t.number ∷ end_lines w ts

abbrev pub ended_after : World → Walk → Result Walked TFault
ended_after w walk = told (end_lines w walk.running) (record walk { running = filter (goes_on w) walk.running })

-- ---- what waits

-- a traverse that waits to be answered
abbrev pub pending_one : Traverse → TPending
pending_one t = record { traverse = t.number; node = t.node; db = t.db }

-- the traverses that have neither ended nor were answered, by number
abbrev pub pending : Walk → List TPending
pending walk = map pending_one walk.running

-- ---- a call

-- A call, by cases on the answer: the rule gives exactly the new walk and the lines; or it refuses the call exactly so, or memory
-- was wanting, and then nothing is changed
abbrev pub Walks : {X : Type 0} → (X → List TLine) → Result X TFault → Result Walked TFault → Walk → Walk → Type 0
Walks lines (Ok x) rule old new = rule ≡ Ok (record { walk = new; lines = lines x })
Walks lines (Err fault.NoMemory) rule old new = new ≡ old
Walks lines (Err f) rule old new = (rule ≡ Err f) × (new ≡ old)
