-- Where everything of a ladder stands.
use Rattle.std.specs.Prelude.{◌≡◌, ℕ, ◌+◌, ◌-◌, ◌*◌, ◌==◌, max, nat_lt, Bool, true, false, if◌then◌else◌, List, [], ◌∷◌, ◌++◌, length, map, codes, replicate, slice_get, slice_set, Option, None, Some}
use Rattle.std.specs.Fmt.{decimal}
use Rattle.std.specs.List.{flat_map, range_with_len}
use Rattle.ct_picture.specs.declared.row.Look.{Look}
use Rattle.ct_picture.specs.declared.row.Look.TheVariants as look
use Rattle.ct_picture.specs.declared.row.Row.{Row}
use Rattle.ct_picture.specs.declared.row.RowKind.{RowKind}
use Rattle.ct_picture.specs.declared.row.RowKind.TheVariants as kind
use Rattle.ct_picture.specs.declared.shape.Hand.TheVariants as hand
use Rattle.ct_picture.specs.declared.shape.Lane.{Lane}
use Rattle.ct_picture.specs.declared.shape.Group.{Group}
use Rattle.ct_picture.specs.declared.shape.Picture.{Picture}
use Rattle.ct_picture.specs.declared.shape.Shape.{Shape}
use Rattle.ct_picture.specs.declared.shape.Shape.TheVariants as shape
use Rattle.ct_picture.specs.declared.shape.Tip.{Tip}
use Rattle.ct_picture.specs.declared.shape.Tip.TheVariants as tip
use Rattle.ct_picture.specs.Drawing.{begun, closed, fresh, height_of, label_x, nodes_in, or_lane, shapes_of, short, strip, width_of, x_of, y_of}
use Rattle.ct_ladder.specs.declared.rung.Counts.{Counts}
use Rattle.ct_ladder.specs.declared.rung.Ending.{Ending}
use Rattle.ct_ladder.specs.declared.rung.Fate.{Fate}
use Rattle.ct_ladder.specs.declared.rung.Fate.TheVariants as fate
use Rattle.ct_ladder.specs.declared.rung.Rung.{Rung}
use Rattle.ct_ladder.specs.declared.rung.Shown.{Shown}
use Rattle.ct_ladder.specs.declared.rung.Shown.TheVariants as shown

-- ---- how messages ended

abbrev pub ending_behind : ℕ → Ending → List (List Ending) → Option (List Ending) → List (List Ending)
ending_behind number e table None = table
ending_behind number e table (Some es) = slice_set table number (es ++ e ∷ [])

-- an ending stands behind those of its message; what is told of the message of a number stands at that place
abbrev pub with_ending : ℕ → Ending → List (List Ending) → List (List Ending)
with_ending number e table = ending_behind number e table (slice_get table number)

-- what row i tells of a message: it came there, came once more, or was lost
abbrev pub noted : ℕ → Fate → List (List Ending) → List (List Ending)
noted i fate.Still table = table
noted i (fate.Came number) table = with_ending number (record { at = i; tip = tip.Head }) table
noted i (fate.CameAgain number) table = with_ending number (record { at = i; tip = tip.Again }) table
noted i (fate.Lost number) table = with_ending number (record { at = i; tip = tip.Cross }) table

-- what rows tell, the first of which has this number
abbrev pub table_from : ℕ → List (List Ending) → List Rung → List (List Ending)
table_from i table [] = table
table_from i table (rung ∷ rungs) = table_from (i + 1) (noted i rung.fate table) rungs

abbrev pub or_untold : Option (List Ending) → List Ending
or_untold None = []
or_untold (Some es) = es

-- what is told of the message of a number
abbrev pub endings_of : List (List Ending) → ℕ → List Ending
endings_of table number = or_untold (slice_get table number)

-- ---- a message

-- beside the receiver's lifeline, on the sender's side
abbrev pub beside : ℕ → ℕ → ℕ
beside sender receiver = if nat_lt sender receiver then x_of receiver - 55 else x_of receiver + 55

-- an arrow ends at the receiver's lifeline, or beside it where nothing came
abbrev pub end_x : ℕ → ℕ → Tip → ℕ
end_x sender receiver tip.Head = x_of receiver
end_x sender receiver tip.Again = x_of receiver
end_x sender receiver tip.Cross = beside sender receiver
end_x sender receiver tip.Open = beside sender receiver

abbrev pub end_at : ℕ → Tip → ℕ
end_at i tip.Head = y_of i
end_at i tip.Again = y_of i
end_at i tip.Cross = y_of i + 12
end_at i tip.Open = y_of i + 18

-- and where its row begins, or in the row
abbrev pub end_y : Ending → ℕ
end_y e = end_at e.at e.tip

-- from the sender's lifeline in row i; to a node itself it goes by the right
abbrev pub arrow : ℕ → ℕ → ℕ → Look → Ending → Shape
arrow i sender receiver l e =
    if sender == receiver
    then shape.Turn (x_of sender) (y_of i) (x_of sender + 30) (end_y e) l e.tip
    else shape.Arrow (x_of sender) (y_of i) (end_x sender receiver e.tip) (end_y e) l e.tip

-- a message that never ended is under way
abbrev pub under_way : ℕ → ℕ → ℕ → Look → List Ending → List Shape
under_way i sender receiver l [] = arrow i sender receiver l (record { at = i; tip = tip.Open }) ∷ []
under_way i sender receiver l (e ∷ es) = []

-- the label beside the sender
abbrev pub label : ℕ → ℕ → ℕ → List ℕ → Shape
label i sender receiver text =
    if sender == receiver
    then shape.Words (x_of sender + 30) (y_of i + 16) hand.Start text
    else shape.Words (label_x sender receiver) (y_of i + 7) hand.Middle text

-- an arrow for each time that the message ended, and its label
unfoldable pub sent_at : ℕ → ℕ → ℕ → Look → List Ending → List ℕ → List Shape
sent_at i sender receiver l endings text =
    under_way i sender receiver l endings ++ map (arrow i sender receiver l) endings ++ label i sender receiver text ∷ []

-- ---- rows

-- messages of a walk have numbers of their own, and nothing is told of them
abbrev pub is_walk : Look → Bool
is_walk look.Traverse = true
is_walk look.Record = false
is_walk look.Copies = false
is_walk look.Round = false
is_walk look.Commit = false
is_walk look.Addresses = false

-- the shapes of a line of the run in row i
abbrev pub shapes_at : ℕ → List (List Ending) → RowKind → List ℕ → List Shape
shapes_at i table (kind.Sent number sender receiver l) text =
    if is_walk l
    then shapes_of i (kind.Sent number sender receiver l) text
    else sent_at i sender receiver l (endings_of table number) (short text)
shapes_at i table (kind.At node) text = shapes_of i (kind.At node) text
shapes_at i table (kind.Installed node generation) text = shapes_of i (kind.Installed node generation) text
shapes_at i table (kind.Stopped node) text = shapes_of i (kind.Stopped node) text
shapes_at i table (kind.Started node) text = shapes_of i (kind.Started node) text
shapes_at i table kind.Beside text = shapes_of i kind.Beside text
shapes_at i table kind.Column text = shapes_of i kind.Column text
shapes_at i table kind.Across text = shapes_of i kind.Across text

-- a line of the run as one element, whose title it is
unfoldable pub told_group : ℕ → List (List Ending) → Row → Group
told_group i table row = record { title = row.line; shapes = shapes_at i table row.kind row.label }

-- a line of the scenario as one element, whose title it is
unfoldable pub said_group : ℕ → List ℕ → Group
said_group i said = record { title = said; shapes = shape.Words 10 (y_of i + 16) hand.Said (short said) ∷ [] }

-- what stands in row i
abbrev pub shown_groups : ℕ → List (List Ending) → Shown → List Group
shown_groups i table shown.Nothing = []
shown_groups i table (shown.Told row) = told_group i table row ∷ []
shown_groups i table (shown.Said said) = said_group i said ∷ []

-- rows, the first of which has this number
abbrev pub groups_from : ℕ → List (List Ending) → List Rung → List Group
groups_from i table [] = []
groups_from i table (rung ∷ rungs) = shown_groups i table rung.shown ++ groups_from (i + 1) table rungs

-- the line that a row shows
abbrev pub line_of : Shown → List (List ℕ)
line_of shown.Nothing = []
line_of (shown.Told row) = row.line ∷ []
line_of (shown.Said said) = said ∷ []

abbrev pub told_by : Rung → List (List ℕ)
told_by rung = line_of rung.shown

-- ---- lifelines

-- how many nodes there are at least, where a row tells of these
abbrev pub nodes_at : Shown → ℕ
nodes_at shown.Nothing = 0
nodes_at (shown.Told row) = nodes_in row.kind
nodes_at (shown.Said said) = 0

abbrev pub nodes_from : ℕ → List Rung → ℕ
nodes_from n [] = n
nodes_from n (rung ∷ rungs) = nodes_from (max n (nodes_at rung.shown)) rungs

-- how a node's lifeline goes on from row i, where that changes it
abbrev pub begun_at : ℕ → ℕ → Shown → Option Lane
begun_at node i shown.Nothing = None
begun_at node i (shown.Told row) = begun node i row.kind
begun_at node i (shown.Said said) = None

-- a node's lifeline over rows, the first of which has this number
abbrev pub strips : ℕ → ℕ → Lane → List Rung → List Shape
strips node i lane [] = strip node lane i
strips node i lane (rung ∷ rungs) = closed node lane i (begun_at node i rung.shown) ++ strips node (i + 1) (or_lane lane (begun_at node i rung.shown)) rungs

-- a node's name, and its lifeline
unfoldable pub lifeline : List Rung → ℕ → List Shape
lifeline rungs node = shape.Words (x_of node) 56 hand.Middle (codes "node " ++ decimal node) ∷ strips node 0 (fresh 0) rungs

-- ---- the whole

abbrev pub line_count : Shown → ℕ
line_count shown.Nothing = 0
line_count (shown.Told row) = 1
line_count (shown.Said said) = 0

abbrev pub came_count : Fate → ℕ
came_count fate.Still = 0
came_count (fate.Came number) = 1
came_count (fate.CameAgain number) = 0
came_count (fate.Lost number) = 0

-- how many lines of the run rows show, and in how many a message came
abbrev pub counts_from : Counts → List Rung → Counts
counts_from n [] = n
counts_from n (rung ∷ rungs) = counts_from (record { lines = n.lines + line_count rung.shown; came = n.came + came_count rung.fate }) rungs

abbrev pub heading : ℕ → Counts → List ℕ
heading nodes n = codes "nodes: " ++ decimal nodes ++ codes ", lines: " ++ decimal n.lines ++ codes ", messages that came: " ++ decimal n.came

-- what stands behind the rows
abbrev pub back_of : ℕ → List Rung → List Shape
back_of nodes rungs = shape.Words 10 24 hand.Start (heading nodes (counts_from (record { lines = 0; came = 0 }) rungs)) ∷ flat_map (lifeline rungs) (range_with_len 0 nodes)

-- what rows tell of the messages that were sent in them
abbrev pub table_of : List Rung → List (List Ending)
table_of rungs = table_from 0 (replicate (length rungs + 1) []) rungs

-- the picture of so many nodes
abbrev pub ladder_with : ℕ → List Rung → Picture
ladder_with nodes rungs = record { width = width_of nodes; height = height_of (length rungs); back = back_of nodes rungs; rows = groups_from 0 (table_of rungs) rungs }

-- the picture of a ladder of so many nodes at least
unfoldable pub ladder_of : ℕ → List Rung → Picture
ladder_of least rungs = ladder_with (nodes_from least rungs) rungs
