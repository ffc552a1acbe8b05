-- Where everything of a picture stands.
use Rattle.std.specs.Prelude.{◌≡◌, ◌≤◌, ℕ, ◌+◌, ◌-◌, ◌*◌, ◌%◌, ◌==◌, max, nat_le, nat_lt, Bool, true, false, if◌then◌else◌, List, [], ◌∷◌, ◌++◌, length, take, map, slice_get, codes, Option, None, Some}
use Rattle.std.specs.Fmt.{decimal}
use Rattle.std.specs.List.{flat_map, range_with_len, All}
use Rattle.ct_picture.specs.declared.row.Look.{Look}
use Rattle.ct_picture.specs.declared.row.Row.{Row}
use Rattle.ct_picture.specs.declared.row.RowKind.{RowKind}
use Rattle.ct_picture.specs.declared.row.RowKind.TheVariants as kind
use Rattle.ct_picture.specs.declared.shape.Hand.TheVariants as hand
use Rattle.ct_picture.specs.declared.shape.Lane.{Lane}
use Rattle.ct_picture.specs.declared.shape.Group.{Group}
use Rattle.ct_picture.specs.declared.shape.Picture.{Picture}
use Rattle.ct_picture.specs.declared.shape.Shape.{Shape}
use Rattle.ct_picture.specs.declared.shape.Shape.TheVariants as shape
use Rattle.ct_picture.specs.declared.shape.Tip.TheVariants as tip

-- where the lifeline of a node stands
abbrev pub x_of : ℕ → ℕ
x_of node = 230 + 220 * node

-- where a row begins, and the one before it ends
abbrev pub y_of : ℕ → ℕ
y_of i = 72 + 24 * i

-- half a column from the sender's lifeline on the receiver's side, where no lifeline stands
abbrev pub label_x : ℕ → ℕ → ℕ
label_x sender receiver = if nat_lt sender receiver then x_of sender + 110 else x_of sender - 110

abbrev pub width_of : ℕ → ℕ
width_of nodes = 230 + 220 * nodes

abbrev pub height_of : ℕ → ℕ
height_of rows = 96 + 24 * rows

-- at most 26 signs of a label
abbrev pub short : List ℕ → List ℕ
short label = if nat_le (length label) 26 then label else take 24 label ++ codes ".."

-- an arrow from the sender's lifeline to the receiver's, one row below, and the label beside the sender; to a node itself it goes by the right
abbrev pub message : ℕ → ℕ → ℕ → Look → List ℕ → List Shape
message i sender receiver l label =
    if sender == receiver
    then shape.Turn (x_of sender) (y_of i) (x_of sender + 30) (y_of (i + 1)) l tip.Head ∷ shape.Words (x_of sender + 30) (y_of i + 16) hand.Start label ∷ []
    else shape.Arrow (x_of sender) (y_of i) (x_of receiver) (y_of (i + 1)) l tip.Head ∷ shape.Words (label_x sender receiver) (y_of i + 7) hand.Middle label ∷ []

-- a dot on a node's lifeline, and the label beside it
abbrev pub note : ℕ → ℕ → List ℕ → List Shape
note i node label = shape.Dot (x_of node) (y_of i + 12) ∷ shape.Words (x_of node + 14) (y_of i + 16) hand.Start label ∷ []

-- a label left of all lifelines
abbrev pub aside : ℕ → List ℕ → List Shape
aside i label = shape.Words 10 (y_of i + 16) hand.Start label ∷ []

-- the shapes of row i, from 0
abbrev pub shapes_of : ℕ → RowKind → List ℕ → List Shape
shapes_of i (kind.Sent number sender receiver l) label = message i sender receiver l (short label)
shapes_of i (kind.At node) label = note i node (short label)
shapes_of i (kind.Installed node generation) label = note i node (short label)
shapes_of i (kind.Stopped node) label = note i node (short label)
shapes_of i (kind.Started node) label = note i node (short label)
shapes_of i kind.Beside label = aside i (short label)
shapes_of i kind.Column label = aside i label
shapes_of i kind.Across label = aside i label

-- a row as one element, whose title is its line
unfoldable pub group_of : ℕ → Row → Group
group_of i row = record { title = row.line; shapes = shapes_of i row.kind row.label }

-- rows, the first of which has this number
abbrev pub groups_from : ℕ → List Row → List Group
groups_from i [] = []
groups_from i (row ∷ rows) = group_of i row ∷ groups_from (i + 1) rows

-- how many nodes there are at least, where a row tells of these
abbrev pub nodes_in : RowKind → ℕ
nodes_in (kind.Sent number sender receiver l) = max (sender + 1) (receiver + 1)
nodes_in (kind.At node) = node + 1
nodes_in (kind.Installed node generation) = node + 1
nodes_in (kind.Stopped node) = node + 1
nodes_in (kind.Started node) = node + 1
nodes_in kind.Beside = 0
nodes_in kind.Column = 0
nodes_in kind.Across = 0

abbrev pub nodes_from : ℕ → List Row → ℕ
nodes_from n [] = n
nodes_from n (row ∷ rows) = nodes_from (max n (nodes_in row.kind)) rows

-- a lifeline before the first row: the node runs, in generation 1
abbrev pub fresh : ℕ → Lane
fresh i = record { begun = i; runs = true; generation = 1 }

abbrev pub of_node : ℕ → ℕ → Lane → Option Lane
of_node node n lane = if node == n then Some lane else None

-- how a node's lifeline goes on from row i, where that changes it: in a generation that is installed, down, or up in none
abbrev pub begun : ℕ → ℕ → RowKind → Option Lane
begun node i (kind.Installed n generation) = of_node node n (record { begun = i; runs = true; generation = generation })
begun node i (kind.Stopped n) = of_node node n (record { begun = i; runs = false; generation = 0 })
begun node i (kind.Started n) = of_node node n (record { begun = i; runs = true; generation = 0 })
begun node i kind.Column = Some (fresh i)
begun node i (kind.Sent number sender receiver l) = None
begun node i (kind.At n) = None
begun node i kind.Beside = None
begun node i kind.Across = None

-- one of five colours by generation, and none for none
abbrev pub hue_of : ℕ → ℕ
hue_of generation = if generation == 0 then 0 else 1 + generation % 5

-- a lifeline as far as row i: broken where the node is down, else with its generation's band behind it
abbrev pub strip : ℕ → Lane → ℕ → List Shape
strip node lane i =
    if lane.runs
    then shape.Band (x_of node - 9) (y_of lane.begun) 18 (y_of i - y_of lane.begun) (hue_of lane.generation) ∷ shape.Life (x_of node) (y_of lane.begun) (y_of i) true ∷ []
    else shape.Life (x_of node) (y_of lane.begun) (y_of i) false ∷ []

abbrev pub closed : ℕ → Lane → ℕ → Option Lane → List Shape
closed node lane i None = []
closed node lane i (Some next) = strip node lane i

abbrev pub or_lane : Lane → Option Lane → Lane
or_lane lane None = lane
or_lane lane (Some next) = next

-- a node's lifeline over rows, the first of which has this number
abbrev pub strips : ℕ → ℕ → Lane → List Row → List Shape
strips node i lane [] = strip node lane i
strips node i lane (row ∷ rows) = closed node lane i (begun node i row.kind) ++ strips node (i + 1) (or_lane lane (begun node i row.kind)) rows

-- a node's name, and its lifeline
unfoldable pub lifeline : List Row → ℕ → List Shape
lifeline rows node = shape.Words (x_of node) 56 hand.Middle (codes "node " ++ decimal node) ∷ strips node 0 (fresh 0) rows

abbrev pub count_line : RowKind → List ℕ → List ℕ
count_line kind.Across line = line
count_line k line = []

abbrev pub summary_in : Option Row → List ℕ
summary_in None = []
summary_in (Some row) = count_line row.kind row.line

-- the line that counts what a run did, where it ends with one
abbrev pub summary : List Row → List ℕ
summary rows = summary_in (slice_get rows (length rows - 1))

abbrev pub behind_comma : List ℕ → List ℕ
behind_comma [] = []
behind_comma (b ∷ bs) = codes ", " ++ b ∷ bs

abbrev pub heading : ℕ → ℕ → List ℕ → List ℕ
heading nodes rows counts = codes "nodes: " ++ decimal nodes ++ codes ", lines: " ++ decimal rows ++ behind_comma counts

-- what stands behind the rows
abbrev pub back_of : ℕ → List Row → List Shape
back_of nodes rows = shape.Words 10 24 hand.Start (heading nodes (length rows) (summary rows)) ∷ flat_map (lifeline rows) (range_with_len 0 nodes)

-- the picture of so many nodes
abbrev pub picture_with : ℕ → List Row → Picture
picture_with nodes rows = record { width = width_of nodes; height = height_of (length rows); back = back_of nodes rows; rows = groups_from 0 rows }

-- the picture of a run
unfoldable pub picture_of : List Row → Picture
picture_of rows = picture_with (nodes_from 0 rows) rows
