-- Nothing of a picture is outside of it, and its titles are the lines.
use Rattle.std.proofs.Common.{◌≡◌, ℕ, zero, suc, ◌+◌, ◌-◌, ◌*◌, ◌≤◌, ◌<◌, ◌==◌, max, Bool, true, false, List, [], ◌∷◌, ◌++◌, length, map, Option, None, Some, refl, sym, ap, ◌∙◌, arith}
use Rattle.std.specs.Prelude.{codes, nat_lt}
use Rattle.std.specs.Fmt.{decimal}
use Rattle.std.specs.List.{All, flat_map, range_with_len}
use Rattle.std.proofs.lemmas.Bool.{cond_both}
use Rattle.std.proofs.lemmas.List.Elements.{All-append, All-cons, All-head, All-nil, All-tail}
use Rattle.ct_picture.specs.declared.row.Look.{Look}
use Rattle.ct_picture.specs.declared.row.Row.{Row}
use Rattle.ct_picture.specs.declared.row.RowKind.{RowKind}
use Rattle.ct_picture.specs.declared.row.RowKind.TheVariants as kind
use Rattle.ct_picture.specs.declared.shape.Group.{Group}
use Rattle.ct_picture.specs.declared.shape.Hand.{Hand}
use Rattle.ct_picture.specs.declared.shape.Hand.TheVariants as hand
use Rattle.ct_picture.specs.declared.shape.Lane.{Lane}
use Rattle.ct_picture.specs.declared.shape.Shape.{Shape}
use Rattle.ct_picture.specs.declared.shape.Shape.TheVariants as shape
use Rattle.ct_picture.specs.declared.shape.Tip.TheVariants as tip
use Rattle.ct_picture.specs.Claims.{AllInside, IsInside}
use Rattle.ct_picture.specs.Drawing.{aside, back_of, begun, closed, fresh, group_of, groups_from, heading, height_of, hue_of, lifeline, message, label_x, nodes_from, nodes_in, note, of_node, or_lane, picture_of, shapes_of, short, strip, strips, summary, width_of, x_of, y_of}

-- each line is the title of its row's element
pub titled : (i : ℕ) (rows : List Row) → map (λ g. g.title) (groups_from i rows) ≡ map (λ r. r.line) rows
unfolding group_of
titled i [] = refl
titled i (row ∷ rows) = ap (λ later. row.line ∷ later) (titled (i + 1) rows)

-- shapes of a picture of so many nodes and rows
abbrev pub Inside : ℕ → ℕ → List Shape → Type 0
Inside nodes rows shapes = All (IsInside (width_of nodes) (height_of rows)) shapes

abbrev pub IsIn : ℕ → ℕ → Shape → Type 0
IsIn nodes rows s = IsInside (width_of nodes) (height_of rows) s

pub one : (nodes rows : ℕ) (a : Shape) → IsIn nodes rows a → Inside nodes rows (a ∷ [])
one nodes rows a h = All-cons (IsInside (width_of nodes) (height_of rows)) a [] h (All-nil (IsInside (width_of nodes) (height_of rows)))

pub more : (nodes rows : ℕ) (a : Shape) (shapes : List Shape) → IsIn nodes rows a → Inside nodes rows shapes → Inside nodes rows (a ∷ shapes)
more nodes rows a shapes h k = All-cons (IsInside (width_of nodes) (height_of rows)) a shapes h k

pub two : (nodes rows : ℕ) (a b : Shape) → IsIn nodes rows a → IsIn nodes rows b → Inside nodes rows (a ∷ b ∷ [])
two nodes rows a b h k = more nodes rows a (b ∷ []) h (one nodes rows b k)

pub words_in : (nodes rows x y : ℕ) (h : Hand) (label : List ℕ) → x ≤ width_of nodes → y ≤ height_of rows → IsIn nodes rows (shape.Words x y h label)
unfolding IsInside
words_in nodes rows x y h label a b = (a, b)

turn_in : (nodes rows i s : ℕ) (l : Look) → s < nodes → i < rows → IsIn nodes rows (shape.Turn (x_of s) (y_of i) (x_of s + 30) (y_of (i + 1)) l tip.Head)
unfolding IsInside
turn_in nodes rows i s l hs hi = ((omega arith, omega arith), (omega arith, omega arith))

arrow_in : (nodes rows i s r : ℕ) (l : Look) → s < nodes → r < nodes → i < rows → IsIn nodes rows (shape.Arrow (x_of s) (y_of i) (x_of r) (y_of (i + 1)) l tip.Head)
unfolding IsInside
arrow_in nodes rows i s r l hs hr hi = ((omega arith, omega arith), (omega arith, omega arith))

pub dot_in : (nodes rows i n : ℕ) → n < nodes → i < rows → IsIn nodes rows (shape.Dot (x_of n) (y_of i + 12))
unfolding IsInside
dot_in nodes rows i n h hi = (omega arith, omega arith)

pub label_in : (nodes s r : ℕ) → s < nodes → label_x s r ≤ width_of nodes
label_in nodes s r h = cond_both (nat_lt s r) (x_of s + 110) (x_of s - 110) (λ x. x ≤ width_of nodes) (λ _. omega arith) (λ _. omega arith)

message_inside : (nodes rows i s r : ℕ) (l : Look) (label : List ℕ) → s < nodes → r < nodes → i < rows → Inside nodes rows (message i s r l label)
message_inside nodes rows i s r l label hs hr hi =
    cond_both (s == r)
    (shape.Turn (x_of s) (y_of i) (x_of s + 30) (y_of (i + 1)) l tip.Head ∷ shape.Words (x_of s + 30) (y_of i + 16) hand.Start label ∷ [])
    (shape.Arrow (x_of s) (y_of i) (x_of r) (y_of (i + 1)) l tip.Head ∷ shape.Words (label_x s r) (y_of i + 7) hand.Middle label ∷ [])
    (Inside nodes rows)
    (λ _. two nodes rows _ _ (turn_in nodes rows i s l hs hi) (words_in nodes rows (x_of s + 30) (y_of i + 16) hand.Start label (omega arith) (omega arith)))
    (λ _. two nodes rows _ _ (arrow_in nodes rows i s r l hs hr hi) (words_in nodes rows (label_x s r) (y_of i + 7) hand.Middle label (label_in nodes s r hs) (omega arith)))

pub note_inside : (nodes rows i n : ℕ) (label : List ℕ) → n < nodes → i < rows → Inside nodes rows (note i n label)
note_inside nodes rows i n label h hi = two nodes rows _ _ (dot_in nodes rows i n h hi) (words_in nodes rows (x_of n + 14) (y_of i + 16) hand.Start label (omega arith) (omega arith))

aside_inside : (nodes rows i : ℕ) (label : List ℕ) → i < rows → Inside nodes rows (aside i label)
aside_inside nodes rows i label hi = one nodes rows _ (words_in nodes rows 10 (y_of i + 16) hand.Start label (omega arith) (omega arith))

-- the shapes of a row
pub row_inside : (nodes rows i : ℕ) (k : RowKind) (label : List ℕ) → nodes_in k ≤ nodes → i < rows → Inside nodes rows (shapes_of i k label)
row_inside nodes rows i (kind.Sent k s r l) label h hi = message_inside nodes rows i s r l (short label) (omega arith) (omega arith) hi
row_inside nodes rows i (kind.At n) label h hi = note_inside nodes rows i n (short label) (omega arith) hi
row_inside nodes rows i (kind.Installed n g) label h hi = note_inside nodes rows i n (short label) (omega arith) hi
row_inside nodes rows i (kind.Stopped n) label h hi = note_inside nodes rows i n (short label) (omega arith) hi
row_inside nodes rows i (kind.Started n) label h hi = note_inside nodes rows i n (short label) (omega arith) hi
row_inside nodes rows i kind.Beside label h hi = aside_inside nodes rows i (short label) hi
row_inside nodes rows i kind.Column label h hi = aside_inside nodes rows i label hi
row_inside nodes rows i kind.Across label h hi = aside_inside nodes rows i label hi

-- no number of nodes is less than it was
grows : (n : ℕ) (rows : List Row) → n ≤ nodes_from n rows
grows n [] = omega arith
grows n (row ∷ rows) = let k = grows (max n (nodes_in row.kind)) rows in omega arith

-- each row's nodes are counted
counted : (n : ℕ) (rows : List Row) (nodes : ℕ) → nodes_from n rows ≡ nodes → All (λ r. nodes_in r.kind ≤ nodes) rows
counted n [] nodes is = All-nil _
counted n (row ∷ rows) nodes is = let k = grows (max n (nodes_in row.kind)) rows in All-cons (λ r. nodes_in r.kind ≤ nodes) row rows (omega arith) (counted (max n (nodes_in row.kind)) rows nodes is)

rows_inside : (nodes all i : ℕ) (rows : List Row) → All (λ r. nodes_in r.kind ≤ nodes) rows → i + length rows ≤ all → All (λ g. Inside nodes all g.shapes) (groups_from i rows)
unfolding group_of
rows_inside nodes all i [] few h = All-nil _
rows_inside nodes all i (row ∷ rows) few h =
    All-cons (λ (g : Group). Inside nodes all g.shapes) (group_of i row) (groups_from (i + 1) rows)
    (row_inside nodes all i row.kind row.label (All-head (λ r. nodes_in r.kind ≤ nodes) row rows few) (omega arith))
    (rows_inside nodes all (i + 1) rows (All-tail (λ r. nodes_in r.kind ≤ nodes) row rows few) (omega arith))

band_in : (nodes all node begun i hue : ℕ) → node < nodes → begun ≤ i → i ≤ all → IsIn nodes all (shape.Band (x_of node - 9) (y_of begun) 18 (y_of i - y_of begun) hue)
unfolding IsInside
band_in nodes all node begun i hue hn hb hi = (omega arith, omega arith)

life_in : (nodes all node begun i : ℕ) (runs : Bool) → node < nodes → begun ≤ i → i ≤ all → IsIn nodes all (shape.Life (x_of node) (y_of begun) (y_of i) runs)
unfolding IsInside
life_in nodes all node begun i runs hn hb hi = ((omega arith, omega arith), (omega arith, omega arith))

pub strip_inside : (nodes all node : ℕ) (lane : Lane) (i : ℕ) → node < nodes → lane.begun ≤ i → i ≤ all → Inside nodes all (strip node lane i)
strip_inside nodes all node lane i hn hb hi =
    cond_both lane.runs
    (shape.Band (x_of node - 9) (y_of lane.begun) 18 (y_of i - y_of lane.begun) (hue_of lane.generation) ∷ shape.Life (x_of node) (y_of lane.begun) (y_of i) true ∷ [])
    (shape.Life (x_of node) (y_of lane.begun) (y_of i) false ∷ [])
    (Inside nodes all)
    (λ _. two nodes all _ _ (band_in nodes all node lane.begun i (hue_of lane.generation) hn hb hi) (life_in nodes all node lane.begun i true hn hb hi))
    (λ _. one nodes all _ (life_in nodes all node lane.begun i false hn hb hi))

pub closed_inside : (nodes all node : ℕ) (lane : Lane) (i : ℕ) (next : Option Lane) → node < nodes → lane.begun ≤ i → i ≤ all → Inside nodes all (closed node lane i next)
closed_inside nodes all node lane i None hn hb hi = All-nil _
closed_inside nodes all node lane i (Some next) hn hb hi = strip_inside nodes all node lane i hn hb hi

pub of_node_begun : (node n i : ℕ) (before lane : Lane) → before.begun ≤ i → lane.begun ≤ i → (or_lane before (of_node node n lane)).begun ≤ i
of_node_begun node n i before lane hb hl = cond_both (node == n) (Some lane) None (λ o. (or_lane before o).begun ≤ i) (λ _. hl) (λ _. hb)

-- a lifeline never begins below where it stands
pub begun_before : (node i : ℕ) (k : RowKind) (lane : Lane) → lane.begun ≤ i → (or_lane lane (begun node i k)).begun ≤ i
begun_before node i (kind.Installed n g) lane h = of_node_begun node n i lane _ h (omega arith)
begun_before node i (kind.Stopped n) lane h = of_node_begun node n i lane _ h (omega arith)
begun_before node i (kind.Started n) lane h = of_node_begun node n i lane _ h (omega arith)
begun_before node i kind.Column lane h = omega arith
begun_before node i (kind.Sent k s r l) lane h = h
begun_before node i (kind.At n) lane h = h
begun_before node i kind.Beside lane h = h
begun_before node i kind.Across lane h = h

strips_inside : (nodes all node i : ℕ) (lane : Lane) (rows : List Row) → node < nodes → lane.begun ≤ i → i + length rows ≤ all → Inside nodes all (strips node i lane rows)
strips_inside nodes all node i lane [] hn hb h = strip_inside nodes all node lane i hn hb (omega arith)
strips_inside nodes all node i lane (row ∷ rows) hn hb h =
    All-append (IsInside (width_of nodes) (height_of all)) (closed node lane i (begun node i row.kind)) (strips node (i + 1) (or_lane lane (begun node i row.kind)) rows) (closed_inside nodes all node lane i (begun node i row.kind) hn hb (omega arith))
    (let b = begun_before node i row.kind lane hb in strips_inside nodes all node (i + 1) (or_lane lane (begun node i row.kind)) rows hn (omega arith) (omega arith))

lifeline_inside : (nodes node : ℕ) (rows : List Row) → node < nodes → Inside nodes (length rows) (lifeline rows node)
unfolding lifeline
lifeline_inside nodes node rows h =
    more nodes (length rows) (shape.Words (x_of node) 56 hand.Middle (codes "node " ++ decimal node)) (strips node 0 (fresh 0) rows)
    (words_in nodes (length rows) (x_of node) 56 hand.Middle (codes "node " ++ decimal node) (omega arith) (omega arith))
    (strips_inside nodes (length rows) node 0 (fresh 0) rows h (omega arith) (omega arith))

lifelines_inside : (nodes from many : ℕ) (rows : List Row) → from + many ≤ nodes → Inside nodes (length rows) (flat_map (lifeline rows) (range_with_len from many))
lifelines_inside nodes from zero rows h = All-nil _
lifelines_inside nodes from (suc many) rows h =
    All-append (IsInside (width_of nodes) (height_of (length rows))) (lifeline rows from) (flat_map (lifeline rows) (range_with_len (from + 1) many))
    (lifeline_inside nodes from rows (omega arith)) (lifelines_inside nodes (from + 1) many rows (omega arith))

back_inside : (nodes : ℕ) (rows : List Row) → Inside nodes (length rows) (back_of nodes rows)
back_inside nodes rows =
    more nodes (length rows) (shape.Words 10 24 hand.Start (heading nodes (length rows) (summary rows))) (flat_map (lifeline rows) (range_with_len 0 nodes))
    (words_in nodes (length rows) 10 24 hand.Start (heading nodes (length rows) (summary rows)) (omega arith) (omega arith))
    (lifelines_inside nodes 0 nodes rows (omega arith))

-- nothing of the picture of a run is outside of it
pub all_inside : (rows : List Row) → AllInside (picture_of rows)
unfolding picture_of
all_inside rows =
    let nodes = nodes_from 0 rows in
    record { back = back_inside nodes rows; rows = rows_inside nodes (length rows) 0 rows (counted 0 rows nodes refl) (omega arith) }

pub all_titled : (rows : List Row) → map (λ g. g.title) (picture_of rows).rows ≡ map (λ r. r.line) rows
unfolding picture_of
all_titled rows = titled 0 rows
