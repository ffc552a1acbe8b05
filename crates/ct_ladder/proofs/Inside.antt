-- Nothing of a ladder is outside of its picture, and its titles are the lines that its rows show.
use Rattle.std.proofs.Common.{◌≡◌, ◌≢◌, ℕ, zero, suc, ◌+◌, ◌-◌, ◌*◌, ◌≤◌, ◌<◌, ◌==◌, max, Bool, true, false, List, [], ◌∷◌, ◌++◌, length, map, replicate, Option, None, Some, refl, sym, ap, subst, ◌∙◌, append_assoc, arith}
use Rattle.std.specs.Prelude.{codes, nat_lt, slice_get, slice_index_or}
use Rattle.std.specs.Fmt.{decimal}
use Rattle.std.specs.List.{All, flat_map, range_with_len}
use Rattle.std.proofs.lemmas.Bool.{cond_both}
use Rattle.std.proofs.lemmas.List.Elements.{All-append, All-cons, All-map, All-nil, All-set, All-head, All-tail}
use Rattle.std.proofs.lemmas.Option.{get_or_from_slice_get, slice_get_within}
use Rattle.ct_picture.specs.declared.row.Look.{Look}
use Rattle.ct_picture.specs.declared.row.RowKind.{RowKind}
use Rattle.ct_picture.specs.declared.row.RowKind.TheVariants as kind
use Rattle.ct_picture.specs.declared.shape.Group.{Group}
use Rattle.ct_picture.specs.declared.shape.Hand.TheVariants as hand
use Rattle.ct_picture.specs.declared.shape.Lane.{Lane}
use Rattle.ct_picture.specs.declared.shape.Shape.{Shape}
use Rattle.ct_picture.specs.declared.shape.Shape.TheVariants as shape
use Rattle.ct_picture.specs.declared.shape.Tip.{Tip}
use Rattle.ct_picture.specs.declared.shape.Tip.TheVariants as tip
use Rattle.ct_picture.specs.Claims.{AllInside, IsInside}
use Rattle.ct_picture.specs.Drawing.{closed, fresh, height_of, label_x, nodes_in, or_lane, shapes_of, short, strip, width_of, x_of, y_of}
use Rattle.ct_picture.proofs.Inside.{Inside, IsIn, begun_before, closed_inside, label_in, more, one, row_inside, strip_inside, words_in}
use Rattle.ct_ladder.specs.declared.rung.Counts.{Counts}
use Rattle.ct_ladder.specs.declared.rung.Ending.{Ending}
use Rattle.ct_ladder.specs.declared.rung.Fate.{Fate}
use Rattle.ct_ladder.specs.declared.rung.Fate.TheVariants as fate
use Rattle.ct_ladder.specs.declared.rung.Rung.{Rung}
use Rattle.ct_ladder.specs.declared.rung.Shown.{Shown}
use Rattle.ct_ladder.specs.declared.rung.Shown.TheVariants as shown
use Rattle.ct_ladder.specs.Drawing.{arrow, back_of, begun_at, beside, counts_from, end_at, end_x, end_y, ending_behind, endings_of, groups_from, heading, is_walk, label, ladder_of, lifeline, line_of, nodes_at, nodes_from, noted, under_way, or_untold, said_group, sent_at, shapes_at, shown_groups, strips, table_from, table_of, told_by, told_group}

-- ---- titles

titles_behind : (xs ys : List Group) → map (λ g. g.title) (xs ++ ys) ≡ map (λ g. g.title) xs ++ map (λ g. g.title) ys
titles_behind [] ys = refl
titles_behind (x ∷ xs) ys = ap (λ later. x.title ∷ later) (titles_behind xs ys)

shown_titled : (i : ℕ) (table : List (List Ending)) (s : Shown) → map (λ g. g.title) (shown_groups i table s) ≡ line_of s
unfolding told_group said_group
shown_titled i table shown.Nothing = refl
shown_titled i table (shown.Told row) = refl
shown_titled i table (shown.Said said) = refl

-- each line that a row shows is the title of its element
titled : (i : ℕ) (table : List (List Ending)) (rungs : List Rung) → map (λ g. g.title) (groups_from i table rungs) ≡ flat_map told_by rungs
titled i table [] = refl
titled i table (rung ∷ rungs) =
    titles_behind (shown_groups i table rung.shown) (groups_from (i + 1) table rungs)
    ∙ ap (λ first. first ++ map (λ (g : Group). g.title) (groups_from (i + 1) table rungs)) (shown_titled i table rung.shown)
    ∙ ap (λ later. line_of rung.shown ++ later) (titled (i + 1) table rungs)

-- ---- how messages ended

-- each ending is in one of so many rows
abbrev AreWithin : ℕ → List Ending → Type 0
AreWithin all endings = All (λ e. e.at < all) endings

abbrev IsWithin : ℕ → List (List Ending) → Type 0
IsWithin all table = All (AreWithin all) table

found_within : (all number : ℕ) (table : List (List Ending)) (es : List Ending) → slice_get table number ≡ Some es → IsWithin all table → AreWithin all es
found_within all number table es is h = subst (AreWithin all) (get_or_from_slice_get table number es [] is) (h number [] (slice_get_within table number es is))

behind_within : (all number : ℕ) (e : Ending) (table : List (List Ending)) (found : Option (List Ending)) → slice_get table number ≡ found → e.at < all → IsWithin all table → IsWithin all (ending_behind number e table found)
behind_within all number e table None is lt h = h
behind_within all number e table (Some es) is lt h =
    All-set (AreWithin all) table number (es ++ e ∷ [])
    (All-append (λ (x : Ending). x.at < all) es (e ∷ []) (found_within all number table es is h) (All-cons (λ (x : Ending). x.at < all) e [] lt (All-nil _))) h

noted_within : (all i : ℕ) (f : Fate) (table : List (List Ending)) → i < all → IsWithin all table → IsWithin all (noted i f table)
noted_within all i fate.Still table lt h = h
noted_within all i (fate.Came n) table lt h = behind_within all n (record { at = i; tip = tip.Head }) table (slice_get table n) refl lt h
noted_within all i (fate.CameAgain n) table lt h = behind_within all n (record { at = i; tip = tip.Again }) table (slice_get table n) refl lt h
noted_within all i (fate.Lost n) table lt h = behind_within all n (record { at = i; tip = tip.Cross }) table (slice_get table n) refl lt h

table_within : (all i : ℕ) (table : List (List Ending)) (rungs : List Rung) → i + length rungs ≤ all → IsWithin all table → IsWithin all (table_from i table rungs)
table_within all i table [] le h = h
table_within all i table (rung ∷ rungs) le h = table_within all (i + 1) (noted i rung.fate table) rungs (omega arith) (noted_within all i rung.fate table (omega arith) h)

untold_within : (all n : ℕ) → IsWithin all (replicate n [])
untold_within all zero = All-nil _
untold_within all (suc n) = All-cons (AreWithin all) [] (replicate n []) (All-nil _) (untold_within all n)

or_untold_within : (all number : ℕ) (table : List (List Ending)) (found : Option (List Ending)) → slice_get table number ≡ found → IsWithin all table → AreWithin all (or_untold found)
or_untold_within all number table None is h = All-nil _
or_untold_within all number table (Some es) is h = found_within all number table es is h

endings_within : (all number : ℕ) (table : List (List Ending)) → IsWithin all table → AreWithin all (endings_of table number)
endings_within all number table h = or_untold_within all number table (slice_get table number) refl h

-- ---- messages

beside_in : (nodes s r : ℕ) → r < nodes → beside s r ≤ width_of nodes
beside_in nodes s r h = cond_both (nat_lt s r) (x_of r - 55) (x_of r + 55) (λ x. x ≤ width_of nodes) (λ _. omega arith) (λ _. omega arith)

end_x_in : (nodes s r : ℕ) (t : Tip) → r < nodes → end_x s r t ≤ width_of nodes
end_x_in nodes s r tip.Head h = omega arith
end_x_in nodes s r tip.Again h = omega arith
end_x_in nodes s r tip.Cross h = beside_in nodes s r h
end_x_in nodes s r tip.Open h = beside_in nodes s r h

end_y_in : (rows i : ℕ) (t : Tip) → i < rows → end_at i t ≤ height_of rows
end_y_in rows i tip.Head h = omega arith
end_y_in rows i tip.Again h = omega arith
end_y_in rows i tip.Cross h = omega arith
end_y_in rows i tip.Open h = omega arith

turn_in : (nodes rows i s y : ℕ) (l : Look) (t : Tip) → s < nodes → i < rows → y ≤ height_of rows → IsIn nodes rows (shape.Turn (x_of s) (y_of i) (x_of s + 30) y l t)
unfolding IsInside
turn_in nodes rows i s y l t hs hi hy = ((omega arith, omega arith), (omega arith, hy))

line_in : (nodes rows i s x y : ℕ) (l : Look) (t : Tip) → s < nodes → i < rows → x ≤ width_of nodes → y ≤ height_of rows → IsIn nodes rows (shape.Arrow (x_of s) (y_of i) x y l t)
unfolding IsInside
line_in nodes rows i s x y l t hs hi hx hy = ((omega arith, omega arith), (hx, hy))

arrow_inside : (nodes rows i s r : ℕ) (l : Look) (e : Ending) → s < nodes → r < nodes → i < rows → e.at < rows → IsIn nodes rows (arrow i s r l e)
arrow_inside nodes rows i s r l e hs hr hi he =
    cond_both (s == r)
    (shape.Turn (x_of s) (y_of i) (x_of s + 30) (end_y e) l e.tip)
    (shape.Arrow (x_of s) (y_of i) (end_x s r e.tip) (end_y e) l e.tip)
    (IsIn nodes rows)
    (λ _. turn_in nodes rows i s (end_y e) l e.tip hs hi (end_y_in rows e.at e.tip he))
    (λ _. line_in nodes rows i s (end_x s r e.tip) (end_y e) l e.tip hs hi (end_x_in nodes s r e.tip hr) (end_y_in rows e.at e.tip he))

-- a message that ended is not under way
pub ended_some : (i s r : ℕ) (l : Look) (endings : List Ending) → endings ≢ [] → under_way i s r l endings ≡ []
ended_some i s r l [] ne = absurd (ne refl)
ended_some i s r l (e ∷ es) ne = refl

open_inside : (nodes rows i s r : ℕ) (l : Look) (endings : List Ending) → s < nodes → r < nodes → i < rows → Inside nodes rows (under_way i s r l endings)
open_inside nodes rows i s r l [] hs hr hi = one nodes rows _ (arrow_inside nodes rows i s r l (record { at = i; tip = tip.Open }) hs hr hi hi)
open_inside nodes rows i s r l (e ∷ es) hs hr hi = All-nil _

arrows_inside : (nodes rows i s r : ℕ) (l : Look) (endings : List Ending) → s < nodes → r < nodes → i < rows → AreWithin rows endings → Inside nodes rows (map (arrow i s r l) endings)
arrows_inside nodes rows i s r l endings hs hr hi h =
    All-map (IsIn nodes rows) (arrow i s r l) endings (λ k d lt. arrow_inside nodes rows i s r l (slice_index_or endings k d) hs hr hi (h k d lt))

label_inside : (nodes rows i s r : ℕ) (text : List ℕ) → s < nodes → i < rows → IsIn nodes rows (label i s r text)
label_inside nodes rows i s r text hs hi =
    cond_both (s == r)
    (shape.Words (x_of s + 30) (y_of i + 16) hand.Start text)
    (shape.Words (label_x s r) (y_of i + 7) hand.Middle text)
    (IsIn nodes rows)
    (λ _. words_in nodes rows (x_of s + 30) (y_of i + 16) hand.Start text (omega arith) (omega arith))
    (λ _. words_in nodes rows (label_x s r) (y_of i + 7) hand.Middle text (label_in nodes s r hs) (omega arith))

sent_inside : (nodes rows i s r : ℕ) (l : Look) (endings : List Ending) (text : List ℕ) → s < nodes → r < nodes → i < rows → AreWithin rows endings → Inside nodes rows (sent_at i s r l endings text)
unfolding sent_at
sent_inside nodes rows i s r l endings text hs hr hi h =
    All-append (IsIn nodes rows) (under_way i s r l endings ++ map (arrow i s r l) endings) (label i s r text ∷ [])
    (All-append (IsIn nodes rows) (under_way i s r l endings) (map (arrow i s r l) endings) (open_inside nodes rows i s r l endings hs hr hi) (arrows_inside nodes rows i s r l endings hs hr hi h))
    (one nodes rows (label i s r text) (label_inside nodes rows i s r text hs hi))

-- ---- rows

shapes_inside : (nodes rows i : ℕ) (table : List (List Ending)) (k : RowKind) (text : List ℕ) → nodes_in k ≤ nodes → i < rows → IsWithin rows table → Inside nodes rows (shapes_at i table k text)
shapes_inside nodes rows i table (kind.Sent number s r l) text h hi w =
    cond_both (is_walk l)
    (shapes_of i (kind.Sent number s r l) text)
    (sent_at i s r l (endings_of table number) (short text))
    (Inside nodes rows)
    (λ _. row_inside nodes rows i (kind.Sent number s r l) text h hi)
    (λ _. sent_inside nodes rows i s r l (endings_of table number) (short text) (omega arith) (omega arith) hi (endings_within rows number table w))
shapes_inside nodes rows i table (kind.At n) text h hi w = row_inside nodes rows i (kind.At n) text h hi
shapes_inside nodes rows i table (kind.Installed n g) text h hi w = row_inside nodes rows i (kind.Installed n g) text h hi
shapes_inside nodes rows i table (kind.Stopped n) text h hi w = row_inside nodes rows i (kind.Stopped n) text h hi
shapes_inside nodes rows i table (kind.Started n) text h hi w = row_inside nodes rows i (kind.Started n) text h hi
shapes_inside nodes rows i table kind.Beside text h hi w = row_inside nodes rows i kind.Beside text h hi
shapes_inside nodes rows i table kind.Column text h hi w = row_inside nodes rows i kind.Column text h hi
shapes_inside nodes rows i table kind.Across text h hi w = row_inside nodes rows i kind.Across text h hi

abbrev AreInside : ℕ → ℕ → List Group → Type 0
AreInside nodes rows groups = All (λ g. Inside nodes rows g.shapes) groups

only : (nodes rows : ℕ) (g : Group) → Inside nodes rows g.shapes → AreInside nodes rows (g ∷ [])
only nodes rows g h = All-cons (λ (x : Group). Inside nodes rows x.shapes) g [] h (All-nil _)

shown_inside : (nodes rows i : ℕ) (table : List (List Ending)) (s : Shown) → nodes_at s ≤ nodes → i < rows → IsWithin rows table → AreInside nodes rows (shown_groups i table s)
unfolding told_group said_group
shown_inside nodes rows i table shown.Nothing h hi w = All-nil _
shown_inside nodes rows i table (shown.Told row) h hi w = only nodes rows (told_group i table row) (shapes_inside nodes rows i table row.kind row.label h hi w)
shown_inside nodes rows i table (shown.Said said) h hi w = only nodes rows (said_group i said) (one nodes rows _ (words_in nodes rows 10 (y_of i + 16) hand.Said (short said) (omega arith) (omega arith)))

-- no number of nodes is less than it was
grows : (n : ℕ) (rungs : List Rung) → n ≤ nodes_from n rungs
grows n [] = omega arith
grows n (rung ∷ rungs) = let k = grows (max n (nodes_at rung.shown)) rungs in omega arith

-- each row's nodes are counted
counted : (n : ℕ) (rungs : List Rung) (nodes : ℕ) → nodes_from n rungs ≡ nodes → All (λ r. nodes_at r.shown ≤ nodes) rungs
counted n [] nodes is = All-nil _
counted n (rung ∷ rungs) nodes is =
    let k = grows (max n (nodes_at rung.shown)) rungs in
    All-cons (λ (r : Rung). nodes_at r.shown ≤ nodes) rung rungs (omega arith) (counted (max n (nodes_at rung.shown)) rungs nodes is)

rows_inside : (nodes all i : ℕ) (table : List (List Ending)) (rungs : List Rung) → All (λ r. nodes_at r.shown ≤ nodes) rungs → i + length rungs ≤ all → IsWithin all table → AreInside nodes all (groups_from i table rungs)
rows_inside nodes all i table [] few h w = All-nil _
rows_inside nodes all i table (rung ∷ rungs) few h w =
    All-append (λ (g : Group). Inside nodes all g.shapes) (shown_groups i table rung.shown) (groups_from (i + 1) table rungs)
    (shown_inside nodes all i table rung.shown (All-head (λ (r : Rung). nodes_at r.shown ≤ nodes) rung rungs few) (omega arith) w)
    (rows_inside nodes all (i + 1) table rungs (All-tail (λ (r : Rung). nodes_at r.shown ≤ nodes) rung rungs few) (omega arith) w)

-- ---- lifelines

-- a lifeline never begins below where it stands
begun_at_before : (node i : ℕ) (s : Shown) (lane : Lane) → lane.begun ≤ i → (or_lane lane (begun_at node i s)).begun ≤ i
begun_at_before node i shown.Nothing lane h = h
begun_at_before node i (shown.Told row) lane h = begun_before node i row.kind lane h
begun_at_before node i (shown.Said said) lane h = h

strips_inside : (nodes all node i : ℕ) (lane : Lane) (rungs : List Rung) → node < nodes → lane.begun ≤ i → i + length rungs ≤ all → Inside nodes all (strips node i lane rungs)
strips_inside nodes all node i lane [] hn hb h = strip_inside nodes all node lane i hn hb (omega arith)
strips_inside nodes all node i lane (rung ∷ rungs) hn hb h =
    All-append (IsIn nodes all) (closed node lane i (begun_at node i rung.shown)) (strips node (i + 1) (or_lane lane (begun_at node i rung.shown)) rungs)
    (closed_inside nodes all node lane i (begun_at node i rung.shown) hn hb (omega arith))
    (let b = begun_at_before node i rung.shown lane hb in strips_inside nodes all node (i + 1) (or_lane lane (begun_at node i rung.shown)) rungs hn (omega arith) (omega arith))

lifeline_inside : (nodes node : ℕ) (rungs : List Rung) → node < nodes → Inside nodes (length rungs) (lifeline rungs node)
unfolding lifeline
lifeline_inside nodes node rungs h =
    more nodes (length rungs) (shape.Words (x_of node) 56 hand.Middle (codes "node " ++ decimal node)) (strips node 0 (fresh 0) rungs)
    (words_in nodes (length rungs) (x_of node) 56 hand.Middle (codes "node " ++ decimal node) (omega arith) (omega arith))
    (strips_inside nodes (length rungs) node 0 (fresh 0) rungs h (omega arith) (omega arith))

lifelines_inside : (nodes from many : ℕ) (rungs : List Rung) → from + many ≤ nodes → Inside nodes (length rungs) (flat_map (lifeline rungs) (range_with_len from many))
lifelines_inside nodes from zero rungs h = All-nil _
lifelines_inside nodes from (suc many) rungs h =
    All-append (IsIn nodes (length rungs)) (lifeline rungs from) (flat_map (lifeline rungs) (range_with_len (from + 1) many))
    (lifeline_inside nodes from rungs (omega arith)) (lifelines_inside nodes (from + 1) many rungs (omega arith))

back_inside : (nodes : ℕ) (rungs : List Rung) → Inside nodes (length rungs) (back_of nodes rungs)
back_inside nodes rungs =
    let title = heading nodes (counts_from (record { lines = 0; came = 0 }) rungs) in
    more nodes (length rungs) (shape.Words 10 24 hand.Start title) (flat_map (lifeline rungs) (range_with_len 0 nodes))
    (words_in nodes (length rungs) 10 24 hand.Start title (omega arith) (omega arith))
    (lifelines_inside nodes 0 nodes rungs (omega arith))

-- nothing of a ladder is outside of its picture
pub all_inside : (least : ℕ) (rungs : List Rung) → AllInside (ladder_of least rungs)
unfolding ladder_of
all_inside least rungs =
    let nodes = nodes_from least rungs in
    let all = length rungs in
    record {
      back = back_inside nodes rungs;
      rows = rows_inside nodes all 0 (table_of rungs) rungs (counted least rungs nodes refl) (omega arith) (table_within all 0 (replicate (length rungs + 1) []) rungs (omega arith) (untold_within all (length rungs + 1)));
    }

pub all_titled : (least : ℕ) (rungs : List Rung) → map (λ g. g.title) (ladder_of least rungs).rows ≡ flat_map told_by rungs
unfolding ladder_of
all_titled least rungs = titled 0 (table_of rungs) rungs
