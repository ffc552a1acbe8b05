-- How a picture is spelled, as SVG.
use Rattle.std.specs.Prelude.{ℕ, ◌==◌, Bool, true, false, if◌then◌else◌, List, [], ◌∷◌, ◌++◌, codes}
use Rattle.std.specs.Fmt.{decimal}
use Rattle.std.specs.List.{flat_map}
use Rattle.ct_picture.specs.declared.row.Look.{Look}
use Rattle.ct_picture.specs.declared.row.Look.TheVariants as look
use Rattle.ct_picture.specs.declared.shape.Hand.{Hand}
use Rattle.ct_picture.specs.declared.shape.Hand.TheVariants as hand
use Rattle.ct_picture.specs.declared.shape.Group.{Group}
use Rattle.ct_picture.specs.declared.shape.Picture.{Picture}
use Rattle.ct_picture.specs.declared.shape.Shape.{Shape}
use Rattle.ct_picture.specs.declared.shape.Shape.TheVariants as shape
use Rattle.ct_picture.specs.declared.shape.Tip.{Tip}
use Rattle.ct_picture.specs.declared.shape.Tip.TheVariants as tip

-- a byte of a text: the four that mean something else are written by name
abbrev pub escaped_byte : ℕ → List ℕ
escaped_byte b =
    if b == 38
    then codes "&amp;"
    else if b == 60
    then codes "&lt;"
    else if b == 62
    then codes "&gt;"
    else if b == 34
    then codes "&quot;"
    else b ∷ []

abbrev pub escaped : List ℕ → List ℕ
escaped text = flat_map escaped_byte text

-- the class of a message
abbrev pub class_of : Look → List ℕ
class_of look.Record = codes "record"
class_of look.Copies = codes "copies"
class_of look.Round = codes "round"
class_of look.Commit = codes "commit"
class_of look.Addresses = codes "addresses"
class_of look.Traverse = codes "traverse"

-- the class of how an arrow ends, behind that of its message
abbrev pub tip_of : Tip → List ℕ
tip_of tip.Head = codes ""
tip_of tip.Again = codes " again"
tip_of tip.Cross = codes " cross"
tip_of tip.Open = codes " open"

abbrev pub look_text : Look → Tip → List ℕ
look_text l t = codes "\" class=\"" ++ class_of l ++ tip_of t ++ codes "\"/>\n"

-- the class of words
abbrev pub hand_of : Hand → List ℕ
hand_of hand.Start = codes "start"
hand_of hand.Middle = codes "middle"
hand_of hand.Said = codes "said"

abbrev pub life_of : Bool → List ℕ
life_of true = codes "life"
life_of false = codes "down"

-- one element
unfoldable pub shape_text : Shape → List ℕ
shape_text (shape.Arrow x1 y1 x2 y2 l t) =
    codes "<path d=\"M" ++ decimal x1 ++ codes " " ++ decimal y1 ++ codes "L" ++ decimal x2 ++ codes " " ++ decimal y2 ++ look_text l t
shape_text (shape.Turn x y1 far y2 l t) =
    codes "<path d=\"M" ++ decimal x ++ codes " " ++ decimal y1 ++ codes "C" ++ decimal far ++ codes " " ++ decimal y1 ++ codes " " ++ decimal far
    ++ codes " " ++ decimal y2 ++ codes " " ++ decimal x ++ codes " " ++ decimal y2 ++ look_text l t
shape_text (shape.Dot x y) = codes "<circle" ++ codes " cx=\"" ++ decimal x ++ codes "\" cy=\"" ++ decimal y ++ codes "\" r='4'/>\n"
shape_text (shape.Life x y1 y2 runs) =
    codes "<path d=\"M" ++ decimal x ++ codes " " ++ decimal y1 ++ codes "V" ++ decimal y2 ++ codes "\" class=\"" ++ life_of runs ++ codes "\"/>\n"
shape_text (shape.Band x y width height hue) =
    codes "<rect x=\"" ++ decimal x ++ codes "\" y=\"" ++ decimal y ++ codes "\" width=\"" ++ decimal width ++ codes "\" height=\"" ++ decimal height
    ++ codes "\" class=\"g" ++ decimal hue ++ codes "\"/>\n"
shape_text (shape.Words x y h words) =
    codes "<text x=\"" ++ decimal x ++ codes "\" y=\"" ++ decimal y ++ codes "\" class=\"" ++ hand_of h ++ codes "\">" ++ escaped words ++ codes "</text>\n"

-- an element with its title and what it shows
unfoldable pub group_text : Group → List ℕ
group_text g = codes "<g><title>" ++ escaped g.title ++ codes "</title>\n" ++ flat_map shape_text g.shapes ++ codes "</g>\n"

-- the look of all: colours that differ in lightness too, and others where the viewer wants it dark
unfoldable pub text_style : List ℕ
text_style =
    codes "<style>text{font:11px monospace;fill:#111;paint-order:stroke;stroke:#fff;stroke-width:4px}.middle{text-anchor:middle}.said{font-weight:bold}\n"

unfoldable pub path_style : List ℕ
path_style =
    codes "path{fill:none;stroke-width:1.6;marker-end:url(#head)}.life,.down{marker-end:none;stroke:#555}.down{stroke-dasharray:3 7}\n"

unfoldable pub message_style : List ℕ
message_style =
    codes ".record{stroke:#0072b2}.copies{stroke:#b35c00}.round{stroke:#8c2d6f}.commit{stroke:#00734f}.addresses{stroke:#111}\n"

unfoldable pub tip_style : List ℕ
tip_style =
    codes ".traverse{stroke:#555;stroke-dasharray:1 3}.again{stroke-dasharray:8 4}.cross{marker-end:url(#cross)}.open{marker-end:url(#open)}\n"

unfoldable pub ground_style : List ℕ
ground_style =
    codes "circle,.head{fill:#444}.back{fill:#fff}.g0{fill:none}.g1{fill:#d9d9d9}.g2{fill:#9fd0ee}.g3{fill:#f7dc94}.g4{fill:#a8dcc6}.g5{fill:#e9bcd6}\n"

unfoldable pub dark_style : List ℕ
dark_style =
    codes "@media(prefers-color-scheme:dark){text{fill:#eee;stroke:#111}.life,.down{stroke:#999}.record{stroke:#56b4e9}.copies{stroke:#f0a030}\n"

unfoldable pub dark_message_style : List ℕ
dark_message_style =
    codes ".round{stroke:#e8a0cc}.commit{stroke:#3fd0a0}.addresses{stroke:#eee}circle,.head{fill:#bbb}.back{fill:#111}\n"

unfoldable pub dark_ground_style : List ℕ
dark_ground_style =
    codes ".g1{fill:#444}.g2{fill:#1d4a66}.g3{fill:#5c4a10}.g4{fill:#1c5442}.g5{fill:#5e2f4c}}</style>\n"

abbrev pub style : List ℕ
style = text_style ++ path_style ++ message_style ++ tip_style ++ ground_style ++ dark_style ++ dark_message_style ++ dark_ground_style

-- how arrows end: with a head, with a cross, and with an open ring
unfoldable pub marker : List ℕ
marker =
    codes "<defs><marker id='head' viewBox='0 0 8 8' refX='8' refY='4' markerWidth='9' markerHeight='9' markerUnits='userSpaceOnUse' orient='auto'>\n"

unfoldable pub marker_path : List ℕ
marker_path =
    codes "<path d='M0 0L8 4L0 8z' style='marker-end:none;stroke:none' class='head'/></marker></defs>\n"

unfoldable pub cross_marker : List ℕ
cross_marker =
    codes "<defs><marker id='cross' viewBox='0 0 8 8' refX='4' refY='4' markerWidth='9' markerHeight='9' markerUnits='userSpaceOnUse'>\n"

unfoldable pub cross_path : List ℕ
cross_path = codes "<path d='M0 0L8 8M0 8L8 0' class='life'/></marker></defs>\n"

unfoldable pub open_marker : List ℕ
open_marker =
    codes "<defs><marker id='open' viewBox='0 0 8 8' refX='0' refY='4' markerWidth='9' markerHeight='9' markerUnits='userSpaceOnUse'>\n"

unfoldable pub open_path : List ℕ
open_path = codes "<circle cx='4' cy='4' r='3' style='fill:none' class='life'/></marker></defs>\n"

unfoldable pub ground : List ℕ
ground =
    codes "<rect width='100%' height='100%' class='back'/>\n"

abbrev pub preface : List ℕ
preface = marker ++ marker_path ++ cross_marker ++ cross_path ++ open_marker ++ open_path ++ ground

-- how it begins, with its width and height
unfoldable pub opening : List ℕ
opening = codes "<svg xmlns=\"http://www.w3.org/2000/svg\""

unfoldable pub head_of : ℕ → ℕ → List ℕ
head_of width height =
    opening ++ codes " viewBox=" ++ codes "'0 0 " ++ decimal width ++ codes " " ++ decimal height ++ codes "' width=\"" ++ decimal width ++ codes "\" height=\""
    ++ decimal height ++ codes "\">\n"

-- the text of a picture
unfoldable pub svg_of : Picture → List ℕ
svg_of p = head_of p.width p.height ++ style ++ preface ++ flat_map shape_text p.back ++ flat_map group_text p.rows ++ codes "</svg>\n"
