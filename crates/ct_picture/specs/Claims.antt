-- What is claimed of a picture.
use Rattle.std.specs.Prelude.{◌≡◌, ◌≤◌, ◌<◌, ◌+◌, ℕ, List, map}
use Rattle.std.specs.List.{All}
use Rattle.ct_picture.specs.declared.shape.Group.{Group}
use Rattle.ct_picture.specs.declared.shape.Picture.{Picture}
use Rattle.ct_picture.specs.declared.shape.Shape.{Shape}
use Rattle.ct_picture.specs.declared.shape.Shape.TheVariants as shape

-- a point of a picture of this width and height
abbrev pub At : ℕ → ℕ → ℕ → ℕ → Type 0
At width height x y = (x ≤ width) × (y ≤ height)

-- no point of a shape is outside
unfoldable pub IsInside : ℕ → ℕ → Shape → Type 0
IsInside width height (shape.Arrow x1 y1 x2 y2 l t) = At width height x1 y1 × At width height x2 y2
IsInside width height (shape.Turn x y1 far y2 l t) = At width height x y1 × At width height far y2
IsInside width height (shape.Dot x y) = At width height x y
IsInside width height (shape.Life x y1 y2 runs) = At width height x y1 × At width height x y2
IsInside width height (shape.Band x y w h hue) = At width height (x + w) (y + h)
IsInside width height (shape.Words x y hand words) = At width height x y

-- nothing of a picture is outside of it
pub record AllInside (p : Picture) : Type 0 where
  pub back : All (IsInside p.width p.height) p.back
  pub rows : All (λ g. All (IsInside p.width p.height) g.shapes) p.rows
