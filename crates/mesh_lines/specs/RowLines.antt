-- The lines of vertices in the parts that those of a row of points have in common.
use Rattle.std.specs.Prelude.{◌≡◌, ℕ, ◌+◌, ◌-◌, ◌*◌, ◌/◌, ◌%◌, ◌<◌, ◌≤◌, ◌==◌, Bool, false, cond, if◌then◌else◌, List, [], ◌∷◌, ◌++◌, decimal, slice_index, slice_index_or}
use Rattle.iso_defs.specs.Bytes.{space, minus, dot, digit_zero}
use Rattle.iso_defs.specs.Place.{Position}
use Rattle.iso_defs.specs.Texts.{line}
use Rattle.mesh_text.specs.Pieces.{piece_text}
use Rattle.mesh_text.specs.declared.piece.Piece.{Piece}
use Rattle.mesh_lines.specs.Lines.{vertex_letter}
use Rattle.mesh_lines.specs.declared.row_texts.RowParts.{RowParts}
use Rattle.mesh_lines.specs.declared.style.Origin.{Origin}
use Rattle.mesh_lines.specs.declared.style.Origin.TheVariants.{Volume, Pad, Window, PaddedSlab}
use Rattle.mesh_lines.specs.declared.style.Style.{Style}

-- how lines are written, how many points the row has, and where it is
pub record RowPlace : Type 0 where
  pub style : Style
  pub count : ℕ
  pub y : ℕ
  pub z : ℕ

-- the position of the vertex on an edge of the row, by the edge's offset, three times how far its point is along x and its axis
abbrev pub edge_at : RowPlace → ℕ → ℕ → Position
edge_at row e p = (
  1000 * (e / 3) + (if 0 == e % 3 then p else 0),
  1000 * row.y + (if 1 == e % 3 then p else 0),
  1000 * row.z + (if 2 == e % 3 then p else 0),
)

-- the position in the cell x of the row that begins at these points
abbrev pub centre_at : RowPlace → ℕ → List ℕ → Position
centre_at row x at = (1000 * x + slice_index at 0, 1000 * row.y + slice_index at 1, 1000 * row.z + slice_index at 2)

-- a whole coordinate along an axis is that of a pad's layer, which is printed with a sign
abbrev pub is_layer : Origin → ℕ → ℕ → Bool
is_layer Volume axis n = false
is_layer Pad axis n = n == 0
is_layer (Window at) axis n = false
is_layer (PaddedSlab below) axis n = if axis == 2 then false else n == 0

-- a whole coordinate that begins with a pad's layer as it is printed, less its sign
abbrev pub size_in_pad : ℕ → ℕ
size_in_pad n = if n == 0 then 1 else n - 1

-- a whole coordinate along an axis as it is printed, less its sign
abbrev pub whole_size : Origin → ℕ → ℕ → ℕ
whole_size Volume axis n = n
whole_size Pad axis n = size_in_pad n
whole_size (Window at) axis n = slice_index (at.x ∷ at.y ∷ at.z ∷ []) axis + n
whole_size (PaddedSlab below) axis n = if axis == 2 then below + n else size_in_pad n

-- the sign, the number and the point
abbrev pub whole_text : Origin → ℕ → ℕ → List ℕ
whole_text origin axis n = cond (is_layer origin axis n) (minus ∷ []) [] ++ (decimal (whole_size origin axis n) ++ dot ∷ [])

-- a line up to the decimals of its first number
abbrev pub front_text : Style → ℕ → List ℕ
front_text style x = vertex_letter style.format ++ whole_text style.origin 0 x

-- a piece has a text of so many bytes at most
pub record IsPiece {N : ℕ} (piece : Piece N) (text : List ℕ) (most : ℕ) : Type 0 where
  pub has : piece_text piece ≡ text
  pub few : piece.len ≤ most

-- what stands in place of a piece that is not there
abbrev pub no_piece : {N : ℕ} → Piece N
no_piece = record { bytes = []; len = 0 }

-- the pieces have the first parts of the lines of so many points
abbrev pub AreFronts : Style → ℕ → List (Piece 16) → Type 0
AreFronts style count fronts = (x : ℕ) → x < count → IsPiece (slice_index_or fronts x no_piece) (front_text style x) 14

-- the coordinates 1 and 2 with the blanks before them
abbrev pub y_text : Origin → ℕ → List ℕ
y_text origin y = space ∷ whole_text origin 1 y

abbrev pub z_text : Origin → ℕ → List ℕ
z_text origin z = space ∷ whole_text origin 2 z

-- two pieces have the text of a coordinate along an axis and that of the next one, with the blank before it
pub record AreWholes (origin : Origin) (axis n : ℕ) (pieces : List (Piece 16)) : Type 0 where
  pub lower : IsPiece (slice_index_or pieces 0 no_piece) (space ∷ whole_text origin axis n) 12
  pub upper : IsPiece (slice_index_or pieces 1 no_piece) (space ∷ whole_text origin axis (n + 1)) 12

-- three zeros
abbrev pub zeros : List ℕ
zeros = digit_zero ∷ digit_zero ∷ digit_zero ∷ []

-- what stands between the first number's point and the decimals of a place along an axis
abbrev pub middle_text : Origin → ℕ → ℕ → ℕ → List ℕ
middle_text origin axis y z =
    if axis == 0 then [] else (if axis == 1 then zeros ++ y_text origin y
    else zeros ++ (y_text origin y ++ (zeros ++ z_text origin z)))

-- and behind these decimals
abbrev pub tail_text : Origin → ℕ → ℕ → ℕ → List ℕ
tail_text origin axis y z =
    if axis == 0 then y_text origin y ++ (zeros ++ (z_text origin z ++ line zeros))
    else (if axis == 1 then z_text origin z ++ line zeros else line [])

-- the whole coordinate along an axis of the points of a row
abbrev pub whole_at : ℕ → ℕ → ℕ → ℕ → ℕ
whole_at axis x y z = if axis == 0 then x else (if axis == 1 then y else z)

-- the edges along an axis from an offset on do not lie in a pad's layer
abbrev pub AreLeast : Origin → ℕ → ℕ → List ℕ → Type 0
AreLeast origin y z least = (axis e : ℕ) → axis < 3 → e < 3078 → slice_index least axis ≤ e →
    is_layer origin axis (whole_at axis (e / 3) y z) ≡ false

-- no edge from an offset on has a whole coordinate in a pad's layer
abbrev pub IsFirstInside : Origin → ℕ → ℕ → ℕ → Type 0
IsFirstInside origin y z first = (axis e : ℕ) → axis < 3 → e < 3078 → first ≤ e →
    is_layer origin axis (whole_at axis (e / 3) y z) ≡ false

-- the parts of the lines of a row
pub record AreParts (origin : Origin) (y z : ℕ) (parts : RowParts) : Type 0 where
  pub middles : (axis : ℕ) → axis < 3 → IsPiece (slice_index_or parts.middles axis no_piece)
      (middle_text origin axis y z) 32
  pub tails : (axis : ℕ) → axis < 3 → IsPiece (slice_index_or parts.tails axis no_piece) (tail_text origin axis y z) 32
  pub fits : (axis : ℕ) → axis < 3 → (slice_index_or parts.middles axis no_piece).len
      + (slice_index_or parts.tails axis no_piece).len ≤ 31
  pub least : AreLeast origin y z parts.least

-- what a row's lines are put together from: there is a front more than points, since an edge at the last one may end there
pub record AreTexts (row : RowPlace) (fronts y_texts z_texts : List (Piece 16)) (parts : RowParts) : Type 0 where
  pub count : row.count ≤ 1026
  pub y : row.y ≤ 1026
  pub z : row.z ≤ 1026
  pub fronts_are : AreFronts row.style (row.count + 1) fronts
  pub y_texts_are : AreWholes row.style.origin 1 row.y y_texts
  pub z_texts_are : AreWholes row.style.origin 2 row.z z_texts
  pub parts_are : AreParts row.style.origin row.y row.z parts

-- and those of the centres in a row of cells
pub record AreCentreTexts (row : RowPlace) (fronts y_texts z_texts : List (Piece 16)) (inside : ℕ) : Type 0 where
  pub count : row.count ≤ 1026
  pub y : row.y ≤ 1026
  pub z : row.z ≤ 1026
  pub fronts_are : AreFronts row.style (row.count + 1) fronts
  pub y_texts_are : AreWholes row.style.origin 1 row.y y_texts
  pub z_texts_are : AreWholes row.style.origin 2 row.z z_texts
  pub inside_is : IsFirstInside row.style.origin row.y row.z inside
