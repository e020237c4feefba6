-- The points of contour lines, and the text of these lines.
use Rattle.std.specs.Prelude.{ℕ, ◌<◌, ◌^◌, ℤ, pos, unsigned_abs, Bool, List, ◌-ℤ◌, if◌then◌else◌, ◌∷◌, ◌++◌, length, codes, decimal}
use Rattle.iso_defs.specs.Grid.{Grid}
use Rattle.iso_defs.specs.Place.{edge_coordinate}
use Rattle.iso_base.specs.declared.edge.EdgeName.{EdgeName}
use Rattle.iso_base.specs.declared.decimal.Thousandth.{Thousandth}
use Rattle.std.specs.List.{flat_map}
use Rattle.iso_defs.specs.Bytes.{space}
use Rattle.iso_defs.specs.Texts.{line, decimal_text}

-- an edge of a line: its name, and its coordinates along x and y
abbrev pub Point : Type 0
Point = EdgeName × Thousandth × Thousandth

abbrev pub point_at : Grid → (ℕ → ℤ) → ℕ → Point
point_at g s n = (
  record { 0 = n },
  record { 0 = pos (edge_coordinate g s n 0) },
  record { 0 = pos (edge_coordinate g s n 1) },
)

-- a line is whether it is a cycle, and its points
abbrev pub DrawnLine : Type 0
DrawnLine = Bool × List Point

-- the coordinates of a plane of at most 65,536 points along an axis
abbrev pub IsNear : Point → Type 0
IsNear p = (unsigned_abs p.1.0 < 2 ^ 32) × (unsigned_abs p.2.0 < 2 ^ 32)

-- a coordinate as it is printed: with a pad, less the layer
abbrev pub printed_coordinate : Bool → ℤ → ℤ
printed_coordinate padded n = if padded then n -ℤ pos 1000 else n

-- the line of a point: x and y
abbrev pub point_line : Bool → Point → List ℕ
point_line padded p = line (decimal_text (printed_coordinate padded p.1.0) ++ space
    ∷ decimal_text (printed_coordinate padded p.2.0))

-- the lines of points
abbrev pub points_text : Bool → List Point → List ℕ
points_text padded points = flat_map (point_line padded) points

-- the first line of a contour line: what it is, and the number of its points
abbrev pub head_line : DrawnLine → List ℕ
head_line l = line ((if l.0 then codes "cycle " else codes "path ") ++ decimal (length l.1))

-- the text of one line, and of all
abbrev pub line_text : Bool → DrawnLine → List ℕ
line_text padded l = head_line l ++ points_text padded l.1

abbrev pub contours_text : Bool → List DrawnLine → List ℕ
contours_text padded ls = flat_map (line_text padded) ls
