-- Samples of a box that are replaced together, brick by brick.
use Rattle.std.specs.Prelude.{◌≡◌, ℕ, ◌+◌, ◌-◌, ◌<◌, ◌≤◌, ℤ, Bool, true, List, All, length, map, if◌then◌else◌}
use Rattle.iso_defs.specs.Lists.{below}
use Rattle.iso_defs.specs.Grid.{Grid, coordinate, index, point_count}
use Rattle.iso_defs.specs.Bricks.{brick_point, brick_start}
use Rattle.iso_base.specs.Points.{IsPoint}
use Rattle.iso_base.specs.Volume.{IsOfKind, Volume, IsInner, sample}
use Rattle.iso_base.specs.declared.kind.SampleKind.{SampleKind}
use Rattle.voxel_list.specs.Areas.{Area, IsArea, area_count, is_in_area}
use Rattle.brick_store.specs.declared.boxes.Values.{Values}
use Rattle.brick_store.specs.declared.boxes.Values.TheVariants.{One, Each}
use Rattle.brick_store.specs.declared.boxes.Part.{Part}
use Rattle.brick_store.specs.Copies.{copy_at, first_brick_along}
use Rattle.brick_store.specs.Rows.{AreOffsets, InZone, Zone, reach_end}

-- a box of the grid
pub record IsBox (g : Grid) (a : Area) : Type 0 where
  pub area : IsArea a
  pub high : IsPoint g a.high

-- a box as a grid of its own
abbrev pub area_grid : Area → Grid
area_grid a = record {
  nx = a.high.x - a.low.x + 1;
  ny = a.high.y - a.low.y + 1;
  nz = a.high.z - a.low.z + 1;
}

-- the index in the grid of the box's point number k: x is fastest, z slowest
abbrev pub area_index : Grid → Area → ℕ → ℕ
area_index g a k = index g
    (a.low.x + coordinate (area_grid a) 0 k)
    (a.low.y + coordinate (area_grid a) 1 k)
    (a.low.z + coordinate (area_grid a) 2 k)

-- the number in the box of a point of it, by its index in the grid
abbrev pub area_place : Grid → Area → ℕ → ℕ
area_place g a p = index (area_grid a)
    (coordinate g 0 p - a.low.x)
    (coordinate g 1 p - a.low.y)
    (coordinate g 2 p - a.low.z)

-- the samples with those that pass a test replaced, all by index
unfoldable pub replaced : (ℕ → Bool) → (ℕ → ℤ) → List ℤ → List ℤ
replaced test value samples = map (λ p. if test p then value p else sample samples p) (below (length samples))

-- no point of the box is one of the pad's
abbrev pub IsInnerArea : Volume → Area → Type 0
IsInnerArea v a = (p : ℕ) → p < point_count v.grid → is_in_area v.grid a p ≡ true → IsInner v p

-- what a point of a box becomes, by its index in the grid
abbrev pub value_in : Grid → Area → Values → ℕ → ℤ
value_in g a (One value) p = value
value_in g a (Each values) p = sample values.now (area_place g a p)

-- one value, or as many as the box has points
abbrev pub AreAsMany : Area → Values → Type 0
AreAsMany a (One value) = Unit {0}
AreAsMany a (Each values) = length values.now ≡ area_count a

-- all of them are what there is room for
abbrev pub AreFitting : (ℤ → Type 0) → Values → Type 0
AreFitting Fits (One value) = Fits value
AreFitting Fits (Each values) = All Fits values.now

-- all of them are of the kind
abbrev pub AreOfKind : SampleKind → Values → Type 0
AreOfKind kind values = AreFitting (IsOfKind kind) values

-- the samples with those of a box replaced
abbrev pub boxed : Grid → Area → Values → List ℤ → List ℤ
boxed g a values samples = replaced (is_in_area g a) (value_in g a values) samples

-- all samples of a box are one value
abbrev pub AreOne : Grid → Area → ℤ → List ℤ → Type 0
AreOne g a value samples = (p : ℕ) → p < point_count g → is_in_area g a p ≡ true → sample samples p ≡ value

-- the point at these offsets lies in the box
pub record IsOfBox (g : Grid) (a : Area) (b x y z : ℕ) : Type 0 where
  pub x_from : a.low.x ≤ brick_start g b 0 + x
  pub x_to : brick_start g b 0 + x ≤ a.high.x
  pub y_from : a.low.y ≤ brick_start g b 1 + y
  pub y_to : brick_start g b 1 + y ≤ a.high.y
  pub z_from : a.low.z ≤ brick_start g b 2 + z
  pub z_to : brick_start g b 2 + z ≤ a.high.z

-- offsets of a part
pub record IsWithin (p : Part) (x y z : ℕ) : Type 0 where
  pub x_from : p.x ≤ x
  pub x_end : x < p.x_end
  pub y_from : p.y ≤ y
  pub y_end : y < p.y_end
  pub z_from : p.z ≤ z
  pub z_end : z < p.z_end

-- these offsets are those of the points of the box in the brick
pub record IsPartOf (g : Grid) (a : Area) (b : ℕ) (p : Part) : Type 0 where
  pub x_order : p.x < p.x_end
  pub y_order : p.y < p.y_end
  pub z_order : p.z < p.z_end
  pub x_most : p.x_end ≤ 9
  pub y_most : p.y_end ≤ 9
  pub z_most : p.z_end ≤ 9
  pub each : (x y z : ℕ) → p.x ≤ x → x < p.x_end → p.y ≤ y → y < p.y_end → p.z ≤ z → z < p.z_end → IsOfBox g a b x y z
  pub all : (x y z : ℕ) → x < 9 → y < 9 → z < 9 → IsOfBox g a b x y z → IsWithin p x y z

-- one slice of a part, and one row
abbrev pub one_slice : Part → ℕ → Part
one_slice p z = record p { z = z; z_end = z + 1 }

abbrev pub one_row : Part → ℕ → ℕ → Part
one_row p y z = record p { y = y; y_end = y + 1; z = z; z_end = z + 1 }

-- the copies at the offsets that are meant were written, each as its point's value, and no other copy
pub record AreWrittenAt (g : Grid) (Of : ℕ → ℕ → ℕ → ℕ → Type 0) (value : ℕ → ℤ) (old new : List ℤ) : Type 0 where
  pub count : length new ≡ length old
  pub written : (b x y z : ℕ) → AreOffsets g b x y z → Of b x y z → copy_at new b x y z ≡ value (brick_point g b x y z)
  pub others : (b x y z : ℕ) → AreOffsets g b x y z → (Of b x y z → ⊥) → copy_at new b x y z ≡ copy_at old b x y z

-- offsets of a part of one brick
abbrev pub IsOfPart : ℕ → Part → ℕ → ℕ → ℕ → ℕ → Type 0
IsOfPart brick p b x y z = (b ≡ brick) × IsWithin p x y z

-- those of a part were written as the box wants it
abbrev pub ArePartWritten : Grid → Area → Values → ℕ → Part → List ℤ → List ℤ → Type 0
ArePartWritten g a values brick p old new = AreWrittenAt g (IsOfPart brick p) (value_in g a values) old new

-- offsets of points of a box in the bricks of a zone
abbrev pub IsOfZone : Grid → Area → Zone → ℕ → ℕ → ℕ → ℕ → Type 0
IsOfZone g a zone b x y z = InZone g zone b × IsOfBox g a b x y z

-- those of the points of a box were written in the bricks of a zone
abbrev pub AreBoxWritten : Grid → Area → Values → Zone → List ℤ → List ℤ → Type 0
AreBoxWritten g a values zone old new = AreWrittenAt g (IsOfZone g a zone) (value_in g a values) old new

-- the bricks of a line along x that hold a point of the box
abbrev pub box_line : Grid → Area → ℕ → ℕ → Zone
box_line g a y z = record {
  x = first_brick_along a.low.x;
  x_end = reach_end g.nx (a.high.x + 1);
  y = y;
  y_end = y + 1;
  z = z;
  z_end = z + 1;
}

-- those of a slice
abbrev pub box_slice : Grid → Area → ℕ → Zone
box_slice g a z = record {
  x = first_brick_along a.low.x;
  x_end = reach_end g.nx (a.high.x + 1);
  y = first_brick_along a.low.y;
  y_end = reach_end g.ny (a.high.y + 1);
  z = z;
  z_end = z + 1;
}

-- all of them
abbrev pub box_zone : Grid → Area → Zone
box_zone g a = record {
  x = first_brick_along a.low.x;
  x_end = reach_end g.nx (a.high.x + 1);
  y = first_brick_along a.low.y;
  y_end = reach_end g.ny (a.high.y + 1);
  z = first_brick_along a.low.z;
  z_end = reach_end g.nz (a.high.z + 1);
}
