-- Samples of a row, along x, that are replaced together.
use Rattle.std.specs.Prelude.{◌≡◌, ℕ, ◌+◌, ◌-◌, ◌*◌, ◌/◌, ◌<◌, ◌≤◌, min, ℤ, List, length}
use Rattle.iso_defs.specs.Grid.{Grid}
use Rattle.iso_defs.specs.Bricks.{brick_count, brick_start}
use Rattle.iso_base.specs.declared.point.Point.{Point}
use Rattle.iso_base.specs.Volume.{sample}
use Rattle.brick_store.specs.Copies.{copy_at, first_brick_along}

-- offsets in a brick
pub record AreOffsets (g : Grid) (b x y z : ℕ) : Type 0 where
  pub brick : b < brick_count g
  pub x_low : x < 9
  pub y_low : y < 9
  pub z_low : z < 9

-- the point at these offsets is one of so many from a point on along x
pub record IsOfRow (g : Grid) (p : Point) (count b x y z : ℕ) : Type 0 where
  pub x_from : p.x ≤ brick_start g b 0 + x
  pub x_end : brick_start g b 0 + x < p.x + count
  pub y_is : brick_start g b 1 + y ≡ p.y
  pub z_is : brick_start g b 2 + z ≡ p.z

-- bricks from one to before another along each axis
pub record Zone : Type 0 where
  pub x : ℕ
  pub x_end : ℕ
  pub y : ℕ
  pub y_end : ℕ
  pub z : ℕ
  pub z_end : ℕ

pub record InZone (g : Grid) (a : Zone) (b : ℕ) : Type 0 where
  pub x_from : 8 * a.x ≤ brick_start g b 0
  pub x_to : brick_start g b 0 < 8 * a.x_end
  pub y_from : 8 * a.y ≤ brick_start g b 1
  pub y_to : brick_start g b 1 < 8 * a.y_end
  pub z_from : 8 * a.z ≤ brick_start g b 2
  pub z_to : brick_start g b 2 < 8 * a.z_end

-- one brick by its places
abbrev pub brick_zone : ℕ → ℕ → ℕ → Zone
brick_zone x y z = record { x = x; x_end = x + 1; y = y; y_end = y + 1; z = z; z_end = z + 1 }

-- where the bricks along an axis end that reach a coordinate before an end
abbrev pub reach_end : ℕ → ℕ → ℕ
reach_end points end = min ((end + 7) / 8) ((points + 6) / 8)

-- those along x that reach a row of so many points from one on
abbrev pub line_zone : Grid → Point → ℕ → ℕ → ℕ → Zone
line_zone g p count y z = record {
  x = first_brick_along p.x;
  x_end = reach_end g.nx (p.x + count);
  y = y;
  y_end = y + 1;
  z = z;
  z_end = z + 1;
}

-- those of a slice
abbrev pub slice_zone : Grid → Point → ℕ → ℕ → Zone
slice_zone g p count z =
    record {
      x = first_brick_along p.x;
      x_end = reach_end g.nx (p.x + count);
      y = first_brick_along p.y;
      y_end = reach_end g.ny (p.y + 1);
      z = z;
      z_end = z + 1;
    }

-- all of them
abbrev pub row_zone : Grid → Point → ℕ → Zone
row_zone g p count = record {
  x = first_brick_along p.x;
  x_end = reach_end g.nx (p.x + count);
  y = first_brick_along p.y;
  y_end = reach_end g.ny (p.y + 1);
  z = first_brick_along p.z;
  z_end = reach_end g.nz (p.z + 1);
}

-- the copies of the points of a row were written in the bricks of a zone, and no other copy
pub record AreRowWritten (g : Grid) (p : Point) (values : List ℤ) (a : Zone) (old new : List ℤ) : Type 0 where
  pub count : length new ≡ length old
  pub written : (b x y z : ℕ) → AreOffsets g b x y z → InZone g a b → IsOfRow g p (length values) b x y z
      → copy_at new b x y z ≡ sample values (brick_start g b 0 + x - p.x)
  pub others : (b x y z : ℕ) → AreOffsets g b x y z → (InZone g a b → IsOfRow g p (length values) b x y z → ⊥) →
      copy_at new b x y z ≡ copy_at old b x y z
