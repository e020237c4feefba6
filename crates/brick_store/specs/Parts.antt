-- Rows of values that are put into a part of a brick.
use Rattle.std.specs.Prelude.{◌≡◌, ℕ, ◌+◌, ◌-◌, ◌*◌, ◌<◌, ◌≤◌, ℤ, List, length}
use Rattle.iso_base.specs.Volume.{sample}
use Rattle.brick_store.specs.declared.boxes.Part.{Part}
use Rattle.brick_store.specs.declared.boxes.Source.{Source}
use Rattle.brick_store.specs.Boxes.{IsOfPart, IsWithin}
use Rattle.brick_store.specs.Copies.{copy_at}

-- a part has a point, and no offset that a brick does not have
pub record IsPart (p : Part) : Type 0 where
  pub x_order : p.x < p.x_end
  pub y_order : p.y < p.y_end
  pub z_order : p.z < p.z_end
  pub x_most : p.x_end ≤ 9
  pub y_most : p.y_end ≤ 9
  pub z_most : p.z_end ≤ 9

-- where the values of a row of a part begin
abbrev pub row_place : Part → Source → ℕ → ℕ → ℕ
row_place p s y z = s.from + (y - p.y) * s.row + (z - p.z) * s.slice

-- the value for the point at these offsets
abbrev pub source_value : Part → Source → ℕ → ℕ → ℕ → ℤ
source_value p s x y z = sample s.values.now (row_place p s y z + (x - p.x))

-- each row has all its values
abbrev pub HasRows : Part → Source → Type 0
HasRows p s = (y z : ℕ) → p.y ≤ y → y < p.y_end → p.z ≤ z → z < p.z_end → row_place p s y z + (p.x_end - p.x)
    ≤ length s.values.now

-- of the values for a whole part, those of some offsets were put into the brick, and nothing else
pub record AreRowsPut (brick : ℕ) (whole : Part) (s : Source) (p : Part) (old new : List ℤ) : Type 0 where
  pub count : length new ≡ length old
  pub put : (x y z : ℕ) → IsWithin p x y z → copy_at new brick x y z ≡ source_value whole s x y z
  pub others : (b x y z : ℕ) → x < 9 → y < 9 → z < 9 → (IsOfPart brick p b x y z → ⊥) → copy_at new b x y z
      ≡ copy_at old b x y z
