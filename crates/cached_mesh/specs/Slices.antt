-- The cases of the cells of a brick that lie in some slices.
use Rattle.std.specs.Prelude.{◌≡◌, ℕ, ◌+◌, ◌*◌, ◌%◌, ◌<◌, ◌≤◌, ℤ, List, drop, slice_index_or, take, true}
use Rattle.iso_base.specs.Volume.{field, Volume}
use Rattle.mesh_cache.specs.Cache.{Item}
use Rattle.mesh_cache.specs.Economy.{is_fresh}
use Rattle.brick_rows.specs.Named.{IsCellRow}
use Rattle.cached_mesh.specs.Kept.{looped_cases}
use Rattle.cached_mesh.specs.declared.slices.Slices.{Slices}

-- these are the cases of some slices of a brick, if there are any; it is kept at the level then
pub record AreSlices (v : Volume) (level : ℤ) (items : List Item) (slices : Slices) : Type 0 where
  pub narrow : slices.width ≤ 8
  pub fresh : slices.across.first < slices.across.end → is_fresh slices.brick level items ≡ true
  pub rows : (y z : ℕ) → slices.across.first ≤ z → z < slices.across.end → IsCellRow v.grid slices.brick y z
      → take slices.width (drop (8 * (y + 8 * (z % 4))) slices.cases) ≡ looped_cases v.grid (field v.samples level) slices.brick y z

-- these are none
pub record AreNone (slices : Slices) : Type 0 where
  pub none : slices.across.end ≡ 0
  pub narrow : slices.width ≤ 8

-- that slice of that brick is among these
pub record HaveSlice (brick z : ℕ) (slices : Slices) : Type 0 where
  pub same_brick : slices.brick ≡ brick
  pub from : slices.across.first ≤ z
  pub to : z < slices.across.end

-- it is among those in the brick's place
pub record IsHeld (brick z : ℕ) (held : List Slices) : Type 0 where
  pub here : (other : Slices) → HaveSlice brick z (slice_index_or held (brick % 256) other)
