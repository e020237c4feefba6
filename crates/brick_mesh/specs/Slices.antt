-- The sign bytes of a slice of cells of a brick.
use Rattle.std.specs.Prelude.{◌≡◌, ℕ, ◌+◌, ◌*◌, ◌<◌, ℤ, List, [], IsTrue, slice_index_or}
use Rattle.iso_base.specs.Volume.{Volume}
use Rattle.brick_store.specs.Holding.{points_along}
use Rattle.brick_mesh.specs.Block.{BrickAt, block_of}
use Rattle.brick_mesh.specs.Signs.{AreBytes}
use Rattle.brick_mesh.specs.declared.slices.SignSlice.{SignSlice}

-- those of the rows of a slice
abbrev pub AreRowsOf : BrickAt → ℕ → List (List ℕ) → Type 0
AreRowsOf b z rows = (y : ℕ) → y < 8 → AreBytes b (y + 8 * z) (slice_index_or rows y [])

-- this is that slice of that brick
pub record IsSliceOf (brick z : ℕ) (slice : SignSlice) : Type 0 where
  pub same_brick : slice.brick ≡ brick
  pub same_slice : slice.z ≡ z

-- these are the sign bytes of the slice's cells at a level
pub record AreSigned (v : Volume) (level : ℤ) (slice : SignSlice) : Type 0 where
  pub whole : IsTrue slice.whole → points_along v.grid slice.brick 0 ≡ 9
  pub rows : AreRowsOf (block_of v slice.brick level) slice.z slice.rows
