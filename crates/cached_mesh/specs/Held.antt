-- The slices of bricks that are held for the rows of a walk.
use Rattle.std.specs.Prelude.{◌≡◌, ℕ, ◌%◌, ◌<◌, ◌≤◌, ℤ, All, List, false, length, slice_index_or}
use Rattle.iso_base.specs.Volume.{Volume}
use Rattle.brick_mesh.specs.declared.slices.SignSlice.{SignSlice}
use Rattle.brick_mesh.specs.Slices.{AreSigned, IsSliceOf}
use Rattle.mesh_cache.specs.Cache.{Item}
use Rattle.mesh_cache.specs.Economy.{is_fresh}
use Rattle.cached_mesh.specs.declared.held.Held.{Held}
use Rattle.cached_mesh.specs.Slices.{AreNone, AreSlices}

-- this is a slice of no brick
abbrev pub IsNoSlice : SignSlice → Type 0
IsNoSlice slice = 8 ≤ slice.z

-- these are the sign bytes of a slice of a brick that is not kept at the level
pub record IsSigned (v : Volume) (level : ℤ) (items : List Item) (slice : SignSlice) : Type 0 where
  pub waits : is_fresh slice.brick level items ≡ false
  pub signs : AreSigned v level slice

-- they are, if this is a slice of a brick
abbrev pub MaySign : Volume → ℤ → List Item → SignSlice → Type 0
MaySign v level items slice = slice.z < 8 → IsSigned v level items slice

-- each slice that is held is right for the volume at the level
pub record AreHeld (v : Volume) (level : ℤ) (items : List Item) (held : Held) : Type 0 where
  pub places : length held.slices.now ≡ 256
  pub signs : length held.signed.now ≡ 256
  pub slices : All (AreSlices v level items) held.slices.now
  pub signed : All (MaySign v level items) held.signed.now

-- no slice is held
pub record HoldsNone (held : Held) : Type 0 where
  pub places : length held.slices.now ≡ 256
  pub signs : length held.signed.now ≡ 256
  pub slices : All AreNone held.slices.now
  pub signed : All IsNoSlice held.signed.now

-- the sign bytes of that slice are in the brick's place
pub record HasSigns (brick z : ℕ) (signed : List SignSlice) : Type 0 where
  pub here : (other : SignSlice) → IsSliceOf brick z (slice_index_or signed (brick % 256) other)
