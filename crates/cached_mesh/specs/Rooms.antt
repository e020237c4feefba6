-- Room for writes of a volume at a level.
use Rattle.std.specs.Prelude.{◌≡◌, ℤ}
use Rattle.iso_base.specs.Volume.{Volume}
use Rattle.brick_rows.specs.Rows.{at_level}
use Rattle.stitch.specs.Recent.{AreRecent}
use Rattle.cached_mesh.specs.declared.room.MeshRoom.{MeshRoom}
pub use Rattle.stitch.specs.Rooms.{SameOutside}

-- it is made for the volume's sizes, and the lists of rows in it are right for the volume at the level
pub record IsRoomFor (v : Volume) (level : ℤ) (room : MeshRoom) : Type 0 where
  pub grid : room.rows.ranks.grid ≡ v.grid
  pub lists : AreRecent (at_level v level) room.rows.known.recent
