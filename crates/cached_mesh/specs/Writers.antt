-- The text of the mesh of a volume in bricks, and what is lent to write it.
use Rattle.std.specs.Prelude.{◌≡◌, ℕ, ◌+◌, ◌*◌, ◌≤◌, List, is_some, length}
use Rattle.iso_base.specs.Volume.{field, Volume}
use Rattle.iso_base.specs.declared.fault.Written.{Written}
use Rattle.flat_mesh.specs.Mesh.{mesh_of}
use Rattle.mesh_lines.specs.Padded.{two_way_written}
use Rattle.mesh_cache.specs.Economy.{IsRight, waiting}
use Rattle.span_tree.specs.Spans.{IsRightFor}
use Rattle.cached_mesh.specs.Rooms.{IsRoomFor}
use Rattle.cached_mesh.specs.Texts.{scratch_text}
use Rattle.cached_mesh.specs.declared.files.MeshText.{MeshText}

-- the volume
abbrev pub store_of : {L : Type 0} → MeshText L → Volume
store_of t = t.volume.now.store.now

-- the mesh from scratch, in the format
abbrev pub text_of : {L : Type 0} → MeshText L → List ℕ
text_of t = scratch_text t.format (store_of t) t.volume.now.level

-- how many vertices, faces and bytes it has
abbrev pub written_of : {L : Type 0} → MeshText L → Written
written_of t = two_way_written t.format (is_some (store_of t).pad)
    (mesh_of (store_of t).grid (field (store_of t).samples t.volume.now.level))

-- the tree, the cache and the room are those of the volume
pub record IsReadyText {L : Type 0} (t : MeshText L) : Type 0 where
  pub tree : IsRightFor t.volume.now.tree.now (store_of t)
  pub items : IsRight (store_of t).grid (store_of t).samples t.volume.now.cache.now.items
  pub room : IsRoomFor (store_of t) t.volume.now.level t.room.now

-- the bricks that are not cached at the level
abbrev pub waiting_in : {L : Type 0} → MeshText L → List ℕ
waiting_in t = waiting (store_of t).grid (store_of t).samples t.volume.now.level t.volume.now.cache.now.items

-- it has the same loans, the room fits the volume as before, and at most 1,536 cells were classified for each waiting brick
pub record KeepsLoans {L : Type 0} (t u : MeshText L) : Type 0 where
  pub same_room : u.room.ghost_name ≡ t.room.ghost_name
  pub same_steps : u.steps.ghost_name ≡ t.steps.ghost_name
  pub room : IsRoomFor (store_of t) t.volume.now.level t.room.now → IsRoomFor (store_of t) t.volume.now.level u.room.now
  pub least : t.steps.now ≤ u.steps.now
  pub most : u.steps.now ≤ t.steps.now + 1536 * length (waiting_in t)
