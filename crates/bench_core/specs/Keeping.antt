-- What is kept beside the machine's state: what a change leaves of it, and what a refresh makes of it.
use Rattle.std.specs.Prelude.{◌≡◌, ℕ, ◌+◌, ◌*◌, ◌<◌, ◌≤◌, ◌∷◌, Bool, not, ◌&&◌, nat_le, List, [], length, Option, Some, None, Result, MatchResult, ℤ, All}
use Rattle.std.specs.List.{filter, range_with_len}
use Rattle.iso_defs.specs.Lists.{below, is_in}
use Rattle.iso_defs.specs.Bricks.{brick_count, brick_start, bricks_along}
use Rattle.iso_defs.specs.Grid.{Grid}
use Rattle.iso_base.specs.declared.fault.BenchFault.{BenchFault}
use Rattle.iso_base.specs.Volume.{Volume}
use Rattle.voxel_list.specs.Areas.{Area}
use Rattle.brick_store.specs.Holding.{brick_at}
use Rattle.span_tree.specs.Spans.{Tree, IsRightFor}
use Rattle.mesh_cache.specs.Cache.{Cache, Limits, empty_cache, with_items}
use Rattle.mesh_cache.specs.Economy.{IsRight, Refresh, waiting}
use Rattle.unpadded_volume.specs.Unpadded.{place_of}
use Rattle.brick_rows.specs.Rows.{at_level}
use Rattle.cached_mesh.specs.declared.room.MeshRoom.{MeshRoom}
use Rattle.cached_mesh.specs.Rooms.{IsRoomFor, SameOutside}
use Rattle.edit_log.specs.Changes.{Moment}
use Rattle.bench_core.specs.Machine.{Entry, State, area_by}

-- what contracts see of a bench: the machine's state, and what is kept of its mesh
pub record Workbench : Type 0 where
  pub state : State
  pub cache : Cache

-- the bench that is opened on a volume at a level
abbrev pub first_bench : Volume → ℤ → Limits → Workbench
first_bench v level limits = record {
  state = record { volume = v; level = level; past = []; future = [] };
  cache = empty_cache limits;
}

-- ---- the points that a command changes, where it is done

-- those of `set`
abbrev pub set_area : State → ℤ × ℤ × ℤ → Option Area
set_area s at = area_by (place_of s.volume at) (place_of s.volume at)

-- those of `fill`
abbrev pub fill_area : State → ℤ × ℤ × ℤ → ℤ × ℤ × ℤ → Option Area
fill_area s a b = area_by (place_of s.volume a) (place_of s.volume b)

-- those of the first of other volumes
abbrev pub first_area : List Entry → Option Area
first_area [] = None
first_area (e ∷ entries) = e.area

-- ---- what a change leaves

-- whether one of the nine coordinates from this one on lies in a span
abbrev pub reaches_into : ℕ → ℕ → ℕ → Bool
reaches_into start low high = nat_le start high && nat_le low (start + 8)

-- whether a brick holds a point of a box
abbrev pub holds_some : Grid → Area → ℕ → Bool
holds_some g a brick =
    reaches_into (brick_start g brick 0) a.low.x a.high.x
    && (reaches_into (brick_start g brick 1) a.low.y a.high.y && reaches_into (brick_start g brick 2) a.low.z a.high.z)

-- the bricks that hold a point of a box
unfoldable pub bricks_of : Grid → Area → List ℕ
bricks_of g a = filter (holds_some g a) (below (brick_count g))

-- those of a slice of bricks
abbrev pub layer_held : Grid → Area → ℕ → List ℕ
layer_held g a z = filter (holds_some g a) (range_with_len (brick_at g 0 0 z) (bricks_along g 0 * bricks_along g 1))

-- the bricks that hold one of these points
abbrev pub touched : Grid → Option Area → List ℕ
touched g None = []
touched g (Some a) = bricks_of g a

-- the cache without the items of some bricks
abbrev pub without_bricks : List ℕ → Cache → Cache
without_bricks bricks cache = with_items cache (filter (λ item. not (is_in item.brick bricks)) cache.items)

-- the cache without the items of the bricks that hold one of these points
abbrev pub without_points : Grid → Option Area → Cache → Cache
without_points g None cache = cache
without_points g (Some a) cache = without_bricks (bricks_of g a) cache

-- A change that is done leaves the cache without the items of the bricks that hold one of these points; one that is refused
-- leaves it as it was.
abbrev pub Keeps : {T : Type 0} → Workbench → Workbench → Result T BenchFault → Option Area → Type 0
Keeps old new result area = MatchResult result (λ _. new.cache
    ≡ without_points old.state.volume.grid area old.cache) (λ _. new.cache ≡ old.cache)

-- two volumes at levels have the same values off a box; where there is no box, the same sizes alone
abbrev pub MovesIn : Option Area → Moment → Moment → Type 0
MovesIn None m n = m.volume.grid ≡ n.volume.grid
MovesIn (Some a) m n = SameOutside a (at_level m.volume m.level) (at_level n.volume n.level)

-- a room that fitted the one fits the other, once what rests on the samples of that box was let go, or all where there is none
abbrev pub Forgets : Option Area → MeshRoom → MeshRoom → Type 0
Forgets None old new = (v w : Volume) (level to : ℤ) → v.grid ≡ w.grid → IsRoomFor v level old → IsRoomFor w to new
Forgets (Some a) old new = (v w : Volume) (level to : ℤ) → SameOutside a (at_level v level) (at_level w to)
    → IsRoomFor v level old → IsRoomFor w to new

-- ---- what a refresh makes

-- the bricks that a refresh has to offer
abbrev pub waiting_bricks : Workbench → List ℕ
waiting_bricks b = waiting b.state.volume.grid b.state.volume.samples b.state.level b.cache.items

-- These bricks were offered at the state's level, and the state stays. The counter did not fall, and for each of them it rose
-- by at most so many.
pub record Refreshes (old new : Workbench) (bricks : List ℕ) (most before now : ℕ) : Type 0 where
  pub state : new.state ≡ old.state
  pub cache : Refresh old.state.volume.grid old.state.volume.samples old.state.level old.cache bricks new.cache
  pub later : before ≤ now
  pub few : now ≤ before + most * length bricks

-- the most cells that a refresh turn classifies for a brick
abbrev pub turn_steps : ℕ
turn_steps = 512

-- the most cells that a write classifies for a brick that waits: in its refresh, and each at most three times in the walk
abbrev pub write_steps : ℕ
write_steps = 2048

-- ---- what is kept is right

-- the tree has the spans of the volume, and each item has the entries of its brick, a brick of the volume, at its own level
pub record IsKept (v : Volume) (t : Tree) (cache : Cache) : Type 0 where
  pub tree : IsRightFor t v
  pub items : IsRight v.grid v.samples cache.items
  pub bricks : All (λ item. item.brick < brick_count v.grid) cache.items

-- everything that is kept of a bench is right for its volume
abbrev pub IsRightBench : Workbench → Type 0
IsRightBench b = IsRight b.state.volume.grid b.state.volume.samples b.cache.items
