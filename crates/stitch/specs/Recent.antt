-- Lists of numbers that are kept, each under a key.
use Rattle.std.specs.Prelude.{◌≡◌, ℕ, ◌+◌, ◌*◌, ◌/◌, ◌%◌, ◌^◌, ◌<◌, ◌≤◌, List, [], Option, Some, None, drop, length, slice_index, take}
use Rattle.std.specs.Global.{Vec}
use Rattle.iso_defs.specs.Rows.{row_count}
use Rattle.flat_mesh.specs.Lattice.{Leveled}
use Rattle.mesh_rows.specs.Rows.{AreEdges, row_places}
use Rattle.brick_rows.specs.Bricks.{AreMarked}
use Rattle.stitch.specs.Cells.{AreListed}
use Rattle.stitch.specs.declared.row_memory.KnownRows.{KnownRows}
use Rattle.stitch.specs.declared.recent.RecentLists.{RecentLists}

-- the numbers of a room; none where there is no room
abbrev pub numbers_in : Option (Vec ℕ) → List ℕ
numbers_in (Some numbers) = numbers.items
numbers_in None = []

-- the numbers of the lists that were put
abbrev pub numbers_of : RecentLists → List ℕ
numbers_of lists = numbers_in lists.numbers

-- the lists that are noted lie among the numbers that were put, and these are no more than may be
pub record AreWithin (lists : RecentLists) : Type 0 where
  pub tags : length lists.tags.value ≡ 49152
  pub starts : length lists.starts.value ≡ 49152
  pub counts : length lists.counts.value ≡ 49152
  pub most : lists.most < 2 ^ 31
  pub each : (k : ℕ) → k < 49152 → slice_index lists.starts.value k < 4294967295 → slice_index lists.starts.value k + slice_index lists.counts.value k ≤ length (numbers_of lists)
  pub few : length (numbers_of lists) ≤ lists.most

-- a list is noted at the place of a key, and is its own
pub record AreNoted (tags starts : List ℕ) (key : ℕ) : Type 0 where
  pub tag : slice_index tags (key % 49152) ≡ key / 49152
  pub some : slice_index starts (key % 49152) < 4294967295

abbrev pub IsNoted : RecentLists → ℕ → Type 0
IsNoted lists key = AreNoted lists.tags.value lists.starts.value key

-- this list is kept under a key
pub record IsKept (lists : RecentLists) (key : ℕ) (list : List ℕ) : Type 0 where
  pub noted : IsNoted lists key
  pub list_is : list ≡ take (slice_index lists.counts.value (key % 49152)) (drop (slice_index lists.starts.value (key % 49152)) (numbers_of lists))

-- no list is kept
pub record HasNone (lists : RecentLists) : Type 0 where
  pub none : (key : ℕ) (list : List ℕ) → IsKept lists key list → ⊥

-- no list of the keys from one to before another is kept any more, and each one that is was kept before
pub record IsWithoutKeys (from end : ℕ) (before after : RecentLists) : Type 0 where
  pub within : AreWithin before → AreWithin after
  pub none : (key : ℕ) (list : List ℕ) → from ≤ key → key < end → IsKept after key list → ⊥
  pub kept : (key : ℕ) (list : List ℕ) → IsKept after key list → IsKept before key list

-- this is the list that was put under this key
pub record IsPut (key : ℕ) (list : List ℕ) (k : ℕ) (l : List ℕ) : Type 0 where
  pub same_key : k ≡ key
  pub same_list : l ≡ list

-- what is known of lists: under three keys for each row, by the row's number, its crossing edges are kept, where they are crossed, and
-- its active cells, first their places and then their cases
pub record AreRecent (v : Leveled) (lists : RecentLists) : Type 0 where
  pub within : AreWithin lists
  pub edges : (r : ℕ) (list : List ℕ) → r < row_count v.grid → IsKept lists (3 * r) list → AreEdges v (r % v.grid.ny) (r / v.grid.ny) list
  pub places : (r : ℕ) (list : List ℕ) → r < row_count v.grid → IsKept lists (3 * r + 1) list → list ≡ row_places v (r % v.grid.ny) (r / v.grid.ny)
  pub cells : (r : ℕ) (list : List ℕ) → r < row_count v.grid → r % v.grid.ny + 1 < v.grid.ny → r / v.grid.ny + 1 < v.grid.nz
      → IsKept lists (3 * r + 2) list → AreListed v (r % v.grid.ny) (r / v.grid.ny) (take (length list / 2) list) (drop (length list / 2) list)

-- what is known of the rows of a volume
pub record AreKnown (v : Leveled) (known : KnownRows) : Type 0 where
  pub even : AreMarked v known.even.value
  pub odd : AreMarked v known.odd.value
  pub recent : AreRecent v known.recent
