-- The samples of a box where they lie: each by its index, and those of a row one after the other.
use Rattle.std.proofs.Common.{◌≡◌, ℕ, ◌+◌, ◌-◌, ◌*◌, ◌<◌, ◌≤◌, ◌++◌, ℤ, pos, List, length, map, take, drop, get_or, All, sym, ap, ◌∙◌, subst, arith}
use Rattle.std.proofs.lemmas.List.{ext_get_or, get_or-append_right, get_or_append_left, get_or-drop, get_or-map, get_or-take, length-drop, length-map, length-take-le}
use Rattle.std.proofs.lemmas.List.FromFn.{get_or-map-range_with_len, length-map-range_with_len}
use Rattle.iso_defs.specs.Grid.{Grid, coordinate, index, point_count}
use Rattle.iso_defs.proofs.Points.{x_index, y_index, z_index}
use Rattle.iso_base.specs.Points.{IsPoint, index_of}
use Rattle.iso_base.specs.Volume.{IsSample, IsGrid, IsVolume, sample}
use Rattle.iso_base.specs.declared.point.Point.{Point}
use Rattle.iso_base.proofs.VolumeLaws.{grid_is_solid, sample_in_range}
use Rattle.samples.proofs.Rows.{row_in}
use Rattle.window_laws.specs.Windows.{Window, IsWindow, whole_point}
use Rattle.window_laws.proofs.Carried.{whole_in}
use Rattle.window_mesh.specs.Rows.{row_samples}
use Rattle.window_mesh.specs.Views.{InBox, boxed_at, boxed_list, whole_of}

-- a point of a row of the box, so many on, is the point of the volume so many on
pub along_row : (g : Grid) (w : Window) (p : Point) (i : ℕ) → IsPoint w.grid p → p.x + i < w.grid.nx
    → whole_point g w (index_of w.grid p + i) ≡ index_of g (whole_of w p) + i
along_row g w p i at low =
    let e : index_of w.grid p + i ≡ index w.grid (p.x + i) p.y p.z = turned p.x i (w.grid.nx * (p.y + w.grid.ny * p.z)) in
    let x : w.x + coordinate w.grid 0 (index_of w.grid p + i) ≡ w.x + (p.x + i)
    = ap (λ q. w.x + coordinate w.grid 0 q) e ∙ ap (λ n. w.x + n) (x_index w.grid (p.x + i) p.y p.z low at.y at.z) in
    let y : w.y + coordinate w.grid 1 (index_of w.grid p + i) ≡ w.y + p.y
    = ap (λ q. w.y + coordinate w.grid 1 q) e ∙ ap (λ n. w.y + n) (y_index w.grid (p.x + i) p.y p.z low at.y at.z) in
    let z : w.z + coordinate w.grid 2 (index_of w.grid p + i) ≡ w.z + p.z
    = ap (λ q. w.z + coordinate w.grid 2 q) e ∙ ap (λ n. w.z + n) (z_index w.grid (p.x + i) p.y p.z low at.y at.z) in
    rw (x, y, z) (further w.x p.x i (g.nx * (w.y + p.y + g.ny * (w.z + p.z))))
  where
    turned : (a i r : ℕ) → a + r + i ≡ a + i + r
    turned a i r = omega arith

    further : (l a i r : ℕ) → l + (a + i) + r ≡ l + a + r + i
    further l a i r = omega arith

-- the point of the volume that a point of the box is
pub at_whole : (g : Grid) (w : Window) (p : Point) → IsPoint w.grid p → whole_point g w (index_of w.grid p) ≡ index_of g (whole_of w p)
at_whole g w p at = ap (whole_point g w) (sym (none (index_of w.grid p))) ∙ along_row g w p 0 at (omega (arith, at.x)) ∙ none (index_of g (whole_of w p))
  where
    none : (a : ℕ) → a + 0 ≡ a
    none a = omega arith

-- what was put over a part of a list
pub put_at : (f : ℤ → ℕ) (samples : List ℤ) (before new after : List ℕ) (from i : ℕ) → length before ≡ from → new ≡ map f samples → i < length samples
    → get_or (before ++ (new ++ after)) (from + i) 0 ≡ f (sample samples i)
put_at f samples before new after from i len is low =
    let count : length new ≡ length samples = ap length is ∙ length-map samples f in
    let place : from + i - from ≡ i = omega arith in
    get_or-append_right before (new ++ after) from (from + i) 0 len (omega arith)
    ∙ ap (λ (k : ℕ). get_or (new ++ after) k 0) place
    ∙ get_or_append_left new after 0 i (omega (arith, count, low))
    ∙ ap (λ (l : List ℕ). get_or l i 0) is
    ∙ get_or-map f samples i (pos 0) 0 low

module _ (b : InBox) where
  -- the sample at a place of the list
  pub listed : (p : ℕ) → p < point_count b.window.grid → sample (boxed_list b) p ≡ boxed_at b p
  listed p low = get_or-map-range_with_len (boxed_at b) 0 (point_count b.window.grid) p p (pos 0) low (omega arith)

  pub boxed_length : length (boxed_list b) ≡ point_count b.window.grid
  boxed_length = length-map-range_with_len (boxed_at b) 0 (point_count b.window.grid)

  -- each of them is a sample
  pub boxed_range : IsVolume b.volume → IsWindow b.volume.grid b.window → IsGrid b.window.grid → All IsSample (boxed_list b)
  boxed_range volume window grid k d h =
      let low : k < point_count b.window.grid = subst (λ m. k < m) boxed_length h in
      subst IsSample (sym (get_or-map-range_with_len (boxed_at b) 0 (point_count b.window.grid) k k d low (omega arith)))
      (sample_in_range b.volume (whole_point b.volume.grid b.window k) volume (whole_in b.volume.grid b.window window (grid_is_solid grid) k))

  -- a run of them
  pub run_at : (start n k : ℕ) → k < n → start + n ≤ point_count b.window.grid → sample (take n (drop start (boxed_list b))) k ≡ boxed_at b (start + k)
  run_at start n k low room =
      get_or-take n (drop start (boxed_list b)) k (pos 0) low ∙ get_or-drop start (boxed_list b) k (pos 0) ∙ listed (start + k) (omega (arith, low, room))

  pub run_length : (start n : ℕ) → start + n ≤ point_count b.window.grid → length (take n (drop start (boxed_list b))) ≡ n
  run_length start n room = length-take-le n (drop start (boxed_list b)) (omega (arith, room, length-drop start (boxed_list b), boxed_length))

  -- the signs of a run
  pub signs_are : (f : ℤ → ℕ) (start n : ℕ) (signs : List ℕ) → start + n ≤ point_count b.window.grid → length signs ≡ n
      → ((i : ℕ) → i < n → get_or signs i 0 ≡ f (boxed_at b (start + i))) → signs ≡ map f (take n (drop start (boxed_list b)))
  signs_are f start n signs room len each =
      let run = take n (drop start (boxed_list b)) in
      let size : length run ≡ n = run_length start n room in
      ext_get_or 0 signs (map f run) (len ∙ sym (length-map run f ∙ size))
      (λ i low. (let within : i < n = omega (arith, low, len) in
      each i within ∙ sym (get_or-map f run i (pos 0) 0 (omega (arith, size, within)) ∙ ap f (run_at start n i within room))))

  -- a row of the box is one of the volume
  module _ (p : Point) (n : ℕ) (at : IsPoint b.window.grid p) (fits : p.x + n ≤ b.window.grid.nx) where
    abbrev place : ℕ → ℤ
    place d = sample b.volume.samples (index_of b.volume.grid (whole_of b.window p) + d)

    pub row_length : length (row_samples b.volume (whole_of b.window p) n) ≡ n
    row_length = length-map-range_with_len place 0 n

    pub row_at : (i : ℕ) → i < n → sample (row_samples b.volume (whole_of b.window p) n) i ≡ boxed_at b (index_of b.window.grid p + i)
    row_at i low =
        get_or-map-range_with_len place 0 n i i (pos 0) low (omega arith)
        ∙ ap (sample b.volume.samples) (sym (along_row b.volume.grid b.window p i at (omega (arith, fits, low))))

    pub row_is : row_samples b.volume (whole_of b.window p) n ≡ take n (drop (index_of b.window.grid p) (boxed_list b))
    row_is =
        let start : ℕ = index_of b.window.grid p in
        let room : start + n ≤ point_count b.window.grid = row_in b.window.grid p at n fits in
        ext_get_or (pos 0) (row_samples b.volume (whole_of b.window p) n) (take n (drop start (boxed_list b))) (row_length ∙ sym (run_length start n room))
        (λ i low. (let within : i < n = omega (arith, low, row_length) in
        row_at i within ∙ sym (run_at start n i within room)))
