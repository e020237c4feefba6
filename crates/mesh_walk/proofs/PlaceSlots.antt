-- The places of crossing edges in their slots.
use Rattle.std.proofs.Common.{◌≡◌, ℕ, ◌+◌, ◌*◌, ◌/◌, ◌%◌, ◌<◌, ◌≤◌, true, List, [], ◌∷◌, set, length, get_or, inl, inr, ◌⊎◌, sym, ◌∙◌, ap, subst, arith}
use Rattle.std.proofs.lemmas.List.{get_or-map, get_or-set_other, length-map}
use Rattle.std.proofs.lemmas.Bool.{cases_eq, cases_lt}
use Rattle.std.proofs.lemmas.Grind.{get_or-set_at}
use Rattle.iso_defs.specs.Lists.{below}
use Rattle.iso_defs.specs.Grid.{name_bound, is_crossing}
use Rattle.iso_defs.specs.Cell.{cell_edge, cell_signs, corner_point, crosses, edge_corner}
use Rattle.triangle_laws.proofs.Lists.{In-filter}
use Rattle.mesh_laws.proofs.Apart.{by_twelve}
use Rattle.cell_loops.specs.Loops.{IsLoop}
use Rattle.case_faces.specs.Fans.{edge_at}
use Rattle.flat_mesh.specs.Faces.{AllCross}
use Rattle.mesh_laws.proofs.Numbers.{crossing_of_cell}
use Rattle.crossing_edges.specs.Flags.{edge_place, places_in}
use Rattle.crossing_edges.proofs.NextPoints.{ends, place_at}
use Rattle.flat_mesh.specs.declared.centres.Cell.{Cell}
use Rattle.flat_mesh.specs.Centres.{IsCellAt, cell_place}
use Rattle.flat_mesh.specs.Lattice.{Leveled, heights}
use Rattle.flat_mesh.specs.Rows.{row_start}
use Rattle.flat_mesh.proofs.CellPlaces.{cell_placed}
use Rattle.flat_mesh.proofs.Known.{place_low}
use Rattle.mesh_rows.specs.Rows.{AreEdges, row_names, row_places}
use Rattle.mesh_walk.specs.Places.{ArePlaced, AreRowPlaces, due_to, in_slot, slot_place}
use Rattle.mesh_walk.specs.Slots.{AreLaid, edge_slot, row_slot}
use Rattle.mesh_walk.proofs.RowSlots.{laid_by}
use Rattle.mesh_walk.proofs.SlotRows.{edge_laid}

-- the places of a row, one for each of its crossing edges
module _ (v : Leveled) (y z : ℕ) (edges : List ℕ) (are : AreEdges v y z edges) where
  abbrev names : List ℕ
  names = row_names v y z

  name_count : length names ≡ length edges
  name_count = ap length (sym are.names) ∙ length-map edges (λ e. 3 * row_start v.grid y z + e)

  pub place_count : length (row_places v y z) ≡ length edges
  unfolding places_in
  place_count = length-map names (edge_place v.grid (heights v)) ∙ name_count

  pub place_of : (k : ℕ) → k < length edges → get_or (row_places v y z) k 0 ≡ edge_place v.grid (heights v) (3 * row_start v.grid y z + get_or edges k 0)
  unfolding places_in
  place_of k low =
      get_or-map (edge_place v.grid (heights v)) names k 0 0 (omega (arith, name_count))
      ∙ ap (edge_place v.grid (heights v)) (ap (λ l. get_or l k 0) (sym are.names) ∙ get_or-map (λ e. 3 * row_start v.grid y z + e) edges k 0 0 low)

  -- one more of them is laid
  pub laid_more : (row places : List ℕ) (at k : ℕ) → row ≡ row_places v y z → k < length edges → at + get_or edges k 0 < length places
      → ((j : ℕ) → j < k → get_or places (at + get_or edges j 0) 0 ≡ edge_place v.grid (heights v) (3 * row_start v.grid y z + get_or edges j 0))
      → (j : ℕ) → j < k + 1 → get_or (set places (at + get_or edges k 0) (get_or row k 0)) (at + get_or edges j 0) 0 ≡ edge_place v.grid (heights v) (3 * row_start v.grid y z + get_or edges j 0)
  laid_more row places at k same low room laid j upto =
      elim (cases_eq (get_or edges j 0) (get_or edges k 0)) [
        | inl e ↦ get_or-set_at places (at + get_or edges k 0) (at + get_or edges j 0) (get_or row k 0) 0 (omega (arith, e)) room
            ∙ (ap (λ l. get_or l k 0) same ∙ (place_of k low ∙ ap (λ e. edge_place v.grid (heights v) (3 * row_start v.grid y z + e)) (sym e)))
        | inr apart ↦ get_or-set_other places (at + get_or edges k 0) (at + get_or edges j 0) (get_or row k 0) 0 (λ e. apart (omega (arith, e)))
            ∙ laid j (earlier (cases_eq j k) apart)
      ]
    where
      earlier : (j ≡ k) ⊎ (j ≡ k → ⊥) → (get_or edges j 0 ≡ get_or edges k 0 → ⊥) → j < k
      earlier (inl e) apart = absurd (apart (ap (λ i. get_or edges i 0) e))
      earlier (inr ne) apart = less (cases_lt j k) ne
        where
          less : (j < k) ⊎ (k ≤ j) → (j ≡ k → ⊥) → j < k
          less (inl l) ne = l
          less (inr g) ne = absurd (ne (omega (arith, g, upto)))

  pub laid_all : (places : List ℕ) (k : ℕ) → length edges ≤ k
      → ((j : ℕ) → j < k → get_or places (row_slot y z + get_or edges j 0) 0 ≡ edge_place v.grid (heights v) (3 * row_start v.grid y z + get_or edges j 0))
      → AreLaid (in_slot places) (due_to v) v y z
  laid_all places k all laid = laid_by v y z (in_slot places) (due_to v) edges are (λ j low. ap (λ n. n ∷ []) (laid j (omega (arith, all, low))))

-- the places of a cell
module _ (v : Leveled) (cell : Cell) (h : IsCellAt v.grid cell) where
  crossing : (e : ℕ) → e < 12 → crosses (cell_signs v.grid (heights v) cell.index) e ≡ true → is_crossing v.grid (heights v) (cell_edge v.grid cell.index e) ≡ true
  crossing e low c =
      (In-filter (is_crossing v.grid (heights v)) (cell_edge v.grid cell.index e) (below (name_bound v.grid))
      (crossing_of_cell v.grid (heights v) cell.index e (cell_placed v.grid cell h).known low c)).1

  low_place : (e : ℕ) → e < 12 → crosses (cell_signs v.grid (heights v) cell.index) e ≡ true → cell_place v cell.index e ≤ 1000
  low_place e low c =
      let corner : ℕ = corner_point v.grid cell.index (edge_corner e) in
      let axis : e / 4 < 3 = omega arith in
      subst (λ n. n ≤ 1000) (sym (place_at v.grid (heights v) corner (e / 4) axis)) (place_low _ _ (ends v.grid (heights v) corner (e / 4) axis (crossing e low c)).apart)

  -- where the place on an edge stands
  slot_here : (rows : List ℕ) (at e : ℕ) → rows ≡ row_slot cell.low.y cell.low.z ∷ row_slot (cell.low.y + 1) cell.low.z ∷ row_slot cell.low.y (cell.low.z + 1) ∷ row_slot (cell.low.y + 1) (cell.low.z + 1) ∷ []
      → at ≡ 3 * cell.low.x → e < 12 → get_or rows (edge_at e / 8) 0 + at + edge_at e % 8 ≡ edge_slot cell.low.y cell.low.z e + 3 * cell.low.x
  slot_here rows at e are is low =
      ap (λ l. get_or l (edge_at e / 8) 0 + at + edge_at e % 8) are
      ∙ by_twelve (λ e. get_or (row_slot cell.low.y cell.low.z ∷ row_slot (cell.low.y + 1) cell.low.z ∷ row_slot cell.low.y (cell.low.z + 1) ∷ row_slot (cell.low.y + 1) (cell.low.z + 1) ∷ []) (edge_at e / 8) 0
      + at + edge_at e % 8 ≡ edge_slot cell.low.y cell.low.z e + 3 * cell.low.x)
      (omega (arith, is)) (omega (arith, is)) (omega (arith, is)) (omega (arith, is)) (omega (arith, is)) (omega (arith, is)) (omega (arith, is)) (omega (arith, is)) (omega (arith, is)) (omega (arith, is)) (omega (arith, is)) (omega (arith, is)) e low

  pub placed : (places rows edges : List ℕ) (at : ℕ) → AreRowPlaces v cell.low.y cell.low.z places rows → at ≡ 3 * cell.low.x → IsLoop edges → AllCross v cell.index edges
      → ArePlaced (cell_place v cell.index) edges (slot_place places rows at)
  placed places rows edges at are is shape crosses = record {
    shape = shape;
    each = λ k d low.
        let e : ℕ = get_or edges k d in
        let twelve : e < 12 = shape.low k d low in
        let there = edge_laid (in_slot places) (due_to v) v cell h are.around e twelve (crossing e twelve (crosses.each k d low)) in
        ap (λ i. get_or places i 0) (slot_here rows at e are.rows_are is twelve) ∙ ap (λ l. get_or l 0 0) there;
    few = λ k d low. low_place (get_or edges k d) (shape.low k d low) (crosses.each k d low);
  }
