-- The places of the crossing edges of rows of points, one row after the other.
use Rattle.std.proofs.Common.{◌≡◌, ℕ, ℤ, ◌+◌, ◌-◌, ◌*◌, ◌<◌, ◌≤◌, List, [], ◌∷◌, ◌++◌, length, take, drop, get_or, refl, sym, ◌∙◌, ap, ap₂, subst, arith, zero-add, append_assoc, inl, inr}
use Rattle.std.specs.List.{range_with_len}
use Rattle.std.proofs.Math.Seq.{drop-append_seam}
use Rattle.std.proofs.lemmas.Bool.{cases_lt}
use Rattle.std.proofs.lemmas.List.{get_or-append_right, get_or_append_left, length-append, length-map, take_at}
use Rattle.std.proofs.lemmas.List.FromFn.{length-range_with_len}
use Rattle.std.proofs.lemmas.List.Sums.{count_by-le-length, length-filter}
use Rattle.iso_defs.specs.Grid.{Grid, point_count, is_crossing}
use Rattle.iso_defs.specs.Rows.{row_count}
use Rattle.crossing_edges.specs.Flags.{edge_place, names_in, places_in}
use Rattle.crossing_edges.proofs.Counting.{places_empty, places_more}
use Rattle.crossing_edges.proofs.FlagParts.{no_places, row_in}
use Rattle.flat_mesh.specs.Lattice.{Leveled, heights}
use Rattle.flat_mesh.specs.Rows.{row_start}
use Rattle.mesh_rows.specs.Rows.{AreEdges, AreFlags, IsStill, row_names, row_places}
use Rattle.sample_rows.specs.declared.places.CrossingPlaces.{CrossingPlaces}
use Rattle.sample_rows.specs.Places.{HaveAllPlaces, HavePlaces, first_places}
use Rattle.sample_rows.proofs.Numbered.{row_low}

-- no more places than names
places_low : (g : Grid) (s : ℕ → ℤ) (a n : ℕ) → length (places_in g s a n) ≤ n
unfolding places_in names_in
places_low g s a n =
    let names : List ℕ = names_in g s a n in
    let count : length (places_in g s a n) ≡ length names = length-map names (edge_place g s) in
    let tested : length names ≤ length (range_with_len a n)
    = subst (λ k. k ≤ length (range_with_len a n)) (sym (length-filter (is_crossing g s) (range_with_len a n))) (count_by-le-length (is_crossing g s) (range_with_len a n)) in
    omega (arith, count, tested, length-range_with_len a n)

pub row_few : (v : Leveled) (y z : ℕ) → length (row_places v y z) ≤ 3 * v.grid.nx
row_few v y z = places_low v.grid (heights v) (3 * row_start v.grid y z) (3 * v.grid.nx)

-- the places of the first rows, by those of fewer rows and of those behind them
places_cut : (v : Leveled) (row more : ℕ) → first_places v (row + more) ≡ first_places v row ++ places_in v.grid (heights v) (3 * (v.grid.nx * row)) (3 * (v.grid.nx * more))
places_cut v row more =
    let all : 3 * (v.grid.nx * (row + more)) ≡ 3 * (v.grid.nx * row) + 3 * (v.grid.nx * more) = omega arith in
    ap (places_in v.grid (heights v) 0) all ∙ (places_more v.grid (heights v) 0 (3 * (v.grid.nx * row)) (3 * (v.grid.nx * more))
    ∙ ap (λ a. first_places v row ++ places_in v.grid (heights v) a (3 * (v.grid.nx * more))) (zero-add (3 * (v.grid.nx * row))))

row_next : (v : Leveled) (y z : ℕ) → first_places v (y + v.grid.ny * z + 1) ≡ first_places v (y + v.grid.ny * z) ++ row_places v y z
row_next v y z =
    let one : 3 * (v.grid.nx * 1) ≡ 3 * v.grid.nx = omega arith in
    places_cut v (y + v.grid.ny * z) 1 ∙ ap (λ n. first_places v (y + v.grid.ny * z) ++ places_in v.grid (heights v) (3 * row_start v.grid y z) n) one

pub first_low : (v : Leveled) (places : CrossingPlaces) (rows : ℕ) → HavePlaces v rows places → length places.list.items ≤ 3 * (v.grid.nx * rows)
first_low v places rows have = omega (arith, ap length have.list, places_low v.grid (heights v) 0 (3 * (v.grid.nx * rows)))

-- before a row there are no more places than the grid has edges
pub before_row : (v : Leveled) (places : CrossingPlaces) (y z : ℕ) → y < v.grid.ny → z < v.grid.nz → HavePlaces v (y + v.grid.ny * z) places → length places.list.items ≤ 3 * point_count v.grid
before_row v places y z hy hz have =
    omega (arith, first_low v places (y + v.grid.ny * z) have, row_in v.grid (y + v.grid.ny * z) (row_low v.grid.ny v.grid.nz y z hy hz))

-- no row yet
pub no_rows : (v : Leveled) (places : CrossingPlaces) → places.list.items ≡ [] → places.starts.items ≡ [] → HavePlaces v 0 places
no_rows v places listed started =
    let none : 0 ≡ 3 * (v.grid.nx * 0) = omega arith in
    record {
      list = listed ∙ (sym (places_empty v.grid (heights v) 0) ∙ ap (places_in v.grid (heights v) 0) none);
      count = ap length started;
      starts = λ row low. absurd (omega arith);
    }

-- one row more
pub row_kept : (v : Leveled) (y z : ℕ) (old new : CrossingPlaces) (row : List ℕ) → HavePlaces v (y + v.grid.ny * z) old → row ≡ row_places v y z
    → new.list.items ≡ old.list.items ++ row → new.starts.items ≡ old.starts.items ++ (length old.list.items ∷ []) → HavePlaces v (y + v.grid.ny * z + 1) new
row_kept v y z old new row before here listed started =
    let rows : ℕ = y + v.grid.ny * z in
    let start : ℕ = length old.list.items in
    record {
      list = listed ∙ (ap₂ ◌++◌ before.list here ∙ sym (row_next v y z));
      count = ap length started ∙ (length-append old.starts.items (start ∷ []) ∙ omega (arith, before.count));
      starts = λ r low. elim (cases_lt r rows) [
        | inl earlier ↦ ap (λ l. get_or l r 0) started ∙ (get_or_append_left old.starts.items (start ∷ []) 0 r (omega (arith, before.count)) ∙ before.starts r earlier)
        | inr late ↦ (
            let same : r ≡ rows = omega arith in
            let zero : rows - rows ≡ 0 = omega arith in
            ap (λ l. get_or l r 0) started ∙ (ap (λ r. get_or (old.starts.items ++ (start ∷ [])) r 0) same
            ∙ (get_or-append_right old.starts.items (start ∷ []) rows rows 0 before.count (omega arith) ∙ ap (λ i. get_or (start ∷ []) i 0) zero)
            ∙ (ap length before.list ∙ ap (λ r. length (first_places v r)) (sym same))))
      ];
    }

-- a row whose flags are zero has no places
pub none_here : (v : Leveled) (y z : ℕ) (flags : List ℕ) → length flags ≡ v.grid.nx → AreFlags v y z flags → ((x : ℕ) → x < length flags → get_or flags x 0 ≡ 0) → row_places v y z ≡ []
none_here v y z flags count are zeros =
    no_places v.grid (heights v) (row_start v.grid y z) v.grid.nx (λ x low. sym (are x low) ∙ zeros x (omega (arith, count)))

-- there are as many places as edges
pub places_count : (v : Leveled) (y z : ℕ) (edges : List ℕ) → AreEdges v y z edges → length edges ≡ length (row_places v y z)
unfolding places_in
places_count v y z edges are =
    sym (length-map edges (λ e. 3 * row_start v.grid y z + e)) ∙ (ap length are.names ∙ sym (length-map (row_names v y z) (edge_place v.grid (heights v))))

pub edges_low : (v : Leveled) (y z : ℕ) (edges : List ℕ) → AreEdges v y z edges → length edges ≤ 3 * v.grid.nx
edges_low v y z edges are = omega (arith, places_count v y z edges are, row_few v y z)

-- the places of a row among those of all
pub record IsRowPart (v : Leveled) (y z : ℕ) (list : List ℕ) (a e : ℕ) : Type 0 where
  pub within : e ≤ length list
  pub part : take (e - a) (drop a list) ≡ row_places v y z

pub row_part : (v : Leveled) (places : CrossingPlaces) (y z a e : ℕ) → HaveAllPlaces v places → y < v.grid.ny → z < v.grid.nz
    → a ≡ get_or places.starts.items (y + v.grid.ny * z) 0 → e ≡ a + length (row_places v y z) → IsRowPart v y z places.list.items a e
row_part v places y z a e have hy hz start end =
    let row : ℕ = y + v.grid.ny * z in
    let low : row < row_count v.grid = row_low v.grid.ny v.grid.nz y z hy hz in
    let more : ℕ = row_count v.grid - (row + 1) in
    let rows : row_count v.grid ≡ row + 1 + more = omega arith in
    let front : List ℕ = first_places v row in
    let here : List ℕ = row_places v y z in
    let rest : List ℕ = places_in v.grid (heights v) (3 * (v.grid.nx * (row + 1))) (3 * (v.grid.nx * more)) in
    let at : a ≡ length front = start ∙ have.starts row low in
    let few : e - a ≡ length here = omega arith in
    let cut : places.list.items ≡ front ++ (here ++ rest)
    = have.list ∙ (ap (first_places v) rows ∙ (places_cut v (row + 1) more ∙ (ap (λ l. l ++ rest) (row_next v y z) ∙ append_assoc front here rest))) in
    record {
      within = omega (arith, at, end, ap length cut, length-append front (here ++ rest), length-append here rest);
      part = ap₂ (λ n l. take n l) few (ap₂ drop at cut ∙ drop-append_seam front (here ++ rest)) ∙ take_at here rest (length here) refl;
    }

-- a row where no crossing edge begins has none
pub still_none : (v : Leveled) (y z : ℕ) → IsStill v y z → [] ≡ row_places v y z
still_none v y z still = sym (no_places v.grid (heights v) (row_start v.grid y z) v.grid.nx still.none)

-- all places are no more than the grid has edges
pub all_low : (v : Leveled) (places : CrossingPlaces) → HaveAllPlaces v places → length places.list.items ≤ 3 * point_count v.grid
all_low v places have =
    let all : 3 * (v.grid.nx * row_count v.grid) ≡ 3 * point_count v.grid = omega arith in
    omega (arith, first_low v places (row_count v.grid) have, all)

-- a row has as many crossing edges as there are places from where it begins to where the next one does
pub edges_here : (v : Leveled) (places : CrossingPlaces) (y z : ℕ) → HaveAllPlaces v places → y < v.grid.ny → z < v.grid.nz
    → (start end : ℕ) → start ≡ get_or places.starts.items (y + v.grid.ny * z) 0
    → (y + v.grid.ny * z + 1 < row_count v.grid → end ≡ get_or places.starts.items (y + v.grid.ny * z + 1) 0)
    → (row_count v.grid ≤ y + v.grid.ny * z + 1 → end ≡ length places.list.items) → end ≡ start + length (row_names v y z)
unfolding places_in
edges_here v places y z have hy hz start end first next last =
    let row : ℕ = y + v.grid.ny * z in
    let low : row < row_count v.grid = row_low v.grid.ny v.grid.nz y z hy hz in
    let ends : end ≡ length (first_places v (row + 1)) = elim (cases_lt (row + 1) (row_count v.grid)) [
      | inl more ↦ next more ∙ have.starts (row + 1) more
      | inr all ↦ (let is : row_count v.grid ≡ row + 1 = omega arith in last all ∙ (ap length have.list ∙ ap (λ n. length (first_places v n)) is))
    ] in
    let count : length (first_places v (row + 1)) ≡ length (first_places v row) + length (row_places v y z)
    = ap length (row_next v y z) ∙ length-append (first_places v row) (row_places v y z) in
    let named : length (row_places v y z) ≡ length (row_names v y z) = length-map (row_names v y z) (edge_place v.grid (heights v)) in
    omega (arith, ends, count, named, first, have.starts row low)
