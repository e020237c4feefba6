-- Rows as they are kept, in a list that grows.
use Rattle.std.proofs.Common.{◌≡◌, ℕ, ◌+◌, ◌-◌, ◌*◌, ◌<◌, ◌≤◌, true, false, List, [], ◌∷◌, ◌++◌, length, take, drop, get_or, refl, sym, ◌∙◌, ap, ap₂, subst, arith, inl, inr}
use Rattle.std.proofs.lemmas.Bool.{cases_lt, false≢true}
use Rattle.std.proofs.lemmas.List.{drop-append-le, get_or_append_left, get_or_push, length-append, length-drop, length-map, length_push, nil_from_length, take-append-le, take_all}
use Rattle.std.proofs.Math.Seq.{drop-append_seam}
use Rattle.crossing_edges.specs.Flags.{edge_place, places_in}
use Rattle.flat_mesh.specs.Lattice.{Leveled, heights}
use Rattle.mesh_rows.specs.Rows.{AreEdges, IsStill, row_names, row_places}
use Rattle.sample_rows.specs.declared.parts.RowPart.{RowPart}
use Rattle.sample_rows.specs.declared.parts.RowParts.{RowParts}
use Rattle.sample_rows.specs.Cases.{HasNoLoops}
use Rattle.sample_rows.specs.Parts.{AreCells, AreNumbers, HaveRows, IsKeptRow, part_at, part_cases, part_places}
use Rattle.sample_rows.proofs.Listed.{none_active}
use Rattle.sample_rows.proofs.Numbered.{same_row}
use Rattle.sample_rows.proofs.QuietCases.{quiet_case}
use Rattle.sample_rows.proofs.RowPlaces.{still_none}

-- a part of a list that has got longer
cut_same : {X : Type 0} (xs ys : List X) (a n : ℕ) → a + n ≤ length xs → take n (drop a (xs ++ ys)) ≡ take n (drop a xs)
cut_same xs ys a n low = ap (take n) (drop-append-le a xs ys (omega arith)) ∙ take-append-le n (drop a xs) ys (omega (arith, length-drop a xs))

-- what was put behind it
cut_last : {X : Type 0} (xs ys : List X) (a n : ℕ) → a ≡ length xs → n ≡ length ys → take n (drop a (xs ++ ys)) ≡ ys
cut_last xs ys a n start count = ap₂ (λ n a. take n (drop a (xs ++ ys))) count start ∙ (ap (take (length ys)) (drop-append_seam xs ys) ∙ take_all (length ys) ys (omega arith))

module _ (v : Leveled) (y z : ℕ) where
  cells_by : (places places' cases cases' : List ℕ) → places' ≡ places → cases' ≡ cases → AreCells v y z places cases → AreCells v y z places' cases'
  cells_by places places' cases cases' p c are = subst (λ places. AreCells v y z places cases') (sym p) (subst (AreCells v y z places) (sym c) are)

  -- a row is kept as it was where the list gets longer
  pub kept_longer : (list more : List ℕ) (part : RowPart) → IsKeptRow v y z list part → IsKeptRow v y z (list ++ more) part
  kept_longer list more part kept = record {
    whole_fits = λ e. omega (arith, kept.whole_fits e, length-append list more);
    numbers = λ e. subst (AreNumbers v y z) (sym (cut_same list more part.start v.grid.nx (kept.whole_fits e))) (kept.numbers e);
    few_fit = λ e. omega (arith, kept.few_fit e, length-append list more);
    edges = λ e. subst (AreEdges v y z) (sym (cut_same list more part.start part.edges (omega (arith, kept.few_fit e)))) (kept.edges e);
    cells = λ e. cells_by (part_places list part) (part_places (list ++ more) part) (part_cases list part) (part_cases (list ++ more) part)
        (cut_same list more (part.start + part.edges) part.cells (omega (arith, kept.few_fit e)))
        (cut_same list more (part.start + part.edges + part.cells) part.cells (omega (arith, kept.few_fit e))) (kept.cells e);
  }

  -- a row that was put behind the others whole
  pub whole_kept : (list numbers : List ℕ) (part : RowPart) → part.is_whole ≡ true → part.start ≡ length list → AreNumbers v y z numbers → IsKeptRow v y z (list ++ numbers) part
  whole_kept list numbers part whole start are = record {
    whole_fits = λ e. omega (arith, start, are.count, length-append list numbers);
    numbers = λ e. subst (AreNumbers v y z) (sym (cut_last list numbers part.start v.grid.nx start (sym are.count))) are;
    few_fit = λ e. absurd (false≢true (sym e ∙ whole));
    edges = λ e. absurd (false≢true (sym e ∙ whole));
    cells = λ e. absurd (false≢true (sym e ∙ whole));
  }

  -- and as what it has
  pub few_kept : (list edges places cases : List ℕ) (part : RowPart) → part.is_whole ≡ false → part.start ≡ length list → part.edges ≡ length edges → part.cells ≡ length places
      → AreEdges v y z edges → AreCells v y z places cases → IsKeptRow v y z (((list ++ edges) ++ places) ++ cases) part
  few_kept list edges places cases part few start count some are active =
      let one : length (list ++ edges) ≡ length list + length edges = length-append list edges in
      let two : length ((list ++ edges) ++ places) ≡ length (list ++ edges) + length places = length-append (list ++ edges) places in
      let three : length (((list ++ edges) ++ places) ++ cases) ≡ length ((list ++ edges) ++ places) + length cases = length-append ((list ++ edges) ++ places) cases in
      record {
        whole_fits = λ e. absurd (false≢true (sym few ∙ e));
        numbers = λ e. absurd (false≢true (sym few ∙ e));
        few_fit = λ e. omega (arith, one, two, three, start, count, some, active.same);
        edges = λ e. subst (AreEdges v y z)
            (sym (cut_same ((list ++ edges) ++ places) cases part.start part.edges (omega (arith, one, two, start, count))
            ∙ (cut_same (list ++ edges) places part.start part.edges (omega (arith, one, start, count)) ∙ cut_last list edges part.start part.edges start count))) are;
        cells = λ e. cells_by places (part_places (((list ++ edges) ++ places) ++ cases) part) cases (part_cases (((list ++ edges) ++ places) ++ cases) part)
            (cut_same ((list ++ edges) ++ places) cases (part.start + part.edges) part.cells (omega (arith, one, two, start, count, some))
            ∙ cut_last (list ++ edges) places (part.start + part.edges) part.cells (omega (arith, one, start, count)) some)
            (cut_last ((list ++ edges) ++ places) cases (part.start + part.edges + part.cells) part.cells (omega (arith, one, two, start, count, some)) (some ∙ sym active.same)) active;
      }

  -- no crossing edges, where there are no places of any
  pub no_edges : row_places v y z ≡ [] → AreEdges v y z []
  unfolding places_in
  no_edges none = record { names = sym (nil_from_length (row_names v y z) (sym (length-map (row_names v y z) (edge_place v.grid (heights v))) ∙ ap length none)) }

  no_cells : 0 < v.grid.nx → HasNoLoops v y z → AreCells v y z [] []
  no_cells some none = record {
    same = refl;
    few = some;
    active = λ hy hz. record {
      all = [];
      all_are = λ x in_row low. quiet_case v _ (none.none x in_row hy hz);
      places_are = sym (none_active 0 (v.grid.nx - 1));
      cases_are = refl;
    };
  }

  -- a row that has neither
  pub still_part : (list : List ℕ) (part : RowPart) → 0 < v.grid.nx → part.is_whole ≡ false → part.start ≡ length list → part.edges ≡ 0 → part.cells ≡ 0 → IsStill v y z → HasNoLoops v y z
      → IsKeptRow v y z list part
  still_part list part some few start edges cells still none = record {
    whole_fits = λ e. absurd (false≢true (sym few ∙ e));
    numbers = λ e. absurd (false≢true (sym few ∙ e));
    few_fit = λ e. omega (arith, start, edges, cells);
    edges = λ e. subst (λ n. AreEdges v y z (take n (drop part.start list))) (sym edges) (no_edges (sym (still_none v y z still)));
    cells = λ e. subst (λ n. AreCells v y z (take n (drop (part.start + part.edges) list)) (take n (drop (part.start + part.edges + part.cells) list))) (sym cells) (no_cells some none);
  }

-- one row more
pub rows_more : (v : Leveled) (y z : ℕ) (old new : RowParts) (part : RowPart) → y < v.grid.ny → HaveRows v (y + v.grid.ny * z) old → new.parts.items ≡ old.parts.items ++ (part ∷ [])
    → length new.list.items ≤ length old.list.items + 5 * v.grid.nx
    → ((y' z' : ℕ) (p : RowPart) → IsKeptRow v y' z' old.list.items p → IsKeptRow v y' z' new.list.items p)
    → IsKeptRow v y z new.list.items part → HaveRows v (y + v.grid.ny * z + 1) new
rows_more v y z old new part y_low before listed room longer here =
    let rows : ℕ = y + v.grid.ny * z in
    let none : RowPart = record { start = 0; edges = 0; cells = 0; is_whole = false } in
    let kept : (r : ℕ) → r < rows → part_at new r ≡ part_at old r
    = λ r low. ap (λ l. get_or l r none) listed ∙ get_or_append_left old.parts.items (part ∷ []) none r (omega (arith, before.count)) in
    let last : part_at new rows ≡ part = ap (λ l. get_or l rows none) listed ∙ get_or_push old.parts.items part none rows before.count in
    let more : 5 * (v.grid.nx * (rows + 1)) ≡ 5 * (v.grid.nx * rows) + 5 * v.grid.nx = omega arith in
    record {
      count = ap length listed ∙ (length_push old.parts.items part ∙ ap (λ n. n + 1) before.count);
      room = omega (arith, room, before.room, more);
      each = λ y' z' hy hz low. elim (cases_lt (y' + v.grid.ny * z') rows) [
        | inl earlier ↦ subst (IsKeptRow v y' z' new.list.items) (sym (kept (y' + v.grid.ny * z') earlier)) (longer y' z' _ (before.each y' z' hy hz earlier))
        | inr late ↦ (
            let at : y' + v.grid.ny * z' ≡ rows = omega arith in
            let parts = same_row v.grid.ny y z y' z' y_low hy (sym at) in
            let same : part_at new (y' + v.grid.ny * z') ≡ part = ap (part_at new) at ∙ last in
            subst (IsKeptRow v y' z' new.list.items) (sym same)
            (subst (λ z. IsKeptRow v y' z new.list.items part) parts.1 (subst (λ y. IsKeptRow v y z new.list.items part) parts.0 here)))
      ];
    }

-- no row yet
pub no_parts : (v : Leveled) (rows : RowParts) → rows.list.items ≡ [] → rows.parts.items ≡ [] → HaveRows v 0 rows
no_parts v rows list parts = record { count = ap length parts; room = omega (arith, ap length list); each = λ y z hy hz low. absurd (omega arith) }
