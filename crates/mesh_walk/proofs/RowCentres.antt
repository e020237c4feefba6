-- The centres of the cells of a row, listed, and the texts of their numbers.
use Rattle.std.proofs.Common.{◌≡◌, ℕ, zero, suc, ◌+◌, ◌-◌, ◌*◌, ◌<◌, ◌≤◌, ◌^◌, All, List, [], ◌++◌, map, drop, length, get_or, inl, inr, refl, sym, subst, ◌∙◌, ap, arith, zero-add}
use Rattle.std.specs.List.{flat_map, sum_by}
use Rattle.std.proofs.lemmas.Bool.{cases_lt}
use Rattle.std.proofs.lemmas.List.{get_or-append_right, get_or-drop, get_or-take, get_or_append_left, get_or_default, length-append}
use Rattle.std.proofs.lemmas.List.FromFn.{get_or-map-range_with_len, length-map-range_with_len}
use Rattle.iso_base.specs.Volume.{IsGrid}
use Rattle.iso_base.specs.declared.format.MeshFormat.{MeshFormat}
use Rattle.iso_defs.specs.Grid.{index, point_count}
use Rattle.iso_defs.specs.Lists.{below}
use Rattle.iso_defs.proofs.Points.{index_in}
use Rattle.cell_loops.specs.Loops.{row_centres}
use Rattle.case_faces.proofs.Corners.{flat_at, flat_more, flat_upto}
use Rattle.case_faces.proofs.Tables.{row_at}
use Rattle.flat_mesh.specs.Faces.{centres_of, loops_at}
use Rattle.flat_mesh.specs.Lattice.{Leveled}
use Rattle.flat_mesh.specs.Rows.{row_start}
use Rattle.flat_mesh.proofs.CellPlaces.{cell_placed}
use Rattle.flat_mesh.proofs.Loops.{few_loops}
use Rattle.mesh_text.specs.declared.number.Number.{Number}
use Rattle.mesh_text.specs.Numbers.{text_at}
use Rattle.mesh_lines.specs.Triangles.{corner_text}
use Rattle.mesh_walk.specs.Cells.{AreCells}
use Rattle.mesh_walk.specs.Listed.{AreLow, cell_centre_slots, centre_slots_to}
use Rattle.mesh_walk.specs.Numbers.{AreFirst, HasNumber}
use Rattle.mesh_walk.specs.declared.walk.Numbering.{Numbering}
use Rattle.mesh_walk.specs.Slots.{AreApart}
use Rattle.mesh_walk.specs.Texts.{HasCentres}
use Rattle.mesh_walk.specs.declared.cells.RowCells.{RowCells}
use Rattle.mesh_walk.proofs.ActiveCells.{case_of, cell_low, gap, gap_before, gap_low, place_low, quiet_gap, quiet_rest}
use Rattle.mesh_walk.proofs.CellRuns.{cell_in, cell_of}
use Rattle.mesh_walk.proofs.FaceLines.{centres_counted, few_centres_of, next_number, quiet_number}

-- numbers in order, all below a bound
record IsOrdered (xs : List ℕ) (bound : ℕ) : Type 0 where
  low : (j : ℕ) → j < length xs → get_or xs j 0 < bound
  up : (j k : ℕ) → j < k → k < length xs → get_or xs j 0 < get_or xs k 0

ordered_none : (bound : ℕ) → IsOrdered [] bound
ordered_none bound = record { low = λ j h. absurd (omega (arith, h)); up = λ j k h l. absurd (omega (arith, l)) }

ordered_more : (xs : List ℕ) (b a n : ℕ) → b ≤ a → IsOrdered xs b → IsOrdered (xs ++ map (λ i. a + i) (below n)) (a + n)
ordered_more xs b a n from is =
    let ys : List ℕ = map (λ i. a + i) (below n) in
    let count : length ys ≡ n = length-map-range_with_len (λ i. a + i) 0 n in
    let all = length-append xs ys in
    let old : (j : ℕ) → j < length xs → get_or (xs ++ ys) j 0 ≡ get_or xs j 0 = λ j h. get_or_append_left xs ys 0 j h in
    let new : (j : ℕ) → length xs ≤ j → j < length (xs ++ ys) → get_or (xs ++ ys) j 0 ≡ a + (j - length xs)
    = λ j least most. get_or-append_right xs ys (length xs) j 0 refl least ∙ get_or-map-range_with_len (λ i. a + i) 0 n (j - length xs) (j - length xs) 0 (omega (arith, least, most, all, count)) (zero-add (j - length xs)) in
    record {
      low = λ j h. elim (cases_lt j (length xs)) [
        | inl before ↦ omega (arith, old j before, is.low j before, from)
        | inr behind ↦ omega (arith, new j behind h, all, count, h, behind)
      ];
      up = λ j k h l. elim (cases_lt k (length xs)) [
        | inl before ↦ omega (arith, old j (omega (arith, h, before)), old k before, is.up j k h before)
        | inr behind ↦ elim (cases_lt j (length xs)) [
          | inl first ↦ omega (arith, old j first, is.low j first, new k behind l, from)
          | inr second ↦ omega (arith, new j second (omega (arith, h, l)), new k behind l, h, second, behind)
        ]
      ];
    }

ordered_apart : (xs : List ℕ) (bound : ℕ) → IsOrdered xs bound → AreApart xs
ordered_apart xs bound is = record {
  each = λ j k hj hk same. elim (cases_lt j k) [
    | inl less ↦ absurd (omega (arith, is.up j k less hk, same))
    | inr not_less ↦ elim (cases_lt k j) [
      | inl more ↦ absurd (omega (arith, is.up k j more hj, same))
      | inr equal ↦ omega (arith, not_less, equal)
    ]
  ];
}

module _ (v : Leveled) (is : IsGrid v.grid) (cells : RowCells) (are : AreCells v cells) where
  abbrev start : ℕ
  start = row_start v.grid cells.y cells.z

  abbrev place : ℕ → ℕ
  place k = get_or cells.places k 0

  pub low_cells : AreLow cells
  low_cells = record {
    few = elim (cases_lt cells.count 1026) [
      | inl low ↦ omega (arith, low)
      | inr high ↦ absurd (omega (arith, place_low v cells are 1025 (omega (arith, high)), is.x.most))
    ];
    places = λ k low. omega (arith, cell_low v cells are k low, is.x.most);
    cases = λ k low. (case_of v cells are k low).small;
  }

  pub few_cells : cells.count ≤ v.grid.nx
  few_cells = elim (cases_lt v.grid.nx cells.count) [
    | inl more ↦ absurd (omega (arith, place_low v cells are v.grid.nx more))
    | inr few ↦ few
  ]

  -- how many centres a cell has
  abbrev count_at : ℕ → ℕ
  count_at k = length (row_centres (get_or cells.cases k 0))

  module _ (k : ℕ) (low : k < cells.count) where
    abbrev q : ℕ
    q = start + place k

    count_is : count_at k ≡ sum_by centres_of (loops_at v q)
    count_is = centres_counted (get_or cells.cases k 0) ∙ ap (sum_by centres_of) (case_of v cells are k low).loops

    count_few : count_at k ≤ 2
    count_few = omega (arith, centres_counted (get_or cells.cases k 0), (row_at (get_or cells.cases k 0) (case_of v cells are k low).small).centres)

  -- the slots of the centres are listed in order
  ordered : (n : ℕ) → n ≤ cells.count → IsOrdered (centre_slots_to cells n) (3 * gap v cells are n)
  unfolding centre_slots_to
  ordered zero few = ordered_none (3 * gap v cells are 0)
  ordered (suc n) few =
      let low : n < cells.count = omega (arith, few) in
      let next : n + 1 ≡ suc n = omega arith in
      let more = ordered_more (flat_map (cell_centre_slots cells) (below n)) (3 * gap v cells are n) (3 * place n) (count_at n) (omega (arith, gap_before v cells are n low)) (ordered n (omega arith)) in
      let all : flat_map (cell_centre_slots cells) (below (suc n)) ≡ flat_map (cell_centre_slots cells) (below n) ++ cell_centre_slots cells n
      = ap (λ n. flat_map (cell_centre_slots cells) (below n)) (sym next) ∙ flat_more (cell_centre_slots cells) n in
      let to : gap v cells are (suc n) ≡ place n + 1 = refl in
      subst (λ l. IsOrdered l (3 * gap v cells are (suc n))) (sym all)
      (record { low = λ j h. omega (arith, more.low j h, to, count_few n low); up = more.up })

  abbrev all : List ℕ
  all = centre_slots_to cells cells.count

  some : 0 < v.grid.nx
  some = omega (arith, is.x.least)

  pub centres_low : All (λ s. s < 3078) all
  centres_low j d h =
      let o = ordered cells.count (omega arith) in
      let far = gap_low v cells are some cells.count (omega arith) in
      subst (λ s. s < 3078) (sym (get_or_default all j d 0 h)) (omega (arith, o.low j h, far, is.x.most))

  pub centres_apart : AreApart all
  centres_apart = ordered_apart all (3 * gap v cells are cells.count) (ordered cells.count (omega arith))

  -- the number of the first centre of each cell
  module _ (format : MeshFormat) (numbers : Numbering) (firsts : AreFirst numbers) (first : ℕ) (number : HasNumber numbers.first_centre v start first) where
    behind_gap : (n next : ℕ) → n < cells.count → HasNumber numbers.first_centre v (start + gap v cells are n) next → HasNumber numbers.first_centre v (start + place n) next
    behind_gap n next low has =
        quiet_number numbers.first_centre v (start + gap v cells are n) (place n - gap v cells are n) (start + place n) next (quiet_gap v cells are n low) (omega (arith, gap_before v cells are n low)) has

    number_to : (n : ℕ) → n ≤ cells.count → HasNumber numbers.first_centre v (start + gap v cells are n) (first + length (centre_slots_to cells n))
    unfolding centre_slots_to
    number_to zero few =
        let here : start ≡ start + 0 = omega arith in
        let none : first ≡ first + 0 = omega arith in
        subst (λ q. HasNumber numbers.first_centre v q (first + 0)) here (subst (HasNumber numbers.first_centre v start) none number)
    number_to (suc n) few =
        let low : n < cells.count = omega (arith, few) in
        let next : n + 1 ≡ suc n = omega arith in
        let before : ℕ = first + length (flat_map (cell_centre_slots cells) (below n)) in
        let count = length-map-range_with_len (λ i. 3 * place n + i) 0 (count_at n) in
        let total : length (flat_map (cell_centre_slots cells) (below (suc n))) ≡ length (flat_map (cell_centre_slots cells) (below n)) + length (cell_centre_slots cells n)
        = ap (λ n. length (flat_map (cell_centre_slots cells) (below n))) (sym next) ∙ (ap length (flat_more (cell_centre_slots cells) n) ∙ length-append (flat_map (cell_centre_slots cells) (below n)) (cell_centre_slots cells n)) in
        let placed = cell_placed v.grid (cell_of v cells are (place n)) (cell_in v cells are (place n) (cell_low v cells are n low)) in
        let loops : List (List ℕ) = loops_at v (start + place n) in
        let has = behind_gap n before low (number_to n (omega arith)) in
        let after = next_number numbers.first_centre v (start + place n) before placed.tested has loops (first + length (flat_map (cell_centre_slots cells) (below (suc n)))) refl (few_loops v (start + place n)) (few_centres_of loops) (omega (arith, total, count, count_is n low)) in
        let to : start + place n + 1 ≡ start + gap v cells are (suc n) = omega arith in
        subst (λ q. HasNumber numbers.first_centre v q (first + length (flat_map (cell_centre_slots cells) (below (suc n))))) to after

    number_at : (n : ℕ) → n < cells.count → HasNumber numbers.first_centre v (start + place n) (first + length (centre_slots_to cells n))
    number_at n low = behind_gap n (first + length (centre_slots_to cells n)) low (number_to n (omega (arith, low)))

    -- and that of the first centre behind the row
    pub number_behind : HasNumber numbers.first_centre v (start + v.grid.nx) (first + length all)
    number_behind =
        let far = gap_low v cells are some cells.count (omega arith) in
        quiet_number numbers.first_centre v (start + gap v cells are cells.count) (v.grid.nx - gap v cells are cells.count) (start + v.grid.nx) (first + length all)
        (quiet_rest v cells are some) (omega (arith, far)) (number_to cells.count (omega arith))

    pub few_numbers : first + length all < 2 ^ 32
    few_numbers =
        let last : index v.grid (v.grid.nx - 1) cells.y cells.z < point_count v.grid = index_in v.grid (v.grid.nx - 1) cells.y cells.z (omega (arith, some)) (omega (arith, are.y)) (omega (arith, are.z)) in
        let q : index v.grid (v.grid.nx - 1) cells.y cells.z + 1 ≡ start + v.grid.nx = omega (arith, some) in
        omega (arith, number_behind.few, last, q, is.count, firsts.centre)

    -- so their texts are set
    pub centres_set : (texts : List Number) → ((j : ℕ) → j < length all → text_at texts (12312 + get_or all j 0) ≡ corner_text format (first + j))
        → (k : ℕ) → k < cells.count → HasCentres format numbers v cells texts k
    unfolding centre_slots_to
    centres_set texts set k low = record {
      first = first + length (flat_map (cell_centre_slots cells) (below k));
      number = number_at k low;
      each = λ i h.
          let before : ℕ = length (flat_map (cell_centre_slots cells) (below k)) in
          let count : length (cell_centre_slots cells k) ≡ count_at k = length-map-range_with_len (λ i. 3 * place k + i) 0 (count_at k) in
          let within : i < count_at k = omega (arith, h, count_is k low) in
          let upto = flat_upto (cell_centre_slots cells) cells.count k low in
          let here : get_or (flat_map (cell_centre_slots cells) (below cells.count)) (before + i) 0 ≡ 3 * place k + i
          = sym (get_or-drop before (flat_map (cell_centre_slots cells) (below cells.count)) i 0)
          ∙ (sym (get_or-take (length (cell_centre_slots cells k)) (drop before (flat_map (cell_centre_slots cells) (below cells.count))) i 0 (omega (arith, within, count)))
          ∙ (ap (λ l. get_or l i 0) (flat_at (cell_centre_slots cells) cells.count k low)
          ∙ get_or-map-range_with_len (λ i. 3 * place k + i) 0 (count_at k) i i 0 within (zero-add i))) in
          let slot : 12312 + 3 * place k + i ≡ 12312 + get_or (flat_map (cell_centre_slots cells) (below cells.count)) (before + i) 0 = omega (arith, here) in
          let number : first + (before + i) ≡ first + before + i = omega arith in
          ap (text_at texts) slot ∙ (set (before + i) (omega (arith, upto, within, count)) ∙ ap (corner_text format) number);
    }
