-- What the cells of all bricks have, brick after brick.
use Rattle.std.proofs.Common.{◌≡◌, ℕ, suc, ◌+◌, ◌-◌, ◌*◌, ◌^◌, ◌<◌, ◌≤◌, ◌||◌, Bool, true, false, cond, List, [], ◌∷◌, length, map, min, refl, sym, ◌∙◌, ap, subst, arith}
use Rattle.std.specs.List.{enumerate_from, filter, flat_map, list_any}
use Rattle.std.proofs.lemmas.List.{length-map}
use Rattle.iso_defs.specs.Lists.{below}
use Rattle.iso_defs.specs.Grid.{is_cell, point_count}
use Rattle.iso_defs.specs.Rows.{row_count}
use Rattle.iso_defs.specs.Cell.{Triangle, case_triangles, cell_joined, cell_signs, loop_triangles}
use Rattle.iso_defs.specs.Scratch.{cell_centres, cell_loops, has_centre, number_of, on_corners, vertex_name}
use Rattle.iso_defs.specs.Bricks.{brick_cell, brick_count, cell_case, entries, is_active, is_active_cell}
use Rattle.cell_loops.specs.Loops.{row_centres, row_loops, row_triangles}
use Rattle.cell_loops.proofs.Shapes.{few_triangles as few_of_case}
use Rattle.flat_mesh.specs.Faces.{loops_at}
use Rattle.flat_mesh.specs.Found.{numbered}
use Rattle.flat_mesh.specs.Lattice.{IsLeveled, Leveled, heights}
use Rattle.flat_mesh.proofs.CellAdds.{few_of_cell, no_centres, no_triangles}
use Rattle.brick_rows.specs.Bricks.{IsNextFrom}
use Rattle.brick_rows.specs.Named.{Named, asked_among, centres_of_entries, triangles_of_entries}
use Rattle.brick_rows.proofs.Asked.{asked_more}
use Rattle.brick_rows.proofs.CellCases.{case_is}
use Rattle.brick_rows.proofs.QuietBricks.{unmixed_loops}
use Rattle.mesh_rows.specs.declared.counts.Counts.{Counts}
use Rattle.mesh_rows.specs.Counts.{AreCounts, centres_among, triangles_among}
use Rattle.stitch.proofs.BrickSums.{of_all, span_sum}
use Rattle.brick_rows.proofs.Uptos.{upto, upto_append, upto_low, upto_more, zeros}

none_pass : (p : ℕ → Bool) (xs : List ℕ) → list_any p xs ≡ false → filter p xs ≡ []
none_pass p [] none = refl
none_pass p (x ∷ xs) none = one (p x) none (none_pass p xs)
  where
    one : (b : Bool) → (b || list_any p xs) ≡ false → (list_any p xs ≡ false → filter p xs ≡ []) → cond {A = List ℕ} b (x ∷ filter p xs) (filter p xs) ≡ []
    one true e later = absurd (cc)
    one false e later = later e

-- the numbers of centres and of triangles of a cell, by its case
centres_of_case : (v : Leveled) (q case : ℕ) → row_loops case ≡ loops_at v q → length (row_centres case) ≡ length (cell_centres v.grid (heights v) q)
unfolding row_centres row_loops loops_at
centres_of_case v q case same =
    ap (λ ls. length (filter has_centre (enumerate_from 0 ls))) same ∙ sym (length-map (filter has_centre (cell_loops v.grid (heights v) q)) _)

triangles_of_case : (v : Leveled) (q case : ℕ) → row_loops case ≡ loops_at v q → length (row_triangles case) ≡ length (numbered v q)
unfolding row_triangles row_loops loops_at
triangles_of_case v q case same =
    let ts : List Triangle = case_triangles (cell_signs v.grid (heights v) q) (cell_joined v.grid (heights v) q) in
    ap (λ ls. length (flat_map (λ (l : ℕ × List ℕ). loop_triangles l.1 (12 + l.0)) (enumerate_from 0 ls))) same
    ∙ sym (length-map (map (on_corners (vertex_name v.grid q)) ts) (on_corners (number_of v.grid (heights v))) ∙ length-map ts (on_corners (vertex_name v.grid q)))

module _ (v : Leveled) where
  -- what the cells of a brick have
  abbrev pub brick_centres : ℕ → ℕ
  brick_centres b = centres_of_entries (entries v.grid (heights v) b)

  abbrev pub brick_triangles : ℕ → ℕ
  brick_triangles b = triangles_of_entries (entries v.grid (heights v) b)

  no_entries : (b : ℕ) → is_active v.grid (heights v) b ≡ false → entries v.grid (heights v) b ≡ []
  no_entries b none = ap (map (λ cell. 1024 * cell + cell_case v.grid (heights v) (brick_cell v.grid b cell))) (none_pass (is_active_cell v.grid (heights v) b) (below 512) none)

  still_centres : (b : ℕ) → is_active v.grid (heights v) b ≡ false → brick_centres b ≡ 0
  unfolding centres_of_entries
  still_centres b none = ap centres_of_entries (no_entries b none)

  still_triangles : (b : ℕ) → is_active v.grid (heights v) b ≡ false → brick_triangles b ≡ 0
  unfolding triangles_of_entries
  still_triangles b none = ap triangles_of_entries (no_entries b none)

  low_case : (q : ℕ) → cell_case v.grid (heights v) q < 1024
  low_case q = let h = (case_is v q).small in omega arith

  -- all bricks together
  pub all_centres : IsLeveled v → upto brick_centres (brick_count v.grid) ≡ centres_among v 0 (v.grid.nx * row_count v.grid)
  unfolding centres_of_entries
  all_centres is =
      of_all v.grid (heights v) (λ q. length (cell_centres v.grid (heights v) q)) (λ case. length (row_centres case)) low_case
      (λ q. centres_of_case v q (cell_case v.grid (heights v) q) (case_is v q).loops)
      (λ q none. ap length (no_centres v q (unmixed_loops v q none))) is.grid
      ∙ sym (span_sum (cell_centres v.grid (heights v)) (is_cell v.grid) (v.grid.nx * row_count v.grid))

  pub all_triangles : IsLeveled v → upto brick_triangles (brick_count v.grid) ≡ triangles_among v 0 (v.grid.nx * row_count v.grid)
  unfolding triangles_of_entries
  all_triangles is =
      of_all v.grid (heights v) (λ q. length (numbered v q)) (λ case. length (row_triangles case)) low_case
      (λ q. triangles_of_case v q (cell_case v.grid (heights v) q) (case_is v q).loops)
      (λ q none. ap length (no_triangles v q (unmixed_loops v q none))) is.grid
      ∙ sym (span_sum (numbered v) (is_cell v.grid) (v.grid.nx * row_count v.grid))

  few_of_numbered : (q : ℕ) → length (numbered v q) ≤ 12
  few_of_numbered q =
      let case = case_is v q in
      subst (λ n. n ≤ 12) (triangles_of_case v q (cell_case v.grid (heights v) q) case.loops) (few_of_case (cell_case v.grid (heights v) q) case.small)

  chosen_low : (most : ℕ) (f : ℕ → ℕ) → ((q : ℕ) → f q ≤ most) → (q : ℕ) → cond (is_cell v.grid q) (f q) 0 ≤ most
  chosen_low most f low q = elim (is_cell v.grid q) as (λ b. cond b (f q) 0 ≤ most) [ true ↦ low q | false ↦ omega arith ]

  -- they are few
  pub few_centres : (n : ℕ) → centres_among v 0 n ≤ 4 * n
  few_centres n =
      subst (λ k. k ≤ 4 * n) (sym (span_sum (cell_centres v.grid (heights v)) (is_cell v.grid) n))
      (upto_low (λ q. cond (is_cell v.grid q) (length (cell_centres v.grid (heights v) q)) 0) 4 n (chosen_low 4 (λ q. length (cell_centres v.grid (heights v) q)) (few_of_cell v)))

  pub few_triangles : (n : ℕ) → triangles_among v 0 n ≤ 12 * n
  few_triangles n =
      subst (λ k. k ≤ 12 * n) (sym (span_sum (numbered v) (is_cell v.grid) n))
      (upto_low (λ q. cond (is_cell v.grid q) (length (numbered v q)) 0) 12 n (chosen_low 12 (λ q. length (numbered v q)) few_of_numbered))

  -- from one active brick to the next nothing is added
  stays : (f : ℕ → ℕ) (from next : ℕ) → ((b : ℕ) → is_active v.grid (heights v) b ≡ false → f b ≡ 0) → IsNextFrom v.grid (heights v) from next
      → upto f (min next (brick_count v.grid)) ≡ upto f (min from (brick_count v.grid))
  stays f from next none is =
      let count : ℕ = brick_count v.grid in
      let low = is.least in
      skip f (min from count) (min next count) (omega arith) (λ b least less. none b (is.none_before b (omega arith) (omega arith) (omega arith)))
    where
      skip : (f : ℕ → ℕ) (a b : ℕ) → a ≤ b → ((i : ℕ) → a ≤ i → i < b → f i ≡ 0) → upto f b ≡ upto f a
      skip f a b low none =
          let e : b ≡ a + (b - a) = omega arith in
          let rest : upto (λ i. f (a + i)) (b - a) ≡ 0 = zeros (λ i. f (a + i)) (b - a) (λ i less. none (a + i) (omega arith) (omega arith)) in
          ap (upto f) e ∙ (upto_append f a (b - a) ∙ (ap (λ k. upto f a + k) rest ∙ omega arith))

  pub centres_stay : (from next : ℕ) → IsNextFrom v.grid (heights v) from next → upto brick_centres (min next (brick_count v.grid)) ≡ upto brick_centres (min from (brick_count v.grid))
  centres_stay from next is = stays brick_centres from next still_centres is

  pub triangles_stay : (from next : ℕ) → IsNextFrom v.grid (heights v) from next → upto brick_triangles (min next (brick_count v.grid)) ≡ upto brick_triangles (min from (brick_count v.grid))
  triangles_stay from next is = stays brick_triangles from next still_triangles is

  -- one brick more
  pub one_more : (f : ℕ → ℕ) (brick : ℕ) → brick < brick_count v.grid → upto f (min (brick + 1) (brick_count v.grid)) ≡ upto f (min brick (brick_count v.grid)) + f brick
  one_more f brick low =
      let a : min (brick + 1) (brick_count v.grid) ≡ suc brick = omega arith in
      let b : min brick (brick_count v.grid) ≡ brick = omega arith in
      ap (upto f) a ∙ ap (λ n. upto f n + f brick) (sym b)

  -- what a number of 32 bits holds
  module _ (is : IsLeveled v) (brick : ℕ) (low : brick < brick_count v.grid) where
    points_few : v.grid.nx * row_count v.grid ≤ 160000000
    points_few =
        let c : v.grid.nx * row_count v.grid ≡ point_count v.grid = omega arith in
        let few = is.grid.count in
        omega arith

    pub centres_fit : upto brick_centres (min brick (brick_count v.grid)) + brick_centres brick < 2 ^ 32
    centres_fit =
        let more : upto brick_centres (min (brick + 1) (brick_count v.grid)) ≤ upto brick_centres (brick_count v.grid)
        = upto_more brick_centres (min (brick + 1) (brick_count v.grid)) (brick_count v.grid) (omega arith) in
        omega (arith, more, one_more brick_centres brick low, all_centres is, few_centres (v.grid.nx * row_count v.grid), points_few)

    pub triangles_fit : upto brick_triangles (min brick (brick_count v.grid)) + brick_triangles brick < 2 ^ 32
    triangles_fit =
        let more : upto brick_triangles (min (brick + 1) (brick_count v.grid)) ≤ upto brick_triangles (brick_count v.grid)
        = upto_more brick_triangles (min (brick + 1) (brick_count v.grid)) (brick_count v.grid) (omega arith) in
        omega (arith, more, one_more brick_triangles brick low, all_triangles is, few_triangles (v.grid.nx * row_count v.grid), points_few)

  pub all_counted : IsLeveled v → (counts : Counts) → counts.centres ≡ upto brick_centres (brick_count v.grid) → counts.faces ≡ upto brick_triangles (brick_count v.grid)
      → AreCounts v (v.grid.nx * row_count v.grid) counts
  all_counted is counts centres faces = record {
    centres = centres ∙ all_centres is;
    faces = faces ∙ all_triangles is;
    few_centres = omega (arith, centres, all_centres is, few_centres (v.grid.nx * row_count v.grid));
    few_faces = omega (arith, faces, all_triangles is, few_triangles (v.grid.nx * row_count v.grid));
  }

  -- more bricks are asked no fewer times
  pub asked_grow : (names : Named) (m n : ℕ) → m ≤ n → asked_among v.grid (heights v) names 0 m ≤ asked_among v.grid (heights v) names 0 n
  asked_grow names m n low =
      let e : m + (n - m) ≡ n = omega arith in
      subst (λ n. asked_among v.grid (heights v) names 0 m ≤ asked_among v.grid (heights v) names 0 n) e (omega (arith, asked_more v.grid (heights v) names 0 m (n - m)))
