-- Where the vertices of some slices are in the whole: so many slices further up.
use Rattle.std.proofs.Common.{◌≡◌, ℕ, ◌+◌, ◌*◌, ◌/◌, ◌%◌, ◌<◌, ◌≤◌, true, cond, List, map, sym, ap, ap₂, ◌∙◌, subst, arith, eqb, ltb, ℤ, length, zero-add}
use Rattle.std.specs.List.{filter, enumerate_from}
use Rattle.std.proofs.lemmas.Bool.{and_parts, ltb-true}
use Rattle.std.proofs.lemmas.List.{length-map}
use Rattle.iso_defs.specs.Lists.{below}
use Rattle.iso_defs.specs.Grid.{Grid, stride, coordinate, cells, IsSolid}
use Rattle.iso_defs.specs.Cell.{cell_edge, corner_point, edge_corner, signs_of, joined_of, case_loops}
use Rattle.iso_defs.specs.Place.{Position, place, mean, edge_coordinate, edge_position, centre_position}
use Rattle.iso_defs.specs.Scratch.{cell_loops, has_centre}
use Rattle.iso_defs.proofs.Means.{mean_moved}
use Rattle.case_laws.proofs.Tests.{cell_passes}
use Rattle.case_laws.proofs.Wedges.{centre_test, centre_all}
use Rattle.triangle_laws.proofs.Lists.{In, In-filter, list_all_at}
use Rattle.mesh_laws.proofs.Names.{corner_in}
use Rattle.mesh_laws.proofs.TwoCells.{corner_below}
use Rattle.window_laws.proofs.Ascents.{map_agree_in, map-map}
use Rattle.slab_laws.specs.Slabs.{slices, slice_size, lifted}
use Rattle.slab_laws.proofs.Parts.{cell_places}
use Rattle.slab_laws.proofs.Slices.{same_stride, same_x, same_y, higher, height}

pub position : (a b c d e f : ℕ) → a ≡ d → b ≡ e → c ≡ f → ◌≡◌ {A = Position} (a, b, c) (d, e, f)
position a b c d e f x y z = ap (λ u. (u, b, c)) x ∙ (ap (λ u. (d, u, c)) y ∙ ap (λ u. (d, e, u)) z)

-- a loop with a centre: its edges, and that it has some
pub record Loop (l : ℕ × List ℕ) : Type 0 where
  pub edges : (e : ℕ) → In e l.1 → e < 12
  pub some : 0 < length l.1

pub loop_is : (g : Grid) (s : ℕ → ℤ) (q : ℕ) (l : ℕ × List ℕ) → In l (filter has_centre (cell_loops g s q)) → Loop l
loop_is g s q l i =
    let r : In l (cell_loops g s q) × (has_centre l ≡ true) = In-filter has_centre l (cell_loops g s q) i in
    let t = and_parts _ _ (list_all_at _ (cell_loops g s q) l (cell_passes centre_test centre_all g s q) r.0) in
    let a = and_parts _ _ t.1 in
    record {
      edges = λ e j. ltb-true _ _ (list_all_at (λ e. ltb e 12) l.1 e a.0 j);
      some = above_three (length l.1)
          (ltb-true _ _ r.1);
    }
  where
    above_three : (n : ℕ) → 3 < n → 0 < n
    above_three n l = omega arith

-- n slices, z slices further up
module _ (g : Grid) (solid : IsSolid g) (s t : ℕ → ℤ) (n z : ℕ) (crop : (p : ℕ)
    → t p ≡ s (p + slice_size g * z)) (fits : z + n ≤ g.nz) where
  module _ (m : ℕ) (low : m / 3 < n * slice_size g) where
    along : (axis : ℕ) → cond (eqb axis ((m + 3 * (slice_size g * z)) % 3))
        (place (s ((m + 3 * (slice_size g * z)) / 3)) (s
        ((m + 3 * (slice_size g * z)) / 3 + stride g ((m + 3 * (slice_size g * z)) % 3)))) 0
        ≡ cond (eqb axis (m % 3)) (place (t (m / 3)) (t (m / 3 + stride (slices g n) (m % 3)))) 0
    along axis =
        let k : ℕ = slice_size g * z in
        let lower : (m + 3 * k) / 3 ≡ m / 3 + k = omega arith in
        let turn : (m + 3 * k) % 3 ≡ m % 3 = omega arith in
        let small : m % 3 < 3 = omega arith in
        let part : ℕ → ℕ → ℕ = λ p a. cond (eqb axis a) (place (s p) (s (p + stride g a))) 0 in
        let upper : t (m / 3 + stride (slices g n) (m % 3)) ≡ s (m / 3 + k + stride g (m % 3))
        = crop (m / 3 + stride (slices g n) (m % 3)) ∙ ap s (omega (arith, same_stride g n (m % 3) small)) in
        ap (λ p. part p ((m + 3 * k) % 3)) lower ∙ (ap (part (m / 3 + k)) turn
        ∙ (ap (λ v. cond (eqb axis (m % 3)) (place v (s (m / 3 + k + stride g (m % 3)))) 0) (sym (crop (m / 3)))
        ∙ ap (λ v. cond (eqb axis (m % 3)) (place (t (m / 3)) v) 0) (sym upper)))

    back : (axis : ℕ) → coordinate g axis ((m + 3 * (slice_size g * z)) / 3)
        ≡ coordinate g axis (m / 3 + slice_size g * z)
    back axis = ap (coordinate g axis) (omega arith)

    pub x_edge : edge_coordinate g s (m + 3 * (slice_size g * z)) 0 ≡ edge_coordinate (slices g n) t m 0
    x_edge = ap₂ (λ c r. 1000 * c + r) (back 0 ∙ same_x g solid n z fits (m / 3) low) (along 0)

    pub y_edge : edge_coordinate g s (m + 3 * (slice_size g * z)) 1 ≡ edge_coordinate (slices g n) t m 1
    y_edge = ap₂ (λ c r. 1000 * c + r) (back 1 ∙ same_y g solid n z fits (m / 3) low) (along 1)

    pub z_edge : edge_coordinate g s (m + 3 * (slice_size g * z)) 2 ≡ 1000 * z + edge_coordinate (slices g n) t m 2
    z_edge =
        ap₂ (λ c r. 1000 * c + r) (back 2 ∙ higher g solid n z fits (m / 3) low) (along 2)
        ∙ (spread (m / 3 / slice_size g) z (cond (eqb 2 (m % 3))
        (place (t (m / 3)) (t (m / 3 + stride (slices g n) (m % 3)))) 0)
        ∙ ap (λ c. 1000 * z + (1000 * c + cond (eqb 2 (m % 3))
        (place (t (m / 3)) (t (m / 3 + stride (slices g n) (m % 3)))) 0)) (sym (height g solid n (m / 3) low)))
      where
        spread : (a z r : ℕ) → 1000 * (a + z) + r ≡ 1000 * z + (1000 * a + r)
        spread a z r = omega arith

    pub edge_lifted : edge_position g s (m + 3 * (slice_size g * z)) ≡ lifted z (edge_position (slices g n) t m)
    edge_lifted = position _ _ _ _ _ _ x_edge y_edge z_edge

  -- the loops of a cell
  loops_same : (q : ℕ) → cell_loops g s (q + slice_size g * z) ≡ cell_loops (slices g n) t q
  loops_same q =
      ap (λ values. enumerate_from 0 (case_loops (signs_of values) (joined_of values)))
      (map_agree_in (λ c. s (corner_point g (q + slice_size g * z) c)) (λ c. t (corner_point (slices g n) q c))
      (below 8)
      (λ c _. (ap s (turn q (slice_size g * z) (c % 2 * stride g 0 + (c / 2 % 2 * stride g 1 + c / 4 * stride g 2)))
      ∙ sym (crop (corner_point (slices g n) q c)))))
    where
      turn : (q k r : ℕ) → q + k + r ≡ q + r + k
      turn q k r = omega arith

  -- and its centres
  module _ (q : ℕ) (i : In q (cells (slices g n))) where
    in_low : (e : ℕ) → e < 12 → cell_edge (slices g n) q e / 3 < n * slice_size g
    in_low e l =
        let c : corner_point (slices g n) q (edge_corner e) < g.nx * g.ny * n
        = corner_in (slices g n) q (edge_corner e) i (corner_below e l) in
        let p : (3 * corner_point (slices g n) q (edge_corner e) + e / 4) / 3
        ≡ corner_point (slices g n) q (edge_corner e) = omega arith in
        omega (arith, p, c)

    name : (e : ℕ) → cell_edge g (q + slice_size g * z) e ≡ cell_edge (slices g n) q e + 3 * (slice_size g * z)
    name e = omega arith

    each : (es : List ℕ) → ((e : ℕ) → In e es → e < 12) → (axis c : ℕ)
        → ((m : ℕ) → m / 3 < n * slice_size g → edge_coordinate g s (m + 3 * (slice_size g * z)) axis
        ≡ c + edge_coordinate (slices g n) t m axis)
        → map (λ m. edge_coordinate g s m axis) (map (cell_edge g (q + slice_size g * z)) es)
        ≡ map (λ d. c + d) (map (λ m. edge_coordinate (slices g n) t m axis) (map (cell_edge (slices g n) q) es))
    each es few axis c moved =
        map-map (λ m. edge_coordinate g s m axis) (cell_edge g (q + slice_size g * z)) es
        ∙ (map_agree_in (λ e. edge_coordinate g s (cell_edge g (q + slice_size g * z) e) axis)
        (λ e. c + edge_coordinate (slices g n) t (cell_edge (slices g n) q e) axis) es
        (λ e j. (ap (λ m. edge_coordinate g s m axis) (name e)
        ∙ moved (cell_edge (slices g n) q e) (in_low e (few e j))))
        ∙ sym (ap (map (λ d. c + d)) (map-map (λ m. edge_coordinate (slices g n) t m axis) (cell_edge (slices g n) q)
        es)
        ∙ map-map (λ d. c + d) (λ e. edge_coordinate (slices g n) t (cell_edge (slices g n) q e) axis) es))

    mean_of : (l : ℕ × List ℕ) → Loop l → (axis c : ℕ)
        → ((m : ℕ) → m / 3 < n * slice_size g → edge_coordinate g s (m + 3 * (slice_size g * z)) axis
        ≡ c + edge_coordinate (slices g n) t m axis)
        → mean (map (λ m. edge_coordinate g s m axis) (map (cell_edge g (q + slice_size g * z)) l.1))
        ≡ c + mean (map (λ m. edge_coordinate (slices g n) t m axis) (map (cell_edge (slices g n) q) l.1))
    mean_of l k axis c moved =
        ap mean (each l.1 k.edges axis c moved)
        ∙ mean_moved c (map (λ m. edge_coordinate (slices g n) t m axis) (map (cell_edge (slices g n) q) l.1))
        (subst (λ n. 0 < n) (sym (length-map (map (cell_edge (slices g n) q) l.1)
        (λ m. edge_coordinate (slices g n) t m axis) ∙ length-map l.1 (cell_edge (slices g n) q))) k.some)

    pub centres_lifted : cell_places g s (q + slice_size g * z) ≡ map (lifted z) (cell_places (slices g n) t q)
    centres_lifted =
        ap (λ ls. map (λ (l : ℕ × List ℕ). centre_position g s (map (cell_edge g (q + slice_size g * z)) l.1))
        (filter has_centre ls)) (loops_same q)
        ∙ (map_agree_in (λ (l : ℕ × List ℕ). centre_position g s (map (cell_edge g (q + slice_size g * z)) l.1))
        (λ (l : ℕ × List ℕ). lifted z (centre_position (slices g n) t (map (cell_edge (slices g n) q) l.1)))
        (filter has_centre (cell_loops (slices g n) t q))
        (λ l j. (let k : Loop l = loop_is (slices g n) t q l j in
        position _ _ _ _ _ _ (mean_of l k 0 0 (λ m low. (x_edge m low ∙ sym (zero-add _))) ∙ zero-add _)
        (mean_of l k 1 0 (λ m low. (y_edge m low ∙ sym (zero-add _)))
        ∙ zero-add _) (mean_of l k 2 (1000 * z) (λ m low. z_edge m low))))
        ∙ sym (map-map (lifted z) (λ (l : ℕ × List ℕ). centre_position (slices g n) t
        (map (cell_edge (slices g n) q) l.1)) (filter has_centre (cell_loops (slices g n) t q))))
