-- The shares of the components are the measures of the mesh.
use Rattle.std.proofs.Common.{◌≡◌, ℕ, suc, ◌*◌, ◌<◌, ◌≤◌, ◌^◌, ℤ, Bool, cond, is_some, List, [], ◌∷◌, map, length, get_or, refl, sym, ◌∙◌, ap, ap₂, arith, unsigned_abs, All}
use Rattle.std.specs.List.{count_by}
use Rattle.iso_base.specs.Volume.{IsGrid, Volume}
use Rattle.iso_defs.specs.Grid.{point_count, IsThick}
use Rattle.iso_defs.specs.Lists.{around}
use Rattle.iso_defs.specs.Scratch.{number_of}
use Rattle.iso_defs.specs.Manifold.{share_outer_plane}
use Rattle.triangle_laws.proofs.Lists.{In, In-filter}
use Rattle.flat_mesh.specs.Lattice.{Leveled, heights}
use Rattle.brick_rows.specs.Rows.{at_level}
use Rattle.measure_laws.specs.Vectors.{Vector}
use Rattle.measure.specs.declared.share.Share.{Share}
use Rattle.measure.specs.Measures.{coordinates, vector_of}
use Rattle.part_laws.specs.Printed.{measures_at, position_in}
use Rattle.part_laws.specs.Classes.{is_of_class}
use Rattle.part_laws.specs.Loops.{Loop, mesh_loops, rims, rims_where}
use Rattle.part_laws.specs.Parts.{class_loops, classes}
use Rattle.part_laws.specs.Swept.{area_round, share_round}
use Rattle.part_laws.proofs.MeshParts.{measures_are}
use Rattle.component_walk.specs.Components.{AreComponents, IsComponent, edges_of, loops_of}
use Rattle.component_walk.specs.Shares.{CanMove, off_layer, share_at}
use Rattle.component_walk.specs.Sweep.{AreSmall, measure_at, measured_of, named_position}
use Rattle.component_walk.specs.Walks.{loops_before}
use Rattle.component_walk.specs.declared.components.Component.{Component}
use Rattle.component_walk.specs.declared.sweep.Swept.{Swept}
use Rattle.component_walk.proofs.CellLaws.{few_before}
use Rattle.component_walk.proofs.MeshCounts.{sum_fewer}
use Rattle.component_walk.proofs.MovedLaws.{area_placed, sixes_placed, total_natural}
use Rattle.component_walk.proofs.PlaceLaws.{placed}

-- lists of one length that say the same at each place
maps_agree : {A C : Type 0} (f : A → C) (h : ℕ → C) (xs : List A) (ks : List ℕ) → length xs ≡ length ks → ((i : ℕ) (d : A) → i < length xs → f (get_or xs i d) ≡ h (get_or ks i 0)) → map f xs ≡ map h ks
maps_agree f h [] [] e g = refl
maps_agree f h [] (k ∷ ks) e g = absurd (omega (arith, e))
maps_agree f h (x ∷ xs) [] e g = absurd (omega (arith, e))
maps_agree f h (x ∷ xs) (k ∷ ks) e g =
    ap₂ (λ y ys. y ∷ ys) (g 0 x (omega arith)) (maps_agree f h xs ks (omega (arith, e)) (λ i d l. g (suc i) d (omega (arith, l))))

module _ (v : Leveled) where
  few_steps : IsGrid v.grid → rims (loops_of v) < 2 ^ 31
  unfolding loops_before
  few_steps is = (let l : rims (loops_before v (point_count v.grid)) ≤ 12 * point_count v.grid = few_before v (point_count v.grid) in omega (arith, l, is.count))

  module _ (k : ℕ) (c : Component Swept) (is : IsComponent measure_at AreSmall measured_of v k c) where
    abbrev ours : List Loop
    ours = class_loops (loops_of v) k

    ours_known : (l : Loop) → In l ours → In l (mesh_loops v.grid (heights v))
    ours_known l i = (In-filter (is_of_class (loops_of v) k) l (loops_of v) i).0

    area_is : vector_of c.tally.area ≡ area_round (named_position v) ours
    area_is = let x = is.values 1 in let y = is.values 2 in let z = is.values 3 in λ i. (x i, y i, z i)

    border_is : c.tally.border ≡ rims_where (share_outer_plane v.grid) ours
    border_is = ap unsigned_abs (is.values 4 ∙ total_natural (λ (l : Loop). count_by (λ (p : ℕ × ℕ). share_outer_plane v.grid p.0 p.1) (around l.1)) ours)

    component_share : (padded : Bool) → share_at padded c ≡ share_round (share_outer_plane v.grid) (placed v padded) (number_of v.grid (heights v) k) ours
    component_share padded =
        same _ _ _ _ _ _ _ _ is.least
        (ap₂ (λ z a. cond padded (off_layer z a) z) (is.values 0) area_is ∙ sym (sixes_placed v padded ours ours_known))
        (area_is ∙ sym (area_placed v padded ours ours_known))
        border_is
      where
        same : (k k' : ℕ) (s s' : ℤ) (a a' : Vector) (b b' : ℕ) → k ≡ k' → s ≡ s' → a ≡ a' → b ≡ b'
            → ◌≡◌ {A = Share} (record { least = k; six = s; area = coordinates a; border = b }) (record { least = k'; six = s'; area = coordinates a'; border = b' })
        same k k' s s' a a' b b' d e f h = rw (d, e, f, h) refl

    component_moves : IsGrid v.grid → CanMove c
    component_moves grid =
        let n : ℕ = rims ours in
        let few : n < 2 ^ 31 = (let l : n ≤ rims (loops_of v) = sum_fewer (λ (l : Loop). length l.1) (is_of_class (loops_of v) k) (loops_of v) in omega (arith, l, few_steps grid)) in
        let small : AreSmall n c.tally = is.fit in
        let six = small.six in
        let x = small.x in
        let y = small.y in
        let z = small.z in
        record { six = omega (arith, few, six); area = (omega (arith, few, x), omega (arith, few, y), omega (arith, few, z)) }

  module _ (cs : List (Component Swept)) (are : AreComponents measure_at AreSmall measured_of v cs) where
    pub components_move : IsGrid v.grid → All CanMove cs
    components_move grid i d low = component_moves (get_or (classes (edges_of v) (loops_of v)) i 0) (get_or cs i d) (are.each i d low) grid

    pub shares_are : (padded : Bool) → map (share_at padded) cs ≡ map (λ k. share_round (share_outer_plane v.grid) (placed v padded) (number_of v.grid (heights v) k) (class_loops (loops_of v) k)) (classes (edges_of v) (loops_of v))
    shares_are padded =
        maps_agree (share_at padded) (λ k. share_round (share_outer_plane v.grid) (placed v padded) (number_of v.grid (heights v) k) (class_loops (loops_of v) k)) cs (classes (edges_of v) (loops_of v)) are.count
        (λ i d low. component_share (get_or (classes (edges_of v) (loops_of v)) i 0) (get_or cs i d) (are.each i d low) padded)

-- those of a volume at a level
pub shares_measured : (w : Volume) (level : ℤ) (cs : List (Component Swept)) → IsThick w.grid → AreComponents measure_at AreSmall measured_of (at_level w level) cs
    → map (share_at (is_some w.pad)) cs ≡ measures_at w level
unfolding measures_at
shares_measured w level cs thick are =
    shares_are (at_level w level) cs are (is_some w.pad) ∙ sym (measures_are w.grid (heights (at_level w level)) thick (position_in w level))
