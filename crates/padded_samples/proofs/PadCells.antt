-- Cells inside the layer: their corners are those of cells of the grid without it.
use Rattle.std.proofs.Common.{◌≡◌, ℕ, ◌+◌, ◌-◌, ◌<◌, ◌≤◌, ℤ, List, refl, sym, ap, ◌∙◌, arith}
use Rattle.iso_defs.specs.Cell.{cell_values}
use Rattle.iso_defs.specs.Grid.{Grid, index}
use Rattle.iso_defs.proofs.Points.{index_in}
use Rattle.iso_base.specs.Points.{index_of}
use Rattle.iso_base.specs.Volume.{sample, grown}
use Rattle.iso_base.specs.declared.point.Point.{Point}
use Rattle.voxel_list.proofs.Padding.{moved_sample}
use Rattle.samples.specs.Cells.{IsLowest}
use Rattle.samples.proofs.Cells.{cell_values_are}
use Rattle.padded_samples.specs.Pads.{padded_at}
use Rattle.padded_samples.specs.PaddedSlabs.{SlabInPad, in_both, layers, ringed, slab_list}
use Rattle.padded_samples.proofs.SlabRows.{at_lifted, at_most_one, listed}

module _ (s : SlabInPad) (x y z : ℕ) (low_x : x + 1 < s.grid.nx) (low_y : y + 1 < s.grid.ny) (low_z : z + 1 < s.grid.nz) where
  -- the sample so many points on along each axis
  abbrev on : ℕ → ℕ → ℕ → ℤ
  on right up far = sample s.samples (index s.grid (x + right) (y + up) (z + far))

  abbrev bottom : ℕ
  bottom = z + layers s.ends.below

  moved : (right up far : ℕ) → right ≤ 1 → up ≤ 1 → far ≤ 1
      → on right up far ≡ sample (slab_list s) (index (ringed s.ends s.grid) (x + 1 + right) (y + 1 + up) (bottom + far))
  moved right up far most_right most_up most_far =
      let here : ℕ = index (ringed s.ends s.grid) (x + 1 + right) (y + 1 + up) (bottom + far) in
      let lift : ℕ = 1 - layers s.ends.below in
      let lifts : lift + layers s.ends.below ≡ 1 = omega (arith, at_most_one s.ends.below) in
      let top : bottom + far + lift ≡ z + far + 1 = omega (arith, lifts) in
      let a : x + 1 + right ≡ x + right + 1 = omega arith in
      let b : y + 1 + up ≡ y + up + 1 = omega arith in
      sym (listed s here (index_in (ringed s.ends s.grid) (x + 1 + right) (y + 1 + up) (bottom + far) (omega arith) (omega arith) (omega arith))
      ∙ sym (at_lifted s lift lifts (x + 1 + right) (y + 1 + up) (bottom + far))
      ∙ ap (λ (k : ℕ). padded_at (in_both s) (index (grown s.grid) (x + 1 + right) (y + 1 + up) k)) top
      ∙ ap (λ (k : ℕ). padded_at (in_both s) (index (grown s.grid) k (y + 1 + up) (z + far + 1))) a
      ∙ ap (λ (k : ℕ). padded_at (in_both s) (index (grown s.grid) (x + right + 1) k (z + far + 1))) b
      ∙ moved_sample s.grid s.samples s.pad (x + right) (y + up) (z + far) (omega arith) (omega arith) (omega arith))

  moved_cell : cell_values s.grid (sample s.samples) (index s.grid x y z) ≡ cell_values (ringed s.ends s.grid) (sample (slab_list s)) (index (ringed s.ends s.grid) (x + 1) (y + 1) bottom)
  moved_cell =
      sym (cell_values_are s.grid (sample s.samples) x y z (on 0 0 0) (on 1 0 0) (on 0 1 0) (on 1 1 0) (on 0 0 1) (on 1 0 1) (on 0 1 1) (on 1 1 1) refl refl refl refl refl refl refl refl)
      ∙ cell_values_are (ringed s.ends s.grid) (sample (slab_list s)) (x + 1) (y + 1) bottom (on 0 0 0) (on 1 0 0) (on 0 1 0) (on 1 1 0) (on 0 0 1) (on 1 0 1) (on 0 1 1) (on 1 1 1)
      (moved 0 0 0 none none none) (moved 1 0 0 one none none) (moved 0 1 0 none one none) (moved 1 1 0 one one none)
      (moved 0 0 1 none none one) (moved 1 0 1 one none one) (moved 0 1 1 none one one) (moved 1 1 1 one one one)
    where
      none : 0 ≤ 1
      none = omega arith

      one : 1 ≤ 1
      one = omega arith

-- the corners of a cell of a slab inside its pad are those of a cell of the grid that a view stands on
pub inner_cell : (s r : SlabInPad) (g : Grid) (low q : Point) (corners : List ℤ) → r ≡ s → g ≡ ringed s.ends s.grid → IsLowest s.grid q
    → low.x ≡ q.x + 1 → low.y ≡ q.y + 1 → low.z ≡ q.z + layers s.ends.below
    → corners ≡ cell_values r.grid (sample r.samples) (index_of r.grid q) → corners ≡ cell_values g (sample (slab_list s)) (index_of g low)
inner_cell s r g low q corners same sizes at a b c is =
    is ∙ ap (λ (t : SlabInPad). cell_values t.grid (sample t.samples) (index_of t.grid q)) same ∙ moved_cell s q.x q.y q.z at.x at.y at.z
    ∙ ap (λ (k : ℕ). cell_values (ringed s.ends s.grid) (sample (slab_list s)) (index (ringed s.ends s.grid) k (q.y + 1) (q.z + layers s.ends.below))) (sym a)
    ∙ ap (λ (k : ℕ). cell_values (ringed s.ends s.grid) (sample (slab_list s)) (index (ringed s.ends s.grid) low.x k (q.z + layers s.ends.below))) (sym b)
    ∙ ap (λ (k : ℕ). cell_values (ringed s.ends s.grid) (sample (slab_list s)) (index (ringed s.ends s.grid) low.x low.y k)) (sym c)
    ∙ ap (λ (h : Grid). cell_values h (sample (slab_list s)) (index_of h low)) (sym sizes)
