-- Numbers of cases that have the loops of the cases of a row.
use Rattle.std.proofs.Common.{◌≡◌, ℕ, ◌<◌, ◌⊎◌, false, List, [], ◌∷◌, map, refl, sym, subst, ◌∙◌, ap, ap₂, arith, inl, inr}
use Rattle.std.proofs.lemmas.List.Elements.{All-map}
use Rattle.iso_defs.specs.Lists.{below}
use Rattle.iso_defs.specs.Cell.{cell_signs}
use Rattle.iso_defs.specs.Bricks.{brick_point, cell_case, cells_along, is_mixed, row_cases}
use Rattle.cell_loops.specs.Loops.{row_loops}
use Rattle.flat_mesh.specs.Lattice.{Leveled, heights}
use Rattle.brick_rows.specs.Named.{HaveLoops}
use Rattle.brick_rows.proofs.CellCases.{case_is, no_loops}
use Rattle.brick_rows.proofs.QuietBricks.{unmixed_loops}

-- equal values of equal lists
same_maps : {X : Type 0} (h : ℕ → X) (f g : ℕ → ℕ) → ((k : ℕ) → h (f k) ≡ h (g k)) → (xs : List ℕ) → map h (map f xs) ≡ map h (map g xs)
same_maps h f g e [] = refl
same_maps h f g e (x ∷ xs) = ap₂ ◌∷◌ (e x) (same_maps h f g e xs)

module _ (v : Leveled) where
  -- the case of a cell, or 0 for one without a crossing edge
  module _ (f : ℕ → ℕ) (is : (q : ℕ) → (f q ≡ cell_case v.grid (heights v) q) ⊎ ((f q ≡ 0) × (is_mixed (cell_signs v.grid (heights v) q) ≡ false))) where
    low_case : (q : ℕ) → f q < 656
    low_case q = elim (is q) [
      | inl same ↦ subst (λ n. n < 656) (sym same) (case_is v q).small
      | inr none ↦ subst (λ n. n < 656) (sym none.0) (omega arith)
    ]

    same_loops : (q : ℕ) → row_loops (f q) ≡ row_loops (cell_case v.grid (heights v) q)
    same_loops q = elim (is q) [
      | inl same ↦ ap row_loops same
      | inr none ↦ ap row_loops none.0 ∙ (no_loops ∙ (sym (unmixed_loops v q none.1) ∙ sym (case_is v q).loops))
    ]

    pub row_has_loops : (brick y z : ℕ) → HaveLoops (map (λ x. f (brick_point v.grid brick x y z)) (below (cells_along v.grid brick))) (row_cases v.grid (heights v) brick y z)
    row_has_loops brick y z = record {
      small = All-map (λ n. n < 656) (λ x. f (brick_point v.grid brick x y z)) (below (cells_along v.grid brick)) (λ k d low. low_case (brick_point v.grid brick _ y z));
      loops = same_maps row_loops (λ x. f (brick_point v.grid brick x y z)) (λ x. cell_case v.grid (heights v) (brick_point v.grid brick x y z))
          (λ x. same_loops (brick_point v.grid brick x y z)) (below (cells_along v.grid brick));
    }

  -- the cases themselves
  pub own_loops : (brick y z : ℕ) → HaveLoops (row_cases v.grid (heights v) brick y z) (row_cases v.grid (heights v) brick y z)
  own_loops brick y z = row_has_loops (cell_case v.grid (heights v)) (λ q. inl refl) brick y z
