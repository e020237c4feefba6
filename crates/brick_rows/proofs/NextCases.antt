-- What is known of the cases of a row where a walk goes to its next active brick.
use Rattle.std.proofs.Common.{◌≡◌, ℕ, ◌+◌, ◌-◌, ◌*◌, ◌/◌, ◌<◌, ◌≤◌, List, length, get_or, min, sym, ◌∙◌, ap, subst, arith, inl, inr}
use Rattle.std.proofs.lemmas.Bool.{cases_lt}
use Rattle.iso_defs.specs.Grid.{index}
use Rattle.iso_defs.specs.Bricks.{brick_count, bricks_along}
use Rattle.iso_base.specs.Volume.{IsGrid}
use Rattle.flat_mesh.specs.Lattice.{Leveled, heights}
use Rattle.brick_rows.specs.declared.active.ActiveRow.{ActiveRow}
use Rattle.brick_rows.specs.declared.bricks.BrickRow.{BrickRow}
use Rattle.brick_rows.specs.Bricks.{AreMarked, HoldRow, IsActive, IsNextFrom}
use Rattle.brick_rows.specs.Named.{Named, asked_along, asked_among}
use Rattle.brick_rows.specs.Rows.{AreZerosFrom}
use Rattle.mesh_rows.specs.Rows.{AreCasesTo, IsCaseOf}
use Rattle.brick_rows.proofs.Asked.{asked_more, asked_still}
use Rattle.brick_rows.proofs.CaseRows.{quiet_at}
use Rattle.brick_rows.proofs.NextBricks.{noted}
use Rattle.brick_rows.proofs.Places.{number_in}

module _ (v : Leveled) (is : IsGrid v.grid) (y z : ℕ) (hy : y + 1 < v.grid.ny) (hz : z + 1 < v.grid.nz) (held : BrickRow) (hold : HoldRow v.grid y z held) where
  known : (x : ℕ) → x < bricks_along v.grid 0 → held.first + x < brick_count v.grid
  known x low =
      let wide : 8 * x + 1 < v.grid.nx = omega arith in
      number_in v.grid is x y z wide (omega arith) (omega arith) held hold

  -- a place that a walk comes to holds an active brick, where it is in the row
  module _ (row : ActiveRow) (marked : AreMarked v row) (first : row.first ≡ held.first) where
    note : (x : ℕ) → x < bricks_along v.grid 0 → IsNextFrom v.grid (heights v) (held.first + x) (get_or row.slice.next_from (row.start + x) 0)
    note x low = noted v is row y z held (omega arith) (omega arith) hold marked first x low

    pub least_of : (x : ℕ) → x < bricks_along v.grid 0 → row.first ≤ get_or row.slice.next_from (row.start + x) 0
    least_of x low = let n = note x low in let least = n.least in omega arith

    pub next_is : (x next : ℕ) → x < bricks_along v.grid 0 → row.first + next ≡ get_or row.slice.next_from (row.start + x) 0
        → IsNextFrom v.grid (heights v) (held.first + x) (held.first + next)
    next_is x next low at = subst (IsNextFrom v.grid (heights v) (held.first + x)) (sym at ∙ ap (λ n. n + next) first) (note x low)

  pub is_active_at : (x : ℕ) → x < bricks_along v.grid 0 → (held.first + x < brick_count v.grid → IsActive v (held.first + x)) → IsActive v (held.first + x)
  is_active_at x low active = active (known x low)

  -- zeros in place of the cases of the cells of all bricks between two places, behind the first of which the next active one stands at the second
  pub quiet_more : (a b : ℕ) (cases : List ℕ) → IsNextFrom v.grid (heights v) (held.first + a) (held.first + b) → length cases ≡ v.grid.nx
      → AreZerosFrom (8 * a) cases → AreCasesTo v y z (8 * a) cases → AreCasesTo v y z (8 * b) cases
  quiet_more a b cases next long zeros before k in_row low = elim (cases_lt k (8 * a)) [
    | inl earlier ↦ before k in_row earlier
    | inr from ↦ (
        let x : ℕ = k / 8 in
        let wide : 8 * x + 1 < v.grid.nx = omega arith in
        let still = next.none_before (held.first + x) (omega arith) (omega arith) (known x (omega arith)) in
        let quiet = quiet_at v is x y z wide hy hz held hold still k in_row (omega arith) (omega arith) in
        subst (IsCaseOf v (index v.grid k y z)) (sym (zeros k from (omega arith))) quiet)
  ]

  -- between two such places no brick is asked
  pub asked_to : (names : Named) (a b : ℕ) → a ≤ bricks_along v.grid 0 → IsNextFrom v.grid (heights v) (held.first + a) (held.first + b)
      → asked_among v.grid (heights v) names held.first (min b (bricks_along v.grid 0)) ≡ asked_among v.grid (heights v) names held.first a
  asked_to names a b room next =
      let end : ℕ = min b (bricks_along v.grid 0) in
      let m : ℕ = end - a in
      let there : a + m ≡ end = let least = next.least in omega arith in
      let none = asked_still v.grid (heights v) names m (held.first + a)
      (λ k from low.
      let x : ℕ = k - held.first in
      let at : held.first + x ≡ k = omega arith in
      next.none_before k from (omega arith) (subst (λ n. n < brick_count v.grid) at (known x (omega arith)))) in
      let more = asked_more v.grid (heights v) names held.first a m in
      ap (asked_among v.grid (heights v) names held.first) (sym there) ∙ omega (arith, more, none)

  pub asked_all : (names : Named) (n : ℕ) → n ≡ bricks_along v.grid 0
      → asked_among v.grid (heights v) names held.first n ≡ asked_along v.grid (heights v) names y z
  asked_all names n all =
      ap (asked_among v.grid (heights v) names held.first) all ∙ ap (λ b. asked_among v.grid (heights v) names b (bricks_along v.grid 0)) hold.first
