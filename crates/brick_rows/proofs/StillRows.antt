-- A row of points where no brick is active: no crossing edge begins at its points.
use Rattle.std.proofs.Common.{◌≡◌, ℕ, ◌+◌, ◌-◌, ◌*◌, ◌/◌, ◌<◌, ◌≤◌, Bool, true, false, get_or, leb, min, not, refl, sym, ◌∙◌, ap, subst, inl, inr, arith}
use Rattle.std.specs.List.{list_any}
use Rattle.std.proofs.lemmas.Bool.{cases_Bool, cases_lt, le-leb, lt-leb}
use Rattle.iso_defs.specs.Lists.{below}
use Rattle.iso_defs.specs.Grid.{Grid}
use Rattle.iso_defs.specs.Bricks.{brick_count, bricks_along, is_active}
use Rattle.iso_base.specs.Volume.{IsGrid}
use Rattle.triangle_laws.proofs.Lists.{In, any_in, in_any}
use Rattle.brick_store.proofs.Writing.{In-range}
use Rattle.mesh_laws.proofs.Cells.{range_in}
use Rattle.flat_mesh.specs.Lattice.{IsLeveled, Leveled, heights}
use Rattle.brick_rows.specs.declared.active.ActiveRow.{ActiveRow}
use Rattle.brick_rows.specs.declared.bricks.BrickRow.{BrickRow}
use Rattle.brick_rows.specs.Bricks.{AreMarked, HoldRow, IsNextFrom, brick_at, first_brick, is_active_row}
use Rattle.brick_rows.specs.Rows.{AreStill}
use Rattle.mesh_rows.specs.Rows.{IsStill}
use Rattle.brick_rows.proofs.CaseRows.{quiet_loops}
use Rattle.brick_rows.proofs.NextBricks.{noted}
use Rattle.brick_rows.proofs.QuietBricks.{clash}
use Rattle.brick_rows.proofs.Places.{number_in}
use Rattle.brick_rows.proofs.StillFlags.{still_flags}

-- the bricks that hold a row of points
abbrev held_at : Grid → ℕ → ℕ → BrickRow
held_at g y z = record { first = first_brick g y z; y = y - 8 * brick_at g 1 y; z = z - 8 * brick_at g 2 z }

hold_at : (g : Grid) (y z : ℕ) → HoldRow g y z (held_at g y z)
hold_at g y z = record { first = refl; y_at = omega arith; z_at = omega arith }

-- none holds where none holds at each
any_none : (p : ℕ → Bool) (n : ℕ) → ((k : ℕ) → k < n → p k ≡ false) → list_any p (below n) ≡ false
any_none p n none = elim (cases_Bool (list_any p (below n))) [
  | inr f ↦ f
  | inl t ↦ (let found : (x : ℕ) × In x (below n) × (p x ≡ true) = in_any p (below n) t in clash (p found.0) found.2 (none found.0 (let at = In-range 0 n found.0 found.1 in omega (arith, at.1))))
]

module _ (v : Leveled) (row : ActiveRow) (y z : ℕ) (hy : y < v.grid.ny) (hz : z < v.grid.nz) (marks : AreMarked v row) (same : row.first ≡ first_brick v.grid y z) where
  -- the least active one from one of them on
  pub noted_from : IsGrid v.grid → (a : ℕ) → a < bricks_along v.grid 0 → IsNextFrom v.grid (heights v) (first_brick v.grid y z + a) (get_or row.slice.next_from (row.start + a) 0)
  noted_from is a low = noted v is row y z (held_at v.grid y z) hy hz (hold_at v.grid y z) marks same a low

  -- one of them before it is not active
  passed : (is : IsGrid v.grid) (a b x : ℕ) (low : a < bricks_along v.grid 0) → row.first + b ≡ get_or row.slice.next_from (row.start + a) 0 → a ≤ x → x < b → 8 * x + 1 < v.grid.nx
      → is_active v.grid (heights v) (first_brick v.grid y z + x) ≡ false
  passed is a b x low at from before wide =
      let next = noted_from is a low in
      let known = number_in v.grid is x y z wide hy hz (held_at v.grid y z) (hold_at v.grid y z) in
      next.none_before (first_brick v.grid y z + x) (omega arith) (omega (arith, same, at)) known

  pub still_to : (a b : ℕ) → IsLeveled v → a < bricks_along v.grid 0 → row.first + b ≡ get_or row.slice.next_from (row.start + a) 0 → AreStill v y z a b
  still_to a b is low at =
      let next = noted_from is.grid a low in
      let least_x = is.grid.x.least in
      record {
        least = omega (arith, same, at, next.least);
        active = λ some. subst (IsNextFrom v.grid (heights v) (first_brick v.grid y z + a)) (sym at ∙ ap (λ n. n + b) same) next;
        end = λ none. absurd (omega arith);
        points = λ k in_row from near.
            let x : ℕ = min k (v.grid.nx - 2) / 8 in
            let wide : 8 * x + 1 < v.grid.nx = omega arith in
            let still = passed is.grid a b x low at (omega arith) (omega arith) wide in
            sym (still_flags v is x y z wide hy hz (held_at v.grid y z) (hold_at v.grid y z) still k in_row (omega arith) (omega arith));
        cells = λ k in_row from near up far.
            let x : ℕ = k / 8 in
            let wide : 8 * x + 1 < v.grid.nx = omega arith in
            let still = passed is.grid a b x low at (omega arith) (omega arith) wide in
            quiet_loops v is.grid x y z wide up far (held_at v.grid y z) (hold_at v.grid y z) still k in_row (omega arith) (omega arith);
      }

  -- where it stands behind them all
  pub row_still : (b : ℕ) → IsLeveled v → row.first + b ≡ get_or row.slice.next_from (row.start + 0) 0 → bricks_along v.grid 0 ≤ b → IsStill v y z
  row_still b is at behind =
      let least_x = is.grid.x.least in
      let still = still_to 0 b is (omega arith) at in
      record { none = λ k in_row. still.points k in_row (omega arith) (omega arith) }

  -- one of them is active, or none
  pub row_active : (b : ℕ) → IsGrid v.grid → row.first + b ≡ get_or row.slice.next_from (row.start + 0) 0 → leb (bricks_along v.grid 0) b ≡ not (is_active_row v y z)
  unfolding is_active_row
  row_active b is at =
      let g : Grid = v.grid in
      let some : 0 < bricks_along g 0 = let least_x = is.x.least in omega arith in
      let active : ℕ → Bool = λ x. is_active g (heights v) (first_brick g y z + x) in
      let next = noted_from is 0 some in
      elim (cases_lt b (bricks_along g 0)) [
        | inl low ↦ (
            let known : first_brick g y z + b < brick_count g
            = let wide : 8 * b + 1 < g.nx = omega arith in number_in g is b y z wide hy hz (held_at g y z) (hold_at g y z) in
            let at_b = subst (λ n. is_active g (heights v) n ≡ true) (sym at ∙ ap (λ n. n + b) same) (next.active (omega (arith, at, same, known))) in
            lt-leb _ _ low ∙ sym (ap not (any_in active (below (bricks_along g 0)) b (range_in 0 (bricks_along g 0) b (omega arith) (omega arith)) at_b)))
        | inr behind ↦ le-leb _ _ behind ∙ sym (ap not (any_none active (bricks_along g 0) (λ x low. passed is 0 b x some at (omega arith) (omega arith) (omega arith))))
      ]

-- nothing stands between a place behind all bricks of a row and itself
pub still_none : (v : Leveled) (y z a : ℕ) → bricks_along v.grid 0 ≤ a → AreStill v y z a a
still_none v y z a behind = record {
  least = omega arith;
  active = λ some. absurd (omega arith);
  end = λ none. refl;
  points = λ k in_row from near. absurd (omega arith);
  cells = λ k in_row from near up far. absurd (omega arith);
}
