use Rattle.std.proofs.Common.{◌≡◌, ◌+◌, ◌*◌, ◌%◌, ◌<◌, ◌^◌, ◌∙◌, refl, sym, subst, arith, rules, ℤ, w64, to_z, of_z, unsigned_abs}
use Rattle.std.proofs.lemmas.Int.{to_z-of_z}
use Rattle.iso_defs.specs.Grid.{Grid}
use Rattle.packed_samples.specs.Runs.{samples_in}
use Rattle.flat_mesh.specs.Centres.{IsCellAt}
use Rattle.flat_mesh.specs.Lattice.{Leveled}
use Rattle.flat_mesh.proofs.CellCase.{all_eight}
use Rattle.brick_rows.specs.Bricks.{HoldRow}
use Rattle.brick_rows.proofs.Corners.{brick_has, corner_height, corner_sample}
use Rattle.brick_rows.proofs.Heights.{corners_are}
use Rattle.brick_rows.proofs.bricks_at_level.BricksAtLevelHeights.corner_heights.Goals as goal

pub brick-copies-requires : goal.brick-copies-requires
brick-copies-requires c =
    let v = c.self.inside.store.now in
    let at = subst (λ (f : Leveled). IsCellAt f.grid c.args.cell) (sym c.self.view_is) c.requires in
    let hold = subst (λ (g : Grid). HoldRow g c.args.cell.low.y c.args.cell.low.z c.of_cells-row.result) c.sizes-sizes.ensures.value c.of_cells-row.ensures in
    brick_has v c.sizes-sizes.ensures.volume c.args.cell at c.of_cells-row.result hold

pub copied_height-requires-clause-sample : goal.copied_height-requires-clause-sample
copied_height-requires-clause-sample c =
    let v = c.self.inside.store.now in
    let at = subst (λ (f : Leveled). IsCellAt f.grid c.args.cell) (sym c.self.view_is) c.requires in
    let hold = subst (λ (g : Grid). HoldRow g c.args.cell.low.y c.args.cell.low.z c.of_cells-row.result) c.sizes-sizes.ensures.value c.of_cells-row.ensures in
    corner_sample v c.sizes-sizes.ensures.volume c.args.cell at c.of_cells-row.result hold (samples_in c.brick-copies.result) c.brick-copies.ensures (c.args.cell.low.x % 8 + 9 * (c.of_cells-row.result.y + 9 * c.of_cells-row.result.z)) refl 0 0 0 _ (omega arith) (omega arith) (omega arith) (omega arith)

pub copied_height-requires-2-clause-sample : goal.copied_height-requires-2-clause-sample
copied_height-requires-2-clause-sample c =
    let v = c.self.inside.store.now in
    let at = subst (λ (f : Leveled). IsCellAt f.grid c.args.cell) (sym c.self.view_is) c.requires in
    let hold = subst (λ (g : Grid). HoldRow g c.args.cell.low.y c.args.cell.low.z c.of_cells-row.result) c.sizes-sizes.ensures.value c.of_cells-row.ensures in
    corner_sample v c.sizes-sizes.ensures.volume c.args.cell at c.of_cells-row.result hold (samples_in c.brick-copies.result) c.brick-copies.ensures (c.args.cell.low.x % 8 + 9 * (c.of_cells-row.result.y + 9 * c.of_cells-row.result.z)) refl 1 0 0 _ (omega arith) (omega arith) (omega arith) (omega arith)

pub copied_height-requires-3-clause-sample : goal.copied_height-requires-3-clause-sample
copied_height-requires-3-clause-sample c =
    let v = c.self.inside.store.now in
    let at = subst (λ (f : Leveled). IsCellAt f.grid c.args.cell) (sym c.self.view_is) c.requires in
    let hold = subst (λ (g : Grid). HoldRow g c.args.cell.low.y c.args.cell.low.z c.of_cells-row.result) c.sizes-sizes.ensures.value c.of_cells-row.ensures in
    corner_sample v c.sizes-sizes.ensures.volume c.args.cell at c.of_cells-row.result hold (samples_in c.brick-copies.result) c.brick-copies.ensures (c.args.cell.low.x % 8 + 9 * (c.of_cells-row.result.y + 9 * c.of_cells-row.result.z)) refl 0 1 0 _ (omega arith) (omega arith) (omega arith) (omega arith)

pub copied_height-requires-4-clause-sample : goal.copied_height-requires-4-clause-sample
copied_height-requires-4-clause-sample c =
    let v = c.self.inside.store.now in
    let at = subst (λ (f : Leveled). IsCellAt f.grid c.args.cell) (sym c.self.view_is) c.requires in
    let hold = subst (λ (g : Grid). HoldRow g c.args.cell.low.y c.args.cell.low.z c.of_cells-row.result) c.sizes-sizes.ensures.value c.of_cells-row.ensures in
    corner_sample v c.sizes-sizes.ensures.volume c.args.cell at c.of_cells-row.result hold (samples_in c.brick-copies.result) c.brick-copies.ensures (c.args.cell.low.x % 8 + 9 * (c.of_cells-row.result.y + 9 * c.of_cells-row.result.z)) refl 1 1 0 _ (omega arith) (omega arith) (omega arith) (omega arith)

pub copied_height-requires-5-clause-sample : goal.copied_height-requires-5-clause-sample
copied_height-requires-5-clause-sample c =
    let v = c.self.inside.store.now in
    let at = subst (λ (f : Leveled). IsCellAt f.grid c.args.cell) (sym c.self.view_is) c.requires in
    let hold = subst (λ (g : Grid). HoldRow g c.args.cell.low.y c.args.cell.low.z c.of_cells-row.result) c.sizes-sizes.ensures.value c.of_cells-row.ensures in
    corner_sample v c.sizes-sizes.ensures.volume c.args.cell at c.of_cells-row.result hold (samples_in c.brick-copies.result) c.brick-copies.ensures (c.args.cell.low.x % 8 + 9 * (c.of_cells-row.result.y + 9 * c.of_cells-row.result.z)) refl 0 0 1 _ (omega arith) (omega arith) (omega arith) (omega arith)

pub copied_height-requires-6-clause-sample : goal.copied_height-requires-6-clause-sample
copied_height-requires-6-clause-sample c =
    let v = c.self.inside.store.now in
    let at = subst (λ (f : Leveled). IsCellAt f.grid c.args.cell) (sym c.self.view_is) c.requires in
    let hold = subst (λ (g : Grid). HoldRow g c.args.cell.low.y c.args.cell.low.z c.of_cells-row.result) c.sizes-sizes.ensures.value c.of_cells-row.ensures in
    corner_sample v c.sizes-sizes.ensures.volume c.args.cell at c.of_cells-row.result hold (samples_in c.brick-copies.result) c.brick-copies.ensures (c.args.cell.low.x % 8 + 9 * (c.of_cells-row.result.y + 9 * c.of_cells-row.result.z)) refl 1 0 1 _ (omega arith) (omega arith) (omega arith) (omega arith)

pub copied_height-requires-7-clause-sample : goal.copied_height-requires-7-clause-sample
copied_height-requires-7-clause-sample c =
    let v = c.self.inside.store.now in
    let at = subst (λ (f : Leveled). IsCellAt f.grid c.args.cell) (sym c.self.view_is) c.requires in
    let hold = subst (λ (g : Grid). HoldRow g c.args.cell.low.y c.args.cell.low.z c.of_cells-row.result) c.sizes-sizes.ensures.value c.of_cells-row.ensures in
    corner_sample v c.sizes-sizes.ensures.volume c.args.cell at c.of_cells-row.result hold (samples_in c.brick-copies.result) c.brick-copies.ensures (c.args.cell.low.x % 8 + 9 * (c.of_cells-row.result.y + 9 * c.of_cells-row.result.z)) refl 0 1 1 _ (omega arith) (omega arith) (omega arith) (omega arith)

pub copied_height-requires-8-clause-sample : goal.copied_height-requires-8-clause-sample
copied_height-requires-8-clause-sample c =
    let v = c.self.inside.store.now in
    let at = subst (λ (f : Leveled). IsCellAt f.grid c.args.cell) (sym c.self.view_is) c.requires in
    let hold = subst (λ (g : Grid). HoldRow g c.args.cell.low.y c.args.cell.low.z c.of_cells-row.result) c.sizes-sizes.ensures.value c.of_cells-row.ensures in
    corner_sample v c.sizes-sizes.ensures.volume c.args.cell at c.of_cells-row.result hold (samples_in c.brick-copies.result) c.brick-copies.ensures (c.args.cell.low.x % 8 + 9 * (c.of_cells-row.result.y + 9 * c.of_cells-row.result.z)) refl 1 1 1 _ (omega arith) (omega arith) (omega arith) (omega arith)

pub returns-clause-value : goal.returns-clause-value
returns-clause-value c =
    let v = c.self.inside.store.now in
    let at = subst (λ (f : Leveled). IsCellAt f.grid c.args.cell) (sym c.self.view_is) c.requires in
    let hold = subst (λ (g : Grid). HoldRow g c.args.cell.low.y c.args.cell.low.z c.of_cells-row.result) c.sizes-sizes.ensures.value c.of_cells-row.ensures in
    let e0 : to_z w64 (of_z w64 c.copied_height.result) ≡ c.copied_height.result = search (rules, to_z-of_z) in
    let e1 : to_z w64 (of_z w64 c.copied_height-2.result) ≡ c.copied_height-2.result = search (rules, to_z-of_z) in
    let e2 : to_z w64 (of_z w64 c.copied_height-3.result) ≡ c.copied_height-3.result = search (rules, to_z-of_z) in
    let e3 : to_z w64 (of_z w64 c.copied_height-4.result) ≡ c.copied_height-4.result = search (rules, to_z-of_z) in
    let e4 : to_z w64 (of_z w64 c.copied_height-5.result) ≡ c.copied_height-5.result = search (rules, to_z-of_z) in
    let e5 : to_z w64 (of_z w64 c.copied_height-6.result) ≡ c.copied_height-6.result = search (rules, to_z-of_z) in
    let e6 : to_z w64 (of_z w64 c.copied_height-7.result) ≡ c.copied_height-7.result = search (rules, to_z-of_z) in
    let e7 : to_z w64 (of_z w64 c.copied_height-8.result) ≡ c.copied_height-8.result = search (rules, to_z-of_z) in
    corners_are c.args.self.now v c.self.inside.level c.args.cell.index _ _ _ _ _ _ _ _ c.self.view_is
    (e0 ∙ corner_height v c.sizes-sizes.ensures.volume c.args.cell at c.of_cells-row.result hold (samples_in c.brick-copies.result) c.brick-copies.ensures (c.args.cell.low.x % 8 + 9 * (c.of_cells-row.result.y + 9 * c.of_cells-row.result.z)) refl 0 0 0 _ c.self.inside.level c.copied_height.result (omega arith) (omega arith) (omega arith) (omega arith) c.copied_height.ensures.value)
    (e1 ∙ corner_height v c.sizes-sizes.ensures.volume c.args.cell at c.of_cells-row.result hold (samples_in c.brick-copies.result) c.brick-copies.ensures (c.args.cell.low.x % 8 + 9 * (c.of_cells-row.result.y + 9 * c.of_cells-row.result.z)) refl 1 0 0 _ c.self.inside.level c.copied_height-2.result (omega arith) (omega arith) (omega arith) (omega arith) c.copied_height-2.ensures.value)
    (e2 ∙ corner_height v c.sizes-sizes.ensures.volume c.args.cell at c.of_cells-row.result hold (samples_in c.brick-copies.result) c.brick-copies.ensures (c.args.cell.low.x % 8 + 9 * (c.of_cells-row.result.y + 9 * c.of_cells-row.result.z)) refl 0 1 0 _ c.self.inside.level c.copied_height-3.result (omega arith) (omega arith) (omega arith) (omega arith) c.copied_height-3.ensures.value)
    (e3 ∙ corner_height v c.sizes-sizes.ensures.volume c.args.cell at c.of_cells-row.result hold (samples_in c.brick-copies.result) c.brick-copies.ensures (c.args.cell.low.x % 8 + 9 * (c.of_cells-row.result.y + 9 * c.of_cells-row.result.z)) refl 1 1 0 _ c.self.inside.level c.copied_height-4.result (omega arith) (omega arith) (omega arith) (omega arith) c.copied_height-4.ensures.value)
    (e4 ∙ corner_height v c.sizes-sizes.ensures.volume c.args.cell at c.of_cells-row.result hold (samples_in c.brick-copies.result) c.brick-copies.ensures (c.args.cell.low.x % 8 + 9 * (c.of_cells-row.result.y + 9 * c.of_cells-row.result.z)) refl 0 0 1 _ c.self.inside.level c.copied_height-5.result (omega arith) (omega arith) (omega arith) (omega arith) c.copied_height-5.ensures.value)
    (e5 ∙ corner_height v c.sizes-sizes.ensures.volume c.args.cell at c.of_cells-row.result hold (samples_in c.brick-copies.result) c.brick-copies.ensures (c.args.cell.low.x % 8 + 9 * (c.of_cells-row.result.y + 9 * c.of_cells-row.result.z)) refl 1 0 1 _ c.self.inside.level c.copied_height-6.result (omega arith) (omega arith) (omega arith) (omega arith) c.copied_height-6.ensures.value)
    (e6 ∙ corner_height v c.sizes-sizes.ensures.volume c.args.cell at c.of_cells-row.result hold (samples_in c.brick-copies.result) c.brick-copies.ensures (c.args.cell.low.x % 8 + 9 * (c.of_cells-row.result.y + 9 * c.of_cells-row.result.z)) refl 0 1 1 _ c.self.inside.level c.copied_height-7.result (omega arith) (omega arith) (omega arith) (omega arith) c.copied_height-7.ensures.value)
    (e7 ∙ corner_height v c.sizes-sizes.ensures.volume c.args.cell at c.of_cells-row.result hold (samples_in c.brick-copies.result) c.brick-copies.ensures (c.args.cell.low.x % 8 + 9 * (c.of_cells-row.result.y + 9 * c.of_cells-row.result.z)) refl 1 1 1 _ c.self.inside.level c.copied_height-8.result (omega arith) (omega arith) (omega arith) (omega arith) c.copied_height-8.ensures.value)

pub returns-clause-bound : goal.returns-clause-bound
returns-clause-bound c =
    let P = λ (v : ℤ). unsigned_abs v < 2 ^ 44 in
    let e0 : to_z w64 (of_z w64 c.copied_height.result) ≡ c.copied_height.result = search (rules, to_z-of_z) in
    let e1 : to_z w64 (of_z w64 c.copied_height-2.result) ≡ c.copied_height-2.result = search (rules, to_z-of_z) in
    let e2 : to_z w64 (of_z w64 c.copied_height-3.result) ≡ c.copied_height-3.result = search (rules, to_z-of_z) in
    let e3 : to_z w64 (of_z w64 c.copied_height-4.result) ≡ c.copied_height-4.result = search (rules, to_z-of_z) in
    let e4 : to_z w64 (of_z w64 c.copied_height-5.result) ≡ c.copied_height-5.result = search (rules, to_z-of_z) in
    let e5 : to_z w64 (of_z w64 c.copied_height-6.result) ≡ c.copied_height-6.result = search (rules, to_z-of_z) in
    let e6 : to_z w64 (of_z w64 c.copied_height-7.result) ≡ c.copied_height-7.result = search (rules, to_z-of_z) in
    let e7 : to_z w64 (of_z w64 c.copied_height-8.result) ≡ c.copied_height-8.result = search (rules, to_z-of_z) in
    all_eight P _ _ _ _ _ _ _ _
    (subst P (sym e0) c.copied_height.ensures.bound) (subst P (sym e1) c.copied_height-2.ensures.bound) (subst P (sym e2) c.copied_height-3.ensures.bound) (subst P (sym e3) c.copied_height-4.ensures.bound)
    (subst P (sym e4) c.copied_height-5.ensures.bound) (subst P (sym e5) c.copied_height-6.ensures.bound) (subst P (sym e6) c.copied_height-7.ensures.bound) (subst P (sym e7) c.copied_height-8.ensures.bound)
