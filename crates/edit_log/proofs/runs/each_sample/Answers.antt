use Rattle.std.proofs.Common.{◌≡◌, ◌<◌, ◌++◌, ◌∙◌, arith, ap, subst}
use Rattle.iso_base.specs.Points.{IsPoint, index_of}
use Rattle.voxel_list.specs.Areas.{area_count}
use Rattle.edit_log.specs.Log.{IsBox, area_index, row_samples}
use Rattle.brick_store.proofs.BoxPoints.{row_fits}
use Rattle.edit_log.proofs.RunLaws.{first_all, first_row}
use Rattle.edit_log.proofs.runs.each_sample.Goals as goal
use Rattle.edit_log.proofs.runs.each_sample.Goals.{After-area_point}

place : (c : After-area_point) → index_of c.args.store.now.grid c.area_point.result ≡ area_index c.args.store.now.grid c.args.area.now c.loop-k.k
place c = rw c.sizes-sizes.ensures.value at c.area_point.ensures.value

in_grid : (c : After-area_point) → IsPoint c.args.store.now.grid c.area_point.result
in_grid c = rw c.sizes-sizes.ensures.value at c.area_point.ensures.in_grid

pub add_row-requires-clause-point : goal.add_row-requires-clause-point
add_row-requires-clause-point c = in_grid (goal.at.add_row-requires-clause-point c).After-area_point

pub add_row-requires-clause-fits : goal.add_row-requires-clause-fits
add_row-requires-clause-fits c =
    let at = (goal.at.add_row-requires-clause-fits c).After-area_point in
    let g = c.args.store.now.grid in
    let a = c.args.area.now in
    let is : IsBox g a = subst (λ g. IsBox g a) c.sizes-sizes.ensures.value c.area_point.ensures.box_of_grid in
    let low : c.loop-k.k < area_count a = omega (arith, c.loop-k-test.true, c.area_count-count.ensures.value) in
    row_fits g a is c.loop-k.k low c.area_point.result (in_grid at) (place at) _ c.piece_of_row-piece.ensures.row

pub loop-k-init : goal.loop-k-init
loop-k-init c = record { items = c.in_ok-values.ensures.items; end = omega arith }

pub loop-k-preserved : goal.loop-k-preserved
loop-k-preserved c =
    let v = c.args.store.now in
    record {
      items = c.in_ok-add_row.ensures
          ∙ (ap (λ l. l ++ row_samples v c.area_point.result c.piece_of_row-piece.result) c.loop-k.invariant.items
          ∙ first_row v c.args.area.now c.loop-k.k c.piece_of_row-piece.result c.area_point.result c.piece_of_row-piece.ensures.row
          (place (goal.at.loop-k-preserved c).After-area_point));
      end = c.piece_of_row-piece.ensures.end;
    }

pub returns : goal.returns
returns c =
    let v = c.args.store.now in
    c.loop-k.invariant.items
    ∙ first_all v.grid c.args.area.now v.samples c.loop-k.k (omega (arith, c.loop-k.invariant.end, c.loop-k-test.false, c.area_count-count.ensures.value))
