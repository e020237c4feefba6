use Rattle.std.proofs.Common.{◌≡◌, ◌+◌, ◌%◌, ◌<◌, ◌≤◌, ◌++◌, ◌∙◌, take, length, sym, arith, ap, ap₂, subst}
use Rattle.std.proofs.lemmas.List.{length-take-le}
use Rattle.std.proofs.lemmas.List.FromFn.{length-map-range_with_len}
use Rattle.iso_base.specs.Points.{IsPoint, index_of}
use Rattle.iso_base.specs.Volume.{sample}
use Rattle.voxel_list.specs.Areas.{area_count}
use Rattle.edit_log.specs.Log.{IsBox, area_grid, area_index, row_samples}
use Rattle.brick_store.proofs.BoxPoints.{row_fits}
use Rattle.edit_log.specs.Runs.{values_of}
use Rattle.edit_log.proofs.RunLaws.{first_all, first_row, gathered_run}
use Rattle.edit_log.proofs.runs.equal_samples.Goals as goal
use Rattle.edit_log.proofs.runs.equal_samples.Goals.{After-area_point, After-copy_row}

place : (c : After-area_point) → index_of c.args.store.now.grid c.area_point.result ≡ area_index c.args.store.now.grid c.args.area.now c.loop-k.k
place c = rw c.sizes-sizes.ensures.value at c.area_point.ensures.value

in_grid : (c : After-area_point) → IsPoint c.args.store.now.grid c.area_point.result
in_grid c = rw c.sizes-sizes.ensures.value at c.area_point.ensures.in_grid

-- the row has as many values as the piece
room : (c : After-area_point) → length (take c.piece_of_row-piece.result c.loop-k.row) ≡ c.piece_of_row-piece.result
room c = length-take-le c.piece_of_row-piece.result c.loop-k.row (omega (arith, c.piece_of_row-piece.ensures.piece, c.piece_of_row-piece.array_long))

-- they are the samples that follow
taken : (c : After-copy_row) → c.copy_row.new.into ≡ row_samples c.args.store.now c.area_point.result c.piece_of_row-piece.result
taken c = c.copy_row.ensures ∙ ap (row_samples c.args.store.now c.area_point.result) (length-take-le c.piece_of_row-piece.result c.loop-k.row (omega (arith, c.piece_of_row-piece.ensures.piece, c.piece_of_row-piece.array_long)))

taken_many : (c : After-copy_row) → length c.copy_row.new.into ≡ c.piece_of_row-piece.result
taken_many c =
    ap length (taken c)
    ∙ length-map-range_with_len (λ d. sample c.args.store.now.samples (index_of c.args.store.now.grid c.area_point.result + d)) 0 c.piece_of_row-piece.result

pub copy_row-requires-clause-point : goal.copy_row-requires-clause-point
copy_row-requires-clause-point c = in_grid (goal.at.copy_row-requires-clause-point c).After-area_point

pub copy_row-requires-clause-fits : goal.copy_row-requires-clause-fits
copy_row-requires-clause-fits c =
    let at = (goal.at.copy_row-requires-clause-fits c).After-area_point in
    let g = c.args.store.now.grid in
    let a = c.args.area.now in
    let is : IsBox g a = subst (λ g. IsBox g a) c.sizes-sizes.ensures.value c.area_point.ensures.box_of_grid in
    let low : c.loop-k.k < area_count a = omega (arith, c.loop-k-test.true, c.area_count-count.ensures.value) in
    row_fits g a is c.loop-k.k low c.area_point.result (in_grid at) (place at) _
    (subst (λ n. c.loop-k.k % (area_grid a).nx + n ≤ (area_grid a).nx) (sym (room at)) c.piece_of_row-piece.ensures.row)

pub extend_all-requires : goal.extend_all-requires
extend_all-requires c =
    omega (
      arith,
      c.loop-k.invariant.count,
      taken_many (goal.at.extend_all-requires c).After-copy_row,
      c.piece_of_row-piece.ensures.end,
      c.area_count-count.type_inv,
    )

pub loop-k-preserved : goal.loop-k-preserved
loop-k-preserved c =
    let at = (goal.at.loop-k-preserved c).After-copy_row in
    let v = c.args.store.now in
    let a = c.args.area.now in
    record {
      values = c.in_ok-extend_all.ensures.values
          ∙ (ap₂ ◌++◌ c.loop-k.invariant.values (taken at)
          ∙ first_row v a c.loop-k.k c.piece_of_row-piece.result c.area_point.result c.piece_of_row-piece.ensures.row (place (goal.at.loop-k-preserved c).After-area_point));
      count = omega (arith, c.in_ok-extend_all.ensures.count, c.loop-k.invariant.count, taken_many at);
      end = c.piece_of_row-piece.ensures.end;
    }

pub returns : goal.returns
returns c =
    let v = c.args.store.now in
    ap values_of c.in_ok-push.ensures.items
    ∙ (gathered_run c.loop-k.runs.items c.loop-k.run
    ∙ (c.loop-k.invariant.values
    ∙ first_all v.grid c.args.area.now v.samples c.loop-k.k (omega (arith, c.loop-k.invariant.end, c.loop-k-test.false, c.area_count-count.ensures.value))))
