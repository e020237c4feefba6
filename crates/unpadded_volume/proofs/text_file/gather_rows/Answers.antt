use Rattle.std.proofs.Common.{◌≡◌, ◌+◌, ◌*◌, ◌∙◌, [], length, map, drop, get_or, sym, ap, subst, arith}
use Rattle.std.specs.Prelude.{flat_map}
use Rattle.std.proofs.lemmas.List.{length-map, length-take}
use Rattle.std.proofs.lemmas.Result.{err_from_is_err_and}
use Rattle.byte_streams.proofs.Staging.{HasStaged, staged_front, staged_whole}
use Rattle.nrrd.specs.Writing.{coded_line, rows_of}
use Rattle.nrrd_text.proofs.Lines.{HasPieces, next_first, pieces_more, pieces_none}
use Rattle.unpadded_volume.specs.Unpadded.{inner_samples, inner_voxels}
use Rattle.unpadded_volume.proofs.RowLines.{no_rows, row_among, row_printed}
use Rattle.unpadded_volume.proofs.text_file.gather_rows.Goals as goal

pub loop-number-init : goal.loop-number-init
loop-number-init g c = record {
  pieces = pieces_none _ _ _ _ _;
  held = record { few = omega arith; samples = λ i low. absurd (omega (arith, low)) };
  first = omega arith;
  next = omega arith;
}

pub gather_row-requires-clause-few : goal.gather_row-requires-clause-few
gather_row-requires-clause-few g c =
    let row = c.held_row-row.result.now in
    let text = drop (c.loop-number.number * c.args.sizes.now.nx) (inner_samples c.args.store.now) in
    omega (arith, length-map row g.T.Packed.value, ap length c.held_row-row.ensures.value, length-take c.args.sizes.now.nx text, c.ny.ensures.grid.x.most)

pub returns-in_err-bytes-clause-lines : goal.returns-in_err-bytes-clause-lines
returns-in_err-bytes-clause-lines g c =
    let v = c.args.store.now in
    let row = map g.T.Packed.value c.held_row-row.result.now in
    let low = rw (c.ny.ensures.value, c.nz.ensures.value) at c.loop-number-test.true in
    let is : coded_line c.args.hex c.kind-kind.result row ≡ coded_line c.args.hex v.kind (get_or (rows_of (inner_voxels v)) c.loop-number.number [])
    = ap (λ k. coded_line c.args.hex k row) c.kind-kind.ensures
    ∙ ap (coded_line c.args.hex v.kind) (row_printed v c.args.sizes.now c.loop-number.number row c.requires.sizes low c.held_row-row.ensures.value) in
    let p = err_from_is_err_and c.from_residual.result c.from_residual.ensures.1 in
    rw p.1 (staged_front _ _ _ _ _ _ _ _ _ _ _ _
    (next_first (coded_line c.args.hex v.kind) 25000 _ _ _ _ (coded_line c.args.hex c.kind-kind.result row) (rows_of (inner_voxels v)) c.loop-number.number c.loop-number.bytes [] c.loop-number.invariant.pieces
    (row_among v c.args.sizes.now c.loop-number.number c.requires.sizes low) is)
    c.in_err-bytes.ensures.line)

pub loop-number-preserved : goal.loop-number-preserved
loop-number-preserved g c =
    let v = c.args.store.now in
    let row = map g.T.Packed.value c.held_row-row.result.now in
    let low = rw (c.ny.ensures.value, c.nz.ensures.value) at c.loop-number-test.true in
    let is : coded_line c.args.hex c.kind-kind.result row ≡ coded_line c.args.hex v.kind (get_or (rows_of (inner_voxels v)) c.loop-number.number [])
    = ap (λ k. coded_line c.args.hex k row) c.kind-kind.ensures
    ∙ ap (coded_line c.args.hex v.kind) (row_printed v c.args.sizes.now c.loop-number.number row c.requires.sizes low c.held_row-row.ensures.value) in
    let pieces = subst (λ n. HasPieces (coded_line c.args.hex v.kind) 25000 (g.K.Sink.seen c.args.sink.now) (g.K.Sink.seen c.gather_row.new.sink) c.args.waiting.now c.gather_row.new.waiting
    (rows_of (inner_voxels v)) (c.loop-number.number + 1) (c.loop-number.bytes + n)) (sym c.in_ok-bytes.ensures.bytes)
    (pieces_more (coded_line c.args.hex v.kind) 25000 _ _ _ _ _ _ (coded_line c.args.hex c.kind-kind.result row) (rows_of (inner_voxels v)) c.loop-number.number c.loop-number.bytes [] _ c.loop-number.invariant.pieces
    (row_among v c.args.sizes.now c.loop-number.number c.requires.sizes low) is (omega (arith, c.in_ok-bytes.ensures.bytes, c.in_ok-bytes.ensures.bound)) c.in_ok-bytes.ensures.line) in
    record { pieces = pieces; held = c.hold_row-held.ensures.held; first = omega (arith, c.hold_row-held.ensures.first); next = omega (arith, c.hold_row-held.ensures.holds) }

pub returns-clause-lines : goal.returns-clause-lines
returns-clause-lines g c =
    let v = c.args.store.now in
    let past = rw (c.ny.ensures.value, c.nz.ensures.value) at c.loop-number-test.false in
    let gone = ap (flat_map (coded_line c.args.hex v.kind)) (no_rows v c.args.sizes.now c.loop-number.number c.requires.sizes past) in
    staged_whole _ _ _ _ _ _ (subst (HasStaged _ _ _ _) gone c.loop-number.invariant.pieces.staged)

pub returns-clause-bytes : goal.returns-clause-bytes
returns-clause-bytes g c =
    let v = c.args.store.now in
    let past = rw (c.ny.ensures.value, c.nz.ensures.value) at c.loop-number-test.false in
    let gone = ap (λ l. length (flat_map (coded_line c.args.hex v.kind) l)) (no_rows v c.args.sizes.now c.loop-number.number c.requires.sizes past) in
    omega (arith, gone, c.loop-number.invariant.pieces.count)
