use Rattle.std.proofs.lemmas.Result.{err_from_is_err_and}
use Rattle.std.proofs.Common.{◌∙◌, ap, subst, length, map, arith, length-append}
use Rattle.std.specs.Prelude.{flat_map}
use Rattle.std.proofs.lemmas.List.{length-map}
use Rattle.byte_streams.proofs.Staging.{HasStaged, staged_front, staged_more}
use Rattle.nrrd_text.specs.Forms.{IsOfForm, printed}
use Rattle.nrrd_text.proofs.Lines.{each_first, each_later, pieces_joined, samples_joined}
use Rattle.nrrd_text.proofs.pieces.gather_counted.Goals as goal

pub gather_piece-requires-clause-form : goal.gather_piece-requires-clause-form
gather_piece-requires-clause-form g c =
    let parts = samples_joined g.T.Packed.value c.loop-rest.rest.now c.next_piece.result.0.now c.next_piece.result.1.now c.next_piece.ensures.parts in
    each_first (IsOfForm c.args.form) _ _ _ parts c.loop-rest.invariant.form

pub returns-in_err-bytes-clause-samples : goal.returns-in_err-bytes-clause-samples
returns-in_err-bytes-clause-samples g c =
    let parts = samples_joined g.T.Packed.value c.loop-rest.rest.now c.next_piece.result.0.now c.next_piece.result.1.now c.next_piece.ensures.parts in
    let split = pieces_joined (printed c.args.form) _ _ _ parts in
    let p = err_from_is_err_and c.from_residual.result c.from_residual.ensures.1 in
    rw p.1 (staged_front _ _ _ _ _ _ _ _ _ _ _ _ (subst (HasStaged _ _ _ _) split c.loop-rest.invariant.printed.staged) c.in_err-bytes.ensures.staged)

pub loop-rest-preserved : goal.loop-rest-preserved
loop-rest-preserved g c =
    let f = printed c.args.form in
    let parts = samples_joined g.T.Packed.value c.loop-rest.rest.now c.next_piece.result.0.now c.next_piece.result.1.now c.next_piece.ensures.parts in
    let piece = map g.T.Packed.value c.next_piece.result.0.now in
    let others = map g.T.Packed.value c.next_piece.result.1.now in
    let split = pieces_joined f _ piece others parts in
    let bytes = ap length split ∙ length-append (flat_map f piece) (flat_map f others) in
    let count = ap length parts ∙ length-append piece others in
    let few = length-map c.next_piece.result.0.now g.T.Packed.value in
    record {
      printed = record {
        staged = staged_more _ _ _ _ _ _ _ _ _ (subst (HasStaged _ _ _ _) split c.loop-rest.invariant.printed.staged) c.in_ok-bytes.ensures.staged;
        count = omega (arith, bytes, c.in_ok-bytes.ensures.bytes, c.loop-rest.invariant.printed.count);
        few = omega (arith, count, few, c.in_ok-bytes.ensures.few, c.loop-rest.invariant.printed.few);
      };
      form = each_later (IsOfForm c.args.form) _ _ _ parts c.loop-rest.invariant.form;
    }
