use Rattle.std.proofs.lemmas.Result.{err_from_is_err_and}
use Rattle.std.proofs.Common.{subst}
use Rattle.byte_streams.proofs.Staging.{HasStaged, staged_front, staged_more}
use Rattle.nrrd_text.specs.Forms.{IsOfForm, printed}
use Rattle.nrrd_text.proofs.Lines.{each_first, each_later, pieces_joined, samples_joined}
use Rattle.nrrd_text.proofs.pieces.gather_samples.Goals as goal

pub gather_piece-requires-clause-form : goal.gather_piece-requires-clause-form
gather_piece-requires-clause-form g c =
    let parts = samples_joined g.T.Packed.value c.loop-rest.rest.now c.next_piece.result.0.now c.next_piece.result.1.now c.next_piece.ensures.parts in
    each_first (IsOfForm c.args.form) _ _ _ parts c.loop-rest.invariant.form

pub returns-in_err-gather_piece : goal.returns-in_err-gather_piece
returns-in_err-gather_piece g c =
    let parts = samples_joined g.T.Packed.value c.loop-rest.rest.now c.next_piece.result.0.now c.next_piece.result.1.now c.next_piece.ensures.parts in
    let split = pieces_joined (printed c.args.form) _ _ _ parts in
    let p = err_from_is_err_and c.from_residual.result c.from_residual.ensures.1 in
    rw p.1 (staged_front _ _ _ _ _ _ _ _ _ _ _ _ (subst (HasStaged _ _ _ _) split c.loop-rest.invariant.staged) c.in_err-gather_piece.ensures.staged)

pub loop-rest-preserved : goal.loop-rest-preserved
loop-rest-preserved g c =
    let parts = samples_joined g.T.Packed.value c.loop-rest.rest.now c.next_piece.result.0.now c.next_piece.result.1.now c.next_piece.ensures.parts in
    let split = pieces_joined (printed c.args.form) _ _ _ parts in
    record {
      staged = staged_more _ _ _ _ _ _ _ _ _ (subst (HasStaged _ _ _ _) split c.loop-rest.invariant.staged) c.in_ok-gather_piece.ensures.staged;
      form = each_later (IsOfForm c.args.form) _ _ _ parts c.loop-rest.invariant.form;
    }
