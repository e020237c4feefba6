use Rattle.std.proofs.Common.{◌∙◌, All, List, ℕ, map, sym, ap, subst}
use Rattle.std.specs.List.{drop-map, take-map}
use Rattle.std.proofs.lemmas.List.Elements.{All-take}
use Rattle.std.proofs.lemmas.Result.{err_from_is_err_and}
use Rattle.byte_streams.proofs.Putting.{HasPut, has_put, put_failed}
use Rattle.iso_base.specs.Volume.{IsOfKind}
use Rattle.nrrd.specs.Writing.{samples_text}
use Rattle.nrrd.proofs.Texts.{two_parts, all_behind}
use Rattle.nrrd.proofs.writing.put_pieces.Goals as goal

pub put_piece-requires-clause-each : goal.put_piece-requires-clause-each
put_piece-requires-clause-each g c =
    let front = ap (map g.T.Packed.value) c.split_at.ensures.front ∙ sym (take-map g.T.Packed.value _ c.loop-rest.rest.now) in
    subst (All (IsOfKind c.args.kind)) (sym front) (All-take (IsOfKind c.args.kind) _ (map g.T.Packed.value c.loop-rest.rest.now) c.loop-rest.invariant.each)

pub returns-in_err-put_piece : goal.returns-in_err-put_piece
returns-in_err-put_piece g c =
    let p = err_from_is_err_and c.from_residual.result c.from_residual.ensures.1 in
    let front = ap (map g.T.Packed.value) c.split_at.ensures.front ∙ sym (take-map g.T.Packed.value _ c.loop-rest.rest.now) in
    let back = ap (map g.T.Packed.value) c.split_at.ensures.back ∙ sym (drop-map g.T.Packed.value _ c.loop-rest.rest.now) in
    let e = two_parts c.args.kind (map g.T.Packed.value c.loop-rest.rest.now) (map g.T.Packed.value c.split_at.result.0.now) (map g.T.Packed.value c.split_at.result.1.now) _ front back in
    rw p.1 (put_failed _ _ _ _ _ _ _ _ (subst (λ (l : List ℕ). HasPut (g.K.Sink.seen c.args.sink.now) (g.K.Sink.seen c.loop-rest.sink) (samples_text c.args.kind (map g.T.Packed.value c.args.values.now)) l) e c.loop-rest.invariant.put) c.in_err-put_piece.ensures)

pub loop-rest-preserved : goal.loop-rest-preserved
loop-rest-preserved g c =
    let front = ap (map g.T.Packed.value) c.split_at.ensures.front ∙ sym (take-map g.T.Packed.value _ c.loop-rest.rest.now) in
    let back = ap (map g.T.Packed.value) c.split_at.ensures.back ∙ sym (drop-map g.T.Packed.value _ c.loop-rest.rest.now) in
    let e = two_parts c.args.kind (map g.T.Packed.value c.loop-rest.rest.now) (map g.T.Packed.value c.split_at.result.0.now) (map g.T.Packed.value c.split_at.result.1.now) _ front back in
    record {
      put = has_put _ _ _ _ _ _ _ (subst (λ (l : List ℕ). HasPut (g.K.Sink.seen c.args.sink.now) (g.K.Sink.seen c.loop-rest.sink) (samples_text c.args.kind (map g.T.Packed.value c.args.values.now)) l) e c.loop-rest.invariant.put) c.in_ok-put_piece.ensures;
      each = all_behind (IsOfKind c.args.kind) (map g.T.Packed.value c.loop-rest.rest.now) (map g.T.Packed.value c.split_at.result.1.now) _ back c.loop-rest.invariant.each;
    }
