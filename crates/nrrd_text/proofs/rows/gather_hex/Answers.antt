use Rattle.std.proofs.Common.{◌+◌, ◌*◌, ◌∙◌, ◌∷◌, [], ap, sym, length, map}
use Rattle.std.proofs.lemmas.List.{length-map}
use Rattle.iso_base.specs.Volume.{width_of}
use Rattle.std.proofs.lemmas.Result.{err_from_is_err_and}
use Rattle.byte_streams.proofs.Staging.{staged_first, staged_front, staged_more, staged_whole}
use Rattle.nrrd_text.specs.Writing.{hex_line}
use Rattle.nrrd_text.proofs.Lines.{length-hex_line}
use Rattle.nrrd_text.proofs.rows.gather_hex.Goals as goal

pub returns-in_err-gather_samples-clause-line : goal.returns-in_err-gather_samples-clause-line
returns-in_err-gather_samples-clause-line g c =
    let p = err_from_is_err_and c.from_residual.result c.from_residual.ensures.1 in
    let begun = staged_first (g.K.Sink.seen c.args.sink.now) c.args.waiting.now (hex_line c.args.kind (map g.T.Packed.value c.args.values.now)) in
    rw p.1 (staged_front _ _ _ _ _ _ _ _ _ (10 ∷ []) _ _ begun c.in_err-gather_samples.ensures)

pub returns-in_err-gather_end-clause-line : goal.returns-in_err-gather_end-clause-line
returns-in_err-gather_end-clause-line g c =
    let p = err_from_is_err_and c.from_residual-in_err-gather_end.result c.from_residual-in_err-gather_end.ensures.1 in
    let begun = staged_first (g.K.Sink.seen c.args.sink.now) c.args.waiting.now (hex_line c.args.kind (map g.T.Packed.value c.args.values.now)) in
    rw p.1 (staged_front _ _ _ _ _ _ _ _ _ [] _ _ (staged_more _ _ _ _ _ _ _ (10 ∷ []) _ begun c.in_ok-gather_samples.ensures) c.in_err-gather_end.ensures)

pub returns-clause-line : goal.returns-clause-line
returns-clause-line g c =
    let begun = staged_first (g.K.Sink.seen c.args.sink.now) c.args.waiting.now (hex_line c.args.kind (map g.T.Packed.value c.args.values.now)) in
    staged_whole _ _ _ _ _ _ (staged_more _ _ _ _ _ _ _ [] _ (staged_more _ _ _ _ _ _ _ (10 ∷ []) _ begun c.in_ok-gather_samples.ensures) c.in_ok-gather_end.ensures)

pub returns-clause-bytes : goal.returns-clause-bytes
returns-clause-bytes g c =
    ap (λ w. 2 * w * length c.args.values.now + 1) (c.from.ensures ∙ c.width.ensures)
    ∙ (ap (λ n. 2 * width_of c.args.kind * n + 1) (sym (length-map c.args.values.now g.T.Packed.value)) ∙ length-hex_line c.args.kind (map g.T.Packed.value c.args.values.now))
