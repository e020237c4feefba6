use Rattle.std.proofs.Common.{◌≡◌, ◌+◌, ◌∙◌, ◌∷◌, [], ap, sym, refl, length, map, arith, rules, w64, to_z, of_z}
use Rattle.std.specs.Fmt.{signed_decimal}
use Rattle.std.proofs.lemmas.Int.{to_z-of_z}
use Rattle.std.proofs.lemmas.Result.{err_from_is_err_and}
use Rattle.byte_streams.proofs.Staging.{staged_front, staged_more, staged_whole}
use Rattle.iso_base.specs.Volume.{IsOfKind}
use Rattle.nrrd_text.proofs.Lines.{each_later, length-text_line, line_begins}
use Rattle.nrrd_text.proofs.rows.gather_text.Goals as goal

pub gather_counted-requires-clause-form : goal.gather_counted-requires-clause-form
gather_counted-requires-clause-form g c =
    let v = c.sample.result in
    let others = map g.T.Packed.value c.in-Some.others.now in
    let parts = ap (map g.T.Packed.value) c.in-Some.ensures.cases.0 ∙ ap (λ n. n ∷ others) (sym c.sample.ensures.value) in
    let each = each_later (IsOfKind c.args.kind) (map g.T.Packed.value c.args.values.now) (v ∷ []) others parts c.requires.each in
    λ k d lt. c.numbers_of.ensures.fits _ (each k d lt)

pub returns-in_err-first-clause-line : goal.returns-in_err-first-clause-line
returns-in_err-first-clause-line g c =
    let v = c.sample.result in
    let others = map g.T.Packed.value c.in-Some.others.now in
    let parts = ap (map g.T.Packed.value) c.in-Some.ensures.cases.0 ∙ ap (λ n. n ∷ others) (sym c.sample.ensures.value) in
    let e : to_z w64 (of_z w64 v) ≡ v = search (rules, to_z-of_z) in
    let begun = line_begins (g.K.Sink.seen c.args.sink.now) c.args.waiting.now (signed_decimal v) (map g.T.Packed.value c.args.values.now) v others parts refl in
    let p = err_from_is_err_and c.from_residual-in_err-first.result c.from_residual-in_err-first.ensures.1 in
    rw p.1 (staged_front _ _ _ _ _ _ _ _ _ _ _ _ begun (rw e at c.in_err-first.ensures.staged))

pub returns-in_err-bytes-clause-line : goal.returns-in_err-bytes-clause-line
returns-in_err-bytes-clause-line g c =
    let v = c.sample.result in
    let others = map g.T.Packed.value c.in-Some.others.now in
    let parts = ap (map g.T.Packed.value) c.in-Some.ensures.cases.0 ∙ ap (λ n. n ∷ others) (sym c.sample.ensures.value) in
    let e : to_z w64 (of_z w64 v) ≡ v = search (rules, to_z-of_z) in
    let begun = line_begins (g.K.Sink.seen c.args.sink.now) c.args.waiting.now (signed_decimal v) (map g.T.Packed.value c.args.values.now) v others parts refl in
    let p = err_from_is_err_and c.from_residual-in_err-bytes.result c.from_residual-in_err-bytes.ensures.1 in
    rw p.1 (staged_front _ _ _ _ _ _ _ _ _ (10 ∷ []) _ _ (staged_more _ _ _ _ _ _ _ _ _ begun (rw e at c.in_ok-first.ensures.staged)) (rw (c.numbers_of.ensures.text others) at c.in_err-bytes.ensures.samples))

pub returns-in_err-gather_end-2-clause-line : goal.returns-in_err-gather_end-2-clause-line
returns-in_err-gather_end-2-clause-line g c =
    let v = c.sample.result in
    let others = map g.T.Packed.value c.in-Some.others.now in
    let parts = ap (map g.T.Packed.value) c.in-Some.ensures.cases.0 ∙ ap (λ n. n ∷ others) (sym c.sample.ensures.value) in
    let e : to_z w64 (of_z w64 v) ≡ v = search (rules, to_z-of_z) in
    let begun = line_begins (g.K.Sink.seen c.args.sink.now) c.args.waiting.now (signed_decimal v) (map g.T.Packed.value c.args.values.now) v others parts refl in
    let p = err_from_is_err_and c.from_residual-in_err-gather_end-2.result c.from_residual-in_err-gather_end-2.ensures.1 in
    rw p.1 (staged_front _ _ _ _ _ _ _ _ _ [] _ _
    (staged_more _ _ _ _ _ _ _ (10 ∷ []) _ (staged_more _ _ _ _ _ _ _ _ _ begun (rw e at c.in_ok-first.ensures.staged)) (rw (c.numbers_of.ensures.text others) at c.in_ok-bytes.ensures.samples)) c.in_err-gather_end-2.ensures)

pub returns-clause-line : goal.returns-clause-line
returns-clause-line g c =
    let v = c.sample.result in
    let others = map g.T.Packed.value c.in-Some.others.now in
    let parts = ap (map g.T.Packed.value) c.in-Some.ensures.cases.0 ∙ ap (λ n. n ∷ others) (sym c.sample.ensures.value) in
    let e : to_z w64 (of_z w64 v) ≡ v = search (rules, to_z-of_z) in
    let begun = line_begins (g.K.Sink.seen c.args.sink.now) c.args.waiting.now (signed_decimal v) (map g.T.Packed.value c.args.values.now) v others parts refl in
    staged_whole _ _ _ _ _ _
    (staged_more _ _ _ _ _ _ _ [] _
    (staged_more _ _ _ _ _ _ _ (10 ∷ []) _ (staged_more _ _ _ _ _ _ _ _ _ begun (rw e at c.in_ok-first.ensures.staged)) (rw (c.numbers_of.ensures.text others) at c.in_ok-bytes.ensures.samples)) c.in_ok-gather_end-2.ensures)

pub returns-clause-bytes : goal.returns-clause-bytes
returns-clause-bytes g c =
    let v = c.sample.result in
    let others = map g.T.Packed.value c.in-Some.others.now in
    let parts = ap (map g.T.Packed.value) c.in-Some.ensures.cases.0 ∙ ap (λ n. n ∷ others) (sym c.sample.ensures.value) in
    let e : to_z w64 (of_z w64 v) ≡ v = search (rules, to_z-of_z) in
    ap (λ n. n + c.in_ok-bytes.bytes + 1) (rw e at c.in_ok-first.ensures.bytes)
    ∙ length-text_line (signed_decimal v) (map g.T.Packed.value c.args.values.now) v others c.in_ok-bytes.bytes parts refl (rw (c.numbers_of.ensures.text others) at c.in_ok-bytes.ensures.bytes)

pub returns-clause-bound : goal.returns-clause-bound
returns-clause-bound g c = omega (arith, c.in_ok-first.ensures.few, c.in_ok-bytes.ensures.bound, ap length c.in-Some.ensures.cases.0)
