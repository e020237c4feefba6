use Rattle.std.proofs.Common.{◌≡◌, length, map, sym, ap, ◌∙◌, arith}
use Rattle.std.proofs.lemmas.Result.{err_from_is_err_and}
use Rattle.text_lines.specs.Lines.{lines_of}
use Rattle.nrrd_read.specs.Fields.{header_texts, sample_bytes, meaning_of}
use Rattle.nrrd_read.specs.Scanning.{seen_fields, after_lines}
use Rattle.nrrd_read.proofs.Folding.{all_lines, refused_line}
use Rattle.nrrd_read.proofs.HeaderLaws.{samples_within}
use Rattle.nrrd_read.proofs.header.read_fields.Goals as goal

pub returns-in_err-add : goal.returns-in_err-add
returns-in_err-add c =
    let says = map meaning_of (header_texts (lines_of c.args.bytes.now)) in
    let refused = refused_line (seen_fields c.loop-text.header) c.loop-text.number c.in-Some.text.now (header_texts (lines_of c.loop-text.rest.now)) (header_texts (lines_of c.in-Some.after.now)) c.in_err-add.field-0.0 _ c.in-Some.ensures.texts (sym c.in_err-add.ensures) c.loop-text.invariant.so_far in
    let p = err_from_is_err_and c.from_residual.result c.from_residual.ensures.1 in
    rw (p.1, p.2) (sym refused ∙ all_lines says)

pub overflow_add-number : goal.overflow_add-number
overflow_add-number c =
    let samples = samples_within c.loop-text.rest.now in
    let same : length (sample_bytes (lines_of c.loop-text.rest.now)) ≡ length (sample_bytes (lines_of c.args.bytes.now)) = ap length c.loop-text.invariant.samples in
    omega (arith, samples, same, c.loop-text.invariant.number, c.requires)

pub returns : goal.returns
returns c =
    sym (ap (λ l. after_lines (seen_fields c.loop-text.header) c.loop-text.number (map meaning_of l)) c.in_default.ensures.texts)
    ∙ c.loop-text.invariant.so_far ∙ all_lines (map meaning_of (header_texts (lines_of c.args.bytes.now)))
