use Rattle.std.proofs.Common.{◌≡◌, ◌*◌, ◌∙◌, length, sym, ap, arith, length-append}
use Rattle.iso_base.specs.Volume.{width_of}
use Rattle.nrrd.specs.Writing.{head_text, samples_text}
use Rattle.text_samples.proofs.BytesAgain.{length_samples}
use Rattle.nrrd.proofs.writing.volume_bytes.Goals as goal

pub returns : goal.returns
returns c = λ samples count.
    let kind = c.args.kind in
    let width : c.from.result ≡ width_of c.args.kind = c.from.ensures ∙ c.width.ensures in
    let points : c.from-2.result ≡ length samples = c.from-2.ensures ∙ (c.count.ensures.value ∙ sym count) in
    let body : c.from.result * c.from-2.result ≡ length (samples_text c.args.kind samples)
    = ap (λ m. m * c.from-2.result) width ∙ (ap (λ m. width_of kind * m) points ∙ sym (length_samples kind samples)) in
    omega (arith, length-append (head_text c.args.sizes.now kind) (samples_text kind samples), body, ap length c.made_head.ensures)
