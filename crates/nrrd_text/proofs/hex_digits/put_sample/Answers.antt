use Rattle.std.proofs.Common.{◌≡◌, ◌≢◌, ◌∙◌, sym, take, rules, w64, to_z, of_z}
use Rattle.std.proofs.lemmas.Int.{to_z-of_z}
use Rattle.iso_base.specs.Volume.{width_of}
use Rattle.nrrd_text.proofs.SampleDigits.{four_written, two_written}
use Rattle.nrrd_text.proofs.hex_digits.put_sample.Goals as goal

pub returns-then-width-eq2-clause-written : goal.returns-then-width-eq2-clause-written
returns-then-width-eq2-clause-written c =
    let e : to_z w64 (of_z w64 c.args.value) ≡ c.args.value = search (rules, to_z-of_z) in
    let l = c.to_le_bytes.ensures in
    two_written c.args.kind c.args.value c.bits_of.result (take c.args.at c.args.room.now) _ _ (sym c.width-2.ensures ∙ c.if-width-eq2.true) (rw e at c.bits_of.ensures)
    (rw l at c.put_byte-at.ensures.written) (rw l at c.put_byte-at-2.ensures.written)

pub returns-clause-written : goal.returns-clause-written
returns-clause-written c =
    let e : to_z w64 (of_z w64 c.args.value) ≡ c.args.value = search (rules, to_z-of_z) in
    let l = c.to_le_bytes.ensures in
    let one : width_of c.args.kind ≢ 1 = λ h. c.if-width-eq1.false (c.width.ensures ∙ h) in
    let two : width_of c.args.kind ≢ 2 = λ h. c.if-width-eq2.false (c.width-2.ensures ∙ h) in
    four_written c.args.kind c.args.value c.bits_of.result (take c.args.at c.args.room.now) _ _ _ _ one two (rw e at c.bits_of.ensures)
    (rw l at c.put_byte-at.ensures.written) (rw l at c.put_byte-at-2.ensures.written) (rw l at c.put_byte-at-3.ensures.written) (rw l at c.put_byte.ensures.written)
