use Rattle.std.proofs.Common.{◌≡◌, ◌+◌, ◌*◌, ◌<◌, get_or, length, map, sym, subst, ℤ, pos, arith, ◌∙◌}
use Rattle.std.proofs.lemmas.List.{length-map}
use Rattle.iso_base.specs.Volume.{IsOfKind}
use Rattle.iso_base.specs.declared.kind.SampleKind.TheVariants.{U16}
use Rattle.nrrd.proofs.Texts.{stepped, wide}
use Rattle.nrrd.proofs.writing.fill_u16.Goals as goal

pub loop-i-preserved : goal.loop-i-preserved
loop-i-preserved g c =
    let piece = map g.T.Packed.value c.args.piece.now in
    let low : c.loop-i.i < length piece = omega (arith, length-map c.args.piece.now g.T.Packed.value) in
    let z = c.sample_at.result in
    let fits : IsOfKind U16 z = subst (IsOfKind U16) (sym c.sample_at.ensures) (c.requires.each c.loop-i.i (pos 0) low) in
    let r : ℤ = pos c.as_u16.result in
    let here : r ≡ get_or piece c.loop-i.i (pos 0) = c.as_u16.ensures ∙ (wide U16 z fits ∙ c.sample_at.ensures) in
    stepped U16 piece c.loop-i.room c.write_u16.new.buf _ _ c.loop-i.i (2 * (c.loop-i.i + 1)) (2 * c.loop-i.i) r low here (omega arith) (omega arith) (c.write_u16.ensures) c.loop-i.invariant
