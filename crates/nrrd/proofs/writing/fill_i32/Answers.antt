use Rattle.std.proofs.Common.{◌≡◌, ◌+◌, ◌*◌, ◌<◌, get_or, length, map, sym, subst, ℤ, pos, to_z, of_z, arith, ◌∙◌}
use Rattle.std.specs.Int.{w32}
use Rattle.std.proofs.lemmas.Int.{to_z-of_z}
use Rattle.std.proofs.lemmas.List.{length-map}
use Rattle.iso_base.specs.Volume.{IsOfKind}
use Rattle.iso_base.specs.declared.kind.SampleKind.TheVariants.{I32}
use Rattle.nrrd.proofs.Texts.{stepped, wide}
use Rattle.nrrd.proofs.writing.fill_i32.Goals as goal

pub loop-i-preserved : goal.loop-i-preserved
loop-i-preserved g c =
    let piece = map g.T.Packed.value c.args.piece.now in
    let low : c.loop-i.i < length piece = omega (arith, length-map c.args.piece.now g.T.Packed.value) in
    let z = c.sample_at.result in
    let fits : IsOfKind I32 z = subst (IsOfKind I32) (sym c.sample_at.ensures) (c.requires.each c.loop-i.i (pos 0) low) in
    let r : ℤ = c.as_i32.result in
    let here : r ≡ get_or piece c.loop-i.i (pos 0) = c.as_i32.ensures ∙ (wide I32 z fits ∙ c.sample_at.ensures) in
    let e : to_z w32 (of_z w32 c.as_i32.result) ≡ c.as_i32.result = to_z-of_z w32 c.as_i32.result (record { sfits = c.as_i32.type_inv }) in
    stepped I32 piece c.loop-i.room c.write_i32.new.buf _ _ c.loop-i.i (4 * (c.loop-i.i + 1)) (4 * c.loop-i.i) r low here (omega arith) (omega arith) (rw e at c.write_i32.ensures) c.loop-i.invariant
