use Rattle.std.proofs.Common.{◌≡◌, ◌∙◌, All, Ok, Some, ap, length, rules, sym, subst, to_z, of_z, w64, List, ℤ}
use Rattle.std.specs.Prelude.{Option, is_some}
use Rattle.std.proofs.lemmas.Int.{to_z-of_z}
use Rattle.iso_defs.specs.Grid.{Grid, point_count}
use Rattle.iso_base.specs.Volume.{IsSample, first_padded, grown, padded_volume}
use Rattle.padded_samples.specs.Pads.{InPad, padded_list}
use Rattle.padded_samples.proofs.PadRows.{padded_length}
use Rattle.command_terms.specs.Volumes.{text_by, with_pad}
use Rattle.command_terms.specs.Outcome.{WritesGiven}
use Rattle.commands.specs.Headline.{mesh_in, text_of_volume}
use Rattle.commands.specs.Volumes.{IsNotTaken}
use Rattle.commands.proofs.Taken.{all_padded}
use Rattle.commands.proofs.Written.{refused_in}
use Rattle.commands.proofs.extracting.extract_padded.Goals as goal

pub returns-in-Err : goal.returns-in-Err
returns-in-Err g c = λ v grid samples.
    let back : to_z w64 (of_z w64 c.args.pad) ≡ c.args.pad = search (rules, to_z-of_z) in
    let is : c.args.asked.pad ≡ Some (to_z w64 (of_z w64 c.args.pad)) = c.requires.pad ∙ ap Some (sym back) in
    let tape = g.K.Sink.seen c.args.output.now in
    subst (WritesGiven (mesh_in c.args.asked.level c.args.asked.pad c.args.asked.format v) tape tape) (sym c.from.ensures)
    (refused_in c.args.asked.level c.args.asked.pad c.args.asked.format v tape c.in-Err.reason
    (subst (λ (o : Option ℤ). IsNotTaken o c.args.asked.level v c.in-Err.reason) (sym is) (c.in-Err.ensures.fault v grid)))

pub write_mesh-requires-clause-count : goal.write_mesh-requires-clause-count
write_mesh-requires-clause-count g c = padded_length c.in-Ok.padded ∙ ap point_count (sym c.sizes.ensures.value)

pub write_mesh-requires-clause-samples : goal.write_mesh-requires-clause-samples
write_mesh-requires-clause-samples g c =
    let pad : ℤ = to_z w64 (of_z w64 c.args.pad) in
    let back : pad ≡ c.args.pad = search (rules, to_z-of_z) in
    let range : IsSample pad = subst IsSample (sym back) c.requires.range in
    subst (λ (q : InPad). All IsSample (padded_list q)) (sym c.in-Ok.ensures.view)
    (all_padded c.args.sizes (g.S.Samples.list c.args.samples.now) pad (point_count (grown c.args.sizes)) c.requires.samples range)

pub returns : goal.returns
returns g c = λ v grid samples.
    let pad : ℤ = to_z w64 (of_z w64 c.args.pad) in
    let back : pad ≡ c.args.pad = search (rules, to_z-of_z) in
    let is : c.args.asked.pad ≡ Some pad = c.requires.pad ∙ ap Some (sym back) in
    let w = padded_volume v pad in
    let level = c.args.asked.level in
    let format = c.args.asked.format in
    let size : w.grid ≡ c.sizes.result = ap grown grid ∙ sym (c.sizes.ensures.value ∙ ap (λ (q : InPad). grown q.grid) c.in-Ok.ensures.view) in
    let list : w.samples ≡ padded_list c.in-Ok.padded
    = ap (λ (h : Grid). first_padded h v.samples pad (point_count (grown h))) grid
    ∙ ap (λ (l : List ℤ). first_padded c.args.sizes l pad (point_count (grown c.args.sizes))) samples ∙ sym (ap padded_list c.in-Ok.ensures.view) in
    let given : mesh_in level c.args.asked.pad format v ≡ Ok (text_of_volume format level w)
    = ap (λ (o : Option ℤ). text_by (text_of_volume format level) (with_pad o level v)) is ∙ ap (text_by (text_of_volume format level)) (c.in-Ok.ensures.volume v grid) in
    subst (λ given. WritesGiven given (g.K.Sink.seen c.args.output.now) (g.K.Sink.seen c.write_mesh.new.output) c.write_mesh.result) (sym given)
    (c.write_mesh.ensures w size list (ap is_some is))
