use Rattle.std.proofs.Common.{◌*◌, ◌+◌, ◌-◌, ◌≤◌, ◌≡◌, ◌∙◌, drop, map, All, sym, ap, subst, arith}
use Rattle.std.proofs.lemmas.List.{length-map}
use Rattle.std.proofs.lemmas.List.Elements.{All-take, All-drop}
use Rattle.iso_base.specs.Volume.{IsOfKind}
use Rattle.unpadded_volume.specs.Unpadded.{inner_samples}
use Rattle.unpadded_volume.proofs.InnerSamples.{each_inner}
use Rattle.unpadded_volume.proofs.Pieces.{piece_is}
use Rattle.unpadded_volume.proofs.RowLines.{held_fits, held_taken}
use Rattle.unpadded_volume.proofs.text_file.held_row.Goals as goal

pub returns-clause-value : goal.returns-clause-value
returns-clause-value g c =
    let nx = c.args.sizes.now.nx in
    let held = c.args.held in
    let before = c.args.number - held.first in
    let from : before * c.nx-width.result ≡ before * nx = ap (λ w. before * w) c.nx-width.ensures.value in
    let fits : before * nx + nx ≤ 9234 = held_fits held.first held.end c.args.number nx c.requires.held.few c.requires.first c.requires.holds c.nx-width.ensures.grid.x.most in
    let size = length-map c.args.block.now g.T.Packed.value in
    piece_is g.T.Packed.value c.args.block.now _ _
    ∙ held_taken c.args.store.now c.args.sizes.now held (map g.T.Packed.value c.args.block.now) c.args.number _ _ c.requires.sizes c.requires.number c.requires.held c.requires.first c.requires.holds from
    (omega (arith, c.nx-width.ensures.value)) (omega (arith, from, fits, size, c.requires.room))

pub returns-clause-each : goal.returns-clause-each
returns-clause-each g c =
    let v = c.args.store.now in
    let all : All (IsOfKind v.kind) (inner_samples v) = each_inner v c.sizes.ensures.volume in
    subst (All (IsOfKind v.kind)) (sym (returns-clause-value g c))
    (All-take (IsOfKind v.kind) c.args.sizes.now.nx (drop (c.args.number * c.args.sizes.now.nx) (inner_samples v))
    (All-drop (IsOfKind v.kind) (c.args.number * c.args.sizes.now.nx) (inner_samples v) all))
