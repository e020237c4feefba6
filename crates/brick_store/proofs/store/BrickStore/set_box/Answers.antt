use Rattle.std.proofs.Common.{◌∙◌, sym, subst}
use Rattle.iso_base.specs.Volume.{IsVolume, Volume}
use Rattle.packed_samples.specs.Widths.{HasRoom, width_of}
use Rattle.brick_store.specs.Copies.{volume_of}
use Rattle.brick_store.specs.Boxes.{AreFitting, boxed}
use Rattle.brick_store.specs.Kept.{copies_in}
use Rattle.brick_store.proofs.BoxVolumes.{boxed_at}
use Rattle.brick_store.proofs.Fitting.{room_for_values}
use Rattle.brick_store.proofs.Keeping.{stored_again}
use Rattle.brick_store.proofs.store.BrickStore.set_box.Goals as goal

pub set_box-requires-clause-room : goal.set_box-requires-clause-room
set_box-requires-clause-room c =
    rw c.self.invariant.width (subst (λ (v : Volume). AreFitting (HasRoom (width_of v.kind v.pad)) c.args.values) (sym c.self.view_is)
    (room_for_values c.args.self.now.kind c.args.self.now.pad c.args.values c.requires.kind))

pub invariant_of-self : goal.invariant_of-self
invariant_of-self c =
    let s = c.self.inside in
    let g = s.sizes in
    let a = c.args.area.now in
    let v : Volume = volume_of g s.kind s.pad (copies_in s.copies) in
    let kept : IsVolume (record v { samples = boxed g a c.args.values v.samples })
    = boxed_at v c.args.self.now a c.args.values c.self.view_is c.self.invariant.bricks.volume (record { area = c.low.ensures.area; high = c.requires.high })
    c.requires.inner c.requires.count c.requires.kind in
    stored_again g s.kind s.pad _ (boxed g a c.args.values v.samples) kept (c.set_box.ensures.width ∙ c.self.invariant.width)
    c.set_box.ensures.copies c.set_box.ensures.samples
