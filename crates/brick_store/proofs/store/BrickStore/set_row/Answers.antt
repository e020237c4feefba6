use Rattle.std.proofs.Common.{◌≡◌, ℕ, ◌+◌, ◌≤◌, ◌<◌, ◌∙◌, List, All, ap, length, sym, subst, ℤ}
use Rattle.iso_base.specs.Points.{IsPoint, index_of}
use Rattle.iso_base.specs.Volume.{IsInner, IsVolume, Volume}
use Rattle.packed_samples.specs.Runs.{row_set}
use Rattle.packed_samples.specs.Widths.{HasRoom, width_of}
use Rattle.brick_store.specs.Copies.{volume_of}
use Rattle.brick_store.specs.Kept.{copies_in}
use Rattle.brick_store.proofs.Fitting.{room_for_kind}
use Rattle.brick_store.proofs.RowVolumes.{row_set_at}
use Rattle.samples.proofs.Rows.{row_in}
use Rattle.brick_store.proofs.Keeping.{stored_again}
use Rattle.brick_store.proofs.store.BrickStore.set_row.Goals as goal

pub set_row-requires-clause-room : goal.set_row-requires-clause-room
set_row-requires-clause-room c =
    rw c.self.invariant.width (subst (λ (v : Volume). All (HasRoom (width_of v.kind v.pad)) c.args.values.now) (sym c.self.view_is)
    (room_for_kind c.args.self.now.kind c.args.self.now.pad c.args.values.now c.requires.kind))

pub invariant_of-self : goal.invariant_of-self
invariant_of-self c =
    let s = c.self.inside in
    let g = s.sizes in
    let p = c.args.p in
    let values : List ℤ = c.args.values.now in
    let v : Volume = volume_of g s.kind s.pad (copies_in s.copies) in
    let grid : g ≡ c.args.self.now.grid = ap (λ (v : Volume). v.grid) c.self.view_is in
    let at : IsPoint g p = subst (λ (v : Volume). IsPoint v.grid p) (sym c.self.view_is) c.requires.point in
    let fits : p.x + length values ≤ g.nx = subst (λ (v : Volume). p.x + length values ≤ v.grid.nx) (sym c.self.view_is) c.requires.fits in
    let kept : IsVolume (record v { samples = row_set (index_of g p) values v.samples })
    = row_set_at v c.args.self.now (index_of g p) values c.self.view_is c.self.invariant.bricks.volume (row_in g p at (length values) fits)
    (subst (λ h. (k : ℕ) → k < length values → IsInner c.args.self.now (index_of h p + k)) (sym grid) c.requires.inner) c.requires.kind in
    stored_again g s.kind s.pad _ (row_set (index_of g p) values v.samples) kept (c.set_row.ensures.width ∙ c.self.invariant.width)
    c.set_row.ensures.copies c.set_row.ensures.samples
