use Rattle.std.proofs.Common.{arith, refl, rules}
use Rattle.iso_base.specs.Points.{index_of}
use Rattle.brick_store.proofs.Gathering.{nine_put, none_gathered, zeros_stay}
use Rattle.brick_store.proofs.filling.write_nine.Goals as goal
use Rattle.brick_store.proofs.filling.write_nine.Goals.{then-p-ny-via-then-p-ny, then-p-ny-via-else-p-ny+then-p-nz}

pub returns-then-p-ny : goal.returns-then-p-ny
returns-then-p-ny g c =
    zeros_stay (g.C.PackedList.list c.args.copies.now) c.args.place c.requires.room c.requires.zeros _
    (none_gathered c.args.sizes.now (g.S.Samples.list c.args.samples.now) c.args.p (λ y z. elim c.then-p-ny.branch [
      | then-p-ny-via-then-p-ny w ↦ omega (arith, y, c.ny.ensures.value, w.if-p-ny.true)
      | then-p-ny-via-else-p-ny+then-p-nz w ↦ omega (arith, z, w.nz.ensures.value, w.if-p-nz.true)
    ]))

pub take_row-requires-clause-row : goal.take_row-requires-clause-row
take_row-requires-clause-row g c = omega (arith, c.requires.x, c.min-count.ensures)

pub returns : goal.returns
returns g c =
    let p = c.args.p in
    nine_put c.args.sizes.now (g.S.Samples.list c.args.samples.now) p (index_of c.args.sizes.now p) c.min-count.result c.args.place
    (g.C.PackedList.list c.args.copies.now) (g.C.PackedList.list c.take_row.new.self) c.requires.count
    (record { x = c.requires.x; y = omega (arith, c.ny.ensures.value, c.if-p-ny.false); z = omega (arith, c.nz.ensures.value, c.if-p-nz.false) })
    refl (search rules) c.requires.room c.requires.zeros c.take_row.ensures
