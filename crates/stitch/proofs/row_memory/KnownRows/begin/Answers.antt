use Rattle.stitch.proofs.row_memory.KnownRows.begin.Goals as goal

pub returns : goal.returns
returns c =
    let v = c.args.field.now in
    let grid = c.sizes.ensures.leveled.grid in
    record { even = c.forget.ensures v grid; odd = c.forget-2.ensures v grid; recent = c.requires }
