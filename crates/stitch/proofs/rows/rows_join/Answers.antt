use Rattle.iso_base.specs.Volume.{field}
use Rattle.stitch.proofs.rows.rows_join.Goals as goal

pub returns : goal.returns
returns c =
    let g = c.args.volume.now.grid in
    let s = field c.args.volume.now.samples c.args.level in
    let laws = c.mesh_by_rows.ensures in
    record { edges = laws.edges g s; centres = laws.centres g s; faces = laws.faces g s; numbers = laws.numbers g s }
