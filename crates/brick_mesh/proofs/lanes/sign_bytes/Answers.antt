use Rattle.std.proofs.Common.{rules}
use Rattle.brick_mesh.proofs.EightLanes.{bytes_are}
use Rattle.brick_mesh.proofs.lanes.sign_bytes.Goals as goal

pub returns : goal.returns
returns c =
    bytes_are c.args.near.now c.args.up.now c.args.far.now c.args.both.now (search rules) (search rules) (search rules) (search rules)
    c.requires.near c.requires.up c.requires.far c.requires.both
