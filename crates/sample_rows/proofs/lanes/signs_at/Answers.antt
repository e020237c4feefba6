use Rattle.row_bits.proofs.Lanes.{lanes_from_are}
use Rattle.sample_rows.proofs.lanes.signs_at.Goals as goal

pub returns : goal.returns
returns c k low = lanes_from_are 16 c.args.row.now c.args.at 0 c.requires k low
