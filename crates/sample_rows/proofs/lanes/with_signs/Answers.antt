use Rattle.std.proofs.Common.{rules}
use Rattle.sample_rows.proofs.SixteenLanes.{doubled}
use Rattle.sample_rows.proofs.lanes.with_signs.Goals as goal

pub returns : goal.returns
returns c k low = doubled c.args.signs c.args.rest k (search rules) (search rules) low
