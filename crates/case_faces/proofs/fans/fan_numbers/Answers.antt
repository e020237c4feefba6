use Rattle.case_faces.proofs.FanTables.{fan_is}
use Rattle.case_faces.proofs.fans.fan_numbers.Goals as goal

pub returns : goal.returns
returns c = fan_is c.args.fan
