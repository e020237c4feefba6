use Rattle.std.proofs.Common.{arith}
use Rattle.std.proofs.lemmas.List.{take-replicate}
use Rattle.volume_gen.proofs.Bytes.{run_bytes}
use Rattle.volume_gen.proofs.rows.stage_run.Goals as goal

pub returns : goal.returns
returns g c = rw (run_bytes c.args.count c.args.sample (omega (arith, c.ranges.sample.fits)), ← take-replicate c.args.count 8 c.args.sample c.requires) c.stage.ensures
