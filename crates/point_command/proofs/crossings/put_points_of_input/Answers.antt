use Rattle.std.proofs.Common.{None}
use Rattle.command_terms.specs.Volumes.{HoldsNone}
use Rattle.command_terms.proofs.Passed.{passed_on}
use Rattle.point_command.proofs.crossings.put_points_of_input.Goals as goal

pub returns-in_err-bytes-clause-fault : goal.returns-in_err-bytes-clause-fault
returns-in_err-bytes-clause-fault g c =
    passed_on c.from_residual.result (λ answer. answer) c.in_err-bytes.field-0.0
    (HoldsNone None c.args.level (g.S.Source.seen c.args.input.now) (g.S.Source.seen c.bytes_of_input.new.input)) c.from_residual.ensures.1
    (c.in_err-bytes.ensures.fault None c.args.level)
