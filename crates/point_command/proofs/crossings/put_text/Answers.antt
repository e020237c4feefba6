use Rattle.std.proofs.Common.{None}
use Rattle.command_terms.specs.Volumes.{IsNoVolume, volume_refusal}
use Rattle.command_terms.proofs.Passed.{passed_on}
use Rattle.command_terms.proofs.ReadVolumes.{no_volume}
use Rattle.point_command.proofs.crossings.put_text.Goals as goal

pub returns-in_err-put_points_of_file-clause-fault : goal.returns-in_err-put_points_of_file-clause-fault
returns-in_err-put_points_of_file-clause-fault g c =
    let fault = c.in_err-put_points_of_file.field-0.0 in
    passed_on c.from_residual.result volume_refusal fault (IsNoVolume None c.args.level c.args.bytes.items) c.from_residual.ensures.1
    (no_volume None c.args.level c.args.bytes.items fault c.in_err-put_points_of_file.ensures.fault)
