use Rattle.part_laws.proofs.BorderLaws.{areas_are_none, borders_are_none, volumes_are_one}
use Rattle.part_laws.proofs.borders.parts_without_border.Goals as goal

pub returns : goal.returns
returns c = record { areas = areas_are_none; volumes = volumes_are_one; closed = λ v level is pad. borders_are_none v level is pad }
