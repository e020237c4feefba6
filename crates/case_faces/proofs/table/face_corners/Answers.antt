use Rattle.case_faces.proofs.Tables.{all_are, all_low}
use Rattle.case_faces.proofs.table.face_corners.Goals as goal

pub returns-clause-value : goal.returns-clause-value
returns-clause-value c = all_are

pub returns-clause-low : goal.returns-clause-low
returns-clause-low c = all_low
