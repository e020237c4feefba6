use Rattle.part_laws.proofs.Told.{total_told, part_told}
use Rattle.part_laws.proofs.lists.edges_by_faces.Goals as goal

pub returns : goal.returns
returns c = record { whole = λ n ts h. total_told n ts h; parts = λ n ts k h. part_told n ts h k }
