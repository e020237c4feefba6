use Rattle.mesh_laws.proofs.PlaneLaw.{plane_of_mesh as plane_law}
use Rattle.fan_laws.proofs.grids.plane_of_mesh.Goals as goal

pub returns : goal.returns
returns c = λ g s k thick low. plane_law g s k thick low
