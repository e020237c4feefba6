use Rattle.std.proofs.Common.{◌∙◌}
use Rattle.plane_contour.specs.Planes.{name_at}
use Rattle.plane_contour.proofs.Walks.{ended_is}
use Rattle.plane_contour.proofs.plane.Plane.is_ended.Goals as goal

pub returns : goal.returns
returns c = c.is_some.ensures ∙ ended_is c.args.self.now (name_at c.args.self.now.sizes c.args.self.now.k c.args.edge) c.previous.result c.previous.ensures
