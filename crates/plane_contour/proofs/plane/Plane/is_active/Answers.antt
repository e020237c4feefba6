use Rattle.std.proofs.Common.{sym, ◌∙◌, inl}
use Rattle.plane_contour.specs.Planes.{name_at}
use Rattle.plane_contour.proofs.Walks.{begun_is}
use Rattle.plane_contour.proofs.plane.Plane.is_active.Goals as goal

pub returns-then-is_some : goal.returns-then-is_some
returns-then-is_some c = (
  λ h. inl (sym (begun_is c.args.self.now (name_at c.args.self.now.sizes c.args.self.now.k c.args.edge) c.next.result c.next.ensures) ∙ sym c.if-is_some.ensures),
  λ h. c.if-is_some.true,
)
