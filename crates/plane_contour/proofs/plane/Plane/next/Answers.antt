use Rattle.std.proofs.Common.{refl, sym, ◌∙◌, subst, Some}
use Rattle.plane_laws.proofs.Places.{alike_begins, begins_none}
use Rattle.plane_laws.specs.Sides.{HasSide}
use Rattle.plane_contour.specs.Planes.{IsNext, field_of, name_at}
use Rattle.plane_contour.proofs.Planes.{no_side, next_found, beq_same}
use Rattle.plane_contour.proofs.plane.Plane.next.Goals as goal

pub returns-then-lower-upper : goal.returns-then-lower-upper
returns-then-lower-upper c =
    alike_begins c.args.self.now.sizes (field_of c.args.self.now) c.args.self.now.k (name_at c.args.self.now.sizes c.args.self.now.k c.args.edge)
    (sym c.signs-lower.ensures.lower ∙ (beq_same c.signs-lower.result.0 c.signs-lower.result.1 c.if-lower-upper.true ∙ c.signs-lower.ensures.upper))

pub returns-in_err-side : goal.returns-in_err-side
returns-in_err-side c =
    subst (IsNext c.args.self.now (name_at c.args.self.now.sizes c.args.self.now.k c.args.edge)) (sym c.from_residual.ensures)
    (begins_none c.args.self.now.sizes (field_of c.args.self.now) c.args.self.now.k (name_at c.args.self.now.sizes c.args.self.now.k c.args.edge)
    (λ h. c.in_err-side.ensures.none (subst (HasSide c.args.self.now.sizes c.args.self.now.k (name_at c.args.self.now.sizes c.args.self.now.k c.args.edge)) (sym c.signs-lower.ensures.upper)
    (no_side c.args.self.now.sizes (field_of c.args.self.now) c.args.self.now.k (name_at c.args.self.now.sizes c.args.self.now.k c.args.edge) _ h))))

pub returns : goal.returns
returns c =
    subst (λ n. IsNext c.args.self.now (name_at c.args.self.now.sizes c.args.self.now.k c.args.edge) (Some n)) (sym c.side_edge.ensures)
    (next_found c.args.self.now c.requires.plane c.args.edge c.in_ok-side.side c.signs-lower.result.1 c.signs-lower.result.0 c.signs-lower.result.1
    c.in_ok-side.ensures.found c.signs-lower.ensures.lower c.signs-lower.ensures.upper c.if-lower-upper.false c.segments.result.next c.segments.ensures refl)
