use Rattle.std.proofs.Common.{◌≡◌, ◌<◌, true, refl, sym, ◌∙◌, subst, Some, arith, eqb, get_or, length}
use Rattle.std.proofs.lemmas.Bool.{eq-eqb, eqb-true}
use Rattle.std.proofs.lemmas.List.Quantifiers.{position-Some}
use Rattle.plane_laws.proofs.Places.{alike_ends, ends_none}
use Rattle.plane_laws.specs.Sides.{HasSide}
use Rattle.plane_contour.specs.Planes.{IsPrevious, field_of, name_at}
use Rattle.plane_contour.proofs.Planes.{no_side, previous_found, some_previous, beq_same, never}
use Rattle.plane_contour.proofs.plane.Plane.previous.Goals as goal

pub returns-then-lower-upper : goal.returns-then-lower-upper
returns-then-lower-upper c =
    alike_ends c.args.self.now.sizes (field_of c.args.self.now) c.args.self.now.k (name_at c.args.self.now.sizes c.args.self.now.k c.args.edge)
    (sym c.signs-lower.ensures.lower ∙ (beq_same c.signs-lower.result.0 c.signs-lower.result.1 c.if-lower-upper.true ∙ c.signs-lower.ensures.upper))

pub returns-in_err-side : goal.returns-in_err-side
returns-in_err-side c =
    subst (IsPrevious c.args.self.now (name_at c.args.self.now.sizes c.args.self.now.k c.args.edge)) (sym c.from_residual.ensures)
    (ends_none c.args.self.now.sizes (field_of c.args.self.now) c.args.self.now.k (name_at c.args.self.now.sizes c.args.self.now.k c.args.edge)
    (λ h. c.in_err-side.ensures.none (subst (HasSide c.args.self.now.sizes c.args.self.now.k (name_at c.args.self.now.sizes c.args.self.now.k c.args.edge)) (sym c.signs-lower.ensures.lower)
    (no_side c.args.self.now.sizes (field_of c.args.self.now) c.args.self.now.k (name_at c.args.self.now.sizes c.args.self.now.k c.args.edge) _ h))))

pub returns-in_err-start : goal.returns-in_err-start
returns-in_err-start c =
    absurd (some_previous c.args.self.now c.requires.plane c.args.edge c.in_ok-side.side c.signs-lower.result.0 c.signs-lower.result.0 c.signs-lower.result.1
    c.in_ok-side.ensures.found c.signs-lower.ensures.lower c.signs-lower.ensures.upper c.if-lower-upper.false c.segments.result.next c.segments.ensures refl
    (λ start h f. never (λ e. eqb e c.in_ok-side.side.number) c.segments.result.next start (sym c.in_err-start.ensures) (omega arith) (eq-eqb _ _ f)))

pub returns : goal.returns
returns c =
    let p : (c.in_ok-start.start < length c.segments.result.next) × (eqb (get_or c.segments.result.next c.in_ok-start.start 0) c.in_ok-side.side.number ≡ true) × _
    = position-Some (λ e. eqb e c.in_ok-side.side.number) c.segments.result.next c.in_ok-start.start 0 (sym c.in_ok-start.ensures) in
    subst (λ n. IsPrevious c.args.self.now (name_at c.args.self.now.sizes c.args.self.now.k c.args.edge) (Some n)) (sym c.side_edge.ensures)
    (previous_found c.args.self.now c.requires.plane c.args.edge c.in_ok-side.side c.signs-lower.result.0 c.signs-lower.result.0 c.signs-lower.result.1
    c.in_ok-side.ensures.found c.signs-lower.ensures.lower c.signs-lower.ensures.upper c.if-lower-upper.false c.segments.result.next c.segments.ensures c.in_ok-start.start (omega arith) (eqb-true _ _ p.1))
