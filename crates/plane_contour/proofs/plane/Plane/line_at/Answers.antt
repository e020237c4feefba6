use Rattle.std.proofs.Common.{◌≡◌, ℕ, refl, sym, ap, ◌∙◌, subst, map, ◌++◌}
use Rattle.iso_defs.specs.Lists.{ends}
use Rattle.iso_defs.specs.Contours.{line_from}
use Rattle.plane_laws.specs.Lines.{start_of}
use Rattle.plane_laws.specs.Sides.{slot_name}
use Rattle.plane_laws.proofs.Homes.{start_active}
use Rattle.plane_laws.proofs.Squares.{single}
use Rattle.plane_contour.specs.Planes.{IsActive, AreMarked, field_of, line_at, name_at, pairs_of}
use Rattle.plane_contour.specs.Texts.{DrawnLine, point_at}
use Rattle.plane_contour.proofs.plane.Plane.line_at.Goals as goal

pub follow-requires-clause-active : goal.follow-requires-clause-active
follow-requires-clause-active c =
    let e : ℕ = name_at c.args.self.now.sizes c.args.self.now.k c.in-Some.edge in
    subst (IsActive (pairs_of c.args.self.now)) (sym c.start-start.ensures.name)
    (start_active (pairs_of c.args.self.now) (single c.args.self.now.sizes (field_of c.args.self.now) c.args.self.now.k) e (c.if-not-is_active.ensures.0 refl))

pub returns : goal.returns
returns c =
    let name : name_at c.args.self.now.sizes c.args.self.now.k c.in-Some.edge ≡ slot_name c.args.self.now.sizes c.args.self.now.k c.args.number = c.in-Some.ensures.1 in
    let start : name_at c.args.self.now.sizes c.args.self.now.k c.start-start.result ≡ start_of (pairs_of c.args.self.now) (slot_name c.args.self.now.sizes c.args.self.now.k c.args.number)
    = c.start-start.ensures.name ∙ ap (start_of (pairs_of c.args.self.now)) name in
    let cycle : c.is_ended-cycle.result ≡ ends (pairs_of c.args.self.now) (name_at c.args.self.now.sizes c.args.self.now.k c.start-start.result) = c.is_ended-cycle.ensures in
    let points : c.follow.new.points.items ≡ map (point_at c.args.self.now.sizes (field_of c.args.self.now)) (line_from (pairs_of c.args.self.now) (name_at c.args.self.now.sizes c.args.self.now.k c.start-start.result))
    = c.in_ok-follow.ensures.points ∙ ap (λ l. l ++ map (point_at c.args.self.now.sizes (field_of c.args.self.now)) (line_from (pairs_of c.args.self.now) (name_at c.args.self.now.sizes c.args.self.now.k c.start-start.result))) c.new-points.ensures.items in
    let line : c.new.result ≡ line_at c.args.self.now (name_at c.args.self.now.sizes c.args.self.now.k c.start-start.result)
    = c.new.ensures ∙ (ap (λ z. let l : DrawnLine = (z, c.follow.new.points.items) in l) cycle
    ∙ ap (λ z. let l : DrawnLine = (ends (pairs_of c.args.self.now) (name_at c.args.self.now.sizes c.args.self.now.k c.start-start.result), z) in l) points) in (
      c.if-seen-number.false,
      subst (IsActive (pairs_of c.args.self.now)) name (c.if-not-is_active.ensures.0 refl),
      line ∙ ap (line_at c.args.self.now) start,
      subst (λ d. AreMarked c.args.self.now d c.args.seen.now c.follow.new.seen) start c.in_ok-follow.ensures.marks,
    )
