use Rattle.std.proofs.Common.{◌≡◌, ℕ, ◌<◌, ◌++◌, ◌||◌, false, get_or, length, map, All}
use Rattle.iso_defs.specs.Contours.{trace, line_from}
use Rattle.iso_defs.specs.Lists.{is_in}
use Rattle.plane_laws.specs.Sides.{slot_name}
use Rattle.plane_laws.proofs.Steps.{Going}
use Rattle.plane_contour.specs.Planes.{IsActive, IsEdge, field_of, name_at, pairs_of}
use Rattle.plane_contour.specs.Texts.{IsNear, point_at}
use Rattle.plane_contour.proofs.plane.Plane.follow.Given as goal

abbrev pub invariant-loop-next : goal.invariant-loop-next
invariant-loop-next l = record {
  edge : IsEdge l.self.sizes l.edge;
  active : IsActive (pairs_of l.self) (name_at l.self.sizes l.self.k l.edge);
  going : Going (pairs_of l.self) (name_at l.self.sizes l.self.k l.fn.start) (name_at l.self.sizes l.self.k l.edge);
  points : l.points.items ++ map (point_at l.self.sizes (field_of l.self)) (trace (pairs_of l.self) (length (pairs_of l.self)) (name_at l.self.sizes l.self.k l.fn.start) (name_at l.self.sizes l.self.k l.edge))
      ≡ l.initial.points.items ++ map (point_at l.self.sizes (field_of l.self)) (line_from (pairs_of l.self) (name_at l.self.sizes l.self.k l.fn.start));
  near : All IsNear l.points.items;
  marks : (t : ℕ) → t < length l.initial.seen
      → (get_or l.seen t false || is_in (slot_name l.self.sizes l.self.k t) (trace (pairs_of l.self) (length (pairs_of l.self)) (name_at l.self.sizes l.self.k l.fn.start) (name_at l.self.sizes l.self.k l.edge)))
      ≡ (get_or l.initial.seen t false || is_in (slot_name l.self.sizes l.self.k t) (line_from (pairs_of l.self) (name_at l.self.sizes l.self.k l.fn.start)));
}

abbrev pub decreases-loop-next : goal.decreases-loop-next
decreases-loop-next l = length (trace (pairs_of l.self) (length (pairs_of l.self)) (name_at l.self.sizes l.self.k l.fn.start) (name_at l.self.sizes l.self.k l.edge))
