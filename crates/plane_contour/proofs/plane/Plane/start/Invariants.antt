use Rattle.std.proofs.Common.{length}
use Rattle.iso_defs.specs.Contours.{trace}
use Rattle.plane_laws.specs.Lines.{backwards}
use Rattle.plane_contour.specs.Planes.{IsEdge, name_at, pairs_of}
use Rattle.plane_contour.proofs.Walks.{Returning}
use Rattle.plane_contour.proofs.plane.Plane.start.Given as goal

abbrev pub invariant-loop-previous : goal.invariant-loop-previous
invariant-loop-previous l = record {
  edge : IsEdge l.self.sizes l.at;
  returning : Returning l.self (name_at l.self.sizes l.self.k l.edge) (name_at l.self.sizes l.self.k l.at);
}

abbrev pub decreases-loop-previous : goal.decreases-loop-previous
decreases-loop-previous l =
    length (trace (backwards (pairs_of l.self)) (length (backwards (pairs_of l.self))) (name_at l.self.sizes l.self.k l.edge) (name_at l.self.sizes l.self.k l.at))
