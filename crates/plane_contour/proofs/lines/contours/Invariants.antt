use Rattle.std.proofs.Common.{◌≡◌, ℕ, ◌*◌, ◌<◌, false, get_or, map, vec_len}
use Rattle.plane_laws.specs.Sides.{slot_name}
use Rattle.plane_laws.proofs.Scan.{covered}
use Rattle.plane_contour.specs.Planes.{plane_size, field_of}
use Rattle.plane_contour.specs.Drawn.{drawn}
use Rattle.plane_contour.proofs.Scanned.{met_before}
use Rattle.plane_contour.proofs.lines.contours.Given as goal

abbrev pub invariant-loop-number : goal.invariant-loop-number
invariant-loop-number l = record {
  count : vec_len l.seen ≡ 2 * plane_size l.plane.sizes;
  lines : l.lines.items ≡ map (drawn l.plane.sizes (field_of l.plane)) (met_before l.plane l.number);
  marks : (t : ℕ) → t < 2 * plane_size l.plane.sizes → get_or l.seen.items t false ≡ covered (met_before l.plane l.number) (slot_name l.plane.sizes l.plane.k t);
}
