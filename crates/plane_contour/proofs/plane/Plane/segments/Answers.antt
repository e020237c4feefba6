use Rattle.std.proofs.Common.{◌≡◌, ℕ, List, ap, ◌∙◌, to_z, of_z, w64}
use Rattle.iso_defs.specs.Face.{value_segments}
use Rattle.iso_defs.specs.Grid.{index}
use Rattle.iso_defs.specs.Lists.{has_pair}
use Rattle.plane_laws.specs.Sides.{side_pairs}
use Rattle.plane_contour.specs.Planes.{field_of}
use Rattle.plane_contour.proofs.Planes.{corners_same, exact}
use Rattle.plane_contour.proofs.plane.Plane.segments.Goals as goal

pub returns : goal.returns
returns c =
    let e : value_segments (to_z w64 (of_z w64 c.value.result)) (to_z w64 (of_z w64 c.value-2.result)) (to_z w64 (of_z w64 c.value-3.result)) (to_z w64 (of_z w64 c.value-4.result))
    ≡ side_pairs c.args.self.now.sizes (field_of c.args.self.now) (index c.args.self.now.sizes c.args.x c.args.y c.args.self.now.k)
    = corners_same c.args.self.now.sizes (field_of c.args.self.now) c.args.self.now.k c.args.x c.args.y (to_z w64 (of_z w64 c.value.result)) (to_z w64 (of_z w64 c.value-2.result))
    (to_z w64 (of_z w64 c.value-3.result)) (to_z w64 (of_z w64 c.value-4.result))
    (exact c.value.result c.value.ensures.bound ∙ c.value.ensures.value) (exact c.value-2.result c.value-2.ensures.bound ∙ c.value-2.ensures.value) (exact c.value-3.result c.value-3.ensures.bound ∙ c.value-3.ensures.value) (exact c.value-4.result c.value-4.ensures.bound ∙ c.value-4.ensures.value) in
    λ i k hi hk. c.square_segments.ensures i k hi hk ∙ ap (λ (l : List (ℕ × ℕ)). has_pair l i k) e
