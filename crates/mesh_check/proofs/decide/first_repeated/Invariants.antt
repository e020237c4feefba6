use Rattle.std.proofs.Common.{ℕ, ◌<◌, get_or, []}
use Rattle.iso_defs.specs.Manifold.{HasThreeCorners}
use Rattle.iso_base.specs.Triangles.{triangle_of}
use Rattle.mesh_check.proofs.decide.first_repeated.Given as goal

abbrev pub invariant-loop-t : goal.invariant-loop-t
invariant-loop-t l = (k : ℕ) → k < l.t → HasThreeCorners (triangle_of (get_or l.triangles k []))
