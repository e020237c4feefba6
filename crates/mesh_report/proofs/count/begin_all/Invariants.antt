use Rattle.std.proofs.Common.{◌≡◌, ℕ, List, map}
use Rattle.iso_defs.specs.Cell.{Triangle}
use Rattle.iso_base.specs.Triangles.{triangles_of}
use Rattle.mesh_report.specs.Places.{ArePlaces}
use Rattle.mesh_report.specs.Tallies.{nothing_of}
use Rattle.mesh_report.proofs.BegunLaws.{components_below}
use Rattle.mesh_report.proofs.count.begin_all.Given as goal

abbrev pub invariant-loop-v : goal.invariant-loop-v
invariant-loop-v l =
    let n : ℕ = l.mesh.vertex_count in
    let ts : List Triangle = triangles_of l.mesh.triangles in
    record {
      tallies : l.tallies.items ≡ map nothing_of (components_below n ts l.v);
      placed : ArePlaces (components_below n ts l.v) l.places;
    }
