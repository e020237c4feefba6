use Rattle.std.proofs.Common.{◌≡◌, ℕ, List, map}
use Rattle.iso_defs.specs.Cell.{Triangle}
use Rattle.iso_base.specs.Triangles.{triangles_of}
use Rattle.mesh_report.specs.Meetings.{AreClear}
use Rattle.mesh_report.specs.Report.{components}
use Rattle.mesh_report.specs.Tallies.{tally_of, tally_of_all}
use Rattle.mesh_report.proofs.count.count_all.Given as goal

abbrev pub invariant-loop-v : goal.invariant-loop-v
invariant-loop-v l =
    let n : ℕ = l.mesh.vertex_count in
    let ts : List Triangle = triangles_of l.mesh.triangles in
    record {
      clear : AreClear l.marks;
      total : l.total ≡ tally_of_all n ts l.v;
      each : l.tallies ≡ map (tally_of n ts l.v) (components n ts);
    }
