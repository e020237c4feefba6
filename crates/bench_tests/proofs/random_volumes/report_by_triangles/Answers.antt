use Rattle.iso_base.specs.Volume.{field}
use Rattle.bench_tests.proofs.Triangles.{all_different, few_triangles}
use Rattle.bench_tests.proofs.random_volumes.report_by_triangles.Goals as goal

pub report-requires-clause-count : goal.report-requires-clause-count
report-requires-clause-count c =
    let v = c.args.volume.now in
    few_triangles v.grid (field v.samples c.args.level) c.in_ok-triangles.triangles.triangles c.sizes.ensures.volume.grid c.in_ok-triangles.ensures.triangles
    (c.mesh_sizes.ensures.triangles v.grid (field v.samples c.args.level))

pub report-requires-clause-different : goal.report-requires-clause-different
report-requires-clause-different c =
    all_different c.in_ok-triangles.triangles.triangles _ c.in_ok-triangles.ensures.triangles c.one_fan.ensures.surface.manifold.corners
