use Rattle.std.proofs.Common.{◌≡◌}
use Rattle.std.proofs.lemmas.Result.{err_from_is_err_and}
use Rattle.iso_base.specs.Volume.{Volume}
use Rattle.voxel_list.specs.Areas.{Area}
use Rattle.flat_mesh.specs.Lattice.{Leveled, heights}
use Rattle.flat_mesh.specs.Mesh.{mesh_of}
use Rattle.window_mesh.proofs.Meshes.{window_is_part}
use Rattle.bench_core.specs.Windows.{mesh_in}
use Rattle.bench_core.proofs.WindowFiles.{inside_point, mesh_over, no_fault, window_cut, window_filed}
use Rattle.bench_core.proofs.windows.write_window.Goals as goal

pub returns-clause-window : goal.returns-clause-window
returns-clause-window g c =
    let v : Volume = c.args.store.now in
    let a : Area = c.args.window.now.area in
    let m : Leveled = c.in_ok-mesh.mesh in
    let mesh : mesh_of m.grid (heights m) ≡ mesh_in v c.args.level a
    = mesh_over v c.args.level a c.in_ok-samples.samples c.sizes.result m c.in_ok-samples.ensures.samples c.sizes.ensures.value c.in_ok-mesh.ensures in
    window_filed v c.args.level a c.args.window.now.format c.corner_of.result (mesh_of m.grid (heights m)) mesh c.corner_of.ensures.corner _ _ _ _
    (no_fault a _ c.in_ok-samples.ensures.thick) c.in_ok-write_file.ensures.file c.in_ok-write_file.ensures.tells

pub returns-in_err-write_file-clause-window : goal.returns-in_err-write_file-clause-window
returns-in_err-write_file-clause-window g c =
    let v : Volume = c.args.store.now in
    let a : Area = c.args.window.now.area in
    let m : Leveled = c.in_ok-mesh.mesh in
    let mesh : mesh_of m.grid (heights m) ≡ mesh_in v c.args.level a
    = mesh_over v c.args.level a c.in_ok-samples.samples c.sizes.result m c.in_ok-samples.ensures.samples c.sizes.ensures.value c.in_ok-mesh.ensures in
    let p = err_from_is_err_and c.from_residual-in_err-write_file.result c.from_residual-in_err-write_file.ensures.1 in
    rw (p.1, p.2) (window_cut v c.args.level a c.args.window.now.format c.corner_of.result (mesh_of m.grid (heights m)) mesh c.corner_of.ensures.corner _ _ _ _
    (no_fault a _ c.in_ok-samples.ensures.thick) c.in_err-write_file.ensures.file)

pub returns-clause-part : goal.returns-clause-part
returns-clause-part g c =
    let v : Volume = c.args.store.now in
    let a : Area = c.args.window.now.area in
    window_is_part v a c.args.level (inside_point v a.high c.requires.high) c.corner_of.ensures.area c.in_ok-samples.ensures.thick
