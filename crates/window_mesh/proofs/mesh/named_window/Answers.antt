use Rattle.window_mesh.proofs.Meshes.{window_is_part, window_mesh}
use Rattle.window_mesh.proofs.mesh.named_window.Goals as goal

pub returns-clause-mesh : goal.returns-clause-mesh
returns-clause-mesh c =
    window_mesh c.args.store.now c.in_ok-volume.volume c.args.area.now c.args.level c.in_ok-mesh.mesh c.in_ok-volume.ensures.volume c.in_ok-mesh.ensures

pub returns-clause-part : goal.returns-clause-part
returns-clause-part c =
    window_is_part c.args.store.now c.args.area.now c.args.level c.requires.inside c.low.ensures.area c.in_ok-volume.ensures.thick
