use Rattle.iso_base.proofs.VolumeLaws.{grid_is_solid}
use Rattle.mesh_laws.proofs.UnitFaces.{pair_determines_face as one_face}
use Rattle.fan_laws.proofs.grids.pair_determines_face.Goals as goal

pub returns : goal.returns
returns c = λ p m r n ne pa pb ra rb.
    one_face c.args.sizes.now p m r n c.args.a.0 c.args.b.0 (grid_is_solid c.nx.ensures.grid) pa.0 ra.0 pa.1 ra.1 ne pa.2 pb.2 ra.2 rb.2
