use Rattle.cached_mesh.proofs.slices.clear_slices.Goals as goal

pub returns : goal.returns
returns c = c.no_slices.ensures
