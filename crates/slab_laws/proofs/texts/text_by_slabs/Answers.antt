use Rattle.slab_laws.proofs.TextBySlabs.{ply_by_slabs, obj_by_slabs}
use Rattle.slab_laws.proofs.Existing.{cuts_are_slabs}
use Rattle.slab_laws.proofs.texts.text_by_slabs.Goals as goal

pub returns : goal.returns
returns c = record {
  ply = λ g s padded bs solid slabs. ply_by_slabs g solid s bs slabs padded;
  obj = λ g s padded bs solid slabs. obj_by_slabs g solid s bs slabs padded;
  cuts = λ g s owned fits. cuts_are_slabs g s owned fits;
}
