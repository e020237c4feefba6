use Rattle.std.proofs.lemmas.List.Elements.{All-replicate}
use Rattle.cached_mesh.specs.Slices.{AreNone}
use Rattle.cached_mesh.proofs.slices.no_slices.Goals as goal

pub returns : goal.returns
returns c = All-replicate AreNone 256 c.none.result c.none.ensures
