use Rattle.std.proofs.Common.{arith}
use Rattle.std.proofs.lemmas.List.Elements.{All-replicate}
use Rattle.cached_mesh.specs.Held.{IsNoSlice}
use Rattle.cached_mesh.proofs.held.no_signs.Goals as goal

pub returns : goal.returns
returns c = All-replicate IsNoSlice 256 c.none.result (omega (arith, c.none.ensures))
