use Rattle.std.proofs.Common.{◌∙◌, sym}
use Rattle.std.proofs.lemmas.List.{map-id}
use Rattle.packed_samples.proofs.numbers.unpack.Goals as goal

pub returns : goal.returns
returns g c = sym (map-id c.copy_all.new.into) ∙ c.copy_all.ensures
