use Rattle.std.proofs.lemmas.Bool.{eqb-true}
use Rattle.sample_rows.proofs.SameBytes.{each_of_many, not_twice}
use Rattle.sample_rows.proofs.signs.are_many.Goals as goal

pub returns : goal.returns
returns c same k low = each_of_many c.args.bytes.now c.args.from c.args.byte k c.requires low (eqb-true _ _ (not_twice _ same))
