use Rattle.std.proofs.Common.{◌∙◌}
use Rattle.mesh_text.proofs.Tables.{rest_put}
use Rattle.mesh_text.proofs.fours.set_rest.Goals as goal

pub returns : goal.returns
returns c =
    rest_put c.fours.inside.rests c.args.bytes.now c.set_all.new.room c.args.n c.args.at c.fours.invariant.1.1 c.requires.bound (c.set_all.ensures ∙ c.four_from-rest.ensures)
