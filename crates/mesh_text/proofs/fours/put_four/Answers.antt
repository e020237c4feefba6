use Rattle.std.proofs.Common.{◌∙◌, ◌++◌, ap, take}
use Rattle.mesh_text.proofs.fours.put_four.Goals as goal

pub returns-clause-written : goal.returns-clause-written
returns-clause-written c =
    c.put_four_bytes.ensures ∙ ap (λ l. take c.args.at c.args.room.now ++ l) (c.fours.invariant.0.each c.args.n c.requires.bound)
