use Rattle.std.proofs.Common.{refl}
use Rattle.slab_command.proofs.run.tell_text.Goals as goal

pub returns : goal.returns
returns g c = λ input store.
    record { told = c.tell.result; answer_is = c.from.ensures; text_is = c.tell.ensures input; shelf = refl }
