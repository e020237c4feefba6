use Rattle.stitch.proofs.store.StoreRows.new.Goals as goal

pub invariant_of-result : goal.invariant_of-result
invariant_of-result g c = record { known_are = c.begin.ensures; named = c.requires.named }
