use Rattle.component_labels.specs.Chains.{AreChained}
use Rattle.component_labels.proofs.chains.chain_all.Given as goal

abbrev pub invariant-loop-at : goal.invariant-loop-at
invariant-loop-at l = AreChained l.pairs l.at l.last l.before
