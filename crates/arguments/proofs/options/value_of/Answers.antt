use Rattle.std.proofs.Common.{arith}
use Rattle.std.proofs.lemmas.Grind.{common_steps}
use Rattle.std.proofs.lemmas.List.Elements.{filter_map-append}
use Rattle.arguments.specs.Words.{values}
use Rattle.arguments.proofs.options.value_of.Goals as goal

pub loop-word-preserved : goal.loop-word-preserved
unfolding values
loop-word-preserved c = grind (arith, common_steps, filter_map-append)
