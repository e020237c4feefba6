use Rattle.std.proofs.lemmas.Slice.Eq.{strip_prefix_is}
use Rattle.std.proofs.lemmas.Bool.Decides.{Decides-eqb}
use Rattle.arguments.proofs.Prefixes.{after_prefix_is}
use Rattle.arguments.proofs.options.after.Goals as goal

pub returns : goal.returns
returns c = after_prefix_is c.args.prefix.now c.args.text.now c.strip_prefix.result (strip_prefix_is Decides-eqb c.args.text.now c.args.prefix.now c.strip_prefix.result c.strip_prefix.ensures.cases)
