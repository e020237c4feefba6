use Rattle.std.proofs.Common.{◌∙◌}
use Rattle.std.proofs.lemmas.Result.{IfOk-weaker}
use Rattle.raw_samples.proofs.Parts.{part_is}
use Rattle.raw_samples.proofs.raw.part_of.Goals as goal

pub returns : goal.returns
returns g c = IfOk-weaker c.each_of.result _ _ (λ v e. e ∙ part_is (g.S.Samples.list c.args.samples.now) c.args.start c.args.count c.requires.room) c.each_of.ensures
