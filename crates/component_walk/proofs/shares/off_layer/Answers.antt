use Rattle.measure.specs.Measures.{vector_of}
use Rattle.component_walk.proofs.ShareLaws.{difference_fits, difference_is}
use Rattle.component_walk.proofs.shares.off_layer.Goals as goal

pub overflow_sub-result : goal.overflow_sub-result
overflow_sub-result c = difference_fits c.args.six (vector_of c.args.area.now) c.requires.six c.requires.area

pub returns : goal.returns
returns c = difference_is c.args.six (vector_of c.args.area.now) c.requires.six c.requires.area
