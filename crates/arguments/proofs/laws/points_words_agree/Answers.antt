use Rattle.arguments.proofs.PointsWords.{asked_there, taken_there}
use Rattle.arguments.proofs.laws.points_words_agree.Goals as goal

pub returns : goal.returns
returns c = λ words level. (asked_there words level, taken_there words level)
