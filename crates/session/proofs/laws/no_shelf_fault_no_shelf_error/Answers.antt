use Rattle.session.proofs.Sure.{no_errors, surely}
use Rattle.session.proofs.laws.no_shelf_fault_no_shelf_error.Goals as goal

pub returns : goal.returns
returns c = record {
  none = λ before now replies still counts. no_errors before now replies still counts;
  sure = λ s s1 f f1 lines replies followed none. surely lines s s1 f f1 replies none followed;
}
