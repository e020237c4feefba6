use Rattle.std.proofs.Common.{◌≡◌, ◌-◌, length, w64}
use Rattle.std.specs.Int.{trailing_zeros}
use Rattle.sample_rows.specs.Cases.{AreCasesBut}
use Rattle.sample_rows.proofs.cases.fill_unclear.Given as goal

abbrev pub invariant-loop-rest : goal.invariant-loop-rest
invariant-loop-rest g l = record {
  count : length l.cases ≡ (g.H.Heights.leveled l.field).grid.nx;
  put : AreCasesBut (g.H.Heights.leveled l.field) l.low.y l.low.z l.low.x l.rest l.cases;
}

abbrev pub decreases-loop-rest : goal.decreases-loop-rest
decreases-loop-rest g l = 64 - trailing_zeros w64 l.rest
