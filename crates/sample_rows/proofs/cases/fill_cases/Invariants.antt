use Rattle.std.proofs.Common.{◌≡◌, ◌*◌, length}
use Rattle.sample_rows.specs.Cases.{ArePut}
use Rattle.sample_rows.proofs.cases.fill_cases.Given as goal

abbrev pub invariant-loop-many : goal.invariant-loop-many
invariant-loop-many g l = record {
  count : length l.cases ≡ (g.H.Heights.leveled l.field).grid.nx;
  put : ArePut (g.H.Heights.leveled l.field) l.y l.z (64 * l.many) l.cases l.counts;
}
