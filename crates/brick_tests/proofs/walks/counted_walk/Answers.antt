use Rattle.std.proofs.Common.{refl}
use Rattle.brick_rows.proofs.LoopCases.{own_loops}
use Rattle.brick_tests.proofs.walks.counted_walk.Goals as goal

pub write_ply-requires-clause-named : goal.write_ply-requires-clause-named
write_ply-requires-clause-named g c = record {
  grid = refl;
  each = λ brick y z active row. own_loops (record { grid = c.args.store.now.grid; samples = c.args.store.now.samples; level = c.args.level }) brick y z;
  counts = λ brick active. refl;
}

pub write_obj-requires-clause-named : goal.write_obj-requires-clause-named
write_obj-requires-clause-named g c = record {
  grid = refl;
  each = λ brick y z active row. own_loops (record { grid = c.args.store.now.grid; samples = c.args.store.now.samples; level = c.args.level }) brick y z;
  counts = λ brick active. refl;
}
