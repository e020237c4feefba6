use Rattle.std.proofs.Common.{◌≡◌, None}
use Rattle.iso_base.specs.declared.kind.SampleKind.TheVariants.{U8}
use Rattle.surface_tests.proofs.measures.fill_shape.Given as goal

abbrev pub invariant-loop-i : goal.invariant-loop-i
invariant-loop-i l = record {
  grid : l.volume.grid ≡ l.sizes;
  kind : l.volume.kind ≡ U8;
  pad : l.volume.pad ≡ None;
}
