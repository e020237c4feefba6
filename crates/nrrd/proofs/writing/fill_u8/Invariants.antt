use Rattle.std.proofs.Common.{◌≡◌, ◌*◌, take, map}
use Rattle.iso_base.specs.declared.kind.SampleKind.TheVariants.{U8}
use Rattle.nrrd.specs.Writing.{samples_text}
use Rattle.nrrd.proofs.writing.fill_u8.Given as goal

abbrev pub invariant-loop-i : goal.invariant-loop-i
invariant-loop-i g l = take (1 * l.i) l.room ≡ samples_text U8 (take l.i (map g.T.Packed.value l.piece))
