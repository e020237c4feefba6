use Rattle.std.proofs.Common.{refl, arith}
use Rattle.iso_defs.specs.Grid.{point_count}
use Rattle.iso_base.specs.SampleBytes.{samples_in}
use Rattle.raw_samples.proofs.SampleLaws.{each_in_kind, length_samples}
use Rattle.raw_samples.proofs.raw.RawVolume.new.Goals as goal

pub invariant_of-result : goal.invariant_of-result
invariant_of-result c =
    let a = c.args in
    let n = point_count a.sizes in
    record {
      room = c.requires;
      voxels = record {
        grid = c.nx.ensures.grid;
        count = length_samples a.kind a.big_endian a.bytes.now n;
        each = each_in_kind a.kind a.big_endian a.bytes.now n (samples_in a.kind a.big_endian a.bytes.now n) (λ i. omega (arith, c.type_inv.bytes i)) refl;
      };
    }
