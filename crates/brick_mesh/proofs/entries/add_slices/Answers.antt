use Rattle.std.proofs.Common.{◌∙◌, ◌*◌, ap, arith, length, sym}
use Rattle.brick_mesh.specs.Entries.{entries_from}
use Rattle.brick_mesh.proofs.Runs.{entries_all, entries_few, entries_none}
use Rattle.brick_mesh.proofs.entries.add_slices.Goals as goal

pub loop-z-init : goal.loop-z-init
loop-z-init g c = record {
  entries = c.requires.none ∙ sym (entries_none c.args.block.now 0 0 (λ k low high. absurd (omega arith)));
  counted = omega (arith, ap length c.requires.none);
}

pub returns-clause-entries : goal.returns-clause-entries
returns-clause-entries g c =
    c.loop-z.invariant.entries ∙ ap (entries_from c.args.block.now 0) (omega arith) ∙ entries_all c.args.block.now

pub returns-clause-bound : goal.returns-clause-bound
returns-clause-bound g c =
    omega (arith, c.loop-z.invariant.counted, ap length c.loop-z.invariant.entries, entries_few c.args.block.now 0 (64 * c.loop-z.z))
