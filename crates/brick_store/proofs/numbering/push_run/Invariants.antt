use Rattle.std.proofs.Common.{◌≡◌, ◌+◌, ◌-◌, ◌++◌, map}
use Rattle.std.specs.List.{range_with_len}
use Rattle.arrayvec.specs.ArrayVec.{array_vec_len}
use Rattle.brick_store.specs.declared.numbering.BrickId.{BrickId}
use Rattle.brick_store.proofs.numbering.push_run.Given as goal

abbrev pub invariant-loop-brick : goal.invariant-loop-brick
invariant-loop-brick l = record {
  bricks : map (λ (b : BrickId). b.0) l.held.items ≡ map (λ (b : BrickId). b.0) l.fn.held.items ++ range_with_len l.from (l.brick - l.from);
  len : array_vec_len l.held ≡ array_vec_len l.fn.held + (l.brick - l.from);
}
