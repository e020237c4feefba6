use Rattle.std.proofs.Common.{◌≡◌, ◌≤◌, ◌+◌, ◌-◌, ◌*◌, map}
use Rattle.arrayvec.specs.ArrayVec.{array_vec_len}
use Rattle.brick_store.specs.Holding.{brick_at, first_holding}
use Rattle.brick_store.specs.declared.numbering.BrickId.{BrickId}
use Rattle.brick_store.proofs.numbering.push_slice.Given as goal

abbrev pub invariant-loop-y : goal.invariant-loop-y
invariant-loop-y l = record {
  bricks : map (λ (b : BrickId). b.0) l.held.items ≡ first_holding l.sizes l.fn.p (brick_at l.sizes 0 l.y l.z);
  len : array_vec_len l.held ≤ array_vec_len l.fn.held + 2 * (l.y - l.first_y);
}
