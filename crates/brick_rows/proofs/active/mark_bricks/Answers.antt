use Rattle.std.proofs.Common.{◌≡◌, ◌+◌, ◌<◌, length, sym, subst, add-zero, arith}
use Rattle.flat_mesh.specs.Lattice.{heights}
use Rattle.brick_rows.specs.Bricks.{AreNextTo, IsNextFrom}
use Rattle.brick_rows.proofs.NextBricks.{note_more}
use Rattle.brick_rows.proofs.active.mark_bricks.Goals as goal

pub loop-x-init : goal.loop-x-init
loop-x-init c =
    let v = c.args.field.now in
    record {
      next = subst (λ n. IsNextFrom v.grid (heights v) n c.next_active-next.result) (sym (add-zero c.args.first)) c.next_active-next.ensures;
      noted = record { each = λ x low known. absurd (omega arith) };
    }

pub loop-x-preserved : goal.loop-x-preserved
loop-x-preserved c =
    let v = c.args.field.now in
    let behind : c.args.first + c.loop-x.x + 1 ≡ c.args.first + (c.loop-x.x + 1) = omega arith in
    let room : c.loop-x.x < length c.loop-x.next_from
    = omega (arith, c.loop-x-test.true, c.requires.count, c.loop-x.auto.x-end, c.loop-x.auto.next_from, c.requires.room) in
    record {
      next = subst (λ n. IsNextFrom v.grid (heights v) n c.next_behind-next.result) behind c.next_behind-next.ensures;
      noted = note_more v c.args.first c.loop-x.x c.loop-x.next c.loop-x.next_from room c.loop-x.invariant.next c.loop-x.invariant.noted;
    }

pub returns : goal.returns
returns c =
    let end : c.loop-x.x ≡ c.args.count = omega (arith, c.loop-x-test.false, c.loop-x.auto.x-end) in
    subst (λ n. AreNextTo c.args.field.now c.args.first n c.loop-x.next_from) end c.loop-x.invariant.noted
