use Rattle.std.proofs.Common.{◌≡◌, ◌+◌, ◌*◌, ◌∙◌, ap, arith, subst}
use Rattle.iso_defs.specs.Grid.{Grid}
use Rattle.sample_rows.specs.Kept.{AreKept}
use Rattle.sample_rows.proofs.row_storage.add_slice.Goals as goal

pub loop-y-preserved : goal.loop-y-preserved
loop-y-preserved g c =
    let v = c.args.field.now in
    let next : c.loop-y.y + v.grid.ny * c.args.z + 1 ≡ c.loop-y.y + 1 + v.grid.ny * c.args.z = omega arith in
    record {
      kept = subst (λ n. AreKept v n c.add_one.new.kept) next c.in_ok-add_one.ensures.kept;
      buffers = c.in_ok-add_one.ensures.buffers;
    }

pub returns-clause-kept : goal.returns-clause-kept
returns-clause-kept g c =
    let v = c.args.field.now in
    let ny : c.ny-y-end.result ≡ v.grid.ny = c.ny-y-end.ensures.value ∙ ap (λ (g : Grid). g.ny) c.sizes-sizes.ensures.value in
    let end : c.loop-y.y ≡ v.grid.ny = omega (arith, c.loop-y-test.false, c.loop-y.auto.y-end, ny) in
    let all : c.loop-y.y + v.grid.ny * c.args.z ≡ v.grid.ny * (c.args.z + 1) = ap (λ y. y + v.grid.ny * c.args.z) end ∙ omega arith in
    subst (λ n. AreKept v n c.loop-y.kept) all c.loop-y.invariant.kept
