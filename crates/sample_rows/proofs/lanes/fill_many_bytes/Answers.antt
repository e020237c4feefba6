use Rattle.std.proofs.Common.{◌*◌, ◌-◌, ◌∙◌, length, arith}
use Rattle.flat_mesh.specs.Rows.{byte_of}
use Rattle.sample_rows.proofs.SixteenLanes.{sixteen_more}
use Rattle.sample_rows.proofs.lanes.fill_many_bytes.Goals as goal

pub loop-sixteen-preserved : goal.loop-sixteen-preserved
loop-sixteen-preserved c =
    let at = 16 * c.loop-sixteen.sixteen in
    let few = c.loop-sixteen-test.true in
    record {
      count = c.fill_sixteen.auto.bytes ∙ c.loop-sixteen.invariant.count;
      done = λ x low.
          sixteen_more (byte_of c.args.near.now c.args.up.now c.args.far.now c.args.both.now) c.fill_sixteen.new.bytes at
          (λ x low. c.fill_sixteen.ensures.before x low ∙ c.loop-sixteen.invariant.done x low)
          (λ k low. c.fill_sixteen.ensures.there k low ∙ c.bytes_at.ensures k low)
          x (omega (arith, low));
      behind = λ x far. c.fill_sixteen.ensures.behind x (omega (arith, far, few, c.loop-sixteen.auto.sixteen-end)) ∙ c.loop-sixteen.invariant.behind x far;
    }

pub returns-clause-bytes : goal.returns-clause-bytes
returns-clause-bytes c x low =
    let start = length c.args.near.now - 1 - 16 in
    let all = c.loop-sixteen-test.false in
    sixteen_more (byte_of c.args.near.now c.args.up.now c.args.far.now c.args.both.now) c.fill_sixteen-2.new.bytes start
    (λ x low. c.fill_sixteen-2.ensures.before x low ∙ c.loop-sixteen.invariant.done x (omega (arith, low, all, c.loop-sixteen.auto.sixteen-end, c.requires.many)))
    (λ k low. c.fill_sixteen-2.ensures.there k low ∙ c.bytes_at-2.ensures k low)
    x (omega (arith, low, c.requires.many))
