use Rattle.std.proofs.Common.{◌≡◌, subst, arith}
use Rattle.component_walk.specs.Passed.{HasLeft}
use Rattle.component_walk.proofs.LeftLaws.{can_more, has_more, has_none, room_same}
use Rattle.component_walk.proofs.leaving.leave_edges.Goals as goal

pub loop-at-init : goal.loop-at-init
loop-at-init c = record { most = omega arith; left = has_none c.args.place c.args.labels.now c.args.edges.now }

pub leave_some-requires-clause-place : goal.leave_some-requires-clause-place
leave_some-requires-clause-place c =
    let r = room_same c.args.place c.args.count c.loop-at.at c.args.labels.now c.loop-at.labels c.args.edges.now c.loop-at.edges c.loop-at.invariant.most c.requires.state c.loop-at.invariant.left in
    omega (arith, r, c.requires.place, c.loop-at-test.true)

pub leave_some-requires-clause-state : goal.leave_some-requires-clause-state
leave_some-requires-clause-state c =
    can_more c.args.place c.args.count c.loop-at.at c.min-some.result c.args.labels.now c.loop-at.labels c.args.edges.now c.loop-at.edges c.requires.place
    (omega (arith, c.loop-at-test.true)) (omega (arith, c.loop-at-test.true)) c.requires.state c.loop-at.invariant.left

pub loop-at-preserved : goal.loop-at-preserved
loop-at-preserved c = record {
  most = omega (arith, c.loop-at-test.true);
  left = has_more c.args.place c.loop-at.at c.min-some.result c.args.labels.now c.loop-at.labels c.leave_some.new.labels c.args.edges.now c.loop-at.edges c.leave_some.new.edges
      (omega (arith, c.requires.place, c.loop-at-test.true)) c.loop-at.invariant.left c.in_ok-leave_some.ensures;
}

pub returns : goal.returns
returns c =
    subst (λ n. HasLeft c.args.place n c.args.labels.now c.args.edges.now c.loop-at.labels c.loop-at.edges)
    (let e : c.loop-at.at ≡ c.args.count = omega (arith, c.loop-at.invariant.most, c.loop-at-test.false) in e) c.loop-at.invariant.left
