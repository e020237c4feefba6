use Rattle.std.proofs.Common.{rules, ◌<◌, ◌≤◌, [], length, get_or, sym, subst, arith}
use Rattle.std.specs.List.{All}
use Rattle.std.proofs.lemmas.List.Elements.{All-from_get_or}
use Rattle.iso_defs.specs.Manifold.{HasThreeCorners}
use Rattle.iso_base.specs.Triangles.{triangle_of}
use Rattle.arc_rings.proofs.ArcLaws.{triangle_is, length_is, all_of}
use Rattle.mesh_check.proofs.decide.first_repeated.Goals as goal

pub returns-then-is_repeated-clause-repeated : goal.returns-then-is_repeated-clause-repeated
returns-then-is_repeated-clause-repeated c =
    let n : HasThreeCorners (triangle_of (get_or c.args.triangles.now c.loop-t.t [])) → ⊥ = search rules in (
      subst (λ k. c.loop-t.t < k) (sym (length_is c.args.triangles.now)) c.loop-t-test.true,
      subst (λ t. HasThreeCorners t → ⊥) (sym (triangle_is c.args.triangles.now c.loop-t.t c.loop-t-test.true)) n,
      (λ u k. subst HasThreeCorners (sym (triangle_is c.args.triangles.now u (let l : c.loop-t.t < length c.args.triangles.now = c.loop-t-test.true in omega arith))) (c.loop-t.invariant u k)),
    )

pub returns-clause-different : goal.returns-clause-different
returns-clause-different c =
    All-from_get_or (λ t. HasThreeCorners (triangle_of t)) c.args.triangles.now [] (λ k l. c.loop-t.invariant k (let m : length c.args.triangles.now ≤ c.loop-t.t = c.loop-t-test.false in omega arith))

pub returns-clause-repeated : goal.returns-clause-repeated
returns-clause-repeated c =
    let h : All (λ t. HasThreeCorners (triangle_of t)) c.args.triangles.now
    = All-from_get_or (λ t. HasThreeCorners (triangle_of t)) c.args.triangles.now [] (λ k l. c.loop-t.invariant k (let m : length c.args.triangles.now ≤ c.loop-t.t = c.loop-t-test.false in omega arith)) in
    all_of HasThreeCorners c.args.triangles.now h
