use Rattle.std.proofs.Common.{rules, ◌≡◌, ◌+◌, ◌*◌, ◌<◌, ◌≤◌, List, length, Some, sym, subst, ap, ◌∙◌, arith}
use Rattle.std.specs.List.{All, AllByRecursion}
use Rattle.std.proofs.lemmas.List.Elements.{All-from_recursion}
use Rattle.iso_defs.specs.Cell.{Triangle}
use Rattle.iso_defs.specs.Manifold.{HasThreeCorners, arcs}
use Rattle.iso_defs.specs.Verdict.{IsVerdict, border_count}
use Rattle.iso_base.specs.Triangles.{IsBelow, triangles_of}
use Rattle.arc_rings.specs.Arcs.{ArcBelow}
use Rattle.arc_rings.proofs.RingLaws.{arcs_read, vertex_read}
use Rattle.arc_rings.proofs.ArcLaws.{all_of, length_is, arcs_below, arcs_few}
use Rattle.mesh_check.specs.declared.fan.Fan.TheVariants.{Whole, Split}
use Rattle.mesh_check.specs.Said.{said}
use Rattle.mesh_check.specs.Marks.{IsLeastTwice}
use Rattle.mesh_check.specs.Judged.{IsJudged, IsFanOf, first_split, loose_below}
use Rattle.mesh_check.proofs.LooseLaws.{loose_is, border_low}
use Rattle.mesh_check.proofs.VerdictLaws.{judged_fan, judged_split, judged_twice, judged_all}
use Rattle.mesh_check.proofs.decide.surface_verdict.Goals as goal
use Rattle.mesh_check.proofs.decide.surface_verdict.Goals.{in-Whole, in-Split}

pub arcs_round-arcs-requires : goal.arcs_round-arcs-requires
arcs_round-arcs-requires c = vertex_read (triangles_of c.args.triangles.now) c.args.vertices c.loop-v.v c.in_ok-rings.rings c.in_ok-rings.ensures c.loop-v-test.true

pub fan_of-requires-clause-vertices : goal.fan_of-requires-clause-vertices
fan_of-requires-clause-vertices c =
    let ts : List Triangle = triangles_of c.args.triangles.now in
    let low : AllByRecursion (IsBelow c.args.vertices) ts = all_of (IsBelow c.args.vertices) c.args.triangles.now c.requires.inside in
    let f : c.arcs_round-arcs.result.now ≡ arcs ts c.loop-v.v
    = arcs_read ts c.args.vertices c.loop-v.v c.in_ok-rings.rings c.arcs_round-arcs.result.now c.in_ok-rings.ensures c.loop-v-test.true c.arcs_round-arcs.ensures in
    let all : All (ArcBelow c.args.vertices) (arcs ts c.loop-v.v) = All-from_recursion (ArcBelow c.args.vertices) (arcs ts c.loop-v.v) (arcs_below c.args.vertices ts c.loop-v.v low) in
    subst (λ n. All (ArcBelow n) c.arcs_round-arcs.result.now) (sym c.loop-v.invariant.marks) (subst (All (ArcBelow c.args.vertices)) (sym f) all)

pub fan_of-requires-clause-few : goal.fan_of-requires-clause-few
fan_of-requires-clause-few c =
    let ts : List Triangle = triangles_of c.args.triangles.now in
    let f : c.arcs_round-arcs.result.now ≡ arcs ts c.loop-v.v
    = arcs_read ts c.args.vertices c.loop-v.v c.in_ok-rings.rings c.arcs_round-arcs.result.now c.in_ok-rings.ensures c.loop-v-test.true c.arcs_round-arcs.ensures in
    let n : length c.arcs_round-arcs.result.now ≡ length (arcs ts c.loop-v.v) = ap length f in
    let m : length (arcs ts c.loop-v.v) ≤ length ts = arcs_few ts c.loop-v.v in
    let k : length ts ≡ length c.args.triangles.now = length_is c.args.triangles.now in
    omega (arith, c.requires.count)

pub returns-in-Twice : goal.returns-in-Twice
returns-in-Twice c =
    let ts : List Triangle = triangles_of c.args.triangles.now in
    let d : AllByRecursion HasThreeCorners ts = all_of HasThreeCorners c.args.triangles.now c.requires.different in
    let f : c.arcs_round-arcs.result.now ≡ arcs ts c.loop-v.v
    = arcs_read ts c.args.vertices c.loop-v.v c.in_ok-rings.rings c.arcs_round-arcs.result.now c.in_ok-rings.ensures c.loop-v-test.true c.arcs_round-arcs.ensures in
    judged_twice ts d c.loop-v.v c.loop-v.split c.loop-v.loose c.in-Twice.b c.loop-v.invariant.judged
    (subst (λ ps. IsLeastTwice ps (Some c.in-Twice.b)) f c.in-Twice.ensures.fan)

pub loop-v-preserved : goal.loop-v-preserved
loop-v-preserved c =
    let ts : List Triangle = triangles_of c.args.triangles.now in
    let f : c.arcs_round-arcs.result.now ≡ arcs ts c.loop-v.v
    = arcs_read ts c.args.vertices c.loop-v.v c.in_ok-rings.rings c.arcs_round-arcs.result.now c.in_ok-rings.ensures c.loop-v-test.true c.arcs_round-arcs.ensures in
    let few : c.loop-v.loose ≤ c.loop-v.v * 4294967295 = c.loop-v.invariant.bound in
    let n : length c.fan_of.new.marks ≡ c.args.vertices = search rules in
    elim c.match-fan_of.branch [
      | in-Whole w ↦ (
          let k : w.in-Whole.n < 4294967296 = search rules in
          let l : c.match-fan_of.loose ≡ c.loop-v.loose + w.in-Whole.n = w.loose-is ∙ ap (λ z. c.loop-v.loose + z) w.from-loose.ensures in
          let j : IsJudged ts (c.loop-v.v + 1) c.loop-v.split (c.loop-v.loose + w.in-Whole.n)
          = judged_fan ts c.loop-v.v c.loop-v.split c.loop-v.loose w.in-Whole.n c.loop-v.invariant.judged (subst (λ ps. IsFanOf ps (Whole w.in-Whole.n)) f w.in-Whole.ensures.fan) in
          record {
            marks = n;
            unmarked = w.in-Whole.ensures.older;
            judged = subst (λ s. IsJudged ts (c.loop-v.v + 1) s c.match-fan_of.loose) (sym w.split-is) (subst (IsJudged ts (c.loop-v.v + 1) c.loop-v.split) (sym l) j);
            bound = omega (arith, few, l, k);
          })
      | in-Split w ↦ (
          let k : w.in-Split.n < 4294967296 = search rules in
          let l : c.match-fan_of.loose ≡ c.loop-v.loose + w.in-Split.n = w.loose-is ∙ ap (λ z. c.loop-v.loose + z) w.from-loose-in-Split.ensures in
          let s : c.match-fan_of.split ≡ first_split c.loop-v.split c.loop-v.v = w.split-is ∙ w.first_of-split.ensures in
          let j : IsJudged ts (c.loop-v.v + 1) (first_split c.loop-v.split c.loop-v.v) (c.loop-v.loose + w.in-Split.n)
          = judged_split ts c.loop-v.v c.loop-v.split c.loop-v.loose w.in-Split.n c.loop-v.invariant.judged (subst (λ ps. IsFanOf ps (Split w.in-Split.n)) f w.in-Split.ensures.fan) in
          record {
            marks = n;
            unmarked = w.in-Split.ensures.older;
            judged = subst (λ z. IsJudged ts (c.loop-v.v + 1) z c.match-fan_of.loose) (sym s) (subst (IsJudged ts (c.loop-v.v + 1) (first_split c.loop-v.split c.loop-v.v)) (sym l) j);
            bound = omega (arith, few, l, k);
          })
    ]

pub verdict_of-requires : goal.verdict_of-requires
verdict_of-requires c =
    let ts : List Triangle = triangles_of c.args.triangles.now in
    let d : AllByRecursion HasThreeCorners ts = all_of HasThreeCorners c.args.triangles.now c.requires.different in
    let low : AllByRecursion (IsBelow c.args.vertices) ts = all_of (IsBelow c.args.vertices) c.args.triangles.now c.requires.inside in
    let v : c.loop-v.v ≡ c.args.vertices = omega arith in
    let e : c.loop-v.loose ≡ loose_below ts c.loop-v.v = c.loop-v.invariant.judged.count in
    let f : c.loop-v.loose ≡ border_count ts = (e ∙ ap (loose_below ts) v) ∙ loose_is ts d c.args.vertices low in
    let m : border_count ts ≤ 3 * length ts = border_low ts in
    let k : length ts ≡ length c.args.triangles.now = length_is c.args.triangles.now in
    omega (arith, c.requires.count)

pub returns : goal.returns
returns c =
    let ts : List Triangle = triangles_of c.args.triangles.now in
    let d : AllByRecursion HasThreeCorners ts = all_of HasThreeCorners c.args.triangles.now c.requires.different in
    let low : AllByRecursion (IsBelow c.args.vertices) ts = all_of (IsBelow c.args.vertices) c.args.triangles.now c.requires.inside in
    let v : c.loop-v.v ≡ c.args.vertices = omega arith in
    let j : IsJudged ts c.args.vertices c.loop-v.split c.loop-v.loose = subst (λ n. IsJudged ts n c.loop-v.split c.loop-v.loose) v c.loop-v.invariant.judged in
    subst (λ a. IsVerdict ts (said a)) (sym c.verdict_of.ensures) (judged_all ts d c.args.vertices low c.loop-v.split c.loop-v.loose j)
