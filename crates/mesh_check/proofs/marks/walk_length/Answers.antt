use Rattle.std.proofs.Common.{rules, ◌≡◌, ℕ, ◌+◌, ◌-◌, ◌<◌, true, List, length, arith, ap, ◌∙◌}
use Rattle.std.proofs.lemmas.List.Elements.{recursion_from_All}
use Rattle.iso_defs.specs.Cell.{next_of}
use Rattle.iso_defs.specs.FanWalk.{walked}
use Rattle.iso_defs.specs.Lists.{begins}
use Rattle.arc_rings.specs.Arcs.{ArcBelow}
use Rattle.mesh_check.specs.Marks.{mark_at}
use Rattle.mesh_check.proofs.MarkLaws.{walk_on, next_below}
use Rattle.mesh_check.proofs.marks.walk_length.Goals as goal

pub loop-steps-preserved : goal.loop-steps-preserved
loop-steps-preserved c =
    let arcs : List (ℕ × ℕ) = c.args.arcs.now in
    let at : ℕ = c.loop-steps.at in
    let to : ℕ = (mark_at c.args.marks.now at).to in
    let n : ℕ = length c.args.arcs.now - c.loop-steps.steps in
    let b : begins arcs at ≡ true = c.requires.marked.owned at c.loop-steps.invariant.vertex (search rules) in
    let e : to ≡ next_of arcs at = c.requires.marked.next at c.loop-steps.invariant.vertex b in
    let l : 0 < n = omega arith in
    let m : n - 1 ≡ length c.args.arcs.now - (c.loop-steps.steps + 1) = omega arith in
    let w : length (walked arcs n c.args.start at) ≡ 1 + length (walked arcs (length c.args.arcs.now - (c.loop-steps.steps + 1)) c.args.start to)
    = walk_on arcs n c.args.start at to l b e c.if-at-start.false ∙ ap (λ z. 1 + length (walked arcs z c.args.start to)) m in
    let below : next_of arcs at < length c.args.marks.now = next_below (length c.args.marks.now) arcs at (recursion_from_All (ArcBelow (length c.args.marks.now)) arcs c.requires.vertices) b in
    record {
      within = omega arith;
      vertex = omega arith;
      rest = omega (arith, c.loop-steps.invariant.rest, w);
    }
