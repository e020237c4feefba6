use Rattle.std.proofs.Common.{◌≡◌, ◌+◌, ◌*◌, ◌<◌, ◌≤◌, ◌∙◌, min, ap, ap₂, subst, sym, refl, arith, zero-add}
use Rattle.iso_defs.specs.Bricks.{brick_count, entries}
use Rattle.flat_mesh.specs.Lattice.{heights}
use Rattle.brick_rows.specs.Named.{Named, asked_among, counts_of_entries, row_cost}
use Rattle.mesh_rows.specs.declared.counts.Counts.{Counts}
use Rattle.brick_rows.proofs.Asked.{asked_more, asked_one}
use Rattle.stitch.proofs.BrickCounts.{all_counted, asked_grow, brick_centres, brick_triangles, centres_fit, centres_stay, one_more, triangles_fit, triangles_stay}
use Rattle.brick_rows.proofs.Uptos.{upto}
use Rattle.stitch.proofs.counts.count_all.Goals as goal

pub loop-brick-init : goal.loop-brick-init
loop-brick-init g c =
    let v = c.args.field.now in
    let none : min 0 (brick_count v.grid) ≡ 0 = omega arith in
    record {
      centres = sym (centres_stay v 0 c.next_active-brick.result c.next_active-brick.ensures ∙ ap (upto (brick_centres v)) none);
      faces = sym (triangles_stay v 0 c.next_active-brick.result c.next_active-brick.ensures ∙ ap (upto (brick_triangles v)) none);
      active = c.next_active-brick.ensures.active;
      same = refl;
      least = omega arith;
      most = omega arith;
    }

pub overflow_add-counts : goal.overflow_add-counts
overflow_add-counts g c =
    let v = c.args.field.now in
    let brick = c.loop-brick.brick in
    let low : brick < brick_count v.grid = omega (arith, c.loop-brick-test.true, c.brick_count-bricks.ensures) in
    let found : c.count-more.result ≡ counts_of_entries (entries v.grid (heights v) brick)
    = c.count-more.ensures.counts ∙ (ap (λ (names : Named). names.counts brick) c.loop-brick.invariant.same ∙ c.requires.named.counts brick (c.loop-brick.invariant.active low)) in
    let more : c.count-more.result.centres ≡ brick_centres v brick = ap (λ (n : Counts). n.centres) found in
    omega (arith, more, c.loop-brick.invariant.centres, centres_fit v c.sizes.ensures.leveled brick low)

pub overflow_add-counts-in-loop-brick : goal.overflow_add-counts-in-loop-brick
overflow_add-counts-in-loop-brick g c =
    let v = c.args.field.now in
    let brick = c.loop-brick.brick in
    let low : brick < brick_count v.grid = omega (arith, c.loop-brick-test.true, c.brick_count-bricks.ensures) in
    let found : c.count-more.result ≡ counts_of_entries (entries v.grid (heights v) brick)
    = c.count-more.ensures.counts ∙ (ap (λ (names : Named). names.counts brick) c.loop-brick.invariant.same ∙ c.requires.named.counts brick (c.loop-brick.invariant.active low)) in
    let more : c.count-more.result.faces ≡ brick_triangles v brick = ap (λ (n : Counts). n.faces) found in
    omega (arith, more, c.loop-brick.invariant.faces, triangles_fit v c.sizes.ensures.leveled brick low)

pub loop-brick-preserved : goal.loop-brick-preserved
loop-brick-preserved g c =
    let v = c.args.field.now in
    let brick = c.loop-brick.brick in
    let next = c.next_active-brick-in-loop-brick.result in
    let names = g.R.CellRows.named c.args.rows.now in
    let same = c.loop-brick.invariant.same in
    let low : brick < brick_count v.grid = omega (arith, c.loop-brick-test.true, c.brick_count-bricks.ensures) in
    let active = c.loop-brick.invariant.active low in
    let found : c.count-more.result ≡ counts_of_entries (entries v.grid (heights v) brick)
    = c.count-more.ensures.counts ∙ (ap (λ (names : Named). names.counts brick) same ∙ c.requires.named.counts brick active) in
    let centres : c.count-more.result.centres ≡ brick_centres v brick = ap (λ (n : Counts). n.centres) found in
    let faces : c.count-more.result.faces ≡ brick_triangles v brick = ap (λ (n : Counts). n.faces) found in
    let cost = subst (λ (names : Named). c.count-more.new.steps ≤ c.loop-brick.steps + 64 * row_cost names brick) same c.count-more.ensures.most in
    let one = asked_one v.grid (heights v) names brick active in
    let more = subst (λ b. asked_among v.grid (heights v) names 0 (brick + 1) ≡ asked_among v.grid (heights v) names 0 brick + asked_among v.grid (heights v) names b 1)
    (zero-add brick) (asked_more v.grid (heights v) names 0 brick 1) in
    let here : min brick (brick_count v.grid) ≡ brick = omega (arith, low) in
    let before = subst (λ n. c.loop-brick.steps ≤ c.args.steps.now + 512 * asked_among v.grid (heights v) names 0 n) here c.loop-brick.invariant.most in
    let further : brick + 1 ≤ min next (brick_count v.grid) = omega (arith, low, c.next_active-brick-in-loop-brick.ensures.least) in
    record {
      centres = ap₂ ◌+◌ c.loop-brick.invariant.centres centres
          ∙ sym (centres_stay v (brick + 1) next c.next_active-brick-in-loop-brick.ensures ∙ one_more v (brick_centres v) brick low);
      faces = ap₂ ◌+◌ c.loop-brick.invariant.faces faces
          ∙ sym (triangles_stay v (brick + 1) next c.next_active-brick-in-loop-brick.ensures ∙ one_more v (brick_triangles v) brick low);
      active = c.next_active-brick-in-loop-brick.ensures.active;
      same = c.count-more.ensures.same ∙ same;
      least = omega (arith, c.loop-brick.invariant.least, c.count-more.ensures.least);
      most = omega (arith, before, cost, one, more, asked_grow v names (brick + 1) (min next (brick_count v.grid)) further);
    }

pub returns-clause-counts : goal.returns-clause-counts
returns-clause-counts g c =
    let v = c.args.field.now in
    let end : min c.loop-brick.brick (brick_count v.grid) ≡ brick_count v.grid = omega (arith, c.loop-brick-test.false, c.brick_count-bricks.ensures) in
    all_counted v c.sizes.ensures.leveled c.loop-brick.counts (c.loop-brick.invariant.centres ∙ ap (upto (brick_centres v)) end) (c.loop-brick.invariant.faces ∙ ap (upto (brick_triangles v)) end)
