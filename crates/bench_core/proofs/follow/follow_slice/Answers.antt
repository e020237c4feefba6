use Rattle.std.proofs.Common.{◌≡◌, ℕ, ◌+◌, ◌*◌, ◌≤◌, ◌<◌, ap, ap₂, refl, sym, subst, zero-add, arith, ◌∙◌}
use Rattle.iso_defs.specs.Grid.{Grid}
use Rattle.iso_defs.specs.Bricks.{bricks_along, brick_count}
use Rattle.iso_base.specs.declared.point.Point.{Point}
use Rattle.brick_store.specs.Holding.{brick_at}
use Rattle.span_tree.specs.Spans.{Tree}
use Rattle.span_tree.specs.Touched.{spans_after}
use Rattle.bench_core.specs.Keeping.{without_bricks}
use Rattle.bench_core.proofs.BoxBricks.{IsReach, end_low, first_end, row_followed, row_inside, rows_begun, rows_done, rows_held}
use Rattle.bench_core.proofs.Touching.{cache_followed, tree_followed, without_none}
use Rattle.bench_core.proofs.follow.follow_slice.Goals as goal
use Rattle.bench_core.proofs.follow.follow_slice.Goals.{After-bricks_along-along_y}

-- the bricks that are reached along x and along y
reach_x : (c : After-bricks_along-along_y)
    → IsReach c.args.store.now.grid.nx c.args.area.now.low.x c.args.area.now.high.x c.bricks_at-first_x.result.0 c.bricks_at-first_x.result.1
reach_x c =
    let low : c.low-low.result.x ≡ c.args.area.now.low.x = ap (λ (p : Point). p.x) c.low-low.ensures.value in
    let high : c.high-high.result.x ≡ c.args.area.now.high.x = ap (λ (p : Point). p.x) c.high-high.ensures.value in
    let size : c.nx.result ≡ c.args.store.now.grid.nx = c.nx.ensures.value ∙ ap (λ (g : Grid). g.nx) c.sizes-sizes.ensures.value in
    record {
      first_is = omega (arith, c.bricks_at-first_x.ensures.first, low);
      end_is = omega (arith, c.bricks_at-first_x.ensures.end, high, size);
    }

reach_y : (c : After-bricks_along-along_y)
    → IsReach c.args.store.now.grid.ny c.args.area.now.low.y c.args.area.now.high.y c.bricks_at-first_y.result.0 c.bricks_at-first_y.result.1
reach_y c =
    let low : c.low-low.result.y ≡ c.args.area.now.low.y = ap (λ (p : Point). p.y) c.low-low.ensures.value in
    let high : c.high-high.result.y ≡ c.args.area.now.high.y = ap (λ (p : Point). p.y) c.high-high.ensures.value in
    let size : c.ny.result ≡ c.args.store.now.grid.ny = c.ny.ensures.value ∙ ap (λ (g : Grid). g.ny) c.sizes-sizes.ensures.value in
    record {
      first_is = omega (arith, c.bricks_at-first_y.ensures.first, low);
      end_is = omega (arith, c.bricks_at-first_y.ensures.end, high, size);
    }

along_x : (c : After-bricks_along-along_y) → c.bricks_along-along_x.result ≡ bricks_along c.args.store.now.grid 0
along_x c =
    let size : c.nx-2.result ≡ c.args.store.now.grid.nx = c.nx-2.ensures.value ∙ ap (λ (g : Grid). g.nx) c.sizes-sizes.ensures.value in
    omega (arith, c.bricks_along-along_x.ensures.value, size)

along_y : (c : After-bricks_along-along_y) → c.bricks_along-along_y.result ≡ bricks_along c.args.store.now.grid 1
along_y c =
    let size : c.ny-2.result ≡ c.args.store.now.grid.ny = c.ny-2.ensures.value ∙ ap (λ (g : Grid). g.ny) c.sizes-sizes.ensures.value in
    omega (arith, c.bricks_along-along_y.ensures.value, size)

start : (c : After-bricks_along-along_y) (y : ℕ)
    → c.bricks_along-along_x.result * (y + c.bricks_along-along_y.result * c.args.z) ≡ brick_at c.args.store.now.grid 0 y c.args.z
start c y = ap₂ (λ m n. m * (y + n * c.args.z)) (along_x c) (along_y c) ∙ sym (zero-add _)

pub loop-y-init : goal.loop-y-init
loop-y-init c =
    let g = c.args.store.now.grid in
    let none = rows_begun g c.args.area.now c.args.z c.requires.slice c.requires.reached c.bricks_at-first_y.result.0 c.bricks_at-first_y.result.1 (reach_y c) in
    record {
      tree = ap (λ l. record c.args.tree.now { spans = spans_after c.args.store.now l c.args.tree.now.spans }) (sym none);
      cache = without_none c.args.cache.now ∙ ap (λ l. without_bricks l c.args.cache.now) (sym none);
    }

pub follow_run-requires-clause-grid : goal.follow_run-requires-clause-grid
follow_run-requires-clause-grid c = ap (λ (t : Tree). t.grid) c.loop-y.invariant.tree ∙ c.requires.grid

pub follow_run-requires-clause-bricks : goal.follow_run-requires-clause-bricks
follow_run-requires-clause-bricks c =
    let g = c.args.store.now.grid in
    let y : c.loop-y.y < bricks_along g 1 = (let h = end_low g.ny c.args.area.now.low.y c.args.area.now.high.y _ _ (reach_y (goal.at.follow_run-requires-clause-bricks c).After-bricks_along-along_y) in omega arith) in
    subst (λ n. n + c.bricks_at-first_x.result.1 ≤ brick_count g) (sym (start (goal.at.follow_run-requires-clause-bricks c).After-bricks_along-along_y c.loop-y.y))
    (row_inside g c.loop-y.y c.args.z c.bricks_at-first_x.result.1 y c.requires.slice (end_low g.nx c.args.area.now.low.x c.args.area.now.high.x _ _ (reach_x (goal.at.follow_run-requires-clause-bricks c).After-bricks_along-along_y)))

pub loop-y-preserved : goal.loop-y-preserved
loop-y-preserved c =
    let g = c.args.store.now.grid in
    let a = c.args.area.now in
    let more = row_followed g a c.args.z c.requires.slice c.requires.reached c.bricks_at-first_y.result.0 c.bricks_at-first_y.result.1 (reach_y (goal.at.loop-y-preserved c).After-bricks_along-along_y)
    c.loop-y.y _ _ _ c.bricks_at-first_x.result.0 c.bricks_at-first_x.result.1 (reach_x (goal.at.loop-y-preserved c).After-bricks_along-along_y) (omega arith) (omega arith) (start (goal.at.loop-y-preserved c).After-bricks_along-along_y c.loop-y.y) refl refl in
    record {
      tree = tree_followed c.args.store.now c.args.tree.now c.loop-y.tree c.follow_run.new.tree (rows_held g a c.args.z c.loop-y.y) _ (rows_held g a c.args.z (c.loop-y.y + 1))
          more c.loop-y.invariant.tree c.follow_run.ensures.tree;
      cache = cache_followed c.args.cache.now c.loop-y.cache c.follow_run.new.cache (rows_held g a c.args.z c.loop-y.y) _ (rows_held g a c.args.z (c.loop-y.y + 1))
          more c.loop-y.invariant.cache c.follow_run.ensures.cache;
    }

pub returns-clause-tree : goal.returns-clause-tree
returns-clause-tree c =
    let g = c.args.store.now.grid in
    let a = c.args.area.now in
    let last : c.loop-y.y ≡ c.bricks_at-first_y.result.1 = (let h = first_end g.ny a.low.y a.high.y _ _ (reach_y (goal.at.returns-clause-tree c).After-bricks_along-along_y) in omega arith) in
    c.loop-y.invariant.tree ∙ ap (λ l. record c.args.tree.now { spans = spans_after c.args.store.now l c.args.tree.now.spans })
    (ap (rows_held g a c.args.z) last ∙ rows_done g a c.args.z c.requires.slice c.requires.reached _ _ (reach_y (goal.at.returns-clause-tree c).After-bricks_along-along_y))

pub returns-clause-cache : goal.returns-clause-cache
returns-clause-cache c =
    let g = c.args.store.now.grid in
    let a = c.args.area.now in
    let last : c.loop-y.y ≡ c.bricks_at-first_y.result.1 = (let h = first_end g.ny a.low.y a.high.y _ _ (reach_y (goal.at.returns-clause-cache c).After-bricks_along-along_y) in omega arith) in
    c.loop-y.invariant.cache ∙ ap (λ l. without_bricks l c.args.cache.now)
    (ap (rows_held g a c.args.z) last ∙ rows_done g a c.args.z c.requires.slice c.requires.reached _ _ (reach_y (goal.at.returns-clause-cache c).After-bricks_along-along_y))
