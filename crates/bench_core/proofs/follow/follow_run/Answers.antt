use Rattle.std.proofs.Common.{◌≡◌, ℕ, ◌+◌, ◌-◌, List, [], ◌∷◌, ◌++◌, sym, ap, ◌∙◌, arith}
use Rattle.std.specs.List.{range_with_len}
use Rattle.iso_base.specs.Volume.{Volume}
use Rattle.span_tree.specs.Spans.{Tree}
use Rattle.span_tree.specs.Touched.{spans_after}
use Rattle.bench_core.specs.Keeping.{without_bricks}
use Rattle.bench_core.proofs.Touching.{run_more, spans_after_both, without_both, without_none, without_one}
use Rattle.bench_core.proofs.follow.follow_run.Goals as goal

pub loop-brick-init : goal.loop-brick-init
loop-brick-init c =
    let none : 0 ≡ c.args.from - c.args.from = omega arith in
    record {
      tree = ap (λ n. record c.args.tree.now { spans = spans_after c.args.store.now (range_with_len c.args.from n) c.args.tree.now.spans }) none;
      cache = without_none c.args.cache.now ∙ ap (λ n. without_bricks (range_with_len c.args.from n) c.args.cache.now) none;
    }

pub loop-brick-preserved : goal.loop-brick-preserved
loop-brick-preserved c =
    let w : Volume = c.args.store.now in
    let b : ℕ = c.loop-brick.brick in
    let xs : List ℕ = range_with_len c.args.from (b - c.args.from) in
    let more : range_with_len c.args.from (b + 1 - c.args.from) ≡ xs ++ b ∷ [] = run_more c.args.from b (omega arith) in
    record {
      tree = c.touch_in.ensures
          ∙ (ap (λ (t : Tree). record t { spans = spans_after w (b ∷ []) t.spans }) c.loop-brick.invariant.tree
          ∙ ap (λ l. record c.args.tree.now { spans = l })
          (sym (spans_after_both w xs (b ∷ []) c.args.tree.now.spans) ∙ ap (λ l. spans_after w l c.args.tree.now.spans) (sym more)));
      cache = c.drop_brick.ensures
          ∙ (without_one b c.loop-brick.cache
          ∙ (ap (without_bricks (b ∷ [])) c.loop-brick.invariant.cache
          ∙ (sym (without_both xs (b ∷ []) c.args.cache.now) ∙ ap (λ l. without_bricks l c.args.cache.now) (sym more))));
    }
