use Rattle.std.proofs.Common.{sym, subst, rules}
use Rattle.mesh_cache.specs.Cache.{Cache}
use Rattle.bench_core.specs.Keeping.{IsKept}
use Rattle.bench_core.specs.History.{IsHistory}
use Rattle.bench_core.proofs.Staying.{kept_first}
use Rattle.bench_core.proofs.bench.Bench.begin_over.Goals as goal

pub invariant_of-result : goal.invariant_of-result
invariant_of-result c =
    let history : IsHistory c.args.store c.args.level c.in_ok-log.log = search rules in
    let kept : IsKept c.args.store c.in_ok-tree.tree c.in_ok-cache.cache
    = subst (λ (k : Cache). IsKept c.args.store c.in_ok-tree.tree k) (sym c.in_ok-cache.ensures) (kept_first c.args.store c.in_ok-tree.tree c.args.capacity c.in_ok-tree.ensures) in
    (history, (kept, c.in_ok-room.ensures c.args.store c.args.level (sym c.sizes.ensures.value)))
