use Rattle.cached_mesh.proofs.Signing.{none_held}
use Rattle.cached_mesh.proofs.rows.CachedRows.new.Goals as goal

pub invariant_of-result : goal.invariant_of-result
invariant_of-result c =
    (c.requires.items, none_held c.args.store.now c.args.level c.args.cache.now.items c.args.held c.requires.none)
