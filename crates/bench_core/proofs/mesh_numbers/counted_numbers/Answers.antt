use Rattle.std.proofs.Common.{subst, sym}
use Rattle.iso_base.specs.Volume.{field}
use Rattle.brick_rows.specs.Named.{NamesCases}
use Rattle.cached_mesh.specs.Kept.{Kept, named_by}
use Rattle.cached_mesh.proofs.Names.{names_cases}
use Rattle.bench_core.proofs.mesh_numbers.counted_numbers.Goals as goal

pub part_numbers-requires-clause-named : goal.part_numbers-requires-clause-named
part_numbers-requires-clause-named g c =
    let k : Kept = record { volume = c.args.store.now; level = c.args.level; cache = c.args.cache.now } in
    subst (λ (r : Kept). NamesCases (named_by r) c.args.store.now.grid (field c.args.store.now.samples c.args.level)) (sym c.new-rows.ensures) (names_cases k)
