use Rattle.std.proofs.Common.{◌≡◌, ◌∙◌, ℕ, ℤ, ap, cond, false, is_some, sym, arith}
use Rattle.iso_base.specs.Volume.{Volume}
use Rattle.brick_mesh.specs.Block.{BrickAt}
use Rattle.mesh_cache.specs.Economy.{is_fresh}
use Rattle.mesh_cache.proofs.Callers.{right_kept}
use Rattle.brick_rows.specs.Named.{counts_of_entries}
use Rattle.cached_mesh.specs.Kept.{Kept, named_by}
use Rattle.cached_mesh.proofs.Counted.{are_cases, few_entries}
use Rattle.cached_mesh.proofs.rows.CachedRowsCellRows.count.Goals as goal

-- a brick of a volume at a level
abbrev brick_at : Volume → ℤ → ℕ → BrickAt
brick_at v level brick = record { grid = v.grid; samples = v.samples; brick = brick; level = level }

pub count_pages-requires-clause-few : goal.count_pages-requires-clause-few
count_pages-requires-clause-few g c =
    let r = c.self.inside in
    let v : Volume = r.store.now in
    few_entries (brick_at v r.level c.args.brick.0) c.in-Some.entries
    (right_kept v.grid v.samples c.args.brick.0 r.level r.cache.now.items c.in-Some.entries c.self.invariant.0 (sym c.kept_entries.ensures ∙ c.in-Some.is))

pub count_pages-requires-clause-cases : goal.count_pages-requires-clause-cases
count_pages-requires-clause-cases g c =
    let r = c.self.inside in
    let v : Volume = r.store.now in
    are_cases (brick_at v r.level c.args.brick.0) c.in-Some.entries
    (right_kept v.grid v.samples c.args.brick.0 r.level r.cache.now.items c.in-Some.entries c.self.invariant.0 (sym c.kept_entries.ensures ∙ c.in-Some.is))

pub returns-in-Some-clause-counts : goal.returns-in-Some-clause-counts
returns-in-Some-clause-counts g c =
    let r = c.self.inside in
    let v : Volume = r.store.now in
    let same
    = right_kept v.grid v.samples c.args.brick.0 r.level r.cache.now.items c.in-Some.entries c.self.invariant.0 (sym c.kept_entries.ensures ∙ c.in-Some.is) in
    c.count_pages.ensures ∙ (ap counts_of_entries same ∙ ap (λ (k : Kept). (named_by k).counts c.args.brick.0) c.self.view_is)

pub returns-clause-counts : goal.returns-clause-counts
returns-clause-counts g c = c.count_anew.ensures.counts ∙ ap (λ (k : Kept). (named_by k).counts c.args.brick.0) c.self.view_is

pub returns-clause-most : goal.returns-clause-most
returns-clause-most g c =
    let kept : is_fresh c.args.brick.0 c.args.self.now.level c.args.self.now.cache.items ≡ false
    = ap (λ (k : Kept). is_fresh c.args.brick.0 k.level k.cache.items) (sym c.self.view_is) ∙ ap is_some (sym c.kept_entries.ensures ∙ c.in_default.is) in
    let cost : cond {A = ℕ} (is_fresh c.args.brick.0 c.args.self.now.level c.args.self.now.cache.items) 0 8 ≡ 8 = ap (λ t. cond {A = ℕ} t 0 8) kept in
    omega (arith, cost, c.count_anew.ensures.most)
