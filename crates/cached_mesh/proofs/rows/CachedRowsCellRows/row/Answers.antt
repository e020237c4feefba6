use Rattle.std.proofs.Common.{◌≡◌, ◌∙◌, true, false, cond, ℕ, Bool, ap, ap₂, subst, sym, arith}
use Rattle.iso_defs.specs.Bricks.{row_cases}
use Rattle.iso_base.specs.Volume.{field}
use Rattle.mesh_cache.specs.Economy.{is_fresh}
use Rattle.brick_rows.specs.Named.{IsCellRow}
use Rattle.cached_mesh.specs.Kept.{Kept, looped_cases, named_by}
use Rattle.cached_mesh.proofs.Filled.{first_there, row_held}
use Rattle.cached_mesh.proofs.rows.CachedRowsCellRows.row.Goals as goal

-- the cases that are named for a row
named_here : (k : Kept) (fresh : Bool) (brick y z : ℕ) → is_fresh brick k.level k.cache.items ≡ fresh
    → cond fresh (looped_cases k.volume.grid (field k.volume.samples k.level) brick y z) (row_cases k.volume.grid (field k.volume.samples k.level) brick y z) ≡ (named_by k).cases brick y z
named_here k fresh brick y z e =
    ap (λ t. cond t (looped_cases k.volume.grid (field k.volume.samples k.level) brick y z) (row_cases k.volume.grid (field k.volume.samples k.level) brick y z)) (sym e)

pub hold-requires-clause-there : goal.hold-requires-clause-there
hold-requires-clause-there g c =
    let row = subst (λ (k : Kept). IsCellRow k.volume.grid c.args.brick.0 c.args.y c.args.z) (sym c.self.view_is) c.requires in
    first_there c.self.inside.store.now.grid c.args.brick.0 c.args.y c.args.z row

pub returns-then-hold-clause-cases : goal.returns-then-hold-clause-cases
returns-then-hold-clause-cases g c =
    let r = c.self.inside in
    let row = subst (λ (k : Kept). IsCellRow k.volume.grid c.args.brick.0 c.args.y c.args.z) (sym c.self.view_is) c.requires in
    let k : Kept = record { volume = c.self.inside.store.now; level = c.self.inside.level; cache = c.self.inside.cache.now } in
    c.fill_row.ensures
    ∙ (row_held r.store.now r.level r.cache.now.items c.args.brick.0 c.args.z _ (c.hold.ensures.held.slices _ _ (omega (arith, c.hold.ensures.held.places))) ((c.hold.ensures.cased c.if-hold.true).here _) c.args.y row
    ∙ (named_here k true c.args.brick.0 c.args.y c.args.z (sym c.hold.ensures.kept ∙ c.if-hold.true)
    ∙ ap (λ (k : Kept). (named_by k).cases c.args.brick.0 c.args.y c.args.z) c.self.view_is))

pub returns-clause-cases : goal.returns-clause-cases
returns-clause-cases g c =
    let k : Kept = record { volume = c.self.inside.store.now; level = c.self.inside.level; cache = c.self.inside.cache.now } in
    let s = (c.hold.ensures.signed c.if-hold.false).here _ in
    c.extract_row.ensures.cases
    ∙ (ap₂ (λ brick z. row_cases k.volume.grid (field k.volume.samples k.level) brick c.args.y z) s.same_brick s.same_slice
    ∙ (named_here k false c.args.brick.0 c.args.y c.args.z (sym c.hold.ensures.kept ∙ c.if-hold.false)
    ∙ ap (λ (k : Kept). (named_by k).cases c.args.brick.0 c.args.y c.args.z) c.self.view_is))

pub returns-clause-most : goal.returns-clause-most
returns-clause-most g c =
    let kept : is_fresh c.args.brick.0 c.args.self.now.level c.args.self.now.cache.items ≡ false
    = ap (λ (k : Kept). is_fresh c.args.brick.0 k.level k.cache.items) (sym c.self.view_is) ∙ (sym c.hold.ensures.kept ∙ c.if-hold.false) in
    let cost : cond {A = ℕ} (is_fresh c.args.brick.0 c.args.self.now.level c.args.self.now.cache.items) 0 8 ≡ 8 = ap (λ t. cond {A = ℕ} t 0 8) kept in
    omega (arith, cost, c.extract_row.ensures.bound)
