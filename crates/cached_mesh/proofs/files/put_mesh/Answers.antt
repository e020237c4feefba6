use Rattle.std.proofs.Common.{◌+◌, ◌*◌, ◌≤◌, ◌∙◌, ap, subst, sym}
use Rattle.iso_defs.specs.Bricks.{brick_count}
use Rattle.iso_base.specs.Volume.{field}
use Rattle.brick_rows.specs.Named.{NamesCases, asked_among}
use Rattle.cached_mesh.specs.Kept.{Kept, named_by}
use Rattle.cached_mesh.specs.Texts.{scratch_text}
use Rattle.cached_mesh.proofs.Names.{names_cases}
use Rattle.cached_mesh.proofs.Waits.{asked_wait}
use Rattle.cached_mesh.proofs.files.put_mesh.Goals as goal

pub write_ply-requires-clause-named : goal.write_ply-requires-clause-named
write_ply-requires-clause-named g c =
    let k : Kept = record { volume = c.args.volume.now.store.now; level = c.args.volume.now.level; cache = c.args.volume.now.cache.now } in
    subst (λ (r : Kept). NamesCases (named_by r) c.args.volume.now.store.now.grid (field c.args.volume.now.store.now.samples c.args.volume.now.level)) (sym c.new-rows.ensures) (names_cases k)

pub returns-in-Ply-clause-text : goal.returns-in-Ply-clause-text
unfolding scratch_text
returns-in-Ply-clause-text g c = rw c.in-Ply.is c.write_ply.ensures.text

pub returns-in-Ply-clause-written : goal.returns-in-Ply-clause-written
returns-in-Ply-clause-written g c = rw c.in-Ply.is c.write_ply.ensures.written

pub returns-in-Ply-clause-most : goal.returns-in-Ply-clause-most
returns-in-Ply-clause-most g c =
    let v = c.args.volume.now.store.now in
    let k : Kept = record { volume = c.args.volume.now.store.now; level = c.args.volume.now.level; cache = c.args.volume.now.cache.now } in
    subst (λ n. c.write_ply.new.steps ≤ c.args.steps.now + 1536 * n)
    (ap (λ (r : Kept). asked_among v.grid (field v.samples c.args.volume.now.level) (named_by r) 0 (brick_count v.grid)) c.new-rows.ensures ∙ asked_wait k)
    c.write_ply.ensures.most

pub write_obj-requires-clause-named : goal.write_obj-requires-clause-named
write_obj-requires-clause-named g c =
    let k : Kept = record { volume = c.args.volume.now.store.now; level = c.args.volume.now.level; cache = c.args.volume.now.cache.now } in
    subst (λ (r : Kept). NamesCases (named_by r) c.args.volume.now.store.now.grid (field c.args.volume.now.store.now.samples c.args.volume.now.level)) (sym c.new-rows.ensures) (names_cases k)

pub returns-in-Obj-clause-text : goal.returns-in-Obj-clause-text
unfolding scratch_text
returns-in-Obj-clause-text g c = rw c.in-Obj.is c.write_obj.ensures.text

pub returns-in-Obj-clause-written : goal.returns-in-Obj-clause-written
returns-in-Obj-clause-written g c = rw c.in-Obj.is c.write_obj.ensures.written

pub returns-in-Obj-clause-most : goal.returns-in-Obj-clause-most
returns-in-Obj-clause-most g c =
    let v = c.args.volume.now.store.now in
    let k : Kept = record { volume = c.args.volume.now.store.now; level = c.args.volume.now.level; cache = c.args.volume.now.cache.now } in
    subst (λ n. c.write_obj.new.steps ≤ c.args.steps.now + 1536 * n)
    (ap (λ (r : Kept). asked_among v.grid (field v.samples c.args.volume.now.level) (named_by r) 0 (brick_count v.grid)) c.new-rows.ensures ∙ asked_wait k)
    c.write_obj.ensures.most
