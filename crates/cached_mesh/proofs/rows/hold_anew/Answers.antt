use Rattle.std.proofs.Common.{◌%◌, ◌∙◌, ap, is_some, sym, arith}
use Rattle.std.proofs.lemmas.List.Elements.{All-set}
use Rattle.mesh_cache.proofs.Callers.{right_kept}
use Rattle.cached_mesh.specs.Slices.{AreSlices}
use Rattle.cached_mesh.proofs.Filled.{before_there, held_here}
use Rattle.cached_mesh.proofs.rows.hold_anew.Goals as goal

pub move_to-requires-clause-there : goal.move_to-requires-clause-there
move_to-requires-clause-there c =
    before_there c.args.store.now.grid c.args.brick.0 c.args.z c.across_of-across.result.first c.requires.there c.requires.z c.across_of-across.ensures.first

pub move_to-requires-clause-entries : goal.move_to-requires-clause-entries
move_to-requires-clause-entries c =
    let v = c.args.store.now in
    right_kept v.grid v.samples c.args.brick.0 c.args.level c.args.cache.now.items c.in-Some.entries c.requires.items (sym c.kept_entries.ensures ∙ c.in-Some.is)

pub returns-in-Some-clause-held : goal.returns-in-Some-clause-held
returns-in-Some-clause-held c =
    All-set (AreSlices c.args.store.now c.args.level c.args.cache.now.items) c.args.held.now (c.args.brick.0 % 256) _
    (c.move_to.ensures.slices c.args.cache.now.items (ap is_some (sym c.kept_entries.ensures ∙ c.in-Some.is))) c.requires.held

pub returns-in-Some-clause-here : goal.returns-in-Some-clause-here
returns-in-Some-clause-here c =
    held_here c.args.brick.0 c.args.z c.args.held.now _ (omega arith) (record {
      same_brick = c.move_to.ensures.brick;
      from = omega (arith, c.across_of-across.ensures.first, ap (λ a. a.first) c.move_to.ensures.across);
      to = omega (arith, c.across_of-across.ensures.end, ap (λ a. a.end) c.move_to.ensures.across);
    })

pub returns-in-Some-clause-kept : goal.returns-in-Some-clause-kept
returns-in-Some-clause-kept c = sym (ap is_some (sym c.kept_entries.ensures ∙ c.in-Some.is))

pub returns-in-None-clause-kept : goal.returns-in-None-clause-kept
returns-in-None-clause-kept c = sym (ap is_some (sym c.kept_entries.ensures ∙ c.in-None.is))
