use Rattle.std.proofs.Common.{◌≡◌, ◌∙◌, Err, Ok, Some, ap₂, subst, sym}
use Rattle.mesh_walk.specs.Spans.{edge_count}
use Rattle.slab_command.specs.Outcome.{MakesFiles}
use Rattle.slab_command.specs.Parts.{check_numbers, counts_of, with_files_of}
use Rattle.slab_command.specs.declared.answer.SlabAnswer.{SlabAnswer}
use Rattle.slab_command.proofs.Outputs.{files_cut, files_made}
use Rattle.slab_command.proofs.slabs.make_files.Goals as goal

pub returns-in-Ok : goal.returns-in-Ok
returns-in-Ok g c =
    let files = c.args.files.now in
    let fits : check_numbers files (edge_count c.args.part.volume) (counts_of c.args.part).centres ≡ Ok c.in_ok-check_numbers.field-0
    = sym (c.in_ok-check_numbers.ensures ∙ ap₂ (check_numbers files) c.volume_edges.ensures c.requires.centres) in
    files_made c.args.slab c.args.part files (g.H.Shelf.seen c.args.shelf.now) (g.H.Shelf.seen c.write_files.new.shelf)
    c.in_ok-check_numbers.field-0 fits c.in-Ok.field-0 c.in-Ok.ensures

pub returns-in-Err : goal.returns-in-Err
returns-in-Err g c =
    let files = c.args.files.now in
    let store = g.H.Shelf.seen c.args.shelf.now in
    let new = g.H.Shelf.seen c.write_files.new.shelf in
    let fits : check_numbers files (edge_count c.args.part.volume) (counts_of c.args.part).centres ≡ Ok c.in_ok-check_numbers.field-0
    = sym (c.in_ok-check_numbers.ensures ∙ ap₂ (check_numbers files) c.volume_edges.ensures c.requires.centres) in
    subst (λ (a : SlabAnswer). MakesFiles {T = Unit {0}} (with_files_of c.args.slab (Some files) c.args.part) store new (Err a)) (sym c.from.ensures)
    (files_cut c.args.slab c.args.part files store new c.in_ok-check_numbers.field-0 fits c.in-Err.field-0 c.in-Err.ensures)
