use Rattle.std.proofs.Common.{◌≡◌, ◌∙◌, Err, Ok, Some, ap, ap₂, subst, sym}
use Rattle.std.specs.Prelude.{Option, Result}
use Rattle.flat_mesh.specs.Lattice.{Leveled}
use Rattle.list_mesh.specs.Parts.{Part}
use Rattle.slab_command.specs.Outcome.{GivesOutput, MakesFiles}
use Rattle.slab_command.specs.Parts.{counts_of, counts_text, output_by, output_of, with_files_of}
use Rattle.slab_command.specs.Slabs.{owned_part}
use Rattle.slab_command.specs.declared.answer.SlabAnswer.{SlabAnswer}
use Rattle.slab_command.specs.declared.asked.SlabFiles.{SlabFiles}
use Rattle.slab_command.proofs.Outputs.{line_put, no_part, none_made, same_counts}
use Rattle.slab_command.proofs.slabs.serve_stored.Goals as goal

pub returns-in-None : goal.returns-in-None
returns-in-None g c = λ v same.
    let slab = c.args.job.now.slab in
    let store = g.H.Shelf.seen c.args.shelf.now in
    let tape = g.K.Sink.seen c.args.output.now in
    let after = g.K.Sink.seen c.count_stored.new.output in
    subst (λ (files : Option SlabFiles). GivesOutput (output_by (record { slab = slab; files = files }) (owned_part slab v)) store store tape after c.count_stored.result)
    (sym c.in-None.is) (c.count_stored.ensures v same store)

pub returns-in-Err : goal.returns-in-Err
returns-in-Err g c = λ v same.
    no_part c.args.job.now v (g.H.Shelf.seen c.args.shelf.now) (g.K.Sink.seen c.args.output.now) c.in-Err.answer
    (c.in-Err.ensures.fault v (ap (λ (w : Leveled). w.grid) same))

pub returns-in-Ok-make_files : goal.returns-in-Ok-make_files
returns-in-Ok-make_files g c = λ v same.
    let job = c.args.job.now in
    let p : Part = c.in-Ok.part in
    let store = g.H.Shelf.seen c.args.shelf.now in
    let new = g.H.Shelf.seen c.make_files.new.shelf in
    let tape = g.K.Sink.seen c.args.output.now in
    let after = g.K.Sink.seen c.put_line.new.output in
    let is : owned_part job.slab v ≡ Ok p = c.in-Ok.ensures.part v same in
    let counts : c.count-counts.result ≡ counts_of p
    = same_counts p c.count-counts.result c.count-counts.ensures.edges c.count-counts.ensures.centres c.count-counts.ensures.faces in
    let line : c.as_str.result.now ≡ counts_text p.slices (counts_of p)
    = c.as_str.ensures.value
    ∙ (c.counts_line-line.ensures ∙ ap₂ counts_text (c.slices.ensures ∙ ap (λ (q : Part). q.slices) c.count-counts.ensures.part) counts) in
    let made : MakesFiles {T = Unit {0}} (output_of job p) store new (Ok tt)
    = subst (λ (files : Option SlabFiles). MakesFiles {T = Unit {0}} (with_files_of job.slab files p) store new (Ok tt)) (sym c.in-Some.is)
    (subst (λ (q : Part). MakesFiles {T = Unit {0}} (with_files_of job.slab (Some c.in-Some.files) q) store new (Ok tt)) c.count-counts.ensures.part c.in-Ok-make_files.ensures) in
    subst (λ (part : Result Part SlabAnswer). GivesOutput (output_by job part) store new tape after c.put_line.result) (sym is)
    (line_put job p c.as_str.result.now store new tape after line c.put_line.result made c.put_line.ensures)

pub returns-in-Err-make_files : goal.returns-in-Err-make_files
returns-in-Err-make_files g c = λ v same.
    let job = c.args.job.now in
    let p : Part = c.in-Ok.part in
    let store = g.H.Shelf.seen c.args.shelf.now in
    let new = g.H.Shelf.seen c.make_files.new.shelf in
    let tape = g.K.Sink.seen c.args.output.now in
    let answer = c.in-Err-make_files.answer in
    let is : owned_part job.slab v ≡ Ok p = c.in-Ok.ensures.part v same in
    let made : MakesFiles {T = Unit {0}} (output_of job p) store new (Err answer)
    = subst (λ (files : Option SlabFiles). MakesFiles {T = Unit {0}} (with_files_of job.slab files p) store new (Err answer)) (sym c.in-Some.is)
    (subst (λ (q : Part). MakesFiles {T = Unit {0}} (with_files_of job.slab (Some c.in-Some.files) q) store new (Err answer)) c.count-counts.ensures.part c.in-Err-make_files.ensures) in
    subst (λ (part : Result Part SlabAnswer). GivesOutput (output_by job part) store new tape tape answer) (sym is)
    (none_made (output_of job p) store new tape answer made)
