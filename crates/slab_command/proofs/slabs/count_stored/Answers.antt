use Rattle.std.proofs.Common.{◌≡◌, ◌∙◌, None, Ok, ap, refl, subst, sym}
use Rattle.std.specs.Prelude.{Result}
use Rattle.flat_mesh.specs.Lattice.{Leveled}
use Rattle.list_mesh.specs.Parts.{Part}
use Rattle.slab_command.specs.Outcome.{GivesOutput}
use Rattle.slab_command.specs.Parts.{counts_of, counts_text, output_by}
use Rattle.slab_command.specs.Slabs.{owned_part}
use Rattle.slab_command.specs.declared.answer.SlabAnswer.{SlabAnswer}
use Rattle.slab_command.specs.declared.asked.SlabJob.{SlabJob}
use Rattle.slab_command.proofs.Outputs.{line_put, no_files, no_part}
use Rattle.slab_command.proofs.slabs.count_stored.Goals as goal

pub returns-in-Ok : goal.returns-in-Ok
returns-in-Ok g c = λ v same store.
    let job : SlabJob = record { slab = c.args.slab; files = None } in
    let p : Part = record { volume = v; slices = c.in-Ok.slices } in
    let tape = g.K.Sink.seen c.args.output.now in
    let after = g.K.Sink.seen c.put_line.new.output in
    let is : owned_part c.args.slab v ≡ Ok p = c.in-Ok.ensures.slices v same in
    let line : c.as_str.result.now ≡ counts_text p.slices (counts_of p)
    = c.as_str.ensures.value ∙ (c.counts_line.ensures ∙ ap (counts_text c.in-Ok.slices) (c.in-Ok.ensures.counts v same)) in
    subst (λ (part : Result Part SlabAnswer). GivesOutput (output_by job part) store store tape after c.put_line.result) (sym is)
    (line_put job p c.as_str.result.now store store tape after line c.put_line.result (no_files job p store refl) c.put_line.ensures)

pub returns-in-Err : goal.returns-in-Err
returns-in-Err g c = λ v same store.
    no_part (record { slab = c.args.slab; files = None }) v store (g.K.Sink.seen c.args.output.now) c.in-Err.answer
    (c.in-Err.ensures.fault v (ap (λ (w : Leveled). w.grid) same))
