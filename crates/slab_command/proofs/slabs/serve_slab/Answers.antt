use Rattle.std.proofs.Common.{None, refl, subst, sym}
use Rattle.slab_command.specs.Outcome.{Serves, call_between}
use Rattle.slab_command.specs.Parts.{slab_given}
use Rattle.slab_command.proofs.Served.{not_held, serves}
use Rattle.slab_command.proofs.slabs.serve_slab.Goals as goal

pub returns-in-Ok-clause-serves : goal.returns-in-Ok-clause-serves
returns-in-Ok-clause-serves g c =
    serves (slab_given c.args.job.now)
    (call_between g.S.Source.seen g.K.Sink.seen g.H.Shelf.seen c.args.input.now c.bytes_of_input.new.input c.args.output.now c.serve_bytes.new.output c.args.shelf.now c.serve_bytes.new.shelf)
    c.in-Ok.bytes.items (record { all = c.in-Ok.ensures.all; within = c.in-Ok.ensures.within }) c.serve_bytes.result c.serve_bytes.ensures

pub returns-in-Err-clause-serves : goal.returns-in-Err-clause-serves
returns-in-Err-clause-serves g c =
    let job = c.args.job.now in
    let call = call_between g.S.Source.seen g.K.Sink.seen g.H.Shelf.seen c.args.input.now c.bytes_of_input.new.input c.args.output.now c.args.output.now c.args.shelf.now c.args.shelf.now in
    subst (Serves (slab_given job) call) (sym c.from.ensures)
    (not_held job call c.in-Err.answer (record { output = refl; shelf = refl }) (c.in-Err.ensures.fault None job.slab.level))
