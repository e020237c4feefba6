use Rattle.std.proofs.Common.{◌∙◌, ap, rules, sym}
use Rattle.std.proofs.lemmas.Int.{to_z-of_z}
use Rattle.iso_defs.specs.Grid.{point_count}
use Rattle.padded_samples.proofs.SlabRows.{slab_length}
use Rattle.slab_command.proofs.InPad.{given_in_pad, samples_in_pad}
use Rattle.slab_command.proofs.slabs.serve_samples.Goals as goal

pub serve_stored-requires-in-Ok-clause-count : goal.serve_stored-requires-in-Ok-clause-count
serve_stored-requires-in-Ok-clause-count g c = slab_length c.in-Ok.padded ∙ ap point_count (sym c.sizes.ensures.value)

pub serve_stored-requires-in-Ok-clause-samples : goal.serve_stored-requires-in-Ok-clause-samples
serve_stored-requires-in-Ok-clause-samples g c =
    samples_in_pad c.args.job.now c.args.sizes (g.S.Samples.list c.args.samples.now) c.in-Ok.padded c.in-Ok.ensures.view (search (rules, to_z-of_z)) c.requires.samples c.requires.pad

pub returns-in-Ok : goal.returns-in-Ok
returns-in-Ok g c = λ v grid same.
    given_in_pad c.args.job.now c.args.sizes (g.S.Samples.list c.args.samples.now) c.in-Ok.padded c.in-Ok.ensures.view (search (rules, to_z-of_z)) v c.sizes.result
    (g.H.Shelf.seen c.args.shelf.now) (g.H.Shelf.seen c.serve_stored-in-Ok.new.shelf) (g.K.Sink.seen c.args.output.now) (g.K.Sink.seen c.serve_stored-in-Ok.new.output)
    c.serve_stored-in-Ok.result grid same c.sizes.ensures.value (c.in-Ok.ensures.volume v grid) c.serve_stored-in-Ok.ensures
