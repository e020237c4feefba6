use Rattle.std.proofs.Common.{◌≡◌, ◌∙◌, Ok, ap, sym, subst, ℤ}
use Rattle.std.specs.Prelude.{Option, is_some}
use Rattle.command_terms.specs.Volumes.{text_by, with_pad}
use Rattle.command_terms.specs.Outcome.{WritesGiven}
use Rattle.commands.specs.Headline.{mesh_in, text_of_volume}
use Rattle.commands.proofs.extracting.extract_samples.Goals as goal

pub returns-in-None : goal.returns-in-None
returns-in-None g c = λ v grid none samples.
    let level = c.args.asked.level in
    let format = c.args.asked.format in
    let given : mesh_in level c.args.asked.pad format v ≡ Ok (text_of_volume format level v)
    = ap (λ (o : Option ℤ). text_by (text_of_volume format level) (with_pad o level v)) c.in-None.is in
    subst (λ given. WritesGiven given (g.K.Sink.seen c.args.output.now) (g.K.Sink.seen c.write_mesh.new.output) c.write_mesh.result) (sym given)
    (c.write_mesh.ensures v grid samples (ap is_some c.in-None.is ∙ sym (ap is_some none)))
