use Rattle.std.proofs.Common.{map, sym, ◌∙◌}
use Rattle.std.specs.Prelude.{string_bytes}
use Rattle.slab_command.specs.Outcome.{call_between}
use Rattle.slab_command.specs.Words.{asked_of}
use Rattle.slab_command.proofs.Given.{completes, leaves_all, why_bad_volume, why_bad_words, why_input_fault, why_output_fault, why_shelf_fault, why_too_long}
use Rattle.slab_command.proofs.run.run_slab.Goals as goal

pub returns : goal.returns
returns g c =
    let new = c.give_asked-answer.new in
    let answer = c.give_asked-answer.result in
    let gives = c.give_asked-answer.ensures.gives in
    let asked = asked_of (map string_bytes c.args.words.now) in
    let call = call_between g.S.Source.seen g.K.Sink.seen g.H.Shelf.seen c.args.input.now new.input c.args.output.now new.output c.args.shelf.now new.shelf in
    record {
      run = record {
        outcome = (answer, c.status.ensures, gives, c.put_slab_note.ensures);
        reading = c.give_asked-answer.ensures.reading;
        bad_words = rw c.status.ensures (why_bad_words call answer asked gives);
        input_fault = λ e. why_input_fault call answer asked gives (sym c.status.ensures ∙ e);
        output_fault = λ e. why_output_fault call answer asked gives (sym c.status.ensures ∙ e);
        too_long = λ e. why_too_long call answer asked gives (sym c.status.ensures ∙ e);
        bad_volume = λ e. why_bad_volume call answer asked gives (sym c.status.ensures ∙ e);
        shelf_fault = λ e. why_shelf_fault call answer asked gives (sym c.status.ensures ∙ e);
        untouched = λ d o s. leaves_all call answer asked gives (λ e. d (c.status.ensures ∙ e)) (λ e. o (c.status.ensures ∙ e)) (λ e. s (c.status.ensures ∙ e));
        complete = λ request e can reads writes stores. rw c.status.ensures (completes call reads writes stores asked request answer gives e can);
      };
    }
