use Rattle.std.proofs.Common.{sym, ◌∙◌, rules}
use Rattle.point_command.proofs.Given.{completes, why_no_volume, why_too_long}
use Rattle.point_command.proofs.run.run_points.Goals as goal

pub returns : goal.returns
returns g c =
    let answer = c.give_points-answer.result in
    let gives = c.give_points-answer.ensures.gives in
    record {
      run = record {
        outcome = search rules;
        reading = search rules;
        bad_words = search rules;
        input_fault = search rules;
        output_fault = search rules;
        too_long = λ e. why_too_long _ _ answer gives (sym c.status.ensures ∙ e);
        bad_volume = λ e. why_no_volume _ _ answer gives (sym c.status.ensures ∙ e);
        complete = λ asked e can reads writes. rw c.status.ensures (completes _ asked _ answer gives e can reads writes);
      };
    }
