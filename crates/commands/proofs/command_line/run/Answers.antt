use Rattle.std.proofs.Common.{sym, ◌∙◌, rules}
use Rattle.commands.proofs.Completing.{completes}
use Rattle.commands.proofs.Economy.{economy, soak_economy, soak_headline}
use Rattle.commands.specs.Causes.{HasBadMesh, HasBadVolume, HasBrokenMesh, HasNoFile, HasTooMany}
use Rattle.commands.proofs.Reasons.{asked_and_served, headline, not_rejected, why_bad_mesh, why_bad_volume, why_mesh_refused, why_shelf_fault, why_too_long}
use Rattle.commands.proofs.SessionMeshes.{session_headline}
use Rattle.commands.proofs.command_line.run.Goals as goal

pub returns : goal.returns
returns g c =
    let answer = c.serve-answer.result in
    let ends = c.serve-answer.ensures.ends in
    record {
      run = record {
        outcome = search rules;
        reading = search rules;
        bad_words = search rules;
        input_fault = search rules;
        output_fault = search rules;
        too_long = λ e. let s = sym c.status.ensures ∙ e in
            asked_and_served _ _ answer HasTooMany ends (not_rejected _ answer _ s (λ x. absurd cc)) (λ r h. why_too_long r _ answer s h);
        bad_volume = λ e. let s = sym c.status.ensures ∙ e in
            asked_and_served _ _ answer HasBadVolume ends (not_rejected _ answer _ s (λ x. absurd cc)) (λ r h. why_bad_volume r _ answer s h);
        shelf_fault = λ e. let s = sym c.status.ensures ∙ e in
            asked_and_served _ _ answer HasNoFile ends (not_rejected _ answer _ s (λ x. absurd cc)) (λ r h. why_shelf_fault r _ answer s h);
        bad_mesh = λ e. let s = sym c.status.ensures ∙ e in
            asked_and_served _ _ answer HasBadMesh ends (not_rejected _ answer _ s (λ x. absurd cc)) (λ r h. why_bad_mesh r _ answer s h);
        mesh_refused = λ e. let s = sym c.status.ensures ∙ e in
            asked_and_served _ _ answer HasBrokenMesh ends (not_rejected _ answer _ s (λ x. absurd cc)) (λ r h. why_mesh_refused r _ answer s h);
        headline = λ options level pad format are asked e. headline _ options _ answer level pad format ends are asked (sym c.status.ensures ∙ e);
        session_headline = λ options level pad name bricks pages are asked. session_headline _ options _ answer _ level pad name bricks pages ends c.status.ensures are asked;
        soak_headline = λ seed asked. soak_headline _ _ _ answer seed ends c.status.ensures asked;
        economy = λ level pad name bricks pages asked. economy _ _ answer level pad name bricks pages ends asked;
        soak_economy = λ seed asked. soak_economy _ _ _ answer seed ends c.status.ensures asked;
        complete = λ request asked can reads writes.
            rw c.status.ensures (completes _ request _ answer ends asked can reads writes);
      };
    }
