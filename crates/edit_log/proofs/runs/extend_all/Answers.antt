use Rattle.std.proofs.Common.{◌∙◌, ◌++◌, length, refl, sym, ap}
use Rattle.edit_log.specs.Runs.{gathered}
use Rattle.edit_log.proofs.RunLaws.{gathered_more, replicate_is}
use Rattle.edit_log.proofs.runs.extend_all.Goals as goal

pub returns-then-are_all-clause-values : goal.returns-then-are_all-clause-values
returns-then-are_all-clause-values c =
    let runs = c.args.runs.now.items in
    let run = c.args.run.now in
    let values = c.args.values.now in
    gathered_more runs run (length values)
    ∙ ap (λ l. gathered runs run ++ l) (sym (replicate_is values (length values) run.value refl c.if-are_all.ensures))
