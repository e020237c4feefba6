use Rattle.std.proofs.Common.{◌∙◌, ℕ, List, [], ◌∷◌, ap, get_or, arith}
use Rattle.std.proofs.lemmas.List.{take_all}
use Rattle.cached_mesh.specs.Kept.{last_case}
use Rattle.cached_mesh.proofs.LastCase.{case_next}
use Rattle.cached_mesh.proofs.entries.fill_each.Goals as goal

pub loop-entry-preserved : goal.loop-entry-preserved
loop-entry-preserved c = λ k low.
    let entries : List ℕ = c.args.entries.now in
    let at : ℕ = c.loop-entry.entry-index in
    c.set_case.ensures k low
    ∙ (ap (λ other. last_case other (get_or entries at 0 ∷ []) k) (c.loop-entry.invariant k low)
    ∙ case_next (get_or c.args.cases.now k 0) entries at k (omega (arith, c.loop-entry-test.true)))

pub returns : goal.returns
returns c = λ k low.
    let entries : List ℕ = c.args.entries.now in
    c.loop-entry.invariant k low
    ∙ ap (λ l. last_case (get_or c.args.cases.now k 0) l k) (take_all c.loop-entry.entry-index entries c.loop-entry-test.false)
