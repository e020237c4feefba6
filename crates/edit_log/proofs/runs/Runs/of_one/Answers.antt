use Rattle.std.proofs.Common.{◌≡◌, ◌∙◌, [], ◌∷◌, ◌++◌, replicate, ap, ap₂, subst, rules, to_z, of_z, w64}
use Rattle.std.proofs.lemmas.Int.{to_z-of_z}
use Rattle.edit_log.specs.Log.{IsBox}
use Rattle.edit_log.specs.declared.runs.Run.{Run}
use Rattle.edit_log.specs.Runs.{values_of}
use Rattle.edit_log.proofs.Inverses.{samples_of_one}
use Rattle.edit_log.proofs.RunLaws.{values_of_one}
use Rattle.edit_log.proofs.runs.Runs.of_one.Goals as goal

pub returns : goal.returns
returns c =
    let v = c.args.store.now in
    let a = c.args.area.now in
    let value : to_z w64 (of_z w64 c.args.value.now) ≡ c.args.value.now = search (rules, to_z-of_z) in
    let run : Run = record { value = to_z w64 (of_z w64 c.args.value.now); count = c.area_count-count.result } in
    let is : IsBox v.grid a = subst (λ g. IsBox g a) c.sizes.ensures.value c.area_count-count.ensures.box_of_grid in
    ap values_of (c.in_ok-push.ensures.items ∙ ap (λ l. l ++ run ∷ []) c.in_ok-runs.ensures.items)
    ∙ (values_of_one run ∙ (ap₂ replicate c.area_count-count.ensures.value value ∙ samples_of_one v.grid a c.args.value.now v.samples is c.requires.same))
