use Rattle.std.proofs.Common.{◌≡◌, ◌∙◌, subst, sym, rules, to_z, of_z, w64}
use Rattle.std.specs.Prelude.{IfSome}
use Rattle.std.proofs.lemmas.Int.{to_z-of_z}
use Rattle.brick_store.specs.Boxes.{AreOne}
use Rattle.span_tree.proofs.bricks.span_in.Goals as goal

pub filled_span-requires-clause-filled : goal.filled_span-requires-clause-filled
filled_span-requires-clause-filled c =
    let v = c.args.store.now in
    let same : to_z w64 (of_z w64 c.in-Some.value) ≡ c.in-Some.value = search (rules, to_z-of_z) in
    let one : AreOne v.grid c.args.area.now c.in-Some.value v.samples
    = subst (λ o. IfSome o (λ value. AreOne v.grid c.args.area.now value v.samples)) c.in-Some.is c.requires.filled in
    λ p low inside. one p low inside ∙ sym same
