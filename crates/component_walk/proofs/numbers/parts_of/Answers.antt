use Rattle.std.proofs.Common.{◌≡◌, ◌∙◌, ℕ, ◌<◌, ◌≤◌, List, [], ◌∷◌, ◌++◌, length, map, get_or, sym, ap, ap₂, subst, arith}
use Rattle.std.proofs.lemmas.List.{get_or_default, take_all}
use Rattle.std.specs.Map.{keys_of, values_of}
use Rattle.mesh_report.specs.declared.part.Part.{Part}
use Rattle.component_walk.specs.Counts.{part_with}
use Rattle.component_walk.specs.declared.components.Component.{Component}
use Rattle.component_walk.specs.declared.tally.LoopCounts.{LoopCounts}
use Rattle.component_walk.proofs.SumLaws.{map_more}
use Rattle.component_walk.proofs.numbers.parts_of.Goals as goal

abbrev none : Component LoopCounts
none = record { least = 0; crossings = 0; tally = record { threes = 0; centres = 0; spokes = 0; border = 0 } }

abbrev part : Component LoopCounts → Part
part c = part_with c.least c.crossings c.tally

pub loop-component-init : goal.loop-component-init
loop-component-init c = record {
  parts = ap values_of c.new-parts.ensures.empty;
  below = subst (λ (es : List (ℕ × Part)). (k d : ℕ) → k < length (keys_of es) → (j : ℕ) (d' : Component LoopCounts) → 0 ≤ j → j < length c.args.components.now → get_or (keys_of es) k d < (get_or c.args.components.now j d').least)
      (sym c.new-parts.ensures.empty) (λ k d l j d' m n. absurd (omega (arith, l)));
}

pub add_part-requires : goal.add_part-requires
add_part-requires c = λ k d l.
    let i : ℕ = c.loop-component.component-index in
    let least : c.part_of-part.result.least ≡ (get_or c.args.components.now i none).least = ap (λ (p : Part). p.least) c.part_of-part.ensures in
    omega (arith, least, c.loop-component.invariant.below k d l i none (omega arith) c.loop-component-test.true)

pub loop-component-preserved : goal.loop-component-preserved
loop-component-preserved c =
    let i : ℕ = c.loop-component.component-index in
    let least : c.part_of-part.result.least ≡ (get_or c.args.components.now i none).least = ap (λ (p : Part). p.least) c.part_of-part.ensures in
    record {
      parts = c.in_ok-add_part.ensures.parts
          ∙ (ap₂ (λ ps p. ps ++ p ∷ []) c.loop-component.invariant.parts c.part_of-part.ensures
          ∙ sym (map_more part c.args.components.now i none c.loop-component-test.true));
      below = λ k d l j d' m n.
          let less : (get_or c.args.components.now i d').least < (get_or c.args.components.now j d').least = c.requires.ascending i j d' (omega (arith, m)) n in
          let same : get_or c.args.components.now i none ≡ get_or c.args.components.now i d' = get_or_default c.args.components.now i none d' c.loop-component-test.true in
          omega (arith, least, less, ap (λ (t : Component LoopCounts). t.least) same, c.in_ok-add_part.ensures.below k d l);
    }

pub returns : goal.returns
returns c = c.loop-component.invariant.parts ∙ ap (map part) (take_all c.loop-component.component-index c.args.components.now (omega (arith, c.loop-component-test.false)))
