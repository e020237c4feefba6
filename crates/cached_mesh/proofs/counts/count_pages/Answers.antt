use Rattle.std.proofs.Common.{◌≡◌, ◌≢◌, ◌∙◌, ℕ, ◌+◌, ◌%◌, ◌<◌, All, List, ap, ap₂, drop, length, refl, subst, sym, take, arith}
use Rattle.std.proofs.lemmas.Bool.{eqb-false, eqb-true}
use Rattle.std.proofs.lemmas.List.{length-drop, length-take}
use Rattle.std.proofs.lemmas.List.Elements.{All-drop, All-take}
use Rattle.brick_rows.specs.Named.{centres_of_entries, triangles_of_entries}
use Rattle.cached_mesh.proofs.Counted.{centres_rest, few_centres, few_faces, none_left, same_counts, triangles_rest}
use Rattle.cached_mesh.proofs.counts.count_pages.Goals as goal

pub count_page-counts-requires-clause-cases : goal.count_page-counts-requires-clause-cases
count_page-counts-requires-clause-cases c =
    subst (All (λ e. e % 1024 < 656)) (sym c.front-in-loop-left.ensures)
    (All-take (λ e. e % 1024 < 656) 32 c.loop-left.left c.loop-left.invariant.cases)

-- those of the first page and of the rest
centres_split : (left front rest : List ℕ) → front ≡ take 32 left → rest ≡ drop 32 left
    → centres_of_entries front + centres_of_entries rest ≡ centres_of_entries left
centres_split left front rest f r = ap₂ (λ a b. centres_of_entries a + centres_of_entries b) f r ∙ centres_rest left 32

triangles_split : (left front rest : List ℕ) → front ≡ take 32 left → rest ≡ drop 32 left
    → triangles_of_entries front + triangles_of_entries rest ≡ triangles_of_entries left
triangles_split left front rest f r = ap₂ (λ a b. triangles_of_entries a + triangles_of_entries b) f r ∙ triangles_rest left 32

pub count_page-counts-requires-clause-centres : goal.count_page-counts-requires-clause-centres
count_page-counts-requires-clause-centres c =
    let split = centres_split c.loop-left.left c.front-in-loop-left.result.now (drop 32 c.loop-left.left) c.front-in-loop-left.ensures refl in
    omega (arith, split, c.loop-left.invariant.centres, c.requires.few, few_centres c.args.entries c.requires.cases)

pub count_page-counts-requires-clause-faces : goal.count_page-counts-requires-clause-faces
count_page-counts-requires-clause-faces c =
    let split = triangles_split c.loop-left.left c.front-in-loop-left.result.now (drop 32 c.loop-left.left) c.front-in-loop-left.ensures refl in
    omega (arith, split, c.loop-left.invariant.faces, c.requires.few, few_faces c.args.entries c.requires.cases)

pub loop-left-smaller : goal.loop-left-smaller
loop-left-smaller c =
    let front : length c.front.result.now ≡ length (take 32 c.loop-left.left) = ap length c.front.ensures in
    let rest : length c.rest-left.result ≡ length (drop 32 c.loop-left.left) = ap length c.rest-left.ensures in
    let some : length c.front.result.now ≢ 0 = eqb-false _ 0 (sym c.is_empty.ensures ∙ c.loop-left-test.true) in
    let fewer : length c.rest-left.result < length c.loop-left.left
    = omega (arith, some, front, rest, length-take 32 c.loop-left.left, length-drop 32 c.loop-left.left) in
    fewer

pub loop-left-preserved : goal.loop-left-preserved
loop-left-preserved c =
    let left : List ℕ = c.loop-left.left in
    let front = c.front-in-loop-left.ensures in
    let rest = c.rest-left.ensures in
    record {
      cases = subst (All (λ e. e % 1024 < 656)) (sym rest) (All-drop (λ e. e % 1024 < 656) 32 left c.loop-left.invariant.cases);
      centres = omega (arith, c.count_page-counts.ensures.centres, c.loop-left.invariant.centres, centres_split left _ _ front rest);
      faces = omega (arith, c.count_page-counts.ensures.faces, c.loop-left.invariant.faces, triangles_split left _ _ front rest);
    }

pub returns : goal.returns
returns c =
    let front : length c.front.result.now ≡ length (take 32 c.loop-left.left) = ap length c.front.ensures in
    let none : length c.front.result.now ≡ 0 = eqb-true _ _ (sym c.is_empty.ensures ∙ c.loop-left-test.false) in
    let end = none_left c.loop-left.left (omega (arith, none, front, length-take 32 c.loop-left.left)) in
    let centres : c.loop-left.counts.centres ≡ centres_of_entries c.args.entries = omega (arith, c.loop-left.invariant.centres, end.0) in
    let faces : c.loop-left.counts.faces ≡ triangles_of_entries c.args.entries = omega (arith, c.loop-left.invariant.faces, end.1) in
    same_counts _ _ centres faces
