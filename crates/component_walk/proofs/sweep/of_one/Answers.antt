use Rattle.std.proofs.Common.{◌≡◌, ◌∙◌, ℕ, ◌*◌, ◌<◌, ◌^◌, ℤ, List, All, true, sym, subst, ap, arith, unsigned_abs}
use Rattle.std.proofs.lemmas.Int.{ints}
use Rattle.iso_defs.specs.Cell.{cell_values, crosses, signs_of}
use Rattle.iso_defs.specs.Grid.{Grid}
use Rattle.iso_defs.specs.Place.{Position}
use Rattle.measure.specs.Measures.{coordinates, vector_of}
use Rattle.measure.proofs.Exact.{kept, stored}
use Rattle.measure_laws.specs.Vectors.{Vector, dot}
use Rattle.flat_mesh.specs.Cases.{values_at}
use Rattle.flat_mesh.specs.Faces.{AllCross}
use Rattle.flat_mesh.specs.Lattice.{Leveled, heights}
use Rattle.flat_mesh.proofs.Loops.{loop_crosses}
use Rattle.part_laws.specs.Swept.{six_of, swept}
use Rattle.component_walk.specs.Local.{listed, local_tip, local_vertex, moved, position_of}
use Rattle.component_walk.specs.Sums.{IsOneLoop, steps_on}
use Rattle.component_walk.specs.Sweep.{named_position, vector_at}
use Rattle.component_walk.proofs.LocalPlaces.{measured_is, six_is, swept_is}
use Rattle.component_walk.proofs.sweep.of_one.Goals as goal

-- a small number is the same in the wider type
widened : (x y : ℤ) → unsigned_abs x < 2 ^ 46 → y ≡ stored x → kept y ≡ x
widened x y h e = let same : stored x ≡ x = omega (arith, ints) in let near : unsigned_abs y < 2 ^ 46 = subst (λ z. unsigned_abs z < 2 ^ 46) (sym (e ∙ same)) h in omega (arith, ints, e, same)

pub round_of-requires-clause-crossing : goal.round_of-requires-clause-crossing
unfolding values_at
round_of-requires-clause-crossing g c =
    let v : Leveled = g.H.Heights.leveled c.args.field.now in
    let es : List ℕ = c.args.edges.now in
    let q : ℕ = c.args.cell.index in
    let one : IsOneLoop v q es = c.requires.there in
    subst (λ hs. All (λ e. crosses (signs_of hs) e ≡ true) es) (sym c.corner_heights.ensures.value) (subst (AllCross v q) one.edges_are (loop_crosses v q one.turn one.known)).each

pub six_over-six-requires-clause-tip : goal.six_over-six-requires-clause-tip
six_over-six-requires-clause-tip g c = c.moved_by.ensures.bound 1026000 1000 c.cell_position.ensures.bound c.round_of.ensures.bound

pub returns-clause-values : goal.returns-clause-values
unfolding values_at
returns-clause-values g c = λ l is.
    let v : Leveled = g.H.Heights.leveled c.args.field.now in
    let es : List ℕ = c.args.edges.now in
    let q : ℕ = c.args.cell.index in
    let low = c.args.cell.low in
    let corner : Position = (1000 * low.x, 1000 * low.y, 1000 * low.z) in
    let values : List ℤ = cell_values v.grid (heights v) q in
    let local : ℕ → Vector = λ e. vector_at (local_vertex values e) in
    let read : c.corner_heights.result ≡ values = c.corner_heights.ensures.value in
    let spanned : vector_of c.round_of.result.swept ≡ swept local es
    = ap vector_of (c.round_of.ensures.swept ∙ ap (λ hs. coordinates (swept (λ e. vector_at (local_vertex hs e)) es)) read) in
    let tip : c.round_of.result.tip ≡ listed (local_tip (local_vertex values) es) = c.round_of.ensures.tip ∙ ap (λ hs. listed (local_tip (local_vertex hs) es)) read in
    let moved_tip : position_of c.moved_by.result ≡ moved corner (local_tip (local_vertex values) es)
    = ap position_of c.moved_by.ensures.value
    ∙ (ap (λ p. moved (position_of p) (position_of c.round_of.result.tip)) c.cell_position.ensures.value ∙ ap (λ p. moved corner (position_of p)) tip) in
    let six : c.six_over-six.result ≡ six_of (named_position v) l
    = c.six_over-six.ensures.value
    ∙ (ap (λ (p : Position). dot (vector_at p) (vector_of c.round_of.result.swept)) moved_tip
    ∙ (ap (dot (vector_at (moved corner (local_tip (local_vertex values) es)))) spanned ∙ sym (six_is v c.args.cell c.requires.cell es c.requires.edges l is))) in
    let wide : kept c.from.result ≡ c.six_over-six.result = widened c.six_over-six.result c.from.result c.six_over-six.ensures.within c.from.ensures in
    let border : c.from-2.result ≡ steps_on v.grid q es = c.from-2.ensures ∙ (c.border_steps.ensures.value ∙ ap (λ (s : Grid). steps_on s q es) c.sizes-sizes.ensures.value) in
    measured_is v c.args.cell c.requires.cell es c.requires.edges l is
    record { six = kept c.from.result; area = c.round_of.result.swept; border = c.from-2.result }
    (wide ∙ six) (spanned ∙ sym (swept_is v c.args.cell c.requires.cell es c.requires.edges l is)) border
