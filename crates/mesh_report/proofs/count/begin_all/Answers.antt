use Rattle.std.proofs.Common.{◌≡◌, ℕ, ◌+◌, ◌<◌, ◌≤◌, ◌++◌, ◌∷◌, [], ◌&&◌, true, false, List, length, map, arith, sym, subst, ap, ◌∙◌, set, eqb}
use Rattle.std.specs.List.{list_any}
use Rattle.std.proofs.lemmas.List.{length-map}
use Rattle.iso_defs.specs.Cell.{Triangle}
use Rattle.iso_defs.specs.Manifold.{uses}
use Rattle.iso_base.specs.Triangles.{triangles_of}
use Rattle.mesh_report.specs.Places.{ArePlaces}
use Rattle.mesh_report.specs.Report.{component}
use Rattle.mesh_report.specs.Tallies.{nothing_of}
use Rattle.mesh_report.proofs.BegunLaws.{begun_few, begun_new, begun_same, components_all, components_below, placed_new}
use Rattle.mesh_report.proofs.count.begin_all.Goals as goal
use Rattle.mesh_report.proofs.count.begin_all.Goals.{then-is_smallest+in_ok-push, else-is_smallest}

pub overflow_cast-places : goal.overflow_cast-places
overflow_cast-places c =
    let n : ℕ = c.args.mesh.now.vertex_count in
    let ts : List Triangle = triangles_of c.args.mesh.now.triangles in
    let size : length c.loop-v.tallies.items ≡ length (components_below n ts c.loop-v.v) = ap length c.loop-v.invariant.tallies ∙ length-map (components_below n ts c.loop-v.v) nothing_of in
    let few : length (components_below n ts c.loop-v.v) ≤ c.loop-v.v = begun_few n ts c.loop-v.v in
    omega (arith, c.len.ensures, c.loop-v-test.true)

pub loop-v-preserved : goal.loop-v-preserved
loop-v-preserved c =
    let n : ℕ = c.args.mesh.now.vertex_count in
    let ts : List Triangle = triangles_of c.args.mesh.now.triangles in
    let v : ℕ = c.loop-v.v in
    let ks : List ℕ = components_below n ts v in
    let low : v < length c.loop-v.places = omega (arith, c.loop-v-test.true, c.loop-v.auto.v-end, c.loop-v.auto.places, c.requires.size, c.vertex_count-v-end.ensures.value) in
    elim c.if-is_smallest.branch [
      | then-is_smallest+in_ok-push w ↦ (
          let new : (list_any (uses v) ts && eqb (component n ts v) v) ≡ true = sym c.is_smallest.ensures ∙ w.if-is_smallest.true in
          let size : w.len.result ≡ length ks = omega (arith, w.len.ensures, ap length c.loop-v.invariant.tallies, length-map ks nothing_of) in
          record {
            tallies = ap (λ z. z.items) w.tallies-is ∙ (w.in_ok-push.ensures.items ∙ (ap (λ x. c.loop-v.tallies.items ++ x ∷ []) w.new.ensures ∙ begun_new n ts v new c.loop-v.tallies.items c.loop-v.invariant.tallies));
            placed = subst (ArePlaces (components_below n ts (v + 1))) (sym w.places-is)
                (subst (λ k. ArePlaces (components_below n ts (v + 1)) (set c.loop-v.places v k)) (sym size) (placed_new n ts v c.loop-v.places low c.loop-v.invariant.placed new));
          })
      | else-is_smallest w ↦ (
          let old : (list_any (uses v) ts && eqb (component n ts v) v) ≡ false = sym c.is_smallest.ensures ∙ w.if-is_smallest.false in
          record {
            tallies = ap (λ z. z.items) w.tallies-is ∙ (c.loop-v.invariant.tallies ∙ ap (map nothing_of) (begun_same n ts v old));
            placed = subst (ArePlaces (components_below n ts (v + 1))) (sym w.places-is) (subst (λ l. ArePlaces l c.loop-v.places) (begun_same n ts v old) c.loop-v.invariant.placed);
          })
    ]

pub returns-clause-tallies : goal.returns-clause-tallies
returns-clause-tallies c =
    let n : ℕ = c.args.mesh.now.vertex_count in
    let ts : List Triangle = triangles_of c.args.mesh.now.triangles in
    let last : c.loop-v.v ≡ n = omega (arith, c.loop-v-test.false, c.loop-v.auto.v-end, c.vertex_count-v-end.ensures.value) in
    c.loop-v.invariant.tallies ∙ ap (map nothing_of) (ap (components_below n ts) last ∙ components_all n ts)

pub returns-clause-places : goal.returns-clause-places
returns-clause-places c =
    let n : ℕ = c.args.mesh.now.vertex_count in
    let ts : List Triangle = triangles_of c.args.mesh.now.triangles in
    let last : c.loop-v.v ≡ n = omega (arith, c.loop-v-test.false, c.loop-v.auto.v-end, c.vertex_count-v-end.ensures.value) in
    subst (λ l. ArePlaces l c.loop-v.places) (ap (components_below n ts) last ∙ components_all n ts) c.loop-v.invariant.placed
