use Rattle.std.proofs.Common.{rules, ◌≡◌, ℕ, ◌<◌, ◌^◌, true, false, List, length, map, get_or, set, arith, sym, subst, ap, ◌∙◌, not, eqb, ◌≤◌}
use Rattle.std.specs.List.{All, AllByRecursion, list_any}
use Rattle.std.proofs.lemmas.List.{length-map}
use Rattle.iso_defs.specs.Cell.{Triangle}
use Rattle.iso_defs.specs.Manifold.{HasThreeCorners, arcs, uses}
use Rattle.iso_base.specs.Triangles.{IsBelow, triangles_of}
use Rattle.arc_rings.specs.Arcs.{ArcBelow}
use Rattle.arc_rings.proofs.ArcLaws.{all_of, arcs_few, length_is}
use Rattle.mesh_report.specs.declared.tally.VertexTally.{VertexTally}
use Rattle.mesh_report.specs.Meetings.{AreCounted}
use Rattle.mesh_report.specs.Named.{named}
use Rattle.mesh_report.specs.Report.{component, components}
use Rattle.mesh_report.specs.Tallies.{HasRoom, nothing_of, tally_of, tally_of_all, tally_with}
use Rattle.mesh_report.proofs.BegunLaws.{IsFound, found, not_listed, ring_is, rings_size, used_is}
use Rattle.mesh_report.proofs.TallyLaws.{all_more, are_few, counted_all, each_more, each_same, has_room, ring_below, tally_found}
use Rattle.mesh_report.proofs.count.count_all.Goals as goal
use Rattle.mesh_report.proofs.count.count_all.Goals.{then-not-is_empty, else-not-is_empty}

pub arcs_round-arcs-requires : goal.arcs_round-arcs-requires
arcs_round-arcs-requires c =
    let n : ℕ = c.args.mesh.now.vertex_count in
    let ts : List Triangle = triangles_of c.args.mesh.now.triangles in
    let size : length c.args.rings.now ≡ n = rings_size n ts c.args.rings.now c.requires.rings in
    omega (arith, c.loop-v-test.true, c.loop-v.auto.v-end, c.vertex_count-v-end.ensures.value)

pub edges_from-edges-requires-clause-vertices : goal.edges_from-edges-requires-clause-vertices
edges_from-edges-requires-clause-vertices c =
    let n : ℕ = c.args.mesh.now.vertex_count in
    let ts : List Triangle = triangles_of c.args.mesh.now.triangles in
    let d : AllByRecursion HasThreeCorners ts = all_of HasThreeCorners c.args.mesh.now.triangles c.requires.different in
    let b : AllByRecursion (IsBelow n) ts = all_of (IsBelow n) c.args.mesh.now.triangles c.vertex_count-v-end.ensures.mesh in
    let v : ℕ = c.loop-v.v in
    let inside : v < n = omega (arith, c.loop-v-test.true, c.loop-v.auto.v-end, c.vertex_count-v-end.ensures.value) in
    let ring : c.arcs_round-arcs.result.now ≡ arcs ts v = c.arcs_round-arcs.ensures ∙ ring_is n ts c.args.rings.now c.requires.rings v inside in
    let marks : length c.loop-v.marks ≡ n = c.loop-v.auto.marks ∙ c.requires.marks in
    subst (λ k. All (ArcBelow k) c.arcs_round-arcs.result.now) (sym marks) (subst (All (ArcBelow n)) (sym ring) (ring_below n ts d b v))

pub edges_from-edges-requires-clause-few : goal.edges_from-edges-requires-clause-few
edges_from-edges-requires-clause-few c =
    let n : ℕ = c.args.mesh.now.vertex_count in
    let ts : List Triangle = triangles_of c.args.mesh.now.triangles in
    let d : AllByRecursion HasThreeCorners ts = all_of HasThreeCorners c.args.mesh.now.triangles c.requires.different in
    let b : AllByRecursion (IsBelow n) ts = all_of (IsBelow n) c.args.mesh.now.triangles c.vertex_count-v-end.ensures.mesh in
    let v : ℕ = c.loop-v.v in
    let inside : v < n = omega (arith, c.loop-v-test.true, c.loop-v.auto.v-end, c.vertex_count-v-end.ensures.value) in
    let ring : c.arcs_round-arcs.result.now ≡ arcs ts v = c.arcs_round-arcs.ensures ∙ ring_is n ts c.args.rings.now c.requires.rings v inside in
    let k : length ts ≡ length c.args.mesh.now.triangles = length_is c.args.mesh.now.triangles in
    let size : length c.arcs_round-arcs.result.now ≡ length (arcs ts v) = ap length ring in
    let few : length (arcs ts v) ≤ length ts = arcs_few ts v in
    omega (arith, c.requires.count)

pub with-total-requires : goal.with-total-requires
with-total-requires c =
    let n : ℕ = c.args.mesh.now.vertex_count in
    let ts : List Triangle = triangles_of c.args.mesh.now.triangles in
    let d : AllByRecursion HasThreeCorners ts = all_of HasThreeCorners c.args.mesh.now.triangles c.requires.different in
    let b : AllByRecursion (IsBelow n) ts = all_of (IsBelow n) c.args.mesh.now.triangles c.vertex_count-v-end.ensures.mesh in
    let v : ℕ = c.loop-v.v in
    let inside : v < n = omega (arith, c.loop-v-test.true, c.loop-v.auto.v-end, c.vertex_count-v-end.ensures.value) in
    let ring : c.arcs_round-arcs.result.now ≡ arcs ts v = c.arcs_round-arcs.ensures ∙ ring_is n ts c.args.rings.now c.requires.rings v inside in
    let marks : length c.loop-v.marks ≡ n = c.loop-v.auto.marks ∙ c.requires.marks in
    let counted : AreCounted n v (named (arcs ts v)) c.edges_from-edges.result
    = counted_all n (length c.loop-v.marks) v c.arcs_round-arcs.result.now (arcs ts v) c.edges_from-edges.result marks ring c.edges_from-edges.ensures.counted in
    let k : length ts ≡ length c.args.mesh.now.triangles = length_is c.args.mesh.now.triangles in
    let short : length ts < 2 ^ 31 = omega (arith, c.requires.count) in
    let low : n < 2 ^ 32 = search rules in
    subst (λ t. HasRoom t (length c.arcs_round-arcs.result.now) c.edges_from-edges.result) (sym c.loop-v.invariant.total)
    (has_room n ts d b v inside low short (tally_of_all n ts v) (are_few n ts d b 0 v (λ v. true) (omega arith)) c.arcs_round-arcs.result.now ring c.edges_from-edges.result counted)

pub bounds-places-names : goal.bounds-places-names
bounds-places-names c =
    let n : ℕ = c.args.mesh.now.vertex_count in
    let ts : List Triangle = triangles_of c.args.mesh.now.triangles in
    let d : AllByRecursion HasThreeCorners ts = all_of HasThreeCorners c.args.mesh.now.triangles c.requires.different in
    let b : AllByRecursion (IsBelow n) ts = all_of (IsBelow n) c.args.mesh.now.triangles c.vertex_count-v-end.ensures.mesh in
    let v : ℕ = c.loop-v.v in
    let inside : v < n = omega (arith, c.loop-v-test.true, c.loop-v.auto.v-end, c.vertex_count-v-end.ensures.value) in
    let ring : c.arcs_round-arcs.result.now ≡ arcs ts v = c.arcs_round-arcs.ensures ∙ ring_is n ts c.args.rings.now c.requires.rings v inside in
    let used : list_any (uses v) ts ≡ true = used_is ts v c.arcs_round-arcs.result.now ring c.is_empty.result c.is_empty.ensures ∙ ap not c.if-not-is_empty.true in
    let f : IsFound n ts c.args.names.now c.args.places.now v = found n ts c.args.names.now c.args.places.now c.requires.names c.requires.places v inside used in
    omega (arith, f.low, c.requires.size)

pub bounds-tallies-place : goal.bounds-tallies-place
bounds-tallies-place c =
    let n : ℕ = c.args.mesh.now.vertex_count in
    let ts : List Triangle = triangles_of c.args.mesh.now.triangles in
    let d : AllByRecursion HasThreeCorners ts = all_of HasThreeCorners c.args.mesh.now.triangles c.requires.different in
    let b : AllByRecursion (IsBelow n) ts = all_of (IsBelow n) c.args.mesh.now.triangles c.vertex_count-v-end.ensures.mesh in
    let v : ℕ = c.loop-v.v in
    let inside : v < n = omega (arith, c.loop-v-test.true, c.loop-v.auto.v-end, c.vertex_count-v-end.ensures.value) in
    let ring : c.arcs_round-arcs.result.now ≡ arcs ts v = c.arcs_round-arcs.ensures ∙ ring_is n ts c.args.rings.now c.requires.rings v inside in
    let used : list_any (uses v) ts ≡ true = used_is ts v c.arcs_round-arcs.result.now ring c.is_empty.result c.is_empty.ensures ∙ ap not c.if-not-is_empty.true in
    let f : IsFound n ts c.args.names.now c.args.places.now v = found n ts c.args.names.now c.args.places.now c.requires.names c.requires.places v inside used in
    let size : length c.loop-v.tallies ≡ length (components n ts) = ap length c.loop-v.invariant.each ∙ length-map (components n ts) (tally_of n ts v) in
    omega (arith, f.place)

pub with-requires : goal.with-requires
with-requires c =
    let n : ℕ = c.args.mesh.now.vertex_count in
    let ts : List Triangle = triangles_of c.args.mesh.now.triangles in
    let d : AllByRecursion HasThreeCorners ts = all_of HasThreeCorners c.args.mesh.now.triangles c.requires.different in
    let b : AllByRecursion (IsBelow n) ts = all_of (IsBelow n) c.args.mesh.now.triangles c.vertex_count-v-end.ensures.mesh in
    let v : ℕ = c.loop-v.v in
    let inside : v < n = omega (arith, c.loop-v-test.true, c.loop-v.auto.v-end, c.vertex_count-v-end.ensures.value) in
    let ring : c.arcs_round-arcs.result.now ≡ arcs ts v = c.arcs_round-arcs.ensures ∙ ring_is n ts c.args.rings.now c.requires.rings v inside in
    let marks : length c.loop-v.marks ≡ n = c.loop-v.auto.marks ∙ c.requires.marks in
    let counted : AreCounted n v (named (arcs ts v)) c.edges_from-edges.result
    = counted_all n (length c.loop-v.marks) v c.arcs_round-arcs.result.now (arcs ts v) c.edges_from-edges.result marks ring c.edges_from-edges.ensures.counted in
    let k : length ts ≡ length c.args.mesh.now.triangles = length_is c.args.mesh.now.triangles in
    let short : length ts < 2 ^ 31 = omega (arith, c.requires.count) in
    let low : n < 2 ^ 32 = search rules in
    let used : list_any (uses v) ts ≡ true = used_is ts v c.arcs_round-arcs.result.now ring c.is_empty.result c.is_empty.ensures ∙ ap not c.if-not-is_empty.true in
    let f : IsFound n ts c.args.names.now c.args.places.now v = found n ts c.args.names.now c.args.places.now c.requires.names c.requires.places v inside used in
    let k : ℕ = component n ts v in
    subst (λ t. HasRoom t (length c.arcs_round-arcs.result.now) c.edges_from-edges.result)
    (sym (tally_found n ts d b v (get_or c.args.places.now (get_or c.args.names.now v 0) 0) f.place f.here c.loop-v.tallies c.loop-v.invariant.each))
    (has_room n ts d b v inside low short (tally_of n ts v k) (are_few n ts d b k v (λ u. eqb (component n ts u) k) (omega arith)) c.arcs_round-arcs.result.now ring c.edges_from-edges.result counted)

pub bounds-tallies-place-then-not-is_empty : goal.bounds-tallies-place-then-not-is_empty
bounds-tallies-place-then-not-is_empty c =
    let n : ℕ = c.args.mesh.now.vertex_count in
    let ts : List Triangle = triangles_of c.args.mesh.now.triangles in
    let d : AllByRecursion HasThreeCorners ts = all_of HasThreeCorners c.args.mesh.now.triangles c.requires.different in
    let b : AllByRecursion (IsBelow n) ts = all_of (IsBelow n) c.args.mesh.now.triangles c.vertex_count-v-end.ensures.mesh in
    let v : ℕ = c.loop-v.v in
    let inside : v < n = omega (arith, c.loop-v-test.true, c.loop-v.auto.v-end, c.vertex_count-v-end.ensures.value) in
    let ring : c.arcs_round-arcs.result.now ≡ arcs ts v = c.arcs_round-arcs.ensures ∙ ring_is n ts c.args.rings.now c.requires.rings v inside in
    let used : list_any (uses v) ts ≡ true = used_is ts v c.arcs_round-arcs.result.now ring c.is_empty.result c.is_empty.ensures ∙ ap not c.if-not-is_empty.true in
    let f : IsFound n ts c.args.names.now c.args.places.now v = found n ts c.args.names.now c.args.places.now c.requires.names c.requires.places v inside used in
    let size : length c.loop-v.tallies ≡ length (components n ts) = ap length c.loop-v.invariant.each ∙ length-map (components n ts) (tally_of n ts v) in
    omega (arith, f.place)

pub loop-v-preserved : goal.loop-v-preserved
loop-v-preserved c =
    let n : ℕ = c.args.mesh.now.vertex_count in
    let ts : List Triangle = triangles_of c.args.mesh.now.triangles in
    let d : AllByRecursion HasThreeCorners ts = all_of HasThreeCorners c.args.mesh.now.triangles c.requires.different in
    let b : AllByRecursion (IsBelow n) ts = all_of (IsBelow n) c.args.mesh.now.triangles c.vertex_count-v-end.ensures.mesh in
    let v : ℕ = c.loop-v.v in
    let inside : v < n = omega (arith, c.loop-v-test.true, c.loop-v.auto.v-end, c.vertex_count-v-end.ensures.value) in
    let ring : c.arcs_round-arcs.result.now ≡ arcs ts v = c.arcs_round-arcs.ensures ∙ ring_is n ts c.args.rings.now c.requires.rings v inside in
    let marks : length c.loop-v.marks ≡ n = c.loop-v.auto.marks ∙ c.requires.marks in
    let counted : AreCounted n v (named (arcs ts v)) c.edges_from-edges.result
    = counted_all n (length c.loop-v.marks) v c.arcs_round-arcs.result.now (arcs ts v) c.edges_from-edges.result marks ring c.edges_from-edges.ensures.counted in
    let corners : length c.arcs_round-arcs.result.now ≡ length (arcs ts v) = ap length ring in
    record {
      clear = c.edges_from-edges.ensures.clear;
      total = c.with-total.ensures
          ∙ (ap (λ t. tally_with t (length c.arcs_round-arcs.result.now) c.edges_from-edges.result) c.loop-v.invariant.total
          ∙ (ap (λ k. tally_with (tally_of_all n ts v) k c.edges_from-edges.result) corners ∙ all_more n ts d b v c.edges_from-edges.result counted));
      each = elim c.if-not-is_empty.branch [
        | then-not-is_empty w ↦ (
            let used : list_any (uses v) ts ≡ true = used_is ts v c.arcs_round-arcs.result.now ring c.is_empty.result c.is_empty.ensures ∙ ap not w.if-not-is_empty.true in
            let f : IsFound n ts c.args.names.now c.args.places.now v = found n ts c.args.names.now c.args.places.now c.requires.names c.requires.places v inside used in
            let r : ℕ = get_or c.args.places.now (get_or c.args.names.now v 0) 0 in
            let t : VertexTally = get_or c.loop-v.tallies r (nothing_of 0) in
            w.tallies-is
            ∙ (ap (set c.loop-v.tallies r) (w.with.ensures ∙ ap (λ k. tally_with t k c.edges_from-edges.result) corners)
            ∙ each_more n ts d b v r f.place f.here c.edges_from-edges.result counted c.loop-v.tallies t c.loop-v.invariant.each
            (tally_found n ts d b v r f.place f.here c.loop-v.tallies c.loop-v.invariant.each)))
        | else-not-is_empty w ↦ (
            let unused : list_any (uses v) ts ≡ false = used_is ts v c.arcs_round-arcs.result.now ring c.is_empty.result c.is_empty.ensures ∙ ap not w.if-not-is_empty.false in
            w.tallies-is ∙ (c.loop-v.invariant.each ∙ each_same n ts d b v (components n ts) (not_listed n ts v inside unused)))
      ];
    }

pub returns-clause-total : goal.returns-clause-total
returns-clause-total c =
    let n : ℕ = c.args.mesh.now.vertex_count in
    let last : c.loop-v.v ≡ n = omega (arith, c.loop-v-test.false, c.loop-v.auto.v-end, c.vertex_count-v-end.ensures.value) in
    c.loop-v.invariant.total ∙ ap (tally_of_all n (triangles_of c.args.mesh.now.triangles)) last

pub returns-clause-each : goal.returns-clause-each
returns-clause-each c =
    let n : ℕ = c.args.mesh.now.vertex_count in
    let ts : List Triangle = triangles_of c.args.mesh.now.triangles in
    let last : c.loop-v.v ≡ n = omega (arith, c.loop-v-test.false, c.loop-v.auto.v-end, c.vertex_count-v-end.ensures.value) in
    c.loop-v.invariant.each ∙ ap (λ m. map (tally_of n ts m) (components n ts)) last
