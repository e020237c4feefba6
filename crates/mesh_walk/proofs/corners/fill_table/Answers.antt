use Rattle.std.proofs.Common.{◌∙◌, ◌++◌, ◌∷◌, [], ap, ap₂, arith, get_or, map, subst, sym, take, ℕ, ◌≡◌}
use Rattle.std.proofs.lemmas.List.{map_more, take_all, take_more_set}
use Rattle.case_faces.specs.Faces.{all_corners}
use Rattle.case_faces.proofs.Tables.{all_count}
use Rattle.mesh_walk.proofs.corners.fill_table.Goals as goal

pub loop-k-preserved : goal.loop-k-preserved
loop-k-preserved c =
    let f : ℕ → ℕ = λ n. get_or c.args.slots.now n 0 in
    let k = c.loop-k.k in
    let same = c.face_corners-corners.ensures.value in
    record {
      put = take_more_set c.loop-k.table k _ (omega (arith, c.loop-k-test.true))
          ∙ (ap₂ (λ a b. a ++ f b ∷ []) c.loop-k.invariant.put (ap (λ l. get_or l k 0) same)
          ∙ sym (map_more f all_corners k 0 (omega (arith, c.loop-k-test.true, all_count))));
    }

pub returns : goal.returns
returns c =
    let f : ℕ → ℕ = λ n. get_or c.args.slots.now n 0 in
    let end : c.loop-k.k ≡ 13272 = omega (arith, c.loop-k-test.false, c.loop-k.auto.k-end) in
    subst (λ k. take k c.loop-k.table ≡ map f (take k all_corners)) end c.loop-k.invariant.put
    ∙ ap (map f) (take_all 13272 all_corners (omega (arith, all_count)))
