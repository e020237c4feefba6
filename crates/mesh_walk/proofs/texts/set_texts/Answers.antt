use Rattle.std.proofs.Common.{refl, ◌++◌, ◌∷◌, [], ◌∙◌, ap, decimal, arith}
use Rattle.std.proofs.lemmas.List.{length-set}
use Rattle.mesh_walk.proofs.TextSlots.{first_few, set_more}
use Rattle.mesh_walk.proofs.texts.set_texts.Goals as goal

pub set_next-requires : goal.set_next-requires
set_next-requires c = omega (arith, c.loop-k.invariant.next, first_few c.args.style.format, c.requires.few, c.loop-k-test.true)

pub loop-k-preserved : goal.loop-k-preserved
loop-k-preserved c =
    let low = c.requires.low c.loop-k.k 0 c.loop-k-test.true in
    record {
      are = set_more c.args.style.format c.args.number c.args.first c.args.edges.now c.args.texts.now c.loop-k.texts _ c.loop-k.k _ c.requires.apart c.loop-k-test.true low
          (omega (arith, low, c.requires.first, c.loop-k.invariant.long)) refl (c.set_next.ensures.text ∙ ap (λ n. decimal n ++ 32 ∷ []) c.loop-k.invariant.next) c.loop-k.invariant.are;
      long = length-set _ _ _ ∙ c.loop-k.invariant.long;
      next = omega (arith, c.set_next.ensures.next, c.loop-k.invariant.next);
    }
