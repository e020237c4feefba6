use Rattle.std.proofs.Common.{◌≡◌, ◌∙◌, ◌<◌, List, ℤ, pos, arith, drop, length, map, rules, subst, sym, take, to_z, of_z, w64}
use Rattle.std.proofs.lemmas.Int.{to_z-of_z}
use Rattle.std.proofs.lemmas.List.{ext_get_or, length-map}
use Rattle.samples.proofs.Lists.{more_mapped}
use Rattle.window_mesh.specs.Views.{InBox, boxed_list}
use Rattle.window_mesh.proofs.Viewing.{run_at, run_length}
use Rattle.window_mesh.proofs.view.BoxSamples.copy_each.Goals as goal

pub of-requires : goal.of-requires
of-requires g c =
    let b : InBox = c.args.self.now in
    let n = length c.args.into.now in
    let e : to_z w64 (of_z w64 c.sample.result) ≡ c.sample.result = search (rules, to_z-of_z) in
    subst g.T.Packed.Fits (run_at b c.args.start n c.loop-k.k c.loop-k-test.true c.requires.room ∙ sym c.sample.ensures ∙ sym e)
    (c.requires.fits c.loop-k.k (pos 0) (omega (arith, c.loop-k-test.true, run_length b c.args.start n c.requires.room)))

pub loop-k-preserved : goal.loop-k-preserved
loop-k-preserved g c =
    let b : InBox = c.args.self.now in
    let n = length c.args.into.now in
    let run : List ℤ = take n (drop c.args.start (boxed_list b)) in
    let e : to_z w64 (of_z w64 c.sample.result) ≡ c.sample.result = search (rules, to_z-of_z) in
    let here : c.loop-k.k < length c.loop-k.into = omega (arith, c.loop-k-test.true, c.loop-k.auto.into) in
    more_mapped g.T.Packed.value c.loop-k.into run c.loop-k.k c.of.result here
    (c.of.ensures ∙ e ∙ c.sample.ensures ∙ sym (run_at b c.args.start n c.loop-k.k c.loop-k-test.true c.requires.room)) c.loop-k.invariant

pub returns : goal.returns
returns g c =
    let b : InBox = c.args.self.now in
    let n = length c.args.into.now in
    let run : List ℤ = take n (drop c.args.start (boxed_list b)) in
    let size = length-map c.loop-k.into g.T.Packed.value in
    ext_get_or (pos 0) (map g.T.Packed.value c.loop-k.into) run (size ∙ c.loop-k.auto.into ∙ sym (run_length b c.args.start n c.requires.room))
    (λ j low. c.loop-k.invariant j (omega (arith, low, size, c.loop-k.auto.into, c.loop-k-test.false)))
