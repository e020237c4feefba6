use Rattle.std.proofs.Common.{◌≡◌, rules, ℤ, List, w64, to_z, of_z, cond, get_or, map, ap, subst, arith}
use Rattle.std.proofs.lemmas.Int.{to_z-of_z}
use Rattle.std.proofs.lemmas.List.{length-map}
use Rattle.brick_rows.specs.Rows.{run_flags}
use Rattle.brick_rows.proofs.RunFlags.{inner_flags, written_more}
use Rattle.brick_rows.proofs.flags.flag_front.Goals as goal

pub loop-i-preserved : goal.loop-i-preserved
loop-i-preserved g c =
    let i = c.loop-i.i in
    let here : List ℤ = map g.T.Packed.value c.args.here.now in
    let up : List ℤ = map g.T.Packed.value c.args.up.now in
    let far : List ℤ = map g.T.Packed.value c.args.far.now in
    let least : ℤ = to_z w64 (of_z w64 c.args.least) in
    record {
      written = written_more (run_flags least here up far) c.loop-i.out i c.flags_of.result (omega arith)
          (inner_flags least here up far i c.flags_of.result _ _ _ _ c.flags_of.ensures
          (ap (λ b. cond b 1 0) c.loop-i.invariant.above) (ap (λ b. cond b 1 0) c.is_from.ensures) (ap (λ b. cond b 1 0) c.is_from-in-loop-i.ensures)
          (omega (arith, length-map c.args.here.now g.T.Packed.value)) (ap (λ b. cond b 1 0) c.is_from-next.ensures))
          c.loop-i.invariant.written;
      above = c.is_from-next.ensures;
    }

pub returns : goal.returns
returns g c = λ i low.
    let e : to_z w64 (of_z w64 c.args.least) ≡ c.args.least = search (rules, to_z-of_z) in
    subst (λ (s : ℤ). get_or c.loop-i.out i 0 ≡ run_flags s (map g.T.Packed.value c.args.here.now) (map g.T.Packed.value c.args.up.now) (map g.T.Packed.value c.args.far.now) i) e
    (c.loop-i.invariant.written i (omega arith))
