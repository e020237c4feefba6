use Rattle.std.proofs.Common.{◌≡◌, ℕ, ◌-◌, rules, ℤ, List, w64, to_z, of_z, cond, get_or, set, length, map, ap, subst, arith}
use Rattle.std.proofs.lemmas.Int.{to_z-of_z}
use Rattle.std.proofs.lemmas.List.{length-map}
use Rattle.brick_rows.specs.Rows.{run_flags}
use Rattle.brick_rows.proofs.RunFlags.{last_flags, written_more}
use Rattle.brick_rows.proofs.flags.flag_run.Goals as goal

pub returns : goal.returns
returns g c = λ k low.
    let here : List ℤ = map g.T.Packed.value c.args.here.now in
    let up : List ℤ = map g.T.Packed.value c.args.up.now in
    let far : List ℤ = map g.T.Packed.value c.args.far.now in
    let i : ℕ = length c.args.here.now - 1 in
    let least : ℤ = to_z w64 (of_z w64 c.args.least) in
    let same : least ≡ c.args.least = search (rules, to_z-of_z) in
    subst (λ (s : ℤ). get_or (set c.flag_front.new.out i c.flags_of.result) k 0 ≡ run_flags s here up far k) same
    (written_more (run_flags least here up far) c.flag_front.new.out i c.flags_of.result (omega (arith, c.flag_front.auto.out))
    (last_flags least here up far i c.flags_of.result _ _ _ _ c.flags_of.ensures
    (ap (λ b. cond b 1 0) c.is_from-end.ensures) (ap (λ b. cond b 1 0) c.is_from.ensures) (ap (λ b. cond b 1 0) c.is_from-2.ensures)
    (omega (arith, length-map c.args.here.now g.T.Packed.value)) (ap (λ b. cond b 1 0) c.is_from-end.ensures))
    c.flag_front.ensures k (omega arith))
