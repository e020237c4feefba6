use Rattle.std.proofs.Common.{◌≡◌, ◌∙◌, ◌+◌, ◌/◌, ◌%◌, ◌^◌, ℕ, Bool, true, false, not, cond, List, ap, sym, get_or, map, eqb, arith, w32}
use lib.Lanes.{chunk}
use Rattle.std.proofs.lemmas.Bool.{eqb-true}
use Rattle.std.proofs.lemmas.List.{get_or-map, length-map}
use Rattle.std.proofs.lemmas.Simd.{bit_mask_l, bitmask_splat, get_or-chunk, length-chunk, mask_l-lt}
use Rattle.component_labels.specs.Fronts.{none}
use Rattle.component_labels.proofs.front.some_of.Goals as goal

-- whether a label is one
abbrev is_one : ℕ → Bool
is_one x = not (eqb x none)

no_bit : (b : Bool) → cond {A = ℕ} (not b) 1 0 ≡ 0 → b ≡ true
no_bit true e = λ i. true
no_bit false e = absurd (omega (arith, e))

pub returns-clause-bits : goal.returns-clause-bits
returns-clause-bits c k low unset =
    let xs = c.args.labels.now in
    let from = c.args.from in
    let v : List ℕ = chunk from 8 xs in
    let long = length-chunk from 8 xs c.requires in
    let mask = bitmask_splat w32 (λ a b. not (eqb a b)) v 8 none long (omega arith) in
    let bit = ap (λ m. m / 2 ^ k % 2) mask ∙ bit_mask_l (map is_one v) k in
    let one = get_or-map is_one v k 0 false (omega (arith, long, low)) ∙ ap is_one (get_or-chunk from 8 xs k 0 low) in
    eqb-true (get_or xs (from + k) 0) none (no_bit (eqb (get_or xs (from + k) 0) none) (ap (λ b. cond {A = ℕ} b 1 0) (sym one) ∙ (sym bit ∙ unset)))

pub returns-clause-bound : goal.returns-clause-bound
returns-clause-bound c =
    let v : List ℕ = chunk c.args.from 8 c.args.labels.now in
    let long = length-chunk c.args.from 8 c.args.labels.now c.requires in
    let mask = bitmask_splat w32 (λ a b. not (eqb a b)) v 8 none long (omega arith) in
    let size = length-map v is_one ∙ long in
    let low = mask_l-lt (map is_one v) in
    let same = ap (λ n. 2 ^ n) size in
    omega (arith, mask, low, same)
