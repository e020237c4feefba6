use Rattle.std.proofs.Common.{◌≡◌, ℕ, ◌+◌, ◌%◌, ◌^◌, ◌<◌, ◌≤◌, Bool, true, false, cond, not, List, map, get_or, length, replicate, sym, ◌∙◌, ap, arith, eqb, refl, w8}
use Rattle.std.specs.Int.{bit_at}
use Rattle.std.proofs.lemmas.Bool.{eqb-true}
use Rattle.std.proofs.lemmas.List.{get_or-map}
use Rattle.std.proofs.lemmas.Nat.Bits.{bit_at-zero}
use Rattle.std.proofs.lemmas.Simd.{bit_mask_l, bitmask_splat, get_or-chunk, length-chunk}
use lib.Lanes.{chunk, mask_l, top, zip2}
use Rattle.row_bits.proofs.edges.is_still.Goals as goal

-- where no bit of the mask is set, no lane differs from 0
all_zero : (flags : List ℕ) (from k : ℕ) → from + 32 ≤ length flags → k < 32
    → eqb (mask_l (map (top 7) (zip2 (λ a b. cond (not (eqb a b)) 255 0) (chunk from 32 flags) (replicate 32 0))) % 2 ^ 64) 0 ≡ true
    → get_or flags (from + k) 0 ≡ 0
all_zero flags from k room low none =
    let v = chunk from 32 flags in
    let long = length-chunk from 32 flags room in
    let bits = bitmask_splat w8 (λ a b. not (eqb a b)) v 32 0 long (omega arith) in
    let empty : mask_l (map (λ x. not (eqb x 0)) v) ≡ 0 = sym bits ∙ eqb-true _ 0 none in
    let bit = sym (bit_mask_l (map (λ x. not (eqb x 0)) v) k) ∙ (ap (λ n. bit_at n k) empty ∙ bit_at-zero k) in
    let lane = get_or-map (λ x. not (eqb x 0)) v k 0 false (omega (arith, low, long)) in
    sym (get_or-chunk from 32 flags k 0 low) ∙ zero_by (get_or v k 0) (eqb (get_or v k 0) 0) refl (sym (ap (λ b. cond b 1 0) lane) ∙ bit)
  where
    zero_by : (n : ℕ) (b : Bool) → eqb n 0 ≡ b → cond {A = ℕ} (not b) 1 0 ≡ 0 → n ≡ 0
    zero_by n true e h = eqb-true n 0 e
    zero_by n false e h = absurd (omega (arith, h))

pub returns : goal.returns
returns c none k low = all_zero c.args.flags.now c.args.from k c.requires low none
