use Rattle.std.proofs.Common.{◌≡◌, ℕ, ◌+◌, ◌-◌, ◌%◌, ◌^◌, ◌<◌, ◌≤◌, Bool, true, false, cond, not, List, map, get_or, length, min, ◌∙◌, ap, ap₂, refl, arith, eqb, bit_and, replicate, w16, if◌then◌else◌}
use Rattle.std.specs.Int.{bit_at}
use Rattle.std.proofs.lemmas.List.{get_or-map}
use Rattle.std.proofs.lemmas.Nat.Bits.{bit_at_and, bit_at_ones, bit_at_ones_above}
use Rattle.std.proofs.lemmas.Simd.{bit_mask_l, bitmask_splat, get_or-chunk, length-chunk}
use lib.Lanes.{chunk, mask_l, top, zip2}
use Rattle.row_bits.proofs.active.group_bits.Goals as goal

-- the bit of a lane
lane_bit : (cases : List ℕ) (from k : ℕ) → from + 32 ≤ length cases → k < 32
    → bit_at (mask_l (map (λ x. not (eqb x 0)) (chunk from 32 cases))) k ≡ (if eqb (get_or cases (from + k) 0) 0 then 0 else 1)
lane_bit cases from k room low =
    let v = chunk from 32 cases in
    let long = length-chunk from 32 cases room in
    bit_mask_l (map (λ x. not (eqb x 0)) v) k
    ∙ (ap (λ b. cond b 1 0) (get_or-map (λ x. not (eqb x 0)) v k 0 false (omega (arith, low, long)) ∙ ap (λ x. not (eqb x 0)) (get_or-chunk from 32 cases k 0 low))
    ∙ turned (eqb (get_or cases (from + k) 0) 0))
  where
    turned : (b : Bool) → cond {A = ℕ} (not b) 1 0 ≡ (if b then 0 else 1)
    turned true = refl
    turned false = refl

masked : (cases : List ℕ) (from count mask k : ℕ) → from + 32 ≤ length cases → count ≤ 32 → mask ≡ 2 ^ count - 1 → k < count
    → bit_at (bit_and (mask_l (map (top 15) (zip2 (λ a b. cond (not (eqb a b)) 65535 0) (chunk from 32 cases) (replicate 32 0))) % 2 ^ 64) mask) k
    ≡ (if eqb (get_or cases (from + k) 0) 0 then 0 else 1)
masked cases from count mask k room few is low =
    let bits = bitmask_splat w16 (λ a b. not (eqb a b)) (chunk from 32 cases) 32 0 (length-chunk from 32 cases room) (omega arith) in
    bit_at_and _ mask k
    ∙ (ap₂ min (ap (λ n. bit_at n k) bits ∙ lane_bit cases from k room (omega (arith, low, few))) (ap (λ n. bit_at n k) is ∙ bit_at_ones count k low)
    ∙ one_of (eqb (get_or cases (from + k) 0) 0))
  where
    one_of : (b : Bool) → min (if b then 0 else 1) 1 ≡ (if b then 0 else 1)
    one_of true = omega arith
    one_of false = omega arith

pub returns-clause-inside : goal.returns-clause-inside
returns-clause-inside c k low = masked c.args.cases.now c.args.from c.args.count c.low_bits.result k (omega (arith, c.requires.room)) c.requires.few c.low_bits.ensures low

pub returns-clause-behind : goal.returns-clause-behind
returns-clause-behind c k most = bit_at_and _ c.low_bits.result k ∙ none _ _ (ap (λ n. bit_at n k) c.low_bits.ensures ∙ bit_at_ones_above c.args.count k most)
  where
    none : (a b : ℕ) → b ≡ 0 → min a b ≡ 0
    none a b e = omega (arith, e)
