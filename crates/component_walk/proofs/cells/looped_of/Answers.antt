use Rattle.std.proofs.Common.{◌≡◌, ◌∙◌, ◌+◌, ◌^◌, ◌<◌, ◌≤◌, ◌⊎◌, ℕ, zero, suc, Bool, true, false, not, cond, List, [], ap, ap₂, refl, sym, get_or, length, map, min, eqb, inl, inr, arith, bit_and, w16}
use lib.Lanes.{chunk, mask_l}
use Rattle.std.specs.Int.{bit_at}
use Rattle.std.proofs.lemmas.Bool.{eq-eqb, eqb-true}
use Rattle.std.proofs.lemmas.List.{get_or-map, length-map}
use Rattle.std.proofs.lemmas.Nat.{and_le_l}
use Rattle.std.proofs.lemmas.Nat.Bits.{bit_at_and}
use Rattle.std.proofs.lemmas.Simd.{bit_mask_l, bitmask_splat, get_or-chunk, length-chunk, mask_l-lt}
use Rattle.case_table.specs.Cases.{case_at, cases}
use Rattle.cell_loops.specs.Loops.{row_loops}
use Rattle.component_walk.proofs.cells.looped_of.Goals as goal

first_empty : row_loops 0 ≡ []
unfolding row_loops case_at cases
first_empty = refl

last_empty : row_loops 655 ≡ []
unfolding row_loops case_at cases
last_empty = refl

abbrev differs : ℕ → ℕ → Bool
differs y x = not (eqb x y)

no_bit : (x y : ℕ) (b : Bool) → eqb x y ≡ b → cond {A = ℕ} (not b) 1 0 ≡ 0 → x ≡ y
no_bit x y true e z = eqb-true x y e
no_bit x y false e z = absurd (omega (arith, z))

either : (a b : ℕ) → min a b ≡ 0 → (a ≡ 0) ⊎ (b ≡ 0)
either zero b e = inl refl
either (suc a) zero e = inr refl
either (suc a) (suc b) e = absurd (omega (arith, e))

unset_both : (a b k : ℕ) → bit_at a k ≡ 0 → bit_at (bit_and a b) k ≡ 0
unset_both a b k e = bit_at_and a b k ∙ least (bit_at a k) (bit_at b k) e
  where
    least : (m n : ℕ) → m ≡ 0 → min m n ≡ 0
    least m n e = omega (arith, e)

module _ (xs : List ℕ) (from : ℕ) (inside : from + 8 ≤ length xs) where
  abbrev v : List ℕ
  v = chunk from 8 xs

  long : length v ≡ 8
  long = length-chunk from 8 xs inside

  -- where the mask has no bit for a lane, the lane is the number
  pub same_lane : (y m k : ℕ) → m ≡ mask_l (map (differs y) v) → k < 8 → bit_at m k ≡ 0 → get_or xs (from + k) 0 ≡ y
  same_lane y m k is low unset =
      let bit : bit_at m k ≡ cond (get_or (map (differs y) v) k false) 1 0 = ap (λ m. bit_at m k) is ∙ bit_mask_l (map (differs y) v) k in
      let lane : get_or (map (differs y) v) k false ≡ differs y (get_or xs (from + k) 0)
      = get_or-map (differs y) v k 0 false (omega (arith, long, low)) ∙ ap (differs y) (get_or-chunk from 8 xs k 0 low) in
      no_bit (get_or xs (from + k) 0) y (eqb (get_or xs (from + k) 0) y) refl (ap (λ b. cond {A = ℕ} b 1 0) (sym lane) ∙ (sym bit ∙ unset))

  -- and where the lane is the number, the mask has no bit
  pub no_lane : (y m k : ℕ) → m ≡ mask_l (map (differs y) v) → k < 8 → get_or xs (from + k) 0 ≡ y → bit_at m k ≡ 0
  no_lane y m k is low same =
      let bit : bit_at m k ≡ cond (get_or (map (differs y) v) k false) 1 0 = ap (λ m. bit_at m k) is ∙ bit_mask_l (map (differs y) v) k in
      let lane : get_or (map (differs y) v) k false ≡ differs y (get_or xs (from + k) 0)
      = get_or-map (differs y) v k 0 false (omega (arith, long, low)) ∙ ap (differs y) (get_or-chunk from 8 xs k 0 low) in
      bit ∙ (ap (λ b. cond {A = ℕ} b 1 0) lane ∙ ap (λ b. cond {A = ℕ} (not b) 1 0) (eq-eqb (get_or xs (from + k) 0) y same))

  pub mask_low : (y : ℕ) → mask_l (map (differs y) v) < 256
  mask_low y =
      let low = mask_l-lt (map (differs y) v) in
      let size : 2 ^ length (map (differs y) v) ≡ 2 ^ 8 = ap (λ n. 2 ^ n) (length-map v (differs y) ∙ long) in
      omega (arith, low, size)

pub returns-clause-bits : goal.returns-clause-bits
returns-clause-bits c k low unset =
    let xs = c.args.cases.now in
    let from = c.args.from in
    let first = bitmask_splat w16 (λ a b. not (eqb a b)) (v xs from c.requires.inside) 8 0 (long xs from c.requires.inside) (omega arith) in
    let last = bitmask_splat w16 (λ a b. not (eqb a b)) (v xs from c.requires.inside) 8 655 (long xs from c.requires.inside) (omega arith) in
    elim (either _ _ (sym (bit_at_and _ _ k) ∙ unset)) [
      | inl e ↦ ap row_loops (same_lane xs from c.requires.inside 0 _ k first low e) ∙ first_empty
      | inr e ↦ ap row_loops (same_lane xs from c.requires.inside 655 _ k last low e) ∙ last_empty
    ]

pub returns-clause-none : goal.returns-clause-none
returns-clause-none c k low zero_is =
    let xs = c.args.cases.now in
    let from = c.args.from in
    let first = bitmask_splat w16 (λ a b. not (eqb a b)) (v xs from c.requires.inside) 8 0 (long xs from c.requires.inside) (omega arith) in
    unset_both _ _ k (no_lane xs from c.requires.inside 0 _ k first low zero_is)

pub returns-clause-bound : goal.returns-clause-bound
returns-clause-bound c =
    let xs = c.args.cases.now in
    let from = c.args.from in
    let first = bitmask_splat w16 (λ a b. not (eqb a b)) (v xs from c.requires.inside) 8 0 (long xs from c.requires.inside) (omega arith) in
    let last = bitmask_splat w16 (λ a b. not (eqb a b)) (v xs from c.requires.inside) 8 655 (long xs from c.requires.inside) (omega arith) in
    let both = ap₂ bit_and first last in
    omega (arith, both, mask_low xs from c.requires.inside 0, and_le_l (mask_l (map (differs 0) (v xs from c.requires.inside))) (mask_l (map (differs 655) (v xs from c.requires.inside))))
