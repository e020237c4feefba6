-- Sixteen bytes as lanes.
use Rattle.std.proofs.Common.{◌≡◌, ◌∙◌, ℕ, ◌+◌, ◌<◌, ◌≤◌, false, cond, eqb, List, map, length, get_or, replicate, sym, ap, ap₂, subst, arith, w8}
use Rattle.std.specs.Simd.Lanes.{zip2, sel_l, top}
use Rattle.std.proofs.lemmas.Simd.{get_or-replicate, get_or-sel_l, get_or-zip2, length-sel_l, length-zip2, tops_compared}
use Rattle.row_bits.proofs.Lanes.{apart_by, lane_sum, lanes_from, lanes_from_are, lanes_from_long, sum_is}
use Rattle.crossing_edges.specs.Lanes.{AreSixteen}
use Rattle.crossing_edges.specs.Signs.{flag_of, inner_flag}

pub sixteen_are : (row : List ℕ) (at : ℕ) → at + 16 ≤ length row → AreSixteen (λ i. get_or row (at + i) 0) (lanes_from 16 row at)
sixteen_are row at room = record { count = lanes_from_long 16 row at 0 room; each = lanes_from_are 16 row at 0 room }

-- a number where two rows of lanes differ
pub apart_are : (a b : List ℕ) (number : ℕ) → length a ≡ 16 → length b ≡ 16
    → AreSixteen (apart_by number a b) (sel_l (map (top 7) (zip2 (λ a b. cond (eqb a b) 255 0) a b)) (replicate 16 0) (replicate 16 number))
apart_are a b number la lb =
    let tests : length (zip2 eqb a b) ≡ 16 = length-zip2 eqb a b (la ∙ sym lb) ∙ la in
    subst (λ ms. AreSixteen (apart_by number a b) (sel_l ms (replicate 16 0) (replicate 16 number))) (sym (tops_compared w8 eqb a b)) (record {
      count = length-sel_l (zip2 eqb a b) (replicate 16 0) (replicate 16 number) tests tests ∙ tests;
      each = λ i low.
          get_or-sel_l (zip2 eqb a b) (replicate 16 0) (replicate 16 number) i 0 (omega (arith, tests)) low low
          ∙ (ap₂ (cond (get_or (zip2 eqb a b) i false)) (get_or-replicate 16 i 0 0 low) (get_or-replicate 16 i number 0 low)
          ∙ ap (λ m. cond m 0 number) (get_or-zip2 eqb a b i 0 0 false (omega (arith, la)) (omega (arith, lb))));
    })

pub flags_are : (here up far : List ℕ) (at : ℕ) (signs next above behind right up_apart far_apart : List ℕ)
    → AreSixteen (λ i. get_or here (at + i) 0) signs → AreSixteen (λ i. get_or here (at + 1 + i) 0) next
    → AreSixteen (λ i. get_or up (at + i) 0) above → AreSixteen (λ i. get_or far (at + i) 0) behind
    → AreSixteen (apart_by 1 signs next) right → AreSixteen (apart_by 2 signs above) up_apart → AreSixteen (apart_by 4 signs behind) far_apart
    → (i : ℕ) → i < 16 → get_or (zip2 lane_sum right (zip2 lane_sum up_apart far_apart)) i 0 ≡ inner_flag here up far (at + i)
flags_are here up far at signs next above behind right up_apart far_apart s n a b r u f i low =
    let rest : length (zip2 lane_sum up_apart far_apart) ≡ 16 = length-zip2 lane_sum up_apart far_apart (u.count ∙ sym f.count) ∙ u.count in
    let lane : get_or (zip2 lane_sum right (zip2 lane_sum up_apart far_apart)) i 0 ≡ flag_of (get_or signs i 0) (get_or next i 0) (get_or above i 0) (get_or behind i 0)
    = get_or-zip2 lane_sum right (zip2 lane_sum up_apart far_apart) i 0 0 0 (omega (arith, r.count)) (omega (arith, rest))
    ∙ (ap₂ lane_sum (r.each i low) (get_or-zip2 lane_sum up_apart far_apart i 0 0 0 (omega (arith, u.count)) (omega (arith, f.count)) ∙ ap₂ lane_sum (u.each i low) (f.each i low))
    ∙ sum_is (eqb (get_or signs i 0) (get_or next i 0)) (eqb (get_or signs i 0) (get_or above i 0)) (eqb (get_or signs i 0) (get_or behind i 0))) in
    let point : at + 1 + i ≡ at + i + 1 = omega arith in
    lane
    ∙ (ap₂ (λ h n. flag_of h n (get_or above i 0) (get_or behind i 0)) (s.each i low) (n.each i low ∙ ap (λ k. get_or here k 0) point)
    ∙ ap₂ (flag_of (get_or here (at + i) 0) (get_or here (at + i + 1) 0)) (a.each i low) (b.each i low))
