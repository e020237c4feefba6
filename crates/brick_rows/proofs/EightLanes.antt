-- Eight numbers as lanes.
use Rattle.std.proofs.Common.{◌≡◌, ◌∙◌, ℕ, ◌+◌, ◌-◌, ◌<◌, ◌≤◌, ◌^◌, Bool, true, false, cond, eqb, leb, List, All, map, length, get_or, replicate, ℤ, pos, negsuc, refl, sym, ap, ap₂, subst, arith, w8, w16, w32, Fits, SFits, of_z, to_z, zero-add}
use mir.Syntax.{Width}
use mir.Val.{bits, hbits}
use lib.Signed.{le_z}
use Rattle.std.specs.Simd.Lanes.{Each1, zip2, sel_l, top, put_chunk}
use Rattle.std.proofs.lemmas.Int.{ints, to_z-of_z}
use Rattle.std.proofs.lemmas.List.{get_or-map, length-map}
use Rattle.std.proofs.lemmas.Simd.{Each1-from_get_or, get_or-replicate, get_or-sel_l, get_or-zip2, length-sel_l, length-zip2, put_chunk_whole, tops_compared}
use Rattle.row_bits.proofs.Lanes.{apart_by, lane_sum, lanes_from, lanes_from_are, lanes_from_long, sum_is}
use Rattle.iso_base.specs.declared.kind.SampleKind.{SampleKind}
use Rattle.iso_base.specs.declared.kind.SampleKind.TheVariants.{I16, I32}
use Rattle.iso_base.specs.Volume.{IsOfKind, sample}
use Rattle.corner_signs.specs.Rows.{bit_from}
use Rattle.crossing_edges.specs.Signs.{flag_of}
use Rattle.brick_rows.specs.Rows.{AreEight, run_flags}
use Rattle.brick_rows.proofs.RunFlags.{inner_flags}

-- one of two numbers by a test of lanes
pub chosen : (w : Width) (t : ℕ → ℕ → Bool) (xs ys : List ℕ) (a b : ℕ) (number : ℕ → ℕ) → length xs ≡ 8 → length ys ≡ 8
    → ((i : ℕ) → i < 8 → cond (t (get_or xs i 0) (get_or ys i 0)) a b ≡ number i)
    → AreEight number (sel_l (map (top (hbits w)) (zip2 (λ a b. cond (t a b) (2 ^ bits w - 1) 0) xs ys)) (replicate 8 a) (replicate 8 b))
chosen w t xs ys a b number lx ly are =
    let tests : length (zip2 t xs ys) ≡ 8 = length-zip2 t xs ys (lx ∙ sym ly) ∙ lx in
    subst (λ ms. AreEight number (sel_l ms (replicate 8 a) (replicate 8 b))) (sym (tops_compared w t xs ys)) (record {
      count = length-sel_l (zip2 t xs ys) (replicate 8 a) (replicate 8 b) tests tests ∙ tests;
      each = λ i low.
          get_or-sel_l (zip2 t xs ys) (replicate 8 a) (replicate 8 b) i 0 (omega (arith, tests)) low low
          ∙ (ap₂ (cond (get_or (zip2 t xs ys) i false)) (get_or-replicate 8 i a 0 low) (get_or-replicate 8 i b 0 low)
          ∙ (ap (λ m. cond m a b) (get_or-zip2 t xs ys i 0 0 false (omega (arith, lx)) (omega (arith, ly))) ∙ are i low));
    })

-- the sign of each lane, as numbers of its width
abbrev pub lane_signs : Width → (ℕ → ℕ → Bool) → ℕ → List ℕ → List ℕ
lane_signs w t least lanes = sel_l (map (top (hbits w)) (zip2 (λ a b. cond (t a b) (2 ^ bits w - 1) 0) (replicate 8 least) lanes)) (replicate 8 1) (replicate 8 0)

lanes_are : (w : Width) (t : ℕ → ℕ → Bool) (least : ℕ) (lanes : List ℕ) → length lanes ≡ 8 → AreEight (λ i. cond (t least (get_or lanes i 0)) 1 0) (lane_signs w t least lanes)
lanes_are w t least lanes long =
    chosen w t (replicate 8 least) lanes 1 0 _ refl long (λ i low. ap (λ l. cond (t l (get_or lanes i 0)) 1 0) (get_or-replicate 8 i least 0 low))

-- they are bytes
sign_fits : (b : Bool) → Fits w8 (cond b 1 0)
sign_fits true = record { fits = omega arith }
sign_fits false = record { fits = omega arith }

pub signs_fit : (w : Width) (t : ℕ → ℕ → Bool) (least : ℕ) (lanes : List ℕ) → length lanes ≡ 8 → Each1 (Fits w8) (lane_signs w t least lanes)
signs_fit w t least lanes long =
    let are = lanes_are w t least lanes long in
    Each1-from_get_or (Fits w8) (lane_signs w t least lanes) 0 (λ i low. subst (Fits w8) (sym (are.each i (omega (arith, low, are.count)))) (sign_fits (t least (get_or lanes i 0))))

-- as bytes they are the same
pub narrowed : (f : ℕ → ℕ) (lanes : List ℕ) {number : ℕ → ℕ} → ((a : ℕ) → f a ≡ a) → AreEight number lanes → AreEight number (map f lanes)
narrowed f lanes same are = record {
  count = length-map lanes f ∙ are.count;
  each = λ i low. get_or-map f lanes i 0 0 (omega (arith, low, are.count)) ∙ (same (get_or lanes i 0) ∙ are.each i low);
}

-- those of numbers without a sign
pub signs_are : (w : Width) (run : List ℕ) (at least : ℕ) → at + 8 ≤ length run
    → AreEight (λ i. bit_from (pos least) (sample (map pos run) (at + i))) (lane_signs w leb least (lanes_from 8 run at))
signs_are w run at least room =
    let are = lanes_are w leb least (lanes_from 8 run at) (lanes_from_long 8 run at 0 room) in
    record {
      count = are.count;
      each = λ i low.
          are.each i low ∙ (ap (λ s. cond (leb least s) 1 0) (lanes_from_are 8 run at 0 room i low)
          ∙ ap (bit_from (pos least)) (sym (get_or-map pos run (at + i) 0 (pos 0) (omega arith))));
    }

-- numbers of a kind have a sign and so many bits
pub kind_fits : (w : Width) (kind : SampleKind) (run : List ℤ) → ((v : ℤ) → IsOfKind kind v → SFits w v) → All (IsOfKind kind) (map (λ v. v) run) → All (SFits w) run
kind_fits w kind run each fits k d low =
    each (get_or run k d) (subst (IsOfKind kind) (get_or-map (λ v. v) run k d d low) (fits k d (let l = length-map run (λ v. v) in omega (arith, l, low))))

pub of_sixteen : (v : ℤ) → IsOfKind I16 v → SFits w16 v
of_sixteen (pos n) is = let high = is.high in record { sfits = omega (arith, ints, high) }
of_sixteen (negsuc n) is = let low = is.low in record { sfits = omega (arith, ints, low) }

pub of_thirty_two : (v : ℤ) → IsOfKind I32 v → SFits w32 v
of_thirty_two (pos n) is = let high = is.high in record { sfits = omega (arith, ints, high) }
of_thirty_two (negsuc n) is = let low = is.low in record { sfits = omega (arith, ints, low) }

-- and with one, which lanes have as bits
abbrev pub at_most : Width → ℕ → ℕ → Bool
at_most w a b = le_z (to_z w a) (to_z w b)

module _ (w : Width) (run : List ℤ) (at : ℕ) (least : ℤ) (room : at + 8 ≤ length run) (fits : SFits w least) (all_fit : All (SFits w) run) where
  abbrev lanes : List ℕ
  lanes = map (of_z w) (lanes_from 8 run at)

  pub lanes_long : length lanes ≡ 8
  lanes_long = length-map (lanes_from 8 run at) (of_z w) ∙ lanes_from_long 8 run at (pos 0) room

  lane_is : (i : ℕ) → i < 8 → to_z w (get_or lanes i 0) ≡ get_or run (at + i) (pos 0)
  lane_is i low =
      let long = lanes_from_long 8 run at (pos 0) room in
      ap (to_z w) (get_or-map (of_z w) (lanes_from 8 run at) i (pos 0) 0 (omega (arith, low, long)) ∙ ap (of_z w) (lanes_from_are 8 run at (pos 0) room i low))
      ∙ to_z-of_z w (get_or run (at + i) (pos 0)) (all_fit (at + i) (pos 0) (omega arith))

  pub signed_are : AreEight (λ i. bit_from least (sample (map (λ v. v) run) (at + i))) (lane_signs w (at_most w) (of_z w least) lanes)
  signed_are =
      let are = lanes_are w (at_most w) (of_z w least) lanes lanes_long in
      record {
        count = are.count;
        each = λ i low.
            are.each i low ∙ (ap₂ (λ l s. cond (le_z l s) 1 0) (to_z-of_z w least fits) (lane_is i low)
            ∙ ap (bit_from least) (sym (get_or-map (λ v. v) run (at + i) (pos 0) (pos 0) (omega arith))));
      }

pub flags_are : (least : ℤ) (here up far : List ℤ) (signs next above behind right up_apart far_apart out : List ℕ) → 8 < length here → length out ≡ 8
    → AreEight (λ i. bit_from least (sample here (0 + i))) signs → AreEight (λ i. bit_from least (sample here (1 + i))) next
    → AreEight (λ i. bit_from least (sample up (0 + i))) above → AreEight (λ i. bit_from least (sample far (0 + i))) behind
    → AreEight (apart_by 1 signs next) right → AreEight (apart_by 2 signs above) up_apart → AreEight (apart_by 4 signs behind) far_apart
    → (i : ℕ) → i < 8 → get_or (put_chunk 0 out (zip2 lane_sum right (zip2 lane_sum up_apart far_apart))) i 0 ≡ run_flags least here up far i
flags_are least here up far signs next above behind right up_apart far_apart out more long s n a b r u f i low =
    let rest : length (zip2 lane_sum up_apart far_apart) ≡ 8 = length-zip2 lane_sum up_apart far_apart (u.count ∙ sym f.count) ∙ u.count in
    let all : length (zip2 lane_sum right (zip2 lane_sum up_apart far_apart)) ≡ 8 = length-zip2 lane_sum right _ (r.count ∙ sym rest) ∙ r.count in
    let lane : get_or (zip2 lane_sum right (zip2 lane_sum up_apart far_apart)) i 0 ≡ flag_of (get_or signs i 0) (get_or next i 0) (get_or above i 0) (get_or behind i 0)
    = get_or-zip2 lane_sum right (zip2 lane_sum up_apart far_apart) i 0 0 0 (omega (arith, r.count)) (omega (arith, rest))
    ∙ (ap₂ lane_sum (r.each i low) (get_or-zip2 lane_sum up_apart far_apart i 0 0 0 (omega (arith, u.count)) (omega (arith, f.count)) ∙ ap₂ lane_sum (u.each i low) (f.each i low))
    ∙ sum_is (eqb (get_or signs i 0) (get_or next i 0)) (eqb (get_or signs i 0) (get_or above i 0)) (eqb (get_or signs i 0) (get_or behind i 0))) in
    let point : 1 + i ≡ i + 1 = omega arith in
    let place : (run : List ℤ) → bit_from least (sample run (0 + i)) ≡ bit_from least (sample run i) = λ run. ap (λ k. bit_from least (sample run k)) (zero-add i) in
    ap (λ l. get_or l i 0) (put_chunk_whole out _ (long ∙ sym all))
    ∙ inner_flags least here up far i _ _ _ _ _ lane (s.each i low ∙ place here) (a.each i low ∙ place up) (b.each i low ∙ place far) (omega arith)
    (n.each i low ∙ ap (λ k. bit_from least (sample here k)) point)
