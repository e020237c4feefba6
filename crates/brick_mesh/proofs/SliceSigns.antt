-- The signs of a slice of cells of a brick, from its two slices of points.
use Rattle.std.proofs.Common.{◌≡◌, ◌∙◌, ◌≢◌, ℕ, ◌+◌, ◌*◌, ◌<◌, ◌≤◌, ℤ, List, [], length, map, get_or, set, take, drop, sym, ap, subst, arith, below_more, get_or-set_same, get_or-set_other}
use Rattle.std.proofs.lemmas.List.{length-map}
use Rattle.iso_defs.specs.Bricks.{bits_of}
use Rattle.iso_base.specs.Volume.{sample}
use Rattle.brick_store.specs.Copies.{AreCopiesOf}
use Rattle.samples.specs.Signs.{sign_of}
use Rattle.brick_mesh.specs.Block.{BrickAt}
use Rattle.brick_mesh.specs.Signs.{AreBytes, AreEight, ArePairs, byte_in, pair_in}
use Rattle.brick_mesh.proofs.Mixed.{byte_bits}
use Rattle.brick_mesh.proofs.RowSigns.{nine_paired, part_told}

-- from the signs of the copies of its two slices of points
module _ {X : Type 0} (b : BrickAt) (value : X → ℤ) (xs : List X) (signs : List ℕ) (from m z : ℕ) (level : ℤ)
    (are : AreCopiesOf b.grid b.samples b.brick (map value xs)) (at : from ≡ 81 * z) (many : m ≡ 162) (z-low : z < 8) (same : level ≡ b.level)
    (is : signs ≡ map (sign_of level) (map value (take m (drop from xs)))) where
  -- the pairs of a row of points of one of them
  pub slice_paired : (start y s : ℕ) (pairs : List ℕ) → y < 9 → z ≤ s → s ≤ z + 1 → start + 81 * z ≡ 9 * y + 81 * s
      → AreEight (λ x. pair_in signs (start + x)) pairs → ArePairs b y s pairs
  slice_paired start y s pairs y-low low high place eight =
      let long : length (map value xs) ≡ length xs = length-map xs value in
      nine_paired b (map value xs) signs start y s pairs y-low (omega arith) are
      (λ x h.
      (let here : from + (start + x) ≡ x + 9 * (y + 9 * s) = omega arith in
      part_told value xs b.level signs from 162 m (start + x) many (is ∙ ap (λ l. map (sign_of l) (map value (take m (drop from xs)))) same)
      (omega (arith, are.count, long)) (omega arith)
      ∙ ap (λ p. sign_of b.level (sample (map value xs) p)) here))
      eight

  -- the sign bytes of a row of cells
  pub slice_bytes : (y : ℕ) (near up far both bytes : List ℕ) → y < 8
      → ArePairs b y z near → ArePairs b (y + 1) z up → ArePairs b y (z + 1) far → ArePairs b (y + 1) (z + 1) both
      → ((x : ℕ) → x < 8 → get_or bytes x 0 ≡ byte_in near up far both x) → AreBytes b (y + 8 * z) bytes
  slice_bytes y near up far both bytes y-low n u f t each = λ x low there.
      ap (bits_of 8) (each x low)
      ∙ byte_bits b (8 * (y + 8 * z) + x) x y z near up far both there low y-low z-low (omega arith) n u f t

-- one more row of a slice has its sign bytes
pub bytes_more : (b : BrickAt) (z : ℕ) (rows : List (List ℕ)) (y : ℕ) (bytes : List ℕ) → y < length rows
    → ((k : ℕ) → k < y → AreBytes b (k + 8 * z) (get_or rows k [])) → AreBytes b (y + 8 * z) bytes
    → (k : ℕ) → k < y + 1 → AreBytes b (k + 8 * z) (get_or (set rows y bytes) k [])
bytes_more b z rows y bytes room before here =
    below_more (λ k. AreBytes b (k + 8 * z) (get_or (set rows y bytes) k [])) y
    (λ k h. let other : k ≢ y = omega arith in
    subst (AreBytes b (k + 8 * z)) (sym (get_or-set_other rows y k bytes [] other)) (before k h))
    (subst (AreBytes b (y + 8 * z)) (sym (get_or-set_same rows y bytes [] room)) here)
