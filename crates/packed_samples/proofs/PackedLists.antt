-- Lists of numbers as the samples that they stand for.
use Rattle.std.proofs.Common.{◌≡◌, ℕ, ◌+◌, ◌≤◌, ◌∙◌, ℤ, sym, ap, ap₂, refl, suc, zero, arith, List, length, map, take, drop, ◌++◌, pos, replicate, ◌∷◌}
use Rattle.std.proofs.lemmas.List.{length-map, length-append, length-take-le, length-drop, map-append, take-append-le, take_all, drop-drop}
use Rattle.std.specs.List.{drop-map, take-map}
use Rattle.packed_samples.specs.Runs.{row_set}

module _ {T : Type 0} (value : T → ℤ) where
  -- numbers that are replaced from a place on are samples that are
  pub map-row_set : (start : ℕ) (new before : List T) → map value (take start before ++ (new ++ drop (start + length new) before)) ≡ row_set start (map value new) (map value before)
  map-row_set start new before =
      let end : start + length new ≡ start + length (map value new) = ap (λ n. start + n) (sym (length-map new value)) in
      let rest : map value (drop (start + length new) before) ≡ drop (start + length (map value new)) (map value before)
      = sym (drop-map value (start + length new) before) ∙ ap (λ n. drop n (map value before)) end in
      let tail : map value (new ++ drop (start + length new) before) ≡ map value new ++ drop (start + length (map value new)) (map value before)
      = map-append value new (drop (start + length new) before) ∙ ap (λ l. map value new ++ l) rest in
      map-append value (take start before) (new ++ drop (start + length new) before) ∙ ap₂ (λ p q. p ++ q) (sym (take-map value start before)) tail

  -- the list with a part written, of which the rest is what was lent
  abbrev with_part : ℕ → ℕ → List T → List T → List T
  with_part start n new lent = take start lent ++ (new ++ drop n (drop start lent))

  -- what a list is once a part of it was lent and written
  pub map-written : (start n len : ℕ) (new before lent : List T) → lent ≡ before → length new ≡ n → start + n ≤ length before → len ≡ length before
      → map value (take len (with_part start n new lent ++ drop (length (with_part start n new lent)) before)) ≡ row_set start (map value new) (map value before)
  map-written start n len new before lent is count room whole =
      let all = with_part start n new before in
      let rest : drop n (drop start before) ≡ drop (start + length new) before = drop-drop n start before ∙ ap (λ k. drop k before) (omega (arith, count)) in
      let front = length-append (take start before) (new ++ drop n (drop start before)) in
      let back = length-append new (drop n (drop start before)) in
      let size : length all ≡ len = omega (arith, front, back, count, length-take-le start before (omega (arith, room)), length-drop n (drop start before), length-drop start before) in
      ap (λ l. map value (take len (with_part start n new l ++ drop (length (with_part start n new l)) before))) is
      ∙ ap (map value) (take-append-le len all (drop (length all) before) (omega (arith, size)) ∙ ap (λ k. take k all) (sym size) ∙ take_all (length all) all (omega arith))
      ∙ ap (λ l. map value (take start before ++ (new ++ l))) rest
      ∙ map-row_set start new before

  -- numbers that stand for 0 are samples that are zeros
  pub map-zeros : (zero_number : T) → value zero_number ≡ pos 0 → (n : ℕ) → map value (replicate n zero_number) ≡ replicate n (pos 0)
  map-zeros zero_number is zero = refl
  map-zeros zero_number is (suc n) = ap₂ (λ v l. v ∷ l) is (map-zeros zero_number is n)
