-- Pieces of bricks that are put into rows of samples.
use Rattle.std.proofs.Common.{◌≡◌, ℕ, ◌+◌, ◌-◌, ◌*◌, ◌<◌, ◌≤◌, List, ◌++◌, length, map, take, drop, sym, ap, ◌∙◌, arith, rules, inl, inr, eq-zero-or-pos, ℤ, pos}
use Rattle.std.specs.List.{drop-map, take-map}
use Rattle.std.proofs.lemmas.List.{map-append, places, get_or-take, get_or-drop, length-take-le, length-drop}
use borrow.Rule.Slice.PartMut.{put_mid}
use Rattle.std.proofs.Math.Nat.{mul-le-mul_left}
use Rattle.iso_base.specs.Volume.{sample}
use Rattle.unpadded_volume.specs.Rows.{ArePieces}

put_below : (a k : ℕ) (xs ys : List ℤ) (j : ℕ) → a ≤ length xs → j < a → sample (put_mid a k xs ys) j ≡ sample xs j
put_below a k xs ys j le lt = search (rules, places)

put_at : (a k : ℕ) (xs ys : List ℤ) (j : ℕ) → a ≤ length xs → j < length ys → sample (put_mid a k xs ys) (a + j) ≡ sample ys j
put_at a k xs ys j le lt = search (rules, places)

put_past : (a k : ℕ) (xs ys : List ℤ) (j : ℕ) → a ≤ length xs → length ys ≡ k → a + k ≤ j → sample (put_mid a k xs ys) j ≡ sample xs j
put_past a k xs ys j le size lt = search (rules, places)

-- the samples of a piece are a piece of the samples
pub piece_is : {T : Type 0} (value : T → ℤ) (packed : List T) (from n : ℕ) → map value (take n (drop from packed)) ≡ take n (drop from (map value packed))
piece_is value packed from n = sym (take-map value n (drop from packed)) ∙ ap (take n) (sym (drop-map value from packed))

-- the samples of a list in which a piece was put
pub map_put : {T : Type 0} (value : T → ℤ) (a k : ℕ) (xs ys : List T) → map value (put_mid a k xs ys) ≡ put_mid a k (map value xs) (map value ys)
map_put value a k xs ys =
    map-append value (take a xs) (ys ++ drop k (drop a xs))
    ∙ (ap (λ l. l ++ map value (ys ++ drop k (drop a xs))) (sym (take-map value a xs))
    ∙ ap (λ l. take a (map value xs) ++ l)
    (map-append value ys (drop k (drop a xs)) ∙ ap (λ l. map value ys ++ l) (sym (drop-map value k (drop a xs)) ∙ ap (drop k) (sym (drop-map value a xs)))))

-- a row ends before the next one begins
pub row_end : (width r rows : ℕ) → r < rows → width * r + width ≤ width * rows
row_end width r rows lt =
    let l : width * (r + 1) ≤ width * rows = mul-le-mul_left width (omega arith) in
    omega arith

-- the piece of one more row
pub piece_put : (copies old mid : List ℤ) (from count rows at width row k n source target : ℕ) → row < rows → at + count ≤ width → width * rows ≤ length mid
    → source ≡ from + 9 * row → source + count ≤ length copies → target ≡ width * row + at → k ≡ count → n ≡ count
    → ArePieces copies old mid from count row at width → ArePieces copies old (put_mid target k mid (take n (drop source copies))) from count (row + 1) at width
piece_put copies old mid from count rows at width row k n source target low fits room es inside et ek en h =
    let ends : width * row + width ≤ width * rows = row_end width row rows low in
    let start : target ≤ length mid = omega arith in
    record {
      copied = λ r i lr li.
          elim (eq-zero-or-pos (row - r)) [
            | inl z ↦ let e : r ≡ row = omega (arith, lr) in
                ap (sample (put_mid target k mid (take n (drop source copies)))) (here r i e) ∙ (put_at target k mid (take n (drop source copies)) i start (omega (arith, size, li)) ∙ (taken i li ∙ ap (sample copies) (there r i e)))
            | inr g ↦ put_below target k mid (take n (drop source copies)) (width * r + (at + i)) start (omega (arith, row_end width r row (omega arith), li)) ∙ h.copied r i (omega arith) li
          ];
      before = λ r i li.
          elim (eq-zero-or-pos (row - r)) [
            | inl z ↦ elim (eq-zero-or-pos (r - row)) [
              | inl y ↦ let e : r ≡ row = omega arith in
                  put_below target k mid (take n (drop source copies)) (width * r + i) start (omega (arith, ap (λ m. width * m) e)) ∙ h.before r i li
              | inr g ↦ put_past target k mid (take n (drop source copies)) (width * r + i) start (size ∙ sym ek) (omega (arith, row_end width row r (omega arith))) ∙ h.before r i li
            ]
            | inr g ↦ put_below target k mid (take n (drop source copies)) (width * r + i) start (omega (arith, row_end width r row (omega arith), li)) ∙ h.before r i li
          ];
    }
  where
    size : length (take n (drop source copies)) ≡ count
    size = length-take-le n (drop source copies) (omega (arith, length-drop source copies)) ∙ en

    taken : (i : ℕ) → i < count → sample (take n (drop source copies)) i ≡ sample copies (source + i)
    taken i li = get_or-take n (drop source copies) i (pos 0) (omega arith) ∙ get_or-drop source copies i (pos 0)

    here : (r i : ℕ) → r ≡ row → width * r + (at + i) ≡ target + i
    here r i e = omega (arith, et, ap (λ m. width * m) e)

    there : (r i : ℕ) → r ≡ row → source + i ≡ from + 9 * r + i
    there r i e = omega arith
