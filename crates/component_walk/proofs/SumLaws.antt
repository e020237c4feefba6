-- Sums over lists, element by element.
use Rattle.std.proofs.Common.{◌≡◌, ◌∙◌, ℕ, suc, ◌+◌, ◌<◌, ◌≤◌, ℤ, pos, ◌+ℤ◌, List, [], ◌∷◌, ◌++◌, map, take, get_or, length, ap, arith}
use Rattle.std.proofs.lemmas.Int.{ints}
use Rattle.std.proofs.lemmas.List.{map-append, take_more}
use Rattle.std.proofs.lemmas.List.Sums.{sum_by-append, sum_by_push}
use Rattle.std.specs.List.{range_with_len, sum_by}
use Rattle.iso_defs.specs.Lists.{below}
use Rattle.measure_laws.specs.Vectors.{total}
use Rattle.measure_laws.proofs.Totals.{total-append}
use Rattle.mesh_report.proofs.NumberLaws.{range_more}
use Rattle.part_laws.proofs.Counted.{range_join}

pub total_more : {A : Type 0} (f : A → ℤ) (xs : List A) (i : ℕ) (d : A) → i < length xs → total f (take (i + 1) xs) ≡ total f (take i xs) +ℤ f (get_or xs i d)
total_more f xs i d l =
    ap (total f) (take_more xs i d l) ∙ (total-append f (take i xs) (get_or xs i d ∷ [])
    ∙ ap (λ n. total f (take i xs) +ℤ n) (let e : f (get_or xs i d) +ℤ pos 0 ≡ f (get_or xs i d) = omega (arith, ints) in e))

pub map_more : {A B : Type 0} (f : A → B) (xs : List A) (i : ℕ) (d : A) → i < length xs → map f (take (i + 1) xs) ≡ map f (take i xs) ++ f (get_or xs i d) ∷ []
map_more f xs i d l = ap (map f) (take_more xs i d l) ∙ map-append f (take i xs) (get_or xs i d ∷ [])

pub sum_more : (n : ℕ → ℕ) (k : ℕ) → sum_by n (below (k + 1)) ≡ sum_by n (below k) + n k
sum_more n k =
    ap (λ m. sum_by n (below m)) (let e : k + 1 ≡ suc k = omega arith in e)
    ∙ (ap (sum_by n) (range_more 0 k) ∙ (sum_by_push n (below k) (0 + k) ∙ ap (λ j. sum_by n (below k) + n j) (let e : 0 + k ≡ k = omega arith in e)))

-- the sum so far and the next are within the whole sum
pub sum_within : (n : ℕ → ℕ) (k j : ℕ) → sum_by n (below k) + n k ≤ sum_by n (below (k + 1 + j))
sum_within n k j =
    omega (arith, sum_more n k, ap (sum_by n) (range_join 0 (k + 1) j) ∙ sum_by-append n (below (k + 1)) (range_with_len (0 + (k + 1)) j))
