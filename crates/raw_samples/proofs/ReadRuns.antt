-- Lists of numbers that are written one by one, as the samples that they are.
use Rattle.std.proofs.Common.{◌≡◌, ℕ, ◌+◌, ◌<◌, ◌∙◌, ap, arith, List, length, map, get_or, set, ℤ, pos}
use Rattle.std.specs.List.{range_with_len}
use Rattle.std.proofs.lemmas.List.{length-map, map-set}
use Rattle.std.proofs.lemmas.List.Edits.{fill_by_more}
use Rattle.std.proofs.lemmas.List.FromFn.{get_or-map-range_with_len}

-- one more number is the sample of its place
pub one_more : {X : Type 0} (value : X → ℤ) (f : ℕ → ℤ) (xs : List X) (k : ℕ) (x : X) → k < length xs → value x ≡ f k
    → ((j : ℕ) → j < k → get_or (map value xs) j (pos 0) ≡ f j) → (j : ℕ) → j < k + 1 → get_or (map value (set xs k x)) j (pos 0) ≡ f j
one_more value f xs k x here same before j low =
    ap (λ (l : List ℤ). get_or l j (pos 0)) (map-set value xs k x ∙ ap (set (map value xs) k) same)
    ∙ fill_by_more f (map value xs) k (pos 0) (omega (arith, here, length-map xs value)) before j low

-- one of so many samples
pub one_of : (f : ℕ → ℤ) (n k : ℕ) → k < n → get_or (map f (range_with_len 0 n)) k (pos 0) ≡ f k
one_of f n k low = get_or-map-range_with_len f 0 n k k (pos 0) (omega (arith, low)) (omega arith)
