-- Numbers in order, piece by piece.
use Rattle.std.proofs.Common.{◌≡◌, ℕ, zero, suc, ◌+◌, ◌*◌, ◌∷◌, ◌++◌, sym, ◌∙◌, ap, arith, add-zero, zero-add}
use Rattle.std.specs.List.{flat_map, range_with_len}

-- m + n numbers are m numbers and the n that follow
pub range_append : (a m n : ℕ) → range_with_len a (m + n) ≡ range_with_len a m ++ range_with_len (a + m) n
range_append a zero n = ap (range_with_len a) (zero-add n) ∙ ap (λ b. range_with_len b n) (sym (add-zero a))
range_append a (suc m) n =
    ap (range_with_len a) (suc_out m n)
    ∙ ap (λ l. a ∷ l) (range_append (a + 1) m n ∙ ap (λ b. range_with_len (a + 1) m ++ range_with_len b n) (shift a m))
  where
    suc_out : (m n : ℕ) → suc m + n ≡ suc (m + n)
    suc_out m n = omega arith

    shift : (a m : ℕ) → a + 1 + m ≡ a + suc m
    shift a m = omega arith

-- the numbers of m rows of k each
pub rows_of_range : (b m k : ℕ) → flat_map (λ r. range_with_len (r * k) k) (range_with_len b m) ≡ range_with_len (b * k) (m * k)
rows_of_range b zero k = ap (range_with_len (b * k)) (sym (none k))
  where
    none : (k : ℕ) → 0 * k ≡ 0
    none k = omega arith
rows_of_range b (suc m) k =
    ap (λ l. range_with_len (b * k) k ++ l) (rows_of_range (b + 1) m k ∙ ap (λ a. range_with_len a (m * k)) (next b k))
    ∙ (sym (range_append (b * k) k (m * k)) ∙ ap (range_with_len (b * k)) (more m k))
  where
    next : (b k : ℕ) → (b + 1) * k ≡ b * k + k
    next b k = omega arith

    more : (m k : ℕ) → k + m * k ≡ suc m * k
    more m k = omega arith
