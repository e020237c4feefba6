-- Entries stand in ascending order.
use Rattle.std.proofs.Common.{All, ◌≡◌, ◌∙◌, ℕ, zero, suc, ◌+◌, ◌*◌, ◌<◌, ◌≤◌, Bool, true, false, cond, List, ◌∷◌, length, get_or, sym, ap, subst, arith, ltb}
use Rattle.std.specs.List.Sorted.{IsPartitionedBy}
use Rattle.std.proofs.lemmas.Bool.{lt-ltb, ltb-true}
use Rattle.std.proofs.lemmas.List.Elements.{All-cons, All-nil}
use Rattle.iso_defs.specs.Bricks.{entries}
use Rattle.brick_mesh.specs.Block.{BrickAt, heights}
use Rattle.brick_mesh.specs.Entries.{entries_from, entry_of}
use Rattle.brick_mesh.proofs.Runs.{entries_all, is_active_in}
use Rattle.cached_mesh.proofs.EntryRuns.{none, small, step}

-- a number before greater ones
with_less : (least x : ℕ) (xs : List ℕ) → ((k d : ℕ) → k < length xs → x ≤ get_or xs k d) → IsPartitionedBy (λ e. ltb e least) xs
    → IsPartitionedBy (λ e. ltb e least) (x ∷ xs)
with_less least x xs low is zero zero d le lt p = p
with_less least x xs low is zero (suc j) d le lt p =
    lt-ltb x least (let a = low j d (omega arith) in let b : get_or xs j d < least = ltb-true (get_or xs j d) least p in omega arith)
with_less least x xs low is (suc i) zero d le lt p = absurd (omega arith)
with_less least x xs low is (suc i) (suc j) d le lt p = is i j d (omega arith) (omega arith) p

module _ (b : BrickAt) where
  -- entries of later cells are not less
  not_less : (first n k d : ℕ) → k < length (entries_from b first n) → 1024 * first ≤ get_or (entries_from b first n) k d
  not_less first zero k d low = absurd (let e : length (entries_from b first 0) ≡ 0 = ap length (none b first) in omega arith)
  not_less first (suc n) k d low =
      subst (λ l. 1024 * first ≤ get_or l k d) (sym (step b first n))
      (by_test (λ k l. not_less (first + 1) n k d l) (is_active_in b first) k (subst (λ l. k < length l) (step b first n) low))
    where
      by_test : ((k : ℕ) → k < length (entries_from b (first + 1) n) → 1024 * (first + 1) ≤ get_or (entries_from b (first + 1) n) k d)
          → (t : Bool) (k : ℕ) → k < length (cond t (entry_of b first ∷ entries_from b (first + 1) n) (entries_from b (first + 1) n))
          → 1024 * first ≤ get_or (cond t (entry_of b first ∷ entries_from b (first + 1) n) (entries_from b (first + 1) n)) k d
      by_test later true zero low = omega (arith, small b first)
      by_test later true (suc k) low = (let l = later k (omega arith) in omega arith)
      by_test later false k low = (let l = later k low in omega arith)

  parted_from : (least first n : ℕ) → IsPartitionedBy (λ e. ltb e least) (entries_from b first n)
  parted_from least first zero = λ i j d le low p. absurd (let e : length (entries_from b first 0) ≡ 0 = ap length (none b first) in omega arith)
  parted_from least first (suc n) =
      subst (IsPartitionedBy (λ e. ltb e least)) (sym (step b first n)) (by_test (parted_from least (first + 1) n) (is_active_in b first))
    where
      by_test : IsPartitionedBy (λ e. ltb e least) (entries_from b (first + 1) n)
          → (t : Bool) → IsPartitionedBy (λ e. ltb e least) (cond t (entry_of b first ∷ entries_from b (first + 1) n) (entries_from b (first + 1) n))
      by_test later true = with_less least (entry_of b first) (entries_from b (first + 1) n)
          (λ k d low. let l = not_less (first + 1) n k d low in let s = small b first in omega arith) later
      by_test later false = later

  -- those that are less than a number come first
  pub parted : (least : ℕ) (all : List ℕ) → all ≡ entries b.grid (heights b) b.brick → IsPartitionedBy (λ e. ltb e least) all
  parted least all is = subst (IsPartitionedBy (λ e. ltb e least)) (sym (is ∙ sym (entries_all b))) (parted_from least 0 512)

  -- and all of them are of cells of the brick
  low_from : (first n : ℕ) → first + n ≤ 512 → All (λ e. e < 524288) (entries_from b first n)
  low_from first zero room = subst (All (λ e. e < 524288)) (sym (none b first)) (All-nil (λ e. e < 524288))
  low_from first (suc n) room = subst (All (λ e. e < 524288)) (sym (step b first n)) (by_test (low_from (first + 1) n (omega arith)) (is_active_in b first))
    where
      by_test : All (λ e. e < 524288) (entries_from b (first + 1) n)
          → (t : Bool) → All (λ e. e < 524288) (cond t (entry_of b first ∷ entries_from b (first + 1) n) (entries_from b (first + 1) n))
      by_test later true = All-cons (λ e. e < 524288) (entry_of b first) (entries_from b (first + 1) n) (omega (arith, small b first, room)) later
      by_test later false = later

  pub low_entries : (all : List ℕ) → all ≡ entries b.grid (heights b) b.brick → All (λ e. e < 524288) all
  low_entries all is = subst (All (λ e. e < 524288)) (sym (is ∙ sym (entries_all b))) (low_from 0 512 (omega arith))
