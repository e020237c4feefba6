-- The span of a list of samples, from its first one on.
use Rattle.std.proofs.Common.{◌≡◌, ℕ, zero, suc, ◌<◌, All, List, [], ◌∷◌, get_or, length, map, inl, inr, refl, sym, ◌∙◌, ap, arith, ℤ, pos, negsuc}
use Rattle.std.specs.List.{fold}
use Rattle.std.specs.Int.{int_max, int_min}
use Rattle.std.proofs.lemmas.List.{get_or-map}
use Rattle.iso_base.specs.Volume.{IsSample, sample}
use Rattle.triangle_laws.proofs.Lists.{In}
use Rattle.span_tree.proofs.Active.{all_in, fold_keeps}
use Rattle.span_tree.proofs.OneValue.{greatest_first, least_first}
use Rattle.span_tree.proofs.SpanLaws.{of_max, of_min}

-- the value of a number of a list
pub item_value : {T : Type 0} (value : T → ℤ) (numbers : List T) (k : ℕ) (number : T) → k < length numbers → number ≡ get_or numbers k number
    → value number ≡ sample (map value numbers) k
item_value value numbers k number low is = ap value is ∙ sym (get_or-map value numbers k number (pos 0) low)

-- what holds of one in a list, whichever it is, holds of all items
pub in_all : (P : ℤ → Type 0) (xs : List ℤ) → ((x : ℤ) → In x xs → P x) → All P xs
in_all P [] each k d h = absurd (omega arith)
in_all P (x ∷ xs) each zero d h = each x (inl refl)
in_all P (x ∷ xs) each (suc k) d h = in_all P xs (λ y i. each y (inr i)) k d (omega arith)

-- the least, where the first one was taken before
pub least_of : (first : ℤ) (xs : List ℤ) → 0 < length xs → All IsSample xs → first ≡ sample xs 0
    → (fold int_min first xs ≡ fold int_min (pos 4294967295) xs) × IsSample (fold int_min first xs)
least_of first [] some all at = absurd (omega arith)
least_of first (x ∷ xs) some all at =
    let is : IsSample x = all 0 x some in (
      ap (λ a. fold int_min a xs) (ap (λ a. int_min a x) at ∙ (of_min (λ v. v ≡ x) x x refl refl ∙ sym (least_first x is))),
      fold_keeps IsSample int_min first (x ∷ xs) (of_min IsSample) (rw at is) (λ y i. all_in IsSample (x ∷ xs) y all i),
    )

-- and the greatest
pub greatest_of : (first : ℤ) (xs : List ℤ) → 0 < length xs → All IsSample xs → first ≡ sample xs 0
    → (fold int_max first xs ≡ fold int_max (negsuc 2147483647) xs) × IsSample (fold int_max first xs)
greatest_of first [] some all at = absurd (omega arith)
greatest_of first (x ∷ xs) some all at =
    let is : IsSample x = all 0 x some in (
      ap (λ a. fold int_max a xs) (ap (λ a. int_max a x) at ∙ (of_max (λ v. v ≡ x) x x refl refl ∙ sym (greatest_first x is))),
      fold_keeps IsSample int_max first (x ∷ xs) (of_max IsSample) (rw at is) (λ y i. all_in IsSample (x ∷ xs) y all i),
    )
