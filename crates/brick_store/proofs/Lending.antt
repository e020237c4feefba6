-- Copies that are lent: those of all bricks, and those of one among them.
use Rattle.std.proofs.Common.{◌≡◌, ℕ, ◌+◌, ◌-◌, ◌*◌, ◌∙◌, List, map, take, drop, sym, ap, subst, arith, ℤ}
use Rattle.std.specs.List.{drop-map, take-map}
use Rattle.iso_defs.specs.Grid.{Grid}
use Rattle.brick_store.specs.Copies.{AreAllCopies, AreCopies, AreCopiesOf, samples_of}
use Rattle.brick_store.proofs.Standing.{brick_is}

-- the copies of all bricks are those of each
pub all_are : (g : Grid) (copies : List ℤ) → AreCopies g copies → AreAllCopies g (samples_of g copies) copies
all_are g copies are = record {
  count = are.count;
  each = λ brick low.
      subst (λ n. AreCopiesOf g (samples_of g copies) brick (take n (drop (729 * brick) copies))) (so_many brick)
      (brick_is g copies brick (729 * brick) are low (omega arith)).1;
}
  where
    so_many : (b : ℕ) → 729 * b + 729 - 729 * b ≡ 729
    so_many b = omega arith

-- a part of packed copies holds the samples of that part
pub part_is : {T : Type 0} (value : T → ℤ) (packed : List T) (start : ℕ)
    → map value (take (start + 729 - start) (drop start packed)) ≡ take 729 (drop start (map value packed))
part_is value packed start =
    let so_many : start + 729 - start ≡ 729 = omega arith in
    sym (take-map value (start + 729 - start) (drop start packed))
    ∙ (ap (take (start + 729 - start)) (sym (drop-map value start packed)) ∙ ap (λ n. take n (drop start (map value packed))) so_many)
