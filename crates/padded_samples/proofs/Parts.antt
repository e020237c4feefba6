-- Parts of lists of numbers, as the samples that they are.
use Rattle.std.proofs.Common.{◌≡◌, ℕ, ◌+◌, ◌-◌, ◌*◌, ◌<◌, ◌≤◌, ◌⊎◌, inl, inr, ◌++◌, ℤ, pos, List, length, take, drop, get_or, map, set, sym, ap, ◌∙◌, arith}
use Rattle.std.proofs.lemmas.Bool.{cases_lt}
use Rattle.std.proofs.lemmas.Grind.{get_or-set_at}
use Rattle.std.proofs.lemmas.List.{get_or-append_right, get_or_append_left, get_or-drop, get_or-set_other, get_or-take, length-map, length-take-le, map-append, map-set}
use Rattle.std.specs.List.{drop-map, take-map}
use Rattle.samples.proofs.Lists.{rows_more}
use Rattle.iso_defs.specs.Grid.{Grid, index}
use Rattle.iso_base.specs.Points.{index_of}
use Rattle.iso_base.specs.declared.point.Point.{Point}

-- a part that was written leaves the others
pub part_others : {X : Type 0} (f : X → ℤ) (old new : List X) (from count m i : ℕ) → m ≡ count → from + count ≤ length old → length new ≡ count
    → (i < from) ⊎ (from + count ≤ i)
    → get_or (map f (take from old ++ (new ++ drop m (drop from old)))) i (pos 0) ≡ get_or (map f old) i (pos 0)
part_others f old new from count m i e room len where_is =
    let A = map f (take from old) in
    let B = map f new in
    let D = map f (drop m (drop from old)) in
    let size : length A ≡ from = length-map (take from old) f ∙ length-take-le from old (omega (arith, room)) in
    let mid : length B ≡ count = length-map new f ∙ len in
    let split : map f (take from old ++ (new ++ drop m (drop from old))) ≡ A ++ (B ++ D)
    = map-append f (take from old) (new ++ drop m (drop from old)) ∙ ap (λ l. A ++ l) (map-append f new (drop m (drop from old))) in
    let rest : D ≡ drop m (drop from (map f old)) = sym (drop-map f m (drop from old)) ∙ ap (drop m) (sym (drop-map f from old)) in
    ap (λ l. get_or l i (pos 0)) split ∙ elim where_is [
      | inl low ↦ (
          get_or_append_left A (B ++ D) (pos 0) i (omega (arith, size, low))
          ∙ ap (λ l. get_or l i (pos 0)) (sym (take-map f from old)) ∙ get_or-take from (map f old) i (pos 0) low)
      | inr high ↦ (
          let back : from + (m + (i - from - count)) ≡ i = omega (arith, high, e) in
          get_or-append_right A (B ++ D) from i (pos 0) size (omega (arith, high))
          ∙ get_or-append_right B D count (i - from) (pos 0) mid (omega (arith, high))
          ∙ ap (λ l. get_or l (i - from - count) (pos 0)) rest
          ∙ get_or-drop m (drop from (map f old)) (i - from - count) (pos 0)
          ∙ get_or-drop from (map f old) (m + (i - from - count)) (pos 0) ∙ ap (λ (k : ℕ). get_or (map f old) k (pos 0)) back)
    ]

-- another number at a place
pub set_others : {X : Type 0} (f : X → ℤ) (xs : List X) (k j : ℕ) (y : X) → (j ≡ k → ⊥) → get_or (map f (set xs k y)) j (pos 0) ≡ get_or (map f xs) j (pos 0)
set_others f xs k j y apart = ap (λ l. get_or l j (pos 0)) (map-set f xs k y) ∙ get_or-set_other (map f xs) k j (f y) (pos 0) apart

pub set_here : {X : Type 0} (f : X → ℤ) (xs : List X) (k j : ℕ) (y : X) → j ≡ k → k < length xs → get_or (map f (set xs k y)) j (pos 0) ≡ f y
set_here f xs k j y same low =
    ap (λ l. get_or l j (pos 0)) (map-set f xs k y) ∙ get_or-set_at (map f xs) k j (f y) (pos 0) same (omega (arith, same, low, length-map xs f))

-- one more number, by a rule for each place
pub more_numbers : {X : Type 0} (f : X → ℤ) (xs : List X) (s : ℕ → ℤ) (from k : ℕ) (y : X) → k < length xs → f y ≡ s k
    → ((j : ℕ) → from ≤ j → j < k → get_or (map f xs) j (pos 0) ≡ s j) → (j : ℕ) → from ≤ j → j < k + 1 → get_or (map f (set xs k y)) j (pos 0) ≡ s j
more_numbers f xs s from k y here same before j low high = elim (cases_lt j k) [
  | inl l ↦ set_others f xs k j y (λ (e : j ≡ k). omega (arith, e, l)) ∙ before j low l
  | inr h ↦ (let at : j ≡ k = omega (arith, h, high) in set_here f xs k j y at here ∙ same ∙ ap s (sym at))
]

-- one more row of a list
pub one_more_row : (f : ℕ → ℕ) (old new : List ℕ) (w k from : ℕ) → from ≡ w * k → ((i : ℕ) → i < w → get_or new (from + i) 0 ≡ f (w * k + i))
    → ((i : ℕ) → i < from → get_or new i 0 ≡ get_or old i 0) → ((i : ℕ) → i < w * k → get_or old i 0 ≡ f i)
    → (i : ℕ) → i < w * (k + 1) → get_or new i 0 ≡ f i
one_more_row f old new w k from at inside before done i low =
    rows_more f old new w k 0 from k at (omega arith) inside before (λ j l. done j l ∙ ap f (sym (zero w j))) i low ∙ ap f (zero w i)
  where
    zero : (w i : ℕ) → w * 0 + i ≡ i
    zero w i = omega arith

-- a point of a row that begins at x = 0
pub along : (g h : Grid) (q : Point) (x : ℕ) → g ≡ h → q.x ≡ 0 → index_of g q + x ≡ index h x q.y q.z
along g h q x same zero =
    ap (λ (k : Grid). q.x + k.nx * (q.y + k.ny * q.z) + x) same ∙ ap (λ (k : ℕ). k + h.nx * (q.y + h.ny * q.z) + x) zero ∙ turned (h.nx * (q.y + h.ny * q.z)) x
  where
    turned : (a x : ℕ) → 0 + a + x ≡ x + a
    turned a x = omega arith

-- the same of the place so many on
pub along_part : (g h : Grid) (q : Point) (x first i : ℕ) → g ≡ h → q.x ≡ 0 → 0 < x + first → index_of g q + (x + (first + i) - 1) ≡ index h (x + first - 1) q.y q.z + i
along_part g h q x first i same zero some =
    along g h q (x + (first + i) - 1) same zero ∙ turned (h.nx * (q.y + h.ny * q.z))
  where
    turned : (a : ℕ) → x + (first + i) - 1 + a ≡ x + first - 1 + a + i
    turned a = omega (arith, some)

-- the same from the point itself
pub along_inner : (g h : Grid) (q : Point) (x i : ℕ) → g ≡ h → q.x ≡ 0 → 0 < x → index_of g q + (x + i - 1) ≡ index h (x - 1) q.y q.z + i
along_inner g h q x i same zero some = along g h q (x + i - 1) same zero ∙ turned (h.nx * (q.y + h.ny * q.z))
  where
    turned : (a : ℕ) → x + i - 1 + a ≡ x - 1 + a + i
    turned a = omega (arith, some)
