-- What is added up round a loop, step by step.
use Rattle.std.proofs.Common.{◌≡◌, ◌∙◌, ℕ, zero, suc, All, Bool, true, false, ◌+◌, ◌-◌, ◌*◌, ◌/◌, ◌<◌, ◌≤◌, ℤ, pos, ◌+ℤ◌, List, [], ◌∷◌, map, length, get_or, take, drop, refl, sym, subst, ap, arith, nat_lt, if◌then◌else◌}
use Rattle.std.specs.List.{sum as sum_of, sum_by}
use Rattle.std.proofs.lemmas.Int.{ints}
use Rattle.std.proofs.lemmas.List.{at_drop_more, at_drop_all, length-map}
use Rattle.std.proofs.lemmas.List.Sums.{sum-map, sum_by_more}
use Rattle.iso_defs.specs.Lists.{closing}
use Rattle.iso_defs.specs.Place.{Position, mean}
use Rattle.measure_laws.specs.Vectors.{Vector, cross, plus, total}
use Rattle.part_laws.specs.Swept.{swept}
use Rattle.component_walk.specs.Local.{IsNear, lanes_of, listed, local_tip, moved, position_sum, rounded}

-- the sum of the vector products of pairs
abbrev pub crosses_of : (ℕ → Vector) → List (ℕ × ℕ) → Vector
crosses_of at ps = (
  total (λ (p : ℕ × ℕ). (cross (at p.0) (at p.1)).0) ps,
  total (λ (p : ℕ × ℕ). (cross (at p.0) (at p.1)).1) ps,
  total (λ (p : ℕ × ℕ). (cross (at p.0) (at p.1)).2) ps,
)

plus_none : (u : Vector) → plus u (pos 0, pos 0, pos 0) ≡ u
plus_none u =
    let one : (x : ℤ) → x +ℤ pos 0 ≡ x = λ x. omega (arith, ints) in
    let x = one u.0 in
    let y = one u.1 in
    let z = one u.2 in
    λ i. (x i, y i, z i)

none_plus : (u : Vector) → plus (pos 0, pos 0, pos 0) u ≡ u
none_plus u =
    let one : (x : ℤ) → pos 0 +ℤ x ≡ x = λ x. omega (arith, ints) in
    let x = one u.0 in
    let y = one u.1 in
    let z = one u.2 in
    λ i. (x i, y i, z i)

plus_turn : (u v w : Vector) → plus (plus u v) w ≡ plus u (plus v w)
plus_turn u v w =
    let one : (x y z : ℤ) → (x +ℤ y) +ℤ z ≡ x +ℤ (y +ℤ z) = λ x y z. omega (arith, ints) in
    let x = one u.0 v.0 w.0 in
    let y = one u.1 v.1 w.1 in
    let z = one u.2 v.2 w.2 in
    λ i. (x i, y i, z i)

module _ (at : ℕ → Vector) (es : List ℕ) where
  abbrev first : ℕ
  first = get_or es 0 0

  -- what is left to add, before the n-th vertex
  abbrev pub left : ℕ → Vector
  left n = crosses_of at (closing first (get_or es (n - 1) 0) (drop n es))

  -- one step less is left
  left_more : (n : ℕ) → 0 < n → n < length es → left n ≡ plus (cross (at (get_or es (n - 1) 0)) (at (get_or es n 0))) (left (n + 1))
  left_more n some low =
      at_drop_more (λ l. crosses_of at (closing first (get_or es (n - 1) 0) l)) es n 0 low
      ∙ ap (λ m. plus (cross (at (get_or es (n - 1) 0)) (at (get_or es n 0))) (crosses_of at (closing first (get_or es m 0) (drop (n + 1) es)))) (let e : n ≡ n + 1 - 1 = omega arith in e)

  -- with one step more
  pub swept_more : (s : Vector) (n : ℕ) → 0 < n → n < length es → plus s (left n) ≡ swept at es
      → plus (plus s (cross (at (get_or es (n - 1) 0)) (at (get_or es n 0)))) (left (n + 1)) ≡ swept at es
  swept_more s n some low h = plus_turn s (cross (at (get_or es (n - 1) 0)) (at (get_or es n 0))) (left (n + 1)) ∙ (ap (plus s) (sym (left_more n some low)) ∙ h)

  -- and with the last step, which closes the loop
  pub swept_end : (s : Vector) (n : ℕ) → n ≡ length es → plus s (left n) ≡ swept at es → plus s (cross (at (get_or es (n - 1) 0)) (at first)) ≡ swept at es
  swept_end s n e h =
      let one : crosses_of at (closing first (get_or es (n - 1) 0) []) ≡ cross (at (get_or es (n - 1) 0)) (at first) = plus_none (cross (at (get_or es (n - 1) 0)) (at first)) in
      ap (plus s) (sym (at_drop_all (λ l. crosses_of at (closing first (get_or es (n - 1) 0) l)) es n (omega arith) ∙ one)) ∙ h

-- all steps are left to add at first
pub swept_none : (at : ℕ → Vector) (es : List ℕ) → 0 < length es → plus (pos 0, pos 0, pos 0) (left at es 1) ≡ swept at es
swept_none at [] some = absurd (omega (arith, some))
swept_none at (e ∷ es) some = none_plus (swept at (e ∷ es))

module _ (at : ℕ → Position) (es : List ℕ) where
  -- the sum of the positions of one more
  pub sum_more : (n : ℕ) → n < length es → position_sum at (take (n + 1) es) ≡ moved (position_sum at (take n es)) (at (get_or es n 0))
  sum_more n low =
      let one : (h : ℕ → ℕ) → sum_by h (take (n + 1) es) ≡ sum_by h (take n es) + h (get_or es n 0) = λ h. sum_by_more h es n 0 low in
      let x = one (λ e. (at e).0) in
      let y = one (λ e. (at e).1) in
      let z = one (λ e. (at e).2) in
      λ i. (x i, y i, z i)

  -- as one number, where no coordinate is beyond a bound
  pub record IsSumTo (n lanes : ℕ) : Type 0 where
    pub is : lanes ≡ lanes_of (position_sum at (take n es))
    pub near : IsNear (1000 * n) (position_sum at (take n es))

  pub one_more : (n sum lanes : ℕ) → n < length es → lanes ≡ lanes_of (at (get_or es n 0)) → IsNear 1000 (at (get_or es n 0)) → IsSumTo n sum → IsSumTo (n + 1) (sum + lanes)
  one_more n sum lanes low is near h =
      let more = sum_more n low in
      let p : Position = position_sum at (take n es) in
      let q : Position = at (get_or es n 0) in
      record {
        is = omega (arith, h.is, is) ∙ ap lanes_of (sym more);
        near = subst (IsNear (1000 * (n + 1))) (sym more) (record { x = omega (arith, h.near.x, near.x); y = omega (arith, h.near.y, near.y); z = omega (arith, h.near.z, near.z) });
      }

  pub first_one : (lanes : ℕ) → 0 < length es → lanes ≡ lanes_of (at (get_or es 0 0)) → IsNear 1000 (at (get_or es 0 0)) → IsSumTo 1 lanes
  first_one lanes some is near =
      let none : IsSumTo 0 0 = record { is = omega arith; near = record { x = omega arith; y = omega arith; z = omega arith } } in
      subst (IsSumTo 1) (let z : 0 + lanes ≡ lanes = omega arith in z) (one_more 0 0 lanes some is near none)

-- a greater bound
pub nearer : (m n : ℕ) (p : Position) → m ≤ n → IsNear m p → IsNear n p
nearer m n p h near = record { x = omega (arith, h, near.x); y = omega (arith, h, near.y); z = omega (arith, h, near.z) }

pub all_near : (m : ℕ) (p : Position) → IsNear m p → All (λ c. c ≤ m) (listed p)
all_near m p near zero d low = near.x
all_near m p near (suc zero) d low = near.y
all_near m p near (suc (suc zero)) d low = near.z
all_near m p near (suc (suc (suc k))) d low = absurd (omega (arith, low))

-- the mean of coordinates by their sum
mean_is : (f : ℕ → ℕ) (es : List ℕ) → rounded (length es) (sum_by f es) ≡ mean (map f es)
mean_is f es =
    ap (λ n. (2 * n + length es) / (2 * length es)) (sym (sum-map f es))
    ∙ ap (λ n. (2 * sum_of (map f es) + n) / (2 * n)) (sym (length-map es f))

-- where the centre is, by the sum of the positions, or the first vertex
pub tip_is : (at : ℕ → Position) (es : List ℕ) (sum first tip : List ℕ) (count : ℕ) → count ≡ length es → sum ≡ listed (position_sum at es) → first ≡ listed (at (get_or es 0 0))
    → tip ≡ (if nat_lt 3 count then rounded count (get_or sum 0 0) ∷ rounded count (get_or sum 1 0) ∷ rounded count (get_or sum 2 0) ∷ [] else first)
    → tip ≡ listed (local_tip at es)
tip_is at es sum first tip count long sum_is first_is is =
    is
    ∙ (ap (λ n. if nat_lt 3 n then rounded n (get_or sum 0 0) ∷ rounded n (get_or sum 1 0) ∷ rounded n (get_or sum 2 0) ∷ [] else first) long
    ∙ (ap (λ (s : List ℕ). if nat_lt 3 (length es) then rounded (length es) (get_or s 0 0) ∷ rounded (length es) (get_or s 1 0) ∷ rounded (length es) (get_or s 2 0) ∷ [] else first) sum_is
    ∙ (ap (λ (f : List ℕ). if nat_lt 3 (length es) then by_sum else f) first_is ∙ choose (nat_lt 3 (length es)))))
  where
    by_sum : List ℕ
    by_sum = let p = position_sum at es in rounded (length es) p.0 ∷ rounded (length es) p.1 ∷ rounded (length es) p.2 ∷ []

    choose : (b : Bool) → (if b then by_sum else listed (at (get_or es 0 0)))
        ≡ listed (if b then (mean (map (λ e. (at e).0) es), mean (map (λ e. (at e).1) es), mean (map (λ e. (at e).2) es)) else at (get_or es 0 0))
    choose true =
        let x = mean_is (λ e. (at e).0) es in
        let y = mean_is (λ e. (at e).1) es in
        let z = mean_is (λ e. (at e).2) es in
        λ i. x i ∷ y i ∷ z i ∷ []
    choose false = refl
