-- Lists of numbers as the samples that they are.
use Rattle.std.proofs.Common.{◌≡◌, ℕ, ◌+◌, ◌-◌, ◌*◌, ◌<◌, ◌≤◌, ◌++◌, ◌∙◌, sym, ap, arith, List, length, map, take, drop, ℤ, pos, get_or, set, below_more, Bool, true, false, refl, ltb}
use Rattle.std.proofs.lemmas.List.{get_or-append_right, get_or_append_left, get_or-drop, get_or-map, get_or-set_same, get_or-set_other, get_or-take, length-drop, length-map, length-set, length-take-le}
use Rattle.std.proofs.lemmas.Bool.{ltb-true, ltb-false}
use Rattle.std.specs.List.{drop-map, take-map}

-- the numbers from a place on are the samples from there on
pub part : {X Y : Type 0} (f : X → Y) (xs : List X) (start n m : ℕ) → m ≡ n → map f (take m (drop start xs)) ≡ take n (drop start (map f xs))
part f xs start n m e =
    ap (λ k. map f (take k (drop start xs))) e ∙ sym (ap (take n) (drop-map f start xs) ∙ take-map f n (drop start xs))

-- one more number is the sample at its place
pub more_mapped : {X : Type 0} (f : X → ℤ) (xs : List X) (ys : List ℤ) (k : ℕ) (y : X) → k < length xs → f y ≡ get_or ys k (pos 0)
    → ((j : ℕ) → j < k → get_or (map f xs) j (pos 0) ≡ get_or ys j (pos 0)) → (j : ℕ) → j < k + 1 → get_or (map f (set xs k y)) j (pos 0) ≡ get_or ys j (pos 0)
more_mapped f xs ys k y here same before =
    below_more (λ j. get_or (map f (set xs k y)) j (pos 0) ≡ get_or ys j (pos 0)) k
    (λ j low. get_or-map f (set xs k y) j y (pos 0) (omega (arith, low, here, length-set xs k y)) ∙ ap f (get_or-set_other xs k j y y (λ (e : j ≡ k). omega (arith, e, low)))
    ∙ sym (get_or-map f xs j y (pos 0) (omega (arith, low, here))) ∙ before j low)
    (get_or-map f (set xs k y) k y (pos 0) (omega (arith, here, length-set xs k y)) ∙ ap f (get_or-set_same xs k y y here) ∙ same)

-- what was written over a part of a list
pub written : {Y : Type 0} (f : ℤ → Y) (samples : List ℤ) (before new after : List Y) (d : Y) (from start n i : ℕ) → length before ≡ from → new ≡ map f (take n (drop start samples))
    → i < n → start + n ≤ length samples → get_or (before ++ (new ++ after)) (from + i) d ≡ f (get_or samples (start + i) (pos 0))
written {Y = Y} f samples before new after d from start n i len is low room =
    let size : length (take n (drop start samples)) ≡ n = length-take-le n (drop start samples) (omega (arith, room, length-drop start samples)) in
    let count : length new ≡ n = ap length is ∙ length-map (take n (drop start samples)) f ∙ size in
    let place : from + i - from ≡ i = omega arith in
    get_or-append_right before (new ++ after) from (from + i) d len (omega arith)
    ∙ ap (λ (k : ℕ). get_or (new ++ after) k d) place
    ∙ get_or_append_left new after d i (omega (arith, count, low))
    ∙ ap (λ (l : List Y). get_or l i d) is
    ∙ get_or-map f (take n (drop start samples)) i (pos 0) d (omega (arith, size, low))
    ∙ ap f (get_or-take n (drop start samples) i (pos 0) low ∙ get_or-drop start samples i (pos 0))

-- by the two answers of a test
pub by_test : {A : Type 0} (t : Bool) → (t ≡ true → A) → (t ≡ false → A) → A
by_test true f g = f refl
by_test false f g = g refl

-- one more row of a list
pub rows_more : (f : ℕ → ℕ) (old new : List ℕ) (w k first from row : ℕ) → from ≡ w * k → row ≡ first + k → ((i : ℕ) → i < w → get_or new (from + i) 0 ≡ f (w * row + i))
    → ((i : ℕ) → i < from → get_or new i 0 ≡ get_or old i 0) → ((i : ℕ) → i < w * k → get_or old i 0 ≡ f (w * first + i))
    → (i : ℕ) → i < w * (k + 1) → get_or new i 0 ≡ f (w * first + i)
rows_more f old new w k first from row at is inside before done i low =
    by_test (ltb i from)
    (λ t. let h = ltb-true i from t in before i h ∙ done i (omega (arith, h, at)))
    (λ t. let h = ltb-false i from t in
    let x : ℕ = i - from in
    let back : from + x ≡ i = omega (arith, h) in
    let within : x < w = omega (arith, h, at, low, next w k) in
    ap (λ (j : ℕ). get_or new j 0) (sym back) ∙ inside x within ∙ ap f (ap (λ (r : ℕ). w * r + x) is ∙ spread w first k x ∙ ap (λ (j : ℕ). w * first + j) (ap (λ (j : ℕ). j + x) (sym at) ∙ back)))
  where
    next : (w k : ℕ) → w * (k + 1) ≡ w * k + w
    next w k = omega arith

    spread : (w first k x : ℕ) → w * (first + k) + x ≡ w * first + (w * k + x)
    spread w first k x = omega arith
