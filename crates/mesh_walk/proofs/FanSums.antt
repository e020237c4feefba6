-- The sums by which the centre of a loop is found.
use Rattle.std.proofs.Common.{◌≡◌, ℕ, zero, suc, All, ◌+◌, ◌*◌, ◌/◌, ◌%◌, ◌<◌, ◌≤◌, Bool, true, false, cond, eqb, List, [], ◌∷◌, ◌++◌, map, length, get_or, refl, sym, ◌∙◌, ap, ap₂, arith, zero-add}
use lib.Lanes.{chunk, zip2}
use Rattle.std.proofs.lemmas.Simd.{get_or-chunk, get_or-zip2, length-chunk, length-zip2}
use Rattle.std.specs.List.{sum as sum_of, sum_by}
use Rattle.std.proofs.lemmas.List.{get_or_append_left, length-map}
use Rattle.std.proofs.lemmas.List.Sums.{sum-map, sum_by-cons, sum_by-le}
use Rattle.iso_defs.specs.Cell.{edge_corner}
use Rattle.mesh_laws.proofs.Apart.{by_twelve}
use Rattle.edge_points.specs.Points.{corner_offset, local_coordinate}
use Rattle.case_faces.specs.Fans.{begins, edge_at, fan_of, weight}
use Rattle.flat_mesh.specs.Centres.{local_mean}
use Rattle.mesh_walk.specs.Places.{ArePlaced, along, axis_sum}

-- one of three axes
pub by_axis : (P : ℕ → Type 0) → P 0 → P 1 → P 2 → (axis : ℕ) → axis < 3 → P axis
by_axis P a b c zero low = a
by_axis P a b c (suc zero) low = b
by_axis P a b c (suc (suc zero)) low = c
by_axis P a b c (suc (suc (suc n))) low = absurd (omega (arith, low))

-- no coordinate is beyond the cell
pub coordinate_low : (place : ℕ → ℕ) (axis e : ℕ) → axis < 3 → e < 12 → place e ≤ 1000 → local_coordinate place axis e ≤ 1000
coordinate_low place axis e three twelve near =
    by_axis (λ axis. local_coordinate place axis e ≤ 1000) (x e twelve near) (y e twelve near) (z e twelve near) axis three
  where
    x : (e : ℕ) → e < 12 → place e ≤ 1000 → local_coordinate place 0 e ≤ 1000
    x = by_twelve (λ e. place e ≤ 1000 → local_coordinate place 0 e ≤ 1000)
        (λ h. omega (arith, h)) (λ h. omega (arith, h)) (λ h. omega (arith, h)) (λ h. omega (arith, h)) (λ h. omega (arith, h)) (λ h. omega (arith, h)) (λ h. omega (arith, h)) (λ h. omega (arith, h)) (λ h. omega (arith, h)) (λ h. omega (arith, h)) (λ h. omega (arith, h)) (λ h. omega (arith, h))

    y : (e : ℕ) → e < 12 → place e ≤ 1000 → local_coordinate place 1 e ≤ 1000
    y = by_twelve (λ e. place e ≤ 1000 → local_coordinate place 1 e ≤ 1000)
        (λ h. omega (arith, h)) (λ h. omega (arith, h)) (λ h. omega (arith, h)) (λ h. omega (arith, h)) (λ h. omega (arith, h)) (λ h. omega (arith, h)) (λ h. omega (arith, h)) (λ h. omega (arith, h)) (λ h. omega (arith, h)) (λ h. omega (arith, h)) (λ h. omega (arith, h)) (λ h. omega (arith, h))

    z : (e : ℕ) → e < 12 → place e ≤ 1000 → local_coordinate place 2 e ≤ 1000
    z = by_twelve (λ e. place e ≤ 1000 → local_coordinate place 2 e ≤ 1000)
        (λ h. omega (arith, h)) (λ h. omega (arith, h)) (λ h. omega (arith, h)) (λ h. omega (arith, h)) (λ h. omega (arith, h)) (λ h. omega (arith, h)) (λ h. omega (arith, h)) (λ h. omega (arith, h)) (λ h. omega (arith, h)) (λ h. omega (arith, h)) (λ h. omega (arith, h)) (λ h. omega (arith, h))

module _ (at : ℕ → ℕ) where
  -- what stands at some numbers, by the weights of a loop
  abbrev weighed : List ℕ → List ℕ → ℕ
  weighed edges is = sum_by (λ i. at i * weight edges i) is

  -- and what of that is one edge's
  abbrev own : ℕ → List ℕ → ℕ
  own e is = sum_by (λ i. cond (eqb (edge_at e) i) (at i) 0) is

  once : (e i : ℕ) (edges : List ℕ) → at i * weight (e ∷ edges) i ≡ cond (eqb (edge_at e) i) (at i) 0 + at i * weight edges i
  once e i edges = ap (λ n. at i * n) (sum_by-cons (λ e. cond (eqb (edge_at e) i) 1 0) e edges) ∙ split (eqb (edge_at e) i) (at i) (weight edges i)
    where
      split : (b : Bool) (p w : ℕ) → p * (cond b 1 0 + w) ≡ cond b p 0 + p * w
      split true p w = omega arith
      split false p w = omega arith

  one_more : (e : ℕ) (edges is : List ℕ) → weighed (e ∷ edges) is ≡ own e is + weighed edges is
  one_more e edges [] = refl
  one_more e edges (i ∷ is) =
      let rest = one_more e edges is in
      sum_by-cons (λ i. at i * weight (e ∷ edges) i) i is
      ∙ (regroup _ _ _ _ _ _ (once e i edges) rest
      ∙ sym (ap₂ (λ a b. a + b) (sum_by-cons (λ i. cond (eqb (edge_at e) i) (at i) 0) i is) (sum_by-cons (λ i. at i * weight edges i) i is)))
    where
      regroup : (x y a b c d : ℕ) → x ≡ a + b → y ≡ c + d → x + y ≡ a + c + (b + d)
      regroup x y a b c d hx hy = omega (arith, hx, hy)

  own_is : (axis e : ℕ) → axis < 3 → e < 12 → own e (along axis) ≡ cond (eqb axis (e / 4)) (at (edge_at e)) 0
  own_is axis e three twelve = by_axis (λ axis. own e (along axis) ≡ cond (eqb axis (e / 4)) (at (edge_at e)) 0) (x e twelve) (y e twelve) (z e twelve) axis three
    where
      x : (e : ℕ) → e < 12 → own e (along 0) ≡ cond (eqb 0 (e / 4)) (at (edge_at e)) 0
      x = by_twelve (λ e. own e (along 0) ≡ cond (eqb 0 (e / 4)) (at (edge_at e)) 0)
          (omega arith) (omega arith) (omega arith) (omega arith) (omega arith) (omega arith) (omega arith) (omega arith) (omega arith) (omega arith) (omega arith) (omega arith)

      y : (e : ℕ) → e < 12 → own e (along 1) ≡ cond (eqb 1 (e / 4)) (at (edge_at e)) 0
      y = by_twelve (λ e. own e (along 1) ≡ cond (eqb 1 (e / 4)) (at (edge_at e)) 0)
          (omega arith) (omega arith) (omega arith) (omega arith) (omega arith) (omega arith) (omega arith) (omega arith) (omega arith) (omega arith) (omega arith) (omega arith)

      z : (e : ℕ) → e < 12 → own e (along 2) ≡ cond (eqb 2 (e / 4)) (at (edge_at e)) 0
      z = by_twelve (λ e. own e (along 2) ≡ cond (eqb 2 (e / 4)) (at (edge_at e)) 0)
          (omega arith) (omega arith) (omega arith) (omega arith) (omega arith) (omega arith) (omega arith) (omega arith) (omega arith) (omega arith) (omega arith) (omega arith)

  -- the sum of the coordinates of a loop's vertices
  whole : (place : ℕ → ℕ) (axis : ℕ) (edges : List ℕ) → axis < 3 → All (λ e. e < 12) edges → All (λ e. at (edge_at e) ≡ place e) edges
      → weighed edges (along axis) + begins edges axis ≡ sum_by (local_coordinate place axis) edges
  whole place axis [] three low each = none (at axis) (at (axis + 3)) (at (axis + 8)) (at (axis + 11)) (at (axis + 16)) (at (axis + 19)) (at (axis + 24)) (at (axis + 27))
    where
      none : (a b c d e f g h : ℕ) → 0 + a * 0 + b * 0 + c * 0 + d * 0 + e * 0 + f * 0 + g * 0 + h * 0 + 0 ≡ 0
      none a b c d e f g h = omega arith
  whole place axis (e ∷ edges) three low each =
      let first = own_is axis e three (low 0 0 (omega arith)) ∙ ap (λ n. cond (eqb axis (e / 4)) n 0) (each 0 0 (omega arith)) in
      let rest = whole place axis edges three (λ k d below. low (suc k) d (omega (arith, below))) (λ k d below. each (suc k) d (omega (arith, below))) in
      regroup _ _ _ _ _ _ _ _ (one_more e edges (along axis)) first (sum_by-cons (λ e. 1000 * corner_offset (edge_corner e) axis) e edges) rest _ (sum_by-cons (local_coordinate place axis) e edges)
    where
      regroup : (x a b c y d g t : ℕ) → x ≡ a + b → a ≡ c → y ≡ d + g → b + g ≡ t → (s : ℕ) → s ≡ d + c + t → x + y ≡ s
      regroup x a b c y d g t hx ha hy ht s hs = omega (arith, hx, ha, hy, ht, hs)

  axis_is : (axis : ℕ) (edges : List ℕ) → axis < 3 → axis_sum at (fan_of edges) axis ≡ weighed edges (along axis) + begins edges axis
  unfolding fan_of
  axis_is axis edges three = by_axis (λ axis. axis_sum at (fan_of edges) axis ≡ weighed edges (along axis) + begins edges axis) refl refl refl axis three

  pub sum_is : (place : ℕ → ℕ) (edges fan : List ℕ) (axis : ℕ) → axis < 3 → fan ≡ fan_of edges → ArePlaced place edges at → axis_sum at fan axis ≡ sum_by (local_coordinate place axis) edges
  sum_is place edges fan axis three is are =
      ap (λ fan. axis_sum at fan axis) is ∙ (axis_is axis edges three ∙ whole place axis edges three are.shape.low are.each)

-- it fits
pub sum_low : (place : ℕ → ℕ) (axis : ℕ) (edges : List ℕ) → axis < 3 → All (λ e. e < 12) edges → All (λ e. place e ≤ 1000) edges
    → sum_by (local_coordinate place axis) edges ≤ length edges * 1000
sum_low place axis edges three low few =
    sum_by-le (local_coordinate place axis) 1000 edges (λ k d below. coordinate_low place axis (get_or edges k d) three (low k d below) (few k d below))

pub count_is : (edges fan : List ℕ) → fan ≡ fan_of edges → get_or fan 39 0 ≡ length edges
unfolding fan_of
count_is edges fan is = ap (λ l. get_or l 39 0) is

-- the sum and the mean along an axis
module _ (at place : ℕ → ℕ) (edges fan : List ℕ) (is : fan ≡ fan_of edges) (are : ArePlaced place edges at) (axis : ℕ) (three : axis < 3) where
  low : sum_by (local_coordinate place axis) edges ≤ length edges * 1000
  low = sum_low place axis edges three are.shape.low are.few

  all : (sum : ℕ) → sum ≡ axis_sum at fan axis % 65536 → sum ≡ sum_by (local_coordinate place axis) edges
  all sum wrapped =
      small sum (axis_sum at fan axis) (sum_by (local_coordinate place axis) edges) wrapped (sum_is at place edges fan axis three is are)
      (let most = are.shape.most in omega (arith, low, most))
    where
      small : (s t u : ℕ) → s ≡ t % 65536 → t ≡ u → u < 65536 → s ≡ u
      small s t u a b c = omega (arith, a, b, c)

  pub few_of : (sum count : ℕ) → sum ≡ axis_sum at fan axis % 65536 → count ≡ get_or fan 39 0 → sum ≤ 1000 * count
  few_of sum count wrapped counted =
      let s = all sum wrapped in
      let n = counted ∙ count_is edges fan is in
      omega (arith, s, n, low)

  pub mean_of : (sum count result : ℕ) → sum ≡ axis_sum at fan axis % 65536 → count ≡ get_or fan 39 0 → result ≡ (2 * sum + count) / (2 * count) → result ≡ local_mean place axis edges
  mean_of sum count result wrapped counted value =
      let f : ℕ → ℕ = local_coordinate place axis in
      let n : count ≡ length edges = counted ∙ count_is edges fan is in
      value
      ∙ (ap (λ n. (2 * n + count) / (2 * count)) (all sum wrapped ∙ sym (sum-map f edges))
      ∙ ap (λ n. (2 * sum_of (map f edges) + n) / (2 * n)) (n ∙ sym (length-map edges f)))

-- sums of lanes, which wrap
pub four_lanes : (w x y z a b c d : ℕ) → w ≡ a % 65536 → x ≡ b % 65536 → y ≡ c % 65536 → z ≡ d % 65536
    → ((w + x) % 65536 + (y + z) % 65536) % 65536 ≡ (a + b + c + d) % 65536
four_lanes w x y z a b c d hw hx hy hz = omega (arith, hw, hx, hy, hz)

two_lanes : (s t u b c x y r : ℕ) → s ≡ x % 65536 → t ≡ u → u ≡ y % 65536 → b ≡ c → r ≡ x + y + c → ((s + t) % 65536 + b) % 65536 ≡ r % 65536
two_lanes s t u b c x y r hs ht hu hb hr = omega (arith, hs, ht, hu, hb, hr)

-- three coordinates in a list
pub all_low : (x y z : ℕ) → x ≤ 1000 → y ≤ 1000 → z ≤ 1000 → All (λ c. c ≤ 1000) (x ∷ y ∷ z ∷ [])
all_low x y z hx hy hz zero d low = hx
all_low x y z hx hy hz (suc zero) d low = hy
all_low x y z hx hy hz (suc (suc zero)) d low = hz
all_low x y z hx hy hz (suc (suc (suc k))) d low = absurd (omega (arith, low))

-- lanes of products
pub lanes_long : (f : ℕ → ℕ → ℕ) (places fan : List ℕ) (from m at n : ℕ) → m ≡ 8 → n ≡ 8 → from + 8 ≤ length places → at + 8 ≤ length fan
    → length (zip2 f (chunk 0 8 (chunk from m places)) (chunk 0 8 (chunk at n fan))) ≡ 8
lanes_long f places fan from m at n em en within behind =
    let left : length (chunk 0 8 (chunk from m places)) ≡ 8 = length-chunk 0 8 (chunk from m places) (let l = length-chunk from m places (omega (arith, em, within)) in omega (arith, l, em)) in
    let right : length (chunk 0 8 (chunk at n fan)) ≡ 8 = length-chunk 0 8 (chunk at n fan) (let l = length-chunk at n fan (omega (arith, en, behind)) in omega (arith, l, en)) in
    length-zip2 f (chunk 0 8 (chunk from m places)) (chunk 0 8 (chunk at n fan)) (left ∙ sym right) ∙ left

pub lane_of : (f : ℕ → ℕ → ℕ) (places fan : List ℕ) (from m row n s : ℕ) → m ≡ 8 → n ≡ 8 → from + 8 ≤ length places → 8 * row + 8 ≤ length fan → s < 8
    → get_or (zip2 f (chunk 0 8 (chunk from m places)) (chunk 0 8 (chunk (8 * row) n fan))) s 0 ≡ f (get_or places (from + s) 0) (get_or fan (8 * row + s) 0)
lane_of f places fan from m row n s em en within behind low =
    let left : length (chunk from m places) ≡ 8 = length-chunk from m places (omega (arith, em, within)) ∙ em in
    let right : length (chunk (8 * row) n fan) ≡ 8 = length-chunk (8 * row) n fan (omega (arith, en, behind)) ∙ en in
    get_or-zip2 f (chunk 0 8 (chunk from m places)) (chunk 0 8 (chunk (8 * row) n fan)) s 0 0 0
    (let l = length-chunk 0 8 (chunk from m places) (omega (arith, left)) in omega (arith, l, low))
    (let l = length-chunk 0 8 (chunk (8 * row) n fan) (omega (arith, right)) in omega (arith, l, low))
    ∙ ap₂ f
    (get_or-chunk 0 8 (chunk from m places) s 0 low ∙ (ap (λ i. get_or (chunk from m places) i 0) (zero-add s) ∙ get_or-chunk from m places s 0 (omega (arith, em, low))))
    (get_or-chunk 0 8 (chunk (8 * row) n fan) s 0 low ∙ (ap (λ i. get_or (chunk (8 * row) n fan) i 0) (zero-add s) ∙ get_or-chunk (8 * row) n fan s 0 (omega (arith, en, low))))

-- where a lane's place stands
pub slot_is : (rows : List ℕ) (at row s : ℕ) → s < 8 → get_or rows row 0 + at + s ≡ get_or rows ((8 * row + s) / 8) 0 + at + (8 * row + s) % 8
slot_is rows at row s low =
    let r : row ≡ (8 * row + s) / 8 = omega (arith, low) in
    let e : s ≡ (8 * row + s) % 8 = omega (arith, low) in
    ap (λ r. get_or rows r 0 + at + s) r ∙ ap (λ s'. get_or rows ((8 * row + s) / 8) 0 + at + s') e

-- lanes of sums
pub sum_lane : (xs ys : List ℕ) (s : ℕ) → length xs ≡ 8 → length ys ≡ 8 → s < 8 → get_or (zip2 (λ a b. (a + b) % 65536) xs ys) s 0 ≡ (get_or xs s 0 + get_or ys s 0) % 65536
sum_lane xs ys s hx hy low = get_or-zip2 (λ a b. (a + b) % 65536) xs ys s 0 0 0 (omega (arith, hx, low)) (omega (arith, hy, low))

pub sums_long : (xs ys : List ℕ) → length xs ≡ 8 → length ys ≡ 8 → length (zip2 (λ a b. (a + b) % 65536) xs ys) ≡ 8
sums_long xs ys hx hy = length-zip2 (λ a b. (a + b) % 65536) xs ys (hx ∙ sym hy) ∙ hx

-- the sums of lanes three apart, and what stands behind the weights
module _ (at : ℕ → ℕ) (fan sums : List ℕ) (long : length fan ≡ 40) (eight : length sums ≡ 8) where
  abbrev part : ℕ → ℕ
  part i = at i * get_or fan i 0

  abbrev turned : List ℕ
  turned =
      get_or (sums ++ sums) 3 0 ∷ get_or (sums ++ sums) 4 0 ∷ get_or (sums ++ sums) 5 0 ∷ get_or (sums ++ sums) 6 0 ∷ get_or (sums ++ sums) 7 0
      ∷ get_or (sums ++ sums) 0 0 ∷ get_or (sums ++ sums) 1 0 ∷ get_or (sums ++ sums) 2 0 ∷ []

  abbrev rest : List ℕ
  rest = chunk 0 8 (chunk 32 8 fan)

  pub axis_lane : ((s : ℕ) → s < 8 → get_or sums s 0 ≡ (part s + part (8 + s) + part (16 + s) + part (24 + s)) % 65536)
      → (axis : ℕ) → axis < 3 → get_or (zip2 (λ a b. (a + b) % 65536) (zip2 (λ a b. (a + b) % 65536) sums turned) rest) axis 0 ≡ axis_sum at fan axis % 65536
  axis_lane lanes axis three =
      sum_lane (zip2 (λ a b. (a + b) % 65536) sums turned) rest axis (sums_long sums turned eight refl) rest_long (omega (arith, three))
      ∙ (ap (λ n. (n + get_or rest axis 0) % 65536) (sum_lane sums turned axis eight refl (omega (arith, three)))
      ∙ two_lanes (get_or sums axis 0) (get_or turned axis 0) (get_or sums (axis + 3) 0) (get_or rest axis 0) (get_or fan (32 + axis) 0) _ _ (axis_sum at fan axis)
      (lanes axis (omega (arith, three))) (by_axis (λ axis. get_or turned axis 0 ≡ get_or sums (axis + 3) 0) (left 3 (omega arith)) (left 4 (omega arith)) (left 5 (omega arith)) axis three)
      (lanes (axis + 3) (omega (arith, three))) (behind axis three)
      (by_axis (λ axis. axis_sum at fan axis ≡ (part axis + part (8 + axis) + part (16 + axis) + part (24 + axis)) + (part (axis + 3) + part (8 + (axis + 3)) + part (16 + (axis + 3)) + part (24 + (axis + 3))) + get_or fan (32 + axis) 0)
      (regroup (part 0) (part 3) (part 8) (part 11) (part 16) (part 19) (part 24) (part 27) (get_or fan 32 0))
      (regroup (part 1) (part 4) (part 9) (part 12) (part 17) (part 20) (part 25) (part 28) (get_or fan 33 0))
      (regroup (part 2) (part 5) (part 10) (part 13) (part 18) (part 21) (part 26) (part 29) (get_or fan 34 0)) axis three))
    where
      rest_long : length rest ≡ 8
      rest_long = length-chunk 0 8 (chunk 32 8 fan) (let l = length-chunk 32 8 fan (omega (arith, long)) in omega (arith, l))

      left : (k : ℕ) → k < 8 → get_or (sums ++ sums) k 0 ≡ get_or sums k 0
      left k low = get_or_append_left sums sums 0 k (omega (arith, eight, low))

      behind : (axis : ℕ) → axis < 3 → get_or rest axis 0 ≡ get_or fan (32 + axis) 0
      behind axis three =
          get_or-chunk 0 8 (chunk 32 8 fan) axis 0 (omega (arith, three))
          ∙ (ap (λ i. get_or (chunk 32 8 fan) i 0) (zero-add axis) ∙ get_or-chunk 32 8 fan axis 0 (omega (arith, three)))

      regroup : (a b c d e f g h r : ℕ) → 0 + a + b + c + d + e + f + g + h + r ≡ (a + c + e + g) + (b + d + f + h) + r
      regroup a b c d e f g h r = omega arith
