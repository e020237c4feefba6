-- A division by twice a short number, by a reciprocal out of the table.
use Rattle.std.proofs.Common.{◌≡◌, ◌∙◌, ℕ, zero, suc, ◌+◌, ◌-◌, ◌*◌, ◌/◌, ◌^◌, ◌<◌, ◌≤◌, Bool, true, ◌&&◌, List, [], ◌∷◌, length, get_or, refl, ap, subst, arith}
use Rattle.std.specs.Prelude.{nat_le, nat_lt}
use Rattle.std.proofs.lemmas.Bool.{and_parts, leb-true, ltb-true}
use Rattle.std.proofs.lemmas.Nat.{div_below}
use Rattle.std.proofs.Math.Nat.{lt-mul-div-succ, mul-div-le, mul-le-mul}
use Rattle.edge_points.specs.declared.sample_places.TheConstants.{RECIPROCALS}

-- a number is as near above 2^32 divided by twice d as a quotient of at most 1,000 needs it
abbrev is_near : ℕ → ℕ → Bool
is_near d c = nat_le 4294967296 (c * (2 * d)) && nat_lt (1001 * (c * (2 * d))) (1001 * 4294967296 + c)

-- a test of all of a list, each by its number
all_near : ℕ → List ℕ → Bool
all_near d [] = true
all_near d (c ∷ cs) = is_near d c && all_near (d + 1) cs

-- all but the first, which stands for no division
after_first : List ℕ → List ℕ
after_first [] = []
after_first (c ∷ cs) = cs

all_are_near : all_near 1 (after_first RECIPROCALS) ≡ true
unfolding all_near after_first
all_are_near = refl

near_at : (cs : List ℕ) (d k : ℕ) → all_near d cs ≡ true → k < length cs → is_near (d + k) (get_or cs k 0) ≡ true
unfolding all_near
near_at [] d k h low = absurd (omega arith)
near_at (c ∷ cs) d zero h low =
    let same : d + 0 ≡ d = omega arith in
    rw same (and_parts (is_near d c) (all_near (d + 1) cs) h).0
near_at (c ∷ cs) d (suc k) h low =
    let next : d + suc k ≡ d + 1 + k = omega arith in
    rw next (near_at cs (d + 1) k (and_parts (is_near d c) (all_near (d + 1) cs) h).1 (omega arith))

-- the same of one number
record IsNear (d c : ℕ) : Type 0 where
  enough : 4294967296 ≤ c * (2 * d)
  near : 1001 * (c * (2 * d)) < 1001 * 4294967296 + c

near : (d : ℕ) → 0 < d → d < 1024 → IsNear d (get_or RECIPROCALS d 0)
unfolding after_first
near zero some few = absurd (omega arith)
near (suc k) some few =
    let c : ℕ = get_or RECIPROCALS (suc k) 0 in
    let same : 1 + k ≡ suc k = omega arith in
    let test : is_near (suc k) c ≡ true = subst (λ d. is_near d c ≡ true) same (near_at (after_first RECIPROCALS) 1 k all_are_near (omega (arith, few))) in
    let both = and_parts (nat_le 4294967296 (c * (2 * suc k))) (nat_lt (1001 * (c * (2 * suc k))) (1001 * 4294967296 + c)) test in
    record { enough = leb-true _ _ both.0; near = ltb-true _ _ both.1 }

-- With q the quotient, c * 2 * d is 2^32 and a rest, and a thousand and one times that rest is less than c: so n * c stands between q and q + 1 times 2^32.
module _ (n d c : ℕ) (some : 0 < d) (short : d < 1024) (few : n ≤ 2001 * d) (is : IsNear d c) where
  abbrev m : ℕ
  m = 2 * d

  abbrev q : ℕ
  q = n / m

  q_low : q ≤ 1000
  q_low = let below : q < 1001 = div_below n m 1001 (omega (arith, some)) (omega (arith, few, some)) in omega (arith, below)

  low : 4294967296 * q ≤ n * c
  low =
      let first : 4294967296 * q ≤ c * m * q = mul-le-mul is.enough (omega arith) in
      let second : c * (m * q) ≤ c * n = mul-le-mul (omega arith) (mul-div-le n m) in
      omega (arith, first, second)

  high : n * c < 4294967296 * (q + 1)
  high =
      let w : ℕ = c * m in
      let e : ℕ = w - 4294967296 in
      let over : w ≡ 4294967296 + e = omega (arith, is.enough) in
      let small : 1001 * e < c = omega (arith, over, is.near) in
      let next : n < m * (q + 1) = lt-mul-div-succ n (omega (arith, some)) in
      let all : (n + 1) * c ≤ m * (q + 1) * c = mul-le-mul (omega (arith, next)) (omega arith) in
      let same : m * (q + 1) * c ≡ (4294967296 + e) * (q + 1) = let s : m * (q + 1) * c ≡ w * (q + 1) = omega arith in s ∙ ap (λ x. x * (q + 1)) over in
      let few_more : e * (q + 1) ≤ e * 1001 = mul-le-mul (omega arith) (omega (arith, q_low)) in
      omega (arith, all, same, few_more, small)

  quotient : n * c / 4294967296 ≡ q
  quotient = omega (arith, low, high)

  fits : n * c < 2 ^ 64
  fits = omega (arith, high, q_low)

pub quotient_is : (n d : ℕ) → 0 < d → d < 1024 → n ≤ 2001 * d → n * get_or RECIPROCALS d 0 / 4294967296 ≡ n / (2 * d)
quotient_is n d some short few = quotient n d (get_or RECIPROCALS d 0) some short few (near d some short)

pub product_fits : (n d : ℕ) → 0 < d → d < 1024 → n ≤ 2001 * d → n * get_or RECIPROCALS d 0 < 2 ^ 64
product_fits n d some short few = fits n d (get_or RECIPROCALS d 0) some short few (near d some short)
