-- Sums of the values of all numbers below one.
use Rattle.std.proofs.Common.{◌≡◌, ℕ, zero, suc, ◌+◌, ◌-◌, ◌*◌, ◌/◌, ◌%◌, ◌<◌, ◌≤◌, refl, sym, ◌∙◌, ap, ap₂, subst, arith, inl, inr}
use Rattle.std.proofs.lemmas.Bool.{cases_lt}
use Rattle.std.proofs.Math.Nat.{mul-le-mul_right}

-- the sum of the values below n
abbrev pub upto : (ℕ → ℕ) → ℕ → ℕ
upto f zero = 0
upto f (suc n) = upto f n + f n

upto_grows : (f : ℕ → ℕ) (m k : ℕ) → upto f m ≤ upto f (k + m)
upto_grows f m zero = let e : 0 + m ≡ m = omega arith in subst (λ n. upto f m ≤ upto f n) (sym e) (omega arith)
upto_grows f m (suc k) =
    let e : suc k + m ≡ suc (k + m) = omega arith in
    subst (λ n. upto f m ≤ upto f n) (sym e) (let h : upto f m ≤ upto f (k + m) = upto_grows f m k in omega arith)

pub upto_more : (f : ℕ → ℕ) (m n : ℕ) → m ≤ n → upto f m ≤ upto f n
upto_more f m n h = let e : n - m + m ≡ n = omega arith in subst (λ n. upto f m ≤ upto f n) e (upto_grows f m (n - m))

pub upto_scaled : (f : ℕ → ℕ) (n : ℕ) → upto (λ k. 8 * f k) n ≡ 8 * upto f n
upto_scaled f zero = refl
upto_scaled f (suc n) = let h : upto (λ k. 8 * f k) n ≡ 8 * upto f n = upto_scaled f n in omega arith

pub zeros : (f : ℕ → ℕ) (n : ℕ) → ((i : ℕ) → i < n → f i ≡ 0) → upto f n ≡ 0
zeros f zero none = refl
zeros f (suc n) none = let h : upto f n ≡ 0 = zeros f n (λ i low. none i (omega arith)) in let k : f n ≡ 0 = none n (omega arith) in omega arith

pub upto_low : (f : ℕ → ℕ) (most n : ℕ) → ((i : ℕ) → f i ≤ most) → upto f n ≤ most * n
upto_low f most zero low = omega arith
upto_low f most (suc n) low = let h : upto f n ≤ most * n = upto_low f most n low in let k : f n ≤ most = low n in omega arith

-- each value of eight in a row at most one of another
by_eights : (f g : ℕ → ℕ) (n : ℕ) → ((i : ℕ) → i < n → f i ≤ g (i / 8)) → upto f n ≤ 8 * upto g (n / 8) + n % 8 * g (n / 8)
by_eights f g zero each = omega arith
by_eights f g (suc n) each =
    let h : upto f n ≤ 8 * upto g (n / 8) + n % 8 * g (n / 8) = by_eights f g n (λ i low. each i (omega arith)) in
    let here : f n ≤ g (n / 8) = each n (omega arith) in
    elim (cases_lt (n % 8) 7) [
      | inl low ↦ (
          let d : suc n / 8 ≡ n / 8 = omega arith in
          let m : suc n % 8 ≡ n % 8 + 1 = omega arith in
          let to : 8 * upto g (n / 8) + (n % 8 + 1) * g (n / 8) ≡ 8 * upto g (suc n / 8) + suc n % 8 * g (suc n / 8)
          = ap₂ (λ a b. 8 * upto g a + b * g a) (sym d) (sym m) in
          subst (λ k. upto f (suc n) ≤ k) to (omega arith))
      | inr high ↦ (
          let d : suc n / 8 ≡ suc (n / 8) = omega arith in
          let m : suc n % 8 ≡ 0 = omega arith in
          let seven : n % 8 ≡ 7 = omega arith in
          let k : n % 8 * g (n / 8) ≡ 7 * g (n / 8) = ap (λ a. a * g (n / 8)) seven in
          let to : 8 * upto g (suc (n / 8)) + 0 * g (suc (n / 8)) ≡ 8 * upto g (suc n / 8) + suc n % 8 * g (suc n / 8)
          = ap₂ (λ a b. 8 * upto g a + b * g a) (sym d) (sym m) in
          subst (λ k. upto f (suc n) ≤ k) to (omega arith))
    ]

pub eighths : (f g : ℕ → ℕ) (n m : ℕ) → ((i : ℕ) → i < n → f i ≤ g (i / 8)) → n ≤ 8 * m → upto f n ≤ 8 * upto g m
eighths f g n m each few =
    let h : upto f n ≤ 8 * upto g (n / 8) + n % 8 * g (n / 8) = by_eights f g n each in
    elim (cases_lt (n / 8) m) [
      | inl low ↦ (
          let a : upto g (suc (n / 8)) ≤ upto g m = upto_more g (suc (n / 8)) m (omega arith) in
          let b : n % 8 * g (n / 8) ≤ 8 * g (n / 8) = mul-le-mul_right (g (n / 8)) (omega arith) in
          omega arith)
      | inr high ↦ (
          let none : n % 8 ≡ 0 = omega arith in
          let a : upto g (n / 8) ≤ upto g m = upto_more g (n / 8) m (omega arith) in
          let b : n % 8 * g (n / 8) ≡ 0 * g (n / 8) = ap (λ k. k * g (n / 8)) none in
          omega arith)
    ]

pub upto_same : (f g : ℕ → ℕ) (n : ℕ) → ((i : ℕ) → i < n → f i ≡ g i) → upto f n ≡ upto g n
upto_same f g zero each = refl
upto_same f g (suc n) each = ap₂ ◌+◌ (upto_same f g n (λ i low. each i (omega arith))) (each n (omega arith))

upto_add : (f g : ℕ → ℕ) (n : ℕ) → upto (λ i. f i + g i) n ≡ upto f n + upto g n
upto_add f g zero = refl
upto_add f g (suc n) = let h : upto (λ i. f i + g i) n ≡ upto f n + upto g n = upto_add f g n in omega arith

-- the same sum, columns before rows
pub upto_swap : (f : ℕ → ℕ → ℕ) (m n : ℕ) → upto (λ a. upto (f a) n) m ≡ upto (λ b. upto (λ a. f a b) m) n
upto_swap f zero n = sym (zeros (λ b. 0) n (λ i low. refl))
upto_swap f (suc m) n =
    ap (λ k. k + upto (f m) n) (upto_swap f m n) ∙ sym (upto_add (λ b. upto (λ a. f a b) m) (f m) n)

-- what follows a number
pub upto_append : (f : ℕ → ℕ) (a n : ℕ) → upto f (a + n) ≡ upto f a + upto (λ i. f (a + i)) n
upto_append f a zero = let e : a + 0 ≡ a = omega arith in ap (upto f) e ∙ plus_none (upto f a)
  where
    plus_none : (n : ℕ) → n ≡ n + 0
    plus_none n = omega arith
upto_append f a (suc n) =
    let e : a + suc n ≡ suc (a + n) = omega arith in
    let h : upto f (a + n) ≡ upto f a + upto (λ i. f (a + i)) n = upto_append f a n in
    ap (upto f) e ∙ omega arith

-- a sum by runs of k numbers
pub upto_split : (f : ℕ → ℕ) (k m : ℕ) → upto f (k * m) ≡ upto (λ j. upto (λ i. f (k * j + i)) k) m
upto_split f k zero = let e : k * 0 ≡ 0 = omega arith in ap (upto f) e
upto_split f k (suc m) =
    let e : k * suc m ≡ k * m + k = omega arith in
    ap (upto f) e ∙ (upto_append f (k * m) k ∙ ap (λ n. n + upto (λ i. f (k * m + i)) k) (upto_split f k m))

-- zeros behind a number add nothing
pub upto_cut : (f : ℕ → ℕ) (n m : ℕ) → n ≤ m → ((i : ℕ) → n ≤ i → f i ≡ 0) → upto f m ≡ upto f n
upto_cut f n m more none =
    let e : m ≡ n + (m - n) = omega arith in
    let rest : upto (λ i. f (n + i)) (m - n) ≡ 0 = zeros (λ i. f (n + i)) (m - n) (λ i low. none (n + i) (omega arith)) in
    ap (upto f) e ∙ (upto_append f n (m - n) ∙ (ap (λ k. upto f n + k) rest ∙ omega arith))

-- a sum by eights, where all values from the last one on are 0
pub in_eights : (f : ℕ → ℕ) (n m : ℕ) → 0 < n → n ≤ 8 * m + 1 → ((i : ℕ) → n ≤ i + 1 → f i ≡ 0) → upto f n ≡ upto (λ j. upto (λ i. f (8 * j + i)) 8) m
in_eights f n m some few none =
    upto_cut f (n - 1) n (omega arith) (λ i from. none i (omega arith))
    ∙ (sym (upto_cut f (n - 1) (8 * m) (omega arith) (λ i from. none i (omega arith))) ∙ upto_split f 8 m)
