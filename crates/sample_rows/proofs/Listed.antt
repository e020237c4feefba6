-- The crossing edges and the active cells of a row, by the numbers of its points and by the cases of its cells.
use Rattle.std.proofs.Common.{◌≡◌, ℕ, zero, suc, ◌+◌, ◌/◌, ◌%◌, ◌<◌, ◌≤◌, Bool, cond, not, List, [], ◌∷◌, map, set, length, get_or, refl, sym, subst, ◌∙◌, ap, ap₂, arith, eqb, inl, inr}
use Rattle.std.specs.List.{filter, range_with_len}
use Rattle.std.proofs.lemmas.Bool.{cases_lt}
use Rattle.std.proofs.lemmas.List.{ext_get_or, get_or-map, get_or-set_other, get_or-set_same, length-map}
use Rattle.row_bits.specs.Active.{active_among}
use Rattle.row_bits.proofs.ActiveLists.{active_low}
use Rattle.sample_rows.specs.Lists.{cases_of, flags_of}

-- a row of whole numbers
pub flags_written : (numbers flags : List ℕ) → length flags ≡ length numbers → ((k : ℕ) → k < length numbers → get_or flags k 0 ≡ get_or numbers k 0 % 8) → flags ≡ flags_of numbers
flags_written numbers flags count done =
    ext_get_or 0 flags (flags_of numbers) (count ∙ sym (length-map numbers (λ n. n % 8)))
    (λ k low. done k (omega (arith, count, low)) ∙ sym (get_or-map (λ n. n % 8) numbers k 0 0 (omega (arith, count, low))))

pub case_here : (numbers : List ℕ) (k : ℕ) → k < length numbers → get_or (cases_of numbers) k 0 ≡ get_or numbers k 0 / 8
case_here numbers k low = get_or-map (λ n. n / 8) numbers k 0 0 low

-- the active cells by two lists that are the same so far
same_filter : (p q : ℕ → Bool) (a n : ℕ) → ((k : ℕ) → a ≤ k → k < a + n → p k ≡ q k) → filter p (range_with_len a n) ≡ filter q (range_with_len a n)
same_filter p q a zero same = refl
same_filter p q a (suc n) same =
    ap₂ (λ b l. cond {A = List ℕ} b (a ∷ l) l) (same a (omega arith) (omega arith)) (same_filter p q (a + 1) n (λ k least most. same k (omega (arith, least)) (omega (arith, most))))

pub active_alike : (all cases : List ℕ) (n : ℕ) → ((k : ℕ) → k < n → eqb (get_or all k 0) 0 ≡ eqb (get_or cases k 0) 0) → active_among all 0 n ≡ active_among cases 0 n
unfolding active_among
active_alike all cases n same =
    same_filter (λ x. not (eqb (get_or all x 0) 0)) (λ x. not (eqb (get_or cases x 0) 0)) 0 n (λ k _ most. ap not (same k (omega (arith, most))))

pub active_same : (all cases : List ℕ) (n : ℕ) → ((k : ℕ) → k < n → get_or all k 0 ≡ get_or cases k 0) → active_among all 0 n ≡ active_among cases 0 n
active_same all cases n same = active_alike all cases n (λ k low. ap (λ c. eqb c 0) (same k low))

-- one number of a row more
pub number_set : (numbers all : List ℕ) (x : ℕ) → x < length all → ((k : ℕ) → k < x → get_or all k 0 ≡ get_or numbers k 0 / 8) → (k : ℕ) → k < x + 1
    → get_or (set all x (get_or numbers x 0 / 8)) k 0 ≡ get_or numbers k 0 / 8
number_set numbers all x low done k within = elim (cases_lt k x) [
  | inl earlier ↦ get_or-set_other all x k (get_or numbers x 0 / 8) 0 (λ e. omega (arith, e, earlier)) ∙ done k earlier
  | inr late ↦ (
      let same : k ≡ x = omega (arith, late, within) in
      ap (λ k. get_or (set all x (get_or numbers x 0 / 8)) k 0) same ∙ (get_or-set_same all x (get_or numbers x 0 / 8) 0 low ∙ ap (λ k. get_or numbers k 0 / 8) (sym same)))
]

-- the cases of active cells by two lists that are the same so far
pub cases_same : (all cases listed : List ℕ) (n : ℕ) → listed ≡ active_among all 0 n → ((k : ℕ) → k < n → get_or all k 0 ≡ get_or cases k 0)
    → map (λ x. get_or all x 0) listed ≡ map (λ x. get_or cases x 0) listed
cases_same all cases listed n is same =
    let f : ℕ → ℕ = λ x. get_or all x 0 in
    let g : ℕ → ℕ = λ x. get_or cases x 0 in
    ext_get_or 0 (map f listed) (map g listed) (length-map listed f ∙ sym (length-map listed g))
    (λ k low.
    (let within : k < length listed = omega (arith, low, length-map listed f) in
    let small : get_or listed k 0 < n = subst (λ l. get_or l k 0 < n) (sym is) (active_low all n k (omega (arith, within, ap length is))) in
    get_or-map f listed k 0 0 within ∙ (same (get_or listed k 0) small ∙ sym (get_or-map g listed k 0 0 within))))

-- no cell of no cases is active
pub none_active : (a n : ℕ) → active_among [] a n ≡ []
unfolding active_among
none_active a zero = refl
none_active a (suc n) = none_active (a + 1) n
