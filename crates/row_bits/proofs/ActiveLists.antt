-- The active cells of a row, in order, and those between them.
use Rattle.std.proofs.Common.{◌≡◌, ℕ, zero, suc, ◌+◌, ◌-◌, ◌<◌, ◌≤◌, Bool, true, false, cond, not, List, [], ◌∷◌, ◌++◌, map, take, set, length, get_or, append-nil, refl, sym, subst, ◌∙◌, ap, ap₂, arith, eqb, if◌then◌else◌, zero-add}
use Rattle.std.specs.Int.{bit_at}
use Rattle.std.specs.List.{filter, range_with_len}
use Rattle.std.proofs.lemmas.Bool.{eqb-true, eqb-false}
use Rattle.std.proofs.lemmas.List.{get_or-take, length-append, map_more, take_more_set}
use Rattle.std.proofs.lemmas.List.Elements.{filter-append}
use Rattle.iso_defs.proofs.Ranges.{range_append}
use Rattle.row_bits.specs.Active.{active_among}
use Rattle.row_bits.proofs.SetBits.{bits_set, filter_none, is_set}

-- where the run of numbers begins that ends with the one listed at a place: behind the one before it
abbrev pub begins : ℕ → List ℕ → ℕ → ℕ
begins a xs zero = a
begins a xs (suc k) = get_or xs k 0 + 1

begins_next : (a x : ℕ) (xs : List ℕ) (k : ℕ) → x ≡ a → begins a (x ∷ xs) (suc k) ≡ begins (a + 1) xs k
begins_next a x xs zero e = ap (λ n. n + 1) e
begins_next a x xs (suc k) e = refl

-- the numbers of a run that pass a test: between them are those that do not
module _ (p : ℕ → Bool) where
  abbrev passing : ℕ → ℕ → List ℕ
  passing a n = filter p (range_with_len a n)

  -- the run with its first number, where it passes
  abbrev with_first : Bool → ℕ → ℕ → List ℕ
  with_first b a n = cond {A = List ℕ} b (a ∷ passing (a + 1) n) (passing (a + 1) n)

  abbrev Between : ℕ → ℕ → List ℕ → ℕ → ℕ → Type 0
  Between a end xs k x = k ≤ length xs → begins a xs k ≤ x → x < get_or xs k end → p x ≡ false

  at_first : (a end n x : ℕ) (b : Bool) → eqb x a ≡ b → p a ≡ false → Between (a + 1) end (passing (a + 1) n) zero x → Between a end (passing (a + 1) n) zero x
  at_first a end n x true e none rest low least most = ap p (eqb-true x a e) ∙ none
  at_first a end n x false e none rest low least most = rest low (omega (arith, least, eqb-false x a e)) most

  between_by : (a end n x : ℕ) (b : Bool) → p a ≡ b → ((k : ℕ) → Between (a + 1) end (passing (a + 1) n) k x) → (k : ℕ) → Between a end (with_first b a n) k x
  between_by a end n x true e rest zero low least most = absurd (omega (arith, least, most))
  between_by a end n x true e rest (suc k) low least most =
      let from = begins_next a a (passing (a + 1) n) k refl in
      rest k (omega (arith, low)) (omega (arith, from, least)) most
  between_by a end n x false e rest zero low least most = at_first a end n x (eqb x a) refl e (rest zero) low least most
  between_by a end n x false e rest (suc k) low least most = rest (suc k) low least most

  pub between : (a n end k x : ℕ) → end ≡ a + n → Between a end (passing a n) k x
  between a zero end zero x e low least most = absurd (omega (arith, e, least, most))
  between a zero end (suc k) x e low least most = absurd (omega (arith, low))
  between a (suc n) end k x e low least most = between_by a end n x (p a) refl (λ k. between (a + 1) n end k x (omega (arith, e))) k low least most

  abbrev Inside : ℕ → ℕ → List ℕ → ℕ → Type 0
  Inside a end xs k = k < length xs → (begins a xs k ≤ get_or xs k 0) × (get_or xs k 0 < end)

  inside_by : (a end n : ℕ) (b : Bool) → a < end → ((k : ℕ) → Inside (a + 1) end (passing (a + 1) n) k) → (k : ℕ) → Inside a end (with_first b a n) k
  inside_by a end n true some rest zero low = (omega arith, some)
  inside_by a end n true some rest (suc k) low =
      let r = rest k (omega (arith, low)) in
      let from = begins_next a a (passing (a + 1) n) k refl in
      (omega (arith, from, r.0), r.1)
  inside_by a end n false some rest zero low = let r = rest zero low in (omega (arith, r.0), r.1)
  inside_by a end n false some rest (suc k) low = rest (suc k) low

  pub inside : (a n end k : ℕ) → end ≡ a + n → Inside a end (passing a n) k
  inside a zero end k e low = absurd (omega (arith, low))
  inside a (suc n) end k e low = inside_by a end n (p a) (omega (arith, e)) (λ k. inside (a + 1) n end k (omega (arith, e))) k low

  few_by : (a n m : ℕ) (b : Bool) → length (passing (a + 1) n) ≤ m → length (with_first b a n) ≤ m + 1
  few_by a n m true h = omega (arith, h)
  few_by a n m false h = omega (arith, h)

  pub few : (a n : ℕ) → length (passing a n) ≤ n
  few a zero = omega arith
  few a (suc n) = let h = few_by a n n (p a) (few (a + 1) n) in omega (arith, h)

-- the list grows by groups
abbrev other : List ℕ → ℕ → Bool
other cases x = not (eqb (get_or cases x 0) 0)

pub active_none : (cases : List ℕ) (a : ℕ) → active_among cases a 0 ≡ []
unfolding active_among
active_none cases a = refl

pub active_more : (cases : List ℕ) (a m n : ℕ) → active_among cases a (m + n) ≡ active_among cases a m ++ active_among cases (a + m) n
unfolding active_among
active_more cases a m n = ap (filter (other cases)) (range_append a m n) ∙ filter-append (other cases) (range_with_len a m) (range_with_len (a + m) n)

pub active_on : (cases w1 w2 : List ℕ) (m at n k : ℕ) → m ≡ at → k ≡ m + n → w1 ≡ active_among cases 0 m → w2 ≡ w1 ++ active_among cases at n → w2 ≡ active_among cases 0 k
active_on cases w1 w2 m at n k here to before more =
    let zero_out : 0 + m ≡ at = omega (arith, here) in
    more ∙ (ap (λ l. l ++ active_among cases at n) before
    ∙ sym (ap (active_among cases 0) to ∙ (active_more cases 0 m n ∙ ap (λ a. active_among cases 0 m ++ active_among cases a n) zero_out)))

pub length_on : (cases : List ℕ) (m at n k a b : ℕ) → m ≡ at → k ≡ m + n → a ≡ length (active_among cases 0 m) → b ≡ a + length (active_among cases at n) → b ≡ length (active_among cases 0 k)
length_on cases m at n k a b here to before more =
    let zero_out : 0 + m ≡ at = omega (arith, here) in
    let cut = ap length (ap (active_among cases 0) to ∙ (active_more cases 0 m n ∙ ap (λ a. active_among cases 0 m ++ active_among cases a n) zero_out)) in
    omega (arith, before, more, cut, length-append (active_among cases 0 m) (active_among cases at n))

pub active_few : (cases : List ℕ) (a n : ℕ) → length (active_among cases a n) ≤ n
unfolding active_among
active_few cases a n = few (other cases) a n

-- the list of a row by its width
pub listed_by : (cases xs : List ℕ) (m n : ℕ) → m ≡ n → xs ≡ active_among cases 0 (m - 1) → xs ≡ active_among cases 0 (n - 1)
listed_by cases xs m n width is = is ∙ ap (λ n. active_among cases 0 (n - 1)) width

pub counted_by : (cases : List ℕ) (k m n : ℕ) → m ≡ n → k ≡ length (active_among cases 0 (m - 1)) → k ≡ length (active_among cases 0 (n - 1))
counted_by cases k m n width is = is ∙ ap (λ n. length (active_among cases 0 (n - 1))) width

-- the bits that are set in a number are the active cells of a group
shifted_filter : (p q : ℕ → Bool) (from a n : ℕ) → ((k : ℕ) → a ≤ k → k < a + n → p k ≡ q (from + k))
    → map (λ k. from + k) (filter p (range_with_len a n)) ≡ filter q (range_with_len (from + a) n)
shifted_filter p q from a zero same = refl
shifted_filter p q from a (suc n) same =
    let e : from + (a + 1) ≡ from + a + 1 = omega arith in
    let rest : map (λ k. from + k) (filter p (range_with_len (a + 1) n)) ≡ filter q (range_with_len (from + a + 1) n)
    = shifted_filter p q from (a + 1) n (λ k least most. same k (omega (arith, least)) (omega (arith, most))) ∙ ap (λ b. filter q (range_with_len b n)) e in
    by (p a) (q (from + a)) (same a (omega arith) (omega arith)) rest
  where
    by : (b c : Bool) → b ≡ c → map (λ k. from + k) (filter p (range_with_len (a + 1) n)) ≡ filter q (range_with_len (from + a + 1) n)
        → map (λ k. from + k) (cond {A = List ℕ} b (a ∷ filter p (range_with_len (a + 1) n)) (filter p (range_with_len (a + 1) n)))
        ≡ cond {A = List ℕ} c ((from + a) ∷ filter q (range_with_len (from + a + 1) n)) (filter q (range_with_len (from + a + 1) n))
    by true true e rest = ap (λ l. (from + a) ∷ l) rest
    by false false e rest = rest
    by true false e rest = absurd (cc)
    by false true e rest = absurd (cc)

pub group_cells : (cases : List ℕ) (from n count : ℕ) → count ≤ 64
    → ((k : ℕ) → k < count → bit_at n k ≡ (if eqb (get_or cases (from + k) 0) 0 then 0 else 1)) → ((k : ℕ) → count ≤ k → bit_at n k ≡ 0)
    → map (λ k. from + k) (bits_set n) ≡ active_among cases from count
unfolding bits_set active_among
group_cells cases from n count few inside behind =
    let all : 64 ≡ count + (64 - count) = omega arith in
    let first : from + 0 ≡ from = omega arith in
    ap (λ m. map (λ k. from + k) (filter (is_set n) (range_with_len 0 m))) all
    ∙ (ap (λ l. map (λ k. from + k) (filter (is_set n) l)) (range_append 0 count (64 - count))
    ∙ (ap (map (λ k. from + k)) (filter-append (is_set n) (range_with_len 0 count) (range_with_len (0 + count) (64 - count))
    ∙ (ap (λ l. filter (is_set n) (range_with_len 0 count) ++ l) (filter_none (is_set n) (0 + count) (64 - count) (λ i least most. ap (λ b. eqb b 1) (behind i (omega (arith, least)))))
    ∙ append-nil (filter (is_set n) (range_with_len 0 count))))
    ∙ (shifted_filter (is_set n) (other cases) from 0 count (λ k least most. test k (omega (arith, most)))
    ∙ ap (λ a. filter (other cases) (range_with_len a count)) first)))
  where
    test : (k : ℕ) → k < count → is_set n k ≡ other cases (from + k)
    test k low = ap (λ b. eqb b 1) (inside k low) ∙ both (eqb (get_or cases (from + k) 0) 0)
      where
        both : (b : Bool) → eqb (if b then 0 else 1) 1 ≡ not b
        both true = refl
        both false = refl

-- a number that is listed
pub active_low : (cases : List ℕ) (n k : ℕ) → k < length (active_among cases 0 n) → get_or (active_among cases 0 n) k 0 < n
unfolding active_among
active_low cases n k low =
    let two = inside (λ x. not (eqb (get_or cases x 0) 0)) 0 n n k (sym (zero-add n)) low in
    two.1

-- an active cell of a buffer
pub listed_low : (cases places : List ℕ) (n count k : ℕ) → take count places ≡ active_among cases 0 n → count ≡ length (active_among cases 0 n) → k < count → get_or places k 0 < n
listed_low cases places n count k is counted low =
    let here : get_or (active_among cases 0 n) k 0 ≡ get_or places k 0 = ap (λ l. get_or l k 0) (sym is) ∙ get_or-take count places k 0 low in
    subst (λ x. x < n) here (active_low cases n k (omega (arith, counted, low)))

-- the case of an active cell behind those of the active cells before it
pub case_listed : (all places cases : List ℕ) (k case : ℕ) → k < length cases → k < length places → case ≡ get_or all (get_or places k 0) 0
    → take k cases ≡ map (λ x. get_or all x 0) (take k places) → take (k + 1) (set cases k case) ≡ map (λ x. get_or all x 0) (take (k + 1) places)
case_listed all places cases k case room low is before =
    let f : ℕ → ℕ = λ x. get_or all x 0 in
    take_more_set cases k case room ∙ (ap₂ (λ l c. l ++ (c ∷ [])) before is ∙ sym (map_more f places k 0 low))
