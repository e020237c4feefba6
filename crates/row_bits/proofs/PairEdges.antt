-- The crossing edges of two points, out of the tables.
use Rattle.std.proofs.Common.{◌≡◌, ℕ, zero, suc, ◌+◌, ◌*◌, ◌/◌, ◌%◌, ◌^◌, ◌<◌, ◌≤◌, Bool, true, false, cond, List, [], ◌∷◌, ◌++◌, map, take, get_or, refl, sym, ◌∙◌, ap, ap₂, arith, eqb, leb}
use Rattle.std.specs.Prelude.{slice_index_or}
use Rattle.std.proofs.lemmas.List.{map-append, take-map}
use Rattle.row_bits.specs.Edges.{edges_among, edges_at}
use Rattle.row_bits.specs.declared.edges.TheConstants.{COUNTS, PAIRS}
use Rattle.row_bits.proofs.EdgeLists.{among_more, among_one}

by_eight : (P : ℕ → Type 0) → P 0 → P 1 → P 2 → P 3 → P 4 → P 5 → P 6 → P 7 → (i : ℕ) → i < 8 → P i
by_eight P a b c d e f g h zero low = a
by_eight P a b c d e f g h (suc zero) low = b
by_eight P a b c d e f g h (suc (suc zero)) low = c
by_eight P a b c d e f g h (suc (suc (suc zero))) low = d
by_eight P a b c d e f g h (suc (suc (suc (suc zero)))) low = e
by_eight P a b c d e f g h (suc (suc (suc (suc (suc zero))))) low = f
by_eight P a b c d e f g h (suc (suc (suc (suc (suc (suc zero)))))) low = g
by_eight P a b c d e f g h (suc (suc (suc (suc (suc (suc (suc zero))))))) low = h
by_eight P a b c d e f g h (suc (suc (suc (suc (suc (suc (suc (suc i)))))))) low = absurd (omega arith)

-- what the tables have for the flags of two points
pub record IsPair (a b : ℕ) : Type 0 where
  pub listed : take (get_or COUNTS (a + 8 * b) 0) (slice_index_or PAIRS (a + 8 * b) []) ≡ edges_at a 0 ++ edges_at b 1
  pub few : leb (get_or COUNTS (a + 8 * b) 0) 6 ≡ true

pair : {a b : ℕ} → take (get_or COUNTS (a + 8 * b) 0) (slice_index_or PAIRS (a + 8 * b) []) ≡ edges_at a 0 ++ edges_at b 1 → leb (get_or COUNTS (a + 8 * b) 0) 6 ≡ true → IsPair a b
pair listed few = record { listed = listed; few = few }

pub is_pair : (a : ℕ) → a < 8 → (b : ℕ) → b < 8 → IsPair a b
is_pair =
    by_eight (λ a. (b : ℕ) → b < 8 → IsPair a b)
    (by_eight (IsPair 0) (pair refl refl) (pair refl refl) (pair refl refl) (pair refl refl) (pair refl refl) (pair refl refl) (pair refl refl) (pair refl refl))
    (by_eight (IsPair 1) (pair refl refl) (pair refl refl) (pair refl refl) (pair refl refl) (pair refl refl) (pair refl refl) (pair refl refl) (pair refl refl))
    (by_eight (IsPair 2) (pair refl refl) (pair refl refl) (pair refl refl) (pair refl refl) (pair refl refl) (pair refl refl) (pair refl refl) (pair refl refl))
    (by_eight (IsPair 3) (pair refl refl) (pair refl refl) (pair refl refl) (pair refl refl) (pair refl refl) (pair refl refl) (pair refl refl) (pair refl refl))
    (by_eight (IsPair 4) (pair refl refl) (pair refl refl) (pair refl refl) (pair refl refl) (pair refl refl) (pair refl refl) (pair refl refl) (pair refl refl))
    (by_eight (IsPair 5) (pair refl refl) (pair refl refl) (pair refl refl) (pair refl refl) (pair refl refl) (pair refl refl) (pair refl refl) (pair refl refl))
    (by_eight (IsPair 6) (pair refl refl) (pair refl refl) (pair refl refl) (pair refl refl) (pair refl refl) (pair refl refl) (pair refl refl) (pair refl refl))
    (by_eight (IsPair 7) (pair refl refl) (pair refl refl) (pair refl refl) (pair refl refl) (pair refl refl) (pair refl refl) (pair refl refl) (pair refl refl))

-- the offsets of a point further on
one_moved : (n a x : ℕ) (c : Bool) → (a + n) % 2 ^ 16 ≡ x → map (λ e. (e + n) % 2 ^ 16) (cond {A = List ℕ} c (a ∷ []) []) ≡ cond {A = List ℕ} c (x ∷ []) []
one_moved n a x true at = ap (λ y. y ∷ []) at
one_moved n a x false at = refl

point_moved : (n f k x : ℕ) → k ≤ 1 → x < 1026 → n + 3 * k ≡ 3 * x → map (λ e. (e + n) % 2 ^ 16) (edges_at f k) ≡ edges_at f x
point_moved n f k x near low at =
    let g : ℕ → ℕ = λ e. (e + n) % 2 ^ 16 in
    let one : List ℕ = cond {A = List ℕ} (eqb (f % 2) 1) ((3 * k) ∷ []) [] in
    let two : List ℕ = cond {A = List ℕ} (eqb (f / 2 % 2) 1) ((3 * k + 1) ∷ []) [] in
    let three : List ℕ = cond {A = List ℕ} (eqb (f / 4) 1) ((3 * k + 2) ∷ []) [] in
    map-append g one (two ++ three)
    ∙ ap₂ (λ k l. k ++ l) (one_moved n (3 * k) (3 * x) (eqb (f % 2) 1) (omega (arith, near, low, at)))
    (map-append g two three
    ∙ ap₂ (λ k l. k ++ l) (one_moved n (3 * k + 1) (3 * x + 1) (eqb (f / 2 % 2) 1) (omega (arith, near, low, at)))
    (one_moved n (3 * k + 2) (3 * x + 2) (eqb (f / 4) 1) (omega (arith, near, low, at))))

-- the offsets of the edges of two points
pub pair_moved : (flags : List ℕ) (x : ℕ) → x ≤ 1023 → map (λ e. (e + 3 * x) % 2 ^ 16) (edges_at (get_or flags x 0) 0 ++ edges_at (get_or flags (x + 1) 0) 1) ≡ edges_among flags x 2
pair_moved flags x low =
    let a : ℕ = get_or flags x 0 in
    let b : ℕ = get_or flags (x + 1) 0 in
    map-append (λ e. (e + 3 * x) % 2 ^ 16) (edges_at a 0) (edges_at b 1)
    ∙ (ap₂ (λ k l. k ++ l) (point_moved (3 * x) a 0 x (omega arith) (omega (arith, low)) (omega arith)) (point_moved (3 * x) b 1 (x + 1) (omega arith) (omega (arith, low)) (omega arith))
    ∙ sym (among_more flags x 1 1 ∙ ap₂ (λ k l. k ++ l) (among_one flags x) (among_one flags (x + 1))))

-- eight bytes that make up 0
pub none_of_eight : (f : ℕ → ℕ) → f 0 + 2 ^ 8 * f 1 + 2 ^ 16 * f 2 + 2 ^ 24 * f 3 + 2 ^ 32 * f 4 + 2 ^ 40 * f 5 + 2 ^ 48 * f 6 + 2 ^ 56 * f 7 ≡ 0 → (k : ℕ) → k < 8 → f k ≡ 0
none_of_eight f none =
    by_eight (λ k. f k ≡ 0)
    (omega (arith, none)) (omega (arith, none)) (omega (arith, none)) (omega (arith, none)) (omega (arith, none)) (omega (arith, none)) (omega (arith, none)) (omega (arith, none))

-- those that the table has for them, so many as the other table says, are moved on
pub pair_front : (flags : List ℕ) (x at_pair count : ℕ) (numbers : List ℕ) → x ≤ 1023 → at_pair ≡ get_or flags x 0 + 8 * get_or flags (x + 1) 0
    → count ≡ get_or COUNTS (get_or flags x 0 + 8 * get_or flags (x + 1) 0) 0 → IsPair (get_or flags x 0) (get_or flags (x + 1) 0)
    → numbers ≡ map (λ e. (e + 3 * x) % 2 ^ 16) (slice_index_or PAIRS at_pair []) → take count numbers ≡ edges_among flags x 2
pair_front flags x at_pair count numbers low at many is moved =
    let f : ℕ → ℕ = λ e. (e + 3 * x) % 2 ^ 16 in
    let p : ℕ = get_or flags x 0 + 8 * get_or flags (x + 1) 0 in
    ap (take count) (moved ∙ ap (λ n. map f (slice_index_or PAIRS n [])) at)
    ∙ (take-map f count (slice_index_or PAIRS p [])
    ∙ (ap (λ n. map f (take n (slice_index_or PAIRS p []))) many ∙ (ap (map f) is.listed ∙ pair_moved flags x low)))

-- offsets are moved on in two steps
pub moved_both : (from k : ℕ) (l : List ℕ) → map (λ e. (e + 3 * k + 3 * from) % 2 ^ 16) l ≡ map (λ e. (e + 3 * (from + k)) % 2 ^ 16) l
moved_both from k [] = refl
moved_both from k (e ∷ l) = let one : e + 3 * k + 3 * from ≡ e + 3 * (from + k) = omega arith in ap₂ (λ n l. n % 2 ^ 16 ∷ l) one (moved_both from k l)
