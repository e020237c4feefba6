-- How many bricks are asked.
use Rattle.std.proofs.Common.{◌≡◌, ℕ, zero, suc, ◌+◌, ◌*◌, ◌<◌, ◌≤◌, Bool, true, false, ◌&&◌, cond, not, [], ◌∙◌, ap, refl, arith, ℤ}
use Rattle.std.specs.List.{count_by, range_with_len}
use Rattle.iso_defs.specs.Grid.{Grid}
use Rattle.iso_defs.specs.Bricks.{is_active}
use Rattle.iso_defs.proofs.Ranges.{range_append}
use Rattle.triangle_laws.proofs.Counts.{count-append, count-cons}
use Rattle.brick_rows.specs.Named.{Named, asked_among, is_asked, row_cost}

pub asked_more : (g : Grid) (s : ℕ → ℤ) (names : Named) (a m n : ℕ) → asked_among g s names a (m + n) ≡ asked_among g s names a m + asked_among g s names (a + m) n
unfolding asked_among
asked_more g s names a m n =
    ap (count_by (is_asked g s names)) (range_append a m n) ∙ count-append (is_asked g s names) (range_with_len a m) (range_with_len (a + m) n)

-- one brick that is active
pub asked_one : (g : Grid) (s : ℕ → ℤ) (names : Named) (brick : ℕ) → is_active g s brick ≡ true → row_cost names brick ≡ 8 * asked_among g s names brick 1
unfolding asked_among is_asked
asked_one g s names brick active =
    let one : asked_among g s names brick 1 ≡ cond (is_asked g s names brick) 1 0 = count-cons (is_asked g s names) brick [] ∙ omega arith in
    let asked : is_asked g s names brick ≡ not (names.kept brick) = ap (λ b. b && not (names.kept brick)) active in
    cost (names.kept brick) ∙ ap (λ n. 8 * n) (ap (λ b. cond b 1 0) (by_path asked) ∙ by_count one)
  where
    cost : (kept : Bool) → cond kept 0 8 ≡ 8 * cond (not kept) 1 0
    cost true = refl
    cost false = refl

    by_path : {b c : Bool} → b ≡ c → c ≡ b
    by_path e = cc

    by_count : {m n : ℕ} → m ≡ n → n ≡ m
    by_count e = cc

pub asked_none : (g : Grid) (s : ℕ → ℤ) (names : Named) (a : ℕ) → asked_among g s names a 0 ≡ 0
unfolding asked_among
asked_none g s names a = refl

-- one that is not
asked_not : (g : Grid) (s : ℕ → ℤ) (names : Named) (brick : ℕ) → is_active g s brick ≡ false → asked_among g s names brick 1 ≡ 0
unfolding asked_among is_asked
asked_not g s names brick still =
    let one : asked_among g s names brick 1 ≡ cond (is_asked g s names brick) 1 0 = count-cons (is_asked g s names) brick [] ∙ omega arith in
    one ∙ ap (λ b. cond (b && not (names.kept brick)) 1 0) still

-- so many that are not
pub asked_still : (g : Grid) (s : ℕ → ℤ) (names : Named) (n a : ℕ) → ((b : ℕ) → a ≤ b → b < a + n → is_active g s b ≡ false) → asked_among g s names a n ≡ 0
asked_still g s names zero a still = asked_none g s names a
asked_still g s names (suc n) a still =
    let first = asked_not g s names a (still a (omega arith) (omega arith)) in
    let rest = asked_still g s names n (a + 1) (λ b from low. still b (omega arith) (omega arith)) in
    let both : asked_among g s names a (1 + n) ≡ asked_among g s names a 1 + asked_among g s names (a + 1) n = asked_more g s names a 1 n in
    let count : suc n ≡ 1 + n = omega arith in
    ap (asked_among g s names a) count ∙ omega (arith, both, first, rest)
