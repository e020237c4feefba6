-- Sums that the code makes of the table's numbers, over plain numbers.
use Rattle.std.proofs.Common.{◌≡◌, ◌∙◌, ℕ, zero, suc, ◌+◌, ◌-◌, ◌<◌, ◌≤◌, List, [], ◌∷◌, refl, ap, ap₂, sym, subst, arith, get_or, length}
use Rattle.std.specs.Prelude.{slice_index_or, slice_range}
use Rattle.std.specs.List.{All}
use Rattle.cell_loops.specs.Loops.{IsLoop, row_loops}
use Rattle.cell_loops.specs.declared.table.TheConstants.{EDGES, FIRST, STARTS}
use Rattle.cell_loops.proofs.Shapes.{Stands, first_bound, row_at}

plain_difference : (first next count : ℕ) → first + count ≡ next → (first ≤ next) × (next - first ≡ count)
plain_difference first next count e = (omega arith, omega arith)

module _ (row number first next : ℕ) (small : row < 656) (is : number ≡ row) (begins : first ≡ get_or FIRST number 0) (ends : next ≡ get_or FIRST (number + 1) 0) where
  last : first + length (row_loops row) ≡ next
  last =
      ap (λ n. n + length (row_loops row)) (begins ∙ ap (λ n. get_or FIRST n 0) is) ∙ (row_at row small).last ∙ sym (ends ∙ ap (λ n. get_or FIRST (n + 1) 0) is)

  pub in_order : first ≤ next
  in_order = (plain_difference first next (length (row_loops row)) last).0

  pub count_is : next - first ≡ length (row_loops row)
  count_is = (plain_difference first next (length (row_loops row)) last).1

  pub count_few : next - first ≤ 4
  count_few = subst (λ n. n ≤ 4) (sym count_is) (row_at row small).few

module _ (row number first turn place start end : ℕ) (small : row < 656) (is : number ≡ row) (begins : first ≡ get_or FIRST number 0) (known : turn < length (row_loops row)) (at : place ≡ first + turn) where
  here : place ≡ get_or FIRST row 0 + turn
  here = at ∙ ap (λ n. n + turn) (begins ∙ ap (λ n. get_or FIRST n 0) is)

  stands : Stands (get_or FIRST row 0 + turn) (slice_index_or (row_loops row) turn [])
  stands = (row_at row small).stands turn known

  pub place_low : place + 1 < 1027
  place_low = below_last place (get_or FIRST row 0) turn (length (row_loops row)) (get_or FIRST (row + 1) 0) here known (row_at row small).last (first_bound (row + 1))
    where
      below_last : (place first turn count next : ℕ) → place ≡ first + turn → turn < count → first + count ≡ next → next ≤ 1026 → place + 1 < 1027
      below_last place first turn count next e h l b = omega arith

  module _ (from : start ≡ get_or STARTS place 0) (to : end ≡ get_or STARTS (place + 1) 0) where
    from_here : start ≡ get_or STARTS (get_or FIRST row 0 + turn) 0
    from_here = from ∙ ap (λ n. get_or STARTS n 0) here

    to_next : end ≡ get_or STARTS (get_or FIRST row 0 + turn + 1) 0
    to_next = to ∙ ap (λ n. get_or STARTS (n + 1) 0) here

    pub start_first : start ≤ end
    start_first = subst (λ n. n ≤ end) (sym from_here) (subst (λ n. get_or STARTS (get_or FIRST row 0 + turn) 0 ≤ n) (sym to_next) stands.order)

    pub edges_are : slice_range EDGES start end ≡ slice_index_or (row_loops row) turn []
    edges_are = ap₂ (λ a b. slice_range EDGES a b) from_here to_next ∙ stands.value

    pub is_loop : IsLoop (slice_index_or (row_loops row) turn [])
    is_loop = stands.shape

-- all loops of a case are loops
pub all_loops : (n : ℕ) → n < 656 → All IsLoop (row_loops n)
all_loops n small = λ turn d l. subst IsLoop (get_or_any (row_loops n) turn [] d l) ((row_at n small).stands turn l).shape
  where
    get_or_any : (xs : List (List ℕ)) (k : ℕ) (d e : List ℕ) → k < length xs → slice_index_or xs k d ≡ slice_index_or xs k e
    get_or_any [] k d e l = absurd (omega arith)
    get_or_any (x ∷ xs) zero d e l = refl
    get_or_any (x ∷ xs) (suc k) d e l = get_or_any xs k d e (omega arith)

pub few_loops : (n : ℕ) → n < 656 → length (row_loops n) ≤ 4
few_loops n small = (row_at n small).few
