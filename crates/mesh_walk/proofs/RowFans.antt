-- The loops with a centre of a row of cells, as they are listed.
use Rattle.std.proofs.Common.{append_assoc, append-nil, ◌≡◌, ℕ, zero, suc, ◌+◌, ◌-◌, ◌<◌, ◌≤◌, true, List, [], ◌∷◌, ◌++◌, All, map, length, get_or, set, take, refl, sym, ◌∙◌, ap, arith, length-set}
use Rattle.std.specs.List.{enumerate_from, filter}
use Rattle.std.proofs.lemmas.List.{map-append, take-map, take_more_set, take-set, take-set-le}
use Rattle.iso_defs.specs.Grid.{is_cell}
use Rattle.iso_defs.specs.Scratch.{cell_loops, has_centre}
use Rattle.cell_loops.specs.Loops.{row_centres, row_loops}
use Rattle.case_faces.specs.Fans.{fan_numbers, fan_of}
use Rattle.flat_mesh.specs.Faces.{loops_at}
use Rattle.flat_mesh.specs.Lattice.{Leveled, heights}
use Rattle.mesh_rows.specs.Counts.{span}
use Rattle.mesh_walk.specs.Fans.{by_numbers, cell_fans, row_fans, seen}
use Rattle.mesh_walk.specs.Numbers.{AreQuiet}
use Rattle.mesh_walk.specs.declared.centres.RowFan.{RowFan}
use Rattle.mesh_rows.proofs.SpanLaws.{span_more, span_none, span_one, span_quiet}

-- two are written, and as many stay as there are
pub put_two : {X : Type 0} (xs : List X) (a b : X) (i c : ℕ) → c ≤ 2 → i + 2 ≤ length xs → take (i + c) (set (set xs i a) (i + 1) b) ≡ take i xs ++ take c (a ∷ b ∷ [])
put_two xs a b i zero few room =
    let e : i + 0 ≡ i = omega arith in
    ap (λ n. take n (set (set xs i a) (i + 1) b)) e
    ∙ (take-set-le i (set xs i a) (i + 1) b (omega arith) ∙ (take-set xs i a ∙ sym (append-nil (take i xs))))
put_two xs a b i (suc zero) few room =
    take-set-le (i + 1) (set xs i a) (i + 1) b (omega arith) ∙ take_more_set xs i a (omega (arith, room))
put_two xs a b i (suc (suc zero)) few room =
    let e : i + 2 ≡ i + 1 + 1 = omega arith in
    ap (λ n. take n (set (set xs i a) (i + 1) b)) e
    ∙ (take_more_set (set xs i a) (i + 1) b (omega (arith, room, length-set xs i a))
    ∙ (ap (λ l. l ++ b ∷ []) (take_more_set xs i a (omega (arith, room))) ∙ append_assoc (take i xs) (a ∷ []) (b ∷ [])))
put_two xs a b i (suc (suc (suc c))) few room = absurd (omega (arith, few))

pub two_of : (l : List ℕ) → length l ≡ 2 → l ≡ get_or l 0 0 ∷ get_or l 1 0 ∷ []
two_of [] h = absurd (omega (arith, h))
two_of (a ∷ []) h = absurd (omega (arith, h))
two_of (a ∷ b ∷ []) h = refl
two_of (a ∷ b ∷ d ∷ l) h = absurd (omega (arith, h))

-- those of a cell, by its case
pub listed_two : (case x c : ℕ) (fans : List ℕ) → length fans ≡ 2 → c ≡ length (row_centres case)
    → map fan_numbers (take (length (row_centres case)) fans) ≡ map (λ (l : ℕ × List ℕ). fan_of l.1) (row_centres case)
    → map seen (take c (record { x = x; fan = get_or fans 0 0 } ∷ record { x = x; fan = get_or fans 1 0 } ∷ [])) ≡ map (λ (l : ℕ × List ℕ). (x, fan_of l.1)) (row_centres case)
listed_two case x c fans two count value =
    let pair : ℕ → RowFan = λ f. record { x = x; fan = f } in
    let from : map seen (take c (map pair fans)) ≡ map seen (take c (record { x = x; fan = get_or fans 0 0 } ∷ record { x = x; fan = get_or fans 1 0 } ∷ []))
    = ap (λ l. map seen (take c (map pair l))) (two_of fans two) in
    sym from
    ∙ (ap (map seen) (take-map pair c fans)
    ∙ (map_map seen pair (take c fans)
    ∙ (sym (map_map (λ (n : List ℕ). (x, n)) fan_numbers (take c fans))
    ∙ (ap (λ n. map (λ (n : List ℕ). (x, n)) (map fan_numbers (take n fans))) count
    ∙ (ap (map (λ (n : List ℕ). (x, n))) value ∙ map_map (λ (n : List ℕ). (x, n)) (λ (l : ℕ × List ℕ). fan_of l.1) (row_centres case))))))
  where
    map_map : {A B C : Type 0} (f : B → C) (g : A → B) (l : List A) → map f (map g l) ≡ map (λ a. f (g a)) l
    map_map f g [] = refl
    map_map f g (a ∷ l) = ap (λ t. f (g a) ∷ t) (map_map f g l)

pub low_two : (x a b c : ℕ) → a < 115 → b < 115 → All (λ (f : RowFan). f.fan < 115) (take c (record { x = x; fan = a } ∷ record { x = x; fan = b } ∷ []))
low_two x a b zero ha hb k d low = absurd (omega (arith, low))
low_two x a b (suc zero) ha hb zero d low = ha
low_two x a b (suc (suc c)) ha hb zero d low = ha
low_two x a b (suc (suc c)) ha hb (suc zero) d low = hb
low_two x a b (suc zero) ha hb (suc k) d low = absurd (omega (arith, low))
low_two x a b (suc (suc zero)) ha hb (suc (suc k)) d low = absurd (omega (arith, low))
low_two x a b (suc (suc (suc c))) ha hb (suc (suc k)) d low = absurd (omega (arith, low))

-- the cells of a row
module _ (v : Leveled) (start : ℕ) where
  abbrev cells_fans : ℕ → ℕ → List (ℕ × List ℕ)
  cells_fans a n = span (cell_fans v start) (is_cell v.grid) a n

  pub quiet_cell : (q : ℕ) → loops_at v q ≡ [] → cell_fans v start q ≡ []
  unfolding cell_fans loops_at
  quiet_cell q none = ap (λ ls. map (λ (l : ℕ × List ℕ). (q - start, l.1)) (filter has_centre (enumerate_from 0 ls))) none

  -- one more cell, behind some without loops
  pub one_cell : (m x case : ℕ) → m ≤ x → AreQuiet v (start + m) (x - m) → is_cell v.grid (start + x) ≡ true → row_loops case ≡ loops_at v (start + x)
      → map by_numbers (row_fans v start (x + 1)) ≡ map by_numbers (row_fans v start m) ++ map (λ (l : ℕ × List ℕ). (x, fan_of l.1)) (row_centres case)
  unfolding cell_fans row_centres row_loops loops_at
  one_cell m x case upto quiet tested same =
      let to : x + 1 ≡ m + ((x - m) + 1) = omega (arith, upto) in
      let here : start + m + (x - m) ≡ start + x = omega (arith, upto) in
      let far : start + x - start ≡ x = omega arith in
      let none : cells_fans (start + m) (x - m) ≡ [] = span_quiet (cell_fans v start) (is_cell v.grid) (start + m) (x - m) (λ q least most is. quiet_cell q (quiet.none q least most is)) in
      let one : cells_fans (start + m) ((x - m) + 1) ≡ map (λ (l : ℕ × List ℕ). (x, l.1)) (row_centres case)
      = span_more (cell_fans v start) (is_cell v.grid) (start + m) (x - m) 1
      ∙ (ap (λ l. l ++ cells_fans (start + m + (x - m)) 1) none
      ∙ (ap (λ q. cells_fans q 1) here
      ∙ (span_one (cell_fans v start) (is_cell v.grid) (start + x) tested
      ∙ (ap (λ n. map (λ (l : ℕ × List ℕ). (n, l.1)) (filter has_centre (cell_loops v.grid (heights v) (start + x)))) far
      ∙ ap (λ ls. map (λ (l : ℕ × List ℕ). (x, l.1)) (filter has_centre (enumerate_from 0 ls))) (sym same))))) in
      let whole : row_fans v start (x + 1) ≡ row_fans v start m ++ map (λ (l : ℕ × List ℕ). (x, l.1)) (row_centres case)
      = ap (row_fans v start) to ∙ (span_more (cell_fans v start) (is_cell v.grid) start m ((x - m) + 1) ∙ ap (λ l. row_fans v start m ++ l) one) in
      ap (map by_numbers) whole
      ∙ (map-append by_numbers (row_fans v start m) (map (λ (l : ℕ × List ℕ). (x, l.1)) (row_centres case))
      ∙ ap (λ l. map by_numbers (row_fans v start m) ++ l) (moved (row_centres case)))
    where
      moved : (ls : List (ℕ × List ℕ)) → map by_numbers (map (λ (l : ℕ × List ℕ). (x, l.1)) ls) ≡ map (λ (l : ℕ × List ℕ). (x, fan_of l.1)) ls
      moved [] = refl
      moved (l ∷ ls) = ap (λ t. (x, fan_of l.1) ∷ t) (moved ls)

  -- and some without loops at the end
  pub no_more : (m n : ℕ) → m ≤ n → AreQuiet v (start + m) (n - m) → row_fans v start n ≡ row_fans v start m
  no_more m n upto quiet =
      let to : n ≡ m + (n - m) = omega (arith, upto) in
      ap (row_fans v start) to
      ∙ (span_more (cell_fans v start) (is_cell v.grid) start m (n - m)
      ∙ (ap (λ l. row_fans v start m ++ l) (span_quiet (cell_fans v start) (is_cell v.grid) (start + m) (n - m) (λ q least most is. quiet_cell q (quiet.none q least most is)))
      ∙ append-nil (row_fans v start m)))

  pub first_fans : map by_numbers (row_fans v start 0) ≡ []
  first_fans = ap (map by_numbers) (span_none (cell_fans v start) (is_cell v.grid) start)
