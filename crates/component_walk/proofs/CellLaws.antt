-- The loops of one cell after the other.
use Rattle.std.proofs.Common.{◌≡◌, ℕ, zero, suc, ◌+◌, ◌*◌, ◌<◌, ◌≤◌, Bool, true, false, cond, List, [], ◌∷◌, ◌++◌, map, length, get_or, take, refl, sym, ◌∙◌, ap, inl, inr, arith}
use Rattle.std.specs.List.{count_by, enumerate_from, filter, flat_map, range_with_len}
use Rattle.std.proofs.lemmas.Bool.{cases_Bool}
use Rattle.std.proofs.lemmas.List.{get_or-map, length-append, length-map, take_all, take_more}
use Rattle.std.proofs.lemmas.List.Elements.{filter-append}
use Rattle.std.proofs.lemmas.List.Sums.{count_by-le-length, length-filter, sum_by-append, sum_by-cons, sum_by-take-le}
use Rattle.std.proofs.lemmas.List.FromFn.{get_or-enumerate_from, length-enumerate_from}
use Rattle.std.proofs.lemmas.Grind.{flat_map-append}
use Rattle.iso_defs.specs.Cell.{case_loops, cell_edge, cell_joined, cell_signs}
use Rattle.iso_defs.specs.Grid.{Grid, is_cell}
use Rattle.iso_defs.specs.Lists.{below}
use Rattle.iso_defs.specs.Scratch.{cell_loops, centre_name}
use Rattle.iso_base.specs.Volume.{IsGrid}
use Rattle.triangle_laws.proofs.FanWalk.{no_longer}
use Rattle.mesh_laws.proofs.Cells.{cell_in, range_in}
use Rattle.flat_mesh.specs.Centres.{IsCellAt}
use Rattle.flat_mesh.specs.Faces.{loops_at}
use Rattle.flat_mesh.specs.Lattice.{Leveled, heights}
use Rattle.flat_mesh.specs.declared.centres.Cell.{Cell}
use Rattle.part_laws.proofs.Counted.{range_join}
use Rattle.part_laws.specs.Loops.{Loop, loops_in, rims}
use Rattle.part_laws.proofs.CellOrder.{looped, looped_apart, looped_low}
use Rattle.component_walk.specs.Sums.{IsLoopIn}
use Rattle.component_walk.specs.Walks.{loops_before}
use Rattle.component_walk.proofs.BorderSteps.{in_cells}
use Rattle.component_walk.proofs.WalkLaws.{none_behind}

-- the steps round loops of a cell, by its edges
rims_named : (g : Grid) (q : ℕ) (ls : List (ℕ × List ℕ)) → rims (map (λ (l : ℕ × List ℕ). (centre_name g q l.0, map (cell_edge g q) l.1)) ls) ≡ length (flat_map (λ (l : ℕ × List ℕ). l.1) ls)
rims_named g q [] = refl
rims_named g q (l ∷ ls) =
    let named : ℕ × List ℕ → Loop = λ l. (centre_name g q l.0, map (cell_edge g q) l.1) in
    let a : rims (named l ∷ map named ls) ≡ length (map (cell_edge g q) l.1) + rims (map named ls) = sum_by-cons (λ (k : Loop). length k.1) (named l) (map named ls) in
    omega (arith, a, length-map l.1 (cell_edge g q), rims_named g q ls, length-append l.1 (flat_map (λ (l : ℕ × List ℕ). l.1) ls))

rims_join : (ls ks : List Loop) → rims (ls ++ ks) ≡ rims ls + rims ks
rims_join ls ks = sum_by-append (λ (l : Loop). length l.1) ls ks

pub filter_low : (p : ℕ → Bool) (xs : List ℕ) → length (filter p xs) ≤ length xs
filter_low p xs = let a : length (filter p xs) ≡ count_by p xs = length-filter p xs in let b : count_by p xs ≤ length xs = count_by-le-length p xs in omega (arith, a, b)

module _ (v : Leveled) where
  abbrev g : Grid
  g = v.grid

  abbrev loops_of : ℕ → List Loop
  loops_of q = loops_in v.grid (heights v) q

  abbrev named : ℕ → ℕ × List ℕ → Loop
  named q l = (centre_name v.grid q l.0, map (cell_edge v.grid q) l.1)

  below_next : (n : ℕ) → below (n + 1) ≡ below n ++ n ∷ []
  below_next n = range_join 0 n 1 ∙ ap (λ k. range_with_len 0 n ++ k ∷ []) (let e : 0 + n ≡ n = omega arith in e)

  next : (q : ℕ) (b : Bool) → is_cell v.grid q ≡ b → loops_before v (q + 1) ≡ loops_before v q ++ cond b (loops_of q) []
  unfolding loops_before
  next q b e =
      ap (λ l. flat_map loops_of (filter (is_cell v.grid) l)) (below_next q)
      ∙ (ap (flat_map loops_of) (filter-append (is_cell v.grid) (below q) (q ∷ [])) ∙ (flat_map-append loops_of (filter (is_cell v.grid) (below q)) (cond (is_cell v.grid q) (q ∷ []) [])
      ∙ ap (λ l. flat_map loops_of (filter (is_cell v.grid) (below q)) ++ l) (ap (λ t. flat_map loops_of (cond t (q ∷ []) [])) e ∙ last b)))
    where
      last : (b : Bool) → flat_map loops_of (cond b (q ∷ []) []) ≡ cond b (loops_of q) []
      last true = none_behind (loops_of q)
      last false = refl

  -- a cell behind others
  pub before_cell : (q : ℕ) → is_cell v.grid q ≡ true → loops_before v (q + 1) ≡ loops_before v q ++ loops_of q
  before_cell q e = next q true e

  count_is : (q : ℕ) → length (loops_of q) ≡ length (loops_at v q)
  unfolding loops_at
  count_is q =
      length-map (cell_loops v.grid (heights v) q) (named q) ∙ length-enumerate_from 0 (case_loops (cell_signs v.grid (heights v) q) (cell_joined v.grid (heights v) q))

  pub no_loops_of : (q : ℕ) → loops_at v q ≡ [] → loops_of q ≡ []
  unfolding loops_at
  no_loops_of q e = ap (λ l. map (named q) (enumerate_from 0 l)) e

  -- a point that begins no cell, or one without loops
  pub before_quiet : (q : ℕ) → (is_cell v.grid q ≡ true → loops_at v q ≡ []) → loops_before v (q + 1) ≡ loops_before v q
  before_quiet q h =
      elim (cases_Bool (is_cell v.grid q)) [
        | inl t ↦ next q true t ∙ (ap (λ l. loops_before v q ++ l) (no_loops_of q (h t)) ∙ none_behind (loops_before v q))
        | inr f ↦ next q false f ∙ none_behind (loops_before v q)
      ]

  pub before_quiets : (q n : ℕ) → ((k : ℕ) → k < n → is_cell v.grid (q + k) ≡ true → loops_at v (q + k) ≡ []) → loops_before v (q + n) ≡ loops_before v q
  before_quiets q zero h = ap (loops_before v) (let e : q + 0 ≡ q = omega arith in e)
  before_quiets q (suc n) h =
      ap (loops_before v) (let e : q + suc n ≡ q + n + 1 = omega arith in e)
      ∙ (before_quiet (q + n) (h n (omega arith)) ∙ before_quiets q n (λ k l. h k (omega (arith, l))))

  -- the loop of a turn
  module _ (q turn : ℕ) (low : turn < length (loops_at v q)) where
    abbrev edges : List ℕ
    edges = get_or (loops_at v q) turn []

    abbrev pub this : Loop
    this = (centre_name v.grid q turn, map (cell_edge v.grid q) edges)

    pub loop_is : IsLoopIn v q edges this
    loop_is = record { turn = turn; known = low; edges_are = refl; is = refl }

    at_turn : get_or (loops_of q) turn this ≡ this
    unfolding loops_at
    at_turn =
        let ls : List (List ℕ) = case_loops (cell_signs v.grid (heights v) q) (cell_joined v.grid (heights v) q) in
        get_or-map (named q) (enumerate_from 0 ls) turn (0, []) this (let e : length (enumerate_from 0 ls) ≡ length ls = length-enumerate_from 0 ls in omega (arith, e, low))
        ∙ ap (named q) (get_or-enumerate_from 0 ls turn (0, []) low ∙ ap (λ t. (t, get_or ls turn [])) (let e : 0 + turn ≡ turn = omega arith in e))

    pub turn_more : (before : List Loop) → (before ++ take turn (loops_of q)) ++ this ∷ [] ≡ before ++ take (turn + 1) (loops_of q)
    turn_more before =
        join before (take turn (loops_of q)) (this ∷ [])
        ∙ ap (λ l. before ++ l) (ap (λ k. take turn (loops_of q) ++ k ∷ []) (sym at_turn) ∙ sym (take_more (loops_of q) turn this (let e : length (loops_of q) ≡ length (loops_at v q) = count_is q in omega (arith, e, low))))
      where
        join : (xs ys zs : List Loop) → (xs ++ ys) ++ zs ≡ xs ++ (ys ++ zs)
        join [] ys zs = refl
        join (x ∷ xs) ys zs = ap (λ l. x ∷ l) (join xs ys zs)

  pub all_turns : (q n : ℕ) (before : List Loop) → length (loops_at v q) ≤ n → before ++ take n (loops_of q) ≡ before ++ loops_of q
  all_turns q n before h = ap (λ l. before ++ l) (take_all n (loops_of q) (let e : length (loops_of q) ≡ length (loops_at v q) = count_is q in omega (arith, e, h)))

  pub no_turns : (q : ℕ) (before : List Loop) → before ++ take 0 (loops_of q) ≡ before
  no_turns q before = none_behind before

  -- the edges of a cell's loops are different, so their steps are few
  few_of : (q : ℕ) → rims (loops_of q) ≤ 12
  few_of q =
      let es : List ℕ = looped v.grid (heights v) q in
      let a : rims (loops_of q) ≡ length es = rims_named v.grid q (cell_loops v.grid (heights v) q) in
      let b : length es ≤ length (below 12)
      = no_longer es (below 12) (looped_apart v.grid (heights v) q) (λ e i. range_in 0 12 e (omega arith) (let l : e < 12 = looped_low v.grid (heights v) q e i in omega (arith, l))) in
      omega (arith, a, b)

  few_none : rims (loops_before v 0) ≤ 12 * 0
  unfolding loops_before
  few_none = omega arith

  pub few_before : (q : ℕ) → rims (loops_before v q) ≤ 12 * q
  few_before zero = few_none
  few_before (suc q) =
      elim (cases_Bool (is_cell v.grid q)) [
        | inl t ↦ (
            let e : rims (loops_before v (suc q)) ≡ rims (loops_before v q) + rims (loops_of q)
            = ap (λ k. rims (loops_before v k)) (let z : suc q ≡ q + 1 = omega arith in z) ∙ (ap rims (next q true t) ∙ rims_join (loops_before v q) (loops_of q)) in
            let a : rims (loops_of q) ≤ 12 = few_of q in
            let b : rims (loops_before v q) ≤ 12 * q = few_before q in
            omega (arith, e, a, b))
        | inr f ↦ (
            let e : rims (loops_before v (suc q)) ≡ rims (loops_before v q)
            = ap (λ k. rims (loops_before v k)) (let z : suc q ≡ q + 1 = omega arith in z) ∙ ap rims (next q false f ∙ none_behind (loops_before v q)) in
            let b : rims (loops_before v q) ≤ 12 * q = few_before q in
            omega (arith, e, b))
      ]

  -- those of a cell among the others are few too
  pub few_so_far : (q n : ℕ) → q < 160000000 → rims (loops_before v q ++ take n (loops_of q)) < 2000000000
  few_so_far q n low =
      let e : rims (loops_before v q ++ take n (loops_of q)) ≡ rims (loops_before v q) + rims (take n (loops_of q)) = rims_join (loops_before v q) (take n (loops_of q)) in
      let a : rims (take n (loops_of q)) ≤ rims (loops_of q) = sum_by-take-le (λ (l : Loop). length l.1) (loops_of q) n in
      omega (arith, e, a, few_of q, few_before q, low)

  -- a cell by its point
  pub cell_there : (cell : Cell) → IsGrid v.grid → IsCellAt v.grid cell → (is_cell v.grid cell.index ≡ true) × (cell.index < 160000000)
  cell_there cell is at = let i = cell_in v.grid cell.index (in_cells v.grid cell at) in (i.0, omega (arith, i.1, is.count))
