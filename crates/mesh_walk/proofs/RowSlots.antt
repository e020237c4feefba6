-- The slots of a row of points, from the list of its crossing edges.
use Rattle.std.proofs.Common.{◌≡◌, ℕ, ℤ, zero, suc, inl, inr, ◌+◌, ◌-◌, ◌*◌, ◌<◌, ◌≤◌, Bool, true, false, cond, List, [], ◌∷◌, ◌++◌, length, get_or, sym, ◌∙◌, ap, arith, zero-add, append-nil, length-append}
use Rattle.std.specs.List.{count_by, range_with_len}
use Rattle.std.proofs.lemmas.Bool.{cases_Bool, cases_lt}
use Rattle.std.proofs.lemmas.List.{get_or-map, get_or_append_left, length-map}
use Rattle.std.proofs.lemmas.List.Sums.{length-filter}
use Rattle.std.proofs.Math.Seq.{get_or-append_seam}
use Rattle.iso_defs.specs.Grid.{Grid, is_crossing}
use Rattle.iso_defs.proofs.Ranges.{range_append}
use Rattle.triangle_laws.proofs.Counts.{count-append}
use Rattle.crossing_edges.specs.Flags.{names_in, rank}
use Rattle.crossing_edges.proofs.Counting.{names_empty, names_more}
use Rattle.flat_mesh.specs.Lattice.{Leveled, heights}
use Rattle.flat_mesh.specs.Rows.{row_start}
use Rattle.flat_mesh.proofs.Quiet.{rank_between}
use Rattle.mesh_rows.specs.Rows.{AreEdges}
use Rattle.mesh_walk.specs.Slots.{AreLaid, row_slot}

-- a name of a list of crossing edges
record IsListed (g : Grid) (s : ℕ → ℤ) (a n k name : ℕ) : Type 0 where
  rank_is : rank g s name ≡ rank g s a + k
  least : a ≤ name
  most : name < a + n

module _ (g : Grid) (s : ℕ → ℤ) where
  one : (n : ℕ) → is_crossing g s n ≡ true → names_in g s n 1 ≡ n ∷ []
  unfolding names_in
  one n h = ap (λ b. cond {A = List ℕ} b (n ∷ []) []) h

  not_one : (n : ℕ) → is_crossing g s n ≡ false → names_in g s n 1 ≡ []
  unfolding names_in
  not_one n h = ap (λ b. cond {A = List ℕ} b (n ∷ []) []) h

  -- how many names there are
  pub names_count : (a n : ℕ) → rank g s (a + n) ≡ rank g s a + length (names_in g s a n)
  unfolding rank names_in
  names_count a n =
      let p : ℕ → Bool = is_crossing g s in
      ap (count_by p) (range_append 0 a n)
      ∙ (count-append p (range_with_len 0 a) (range_with_len (0 + a) n)
      ∙ ap (λ k. count_by p (range_with_len 0 a) + k)
      (ap (λ b. count_by p (range_with_len b n)) (zero-add a) ∙ sym (length-filter p (range_with_len a n))))

  -- a crossing edge has a lower rank than those behind it
  pub rank_before : (n behind : ℕ) → n < behind → is_crossing g s n ≡ true → rank g s n < rank g s behind
  rank_before n behind low h =
      let rest : ℕ = behind - (n + 1) in
      let cut : behind ≡ n + 1 + rest = omega (arith, low) in
      let here : length (names_in g s n 1) ≡ 1 = ap length (one n h) in
      omega (arith, ap (rank g s) cut, names_count (n + 1) rest, names_count n 1, here)

  listed : (a n k : ℕ) → k < length (names_in g s a n) → IsListed g s a n k (get_or (names_in g s a n) k 0)
  listed a zero k low = absurd (let none : length (names_in g s a 0) ≡ 0 = ap length (names_empty g s a) in omega arith)
  listed a (suc n) k low =
      let next : suc n ≡ n + 1 = omega arith in
      let more : names_in g s a (suc n) ≡ names_in g s a n ++ names_in g s (a + n) 1 = ap (names_in g s a) next ∙ names_more g s a n 1 in
      elim (cases_Bool (is_crossing g s (a + n))) [
        | inr f ↦ (
            let same : names_in g s a (suc n) ≡ names_in g s a n = more ∙ (ap (λ l. names_in g s a n ++ l) (not_one (a + n) f) ∙ append-nil (names_in g s a n)) in
            let count : length (names_in g s a (suc n)) ≡ length (names_in g s a n) = ap length same in
            wider n k (get_or (names_in g s a (suc n)) k 0) (get_or (names_in g s a n) k 0) (ap (λ l. get_or l k 0) same) (listed a n k (omega arith)))
        | inl t ↦ (
            let last : names_in g s a (suc n) ≡ names_in g s a n ++ (a + n) ∷ [] = more ∙ ap (λ l. names_in g s a n ++ l) (one (a + n) t) in
            let count : length (names_in g s a (suc n)) ≡ length (names_in g s a n) + 1 = ap length last ∙ length-append (names_in g s a n) ((a + n) ∷ []) in
            elim (cases_lt k (length (names_in g s a n))) [
              | inl below ↦ wider n k (get_or (names_in g s a (suc n)) k 0) (get_or (names_in g s a n) k 0)
                  (ap (λ l. get_or l k 0) last ∙ get_or_append_left (names_in g s a n) ((a + n) ∷ []) 0 k below) (listed a n k below)
              | inr above ↦ (
                  let here : k ≡ length (names_in g s a n) = omega arith in
                  let is : get_or (names_in g s a (suc n)) k 0 ≡ a + n
                  = ap (λ l. get_or l k 0) last ∙ (ap (λ k. get_or (names_in g s a n ++ (a + n) ∷ []) k 0) here ∙ get_or-append_seam (names_in g s a n) (a + n) [] 0) in
                  record {
                    rank_is = ap (rank g s) is ∙ (names_count a n ∙ ap (λ k. rank g s a + k) (sym here));
                    least = omega (arith, is);
                    most = omega (arith, is);
                  })
            ])
      ]
    where
      wider : (n k name known : ℕ) → name ≡ known → IsListed g s a n k known → IsListed g s a (suc n) k name
      wider n k name known same is = record {
        rank_is = ap (rank g s) same ∙ is.rank_is;
        least = omega (arith, same, is.least);
        most = omega (arith, same, is.most);
      }

  -- where a crossing edge stands in the list
  found : (a e n : ℕ) → e < n → is_crossing g s (a + e) ≡ true
      → names_in g s a n ≡ names_in g s a e ++ (a + e) ∷ names_in g s (a + e + 1) (n - (e + 1))
  found a e n low crossing =
      let rest : ℕ = n - (e + 1) in
      let cut : n ≡ e + (1 + rest) = omega arith in
      ap (names_in g s a) cut
      ∙ (names_more g s a e (1 + rest)
      ∙ ap (λ l. names_in g s a e ++ l) (names_more g s (a + e) 1 rest ∙ ap (λ l. l ++ names_in g s (a + e + 1) rest) (one (a + e) crossing)))

-- an edge of a row, by its place in the list of offsets
pub record IsEdge (v : Leveled) (y z k e : ℕ) : Type 0 where
  pub rank_is : rank v.grid (heights v) (3 * row_start v.grid y z + e) ≡ rank v.grid (heights v) (3 * row_start v.grid y z) + k
  pub low : e < 3 * v.grid.nx

module _ (v : Leveled) (y z : ℕ) where
  abbrev start : ℕ
  start = 3 * row_start v.grid y z

  pub edge_is : (edges : List ℕ) → AreEdges v y z edges → (k : ℕ) → k < length edges → IsEdge v y z k (get_or edges k 0)
  edge_is edges are k low =
      let names : List ℕ = names_in v.grid (heights v) start (3 * v.grid.nx) in
      let count : length names ≡ length edges = ap length (sym are.names) ∙ length-map edges (λ e. start + e) in
      let name : get_or names k 0 ≡ start + get_or edges k 0 = ap (λ l. get_or l k 0) (sym are.names) ∙ get_or-map (λ e. start + e) edges k 0 0 low in
      let is : IsListed v.grid (heights v) start (3 * v.grid.nx) k (get_or names k 0) = listed v.grid (heights v) start (3 * v.grid.nx) k (omega arith) in
      record { rank_is = ap (rank v.grid (heights v)) (sym name) ∙ is.rank_is; low = omega (arith, name, is.most) }

  -- where each edge of the list has what is due to it
  pub laid_by : (at expected : ℕ → List ℕ) (edges : List ℕ) → AreEdges v y z edges
      → ((k : ℕ) → k < length edges → at (row_slot y z + get_or edges k 0) ≡ expected (start + get_or edges k 0)) → AreLaid at expected v y z
  laid_by at expected edges are laid = record {
    each = λ e low crossing.
        let names : List ℕ = names_in v.grid (heights v) start (3 * v.grid.nx) in
        let before : List ℕ = names_in v.grid (heights v) start e in
        let behind : List ℕ = names_in v.grid (heights v) (start + e + 1) (3 * v.grid.nx - (e + 1)) in
        let k : ℕ = length before in
        let cut : names ≡ before ++ (start + e) ∷ behind = found v.grid (heights v) start e (3 * v.grid.nx) low crossing in
        let long : length names ≡ k + length ((start + e) ∷ behind) = ap length cut ∙ length-append before ((start + e) ∷ behind) in
        let count : length names ≡ length edges = ap length (sym are.names) ∙ length-map edges (λ e. start + e) in
        let within : k < length edges = omega (arith, long, count) in
        let name : start + get_or edges k 0 ≡ start + e
        = sym (get_or-map (λ e. start + e) edges k 0 0 within)
        ∙ (ap (λ l. get_or l k 0) (are.names ∙ cut) ∙ get_or-append_seam before (start + e) behind 0) in
        let same : get_or edges k 0 ≡ e = omega (arith, name) in
        ap (λ e. at (row_slot y z + e)) (sym same) ∙ (laid k within ∙ ap (λ e. expected (start + e)) same);
  }

  -- a row without crossing edges
  pub none_due : (at expected : ℕ → List ℕ) → rank v.grid (heights v) start ≡ rank v.grid (heights v) (3 * row_start v.grid (y + 1) z) → AreLaid at expected v y z
  none_due at expected same = record {
    each = λ e low crossing.
        let wide : 3 * row_start v.grid (y + 1) z ≡ start + 3 * v.grid.nx = omega arith in
        clash (is_crossing v.grid (heights v) (start + e)) crossing
        (rank_between v.grid (heights v) start (3 * v.grid.nx) (start + e) (same ∙ ap (rank v.grid (heights v)) wide) (omega arith) (omega arith));
  }
    where
      clash : {A : Type 0} (b : Bool) → b ≡ true → b ≡ false → A
      clash true e f = absurd (cc)
      clash false e f = absurd (cc)
