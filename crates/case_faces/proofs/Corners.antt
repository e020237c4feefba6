-- The corners of the triangles of a case.
use Rattle.std.proofs.Common.{◌≡◌, ℕ, suc, ◌+◌, ◌-◌, ◌<◌, ◌≤◌, List, [], ◌∷◌, ◌++◌, All, cond, map, take, drop, length, append-nil, append_assoc, get_or, if◌then◌else◌, refl, sym, subst, ◌∙◌, ap, ap₂, zero-add, arith}
use Rattle.std.specs.List.{flat_map, range_with_len, sum_by}
use Rattle.std.proofs.lemmas.Bool.{le-ltb, lt-ltb, ne_eqb}
use Rattle.std.proofs.lemmas.List.{length-append, map-append}
use Rattle.std.proofs.lemmas.List.Concat.{flat_map-append}
use Rattle.std.proofs.Math.Seq.{drop-append_seam, take-append_seam}
use Rattle.iso_defs.proofs.Ranges.{range_append}
use Rattle.std.proofs.lemmas.List.Elements.{All-append, All-cons, All-nil}
use Rattle.std.proofs.lemmas.List.FromFn.{get_or-range_with_len}
use Rattle.std.proofs.lemmas.List.Sums.{sum_by-cons}
use Rattle.iso_defs.specs.Cell.{Triangle, loop_triangles}
use Rattle.iso_defs.specs.Lists.{around, below, closing}
use Rattle.iso_defs.specs.Scratch.{on_corners}
use Rattle.cell_loops.specs.Loops.{IsLoop, row_loops}
use Rattle.cell_loops.proofs.Counted.{all_loops}
use Rattle.flat_mesh.specs.Faces.{cell_faces, centres_of, corners_of, loop_faces}
use Rattle.flat_mesh.proofs.CellFaces.{loop_map}
use Rattle.case_faces.specs.Faces.{all_corners, case_corners, corner_number, corners_to, row_faces}

-- the numbers below one more
pub flat_more : {X : Type 0} (f : ℕ → List X) (n : ℕ) → flat_map f (below (n + 1)) ≡ flat_map f (below n) ++ f n
flat_more f n =
    ap (flat_map f) (range_append 0 n 1)
    ∙ (flat_map-append f (below n) (range_with_len (0 + n) 1)
    ∙ ap (λ l. flat_map f (below n) ++ l) (append-nil (f (0 + n)) ∙ ap f (zero-add n)))

-- what the numbers below a bound give, about one of them
module _ {X : Type 0} (f : ℕ → List X) (n k : ℕ) (low : k < n) where
  abbrev behind : List X
  behind = flat_map f (range_with_len (k + 1) (n - (k + 1)))

  flat_split : flat_map f (below n) ≡ flat_map f (below k) ++ (f k ++ behind)
  flat_split =
      let parts : k + 1 + (n - (k + 1)) ≡ n = omega (arith, low) in
      ap (λ n. flat_map f (below n)) (sym parts) ∙ (ap (flat_map f) (range_append 0 (k + 1) (n - (k + 1)))
      ∙ (flat_map-append f (below (k + 1)) (range_with_len (0 + (k + 1)) (n - (k + 1)))
      ∙ (ap₂ (λ a b. a ++ b) (flat_more f k) (ap (λ a. flat_map f (range_with_len a (n - (k + 1)))) (zero-add (k + 1))) ∙ append_assoc (flat_map f (below k)) (f k) behind)))

  pub flat_at : take (length (f k)) (drop (length (flat_map f (below k))) (flat_map f (below n))) ≡ f k
  flat_at =
      ap (λ l. take (length (f k)) (drop (length (flat_map f (below k))) l)) flat_split
      ∙ (ap (take (length (f k))) (drop-append_seam (flat_map f (below k)) (f k ++ behind)) ∙ take-append_seam (f k) behind)

  pub flat_upto : length (flat_map f (below k)) + length (f k) ≤ length (flat_map f (below n))
  flat_upto = omega (arith, ap length flat_split, length-append (flat_map f (below k)) (f k ++ behind), length-append (f k) behind)

-- triangles whose corners are renamed
faces_back : (f : ℕ → ℕ) (ts : List Triangle) → map (map f) (map corners_of ts) ≡ map corners_of (map (on_corners f) ts)
faces_back f [] = refl
faces_back f (t ∷ ts) = ap (λ l. (f t.0 ∷ f t.1 ∷ f t.2 ∷ []) ∷ l) (faces_back f ts)

loop_renamed : (f : ℕ → ℕ) (l : List ℕ) (centre : ℕ) → map (map f) (loop_faces l centre) ≡ loop_faces (map f l) (f centre)
unfolding loop_faces
loop_renamed f l centre = faces_back f (loop_triangles l centre) ∙ ap (map corners_of) (loop_map f l centre)

-- an edge is its own place among the twelve
own_place : (e : ℕ) → e < 12 → get_or (below 12) e 0 ≡ e
own_place e low = get_or-range_with_len 0 12 e 0 low ∙ zero-add e

own_places : (l : List ℕ) → All (λ e. e < 12) l → map (λ e. get_or (below 12) e 0) l ≡ l
own_places [] low = refl
own_places (e ∷ l) low = ap₂ (λ e l. e ∷ l) (own_place e (low 0 0 (omega arith))) (own_places l (λ k d h. low (suc k) d (omega arith)))

module _ (numbers : List ℕ) (first : ℕ) where
  abbrev named : ℕ → ℕ
  named = corner_number numbers first

  edges_named : (l : List ℕ) → All (λ e. e < 12) l → map named l ≡ map (λ e. get_or numbers e 0) l
  edges_named [] low = refl
  edges_named (e ∷ l) low = ap₂ (λ e l. e ∷ l) (ap (λ b. if b then get_or numbers e 0 else first + (e - 12)) (lt-ltb e 12 (low 0 0 (omega arith)))) (edges_named l (λ k d h. low (suc k) d (omega arith)))

  centre_named : (k : ℕ) → 12 ≤ k → named k ≡ first + (k - 12)
  centre_named k from = ap (λ b. if b then get_or numbers k 0 else first + (k - 12)) (le-ltb k 12 from)

  cell_named : (ls : List (List ℕ)) (k next : ℕ) → 12 ≤ k → next ≡ first + (k - 12) → All IsLoop ls → map (map named) (cell_faces (below 12) ls k) ≡ cell_faces numbers ls next
  cell_named [] k next from is loops = refl
  cell_named (l ∷ ls) k next from is loops =
      let low = (loops 0 [] (omega arith)).low in
      let more : next + centres_of l ≡ first + (k + centres_of l - 12) = omega (arith, from, is) in
      map-append (map named) (loop_faces (map (λ e. get_or (below 12) e 0) l) k) (cell_faces (below 12) ls (k + centres_of l))
      ∙ ap₂ (λ a b. a ++ b)
      (ap (λ l. map (map named) (loop_faces l k)) (own_places l low) ∙ (loop_renamed named l k ∙ ap₂ loop_faces (edges_named l low) (centre_named k from ∙ sym is)))
      (cell_named ls (k + centres_of l) (next + centres_of l) (omega (arith, from)) more (λ i d h. loops (suc i) d (omega arith)))

-- the triangles of a case with the numbers of a cell's edges and of its first centre
pub faces_named : (numbers : List ℕ) (first n : ℕ) → n < 656 → map (map (corner_number numbers first)) (row_faces n) ≡ cell_faces numbers (row_loops n) first
unfolding row_faces
faces_named numbers first n small = cell_named numbers first (row_loops n) 12 first (omega arith) (omega arith) (all_loops n small)

is_faces : (l : List ℕ) (c : ℕ) → map corners_of (loop_triangles l c) ≡ loop_faces l c
unfolding loop_faces
is_faces l c = refl

-- a loop of more than three edges gives a fan
is_fan : (l : List ℕ) (centre : ℕ) → 3 < length l → loop_triangles l centre ≡ map (λ (p : ℕ × ℕ). (p.0, p.1, centre)) (around l)
is_fan l centre long = ap (λ b. if b then (get_or l 0 0, get_or l 1 0, get_or l 2 0) ∷ [] else map (λ (p : ℕ × ℕ). (p.0, p.1, centre)) (around l)) (ne_eqb (length l) 3 (λ e. omega arith))

-- what holds of each edge of its loops and of each of its centres holds of each corner
module _ (P : ℕ → Type 0) where
  three : (a b c : ℕ) → P a → P b → P c → All P (a ∷ b ∷ c ∷ [])
  three a b c ha hb hc = All-cons P a (b ∷ c ∷ []) ha (All-cons P b (c ∷ []) hb (All-cons P c [] hc (All-nil P)))

  closing_each : (first v : ℕ) (vs : List ℕ) (centre : ℕ) → P first → P v → All P vs → P centre
      → All (All P) (map corners_of (map (λ (p : ℕ × ℕ). (p.0, p.1, centre)) (closing first v vs)))
  closing_each first v [] centre hf hv hs hc = All-cons (All P) (v ∷ first ∷ centre ∷ []) [] (three v first centre hv hf hc) (All-nil (All P))
  closing_each first v (w ∷ ws) centre hf hv hs hc =
      All-cons (All P) (v ∷ w ∷ centre ∷ []) _ (three v w centre hv (hs 0 0 (omega arith)) hc) (closing_each first w ws centre hf (hs 0 0 (omega arith)) (λ k d h. hs (suc k) d (omega arith)) hc)

  loop_each : (l : List ℕ) (centre : ℕ) → IsLoop l → All P l → (centres_of l ≡ 1 → P centre) → All (All P) (map corners_of (loop_triangles l centre))
  loop_each [] centre is each mid = absurd (omega (arith, is.least))
  loop_each (a ∷ []) centre is each mid = absurd (omega (arith, is.least))
  loop_each (a ∷ b ∷ []) centre is each mid = absurd (omega (arith, is.least))
  loop_each (a ∷ b ∷ c ∷ []) centre is each mid = All-cons (All P) (a ∷ b ∷ c ∷ []) [] each (All-nil (All P))
  loop_each (a ∷ b ∷ c ∷ e ∷ l) centre is each mid =
      let has : centres_of (a ∷ b ∷ c ∷ e ∷ l) ≡ 1 = ap (λ b. cond {A = ℕ} b 1 0) (lt-ltb 3 (length (a ∷ b ∷ c ∷ e ∷ l)) (omega arith)) in
      subst (λ ts. All (All P) (map corners_of ts)) (sym (is_fan (a ∷ b ∷ c ∷ e ∷ l) centre (omega arith)))
      (closing_each a a (b ∷ c ∷ e ∷ l) centre (each 0 0 (omega arith)) (each 0 0 (omega arith)) (λ k d h. each (suc k) d (omega arith)) (mid has))

  cell_each : (ls : List (List ℕ)) (k : ℕ) → All IsLoop ls → All (All P) ls → ((c : ℕ) → k ≤ c → c < k + sum_by centres_of ls → P c) → All (All P) (cell_faces (below 12) ls k)
  cell_each [] k loops each mid = All-nil _
  cell_each (l ∷ ls) k loops each mid =
      let is = loops 0 [] (omega arith) in
      let sum = sum_by-cons centres_of l ls in
      All-append (All P) (loop_faces (map (λ e. get_or (below 12) e 0) l) k) (cell_faces (below 12) ls (k + centres_of l))
      (subst (λ l. All (All P) (loop_faces l k)) (sym (own_places l is.low))
      (subst (All (All P)) (is_faces l k) (loop_each l k is (each 0 [] (omega arith)) (λ one. mid k (omega arith) (omega (arith, sum, one))))))
      (cell_each ls (k + centres_of l) (λ i d h. loops (suc i) d (omega arith)) (λ i d h. each (suc i) d (omega arith)) (λ c from to. mid c (omega (arith, from)) (omega (arith, sum, to))))

  pub corners_each : (n : ℕ) → n < 656 → All (All P) (row_loops n) → ((c : ℕ) → 12 ≤ c → c < 12 + sum_by centres_of (row_loops n) → P c) → All (All P) (row_faces n)
  unfolding row_faces
  corners_each n small each mid = cell_each (row_loops n) 12 (all_loops n small) each mid

-- the corners of a case among those of all cases
pub corners_at : (n : ℕ) → n < 656 → take (length (case_corners n)) (drop (length (corners_to n)) all_corners) ≡ case_corners n
unfolding corners_to
corners_at n small = flat_at case_corners 656 n small

pub corners_upto : (n : ℕ) → n < 656 → length (corners_to n) + length (case_corners n) ≤ length all_corners
unfolding corners_to
corners_upto n small = flat_upto case_corners 656 n small

-- triangles have three corners
all_three : (ts : List Triangle) → All (λ t. length t ≡ 3) (map corners_of ts)
all_three [] = All-nil _
all_three (t ∷ ts) = All-cons (λ t. length t ≡ 3) (corners_of t) (map corners_of ts) refl (all_three ts)

pub cell_three : (numbers : List ℕ) (ls : List (List ℕ)) (next : ℕ) → All (λ t. length t ≡ 3) (cell_faces numbers ls next)
unfolding loop_faces
cell_three numbers [] next = All-nil _
cell_three numbers (l ∷ ls) next =
    All-append (λ t. length t ≡ 3) (loop_faces (map (λ e. get_or numbers e 0) l) next) (cell_faces numbers ls (next + centres_of l))
    (all_three (loop_triangles (map (λ e. get_or numbers e 0) l) next)) (cell_three numbers ls (next + centres_of l))
