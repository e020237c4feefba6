-- The lines of the vertices on crossing edges, row by row, and their text.
use Rattle.std.proofs.Common.{◌≡◌, ℕ, zero, suc, ◌+◌, ◌-◌, ◌*◌, ◌/◌, ◌<◌, ◌≤◌, List, [], ◌∷◌, ◌++◌, length, map, Result, Ok, Err, refl, sym, ap, subst, ◌∙◌, arith, append_assoc, ℤ, All}
use Rattle.std.specs.Prelude.{nat_abs, codes, false}
use Rattle.std.specs.List.{AllByRecursion, flat_map}
use Rattle.std.proofs.lemmas.Nat.{div_below}
use Rattle.std.proofs.Math.Nat.{div-zero, mul-le-mul_left}
use Rattle.std.proofs.lemmas.List.{length-map}
use Rattle.std.proofs.lemmas.List.Elements.{All-from_recursion}
use Rattle.std.proofs.lemmas.List.Concat.{flat_map-append}
use Rattle.iso_defs.specs.Grid.{Grid, edge_lower, edge_upper, point_count}
use Rattle.iso_defs.specs.Place.{Position, edge_position, place}
use Rattle.iso_defs.specs.Rows.{row_count}
use Rattle.iso_defs.specs.Scratch.{crossing_edges}
use Rattle.iso_defs.specs.Texts.{line, position_text, vertex_head, points_text}
use Rattle.byte_streams.specs.Seen.{Tape, Puts, Stages}
use Rattle.byte_streams.proofs.Staging.{stages_both, stages_first, stages_not_put, stages_written}
use Rattle.mesh_text.specs.Lines.{points_head}
use Rattle.crossing_edges.specs.Flags.{edge_place, names_in, places_in}
use Rattle.crossing_edges.proofs.Counting.{names_all, names_empty, names_more}
use Rattle.point_command.specs.Edges.{edge_points, lines_in}
use Rattle.point_command.proofs.Waiting.{line_kept}

-- a place is at most 1,000
rounded : (a d : ℕ) → a ≤ d → (2000 * a + d) / (2 * d) ≤ 1000
rounded a zero h = subst (λ k. k ≤ 1000) (sym (ap (λ k. (2000 * a + zero) / k) (omega arith) ∙ div-zero (2000 * a + zero))) (omega arith)
rounded a (suc d) h =
    let low : (2000 * a + suc d) / (2 * suc d) < 1001 = div_below (2000 * a + suc d) (2 * suc d) 1001 (omega arith) (omega arith) in
    omega arith

place_low : (a b : ℤ) → place a b ≤ 1000
place_low a b = rounded (nat_abs a) (nat_abs a + nat_abs b) (omega arith)

each_low : {X : Type 0} (f : X → ℕ) (xs : List X) → ((x : X) → f x ≤ 1000) → AllByRecursion (λ d. d ≤ 1000) (map f xs)
each_low f [] low = tt
each_low f (x ∷ xs) low = (low x, each_low f xs low)

pub places_low : (g : Grid) (s : ℕ → ℤ) (a n : ℕ) → All (λ d. d ≤ 1000) (places_in g s a n)
unfolding places_in
places_low g s a n =
    All-from_recursion (λ k. k ≤ 1000) (map (edge_place g s) (names_in g s a n)) (each_low (edge_place g s) (names_in g s a n) (λ n. place_low (s (edge_lower n)) (s (edge_upper g n))))

module _ (g : Grid) (s : ℕ → ℤ) where
  abbrev point_line : ℕ → List ℕ
  point_line n = line (position_text false (edge_position g s n))

  lines_more : (a m n : ℕ) → lines_in g s a (m + n) ≡ lines_in g s a m ++ lines_in g s (a + m) n
  unfolding lines_in
  lines_more a m n = ap (flat_map point_line) (names_more g s a m n) ∙ flat_map-append point_line (names_in g s a m) (names_in g s (a + m) n)

  -- where none is crossing there are no lines
  pub lines_none : (a n : ℕ) → names_in g s a n ≡ [] → lines_in g s a n ≡ []
  unfolding lines_in
  lines_none a n none = ap (flat_map point_line) none

  -- the lines of the first rows, and of one
  abbrev lines_to : ℕ → List ℕ
  lines_to r = lines_in g s 0 (3 * (g.nx * r))

  abbrev lines_at : ℕ → List ℕ
  lines_at r = lines_in g s (3 * (g.nx * r)) (3 * g.nx)

  pub no_rows : lines_to 0 ≡ []
  no_rows = let none : 3 * (g.nx * 0) ≡ 0 = omega arith in lines_none 0 (3 * (g.nx * 0)) (ap (names_in g s 0) none ∙ names_empty g s 0)

  row_more : (r : ℕ) → lines_to (r + 1) ≡ lines_to r ++ lines_at r
  row_more r =
      let m : ℕ = 3 * (g.nx * r) in
      let whole : 3 * (g.nx * (r + 1)) ≡ m + 3 * g.nx = omega arith in
      let start : 0 + m ≡ m = omega arith in
      ap (lines_in g s 0) whole ∙ (lines_more 0 m (3 * g.nx) ∙ ap (λ a. lines_to r ++ lines_in g s a (3 * g.nx)) start)

  pub row_staged : {T U E : Type 0} (t0 t1 t2 : Tape) (x : U) (y : T) (w0 w1 w2 : List ℕ) (r : ℕ)
      → Stages {E = E} t0 t1 w0 w1 (Ok x) (lines_to r) → Stages {E = E} t1 t2 w1 w2 (Ok y) (lines_at r) → Stages {E = E} t0 t2 w0 w2 (Ok y) (lines_to (r + 1))
  row_staged {E = E} t0 t1 t2 x y w0 w1 w2 r before here =
      subst (λ (l : List ℕ). Stages {E = E} t0 t2 w0 w2 (Ok y) l) (sym (row_more r)) (stages_both t0 t1 t2 x (Ok y) w0 w1 w2 (lines_to r) (lines_at r) before here)

  pub row_failed : {T U V E E' : Type 0} (t0 t1 t2 : Tape) (x : U) (e : E) (e' : E') (w0 w1 w2 w3 : List ℕ) (r n : ℕ) → r < n
      → Stages {E = E} t0 t1 w0 w1 (Ok x) (lines_to r) → Stages {T = V} t1 t2 w1 w2 (Err e) (lines_at r) → Stages {T = T} t0 t2 w0 w3 (Err e') (lines_to n)
  row_failed {T = T} {V = V} {E' = E'} t0 t1 t2 x e e' w0 w1 w2 w3 r n low before here =
      let most : g.nx * (r + 1) ≤ g.nx * n = mul-le-mul_left g.nx (omega (arith, low)) in
      let m : ℕ = 3 * (g.nx * (r + 1)) in
      let rest : ℕ = 3 * (g.nx * n) - m in
      let whole : 3 * (g.nx * n) ≡ m + rest = omega (arith, most) in
      let parts : lines_to n ≡ (lines_to r ++ lines_at r) ++ lines_in g s (0 + m) rest
      = ap (lines_in g s 0) whole ∙ (lines_more 0 m rest ∙ ap (λ l. l ++ lines_in g s (0 + m) rest) (row_more r)) in
      subst (λ (l : List ℕ). Stages {T = T} {E = E'} t0 t2 w0 w3 (Err e') l) (sym parts)
      (stages_first {T = T} t0 t2 e e' w0 w2 w3 (lines_to r ++ lines_at r) (lines_in g s (0 + m) rest) (stages_both {T = V} t0 t1 t2 x (Err e) w0 w1 w2 (lines_to r) (lines_at r) before here))

  pairs : (names : List ℕ) → flat_map (λ (v : ℕ × Position). line (position_text false v.1)) (map (λ n. (n, edge_position g s n)) names) ≡ flat_map point_line names
  pairs [] = refl
  pairs (n ∷ names) = ap (λ l. point_line n ++ l) (pairs names)

  -- the lines of all rows behind the head are the text of the points
  pub points_are : (n : ℕ) → n ≡ length (crossing_edges g s) → points_head n ++ lines_to (row_count g) ≡ points_text (edge_points g s)
  unfolding points_head lines_in
  points_are n is =
      let all : 3 * (g.nx * (g.ny * g.nz)) ≡ 3 * point_count g = omega arith in
      let text : List ℕ = flat_map (λ (v : ℕ × Position). line (position_text false v.1)) (edge_points g s) in
      let lines : lines_to (row_count g) ≡ text = ap (flat_map point_line) (ap (names_in g s 0) all ∙ names_all g s) ∙ sym (pairs (crossing_edges g s)) in
      let count : n ≡ length (edge_points g s) = is ∙ sym (length-map (crossing_edges g s) (λ n. (n, edge_position g s n))) in
      ap (λ l. (vertex_head n ++ line (codes "end_header")) ++ l) lines
      ∙ (append_assoc (vertex_head n) (line (codes "end_header")) text
      ∙ ap (λ n. vertex_head n ++ (line (codes "end_header") ++ text)) count)

-- a text behind a head that waits, and then all that waits was written
pub text_put : {T U E : Type 0} (t0 t1 t2 : Tape) (x : U) (r : Result T E) (head w0 w1 text whole : List ℕ) → w0 ≡ [] ++ head → head ++ text ≡ whole
    → Stages {E = E} t0 t1 w0 w1 (Ok x) text → Puts t1 t2 r w1 → Puts t0 t2 r whole
text_put {E = E} t0 t1 t2 x r head w0 w1 text whole waits same s p =
    subst (Puts t0 t2 r) same (stages_written t0 t1 t2 x r w1 (head ++ text) (stages_both t0 t0 t1 x (Ok x) [] w0 w1 head text (line_kept {E = E} t0 x [] head w0 waits) s) p)

-- and where it was not staged
pub text_not_put : {T U E E' : Type 0} (t0 t1 : Tape) (e : E) (e' : E') (head w0 w1 text whole : List ℕ) → w0 ≡ [] ++ head → head ++ text ≡ whole
    → Stages {T = U} t0 t1 w0 w1 (Err e) text → Puts {T = T} t0 t1 (Err e') whole
text_not_put {T = T} {U = U} {E = E} t0 t1 e e' head w0 w1 text whole waits same s =
    let none : ℕ = 0 in
    subst (Puts {T = T} t0 t1 (Err e')) same (stages_not_put t0 t1 e e' w1 (head ++ text) (stages_both {T = U} {U = ℕ} t0 t0 t1 none (Err e) [] w0 w1 head text (line_kept {E = E} t0 none [] head w0 waits) s))
