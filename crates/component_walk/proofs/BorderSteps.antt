-- The steps of a loop of a cell that lie in the border.
use Rattle.std.proofs.Common.{◌≡◌, ℕ, suc, inl, inr, All, ◌+◌, ◌-◌, ◌*◌, ◌/◌, ◌<◌, ◌≤◌, Bool, true, false, cond, ◌&&◌, ◌||◌, not, List, [], ◌∷◌, map, length, get_or, drop, refl, sym, ◌∙◌, ap, subst, arith, eqb, ltb}
use Rattle.std.specs.List.{list_any, count_by}
use Rattle.std.proofs.lemmas.Bool.{both_ways, lt-ltb, ne_eqb}
use Rattle.std.proofs.lemmas.List.{at_drop_more, at_drop_all}
use Rattle.iso_defs.specs.Grid.{Grid, cells, coordinate, name_bound, size}
use Rattle.iso_defs.specs.Cell.{cell_edge, edge_corner}
use Rattle.iso_defs.specs.Lists.{around, below, closing}
use Rattle.iso_defs.specs.Manifold.{share_outer_plane, lies_in_plane}
use Rattle.iso_defs.proofs.Points.{index_in, x_index, y_index, z_index}
use Rattle.triangle_laws.proofs.Lists.{In}
use Rattle.triangle_laws.proofs.Counts.{count-cons, count_none, count-map}
use Rattle.mesh_laws.proofs.Names.{edge_in}
use Rattle.mesh_laws.proofs.Opposite.{cell_from, lies}
use Rattle.mesh_laws.proofs.TwoCells.{corner_below}
use Rattle.edge_points.specs.Points.{corner_offset}
use Rattle.flat_mesh.specs.Centres.{IsCellAt}
use Rattle.flat_mesh.specs.declared.centres.Cell.{Cell}
use Rattle.mesh_laws.proofs.AllFans.{around_map}
use Rattle.mesh_laws.proofs.Arcs.{on_pair}
use Rattle.part_laws.proofs.Rounds.{step_ends}
use Rattle.component_walk.specs.Sums.{lies_at, share_side, steps_on}

module _ (g : Grid) (cell : Cell) (at : IsCellAt g cell) where
  abbrev X : ℕ
  X = cell.low.x

  abbrev Y : ℕ
  Y = cell.low.y

  abbrev Z : ℕ
  Z = cell.low.z

  x_in : X < g.nx
  x_in = omega (arith, at.x)

  y_in : Y < g.ny
  y_in = omega (arith, at.y)

  z_in : Z < g.nz
  z_in = omega (arith, at.z)

  pub along_x : coordinate g 0 cell.index ≡ X
  along_x = ap (coordinate g 0) at.index ∙ x_index g X Y Z x_in y_in z_in

  pub along_y : coordinate g 1 cell.index ≡ Y
  along_y = ap (coordinate g 1) at.index ∙ y_index g X Y Z x_in y_in z_in

  pub along_z : coordinate g 2 cell.index ≡ Z
  along_z = ap (coordinate g 2) at.index ∙ z_index g X Y Z x_in y_in z_in

  pub in_cells : In cell.index (cells g)
  in_cells =
      cell_from g cell.index (subst (λ p. p < g.nx * g.ny * g.nz) (sym at.index) (index_in g X Y Z x_in y_in z_in))
      (omega (arith, along_x, at.x)) (omega (arith, along_y, at.y)) (omega (arith, along_z, at.z))

  module _ (a b : ℕ) (ha : a < 12) (hb : b < 12) where
    abbrev A : ℕ
    A = cell_edge g cell.index a

    abbrev B : ℕ
    B = cell_edge g cell.index b

    abbrev side : ℕ → Bool
    side n = (lies_in_plane g n 0 A && lies_in_plane g n 0 B) || (lies_in_plane g n (size g n - 1) A && lies_in_plane g n (size g n - 1) B)

    here : share_outer_plane g A B ≡ list_any side (below 3)
    here =
        ap (λ t. t && (ltb B (name_bound g) && list_any side (below 3))) (lt-ltb A (name_bound g) (edge_in g cell.index a in_cells ha))
        ∙ ap (λ t. t && list_any side (below 3)) (lt-ltb B (name_bound g) (edge_in g cell.index b in_cells hb))

    told : (n from k e : ℕ) → e < 12 → n < 3 → coordinate g n cell.index ≡ from → (offset : ℕ) → lies_in_plane g n k (cell_edge g cell.index e) ≡ (not (eqb (e / 4) n) && eqb (coordinate g n cell.index + offset) k)
        → lies_in_plane g n k (cell_edge g cell.index e) ≡ (not (eqb (e / 4) n) && eqb (from + offset) k)
    told n from k e he hn c offset h = h ∙ ap (λ t. not (eqb (e / 4) n) && eqb (t + offset) k) c

    both : (n from k : ℕ) → (lies_in_plane g n k A ≡ lies_at n k from a) → (lies_in_plane g n k B ≡ lies_at n k from b)
        → (lies_in_plane g n k A && lies_in_plane g n k B) ≡ (lies_at n k from a && lies_at n k from b)
    both n from k p q = ap (λ t. t && lies_in_plane g n k B) p ∙ ap (λ t. lies_at n k from a && t) q

    at_x : (k e : ℕ) → e < 12 → lies_in_plane g 0 k (cell_edge g cell.index e) ≡ lies_at 0 k X e
    at_x k e he = told 0 X k e he (omega arith) along_x (corner_offset (edge_corner e) 0) (lies g cell.index e 0 k in_cells he (omega arith))

    at_y : (k e : ℕ) → e < 12 → lies_in_plane g 1 k (cell_edge g cell.index e) ≡ lies_at 1 k Y e
    at_y k e he = told 1 Y k e he (omega arith) along_y (corner_offset (edge_corner e) 1) (lies g cell.index e 1 k in_cells he (omega arith))

    at_z : (k e : ℕ) → e < 12 → lies_in_plane g 2 k (cell_edge g cell.index e) ≡ lies_at 2 k Z e
    at_z k e he = told 2 Z k e he (omega arith) along_z (corner_offset (edge_corner e) 2) (lies g cell.index e 2 k in_cells he (omega arith))

    side_is : (n from : ℕ) → ((k e : ℕ) → e < 12 → lies_in_plane g n k (cell_edge g cell.index e) ≡ lies_at n k from e) → side n ≡ share_side n (size g n) from a b
    side_is n from h =
        ap (λ t. t || (lies_in_plane g n (size g n - 1) A && lies_in_plane g n (size g n - 1) B)) (both n from 0 (h 0 a ha) (h 0 b hb))
        ∙ ap (λ t. (lies_at n 0 from a && lies_at n 0 from b) || t) (both n from (size g n - 1) (h (size g n - 1) a ha) (h (size g n - 1) b hb))

    none_more : (t : Bool) → (t || false) ≡ t
    none_more true = refl
    none_more false = refl

    three : list_any side (below 3) ≡ (side 0 || (side 1 || side 2))
    three = ap (λ t. side 0 || (side 1 || t)) (none_more (side 2))

    -- whether a step lies in the border
    pub border_is : share_outer_plane g A B ≡ (share_side 0 g.nx X a b || (share_side 1 g.ny Y a b || share_side 2 g.nz Z a b))
    border_is =
        here ∙ (three ∙ (ap (λ t. t || (side 1 || side 2)) (side_is 0 X at_x)
        ∙ (ap (λ t. share_side 0 g.nx X a b || (t || side 2)) (side_is 1 Y at_y) ∙ ap (λ t. share_side 0 g.nx X a b || (share_side 1 g.ny Y a b || t)) (side_is 2 Z at_z))))

-- an edge does not lie in the planes of a side that the cell does not touch
no_side : (t u : Bool) (size from o p : ℕ) → o ≤ 1 → (from ≡ 0 → ⊥) → (from + 2 ≡ size → ⊥) → from + 1 < size
    → (((t && eqb (from + o) 0) && (u && eqb (from + p) 0)) || ((t && eqb (from + o) (size - 1)) && (u && eqb (from + p) (size - 1)))) ≡ false
no_side false u size from o p ho low high room = refl
no_side true u size from o p ho low high room =
    ap (λ b. (b && (u && eqb (from + p) 0)) || (eqb (from + o) (size - 1) && (u && eqb (from + p) (size - 1)))) (ne_eqb (from + o) 0 (λ e. low (omega (arith, e))))
    ∙ ap (λ b. b && (u && eqb (from + p) (size - 1))) (ne_eqb (from + o) (size - 1) (λ e. high (omega (arith, e, ho, room, touches from o size ho room e))))
  where
    touches : (from o size : ℕ) → o ≤ 1 → from + 1 < size → from + o ≡ size - 1 → from + 2 ≡ size
    touches from o size ho room e = omega arith

-- no step of a cell that does not touch the border lies in it
pub inner_is : (g : Grid) (cell : Cell) (at : IsCellAt g cell) (a b : ℕ) → a < 12 → b < 12
    → (cell.low.x ≡ 0 → ⊥) → (cell.low.y ≡ 0 → ⊥) → (cell.low.z ≡ 0 → ⊥) → (cell.low.x + 2 ≡ g.nx → ⊥) → (cell.low.y + 2 ≡ g.ny → ⊥) → (cell.low.z + 2 ≡ g.nz → ⊥)
    → share_outer_plane g (cell_edge g cell.index a) (cell_edge g cell.index b) ≡ false
inner_is g cell at a b ha hb x0 y0 z0 x1 y1 z1 =
    let c : edge_corner a < 8 = corner_below a ha in
    let sx : share_side 0 g.nx cell.low.x a b ≡ false
    = no_side (not (eqb (a / 4) 0)) (not (eqb (b / 4) 0)) g.nx cell.low.x (corner_offset (edge_corner a) 0) (corner_offset (edge_corner b) 0) (omega arith) x0 x1 at.x in
    let sy : share_side 1 g.ny cell.low.y a b ≡ false
    = no_side (not (eqb (a / 4) 1)) (not (eqb (b / 4) 1)) g.ny cell.low.y (corner_offset (edge_corner a) 1) (corner_offset (edge_corner b) 1) (omega arith) y0 y1 at.y in
    let sz : share_side 2 g.nz cell.low.z a b ≡ false
    = no_side (not (eqb (a / 4) 2)) (not (eqb (b / 4) 2)) g.nz cell.low.z (corner_offset (edge_corner a) 2) (corner_offset (edge_corner b) 2) (omega (arith, c)) z0 z1 at.z in
    border_is g cell at a b ha hb
    ∙ (ap (λ t. t || (share_side 1 g.ny cell.low.y a b || share_side 2 g.nz cell.low.z a b)) sx
    ∙ (ap (λ t. t || share_side 2 g.nz cell.low.z a b) sy ∙ sz))

-- what holds of each element
pub in_all : (P : ℕ → Type 0) (xs : List ℕ) → All P xs → (e : ℕ) → In e xs → P e
in_all P xs h e i = let at = index_of e xs i in subst P at.2 (h at.0 0 at.1)
  where
    index_of : (v : ℕ) (vs : List ℕ) → In v vs → (i : ℕ) × (i < length vs) × (get_or vs i 0 ≡ v)
    index_of v [] j = absurd j
    index_of v (u ∷ vs) (inl e) = (0, omega arith, sym e)
    index_of v (u ∷ vs) (inr j) = let r = index_of v vs j in (suc r.0, omega (arith, r.1), r.2)

-- counts round a loop, step by step
module _ (P : ℕ × ℕ → Bool) (es : List ℕ) where
  abbrev first : ℕ
  first = get_or es 0 0

  abbrev left : ℕ → ℕ
  left at = count_by P (closing first (get_or es (at - 1) 0) (drop at es))

  pub round_start : 0 < length es → left 1 ≡ count_by P (around es)
  round_start some = at_start es some
    where
      at_start : (es : List ℕ) → 0 < length es → count_by P (closing (get_or es 0 0) (get_or es 0 0) (drop 1 es)) ≡ count_by P (around es)
      at_start [] some = absurd (omega arith)
      at_start (e ∷ es) some = refl

  pub round_step : (at : ℕ) → 0 < at → at < length es → left at ≡ cond (P (get_or es (at - 1) 0, get_or es at 0)) 1 0 + left (at + 1)
  round_step at some low =
      at_drop_more (λ l. count_by P (closing first (get_or es (at - 1) 0) l)) es at 0 low
      ∙ (count-cons P (get_or es (at - 1) 0, get_or es at 0) (closing first (get_or es at 0) (drop (at + 1) es))
      ∙ ap (λ n. cond (P (get_or es (at - 1) 0, get_or es at 0)) 1 0 + count_by P (closing first (get_or es n 0) (drop (at + 1) es))) (let e : at ≡ at + 1 - 1 = omega arith in e))

  pub round_end : left (length es) ≡ cond (P (get_or es (length es - 1) 0, first)) 1 0
  round_end =
      at_drop_all (λ l. count_by P (closing first (get_or es (length es - 1) 0) l)) es (length es) (omega arith)
      ∙ (count-cons P (get_or es (length es - 1) 0, first) [] ∙ (let e : cond (P (get_or es (length es - 1) 0, first)) 1 0 + 0 ≡ cond (P (get_or es (length es - 1) 0, first)) 1 0 = omega arith in e))

-- the same of the steps round a loop of a cell
module _ (g : Grid) (q : ℕ) (es : List ℕ) where
  abbrev P : ℕ × ℕ → Bool
  P p = share_outer_plane g (cell_edge g q p.0) (cell_edge g q p.1)

  pub steps_start : 0 < length es → 0 + left P es 1 ≡ steps_on g q es
  unfolding steps_on
  steps_start some = (let e : 0 + left P es 1 ≡ left P es 1 = omega arith in e) ∙ round_start P es some

  pub steps_more : (outer at one : ℕ) → 0 < at → at < length es → one ≡ cond (P (get_or es (at - 1) 0, get_or es at 0)) 1 0
      → outer + left P es at ≡ steps_on g q es → (outer + one) + left P es (at + 1) ≡ steps_on g q es
  steps_more outer at one some low o h = let s : left P es at ≡ cond (P (get_or es (at - 1) 0, get_or es at 0)) 1 0 + left P es (at + 1) = round_step P es at some low in omega (arith, s, o, h)

  pub steps_end : (outer at one : ℕ) → at ≡ length es → one ≡ cond (P (get_or es (length es - 1) 0, get_or es 0 0)) 1 0
      → outer + left P es at ≡ steps_on g q es → outer + one ≡ steps_on g q es
  steps_end outer at one e o h = let s : left P es at ≡ cond (P (get_or es (length es - 1) 0, get_or es 0 0)) 1 0 = ap (left P es) e ∙ round_end P es in omega (arith, s, o, h)

  pub steps_none : ((a b : ℕ) → a < 12 → b < 12 → share_outer_plane g (cell_edge g q a) (cell_edge g q b) ≡ false) → ((e : ℕ) → In e es → e < 12) → 0 ≡ steps_on g q es
  unfolding steps_on
  steps_none none low = sym (count_none P (around es) (λ p i t. let ends : In p.0 es × In p.1 es = step_ends es p i in both_ways (P p) (none p.0 p.1 (low p.0 ends.0) (low p.1 ends.1)) t))

  -- and by names
  pub steps_named : steps_on g q es ≡ count_by (λ (p : ℕ × ℕ). share_outer_plane g p.0 p.1) (around (map (cell_edge g q) es))
  unfolding steps_on
  steps_named =
      sym (ap (count_by (λ (p : ℕ × ℕ). share_outer_plane g p.0 p.1)) (sym (around_map (cell_edge g q) es))
      ∙ count-map (λ (p : ℕ × ℕ). share_outer_plane g p.0 p.1) (on_pair (cell_edge g q)) (around es))
