-- The crossing edges of a row of points, by their offsets and by their names.
use Rattle.std.proofs.Common.{◌≡◌, ℕ, zero, suc, ◌+◌, ◌*◌, ◌<◌, ◌≤◌, List, [], ◌∷◌, ◌++◌, take, drop, length, get_or, refl, sym, subst, ◌∙◌, ap, arith, append-nil, inl, inr}
use Rattle.std.specs.List.{flat_map, range_with_len}
use Rattle.std.proofs.lemmas.List.{get_or-map, get_or-take, length-map, length-take-le, take_all, take_more, take-append-drop}
use Rattle.std.proofs.lemmas.Bool.{and_parts}
use Rattle.std.proofs.lemmas.List.Concat.{flat_map-append}
use Rattle.iso_defs.specs.Grid.{is_crossing}
use Rattle.crossing_edges.specs.Flags.{edge_place, names_in, places_in}
use Rattle.triangle_laws.proofs.Lists.{In, In-filter}
use Rattle.mesh_laws.proofs.Cells.{range_at_least}
use Rattle.flat_mesh.specs.Lattice.{Leveled, heights}
use Rattle.flat_mesh.specs.Rows.{row_start}
use Rattle.flat_mesh.proofs.Known.{place_low}
use Rattle.mesh_lines.specs.declared.style.Style.{Style}
use Rattle.mesh_rows.specs.Counts.{span}
use Rattle.mesh_rows.specs.Rows.{row_names}
use Rattle.mesh_walk.specs.declared.edges.RowEdges.{RowEdges}
use Rattle.mesh_walk.specs.Edges.{AreRowEdges}
use Rattle.mesh_walk.specs.Spans.{edge_line, edges_text}

In-at : {A : Type 0} (xs : List A) (k : ℕ) (d : A) → k < length xs → In (get_or xs k d) xs
In-at [] k d h = absurd (omega arith)
In-at (x ∷ xs) zero d h = inl refl
In-at (x ∷ xs) (suc k) d h = inr (In-at xs k d (omega arith))

-- an edge of a row by its number
pub record EdgeAt (v : Leveled) (row : RowEdges) (k : ℕ) : Type 0 where
  pub low : k < length (row_names v row.texts.y row.texts.z)
  pub name_is : get_or (row_names v row.texts.y row.texts.z) k 0 ≡ 3 * row_start v.grid row.texts.y row.texts.z + get_or row.edges k 0
  pub in_row : get_or row.edges k 0 < 3 * v.grid.nx
  pub place_low : get_or row.places k 0 ≤ 1000
  pub place_is : get_or row.places k 0 ≡ edge_place v.grid (heights v) (3 * row_start v.grid row.texts.y row.texts.z + get_or row.edges k 0)

module _ (v : Leveled) (row : RowEdges) (are : AreRowEdges v row) where
  abbrev names : List ℕ
  names = row_names v row.texts.y row.texts.z

  abbrev listed : List ℕ
  listed = take row.count row.edges

  abbrev name : ℕ → ℕ
  name e = 3 * row_start v.grid row.texts.y row.texts.z + e

  listed_count : length listed ≡ row.count
  listed_count = length-take-le row.count row.edges are.room

  -- how many edges there are
  pub count_is : length names ≡ row.count
  count_is = ap length (sym are.edges.names) ∙ (length-map listed name ∙ listed_count)

  pub edge_at : (k : ℕ) → k < row.count → EdgeAt v row k
  unfolding names_in places_in
  edge_at k low =
      let within : k < length names = omega (arith, count_is) in
      let offset : get_or listed k 0 ≡ get_or row.edges k 0 = get_or-take row.count row.edges k 0 low in
      let is : get_or names k 0 ≡ name (get_or row.edges k 0)
      = ap (λ l. get_or l k 0) (sym are.edges.names) ∙ (get_or-map name listed k 0 0 (omega (arith, listed_count)) ∙ ap name offset) in
      let known = In-filter (is_crossing v.grid (heights v)) (get_or names k 0) (range_with_len (3 * row_start v.grid row.texts.y row.texts.z) (3 * v.grid.nx)) (In-at names k 0 within) in
      let bounds = range_at_least (3 * row_start v.grid row.texts.y row.texts.z) (3 * v.grid.nx) (get_or names k 0) known.0 in
      let place = sym (get_or-take row.count row.places k 0 low) ∙ (ap (λ l. get_or l k 0) are.places
      ∙ get_or-map (edge_place v.grid (heights v)) names k 0 0 within) in
      record {
        low = within;
        name_is = is;
        in_row = omega (arith, is, bounds.1);
        place_low = subst (λ d. d ≤ 1000) (sym place) (place_low _ _ (and_parts _ _ known.1).1);
        place_is = place ∙ ap (edge_place v.grid (heights v)) is;
      }

-- the lines of the crossing edges of a row
pub row_text : (v : Leveled) (style : Style) (y z : ℕ) → flat_map (edge_line style v) (row_names v y z) ≡ edges_text style v (3 * row_start v.grid y z) (3 * v.grid.nx)
unfolding span names_in
row_text v style y z = refl

-- the lines of the first edges of a row
module _ (f : ℕ → List ℕ) (ns : List ℕ) where
  pub lines_next : (k : ℕ) → k < length ns → flat_map f (take (k + 1) ns) ≡ flat_map f (take k ns) ++ f (get_or ns k 0)
  lines_next k low =
      ap (flat_map f) (take_more ns k 0 low) ∙ (flat_map-append f (take k ns) (get_or ns k 0 ∷ []) ∙ ap (λ l. flat_map f (take k ns) ++ l) (append-nil (f (get_or ns k 0))))

  pub lines_cut : (k : ℕ) → k < length ns → flat_map f ns ≡ (flat_map f (take k ns) ++ f (get_or ns k 0)) ++ flat_map f (drop (k + 1) ns)
  lines_cut k low =
      ap (flat_map f) (sym (take-append-drop (k + 1) ns)) ∙ (flat_map-append f (take (k + 1) ns) (drop (k + 1) ns) ∙ ap (λ l. l ++ flat_map f (drop (k + 1) ns)) (lines_next k low))

  pub lines_all : (k : ℕ) → length ns ≤ k → flat_map f (take k ns) ≡ flat_map f ns
  lines_all k all = ap (flat_map f) (take_all k ns all)
