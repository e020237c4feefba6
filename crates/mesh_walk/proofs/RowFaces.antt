-- The triangles of a row of cells: the texts of their corners, and their lines.
use Rattle.std.proofs.Common.{◌≡◌, ℕ, zero, suc, ◌+◌, ◌-◌, ◌*◌, ◌<◌, ◌≤◌, ◌^◌, All, List, [], ◌∷◌, ◌++◌, map, take, length, get_or, append-nil, refl, sym, subst, ◌∙◌, ap, ap₂, arith}
use Rattle.std.specs.List.{concat, flat_map, sum_by}
use Rattle.std.proofs.lemmas.Grind.{take_at_read}
use Rattle.std.proofs.lemmas.List.{get_or-append-add, get_or-map, get_or_append_left, length-append, length-map, map-append}
use Rattle.std.proofs.lemmas.List.Elements.{All-append, All-map, All-nil, All-tail, All-weaker}
use Rattle.std.proofs.lemmas.List.Folds.{concat-append}
use Rattle.std.proofs.lemmas.Simd.{map-map}
use Rattle.iso_base.specs.Volume.{IsGrid}
use Rattle.iso_base.specs.declared.format.MeshFormat.{MeshFormat}
use Rattle.iso_defs.specs.Grid.{is_cell}
use Rattle.iso_defs.specs.Lists.{below}
use Rattle.case_faces.specs.Faces.{case_corners, row_faces}
use Rattle.case_faces.proofs.Corners.{cell_three, faces_named, flat_more}
use Rattle.flat_mesh.specs.Centres.{IsCellAt}
use Rattle.flat_mesh.specs.declared.centres.Cell.{Cell}
use Rattle.flat_mesh.specs.Faces.{cell_faces, centres_of, loops_at}
use Rattle.flat_mesh.specs.Lattice.{Leveled}
use Rattle.flat_mesh.specs.Rows.{row_start}
use Rattle.flat_mesh.proofs.CellPlaces.{cell_placed}
use Rattle.flat_mesh.proofs.Loops.{few_loops}
use Rattle.mesh_text.specs.declared.number.Number.{Number}
use Rattle.mesh_text.specs.Numbers.{text_at}
use Rattle.mesh_lines.specs.declared.style.Style.{Style}
use Rattle.mesh_lines.specs.Triangles.{corner_text}
use Rattle.mesh_rows.specs.Counts.{centres_among}
use Rattle.mesh_walk.specs.Cells.{AreCells}
use Rattle.mesh_walk.specs.Listed.{cell_corner_slots, corner_slots_to}
use Rattle.mesh_walk.specs.Numbers.{AreFirst}
use Rattle.mesh_walk.specs.declared.walk.Numbering.{Numbering}
use Rattle.mesh_walk.specs.Slots.{AreAround, corner_slot}
use Rattle.mesh_walk.specs.Spans.{edge_count, face_lines, faces_text, renumbered, triangle_lines}
use Rattle.mesh_walk.specs.Texts.{HasCentres, HasText, number_due}
use Rattle.mesh_walk.specs.declared.cells.RowCells.{RowCells}
use Rattle.mesh_walk.proofs.ActiveCells.{case_of, cell_low, gap, gap_before, gap_low, quiet_gap, quiet_rest}
use Rattle.mesh_walk.proofs.CellRuns.{cell_in, cell_of}
use Rattle.mesh_walk.proofs.FaceLines.{cell_lines, few_centres_of, lines_append, lines_none, quiet_faces}
use Rattle.mesh_rows.proofs.SpanLaws.{span_more, span_none}
use Rattle.mesh_walk.proofs.TextSlots.{IsNumbered, corners_named, named, numbers, numbers_are}

-- what holds of each number of some lists holds of each of them joined
all_joined : (P : ℕ → Type 0) (ls : List (List ℕ)) → All (All P) ls → All P (concat ls)
all_joined P [] each = All-nil P
all_joined P (l ∷ ls) each = All-append P l (concat ls) (each 0 [] (omega arith)) (all_joined P ls (All-tail (All P) l ls each))

map_joined : (f : ℕ → ℕ) (ls : List (List ℕ)) → map f (concat ls) ≡ concat (map (map f) ls)
map_joined f [] = refl
map_joined f (l ∷ ls) = map-append f l (concat ls) ∙ ap (λ m. map f l ++ m) (map_joined f ls)

-- two maps that agree on a list
maps_agree : {X : Type 0} (f g : ℕ → X) (xs : List ℕ) → All (λ x. f x ≡ g x) xs → map f xs ≡ map g xs
maps_agree f g [] each = refl
maps_agree f g (x ∷ xs) each = ap₂ (λ y ys. y ∷ ys) (each 0 0 (omega arith)) (maps_agree f g xs (All-tail (λ x. f x ≡ g x) x xs each))

-- triangles whose corners' texts stand in some slots
pub joined_count : (faces : List (List ℕ)) → All (λ t. length t ≡ 3) faces → length (concat faces) ≡ 3 * length faces
joined_count [] three = refl
joined_count (t ∷ ts) three =
    omega (arith, length-append t (concat ts), three 0 [] (omega arith), joined_count ts (All-tail (λ t. length t ≡ 3) t ts three))

joined_at : (faces : List (List ℕ)) → All (λ t. length t ≡ 3) faces → (i j : ℕ) → i < length faces → j < 3 → get_or (concat faces) (3 * i + j) 0 ≡ get_or (get_or faces i []) j 0
joined_at [] three i j low few = absurd (omega (arith, low))
joined_at (t ∷ ts) three zero j low few =
    let at : 3 * 0 + j ≡ j = omega arith in
    ap (λ n. get_or (t ++ concat ts) n 0) at ∙ get_or_append_left t (concat ts) 0 j (omega (arith, few, three 0 [] (omega arith)))
joined_at (t ∷ ts) three (suc i) j low few =
    let at : 3 * suc i + j ≡ length t + (3 * i + j) = omega (arith, three 0 [] (omega arith)) in
    ap (λ n. get_or (t ++ concat ts) n 0) at ∙ (get_or-append-add t (concat ts) (3 * i + j) 0 ∙ joined_at ts (All-tail (λ t. length t ≡ 3) t ts three) i j (omega (arith, low)) few)

-- a list of three numbers
three_of : (l : List ℕ) → length l ≡ 3 → l ≡ get_or l 0 0 ∷ get_or l 1 0 ∷ get_or l 2 0 ∷ []
three_of [] h = absurd (omega arith)
three_of (a ∷ []) h = absurd (omega arith)
three_of (a ∷ b ∷ []) h = absurd (omega arith)
three_of (a ∷ b ∷ c ∷ []) h = refl
three_of (a ∷ b ∷ c ∷ d ∷ l) h = absurd (omega arith)

pub taken_more : (faces : List (List ℕ)) → All (λ t. length t ≡ 3) faces → (i : ℕ) → i + 1 ≤ length faces
    → take (i + 1) faces ≡ take i faces ++ (get_or (get_or faces i []) 0 0 ∷ get_or (get_or faces i []) 1 0 ∷ get_or (get_or faces i []) 2 0 ∷ []) ∷ []
taken_more faces three i low =
    (take_at_read faces i [] (omega (arith, low))).1 ∙ ap (λ t. take i faces ++ t ∷ []) (three_of (get_or faces i []) (three i [] (omega (arith, low))))

module _ (texts : List Number) (format : MeshFormat) (slots : List ℕ) (faces : List (List ℕ)) (three : All (λ t. length t ≡ 3) faces)
    (same : map (text_at texts) slots ≡ map (corner_text format) (concat faces)) where
  pub faces_count : length slots ≡ 3 * length faces
  faces_count = sym (length-map slots (text_at texts)) ∙ (ap length same ∙ (length-map (concat faces) (corner_text format) ∙ joined_count faces three))

  pub corner_at : (i : ℕ) → i + 1 ≤ length faces → (j : ℕ) → j < 3 → text_at texts (get_or slots (3 * i + j) 0) ≡ corner_text format (get_or (get_or faces i []) j 0)
  corner_at i low j few =
      sym (get_or-map (text_at texts) slots (3 * i + j) 0 [] (omega (arith, low, few, faces_count)))
      ∙ (ap (λ l. get_or l (3 * i + j) []) same
      ∙ (get_or-map (corner_text format) (concat faces) (3 * i + j) 0 [] (omega (arith, low, few, joined_count faces three))
      ∙ ap (corner_text format) (joined_at faces three i j (omega (arith, low)) few)))

module _ (v : Leveled) (is : IsGrid v.grid) (style : Style) (base : Numbering) (firsts : AreFirst base) (cells : RowCells) (are : AreCells v cells) where
  abbrev start : ℕ
  start = row_start v.grid cells.y cells.z

  abbrev place : ℕ → ℕ
  place k = get_or cells.places k 0

  abbrev moved : ℕ → ℕ
  moved = renumbered base (edge_count v)

  -- the triangles of the cell listed at a place, by the numbers of their corners in the mesh
  abbrev own_faces : ℕ → List (List ℕ)
  own_faces k = cell_faces (numbers v (start + place k)) (loops_at v (start + place k)) (edge_count v + centres_among v 0 (start + place k))

  -- and by those that they get
  abbrev faces_of : ℕ → List (List ℕ)
  faces_of k = map (map moved) (own_faces k)

  -- those of the first cells that are listed
  unfoldable pub faces_to : ℕ → List (List ℕ)
  faces_to n = flat_map faces_of (below n)

  faces_next : (n : ℕ) → faces_to (suc n) ≡ faces_to n ++ faces_of n
  unfolding faces_to
  faces_next n = let next : n + 1 ≡ suc n = omega arith in ap (λ n. flat_map faces_of (below n)) (sym next) ∙ flat_more faces_of n

  faces_none : faces_to 0 ≡ []
  unfolding faces_to
  faces_none = refl

  pub faces_three : (n : ℕ) → All (λ t. length t ≡ 3) (faces_to n)
  faces_three zero = subst (All (λ t. length t ≡ 3)) (sym faces_none) (All-nil _)
  faces_three (suc n) =
      subst (All (λ t. length t ≡ 3)) (sym (faces_next n))
      (All-append (λ t. length t ≡ 3) (faces_to n) (faces_of n) (faces_three n)
      (All-map (λ t. length t ≡ 3) (map moved) (own_faces n)
      (All-weaker (λ t. length t ≡ 3) (λ t. length (map moved t) ≡ 3) (λ t three. length-map t moved ∙ three) (own_faces n)
      (cell_three (numbers v (start + place n)) (loops_at v (start + place n)) (edge_count v + centres_among v 0 (start + place n))))))

  module _ (texts : List Number) (around : AreAround (text_at texts) (number_due style base v) v cells.y cells.z)
      (centres : (k : ℕ) → k < cells.count → HasCentres style.format base v cells texts k) where
    module _ (k : ℕ) (low : k < cells.count) where
      abbrev q : ℕ
      q = start + place k

      abbrev case : ℕ
      case = get_or cells.cases k 0

      abbrev cell : Cell
      cell = cell_of v cells are (place k)

      here : IsCellAt v.grid cell
      here = cell_in v cells are (place k) (cell_low v cells are k low)

      abbrev before : ℕ
      before = centres_among v 0 q

      first_is : (centres k low).first ≡ base.first_centre + before
      first_is = (centres k low).number.number

      count_few : sum_by centres_of (loops_at v q) ≤ 4
      count_few = omega (arith, few_centres_of (loops_at v q), few_loops v q)

      first_low : base.first_centre + before + 4 ≤ 2 ^ 32
      first_low = omega (arith, (cell_placed v.grid cell here).low, is.count, firsts.centre, first_is, (centres k low).number.few)

      each_centre : (i : ℕ) → i < sum_by centres_of (loops_at v q) → text_at texts (12312 + 3 * place k + i) ≡ corner_text style.format (base.first_centre + before + i)
      each_centre i h = (centres k low).each i h ∙ ap (λ n. corner_text style.format (n + i)) first_is

      abbrev name_of : ℕ → ℕ
      name_of = named v is style base firsts cell here texts around before (sum_by centres_of (loops_at v q)) count_few first_low each_centre

      abbrev slot_of : ℕ → ℕ
      slot_of c = corner_slot cells.y cells.z c + 3 * place k

      each : All (λ c. IsNumbered v is style base firsts cell here texts around c (moved (name_of c))) (case_corners case)
      unfolding case_corners
      each =
          let is_case = case_of v cells are k low in
          all_joined (λ c. IsNumbered v is style base firsts cell here texts around c (moved (name_of c))) (row_faces case)
          (corners_named v is style base firsts cell here texts around before (sum_by centres_of (loops_at v q)) count_few first_low each_centre case is_case.small is_case.loops (ap (sum_by centres_of) (sym is_case.loops)))

      cell_has : All (HasText texts) (cell_corner_slots cells k)
      cell_has =
          All-map (HasText texts) slot_of (case_corners case)
          (All-weaker (λ c. IsNumbered v is style base firsts cell here texts around c (moved (name_of c))) (λ c. HasText texts (slot_of c)) (λ c n. n.has) (case_corners case) each)

      faces_are : map (map name_of) (row_faces case) ≡ own_faces k
      faces_are =
          let is_case = case_of v cells are k low in
          faces_named (numbers v q) (edge_count v + before) case is_case.small ∙ ap (λ ls. cell_faces (numbers v q) ls (edge_count v + before)) is_case.loops

      cell_texts : map (text_at texts) (cell_corner_slots cells k) ≡ map (corner_text style.format) (concat (faces_of k))
      unfolding case_corners
      cell_texts =
          map-map (text_at texts) slot_of (case_corners case)
          ∙ (maps_agree (λ c. text_at texts (slot_of c)) (λ c. corner_text style.format (moved (name_of c))) (case_corners case)
          (All-weaker (λ c. IsNumbered v is style base firsts cell here texts around c (moved (name_of c))) (λ c. text_at texts (slot_of c) ≡ corner_text style.format (moved (name_of c))) (λ c n. n.text) (case_corners case) each)
          ∙ (sym (map-map (λ n. corner_text style.format (moved n)) name_of (case_corners case))
          ∙ (sym (map-map (corner_text style.format) moved (map name_of (case_corners case)))
          ∙ ap (map (corner_text style.format)) (ap (map moved) (map_joined name_of (row_faces case) ∙ ap concat faces_are) ∙ map_joined moved (own_faces k)))))

    none_listed : corner_slots_to cells 0 ≡ []
    unfolding corner_slots_to
    none_listed = refl

    next_listed : (n : ℕ) → corner_slots_to cells (suc n) ≡ corner_slots_to cells n ++ cell_corner_slots cells n
    unfolding corner_slots_to
    next_listed n = let next : n + 1 ≡ suc n = omega arith in ap (λ n. flat_map (cell_corner_slots cells) (below n)) (sym next) ∙ flat_more (cell_corner_slots cells) n

    -- each listed slot has a text
    pub listed_have : (n : ℕ) → n ≤ cells.count → All (HasText texts) (corner_slots_to cells n)
    listed_have zero few = subst (All (HasText texts)) (sym none_listed) (All-nil _)
    listed_have (suc n) few =
        subst (All (HasText texts)) (sym (next_listed n))
        (All-append (HasText texts) (corner_slots_to cells n) (cell_corner_slots cells n) (listed_have n (omega arith)) (cell_has n (omega (arith, few))))

    -- that of the number of the corner
    pub listed_texts : (n : ℕ) → n ≤ cells.count → map (text_at texts) (corner_slots_to cells n) ≡ map (corner_text style.format) (concat (faces_to n))
    listed_texts zero few = ap (map (text_at texts)) none_listed ∙ sym (ap (λ l. map (corner_text style.format) (concat l)) faces_none)
    listed_texts (suc n) few =
        ap (map (text_at texts)) (next_listed n)
        ∙ (map-append (text_at texts) (corner_slots_to cells n) (cell_corner_slots cells n)
        ∙ (ap₂ (λ a b. a ++ b) (listed_texts n (omega arith)) (cell_texts n (omega (arith, few)))
        ∙ (sym (map-append (corner_text style.format) (concat (faces_to n)) (concat (faces_of n)))
        ∙ ap (map (corner_text style.format)) (sym (ap concat (faces_next n) ∙ concat-append (faces_to n) (faces_of n))))))

    -- the lines of the triangles of the row
    lines_to : (n : ℕ) → n ≤ cells.count → face_lines style.format (faces_to n) ≡ faces_text style.format base v start (gap v cells are n)
    lines_to zero few = ap (face_lines style.format) faces_none ∙ (lines_none style.format ∙ sym (span_none (triangle_lines style.format base v) (is_cell v.grid) start))
    lines_to (suc n) few =
        let low : n < cells.count = omega (arith, few) in
        let from : ℕ = gap v cells are n in
        let upto = gap_before v cells are n low in
        let placed = cell_placed v.grid (cell n low) (here n low) in
        let one = cell_lines base v (start + place n) placed.tested style.format (edge_count v + centres_among v 0 (start + place n)) refl (numbers v (start + place n)) (loops_at v (start + place n)) placed.known (numbers_are v (start + place n)) refl in
        let none = quiet_faces style.format base v (start + from) (place n - from) (quiet_gap v cells are n low) in
        let reach : from + (place n - from) ≡ place n = omega (arith, upto) in
        ap (face_lines style.format) (faces_next n)
        ∙ (lines_append style.format (faces_to n) (faces_of n)
        ∙ (ap₂ (λ a b. a ++ b)
        (lines_to n (omega arith) ∙ sym (ap (faces_text style.format base v start) (sym reach) ∙ (span_more (triangle_lines style.format base v) (is_cell v.grid) start from (place n - from)
        ∙ (ap (λ l. faces_text style.format base v start from ++ l) none ∙ append-nil (faces_text style.format base v start from)))))
        one
        ∙ sym (span_more (triangle_lines style.format base v) (is_cell v.grid) start (place n) 1)))

    pub row_lines : face_lines style.format (faces_to cells.count) ≡ faces_text style.format base v start v.grid.nx
    row_lines =
        let some : 0 < v.grid.nx = omega (arith, is.x.least) in
        let from : ℕ = gap v cells are cells.count in
        let far = gap_low v cells are some cells.count (omega arith) in
        let none = quiet_faces style.format base v (start + from) (v.grid.nx - from) (quiet_rest v cells are some) in
        let reach : from + (v.grid.nx - from) ≡ v.grid.nx = omega (arith, far) in
        lines_to cells.count (omega arith)
        ∙ sym (ap (faces_text style.format base v start) (sym reach) ∙ (span_more (triangle_lines style.format base v) (is_cell v.grid) start from (v.grid.nx - from)
        ∙ (ap (λ l. faces_text style.format base v start from ++ l) none ∙ append-nil (faces_text style.format base v start from))))
