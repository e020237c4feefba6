-- The texts of the numbers of edges in their slots.
use Rattle.std.proofs.Common.{◌≡◌, ℕ, ◌+◌, ◌-◌, ◌*◌, ◌^◌, if◌then◌else◌, ◌<◌, ◌≤◌, All, true, inl, inr, List, [], ◌∷◌, map, set, length, decimal, get_or, sym, ◌∙◌, ap, subst, arith, zero-add}
use Rattle.std.specs.List.{sum_by}
use Rattle.std.proofs.lemmas.Bool.{cases_lt, le-ltb, lt-ltb}
use Rattle.std.proofs.lemmas.Fmt.{length-decimal-le}
use Rattle.std.proofs.lemmas.List.{length-append, get_or-set_other, get_or-set_same, get_or_default}
use Rattle.std.proofs.lemmas.List.FromFn.{get_or-map-range_with_len}
use Rattle.iso_defs.specs.Cell.{cell_edge, cell_signs, crosses}
use Rattle.iso_defs.specs.Grid.{name_bound, is_crossing}
use Rattle.iso_defs.specs.Lists.{below}
use Rattle.iso_defs.specs.Rows.{row_count}
use Rattle.iso_base.specs.Volume.{IsGrid}
use Rattle.iso_base.specs.declared.format.MeshFormat.{MeshFormat}
use Rattle.iso_base.specs.declared.format.MeshFormat.TheVariants.{Ply, Obj, Off, Vtk}
use Rattle.triangle_laws.proofs.Lists.{In-filter}
use Rattle.mesh_laws.proofs.Names.{edge_in}
use Rattle.mesh_laws.proofs.Numbers.{crossing_of_cell}
use Rattle.crossing_edges.specs.Flags.{rank}
use Rattle.flat_mesh.specs.declared.centres.Cell.{Cell}
use Rattle.flat_mesh.specs.Centres.{IsCellAt}
use Rattle.cell_loops.specs.Loops.{row_loops}
use Rattle.case_faces.specs.Faces.{corner_number, row_faces}
use Rattle.case_faces.proofs.Corners.{corners_each}
use Rattle.flat_mesh.specs.Faces.{centres_of, loops_at}
use Rattle.flat_mesh.specs.Lattice.{Leveled, heights}
use Rattle.flat_mesh.specs.Numbers.{AreNumbers}
use Rattle.flat_mesh.specs.Rows.{row_start}
use Rattle.flat_mesh.proofs.CellPlaces.{cell_placed}
use Rattle.flat_mesh.proofs.FirstNumbers.{rank_low}
use Rattle.flat_mesh.proofs.Loops.{loop_crosses, loop_is}
use Rattle.mesh_rows.specs.Rows.{AreEdges}
use Rattle.mesh_text.specs.declared.number.Number.{Number}
use Rattle.mesh_text.specs.Numbers.{number_text, text_at}
use Rattle.mesh_lines.specs.declared.style.Style.{Style}
use Rattle.mesh_lines.specs.Triangles.{corner_text, first_of}
use Rattle.mesh_walk.specs.Slots.{AreApart, AreAround, AreLaid, IsReady, corner_slot, edge_slot, row_slot}
use Rattle.mesh_walk.specs.Texts.{HasText, number_due}
use Rattle.mesh_walk.specs.Numbers.{AreFirst}
use Rattle.mesh_walk.specs.Spans.{edge_count, renumbered}
use Rattle.mesh_walk.specs.declared.walk.Numbering.{Numbering}
use Rattle.mesh_walk.proofs.RowSlots.{edge_is, rank_before}
use Rattle.mesh_walk.proofs.SlotRows.{edge_laid, slot_low}

-- one text more is set
module _ (texts new : List Number) (at : ℕ) (n : Number) (here : at < length texts) (set_is : new ≡ set texts at n) where
  pub text_set : text_at new at ≡ number_text n
  text_set = ap (λ l. text_at l at) set_is ∙ ap number_text (get_or-set_same texts at n (record { bytes = [] }) here)

  pub text_kept : (k : ℕ) → ¬ (k ≡ at) → text_at new k ≡ text_at texts k
  text_kept k other = ap (λ l. text_at l k) set_is ∙ ap number_text (get_or-set_other texts at k n (record { bytes = [] }) other)

-- the texts of the first edges of a list are set
pub record AreSet (format : MeshFormat) (number first : ℕ) (edges : List ℕ) (old new : List Number) (count : ℕ) : Type 0 where
  pub set : (k : ℕ) → k < count → text_at new (first + get_or edges k 0) ≡ corner_text format (number + k)
  pub before : (i : ℕ) → i < first → text_at new i ≡ text_at old i
  pub behind : (i : ℕ) → first + 3078 ≤ i → text_at new i ≡ text_at old i

pub set_more : (format : MeshFormat) (number first : ℕ) (edges : List ℕ) (old texts new : List Number) (count : ℕ) (n : Number)
    → AreApart edges → count < length edges → get_or edges count 0 < 3078 → first + get_or edges count 0 < length texts
    → new ≡ set texts (first + get_or edges count 0) n → number_text n ≡ corner_text format (number + count)
    → AreSet format number first edges old texts count → AreSet format number first edges old new (count + 1)
set_more format number first edges old texts new count n apart low few here made is are =
    let at : ℕ = first + get_or edges count 0 in
    let kept : (k : ℕ) → ¬ (k ≡ at) → text_at new k ≡ text_at texts k = text_kept texts new at n here made in
    record {
      set = λ k within. elim (cases_lt k count) [
        | inl earlier ↦ kept (first + get_or edges k 0)
            (λ e. let same : get_or edges k 0 ≡ get_or edges count 0 = omega (arith, e) in omega (arith, apart.each k count (omega arith) low same, earlier))
            ∙ are.set k earlier
        | inr last ↦ (
            let same : k ≡ count = omega arith in
            ap (λ k. text_at new (first + get_or edges k 0)) same ∙ (text_set texts new at n here made ∙ (is ∙ ap (λ k. corner_text format (number + k)) (sym same))))
      ];
      before = λ i early. kept i (λ e. omega (arith, e, early)) ∙ are.before i early;
      behind = λ i late. kept i (λ e. omega (arith, e, late, few)) ∙ are.behind i late;
    }

-- the edges of a row stand apart
pub edges_apart : (v : Leveled) (y z : ℕ) (edges : List ℕ) → AreEdges v y z edges → AreApart edges
edges_apart v y z edges are = record {
  each = λ j k hj hk e.
      let a = edge_is v y z edges are j hj in
      let b = edge_is v y z edges are k hk in
      let same : rank v.grid (heights v) (3 * row_start v.grid y z + get_or edges j 0) ≡ rank v.grid (heights v) (3 * row_start v.grid y z + get_or edges k 0)
      = ap (λ e. rank v.grid (heights v) (3 * row_start v.grid y z + e)) e in
      omega (arith, same, a.rank_is, b.rank_is);
}

-- the text of a number is short
pub first_few : (format : MeshFormat) → first_of format ≤ 1
first_few Ply = omega arith
first_few Obj = omega arith
first_few Off = omega arith
first_few Vtk = omega arith

pub record IsBrief (text : List ℕ) : Type 0 where
  pub some : 1 ≤ length text
  pub few : length text ≤ 12

pub short_text : (format : MeshFormat) (n : ℕ) → n < 2 ^ 32 → IsBrief (corner_text format n)
short_text format n low =
    let first = first_few format in
    let digits : List ℕ = decimal (first_of format + n) in
    let k = length-decimal-le 11 (first_of format + n) (omega arith) (omega (arith, first, low)) (omega (arith, first, low)) in
    let all = length-append digits (32 ∷ []) in
    record { some = omega (arith, all); few = omega (arith, all, k) }

-- the numbers of the edges of a cell
module _ (v : Leveled) (q : ℕ) where
  abbrev number : ℕ → ℕ
  number e = rank v.grid (heights v) (cell_edge v.grid q e)

  abbrev pub numbers : List ℕ
  numbers = map number (below 12)

  pub numbers_are : AreNumbers v q numbers
  numbers_are e low = get_or-map-range_with_len number 0 12 e e 0 low (zero-add e)

-- the texts of the corners of a cell
module _ (v : Leveled) (is : IsGrid v.grid) (style : Style) (base : Numbering) (firsts : AreFirst base) (cell : Cell) (h : IsCellAt v.grid cell) (texts : List Number)
    (around : AreAround (text_at texts) (number_due style base v) v cell.low.y cell.low.z) where
  abbrev moved : ℕ → ℕ
  moved = renumbered base (edge_count v)

  abbrev pub slot : ℕ → ℕ
  slot c = corner_slot cell.low.y cell.low.z c + 3 * cell.low.x

  -- a corner has the text of a number
  pub record IsNumbered (c n : ℕ) : Type 0 where
    pub text : text_at texts (slot c) ≡ corner_text style.format n
    pub has : HasText texts (slot c)

  numbered_by : (c n : ℕ) → slot c < 15390 → n < 2 ^ 32 → text_at texts (slot c) ≡ corner_text style.format n → IsNumbered c n
  numbered_by c n low small text_is =
      let brief = subst IsBrief (sym text_is) (short_text style.format n small) in
      record { text = text_is; has = record { low = low; some = brief.some; few = brief.few } }

  module _ (e : ℕ) (low : e < 12) (c : crosses (cell_signs v.grid (heights v) cell.index) e ≡ true) where
    crossing : is_crossing v.grid (heights v) (cell_edge v.grid cell.index e) ≡ true
    crossing = (In-filter (is_crossing v.grid (heights v)) (cell_edge v.grid cell.index e) (below (name_bound v.grid)) (crossing_of_cell v.grid (heights v) cell.index e (cell_placed v.grid cell h).known low c)).1

    slot_is : corner_slot cell.low.y cell.low.z e ≡ edge_slot cell.low.y cell.low.z e
    slot_is = ap (λ b. if b then edge_slot cell.low.y cell.low.z e else 12300 + e) (lt-ltb e 12 low)

    number_low : base.first_edge + number v cell.index e < 2 ^ 32
    number_low =
        let count = is.count in
        omega (arith, firsts.edge, rank_low v.grid (heights v) (cell_edge v.grid cell.index e), edge_in v.grid cell.index e (cell_placed v.grid cell h).known low)

    -- it is one of the crossing edges
    number_in : number v cell.index e < edge_count v
    number_in =
        let all : 3 * (v.grid.nx * row_count v.grid) ≡ name_bound v.grid = size v.grid.nx v.grid.ny v.grid.nz in
        rank_before v.grid (heights v) (cell_edge v.grid cell.index e) (3 * (v.grid.nx * row_count v.grid))
        (omega (arith, all, edge_in v.grid cell.index e (cell_placed v.grid cell h).known low)) crossing
      where
        size : (x y z : ℕ) → 3 * (x * (y * z)) ≡ 3 * (x * y * z)
        size x y z = omega arith

    edge_numbered : IsNumbered e (base.first_edge + number v cell.index e)
    edge_numbered =
        numbered_by e (base.first_edge + number v cell.index e) (omega (arith, slot_is, slot_low cell.low.y cell.low.z e low, h.x, is.x.most)) number_low
        (ap (text_at texts) (ap (λ n. n + 3 * cell.low.x) slot_is) ∙ edge_laid _ _ v cell h around e low crossing)

  -- the centres, so many behind the first one of the mesh
  module _ (before count : ℕ) (few : count ≤ 4) (small : base.first_centre + before + 4 ≤ 2 ^ 32)
      (centres : (i : ℕ) → i < count → text_at texts (12312 + 3 * cell.low.x + i) ≡ corner_text style.format (base.first_centre + before + i)) where
    -- the numbers of the corners in the mesh, and those that they get
    abbrev pub named : ℕ → ℕ
    named = corner_number (numbers v cell.index) (edge_count v + before)

    centre_named : (c : ℕ) → 12 ≤ c → c < 12 + count → IsNumbered c (moved (named c))
    centre_named c from to =
        let slot_is : corner_slot cell.low.y cell.low.z c ≡ 12300 + c = ap (λ b. if b then edge_slot cell.low.y cell.low.z c else 12300 + c) (le-ltb c 12 from) in
        let there : slot c ≡ 12312 + 3 * cell.low.x + (c - 12) = omega (arith, slot_is, from) in
        let name : named c ≡ edge_count v + before + (c - 12) = ap (λ b. if b then get_or (numbers v cell.index) c 0 else edge_count v + before + (c - 12)) (le-ltb c 12 from) in
        let behind : edge_count v ≤ named c = omega (arith, name) in
        let gets : moved (named c) ≡ base.first_centre + (named c - edge_count v)
        = ap (λ b. if b then base.first_edge + named c else base.first_centre + (named c - edge_count v)) (le-ltb (named c) (edge_count v) behind) in
        let is_moved : base.first_centre + before + (c - 12) ≡ moved (named c) = omega (arith, gets, name) in
        subst (IsNumbered c) is_moved
        (numbered_by c (base.first_centre + before + (c - 12)) (omega (arith, slot_is, to, few, h.x, is.x.most)) (omega (arith, small, to, few, from))
        (ap (text_at texts) there ∙ centres (c - 12) (omega (arith, from, to))))

    edge_named : (e : ℕ) → e < 12 → crosses (cell_signs v.grid (heights v) cell.index) e ≡ true → IsNumbered e (moved (named e))
    edge_named e low c =
        let name : named e ≡ number v cell.index e
        = ap (λ b. if b then get_or (numbers v cell.index) e 0 else edge_count v + before + (e - 12)) (lt-ltb e 12 low) ∙ numbers_are v cell.index e low in
        let within : named e < edge_count v = omega (arith, name, number_in e low c) in
        let gets : moved (named e) ≡ base.first_edge + named e
        = ap (λ b. if b then base.first_edge + named e else base.first_centre + (named e - edge_count v)) (lt-ltb (named e) (edge_count v) within) in
        let is_moved : base.first_edge + number v cell.index e ≡ moved (named e) = omega (arith, gets, name) in
        subst (IsNumbered e) is_moved (edge_numbered e low c)

    module _ (n : ℕ) (case : n < 656) (same : row_loops n ≡ loops_at v cell.index) (all : count ≡ sum_by centres_of (row_loops n)) where
      loop_at : (i : ℕ) (d : List ℕ) → i < length (row_loops n) → get_or (row_loops n) i d ≡ get_or (loops_at v cell.index) i []
      loop_at i d low = get_or_default (row_loops n) i d [] low ∙ ap (λ l. get_or l i []) same

      low_at : (i : ℕ) → i < length (row_loops n) → i < length (loops_at v cell.index)
      low_at i low = subst (λ n. i < n) (ap length same) low

      each_edge : All (All (λ e. IsNumbered e (moved (named e)))) (row_loops n)
      each_edge i d low =
          let loop = loop_is v cell.index i (low_at i low) in
          let cross = loop_crosses v cell.index i (low_at i low) in
          subst (All (λ e. IsNumbered e (moved (named e)))) (sym (loop_at i d low)) (λ k d below. edge_named _ (loop.low k d below) (cross.each k d below))

      -- each corner of the triangles of the cell has the text of its number
      pub corners_named : All (All (λ c. IsNumbered c (moved (named c)))) (row_faces n)
      corners_named = corners_each (λ c. IsNumbered c (moved (named c))) n case each_edge (λ c from to. centre_named c from (omega (arith, to, all)))

row_slot_low : (y z : ℕ) → row_slot y z ≤ 9234
row_slot_low y z = omega arith

-- the texts of edges stay where those of centres are set
module _ (v : Leveled) (is : IsGrid v.grid) (at new : ℕ → List ℕ) (expected : ℕ → List ℕ) (same : (i : ℕ) → i < 12312 → new i ≡ at i) where
  laid_still : (y z : ℕ) → AreLaid at expected v y z → AreLaid new expected v y z
  laid_still y z laid = record { each = λ e low crossing. same (row_slot y z + e) (omega (arith, low, is.x.most, row_slot_low y z)) ∙ laid.each e low crossing }

  pub around_still : (y z : ℕ) → AreAround at expected v y z → AreAround new expected v y z
  around_still y z are = record {
    near = laid_still y z are.near;
    up = laid_still (y + 1) z are.up;
    far = laid_still y (z + 1) are.far;
    both = laid_still (y + 1) (z + 1) are.both;
  }

  pub ready_still : (row : ℕ) → IsReady at expected v row → IsReady new expected v row
  ready_still row ready = record {
    next = λ y z hy hz e.
        let both = ready.next y z hy hz e in
        record { near = laid_still y z both.near; far = laid_still y (z + 1) both.far };
  }
