-- The lines of the centres of a row of cells, loop by loop.
use Rattle.std.proofs.Common.{◌≡◌, ℕ, zero, suc, ◌+◌, ◌-◌, ◌<◌, ◌≤◌, Bool, true, List, [], ◌∷◌, ◌++◌, All, map, length, drop, get_or, take, refl, sym, ◌∙◌, ap, ap₂, subst, arith, inl, inr, append-nil}
use Rattle.std.specs.List.{enumerate_from, filter, flat_map, range_with_len}
use Rattle.std.proofs.lemmas.Bool.{cases_lt}
use Rattle.std.proofs.lemmas.List.{get_or-map, length-map, take-append-drop, take_more}
use Rattle.std.proofs.lemmas.List.Concat.{flat_map-append}
use Rattle.std.proofs.lemmas.List.Elements.{All-append, All-filter, All-map, All-nil}
use Rattle.iso_defs.specs.Grid.{is_cell}
use Rattle.iso_defs.specs.Cell.{cell_edge}
use Rattle.iso_defs.specs.Place.{centre_position}
use Rattle.iso_defs.specs.Scratch.{cell_loops, centre_name, has_centre}
use Rattle.cell_loops.specs.Loops.{IsLoop}
use Rattle.flat_mesh.specs.Faces.{AllCross, loops_at}
use Rattle.flat_mesh.specs.Lattice.{Leveled, heights}
use Rattle.flat_mesh.specs.Rows.{row_start}
use Rattle.flat_mesh.proofs.Loops.{loop_crosses, loop_is}
use Rattle.mesh_laws.proofs.Cells.{range_at_least}
use Rattle.triangle_laws.proofs.Lists.{In, In-filter}
use Rattle.mesh_lines.specs.Lines.{vertex_line}
use Rattle.mesh_lines.specs.declared.style.Style.{Style}
use Rattle.mesh_rows.specs.Counts.{span}
use Rattle.case_faces.specs.Fans.{fan_numbers, fan_of}
use Rattle.mesh_walk.specs.Fans.{AreFans, by_numbers, cell_fans, row_fans, seen}
use Rattle.mesh_walk.specs.declared.centres.RowFan.{RowFan}
use Rattle.mesh_walk.specs.Spans.{centre_line, centre_lines, centres_text}
use Rattle.mesh_walk.proofs.AnyName.{any_name}
use Rattle.mesh_walk.proofs.CellRuns.{last_point}
use Rattle.mesh_walk.proofs.RowFans.{quiet_cell}

-- their lines, under any name
abbrev fan_line : Style → Leveled → ℕ → ℕ × List ℕ → List ℕ
fan_line style v start l = centre_line style v (start + l.0) l.1 0

unfoldable pub fan_lines : Style → Leveled → ℕ → List (ℕ × List ℕ) → List ℕ
fan_lines style v start ls = flat_map (fan_line style v start) ls

pub no_fan_lines : (style : Style) (v : Leveled) (start : ℕ) (ls : List (ℕ × List ℕ)) → [] ≡ fan_lines style v start (take 0 ls)
unfolding fan_lines
no_fan_lines style v start ls = refl

pub one_fan_line : (style : Style) (v : Leveled) (start k : ℕ) (ls : List (ℕ × List ℕ)) → k < length ls
    → fan_lines style v start (take (k + 1) ls) ≡ fan_lines style v start (take k ls) ++ centre_line style v (start + (get_or ls k (0, [])).0) (get_or ls k (0, [])).1 0
unfolding fan_lines
one_fan_line style v start k ls low =
    ap (flat_map (fan_line style v start)) (take_more ls k (0, []) low)
    ∙ (flat_map-append (fan_line style v start) (take k ls) (get_or ls k (0, []) ∷ [])
    ∙ ap (λ l. flat_map (fan_line style v start) (take k ls) ++ l) (append-nil (fan_line style v start (get_or ls k (0, [])))))

-- those of some and of the rest
pub cut_lines : (style : Style) (v : Leveled) (start k : ℕ) (ls : List (ℕ × List ℕ)) → fan_lines style v start ls ≡ (fan_lines style v start (take k ls) ++ []) ++ fan_lines style v start (drop k ls)
unfolding fan_lines
cut_lines style v start k ls =
    ap (flat_map (fan_line style v start)) (sym (take-append-drop k ls))
    ∙ (flat_map-append (fan_line style v start) (take k ls) (drop k ls)
    ∙ ap (λ l. l ++ flat_map (fan_line style v start) (drop k ls)) (sym (append-nil (flat_map (fan_line style v start) (take k ls)))))

-- lines of lists in a run
flat_span : {X Y : Type 0} (g : X → List Y) (f : ℕ → List X) (p : ℕ → Bool) (h : ℕ → List Y) (a n : ℕ)
    → ((q : ℕ) → a ≤ q → q < a + n → p q ≡ true → flat_map g (f q) ≡ h q) → flat_map g (span f p a n) ≡ span h p a n
unfolding span
flat_span {X = X} {Y = Y} g f p h a n each = lists (filter p (range_with_len a n)) (λ q i.
    let r : In q (range_with_len a n) × (p q ≡ true) = In-filter p q (range_with_len a n) i in
    let b : (a ≤ q) × (q < a + n) = range_at_least a n q r.0 in
    each q b.0 b.1 r.1)
  where
    lists : (qs : List ℕ) → ((q : ℕ) → In q qs → flat_map g (f q) ≡ h q) → flat_map g (flat_map f qs) ≡ flat_map h qs
    lists [] each = refl
    lists (q ∷ qs) each = flat_map-append g (f q) (flat_map f qs) ∙ ap₂ ◌++◌ (each q (inl refl)) (lists qs (λ r i. each r (inr i)))

all_span : {X : Type 0} (P : X → Type 0) (f : ℕ → List X) (p : ℕ → Bool) (a n : ℕ)
    → ((q : ℕ) → a ≤ q → q < a + n → p q ≡ true → All P (f q)) → All P (span f p a n)
unfolding span
all_span {X = X} P f p a n each = lists (filter p (range_with_len a n)) (λ q i.
    let r : In q (range_with_len a n) × (p q ≡ true) = In-filter p q (range_with_len a n) i in
    let b : (a ≤ q) × (q < a + n) = range_at_least a n q r.0 in
    each q b.0 b.1 r.1)
  where
    lists : (qs : List ℕ) → ((q : ℕ) → In q qs → All P (f q)) → All P (flat_map f qs)
    lists [] each = All-nil P
    lists (q ∷ qs) each = All-append P (f q) (flat_map f qs) (each q (inl refl)) (lists qs (λ r i. each r (inr i)))

-- they are those of the centres of a cell
cell_lines : (style : Style) (v : Leveled) (start q : ℕ) → start ≤ q → flat_map (fan_line style v start) (cell_fans v start q) ≡ centre_lines style v q
unfolding cell_fans centre_lines
cell_lines style v start q from = lists (filter has_centre (cell_loops v.grid (heights v) q))
  where
    here : start + (q - start) ≡ q
    here = omega (arith, from)

    lists : (ls : List (ℕ × List ℕ))
        → flat_map (fan_line style v start) (map (λ (l : ℕ × List ℕ). (q - start, l.1)) ls)
        ≡ flat_map (vertex_line style) (map (λ (l : ℕ × List ℕ). (centre_name v.grid q l.0, centre_position v.grid (heights v) (map (cell_edge v.grid q) l.1))) ls)
    lists [] = refl
    lists (l ∷ ls) = ap₂ ◌++◌ (ap (λ q. centre_line style v q l.1 0) here ∙ any_name style 0 (centre_name v.grid q l.0) _) (lists ls)

pub row_lines : (style : Style) (v : Leveled) (start n : ℕ) → fan_lines style v start (row_fans v start n) ≡ centres_text style v start n
unfolding fan_lines
row_lines style v start n =
    flat_span (fan_line style v start) (cell_fans v start) (is_cell v.grid) (centre_lines style v) start n (λ q least most is. cell_lines style v start q least)

-- a loop with a centre of a row
pub record IsFan (v : Leveled) (start : ℕ) (l : ℕ × List ℕ) : Type 0 where
  pub x : l.0 + 1 < v.grid.nx
  pub shape : IsLoop l.1
  pub crossing : AllCross v (start + l.0) l.1

good_cell : (v : Leveled) (start x : ℕ) → x + 1 < v.grid.nx → All (IsFan v start) (cell_fans v start (start + x))
unfolding cell_fans loops_at
good_cell v start x within =
    All-map (IsFan v start) (λ (l : ℕ × List ℕ). (start + x - start, l.1)) (filter has_centre (cell_loops v.grid (heights v) (start + x)))
    (All-filter has_centre (λ (l : ℕ × List ℕ). IsFan v start (start + x - start, l.1)) (cell_loops v.grid (heights v) (start + x))
    (numbered 0 (loops_at v (start + x)) (λ k low. loop_is v (start + x) k low) (λ k low. loop_crosses v (start + x) k low)))
  where
    far : start + x ≡ start + (start + x - start)
    far = omega arith

    numbered : (n : ℕ) (ls : List (List ℕ)) → ((k : ℕ) → k < length ls → IsLoop (get_or ls k [])) → ((k : ℕ) → k < length ls → AllCross v (start + x) (get_or ls k []))
        → All (λ (l : ℕ × List ℕ). IsFan v start (start + x - start, l.1)) (enumerate_from n ls)
    numbered n [] loops crossing k d low = absurd (omega (arith, low))
    numbered n (l ∷ ls) loops crossing zero d low = record {
      x = omega (arith, within);
      shape = loops 0 (omega arith);
      crossing = subst (λ q. AllCross v q l) far (crossing 0 (omega arith));
    }
    numbered n (l ∷ ls) loops crossing (suc k) d low =
        numbered (n + 1) ls (λ j less. loops (suc j) (omega (arith, less))) (λ j less. crossing (suc j) (omega (arith, less))) k d (omega (arith, low))

pub good_row : (v : Leveled) (y z : ℕ) → y < v.grid.ny → z < v.grid.nz → All (IsFan v (row_start v.grid y z)) (row_fans v (row_start v.grid y z) v.grid.nx)
good_row v y z hy hz =
    let start : ℕ = row_start v.grid y z in
    all_span (IsFan v start) (cell_fans v start) (is_cell v.grid) start v.grid.nx (λ q least most is.
    let back : start + (q - start) ≡ q = omega (arith, least) in
    elim (cases_lt (q - start + 1) v.grid.nx) [
      | inl within ↦ subst (λ q. All (IsFan v start) (cell_fans v start q)) back (good_cell v start (q - start) within)
      | inr last ↦ subst (All (IsFan v start)) (sym (quiet_cell v start q ((last_point v y z (omega (arith, last, least, most)) hy hz).none q (omega (arith, last, least)) (omega (arith, least, most)) is))) (All-nil _)
    ])

-- a loop that is listed is one of these
pub record IsListed (v : Leveled) (start : ℕ) (f : RowFan) (l : ℕ × List ℕ) : Type 0 where
  pub x : f.x ≡ l.0
  pub numbers : fan_numbers f.fan ≡ fan_of l.1
  pub good : IsFan v start l

module _ (v : Leveled) (y z : ℕ) (hy : y + 1 < v.grid.ny) (hz : z + 1 < v.grid.nz) (fans : List RowFan) (are : AreFans v y z fans) where
  abbrev pub all : List (ℕ × List ℕ)
  all = row_fans v (row_start v.grid y z) v.grid.nx

  pub fan_count : length all ≡ length fans
  fan_count = sym (length-map all by_numbers) ∙ (sym (ap length are.are) ∙ length-map fans seen)

  pub listed : (k : ℕ) (d : RowFan) → k < length fans → IsListed v (row_start v.grid y z) (get_or fans k d) (get_or all k (0, []))
  listed k d low =
      let within : k < length all = omega (arith, fan_count, low) in
      let same : seen (get_or fans k d) ≡ by_numbers (get_or all k (0, []))
      = sym (get_or-map seen fans k d (seen d) low) ∙ (ap (λ l. get_or l k (seen d)) are.are ∙ get_or-map by_numbers all k (0, []) (seen d) within) in
      record {
        x = ap (λ (p : ℕ × List ℕ). p.0) same;
        numbers = ap (λ (p : ℕ × List ℕ). p.1) same;
        good = good_row v y z (omega (arith, hy)) (omega (arith, hz)) k (0, []) within;
      }
