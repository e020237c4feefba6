-- A mesh whose head and lines were put is written.
use Rattle.std.proofs.Common.{◌≡◌, ℕ, ◌+◌, ◌*◌, ◌^◌, ◌<◌, ◌≤◌, ◌++◌, List, [], length, Result, Ok, ◌∙◌, ap, ap₂, subst, arith}
use Rattle.iso_defs.specs.Grid.{point_count}
use Rattle.iso_defs.specs.Rows.{row_count}
use Rattle.iso_base.specs.declared.fault.Written.{Written}
use Rattle.byte_streams.specs.Seen.{Tape, Puts}
use Rattle.byte_streams.specs.declared.Failed.{Failed}
use Rattle.crossing_edges.specs.Flags.{rank}
use Rattle.flat_mesh.specs.Lattice.{IsLeveled, Leveled, heights}
use Rattle.flat_mesh.specs.Mesh.{mesh_of}
use Rattle.flat_mesh.proofs.FirstNumbers.{rank_low}
use Rattle.mesh_lines.specs.Blocks.{Adds, Gathered, IsBehind, counted}
use Rattle.mesh_lines.specs.Lines.{head_of, text_of, written_of}
use Rattle.mesh_lines.specs.declared.style.Style.{Style}
use Rattle.mesh_rows.specs.Counts.{AreCounts}
use Rattle.mesh_rows.specs.declared.counts.Counts.{Counts}
use Rattle.mesh_walk.specs.Spans.{lines_text}
use Rattle.mesh_walk.proofs.Adding.{adds_as, adds_behind, adds_both}
use Rattle.mesh_walk.proofs.MeshText.{triangle_count, vertex_count, whole_text}

abbrev nothing : Gathered
nothing = record { waiting = []; page = 0; total = 0 }

abbrev of : ℕ → ℕ → ℕ → Written
of vertices faces bytes = record { vertices = vertices; faces = faces; bytes = bytes }

same_written : (a a' b b' c c' : ℕ) → a ≡ a' → b ≡ b' → c ≡ c' → of a b c ≡ of a' b' c'
same_written a a' b b' c c' p q r = ap (λ n. of n b c) p ∙ (ap (λ n. of a' n c) q ∙ ap (λ n. of a' b' n) r)

module _ (v : Leveled) (is : IsLeveled v) (style : Style) (total : ℕ) (counts : Counts)
    (all : total ≡ rank v.grid (heights v) (3 * (v.grid.nx * row_count v.grid))) (are : AreCounts v (v.grid.nx * row_count v.grid) counts) where
  abbrev text : List ℕ
  text = text_of style (mesh_of v.grid (heights v))

  points_few : v.grid.nx * row_count v.grid ≤ 160000000
  points_few =
      let c : v.grid.nx * row_count v.grid ≡ point_count v.grid = omega arith in
      let few = is.grid.count in
      omega arith

  -- the numbers of vertices fit
  pub vertices_fit : total + counts.centres < 2 ^ 32
  vertices_fit =
      let low : rank v.grid (heights v) (3 * (v.grid.nx * row_count v.grid)) ≤ 3 * (v.grid.nx * row_count v.grid) = rank_low v.grid (heights v) (3 * (v.grid.nx * row_count v.grid)) in
      let few = are.few_centres in
      omega (arith, all, points_few)

  -- the head and the lines are the text
  head_and_lines : head_of style.format (total + counts.centres) counts.faces ++ lines_text style v counts.faces ≡ text
  head_and_lines =
      ap₂ (λ a b. head_of style.format a b ++ lines_text style v b) (vertex_count v total counts.centres all are.centres) (triangle_count v counts.faces are.faces)
      ∙ whole_text v style

  -- they were put one after the other
  pub all_put : {T : Type 0} (t0 t1 : Tape) (b0 b1 b2 : Gathered) (r : Result T Failed) → b0 ≡ nothing → IsBehind b0 b1 (head_of style.format (total + counts.centres) counts.faces)
      → Adds t0 t1 b1 b2 r (lines_text style v counts.faces) → Adds t0 t1 nothing b2 r text
  all_put t0 t1 b0 b1 b2 r e put lines =
      adds_as t0 t1 nothing b2 r _ _ head_and_lines
      (adds_both t0 t0 t1 nothing b1 b2 tt r (head_of style.format (total + counts.centres) counts.faces) (lines_text style v counts.faces)
      (adds_behind t0 nothing b1 (tt {0}) (head_of style.format (total + counts.centres) counts.faces) (subst (λ b. IsBehind b b1 (head_of style.format (total + counts.centres) counts.faces)) e put))
      lines)

  -- what was counted is what was written
  pub written_is : (bytes : ℕ) → counted bytes ≡ counted (0 + length text) → bytes ≤ 512 + 3520 * (v.grid.nx * row_count v.grid) → of (total + counts.centres) counts.faces bytes ≡ written_of style (mesh_of v.grid (heights v))
  written_is bytes c few =
      same_written _ _ _ _ _ _ (vertex_count v total counts.centres all are.centres) (triangle_count v counts.faces are.faces) (exact bytes (length text) (v.grid.nx * row_count v.grid) c few points_few)
    where
      exact : (a b n : ℕ) → counted a ≡ counted (0 + b) → a ≤ 512 + 3520 * n → n ≤ 160000000 → a ≡ b
      exact a b n c few most = omega arith

-- another value in the answer
pub puts_with : {T U E : Type 0} (t0 t1 : Tape) (x : T) (y : U) (bytes : List ℕ) → Puts {E = E} t0 t1 (Ok x) bytes → Puts {E = E} t0 t1 (Ok y) bytes
puts_with t0 t1 x y bytes p = record { gained = p.gained; beside = p.beside; cause = record { later = p.cause.later; failed = tt } }
