-- How many centres and triangles the cells of entries have.
use Rattle.std.proofs.Common.{◌≡◌, ◌∙◌, refl, sym, ap, ap₂, subst, arith, ℕ, zero, suc, ◌+◌, ◌*◌, ◌%◌, ◌<◌, ◌≤◌}
use Rattle.std.proofs.Common.{All, Bool, true, false, cond, List, [], ◌∷◌, length, get_or, drop, take}
use Rattle.std.proofs.lemmas.List.{drop_all}
use Rattle.std.proofs.lemmas.List.Elements.{All-cons, All-nil}
use Rattle.std.proofs.lemmas.List.Sums.{sum_by-drop_more, sum_by-le, sum_by-take-drop}
use Rattle.iso_defs.specs.Bricks.{entries}
use Rattle.brick_mesh.specs.Block.{BrickAt, heights}
use Rattle.brick_mesh.specs.Entries.{entries_from, entry_of}
use Rattle.brick_mesh.proofs.Runs.{entries_all, entries_few, is_active_in}
use Rattle.cell_loops.specs.Loops.{row_centres, row_triangles}
use Rattle.cell_loops.proofs.Shapes.{centre_bound, centres_at, few_triangles}
use Rattle.brick_rows.specs.Named.{centres_of_entries, triangles_of_entries}
use Rattle.mesh_rows.specs.declared.counts.Counts.{Counts}
use Rattle.cached_mesh.proofs.EntryRuns.{none, small, step}

-- none
no_centres : centres_of_entries [] ≡ 0
unfolding centres_of_entries
no_centres = refl

no_triangles : triangles_of_entries [] ≡ 0
unfolding triangles_of_entries
no_triangles = refl

pub none_left : (es : List ℕ) → length es ≡ 0 → (centres_of_entries es ≡ 0) × (triangles_of_entries es ≡ 0)
none_left [] none = (no_centres, no_triangles)
none_left (e ∷ es) none = absurd (omega (arith, none))

-- counts that have these numbers
pub same_counts : (a b : Counts) → a.centres ≡ b.centres → a.faces ≡ b.faces → a ≡ b
same_counts a b centres faces = ap₂ pair centres faces
  where
    pair : ℕ → ℕ → Counts
    pair centres faces = record { centres = centres; faces = faces }

module _ (es : List ℕ) (n : ℕ) where
  -- the first of the entries that are left
  pub centres_next : n < length es
      → centres_of_entries (drop n es) ≡ length (row_centres (get_or es n 0 % 1024)) + centres_of_entries (drop (n + 1) es)
  unfolding centres_of_entries
  centres_next low = sum_by-drop_more (λ e. length (row_centres (e % 1024))) es n 0 low

  pub triangles_next : n < length es
      → triangles_of_entries (drop n es) ≡ length (row_triangles (get_or es n 0 % 1024)) + triangles_of_entries (drop (n + 1) es)
  unfolding triangles_of_entries
  triangles_next low = sum_by-drop_more (λ e. length (row_triangles (e % 1024))) es n 0 low

  -- none is left
  pub centres_end : length es ≤ n → centres_of_entries (drop n es) ≡ 0
  centres_end all = ap centres_of_entries (drop_all n es all) ∙ no_centres

  pub triangles_end : length es ≤ n → triangles_of_entries (drop n es) ≡ 0
  triangles_end all = ap triangles_of_entries (drop_all n es all) ∙ no_triangles

  -- a front of them, and the rest
  pub centres_rest : centres_of_entries (take n es) + centres_of_entries (drop n es) ≡ centres_of_entries es
  unfolding centres_of_entries
  centres_rest = sum_by-take-drop (λ e. length (row_centres (e % 1024))) es n

  pub triangles_rest : triangles_of_entries (take n es) + triangles_of_entries (drop n es) ≡ triangles_of_entries es
  unfolding triangles_of_entries
  triangles_rest = sum_by-take-drop (λ e. length (row_triangles (e % 1024))) es n

-- each has few of them
module _ (es : List ℕ) (cases : All (λ e. e % 1024 < 656) es) where
  pub few_centres : centres_of_entries es ≤ length es * 4
  unfolding centres_of_entries
  few_centres =
      sum_by-le (λ e. length (row_centres (e % 1024))) 4 es
      (λ k d low. subst (λ n. n ≤ 4) (centres_at (get_or es k d % 1024) (cases k d low)) (centre_bound (get_or es k d % 1024)))

  pub few_faces : triangles_of_entries es ≤ length es * 12
  unfolding triangles_of_entries
  few_faces = sum_by-le (λ e. length (row_triangles (e % 1024))) 12 es (λ k d low. few_triangles (get_or es k d % 1024) (cases k d low))

module _ (b : BrickAt) where
  cases_from : (first n : ℕ) → All (λ e. e % 1024 < 656) (entries_from b first n)
  cases_from first zero = subst (All (λ e. e % 1024 < 656)) (sym (none b first)) (All-nil (λ e. e % 1024 < 656))
  cases_from first (suc n) =
      subst (All (λ e. e % 1024 < 656)) (sym (step b first n)) (by_test (cases_from (first + 1) n) (is_active_in b first))
    where
      by_test : All (λ e. e % 1024 < 656) (entries_from b (first + 1) n)
          → (t : Bool) → All (λ e. e % 1024 < 656) (cond t (entry_of b first ∷ entries_from b (first + 1) n) (entries_from b (first + 1) n))
      by_test later true = All-cons (λ e. e % 1024 < 656) (entry_of b first) (entries_from b (first + 1) n) (omega (arith, small b first)) later
      by_test later false = later

  module _ (all : List ℕ) (is : all ≡ entries b.grid (heights b) b.brick) where
    -- the entries of a brick are of cases
    pub are_cases : All (λ e. e % 1024 < 656) all
    are_cases = subst (All (λ e. e % 1024 < 656)) (sym (is ∙ sym (entries_all b))) (cases_from 0 512)

    -- and no more than it has cells
    pub few_entries : length all ≤ 512
    few_entries = subst (λ es. length es ≤ 512) (sym (is ∙ sym (entries_all b))) (entries_few b 0 512)
