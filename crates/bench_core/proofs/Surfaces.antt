-- The mesh of a volume at a level above its pad is watertight.
use Rattle.std.proofs.Common.{◌≡◌, ℕ, ◌<◌, Bool, true, false, cond, not, List, [], ◌∷◌, refl, sym, ◌∙◌, ap, subst, arith, ℤ, inl, inr}
use Rattle.std.specs.Prelude.{Option, Some, None, IfSome, length}
use Rattle.std.specs.List.{AllByRecursion}
use Rattle.std.proofs.lemmas.Bool.{cases_lt}
use Rattle.std.proofs.lemmas.List.{length-map}
use Rattle.iso_defs.specs.Cell.{Triangle}
use Rattle.iso_defs.specs.Grid.{Grid, IsBelowOutside}
use Rattle.iso_defs.specs.Manifold.{times_run, RunsMatch}
use Rattle.iso_defs.specs.Place.{Position}
use Rattle.iso_defs.specs.Scratch.{triangles, vertex_names, vertices}
use Rattle.iso_defs.specs.Verdict.{IsOrientedSurface, in_outer_plane}
use Rattle.iso_base.proofs.VolumeLaws.{grid_is_solid, grid_is_thick, pad_is_below}
use Rattle.iso_base.specs.Volume.{field, Volume, IsVolume}
use Rattle.iso_base.specs.Triangles.{IsBelow}
use Rattle.fan_laws.proofs.Ranks.{place_is_number}
use Rattle.mesh_laws.proofs.OneVertex.{one_vertex_per_crossing}
use Rattle.mesh_laws.proofs.Padded.{run_off_border}
use Rattle.mesh_laws.proofs.Sizes.{corners_low}
use Rattle.mesh_laws.proofs.Used.{oriented_surface}
use Rattle.triangle_laws.proofs.Lists.{In}
use Rattle.bench_core.specs.Machine.{IsAbovePad}
use Rattle.bench_core.specs.Surface.{IsWatertight}

-- a fact of each element of a list is one of the list
all_in : {A : Type 0} (P : A → Type 0) (xs : List A) → ((x : A) → In x xs → P x) → AllByRecursion P xs
all_in P [] each = tt
all_in P (x ∷ xs) each = (each x (inl refl), all_in P xs (λ y i. each y (inr i)))

-- how often an edge is run, and how often in the other direction
sides_of : (border : ℕ → ℕ → Bool) (ts : List Triangle) → RunsMatch border ts → (a b : ℕ) → 0 < times_run ts a b
    → (times_run ts a b ≡ 1) × (times_run ts b a ≡ cond {A = ℕ} (border a b) 0 1)
sides_of border ts match a b run = by (border a b) refl
  where
    by : (t : Bool) → border a b ≡ t → (times_run ts a b ≡ 1) × (times_run ts b a ≡ cond {A = ℕ} t 0 1)
    by true e = (let once = (match a b run).0 e in (omega (arith, once, run), omega (arith, once, run)))
    by false e = (match a b run).1 (ap not e)

-- where no edge that is run is in an outer plane, each is run as often in both directions
both_ways : (border : ℕ → ℕ → Bool) (ts : List Triangle) → RunsMatch border ts
    → ((a b : ℕ) → 0 < times_run ts a b → border a b ≡ false) → (a b : ℕ) → times_run ts a b ≡ times_run ts b a
both_ways border ts match inside a b =
    elim (cases_lt 0 (times_run ts a b)) [
      | inl run ↦ (let m = (match a b run).1 (ap not (inside a b run)) in m.0 ∙ sym m.1)
      | inr none ↦ elim (cases_lt 0 (times_run ts b a)) [
        | inl run ↦ (let m = (match b a run).1 (ap not (inside b a run)) in m.1 ∙ sym m.0)
        | inr nor ↦ omega (arith, none, nor)
      ]
    ]

pub watertight_of : (v : Volume) (level : ℤ) → IsVolume v → IsAbovePad v.pad level → IsWatertight v level
watertight_of v level is above = record {
  inside = all_in (IsBelow (length (vertex_names g s))) (triangles g s)
      (λ t i. subst (λ n. IsBelow n t) (sym names) (corners_low g s t i));
  places = λ i low. place_is_number g s i (subst (λ n. i < n) names low);
  crossings = λ n low. one_vertex_per_crossing g s n low;
  used = λ i low. surface.used i (subst (λ n. i < n) names low);
  corners = surface.manifold.corners;
  sides = sides_of (in_outer_plane g s) (triangles g s) surface.matched;
  fans = surface.manifold.fans;
  closed = by_pad v.pad refl;
}
  where
    g : Grid
    g = v.grid

    s : ℕ → ℤ
    s = field v.samples level

    names : length (vertex_names g s) ≡ length (vertices g s)
    names = length-map (vertices g s) (λ (v : ℕ × Position). v.0)

    surface : IsOrientedSurface g s
    surface = oriented_surface g s (grid_is_thick is.grid)

    by_pad : (pad : Option ℤ) → v.pad ≡ pad
        → IfSome pad (λ _. (a b : ℕ) → times_run (triangles g s) a b ≡ times_run (triangles g s) b a)
    by_pad None e = tt
    by_pad (Some pad) e =
        let below : IsBelowOutside g s = pad_is_below v level pad is e (subst (λ o. IsAbovePad o level) e above) in
        both_ways (in_outer_plane g s) (triangles g s) surface.matched
        (λ a b run. run_off_border g s a b (grid_is_solid is.grid) below run)
