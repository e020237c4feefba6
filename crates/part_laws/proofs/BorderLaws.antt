-- The measures of the mesh of a volume: its parts without border.
use Rattle.std.proofs.Common.{◌≡◌, ℕ, List, [], ◌∷◌, map, length, refl, sym, subst, inl, inr, All, ℤ, Result, IfOk}
use Rattle.std.specs.List.{AllByRecursion}
use Rattle.std.proofs.lemmas.Result.{IfOk-weaker}
use Rattle.std.proofs.lemmas.List.Elements.{All-from_recursion}
use Rattle.iso_defs.specs.Cell.{Triangle}
use Rattle.iso_defs.specs.Grid.{Grid}
use Rattle.iso_defs.specs.Manifold.{HasThreeCorners}
use Rattle.iso_defs.specs.Scratch.{triangles, vertices}
use Rattle.iso_base.specs.Volume.{field, IsVolume, Volume}
use Rattle.iso_base.specs.Triangles.{IsBelow}
use Rattle.iso_base.proofs.VolumeLaws.{grid_is_solid, pad_is_below}
use Rattle.iso_defs.specs.Verdict.{IsVerdict, border_count}
use Rattle.iso_defs.specs.Verdict.Verdict.{Closed}
use Rattle.triangle_laws.proofs.Lists.{In}
use Rattle.mesh_laws.proofs.Padded.{closed}
use Rattle.mesh_laws.proofs.Sizes.{corners_low}
use Rattle.mesh_laws.proofs.Surfaces.{manifold}
use Rattle.fan_laws.specs.Padded.{HasPadBelow}
use Rattle.mesh_report.specs.Report.{components}
use Rattle.measure_laws.specs.Vectors.{Vector}
use Rattle.measure.specs.declared.share.Share.{Share}
use Rattle.measure.specs.Measures.{HasNoArea, measures_of, share_of}
use Rattle.measure.proofs.ClosedLaws.{no_border}
use Rattle.measure.proofs.TheoremLaws.{areas_cancel, volumes_stay}
use Rattle.part_laws.specs.Printed.{HasNoBorder, HasOneVolumeIn, measures_at, position_in}

-- what holds of the measures holds of a result that is these
pub of_measures : {E : Type 0} (r : Result (List Share) E) (measures : List Share) (P : List Share → Type 0) → P measures → IfOk r (λ m. m ≡ measures) → IfOk r P
of_measures r measures P p h = IfOk-weaker r (λ m. m ≡ measures) P (λ m e. subst P (sym e) p) h

-- the corners of the triangles are numbers of vertices
corners_below : (g : Grid) (s : ℕ → ℤ) → AllByRecursion (IsBelow (length (vertices g s))) (triangles g s)
corners_below g s = go (triangles g s) (λ t i. corners_low g s t i)
  where
    go : (us : List Triangle) → ((t : Triangle) → In t us → IsBelow (length (vertices g s)) t) → AllByRecursion (IsBelow (length (vertices g s))) us
    go [] h = tt
    go (t ∷ us) h = (h t (inl refl), go us (λ u i. h u (inr i)))

-- a part of a mesh without border edges has none
no_borders : (n : ℕ) (ts : List Triangle) (at : ℕ → Vector) → AllByRecursion HasThreeCorners ts → border_count ts ≡ 0 → All HasNoBorder (measures_of n ts at)
unfolding share_of
no_borders n ts at d none = All-from_recursion HasNoBorder (measures_of n ts at) (go (components n ts))
  where
    one : (k : ℕ) → HasNoBorder (share_of n ts at k)
    one k = no_border n ts d none k

    go : (ks : List ℕ) → AllByRecursion HasNoBorder (map (share_of n ts at) ks)
    go [] = tt
    go (k ∷ ks) = (one k, go ks)

module _ (v : Volume) (level : ℤ) where
  -- the mesh is a manifold, so the parts without border have no area
  pub areas_are_none : All HasNoArea (measures_at v level)
  unfolding measures_at
  areas_are_none =
      let s : ℕ → ℤ = field v.samples level in
      areas_cancel (length (vertices v.grid s)) (triangles v.grid s) (corners_below v.grid s) (position_in v level) (manifold v.grid s)

  -- and one volume from every point
  pub volumes_are_one : All (HasOneVolumeIn v level) (measures_at v level)
  unfolding measures_at
  volumes_are_one =
      let s : ℕ → ℤ = field v.samples level in
      volumes_stay (length (vertices v.grid s)) (triangles v.grid s) (corners_below v.grid s) (position_in v level) (manifold v.grid s)

  -- with a pad below the level no part has a border
  pub borders_are_none : IsVolume v → HasPadBelow v level → All HasNoBorder (measures_at v level)
  unfolding measures_at
  borders_are_none is pad =
      let s : ℕ → ℤ = field v.samples level in
      let verdict : IsVerdict (triangles v.grid s) Closed = closed v.grid s (grid_is_solid is.grid) (pad_is_below v level pad.0 is pad.1 pad.2) in
      no_borders (length (vertices v.grid s)) (triangles v.grid s) (position_in v level) (manifold v.grid s).corners verdict.1
