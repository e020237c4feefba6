-- Windows of a volume, and what a call that writes one does.
use Rattle.std.proofs.Common.{◌≡◌, ℕ, List, Result, Ok, Err, inr, refl, ap, ◌∙◌, subst, arith, ℤ}
use Rattle.std.specs.Prelude.{Option, Some, None, IsSomeAnd, OnOk}
use Rattle.iso_defs.specs.Grid.{Grid}
use Rattle.iso_base.specs.Points.{IsPoint}
use Rattle.iso_base.specs.Volume.{field, Volume}
use Rattle.iso_base.specs.declared.point.Point.{Point}
use Rattle.iso_base.specs.declared.fault.BenchFault.TheVariants as faults
use Rattle.iso_base.specs.declared.fault.Written.{Written}
use Rattle.iso_base.specs.declared.format.MeshFormat.{MeshFormat}
use Rattle.byte_streams.specs.declared.Failed.{Failed}
use Rattle.iso_io.specs.Shelves.{Store, Stores, FilesCut, with_file}
use Rattle.voxel_list.specs.Areas.{Area}
use Rattle.flat_mesh.specs.Lattice.{Leveled, heights}
use Rattle.iso_defs.specs.MeshLists.{FlatMesh}
use Rattle.flat_mesh.specs.Mesh.{mesh_of}
use Rattle.mesh_more.specs.Texts.{moved_text}
use Rattle.window_mesh.specs.Crops.{IsWindowOfMesh, window_of}
use Rattle.window_mesh.specs.Views.{InBox, boxed_list}
use Rattle.mesh_lines.specs.Lines.{text_of, written_of}
use Rattle.mesh_lines.specs.declared.style.Origin.TheVariants.{Window}
use Rattle.mesh_lines.specs.declared.style.Style.{Style}
use Rattle.mesh_lines.proofs.Texts as lines
use Rattle.unpadded_volume.specs.Unpadded.{IsInside}
use Rattle.bench_core.specs.Windows.{WritesWindow, inner_corner, mesh_in, numbers_with, text_at, thin_fault, window_fault, window_text, window_written}

-- a point off the pad's layer is one of the grid
pub inside_point : (v : Volume) (p : Point) → IsInside v p → IsPoint v.grid p
inside_point v p is =
    let hx = is.high_x in
    let hy = is.high_y in
    let hz = is.high_z in
    record { x = omega arith; y = omega arith; z = omega arith }

-- a box that is thick is a window
pub no_fault : (a : Area) (axis : Option ℕ) → axis ≡ None → thin_fault (window_of a).grid axis ≡ None
no_fault a axis e = ap (thin_fault (window_of a).grid) e

-- the mesh over the samples of a box is that of the box
pub mesh_over : (v : Volume) (level : ℤ) (a : Area) (b : InBox) (sizes : Grid) (m : Leveled) → b ≡ record { volume = v; window = window_of a } → sizes ≡ b.window.grid
    → m ≡ record { grid = sizes; samples = boxed_list b; level = level } → mesh_of m.grid (heights m) ≡ mesh_in v level a
mesh_over v level a b sizes m box grid made =
    ap (λ (m : Leveled). mesh_of m.grid (heights m)) made ∙ ap (λ g. mesh_of g (field (boxed_list b) level)) grid
    ∙ ap (λ (b : InBox). mesh_of b.window.grid (field (boxed_list b) level)) box

module _ (v : Volume) (level : ℤ) (a : Area) (format : MeshFormat) (at : Point) (m : FlatMesh)
    (mesh : m ≡ mesh_in v level a) (corner : (at.x, at.y, at.z) ≡ inner_corner v a) where
  abbrev style : Style
  style = record { format = format; origin = Window at }

  moved_is : text_of style m ≡ text_at v a format m
  moved_is = lines.window_text at m format ∙ ap (λ by. moved_text format by m.vertex_list m.triangle_list) corner

  text_is : text_of style m ≡ window_text v level (Some a) format
  unfolding window_text
  text_is = moved_is ∙ ap (text_at v a format) mesh

  written_is : written_of style m ≡ window_written v level (Some a) format
  unfolding window_written
  written_is = ap (numbers_with m) moved_is ∙ ap (λ (m : FlatMesh). numbers_with m (text_at v a format m)) mesh

  -- the mesh was written as a file
  pub window_filed : (old new : Store) (w : Written) (name : List ℕ) → window_fault (Some a) ≡ None
      → Stores {E = Failed} old new (Ok w) name (text_of style m) → w ≡ written_of style m → WritesWindow v level (Some a) format old new (Ok w) name
  window_filed old new w name none is e = record {
    window = none;
    numbers = e ∙ written_is;
    file = is.changed ∙ ap (λ (l : List ℕ). with_file name l old.files) text_is;
    fault = tt;
    later = is.cause.later;
  }

  -- or it was not
  pub window_cut : (old new : Store) (e : Failed) (name : List ℕ) → window_fault (Some a) ≡ None
      → Stores {T = Written} old new (Err e) name (text_of style m) → WritesWindow v level (Some a) format old new (Err faults.ShelfFailed) name
  window_cut old new e name none is = record {
    window = tt;
    numbers = tt;
    file = tt;
    fault = inr (none, inr (refl, subst (λ (l : List ℕ). FilesCut name l old.files new.files) text_is is.changed, is.cause.failed));
    later = is.cause.later;
  }

-- the mesh of a box of a bench's volume is the part of the whole mesh in it
pub part_in_box : {T E : Type 0} (r : Result T E) (v u : Volume) (level at : ℤ) (box : Option Area) (a : Area) → v ≡ u → level ≡ at → Some a ≡ box
    → OnOk r (IsWindowOfMesh v level a) → OnOk r (IsSomeAnd box (IsWindowOfMesh u at))
part_in_box r v u level at box a e f h is =
    subst (λ box. OnOk r (IsSomeAnd box (IsWindowOfMesh u at))) h
    (subst (λ (u : Volume). OnOk r (IsWindowOfMesh u at a)) e (subst (λ at. OnOk r (IsWindowOfMesh v at a)) f is))
