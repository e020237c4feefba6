-- The text of the mesh of a volume in a style is that from scratch.
use Rattle.std.proofs.Common.{◌≡◌, ℕ, Bool, true, false, List, ℤ, Result, IfOk, refl, ◌∙◌, ap, subst}
use Rattle.iso_defs.specs.Texts.{scratch_ply}
use Rattle.iso_base.specs.Volume.{field, Volume}
use Rattle.iso_base.specs.declared.fault.Written.{Written}
use Rattle.iso_base.specs.declared.format.MeshFormat.{MeshFormat}
use Rattle.iso_base.specs.declared.format.MeshFormat.TheVariants.{Ply, Obj}
use Rattle.byte_streams.specs.Seen.{Puts, Tape}
use Rattle.flat_mesh.specs.Lattice.{Leveled, heights}
use Rattle.iso_defs.specs.MeshLists.{FlatMesh}
use Rattle.flat_mesh.specs.Mesh.{mesh_of}
use Rattle.mesh_lines.specs.declared.style.Origin.{Origin}
use Rattle.mesh_lines.specs.declared.style.Style.{Style}
use Rattle.mesh_lines.specs.Lines.{text_of, written_of}
use Rattle.mesh_lines.proofs.Texts.{pad_obj, pad_ply, volume_obj, volume_ply}
use Rattle.mesh_lines.specs.Padded.{obj_of, obj_written, ply_of, ply_written, scratch_obj, written_with}
use Rattle.brick_rows.specs.Rows.{at_level}
use Rattle.stitch.specs.Origins.{origin_for}

abbrev style : MeshFormat → Origin → Style
style format origin = record { format = format; origin = origin }

ply_text_is : (padded : Bool) (m : FlatMesh) → text_of (style Ply (origin_for padded)) m ≡ ply_of padded m
unfolding ply_of
ply_text_is true m = pad_ply m
ply_text_is false m = volume_ply m

obj_text_is : (padded : Bool) (m : FlatMesh) → text_of (style Obj (origin_for padded)) m ≡ obj_of padded m
unfolding obj_of
obj_text_is true m = pad_obj m
obj_text_is false m = volume_obj m

from_scratch_ply : (padded : Bool) (v : Volume) (level : ℤ) → ply_of padded (mesh_of v.grid (field v.samples level)) ≡ scratch_ply padded v.grid (field v.samples level)
unfolding ply_of
from_scratch_ply padded v level = refl

from_scratch_obj : (padded : Bool) (v : Volume) (level : ℤ) → obj_of padded (mesh_of v.grid (field v.samples level)) ≡ scratch_obj padded v.grid (field v.samples level)
unfolding obj_of
from_scratch_obj padded v level = refl

-- a mesh of a volume at its level
module _ (v : Leveled) (volume : Volume) (level : ℤ) (same : v ≡ at_level volume level) (origin : Origin) (padded : Bool) (from : origin ≡ origin_for padded) where
  abbrev mesh : FlatMesh
  mesh = mesh_of volume.grid (field volume.samples level)

  text_at : (format : MeshFormat) (text : List ℕ) → text_of (style format (origin_for padded)) mesh ≡ text → text_of (style format origin) (mesh_of v.grid (heights v)) ≡ text
  text_at format text is =
      ap (λ (u : Leveled). text_of (style format origin) (mesh_of u.grid (heights u))) same ∙ (ap (λ o. text_of (style format o) mesh) from ∙ is)

  written_at : (format : MeshFormat) (text : List ℕ) → text_of (style format (origin_for padded)) mesh ≡ text → written_of (style format origin) (mesh_of v.grid (heights v)) ≡ written_with mesh text
  written_at format text is =
      ap (λ (u : Leveled). written_of (style format origin) (mesh_of u.grid (heights u))) same
      ∙ ap (λ l. written_with mesh l) (ap (λ o. text_of (style format o) mesh) from ∙ is)

  pub ply_put : {T E : Type 0} (t0 t1 : Tape) (r : Result T E) → Puts t0 t1 r (text_of (style Ply origin) (mesh_of v.grid (heights v))) → Puts t0 t1 r (scratch_ply padded volume.grid (field volume.samples level))
  ply_put t0 t1 r p = subst (λ (l : List ℕ). Puts t0 t1 r l) (text_at Ply _ (ply_text_is padded mesh) ∙ from_scratch_ply padded volume level) p

  pub obj_put : {T E : Type 0} (t0 t1 : Tape) (r : Result T E) → Puts t0 t1 r (text_of (style Obj origin) (mesh_of v.grid (heights v))) → Puts t0 t1 r (scratch_obj padded volume.grid (field volume.samples level))
  obj_put t0 t1 r p = subst (λ (l : List ℕ). Puts t0 t1 r l) (text_at Obj _ (obj_text_is padded mesh) ∙ from_scratch_obj padded volume level) p

  pub ply_is : {E : Type 0} (r : Result Written E) → IfOk r (λ w. w ≡ written_of (style Ply origin) (mesh_of v.grid (heights v))) → IfOk r (λ w. w ≡ ply_written padded mesh)
  ply_is r p = subst (λ (n : Written). IfOk r (λ w. w ≡ n)) (written_at Ply _ (ply_text_is padded mesh)) p

  pub obj_is : {E : Type 0} (r : Result Written E) → IfOk r (λ w. w ≡ written_of (style Obj origin) (mesh_of v.grid (heights v))) → IfOk r (λ w. w ≡ obj_written padded mesh)
  obj_is r p = subst (λ (n : Written). IfOk r (λ w. w ≡ n)) (written_at Obj _ (obj_text_is padded mesh)) p
