-- The texts of volumes that were read.
use Rattle.std.proofs.Common.{◌≡◌, ◌∙◌, ℕ, List, ℤ, true, false, refl, subst, is_some}
use Rattle.std.specs.Prelude.{Result, Bool}
use Rattle.iso_defs.specs.Texts as files
use Rattle.iso_base.specs.Volume.{Volume, field}
use Rattle.byte_streams.specs.Seen.{Tape, Puts}
use Rattle.iso_defs.specs.MeshLists.{FlatMesh}
use Rattle.flat_mesh.specs.Mesh.{mesh_of}
use Rattle.mesh_lines.specs.Lines.{text_of}
use Rattle.mesh_lines.proofs.Texts.{pad_obj, pad_ply, volume_obj, volume_ply}
use Rattle.commands.specs.Headline.{style_of, text_of_volume}
use Rattle.mesh_text.specs.declared.format.TwoWayFormat.{TwoWayFormat}
use Rattle.mesh_text.specs.declared.format.TwoWayFormat.TheVariants.{Ply, Obj}

-- a text in a style, in the words of the definition
as_ply : (padded : Bool) (m : FlatMesh) → text_of (style_of Ply padded) m ≡ files.ply_text padded m.vertex_list m.triangle_list
as_ply true m = pad_ply m
as_ply false m = volume_ply m

as_obj : (padded : Bool) (m : FlatMesh) → text_of (style_of Obj padded) m ≡ files.obj_text padded m.vertex_list m.triangle_list
as_obj true m = pad_obj m
as_obj false m = volume_obj m

-- the text of the volume's mesh
text_is : (format : TwoWayFormat) (v : Volume) (level : ℤ) (padded : Bool) (m : FlatMesh) → padded ≡ is_some v.pad → m ≡ mesh_of v.grid (field v.samples level) → text_of (style_of format padded) m ≡ text_of_volume format level v
text_is Ply v level padded m p e = as_ply padded m ∙ (rw (p, e) refl)
text_is Obj v level padded m p e = as_obj padded m ∙ (rw (p, e) refl)

-- what was put is that text, whatever was answered with it
pub text_put : {T E : Type 0} (old new : Tape) (r : Result T E) (format : TwoWayFormat) (v : Volume) (level : ℤ) (padded : Bool) (m : FlatMesh) → padded ≡ is_some v.pad → m ≡ mesh_of v.grid (field v.samples level)
    → Puts old new r (text_of (style_of format padded) m) → Puts old new r (text_of_volume format level v)
text_put old new r format v level padded m p e put = subst (λ (text : List ℕ). Puts old new r text) (text_is format v level padded m p e) put
