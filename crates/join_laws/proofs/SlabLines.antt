-- The lines of a slab as it is written are those that it has in the whole.
use Rattle.std.proofs.Common.{◌≡◌, ℕ, zero, suc, ◌+◌, ◌*◌, ◌==◌, if◌then◌else◌, ℤ, pos, ◌-ℤ◌, Bool, true, false, ◌++◌, Option, None, Some, refl, sym, ◌∙◌, ap, subst, ne_eqb, arith}
use Rattle.std.proofs.lemmas.Int.{ints}
use Rattle.iso_defs.specs.Cell.{Triangle}
use Rattle.iso_defs.specs.Place.{Position}
use Rattle.iso_defs.specs.Texts.{line, printed}
use Rattle.mesh_lines.specs.Lines.{face_line, origin_coordinate, vertex_letter, vertex_line}
use Rattle.mesh_lines.specs.declared.style.Origin.{Origin}
use Rattle.mesh_lines.specs.declared.style.Origin.TheVariants.{Volume, Pad, Window, PaddedSlab}
use Rattle.mesh_text.specs.Lines.{coordinates_text}
use Rattle.mesh_text.specs.declared.format.TwoWayFormat.{TwoWayFormat}
use Rattle.mesh_text.specs.declared.format.TwoWayFormat.TheVariants.{Obj, Ply}
use Rattle.mesh_text.specs.Formats.{mesh_format}
use Rattle.slab_command.specs.Parts.{origin_by, style_of}
use Rattle.slab_command.specs.declared.asked.Slab.{Slab}
use Rattle.slab_laws.specs.Slabs.{lifted}
use Rattle.slab_laws.specs.SlabTexts.{Lines, obj_lines, ply_lines}

-- the lines of a format
abbrev pub lines_of : TwoWayFormat → Lines
lines_of Ply = ply_lines
lines_of Obj = obj_lines

-- whether there is a pad
abbrev pub is_padded : Option ℤ → Bool
is_padded None = false
is_padded (Some pad) = true

-- the slice of the whole, with its padding, that is the lowest of a slab
abbrev pub height_of : Option ℤ → ℕ → ℕ
height_of None from = from
height_of (Some pad) from = if from == 0 then 0 else from + 1

-- coordinates counted from an origin are those of positions so many slices further up
record AreLifted (origin : Origin) (padded : Bool) (height : ℕ) : Type 0 where
  x_is : (n : ℕ) → origin_coordinate origin 0 n ≡ printed padded n
  y_is : (n : ℕ) → origin_coordinate origin 1 n ≡ printed padded n
  z_is : (n : ℕ) → origin_coordinate origin 2 n ≡ printed padded (1000 * height + n)

are_lifted : (pad : Option ℤ) (from : ℕ) → AreLifted (origin_by pad from) (is_padded pad) (height_of pad from)
are_lifted None zero = record { x_is = λ n. refl; y_is = λ n. refl; z_is = λ n. ap pos (same n) }
  where
    same : (n : ℕ) → n ≡ 1000 * 0 + n
    same n = omega arith
are_lifted None (suc k) =
    subst (λ b. AreLifted (if b then Volume else Window (record { x = 0; y = 0; z = suc k })) false (suc k))
    (sym (ne_eqb (suc k) 0 (λ e. omega (arith, e))))
    (record { x_is = λ n. ap pos (none n); y_is = λ n. ap pos (none n); z_is = λ n. refl })
  where
    none : (n : ℕ) → 1000 * 0 + n ≡ n
    none n = omega arith
are_lifted (Some pad) zero = record { x_is = λ n. refl; y_is = λ n. refl; z_is = λ n. ap (printed true) (same n) }
  where
    same : (n : ℕ) → n ≡ 1000 * 0 + n
    same n = omega arith
are_lifted (Some pad) (suc k) =
    subst (λ b. AreLifted (if b then Pad else PaddedSlab (suc k)) true (if b then 0 else suc k + 1))
    (sym (ne_eqb (suc k) 0 (λ e. omega (arith, e))))
    (record { x_is = λ n. refl; y_is = λ n. refl; z_is = λ n. above (suc k) n })
  where
    above : (k n : ℕ) → pos (1000 * k + n) ≡ pos (1000 * (k + 1) + n) -ℤ pos 1000
    above k n = omega (arith, ints)

module _ (origin : Origin) (padded : Bool) (height : ℕ) (are : AreLifted origin padded height) where
  coordinates_are : (p : Position) → coordinates_text (origin_coordinate origin 0 p.0) (origin_coordinate origin 1 p.1) (origin_coordinate origin 2 p.2)
      ≡ coordinates_text (printed padded p.0) (printed padded p.1) (printed padded (1000 * height + p.2))
  coordinates_are p =
      ap (λ a. coordinates_text a (origin_coordinate origin 1 p.1) (origin_coordinate origin 2 p.2)) (are.x_is p.0)
      ∙ (ap (λ a. coordinates_text (printed padded p.0) a (origin_coordinate origin 2 p.2)) (are.y_is p.1)
      ∙ ap (coordinates_text (printed padded p.0) (printed padded p.1)) (are.z_is p.2))

  line_is : (format : TwoWayFormat) (u : ℕ × Position)
      → vertex_line (record { format = mesh_format format; origin = origin }) u ≡ (lines_of format).vertex padded (lifted height u.1)
  unfolding vertex_line
  line_is Ply u = ap (λ t. line (vertex_letter (mesh_format Ply) ++ t)) (coordinates_are u.1)
  line_is Obj u = ap (λ t. line (vertex_letter (mesh_format Obj) ++ t)) (coordinates_are u.1)

pub vertex_is : (slab : Slab) (format : TwoWayFormat) (u : ℕ × Position)
    → vertex_line (style_of slab format) u ≡ (lines_of format).vertex (is_padded slab.pad) (lifted (height_of slab.pad slab.from) u.1)
vertex_is slab format u =
    line_is (origin_by slab.pad slab.from) (is_padded slab.pad) (height_of slab.pad slab.from) (are_lifted slab.pad slab.from) format u

pub triangle_is : (format : TwoWayFormat) (t : Triangle) → face_line (mesh_format format) t ≡ (lines_of format).triangle t
unfolding face_line
triangle_is Ply t = refl
triangle_is Obj t = refl
