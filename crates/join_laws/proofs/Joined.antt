-- The files of the slabs of a volume, one behind the other, are the text of the mesh of the whole.
use Rattle.std.proofs.Common.{◌≡◌, ℕ, ◌+◌, ◌-◌, ◌<◌, ◌≤◌, ◌==◌, if◌then◌else◌, ℤ, Bool, true, false, List, [], ◌∷◌, ◌++◌, map, length, Option, None, Some, Result, Ok, Err, refl, sym, ◌∙◌, ap, ap₂, subst, ne_eqb, arith}
use Rattle.std.specs.List.{flat_map, sum_by}
use Rattle.std.proofs.lemmas.Bool.{le-ltb}
use Rattle.std.proofs.lemmas.List.Sums.{sum_by-cons}
use Rattle.iso_defs.specs.Grid.{Grid, IsSolid, point_count}
use Rattle.iso_base.specs.Volume.{Voxels, field, grown, is_above_pad, padded_volume, sized, unpadded}
use Rattle.iso_base.specs.declared.sizes.SizeFault.{SizeFault}
use Rattle.flat_mesh.specs.Lattice.{Leveled}
use Rattle.list_mesh.specs.Parts.{Part}
use Rattle.mesh_lines.specs.Lines.{head_of}
use Rattle.mesh_text.specs.Lines as heads
use Rattle.mesh_text.specs.declared.format.TwoWayFormat.{TwoWayFormat}
use Rattle.mesh_text.specs.declared.format.TwoWayFormat.TheVariants.{Obj, Ply}
use Rattle.mesh_walk.specs.declared.walk.Numbering.{Numbering}
use Rattle.padded_samples.specs.PaddedSlabs.{layers, ringed}
use Rattle.padded_samples.proofs.SlabRows.{at_most_one}
use Rattle.mesh_text.specs.Formats.{mesh_format}
use Rattle.slab_command.specs.Parts.{counts_of, style_of}
use Rattle.slab_command.specs.Slabs.{check_slices, ends_of, of_read, owned_part, padded, part_of, raised, refused, with_pad, with_slices}
use Rattle.program.specs.declared.answer.VolumeFault.TheVariants.{LevelNotAbovePad, Pad}
use Rattle.slab_command.specs.declared.answer.SlabAnswer.{SlabAnswer}
use Rattle.slab_command.specs.declared.answer.SlabAnswer.TheVariants.{Thin}
use Rattle.slab_command.specs.declared.asked.Slab.{Slab}
use Rattle.slab_command.specs.declared.files.PartLines.TheVariants.{Centres, Edges, Triangles}
use Rattle.slab_laws.specs.Slabs as slabs
use Rattle.slab_laws.specs.SlabTexts as texts
use Rattle.slab_laws.specs.SlabVolumes.{sliced}
use Rattle.slab_laws.proofs.TextBySlabs.{obj_by_slabs, ply_by_slabs}
use Rattle.join_laws.specs.Joined.{AreSlabsFrom, IsSlabOf, Whole, WrittenSlab, behind, centres_in, edges_in, file_text, joined_text, mesh_text, text_in, triangles_in}
use Rattle.join_laws.proofs.PartSlabs.{bare_is, bare_slices, height_is, padded_is, padded_slices}
use Rattle.join_laws.proofs.PartTexts.{centres_are, centres_counted, edges_are, edges_counted, slab_of_part, triangles_are, triangles_counted}
use Rattle.join_laws.proofs.SlabLines.{height_of, is_padded, lines_of, triangle_is, vertex_is}

-- ---- the part that a slab has

-- how many of its slices a slab owns
owned_of : Bool → ℕ → ℕ
owned_of is_last n = if is_last then n else n - 2

value_or : {T E : Type 0} → T → Result T E → T
value_or other (Ok x) = x
value_or other (Err e) = other

pub same_value : {T E : Type 0} (x y : T) → ◌≡◌ {A = Result T E} (Ok x) (Ok y) → x ≡ y
unfolding value_or
same_value x y e = ap (value_or x) e

pub no_fault : {T E X : Type 0} (e : E) (x : T) → ◌≡◌ {A = Result T E} (Err e) (Ok x) → X
no_fault e x clash = absurd (apart clash)
  where
    apart : Err e ≡ Ok x → ⊥
    apart c = cc

module _ (v : Voxels) (level : ℤ) where
  abbrev asked : Option ℤ → ℕ → Bool → Slab
  asked pad z is_last = record { level = level; pad = pad; from = z; is_last = is_last }

  -- slices in the padding that they have
  volume_of : Option ℤ → ℕ → ℕ → Bool → Leveled
  volume_of None z n is_last = bare_slices v level z n
  volume_of (Some pad) z n is_last = padded_slices v level pad z n is_last

  checked : (pad : Option ℤ) (z : ℕ) (is_last : Bool) (m : ℕ) → (is_last ≡ false → 3 ≤ m) → check_slices (asked pad z is_last) m ≡ Ok (owned_of is_last m)
  unfolding owned_of
  checked pad z true m most = refl
  checked pad z false m most = ap (λ b. if b then Err (Thin m) else Ok (m - 2)) (le-ltb m 3 (most refl))

  owned_known : (pad : Option ℤ) (z : ℕ) (is_last : Bool) (w : Leveled) (part : Part) → (is_last ≡ false → 3 ≤ w.grid.nz)
      → owned_part (asked pad z is_last) w ≡ Ok part → part ≡ record { volume = w; slices = owned_of is_last w.grid.nz }
  owned_known pad z is_last w part most e =
      sym (same_value (record { volume = w; slices = owned_of is_last w.grid.nz }) part
      (sym (ap (with_slices w) (checked pad z is_last w.grid.nz most)) ∙ e))

  raised_known : (pad : ℤ) (slab : Slab) (x : Voxels) (part : Part) (r : Result Grid SizeFault) → raised slab pad x r ≡ Ok part
      → owned_part slab (padded slab pad x) ≡ Ok part
  raised_known pad slab x part (Err fault) e = no_fault (refused (Pad fault)) part e
  raised_known pad slab x part (Ok grid) e = chosen (is_above_pad slab.level pad) (refused (LevelNotAbovePad slab.level pad)) e
    where
      chosen : (b : Bool) (reason : SlabAnswer) → (if b then owned_part slab (padded slab pad x) else Err reason) ≡ Ok part
          → owned_part slab (padded slab pad x) ≡ Ok part
      chosen true reason e = e
      chosen false reason e = no_fault reason part e

  part_known : (pad : Option ℤ) (z n : ℕ) (is_last : Bool) (part : Part) → (is_last ≡ false → 3 ≤ n)
      → with_pad (asked pad z is_last) pad (sliced v z n) ≡ Ok part
      → part ≡ record { volume = volume_of pad z n is_last; slices = owned_of is_last (volume_of pad z n is_last).grid.nz }
  unfolding volume_of
  part_known None z n is_last part most e = owned_known None z is_last (bare_slices v level z n) part most e
  part_known (Some pad) z n is_last part most e =
      owned_known (Some pad) z is_last (padded_slices v level pad z n is_last) part (λ f. omega (arith, most f))
      (raised_known pad (asked (Some pad) z is_last) (sliced v z n) part
      (sized (ringed (ends_of (asked (Some pad) z is_last)) (sliced v z n).grid)) e)

  -- ---- slabs of the whole
  abbrev whole_grid : Option ℤ → Grid
  whole_grid None = v.grid
  whole_grid (Some pad) = grown v.grid

  abbrev whole_field : Option ℤ → ℕ → ℤ
  whole_field None = field v.samples level
  whole_field (Some pad) = field (padded_volume (unpadded v) pad).samples level

  module _ (solid : IsSolid v.grid) (all : length v.samples ≡ point_count v.grid) where
    volume_is : (pad : Option ℤ) (z n : ℕ) (is_last : Bool) (owned : ℕ) → z + n ≤ v.grid.nz → (is_last ≡ true → z + n ≡ v.grid.nz)
        → slabs.IsSlab (whole_grid pad) (whole_field pad) (slab_of_part (volume_of pad z n is_last) owned (height_of pad z))
    unfolding volume_of
    volume_is None z n is_last owned fits last = bare_is v level z n owned all fits
    volume_is (Some pad) z n is_last owned fits last = padded_is v level pad z n is_last solid fits last owned

-- how high the slab begins that shares two slices with one of n slices from z on
next_height : (v : Voxels) (level : ℤ) (pad : Option ℤ) (z n from : ℕ) → z + n ≤ v.grid.nz → IsSolid v.grid → z < from → n ≡ from + 2 - z
    → height_of pad z + ((volume_of v level pad z n false).grid.nz - 2) ≡ height_of pad from
unfolding volume_of
next_height v level None z n from fits solid low e = omega (arith, low, e)
next_height v level (Some pad) z n from fits solid low e =
    let up : z + (1 - layers (z == 0)) ≡ height_of (Some pad) z = height_is v level pad z n false solid fits (λ c. absurd (clash c)) in
    let not_first : height_of (Some pad) from ≡ from + 1 = ap (λ (b : Bool). if b then 0 else from + 1) (ne_eqb from 0 (λ c. omega (arith, c, low))) in
    omega (arith, low, e, up, not_first, at_most_one (z == 0))
  where
    clash : false ≡ true → ⊥
    clash c = cc

-- where the last slab ends
end_height : (v : Voxels) (level : ℤ) (pad : Option ℤ) (z n : ℕ) → z + n ≤ v.grid.nz → IsSolid v.grid → z + n ≡ v.grid.nz
    → height_of pad z + (volume_of v level pad z n true).grid.nz ≡ (whole_grid v level pad).nz
unfolding volume_of
end_height v level None z n fits solid last = last
end_height v level (Some pad) z n fits solid last =
    let up : z + (1 - layers (z == 0)) ≡ height_of (Some pad) z = height_is v level pad z n true solid fits (λ c. last) in
    omega (arith, last, up, at_most_one (z == 0))

-- how many slices are stored of a slab that is not the last
three_stored : (v : Voxels) (level : ℤ) (pad : Option ℤ) (z n : ℕ) → 3 ≤ n → 3 ≤ (volume_of v level pad z n false).grid.nz
unfolding volume_of
three_stored v level None z n most = most
three_stored v level (Some pad) z n most = omega (arith, most)

module _ (v : Voxels) (level : ℤ) (pad : Option ℤ) (format : TwoWayFormat) (solid : IsSolid v.grid) (all : length v.samples ≡ point_count v.grid) where
  abbrev w : Whole
  w = record { volume = v; level = level; pad = pad; format = format }

  abbrev g : Grid
  g = whole_grid v level pad

  abbrev s : ℕ → ℤ
  s = whole_field v level pad

  -- the slab that its part is
  abbrev slab_in : WrittenSlab → slabs.Slab
  slab_in b = slab_of_part b.part.volume b.part.slices (height_of pad b.slab.from)

  module _ (z n : ℕ) (is_last : Bool) (numbers : Numbering) (b : WrittenSlab) (is : IsSlabOf w z n is_last numbers b)
      (most : is_last ≡ false → 3 ≤ n) (last : is_last ≡ true → z + n ≡ v.grid.nz) where
    abbrev stored : Leveled
    stored = volume_of v level pad z n is_last

    abbrev owned : ℕ
    owned = owned_of is_last stored.grid.nz

    read : with_pad (asked v level pad z is_last) pad (sliced v z n) ≡ Ok b.part
    unfolding part_of
    read = sym (ap (of_read (asked v level pad z is_last)) is.volume_is) ∙ (ap (λ k. part_of k b.bytes) (sym is.slab_is) ∙ is.part_is)

    part_is : b.part ≡ record { volume = stored; slices = owned }
    part_is = part_known v level pad z n is_last b.part most read

    from_is : b.slab.from ≡ z
    from_is = ap (λ (k : Slab). k.from) is.slab_is

    is_slab : slabs.IsSlab g s (slab_in b)
    is_slab =
        subst (λ (p : Part). slabs.IsSlab g s (slab_of_part p.volume p.slices (height_of pad b.slab.from))) (sym part_is)
        (subst (λ (f : ℕ). slabs.IsSlab g s (slab_of_part stored owned (height_of pad f))) (sym from_is)
        (volume_is v level solid all pad z n is_last owned is.fits last))

    begins : height_of pad b.slab.from ≡ height_of pad z
    begins = ap (height_of pad) from_is

    size_is : b.part.volume.grid.nz ≡ stored.grid.nz
    size_is = ap (λ (p : Part). p.volume.grid.nz) part_is

    owned_is : b.part.slices ≡ owned
    owned_is = ap (λ (p : Part). p.slices) part_is

    -- ---- its files
    pad_is : b.slab.pad ≡ pad
    pad_is = ap (λ (k : Slab). k.pad) is.slab_is

    edge_file : file_text format Edges b ≡ texts.edge_text (lines_of format) (is_padded pad) (slab_in b)
    edge_file = edges_are b.part.volume b.part.slices (height_of pad b.slab.from) (style_of b.slab format) (lines_of format) (is_padded pad)
        (λ u. vertex_is b.slab format u ∙ ap (λ (p : Option ℤ). (lines_of format).vertex (is_padded p) (slabs.lifted (height_of p b.slab.from) u.1)) pad_is)

    centre_file : file_text format Centres b ≡ texts.centre_text (lines_of format) (is_padded pad) (slab_in b)
    centre_file = centres_are b.part.volume b.part.slices (height_of pad b.slab.from) (style_of b.slab format) (lines_of format) (is_padded pad)
        (λ u. vertex_is b.slab format u ∙ ap (λ (p : Option ℤ). (lines_of format).vertex (is_padded p) (slabs.lifted (height_of p b.slab.from) u.1)) pad_is)

    triangle_file : file_text format Triangles b ≡ texts.triangle_text (lines_of format) numbers.first_edge numbers.first_centre (slab_in b)
    triangle_file =
        triangles_are b.part.volume b.part.slices (height_of pad b.slab.from) (style_of b.slab format) (lines_of format) b.numbers (triangle_is format)
        ∙ ap (λ (m : Numbering). texts.triangle_text (lines_of format) m.first_edge m.first_centre (slab_in b)) is.numbers_are

  -- ---- all slabs
  never : {X : Type 0} → true ≡ false → X
  never e = absurd (clash e)
    where
      clash : true ≡ false → ⊥
      clash c = cc

  not_last : {X : Type 0} → false ≡ true → X
  not_last e = absurd (clash e)
    where
      clash : false ≡ true → ⊥
      clash c = cc

  three : (z from : ℕ) → z < from → 3 ≤ from + 2 - z
  three z from low = omega (arith, low)

  to_end : (z : ℕ) → z + (v.grid.nz - z) ≤ v.grid.nz → z + (v.grid.nz - z) ≡ v.grid.nz
  to_end z fits = omega (arith, fits)

  are_slabs : (bs : List WrittenSlab) (z : ℕ) (numbers : Numbering) → AreSlabsFrom w z numbers bs → slabs.AreSlabs g s (height_of pad z) (map slab_in bs)
  unfolding owned_of
  are_slabs [] z numbers a = a
  are_slabs (b ∷ []) z numbers is =
      let n : ℕ = v.grid.nz - z in
      let e : z + n ≡ v.grid.nz = to_end z is.fits in (
        is_slab z n true numbers b is never (λ c. e),
        begins z n true numbers b is never (λ c. e),
        owned_is z n true numbers b is never (λ c. e) ∙ sym (size_is z n true numbers b is never (λ c. e)),
        ap (λ k. height_of pad z + k) (owned_is z n true numbers b is never (λ c. e)) ∙ end_height v level pad z n is.fits solid e,
      )
  are_slabs (b ∷ c ∷ bs) z numbers a =
      let n : ℕ = c.slab.from + 2 - z in
      let low : 3 ≤ n = three z c.slab.from a.0 in
      let is : IsSlabOf w z n false numbers b = a.1 in
      let own : b.part.slices ≡ (volume_of v level pad z n false).grid.nz - 2 = owned_is z n false numbers b is (λ f. low) not_last in
      let size : b.part.volume.grid.nz ≡ (volume_of v level pad z n false).grid.nz = size_is z n false numbers b is (λ f. low) not_last in
      let some : 3 ≤ (volume_of v level pad z n false).grid.nz = three_stored v level pad z n low in (
        is_slab z n false numbers b is (λ f. low) not_last,
        begins z n false numbers b is (λ f. low) not_last,
        omega (arith, own, size, some),
        subst (λ h. slabs.AreSlabs g s h (map slab_in (c ∷ bs)))
            (sym (ap (λ k. height_of pad z + k) own ∙ next_height v level pad z n c.slab.from is.fits solid a.0 refl))
            (are_slabs (c ∷ bs) c.slab.from (behind numbers (counts_of b.part)) a.2),
      )

  -- their files of one kind
  module _ (F : WrittenSlab → List ℕ) (H : slabs.Slab → List ℕ)
      (each : (z n : ℕ) (is_last : Bool) (numbers : Numbering) (b : WrittenSlab) → IsSlabOf w z n is_last numbers b → (is_last ≡ false → 3 ≤ n)
      → (is_last ≡ true → z + n ≡ v.grid.nz) → F b ≡ H (slab_in b)) where
    files_are : (bs : List WrittenSlab) (z : ℕ) (numbers : Numbering) → AreSlabsFrom w z numbers bs → flat_map F bs ≡ flat_map H (map slab_in bs)
    files_are [] z numbers a = refl
    files_are (b ∷ []) z numbers is = ap (λ t. t ++ []) (each z (v.grid.nz - z) true numbers b is never (λ c. to_end z is.fits))
    files_are (b ∷ c ∷ bs) z numbers a =
        ap₂ (λ t u. t ++ u) (each z (c.slab.from + 2 - z) false numbers b a.1 (λ f. three z c.slab.from a.0) not_last)
        (files_are (c ∷ bs) c.slab.from (behind numbers (counts_of b.part)) a.2)

  triangle_files : (bs : List WrittenSlab) (z : ℕ) (numbers : Numbering) → AreSlabsFrom w z numbers bs
      → flat_map (file_text format Triangles) bs ≡ texts.triangle_texts (lines_of format) numbers.first_edge numbers.first_centre (map slab_in bs)
  triangle_files [] z numbers a = refl
  triangle_files (b ∷ []) z numbers is = ap (λ t. t ++ []) (triangle_file z (v.grid.nz - z) true numbers b is never (λ c. to_end z is.fits))
  triangle_files (b ∷ c ∷ bs) z numbers a =
      ap₂ (λ t u. t ++ u) (triangle_file z (c.slab.from + 2 - z) false numbers b a.1 (λ f. three z c.slab.from a.0) not_last)
      (triangle_files (c ∷ bs) c.slab.from (behind numbers (counts_of b.part)) a.2
      ∙ ap₂ (λ e k. texts.triangle_texts (lines_of format) (numbers.first_edge + e) (numbers.first_centre + k) (map slab_in (c ∷ bs)))
      (edges_counted b.part.volume b.part.slices (height_of pad b.slab.from)) (centres_counted b.part.volume b.part.slices (height_of pad b.slab.from)))

  sums_are : (count : WrittenSlab → ℕ) (of : slabs.Slab → ℕ) → ((b : WrittenSlab) → count b ≡ of (slab_in b)) → (bs : List WrittenSlab)
      → sum_by count bs ≡ sum_by of (map slab_in bs)
  sums_are count of same [] = refl
  sums_are count of same (b ∷ bs) =
      sum_by-cons count b bs ∙ (ap₂ (λ m n. m + n) (same b) (sums_are count of same bs) ∙ sym (sum_by-cons of (slab_in b) (map slab_in bs)))

  edges_sum : (bs : List WrittenSlab) → edges_in bs ≡ sum_by slabs.edge_count (map slab_in bs)
  edges_sum = sums_are (λ b. (counts_of b.part).edges) slabs.edge_count (λ b. edges_counted b.part.volume b.part.slices (height_of pad b.slab.from))

  centres_sum : (bs : List WrittenSlab) → centres_in bs ≡ sum_by slabs.centre_count (map slab_in bs)
  centres_sum = sums_are (λ b. (counts_of b.part).centres) slabs.centre_count (λ b. centres_counted b.part.volume b.part.slices (height_of pad b.slab.from))

  triangles_sum : (bs : List WrittenSlab) → triangles_in bs ≡ sum_by slabs.triangle_count (map slab_in bs)
  triangles_sum = sums_are (λ b. (counts_of b.part).faces) slabs.triangle_count (λ b. triangles_counted b.part.volume b.part.slices (height_of pad b.slab.from))

  -- the head and the lines of slabs, in this format
  lines_joined : (bs : List WrittenSlab) → AreSlabsFrom w 0 (record { first_edge = 0; first_centre = edges_in bs }) bs
      → flat_map (file_text format Edges) bs ++ (flat_map (file_text format Centres) bs ++ flat_map (file_text format Triangles) bs)
      ≡ texts.joined_texts (lines_of format) (is_padded pad) (map slab_in bs)
  lines_joined bs a =
      let first : Numbering = record { first_edge = 0; first_centre = edges_in bs } in
      ap₂ (λ t u. t ++ u) (files_are (file_text format Edges) (texts.edge_text (lines_of format) (is_padded pad)) edge_file bs 0 first a)
      (ap₂ (λ t u. t ++ u) (files_are (file_text format Centres) (texts.centre_text (lines_of format) (is_padded pad)) centre_file bs 0 first a)
      (triangle_files bs 0 first a ∙ ap (λ k. texts.triangle_texts (lines_of format) 0 k (map slab_in bs)) (edges_sum bs)))

  whole_head : (bs : List WrittenSlab) → head_of (mesh_format format) (edges_in bs + centres_in bs) (triangles_in bs)
      ≡ head_of (mesh_format format) (sum_by slabs.edge_count (map slab_in bs) + sum_by slabs.centre_count (map slab_in bs)) (sum_by slabs.triangle_count (map slab_in bs))
  whole_head bs = ap₂ (λ m n. head_of (mesh_format format) m n) (ap₂ (λ m n. m + n) (edges_sum bs) (centres_sum bs)) (triangles_sum bs)

  -- the mesh of the whole, by its slabs
  large : IsSolid g
  large = solid_in pad
    where
      solid_in : (p : Option ℤ) → IsSolid (whole_grid v level p)
      solid_in None = solid
      solid_in (Some p) = record { x = omega arith; y = omega arith; z = omega arith }

  height_none : height_of pad 0 ≡ 0
  height_none = none pad
    where
      none : (p : Option ℤ) → height_of p 0 ≡ 0
      none None = refl
      none (Some p) = refl

  joined_is : (bs : List WrittenSlab) → AreSlabsFrom w 0 (record { first_edge = 0; first_centre = edges_in bs }) bs
      → joined_text format bs ≡ mesh_text format (is_padded pad) g s
  unfolding heads.ply_head
  joined_is bs a =
      let cut : slabs.AreSlabs g s 0 (map slab_in bs)
      = subst (λ h. slabs.AreSlabs g s h (map slab_in bs)) height_none (are_slabs bs 0 (record { first_edge = 0; first_centre = edges_in bs }) a) in
      ap₂ (λ t u. t ++ u) (whole_head bs) (lines_joined bs a) ∙ sym (by_format format (map slab_in bs) cut)
    where
      by_format : (f : TwoWayFormat) (cs : List slabs.Slab) → slabs.AreSlabs g s 0 cs → mesh_text f (is_padded pad) g s
          ≡ head_of (mesh_format f) (sum_by slabs.edge_count cs + sum_by slabs.centre_count cs) (sum_by slabs.triangle_count cs)
          ++ texts.joined_texts (lines_of f) (is_padded pad) cs
      by_format Ply cs cut = ply_by_slabs g large s cs cut (is_padded pad)
      by_format Obj cs cut = obj_by_slabs g large s cs cut (is_padded pad)

pub joined_whole : (v : Voxels) (level : ℤ) (pad : Option ℤ) (format : TwoWayFormat) (bs : List WrittenSlab) → IsSolid v.grid
    → length v.samples ≡ point_count v.grid
    → AreSlabsFrom (record { volume = v; level = level; pad = pad; format = format }) 0 (record { first_edge = 0; first_centre = edges_in bs }) bs
    → joined_text format bs ≡ text_in (record { volume = v; level = level; pad = pad; format = format }) pad
joined_whole v level None format bs solid all a = joined_is v level None format solid all bs a
joined_whole v level (Some pad) format bs solid all a = joined_is v level (Some pad) format solid all bs a
