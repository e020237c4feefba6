-- The file of a volume without its pad.
use Rattle.std.proofs.Common.{◌≡◌, Bool, [], Ok, refl, sym, ap, ◌∙◌, le-ltb}
use Rattle.std.proofs.lemmas.List.{append-nil}
use Rattle.iso_defs.specs.Grid.{Grid, point_count}
use Rattle.iso_base.specs.Volume.{IsGrid, sized, Volume, IsVolume}
use Rattle.nrrd_read.specs.Nrrd.{nrrd_of}
use Rattle.nrrd.specs.Writing as nrrd
use Rattle.nrrd.proofs.RoundTrip.{coded_again, save_again}
use Rattle.unpadded_volume.specs.Unpadded.{inner_voxels, saved_in_print, saved_text}
use Rattle.unpadded_volume.proofs.InnerSamples.{inner_is}

-- the sizes of a grid are not refused
pub sized_grid : (g : Grid) → IsGrid g → sized g ≡ Ok g
sized_grid g is =
    let a = le-ltb g.nx 2 is.x.least in
    let b = le-ltb g.ny 2 is.y.least in
    let c = le-ltb g.nz 2 is.z.least in
    let d = le-ltb 1026 g.nx is.x.most in
    let e = le-ltb 1026 g.ny is.y.most in
    let f = le-ltb 1026 g.nz is.z.most in
    let n = le-ltb 160000000 (point_count g) is.count in
    rw (a, b, c, d, e, f, n) refl

-- the file is read again as the volume
pub saved_is_read : (v : Volume) → IsVolume v → nrrd_of (saved_text v) ≡ Ok (inner_voxels v, 0)
unfolding saved_text
saved_is_read v is =
    ap nrrd_of (sym (append-nil (nrrd.save_text (inner_voxels v)))) ∙ save_again (inner_voxels v) [] (inner_is v is)

-- and so is the file in print
pub printed_is_read : (hex : Bool) (v : Volume) → IsVolume v → nrrd_of (saved_in_print hex v) ≡ Ok (inner_voxels v, 1)
unfolding saved_in_print
printed_is_read hex v is =
    ap nrrd_of (sym (append-nil (nrrd.coded_save hex (inner_voxels v)))) ∙ coded_again hex (inner_voxels v) [] (inner_is v is)
