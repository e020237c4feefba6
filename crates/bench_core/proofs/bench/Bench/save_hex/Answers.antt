use Rattle.std.proofs.Common.{◌≡◌, Ok, subst}
use Rattle.std.proofs.lemmas.Result.{err_from_is_err_and}
use Rattle.nrrd_read.specs.Nrrd.{nrrd_of}
use Rattle.unpadded_volume.specs.Unpadded.{inner_voxels}
use Rattle.bench_core.specs.Keeping.{Workbench}
use Rattle.bench_core.specs.Machine.{State}
use Rattle.bench_core.specs.Texts.{hex_save}
use Rattle.bench_core.specs.History.{state_of}
use Rattle.bench_core.proofs.SavedFiles.{saved_file, unsaved_file}
use Rattle.bench_core.proofs.bench.Bench.save_hex.Goals as goal

pub returns-clause-file : goal.returns-clause-file
unfolding hex_save
returns-clause-file g c =
    let s : State = state_of c.self.inside.store c.self.inside.level c.self.inside.log in
    rw (← c.self.view_is) (saved_file (hex_save s) _ _ _ _ c.in_ok-write_hex.ensures.file c.in_ok-write_hex.ensures.bytes)

pub returns-in_err-write_hex-clause-file : goal.returns-in_err-write_hex-clause-file
unfolding hex_save
returns-in_err-write_hex-clause-file g c =
    let s : State = state_of c.self.inside.store c.self.inside.level c.self.inside.log in
    let p = err_from_is_err_and c.from_residual.result c.from_residual.ensures.1 in
    rw (p.1, p.2, ← c.self.view_is) (unsaved_file (hex_save s) _ _ _ _ c.in_err-write_hex.ensures.file)

pub returns-clause-read_again : goal.returns-clause-read_again
unfolding hex_save
returns-clause-read_again g c =
    subst (λ (w : Workbench). nrrd_of (hex_save w.state) ≡ Ok (inner_voxels w.state.volume, 1)) c.self.view_is c.write_hex.ensures.read_again

pub returns-in_err-write_hex-clause-read_again : goal.returns-in_err-write_hex-clause-read_again
unfolding hex_save
returns-in_err-write_hex-clause-read_again g c =
    subst (λ (w : Workbench). nrrd_of (hex_save w.state) ≡ Ok (inner_voxels w.state.volume, 1)) c.self.view_is c.write_hex.ensures.read_again
