-- What a slab in its padding gives.
use Rattle.std.proofs.Common.{◌≡◌, ◌∙◌, All, IfSome, List, Some, ap, ap₂, subst, sym, ℤ}
use Rattle.std.specs.Prelude.{Option, Result}
use Rattle.byte_streams.specs.Seen.{Tape}
use Rattle.iso_defs.specs.Grid.{Grid}
use Rattle.iso_base.specs.Volume.{IsSample, Voxels}
use Rattle.iso_io.specs.Shelves.{Store}
use Rattle.flat_mesh.specs.Lattice.{Leveled}
use Rattle.list_mesh.specs.Parts.{Part}
use Rattle.padded_samples.specs.PaddedSlabs.{SlabInPad, ringed, slab_list}
use Rattle.slab_command.specs.Outcome.{GivesOutput}
use Rattle.slab_command.specs.Parts.{output_by}
use Rattle.slab_command.specs.Slabs.{ends_of, owned_part, padded, with_pad, within}
use Rattle.slab_command.specs.declared.answer.SlabAnswer.{SlabAnswer}
use Rattle.slab_command.specs.declared.asked.SlabJob.{SlabJob}
use Rattle.slab_command.proofs.Samples.{all_in_pad}

module _ (job : SlabJob) (g : Grid) (samples : List ℤ) (p : SlabInPad) {pad : ℤ} (view : p ≡ record { grid = g; samples = samples; pad = pad; ends = ends_of job.slab })
    (is : job.slab.pad ≡ Some pad) where
  -- its samples are in the range of samples
  pub samples_in_pad : All IsSample samples → IfSome job.slab.pad IsSample → All IsSample (slab_list p)
  samples_in_pad all range =
      subst (λ (q : SlabInPad). All IsSample (slab_list q)) (sym view)
      (all_in_pad (record { grid = g; samples = samples; pad = pad; ends = ends_of job.slab }) all (subst (λ (o : Option ℤ). IfSome o IsSample) is range))

  -- what its samples give is what the volume gives
  pub given_in_pad : (v : Voxels) (r : Grid) (s s' : Store) (t t' : Tape) (a : SlabAnswer) → v.grid ≡ g → v.samples ≡ samples → r ≡ ringed p.ends p.grid
      → with_pad job.slab (Some pad) v ≡ owned_part job.slab (padded job.slab pad v)
      → ((w : Leveled) → w ≡ record { grid = r; samples = slab_list p; level = job.slab.level } → GivesOutput (output_by job (owned_part job.slab w)) s s' t t' a)
      → GivesOutput (output_by job (with_pad job.slab job.slab.pad v)) s s' t t' a
  given_in_pad v r s s' t t' a grid same size volume gives =
      let level : ℤ = job.slab.level in
      let slab : within job.slab pad v ≡ p
      = ap₂ (λ (g : Grid) (l : List ℤ). record { grid = g; samples = l; pad = pad; ends = ends_of job.slab }) grid same ∙ sym view in
      let here : padded job.slab pad v ≡ record { grid = r; samples = slab_list p; level = level }
      = ap (λ (q : SlabInPad). record { grid = ringed q.ends q.grid; samples = slab_list q; level = level }) slab
      ∙ ap (λ (h : Grid). record { grid = h; samples = slab_list p; level = level }) (sym size) in
      subst (λ (part : Result Part SlabAnswer). GivesOutput (output_by job part) s s' t t' a)
      (sym (ap (λ (o : Option ℤ). with_pad job.slab o v) is ∙ volume)) (gives (padded job.slab pad v) here)
