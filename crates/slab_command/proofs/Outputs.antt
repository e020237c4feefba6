-- What a slab gives: files and a line, or why it gives none.
use Rattle.std.proofs.Common.{◌≡◌, ℕ, ◌-◌, ◌*◌, Bool, true, false, List, [], None, Some, Ok, Err, refl, sym, ap, ◌∙◌, subst, if◌then◌else◌, arith}
use Rattle.std.specs.Prelude.{Option, Result, is_some, nat_lt}
use Rattle.iso_base.specs.Volume.{Voxels}
use Rattle.byte_streams.specs.Seen.{Files, Tape}
use Rattle.flat_mesh.specs.Lattice.{Leveled}
use Rattle.iso_io.specs.Shelves.{Store}
use Rattle.list_mesh.specs.Parts.{Part}
use Rattle.mesh_walk.specs.Spans.{edge_count}
use Rattle.mesh_walk.specs.declared.parts.PartCounts.{PartCounts}
use Rattle.sample_rows.specs.Counted.{AreRowCounts}
use Rattle.sample_rows.specs.declared.slice_counts.SliceCounts.{SliceCounts}
use Rattle.nrrd_read.specs.Nrrd.{Fails, nrrd_of}
use Rattle.program.specs.declared.answer.Answer.TheVariants as answers
use Rattle.program.specs.declared.answer.VolumeFault.TheVariants.{Nrrd}
use Rattle.refusals.specs.declared.nrrd.NrrdFault.{NrrdFault}
use Rattle.refusals.specs.declared.nrrd.NrrdFault.TheVariants as faults
use Rattle.command_terms.specs.Volumes.{volume_answer, volume_refusal}
use Rattle.slab_command.specs.Outcome.{AreCutAmong, GivesOutput, IsReason, IsRefusal, MakesFiles, PutsLine, StoresAll}
use Rattle.slab_command.specs.Parts.{Output, check_numbers, counts_of, counts_text, output_by, output_of, part_files, slab_given, with_files_of, with_numbers}
use Rattle.slab_command.specs.Slabs.{of_read, owned_part, part_of, with_pad, with_slices}
use Rattle.slab_command.specs.declared.answer.SlabAnswer.{SlabAnswer}
use Rattle.slab_command.specs.declared.answer.SlabAnswer.TheVariants.{Common, Thin, Numbers}
use Rattle.slab_command.specs.declared.asked.Slab.{Slab}
use Rattle.slab_command.specs.declared.asked.SlabFiles.{SlabFiles}
use Rattle.slab_command.specs.declared.asked.SlabJob.{SlabJob}

-- ---- refusals

-- a part is refused for its few slices alone
only_thin : (last few : Bool) (n : ℕ) (v : Leveled) (a : SlabAnswer) → with_slices v (if last then Ok n else if few then Err (Thin n) else Ok (n - 2)) ≡ Err a → Thin n ≡ a
only_thin true few n v a e = absurd cc
only_thin false true n v a e = cc
only_thin false false n v a e = absurd cc

thin_part : (slab : Slab) (v : Leveled) (a : SlabAnswer) → owned_part slab v ≡ Err a → Thin v.grid.nz ≡ a
thin_part slab v a e = only_thin slab.is_last (nat_lt v.grid.nz 3) v.grid.nz v a e

-- who refuses a slab leaves the files and the output
pub refuses : (given : Result Output SlabAnswer) (s : Store) (t : Tape) (a : SlabAnswer) → IsRefusal a → given ≡ Err a → GivesOutput given s s t t a
refuses given s t (Common (answers.BadVolume fault)) is e = (e, refl, refl)
refuses given s t (Thin slices) is e = (e, refl, refl)
refuses given s t (Numbers largest) is e = (e, refl, refl)
refuses given s t (Common answers.Done) is e = absurd is
refuses given s t (Common answers.MeshRefused) is e = absurd is
refuses given s t (Common answers.BadWords) is e = absurd is
refuses given s t (Common answers.InputFault) is e = absurd is
refuses given s t (Common answers.InputTooLong) is e = absurd is
refuses given s t (Common answers.OutputFault) is e = absurd is
refuses given s t (Common answers.Memory) is e = absurd is
refuses given s t (Common answers.ShelfFault) is e = absurd is
refuses given s t (Common (answers.BadMesh fault)) is e = absurd is

thin_refusal : (a : SlabAnswer) (n : ℕ) → Thin n ≡ a → IsRefusal a
thin_refusal a n e = subst IsRefusal e tt

module _ (job : SlabJob) (v : Leveled) (s : Store) (t : Tape) where
  refused_part : (a : SlabAnswer) → owned_part job.slab v ≡ Err a → GivesOutput (output_by job (owned_part job.slab v)) s s t t a
  refused_part a e = refuses _ s t a (thin_refusal a v.grid.nz (thin_part job.slab v a e)) (ap (output_by job) e)

  -- so does who gives a reason why there is no part
  pub no_part : (a : SlabAnswer) → IsReason (owned_part job.slab v) a → GivesOutput (output_by job (owned_part job.slab v)) s s t t a
  no_part (Common answers.Memory) e = (refl, refl)
  no_part (Common (answers.BadVolume fault)) e = refused_part (Common (answers.BadVolume fault)) e
  no_part (Thin slices) e = refused_part (Thin slices) e
  no_part (Numbers largest) e = refused_part (Numbers largest) e
  no_part (Common answers.Done) e = refused_part (Common answers.Done) e
  no_part (Common answers.MeshRefused) e = refused_part (Common answers.MeshRefused) e
  no_part (Common answers.BadWords) e = refused_part (Common answers.BadWords) e
  no_part (Common answers.InputFault) e = refused_part (Common answers.InputFault) e
  no_part (Common answers.InputTooLong) e = refused_part (Common answers.InputTooLong) e
  no_part (Common answers.OutputFault) e = refused_part (Common answers.OutputFault) e
  no_part (Common answers.ShelfFault) e = refused_part (Common answers.ShelfFault) e
  no_part (Common (answers.BadMesh fault)) e = refused_part (Common (answers.BadMesh fault)) e

-- ---- files and a line

line_by : (p : Part) (slab : Slab) (files : SlabFiles) (fits : Result (Unit {0}) SlabAnswer) (output : Output) → with_numbers p slab files fits ≡ Ok output → counts_text p.slices (counts_of p) ≡ output.line
line_by p slab files (Ok x) output e = same _ output e
  where
    same : (a b : Output) → ◌≡◌ {A = Result Output SlabAnswer} (Ok a) (Ok b) → a.line ≡ b.line
    same a b e = cc
line_by p slab files (Err a) output e = absurd cc

line_with : (p : Part) (slab : Slab) (files : Option SlabFiles) (output : Output) → with_files_of slab files p ≡ Ok output → counts_text p.slices (counts_of p) ≡ output.line
line_with p slab None output e = same _ output e
  where
    same : (a b : Output) → ◌≡◌ {A = Result Output SlabAnswer} (Ok a) (Ok b) → a.line ≡ b.line
    same a b e = cc
line_with p slab (Some files) output e = line_by p slab files _ output e

-- numbers that are those of a part
pub same_counts : (p : Part) (c : PartCounts) → c.edges ≡ (counts_of p).edges → c.centres ≡ (counts_of p).centres → c.faces ≡ (counts_of p).faces → c ≡ counts_of p
same_counts p c e f g =
    ap (λ (n : ℕ). record { edges = n; centres = c.centres; faces = c.faces }) e
    ∙ (ap (λ (n : ℕ). record { edges = (counts_of p).edges; centres = n; faces = c.faces }) f
    ∙ ap (λ (n : ℕ). record { edges = (counts_of p).edges; centres = (counts_of p).centres; faces = n }) g)

-- those of slices that were counted are those of the part
pub slices_counted : (v : Leveled) (slices : ℕ) (counts : SliceCounts) (c : PartCounts) → AreRowCounts v (v.grid.ny * slices) counts
    → c.edges ≡ counts.edges → c.centres ≡ counts.cells.centres → c.faces ≡ counts.cells.faces → c ≡ counts_of (record { volume = v; slices = slices })
slices_counted v slices counts c are e f g =
    same_counts (record { volume = v; slices = slices }) c (e ∙ are.edges) (f ∙ are.cells.centres) (g ∙ are.cells.faces)

-- the line of a part is that of its numbers
pub line_of : (job : SlabJob) (p : Part) (output : Output) → output_of job p ≡ Ok output → counts_text p.slices (counts_of p) ≡ output.line
line_of job p output e = line_with p job.slab job.files output e

module _ (job : SlabJob) (p : Part) (line : List ℕ) (s s' : Store) (t t' : Tape) (same : line ≡ counts_text p.slices (counts_of p)) where
  -- files were made, and then a line was put
  pub line_put : (a : SlabAnswer) → MakesFiles {T = Unit {0}} (output_of job p) s s' (Ok tt) → PutsLine line t t' a → GivesOutput (output_of job p) s s' t t' a
  line_put (Common answers.Done) made put =
      (made.0, made.1, made.2, subst (λ text. PutsLine text t t' (Common answers.Done)) (same ∙ line_of job p made.0 made.1) put)
  line_put (Common answers.OutputFault) made put =
      (made.0, made.1, made.2, subst (λ text. PutsLine text t t' (Common answers.OutputFault)) (same ∙ line_of job p made.0 made.1) put)
  line_put (Common (answers.BadVolume fault)) made put = absurd put
  line_put (Thin slices) made put = absurd put
  line_put (Numbers largest) made put = absurd put
  line_put (Common answers.Memory) made put = absurd put
  line_put (Common answers.MeshRefused) made put = absurd put
  line_put (Common answers.BadWords) made put = absurd put
  line_put (Common answers.InputFault) made put = absurd put
  line_put (Common answers.InputTooLong) made put = absurd put
  line_put (Common answers.ShelfFault) made put = absurd put
  line_put (Common (answers.BadMesh fault)) made put = absurd put

-- files were not made: no line was put
pub none_made : (given : Result Output SlabAnswer) (s s' : Store) (t : Tape) (a : SlabAnswer) → MakesFiles {T = Unit {0}} given s s' (Err a) → GivesOutput given s s' t t a
none_made given s s' t (Common answers.ShelfFault) made = (made.0, made.1, made.2, made.3, refl)
none_made given s s' t (Numbers largest) made = (made.0, made.1, refl)
none_made given s s' t (Thin slices) made = absurd made
none_made given s s' t (Common (answers.BadVolume fault)) made = absurd made
none_made given s s' t (Common answers.Done) made = absurd made
none_made given s s' t (Common answers.Memory) made = absurd made
none_made given s s' t (Common answers.MeshRefused) made = absurd made
none_made given s s' t (Common answers.BadWords) made = absurd made
none_made given s s' t (Common answers.InputFault) made = absurd made
none_made given s s' t (Common answers.InputTooLong) made = absurd made
none_made given s s' t (Common answers.OutputFault) made = absurd made
none_made given s s' t (Common (answers.BadMesh fault)) made = absurd made

-- ---- files that there are to be

-- none
pub no_files : (job : SlabJob) (p : Part) (s : Store) → job.files ≡ None → MakesFiles {T = Unit {0}} (output_of job p) s s (Ok tt)
no_files job p s e = (
  record { files = []; line = counts_text p.slices (counts_of p) },
  ap (λ (files : Option SlabFiles). with_files_of job.slab files p) e,
  refl,
  omega arith,
)

module _ (slab : Slab) (p : Part) (files : SlabFiles) (s s' : Store) where
  abbrev made_output : Output
  made_output = record { files = part_files p slab files; line = counts_text p.slices (counts_of p) }

  -- the numbers fit, and the files were made, or the shelf failed at one
  module _ (x : Unit {0}) (fits : check_numbers files (edge_count p.volume) (counts_of p).centres ≡ Ok x) where
    given : with_files_of slab (Some files) p ≡ Ok made_output
    given = ap (with_numbers p slab files) fits

    pub files_made : {T E : Type 0} (y : T) → StoresAll {E = E} s s' (Ok y) (part_files p slab files) → MakesFiles {T = Unit {0}} (with_files_of slab (Some files) p) s s' (Ok tt)
    files_made y h = (made_output, given, h.changed, h.cause.later)

    pub files_cut : {T E : Type 0} (e : E) → StoresAll {T = T} s s' (Err e) (part_files p slab files) → MakesFiles {T = Unit {0}} (with_files_of slab (Some files) p) s s' (Err (Common answers.ShelfFault))
    files_cut e h = (made_output, given, h.changed, h.cause.failed)

-- files that were cut are files that there were to be
cut_files : (p : Part) (slab : Slab) (files : Option SlabFiles) (output : Output) (old new : Option Files) → with_files_of slab files p ≡ Ok output → AreCutAmong output.files old new → is_some files ≡ true
cut_files p slab (Some files) output old new e h = refl
cut_files p slab None output old new e h = absurd (subst (λ (files : List (List ℕ × List ℕ)). AreCutAmong files old new) (sym (none _ output e)) h)
  where
    none : (a b : Output) → ◌≡◌ {A = Result Output SlabAnswer} (Ok a) (Ok b) → a.files ≡ b.files
    none a b e = cc

pub has_files : (job : SlabJob) (part : Result Part SlabAnswer) (output : Output) (old new : Option Files) → output_by job part ≡ Ok output → AreCutAmong output.files old new → is_some job.files ≡ true
has_files job (Ok p) output old new e h = cut_files p job.slab job.files output old new e h
has_files job (Err a) output old new e h = absurd cc

-- ---- the bytes of a file

-- the part of the volume that was read
pub read_part : (slab : Slab) (bytes : List ℕ) (read : Voxels × ℕ) → nrrd_of bytes ≡ Ok read → part_of slab bytes ≡ with_pad slab slab.pad read.0
unfolding part_of
read_part slab bytes read e = ap (of_read slab) e

not_read : (job : SlabJob) (bytes : List ℕ) (s : Store) (t : Tape) (fault : NrrdFault) → nrrd_of bytes ≡ Err fault → GivesOutput (slab_given job bytes) s s t t (Common (answers.BadVolume (Nrrd fault)))
unfolding part_of
not_read job bytes s t fault e = (ap (output_by job) (ap (of_read job.slab) e), refl, refl)

-- there is no volume in them
pub no_volume : (job : SlabJob) (bytes : List ℕ) (s : Store) (t : Tape) (fault : NrrdFault) → Fails fault (nrrd_of bytes)
    → GivesOutput (slab_given job bytes) s s t t (Common (volume_answer (volume_refusal fault)))
no_volume job bytes s t faults.NotNrrd h = not_read job bytes s t faults.NotNrrd h
no_volume job bytes s t (faults.HeaderTooLong n) h = not_read job bytes s t (faults.HeaderTooLong n) h
no_volume job bytes s t (faults.BadLine line) h = not_read job bytes s t (faults.BadLine line) h
no_volume job bytes s t (faults.RepeatedField field) h = not_read job bytes s t (faults.RepeatedField field) h
no_volume job bytes s t (faults.MissingField field) h = not_read job bytes s t (faults.MissingField field) h
no_volume job bytes s t (faults.BadValue field) h = not_read job bytes s t (faults.BadValue field) h
no_volume job bytes s t faults.UnsupportedKind h = not_read job bytes s t faults.UnsupportedKind h
no_volume job bytes s t (faults.UnsupportedEncoding word) h = not_read job bytes s t (faults.UnsupportedEncoding word) h
no_volume job bytes s t (faults.Detached line) h = not_read job bytes s t (faults.Detached line) h
no_volume job bytes s t (faults.SkipUnsupported field) h = not_read job bytes s t (faults.SkipUnsupported field) h
no_volume job bytes s t (faults.NotThreeAxes n) h = not_read job bytes s t (faults.NotThreeAxes n) h
no_volume job bytes s t (faults.Size fault) h = not_read job bytes s t (faults.Size fault) h
no_volume job bytes s t faults.NoEndian h = not_read job bytes s t faults.NoEndian h
no_volume job bytes s t (faults.ShortSamples needed present) h = not_read job bytes s t (faults.ShortSamples needed present) h
no_volume job bytes s t faults.Memory h = (refl, refl)
no_volume job bytes s t (faults.BadSample place) h = not_read job bytes s t (faults.BadSample place) h
