-- A stretch that is gathered from nothing and written.
use Rattle.std.proofs.Common.{◌≡◌, ℕ, List, [], Result, subst}
use Rattle.byte_streams.specs.Seen.{Tape, Stages}
use Rattle.byte_streams.specs.declared.Failed.{Failed}
use Rattle.mesh_lines.specs.Blocks.{Adds, Gathered}

abbrev nothing : Gathered
nothing = record { waiting = []; page = 0; total = 0 }

pub staged_from_nothing : {T : Type 0} (t0 t1 : Tape) (b0 b1 : Gathered) (r : Result T Failed) (text : List ℕ) → b0 ≡ nothing → Adds t0 t1 b0 b1 r text → Stages t0 t1 [] b1.waiting r text
staged_from_nothing t0 t1 b0 b1 r text none adds = (subst (λ b. Adds t0 t1 b b1 r text) none adds).staged
