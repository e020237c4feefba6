use Rattle.std.proofs.Common.{subst}
use Rattle.std.specs.Prelude.{IfOk}
use Rattle.iso_defs.specs.Verdict.{IsVerdict}
use Rattle.iso_base.specs.Triangles.{triangles_of}
use Rattle.mesh_check.specs.Said.{said}
use Rattle.mesh_check.proofs.decide.verdict.Goals as goal

pub returns-in-None : goal.returns-in-None
returns-in-None c =
    subst (λ ts. IfOk c.surface_verdict.result (λ v. IsVerdict (triangles_of ts) (said v))) c.triangles-triangles.ensures.value c.surface_verdict.ensures
