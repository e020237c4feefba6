use Rattle.std.proofs.Common.{ℕ, sym, ◌==◌}
use Rattle.text_lines.proofs.Places.{before_is, before_none}
use Rattle.mesh_read.proofs.obj.before_slash.Goals as goal

pub returns-in-Some : goal.returns-in-Some
returns-in-Some c = before_is (λ (b : ℕ). b == 47) c.args.word.now c.in-Some.end (sym c.in-Some.ensures)

pub returns-in-None : goal.returns-in-None
returns-in-None c = before_none (λ (b : ℕ). b == 47) c.args.word.now (sym c.in-None.ensures)
