use Rattle.commands.proofs.checking.verdict_of_text.Goals as goal

pub returns-clause-verdict : goal.returns-clause-verdict
returns-clause-verdict c = (c.in_ok-mesh.mesh, c.in_ok-mesh.ensures.mesh.0, c.in_ok-verdict.ensures)
