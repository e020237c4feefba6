use Rattle.isobench.proofs.counted_run.Goals as goal

-- the call that was made
pub returns : goal.returns
returns g c = (_, _, _, c.run.ensures.run)
