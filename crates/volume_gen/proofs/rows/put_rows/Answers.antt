use Rattle.byte_streams.proofs.Staging.{stages_written}
use Rattle.volume_gen.proofs.rows.put_rows.Goals as goal

pub returns : goal.returns
returns g c = stages_written _ _ _ _ _ _ _ (rw c.requires at c.in_ok-stage_rows.ensures) (rw c.deref.ensures.value at c.write_all_of.ensures)
