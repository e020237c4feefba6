use Rattle.std.proofs.Common.{◌≡◌, subst}
use Rattle.iso_defs.specs.Bricks.{entries}
use Rattle.iso_base.specs.Volume.{field, Volume}
use Rattle.cached_mesh.proofs.refresh.SpannedBricks.extract.Goals as goal

pub returns-clause-entries : goal.returns-clause-entries
returns-clause-entries g c =
    subst (λ (w : Volume). c.extract_brick.new.entries.items ≡ entries w.grid (field w.samples c.args.level) c.args.brick.0) c.self.view_is c.extract_brick.ensures.entries
