use Rattle.std.proofs.Common.{◌∙◌, All, ap, subst, sym}
use Rattle.iso_defs.specs.Grid.{point_count}
use Rattle.iso_base.specs.Volume.{IsSample}
use Rattle.window_mesh.specs.Views.{InBox, boxed_list, window_at}
use Rattle.window_mesh.proofs.Viewing.{boxed_length, boxed_range}
use Rattle.window_mesh.proofs.view.BoxSamples.sizes.Goals as goal

pub returns-clause-count : goal.returns-clause-count
returns-clause-count c = boxed_length c.args.self.now ∙ ap (λ (b : InBox). point_count b.window.grid) (sym c.self.view_is)

pub returns-clause-range : goal.returns-clause-range
returns-clause-range c =
    subst (λ (b : InBox). All IsSample (boxed_list b)) c.self.view_is
    (boxed_range (record { volume = c.self.inside.store.now; window = window_at c.self.inside.low c.self.inside.sizes }) c.sizes.ensures.volume c.self.invariant c.count.ensures.grid)
