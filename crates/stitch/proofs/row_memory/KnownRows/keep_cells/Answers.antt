use Rattle.std.proofs.Common.{◌≡◌, ◌+◌, ◌∙◌, ap, take}
use Rattle.stitch.proofs.KnownLists.{known_cells}
use Rattle.stitch.proofs.SpreadCells.{joined}
use Rattle.stitch.proofs.row_memory.KnownRows.keep_cells.Goals as goal

pub returns : goal.returns
returns c =
    let same : c.deref.result.now ≡ c.join_cells-count.new.list = cc in
    record {
      known = record {
        even = c.requires.known.even;
        odd = c.requires.known.odd;
        recent = known_cells c.args.field.now c.args.self.now.recent c.put.new.self c.args.y c.args.z (c.edges_key-key.result + 2) _ c.requires.y (ap (λ k. k + 2) c.edges_key-key.ensures.value)
            c.requires.known.recent c.put.ensures.within c.put.ensures.each
            (joined c.args.field.now c.args.y c.args.z _ c.args.places.now c.args.cases.now (ap (take c.join_cells-count.result) same ∙ c.join_cells-count.ensures.list) c.requires.cells);
      };
    }
