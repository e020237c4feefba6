use Rattle.std.proofs.Common.{◌∙◌, ◌++◌, ap, arith, length, sym, append-nil}
use Rattle.brick_mesh.proofs.PlaneRuns.{entry_gone}
use Rattle.brick_mesh.proofs.entries.add_there.Goals as goal

pub add_cell-requires-clause-cell : goal.add_cell-requires-clause-cell
add_cell-requires-clause-cell g c = record { local = c.requires.cell; there = sym c.has_cell.ensures ∙ c.if-has_cell.true }

pub add_cell-requires-clause-signs : goal.add_cell-requires-clause-signs
add_cell-requires-clause-signs g c = c.requires.signs (record { local = c.requires.cell; there = sym c.has_cell.ensures ∙ c.if-has_cell.true })

pub returns-else-has_cell-clause-entries : goal.returns-else-has_cell-clause-entries
returns-else-has_cell-clause-entries g c =
    let none = entry_gone c.args.block.now c.args.cell (sym c.has_cell.ensures ∙ c.if-has_cell.false) in
    sym (ap (λ new. c.args.entries.now.items ++ new) none ∙ append-nil c.args.entries.now.items)

pub returns-else-has_cell-clause-counted : goal.returns-else-has_cell-clause-counted
returns-else-has_cell-clause-counted g c =
    let none = entry_gone c.args.block.now c.args.cell (sym c.has_cell.ensures ∙ c.if-has_cell.false) in
    omega (arith, ap length none)
