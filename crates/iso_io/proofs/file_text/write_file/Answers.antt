use Rattle.std.proofs.Common.{rules}
use Rattle.std.proofs.lemmas.Result.{err_from_is_err_and}
use Rattle.iso_io.proofs.Shelving.{has_started, not_started, stored_any}
use Rattle.iso_io.proofs.file_text.write_file.Goals as goal

pub new-file-requires : goal.new-file-requires
new-file-requires g c = has_started _ _ _ _ c.in_ok-start_above.ensures

pub returns-clause-file : goal.returns-clause-file
returns-clause-file g c =
    let text = rw (c.new-file.ensures.shelf, c.new-file.ensures.name) at c.fill_file.ensures.text in
    let whole = stored_any _ _ _ _ (g.H.Shelf.seen c.fill_file.new.file.shelf.now) _ _ _ _ _ c.in_ok-start_above.ensures text in
    search (rules, whole)

pub returns-in_err-start_above-clause-file : goal.returns-in_err-start_above-clause-file
returns-in_err-start_above-clause-file g c =
    let p = err_from_is_err_and c.from_residual.result c.from_residual.ensures.1 in
    rw p.1 (not_started _ _ _ _ _ _ c.in_err-start_above.ensures)
