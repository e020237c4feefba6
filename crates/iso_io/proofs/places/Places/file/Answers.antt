use Rattle.std.proofs.Common.{◌∙◌, sym, ap}
use Rattle.std.specs.FinMap.{get}
use Rattle.iso_io.specs.Places.{Places}
use Rattle.iso_io.proofs.Placing.{lacking_file}
use Rattle.iso_io.proofs.Reserved.{found_bytes, some_of}
use Rattle.iso_io.proofs.places.Places.file.Goals as goal

pub returns-in-Some : goal.returns-in-Some
returns-in-Some c =
    let found = rw c.deref.ensures.value at c.in-Some.ensures in
    ap some_of c.bytes.ensures ∙ sym (found_bytes c.self.inside.all.items c.self.inside.used c.args.name.now c.in-Some.i c.index.result.now found c.index.ensures)
    ∙ ap (λ (p : Places). get p.files c.args.name.now) c.self.view_is

pub returns-in-None : goal.returns-in-None
returns-in-None c =
    let none = rw c.deref.ensures.value at c.in-None.ensures in
    sym (lacking_file _ c.args.name.now none) ∙ ap (λ (p : Places). get p.files c.args.name.now) c.self.view_is
