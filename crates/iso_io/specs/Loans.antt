-- A file of a shelf: the loan of the shelf, the shelf as it is while it is lent, and the name.
use Rattle.std.specs.Prelude.{List, ℕ}
use Rattle.std.specs.Borrow.{GName}
use Rattle.iso_io.specs.declared.shelf_file.ShelfFile.{ShelfFile}

-- the name of the loan
abbrev pub loan_of : {H : Type 0} → ShelfFile H → GName
loan_of file = file.shelf.ghost_name

-- the shelf
abbrev pub shelf_of : {H : Type 0} → ShelfFile H → H
shelf_of file = file.shelf.now

-- the name of the file
abbrev pub name_of : {H : Type 0} → ShelfFile H → List ℕ
name_of file = file.name.now
