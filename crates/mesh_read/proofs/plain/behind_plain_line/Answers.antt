use Rattle.std.proofs.Common.{◌+◌, arith}
use Rattle.std.proofs.lemmas.List.{take_rest}
use Rattle.mesh_read.proofs.PlainLines.{plain_line}
use Rattle.mesh_read.proofs.plain.behind_plain_line.Goals as goal

pub returns-clause-line : goal.returns-clause-line
returns-clause-line c = plain_line c.args.bytes.now c.in_ok-end.end _ (omega arith) c.in_ok-end.ensures (take_rest c.args.bytes.now (c.in_ok-end.end + 1))
