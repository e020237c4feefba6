use Rattle.std.proofs.Common.{length, ap, arith}
use Rattle.mesh_read.proofs.PlainLaws.{face_begins, number_shorter}
use Rattle.mesh_read.proofs.plain.plain_face.Goals as goal

pub returns-then-c-n-clause-face : goal.returns-then-c-n-clause-face
returns-then-c-n-clause-face c =
    face_begins c.args.count c.args.bytes.now c.in_ok-rest.rest.now c.in_ok-a.rest.now c.in_ok-b.rest.now c.in_ok-c.rest.now c.in_ok-a.a c.in_ok-b.b c.in_ok-c.c
    c.in_ok-rest.ensures c.in_ok-a.ensures c.in_ok-b.ensures c.in_ok-c.ensures (omega arith) (omega arith) (omega arith)

pub returns-then-c-n-clause-shorter : goal.returns-then-c-n-clause-shorter
returns-then-c-n-clause-shorter c =
    omega (arith, ap length c.in_ok-rest.ensures, number_shorter _ _ _ _ c.in_ok-a.ensures, number_shorter _ _ _ _ c.in_ok-b.ensures, number_shorter _ _ _ _ c.in_ok-c.ensures)
