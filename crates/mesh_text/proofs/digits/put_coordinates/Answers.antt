use Rattle.std.proofs.Common.{rules, ◌≡◌, take, to_z, of_z, w64}
use Rattle.std.proofs.lemmas.Int.{to_z-of_z}
use Rattle.iso_defs.specs.Texts.{decimal_text}
use Rattle.mesh_text.proofs.Chain.{three_chain}
use Rattle.mesh_text.proofs.digits.put_coordinates.Goals as goal

pub returns-clause-written : goal.returns-clause-written
returns-clause-written g c =
    let x : to_z w64 (of_z w64 c.args.x) ≡ c.args.x = search (rules, to_z-of_z) in
    let y : to_z w64 (of_z w64 c.args.y) ≡ c.args.y = search (rules, to_z-of_z) in
    let z : to_z w64 (of_z w64 c.args.z) ≡ c.args.z = search (rules, to_z-of_z) in
    three_chain (take c.args.at c.args.room.now) (decimal_text c.args.x) (decimal_text c.args.y) (decimal_text c.args.z) _ _ _ _ _ _
    (rw x at c.put_coordinate-at.ensures.written) c.put_byte-at.ensures.written
    (rw y at c.put_coordinate-at-2.ensures.written) c.put_byte-at-2.ensures.written
    (rw z at c.put_coordinate-at-3.ensures.written) c.put_byte.ensures.written
