use Rattle.std.proofs.Common.{rules, arith}
use Rattle.nrrd_text.proofs.NumberTable.{number_written}
use Rattle.nrrd_text.proofs.byte_numbers.put_byte_number.Goals as goal

pub returns-clause-written : goal.returns-clause-written
returns-clause-written c =
    number_written c.args.room.now c.put_four.new.room _ c.args.b c.args.at c.from-2.result (omega arith) (c.requires.table.each c.args.b (omega arith)) (search rules) (search rules)
