use Rattle.std.proofs.Common.{rules}
use Rattle.nrrd_text.proofs.NumberTable.{entry_made}
use Rattle.nrrd_text.proofs.byte_numbers.entry_of.Goals as goal

pub returns : goal.returns
returns c = entry_made c.put_next-end.new.room c.args.b c.put_next-end.result (search rules) (search rules) (search rules) (search rules)
