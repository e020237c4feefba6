use Rattle.sample_rows.proofs.PutCases.{all_clear, mixed_are, put_are, zeros_but}
use Rattle.sample_rows.proofs.cases.fill_many.Goals as goal

pub fill_clear-unclear-requires-clause-before : goal.fill_clear-unclear-requires-clause-before
fill_clear-unclear-requires-clause-before g c =
    let v = (g.H.Heights.leveled c.args.field.now) in
    let low = c.args.low in
    let bits = c.mixed_at-mixed.result in
    zeros_but v low.y low.z low.x bits c.args.cases.now c.args.counts
    (mixed_are v low.y low.z low.x bits c.args.bytes.now c.requires.bytes c.mixed_at-mixed.ensures.bits c.requires.room.rest) c.requires.before

pub count_many-requires-clause-mixed : goal.count_many-requires-clause-mixed
count_many-requires-clause-mixed g c =
    let v = (g.H.Heights.leveled c.args.field.now) in
    let low = c.args.low in
    mixed_are v low.y low.z low.x c.mixed_at-mixed.result c.args.bytes.now c.requires.bytes c.mixed_at-mixed.ensures.bits c.requires.room.rest

pub count_many-requires-clause-cases : goal.count_many-requires-clause-cases
count_many-requires-clause-cases g c =
    let v = (g.H.Heights.leveled c.args.field.now) in
    let low = c.args.low in
    all_clear v low.y low.z low.x c.fill_unclear.new.cases c.fill_unclear.ensures

pub returns : goal.returns
returns g c =
    let v = (g.H.Heights.leveled c.args.field.now) in
    let low = c.args.low in
    put_are v low.y low.z low.x c.fill_unclear.new.cases c.count_many.result c.fill_unclear.ensures c.count_many.ensures
