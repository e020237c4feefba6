use Rattle.std.proofs.lemmas.Result.{IfOk-weaker}
use Rattle.text_samples.specs.Hex.{hex_samples}
use Rattle.text_samples.proofs.Gathering.{bytes_read, bytes_size}
use Rattle.text_samples.proofs.hex.read_hex_bytes.Goals as goal

pub returns-clause-ok : goal.returns-clause-ok
returns-clause-ok c =
    IfOk-weaker c.gather.result _ _ (λ r h. bytes_read c.args.kind c.args.count (hex_samples c.args.kind c.args.big_endian c.args.count c.args.bytes.now) r.1 r.0.items h) c.gather.ensures.ok

pub returns-clause-size : goal.returns-clause-size
returns-clause-size c =
    IfOk-weaker c.gather.result _ _ (λ r h. bytes_size c.args.kind c.args.count (hex_samples c.args.kind c.args.big_endian c.args.count c.args.bytes.now) r.1 r.0.items h) c.gather.ensures.ok
