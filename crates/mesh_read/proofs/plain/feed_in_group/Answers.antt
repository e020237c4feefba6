use Rattle.std.proofs.Common.{eqb, take, arith, w8}
use Rattle.std.proofs.lemmas.List.{length-take-le}
use Rattle.std.proofs.lemmas.Simd.{bitmask_splat}
use Rattle.mesh_read.proofs.PlainLines.{lowest_feed}
use Rattle.mesh_read.proofs.plain.feed_in_group.Goals as goal

pub returns-else-feeds-eq0 : goal.returns-else-feeds-eq0
returns-else-feeds-eq0 c =
    let bytes = c.args.bytes.now in
    lowest_feed bytes _ c.requires (bitmask_splat w8 (λ a b. eqb a b) (take 32 bytes) 32 10 (length-take-le 32 bytes c.requires) (omega arith)) c.if-feeds-eq0.false
