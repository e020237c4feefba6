use Rattle.std.proofs.Common.{◌≡◌, ap, length, rules}
use Rattle.std.specs.Simd.Lanes.{put_chunk}
use Rattle.corner_signs.proofs.Lanes.{above_lanes, chosen_narrow, lane_bits}
use Rattle.corner_signs.proofs.rows.fill_eight.Goals as goal

pub overflow_cast-out : goal.overflow_cast-out
overflow_cast-out c = chosen_narrow 8 (above_lanes 8 c.args.least c.args.samples)

pub returns : goal.returns
returns c =
    let eight : length c.args.samples ≡ 8 = search rules in
    ap (put_chunk c.args.at c.args.out.now) (lane_bits 8 c.args.least c.args.samples eight c.ranges.least c.requires.samples)
