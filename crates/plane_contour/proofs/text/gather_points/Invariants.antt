use Rattle.std.proofs.Common.{drop, ◌++◌}
use Rattle.byte_streams.proofs.Staging.{HasStaged}
use Rattle.plane_contour.specs.Texts.{points_text}
use Rattle.plane_contour.proofs.text.gather_points.Given as goal

abbrev pub invariant-loop-point : goal.invariant-loop-point
invariant-loop-point g l =
    HasStaged (g.K.Sink.seen l.fn.sink) (g.K.Sink.seen l.sink) (l.fn.waiting.bytes ++ points_text l.padded l.points) l.waiting.bytes
    (points_text l.padded (drop l.point-index l.points))
