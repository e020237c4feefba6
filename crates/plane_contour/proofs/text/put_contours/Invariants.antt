use Rattle.std.proofs.Common.{drop}
use Rattle.byte_streams.proofs.Staging.{HasStaged}
use Rattle.plane_contour.specs.Texts.{contours_text}
use Rattle.plane_contour.proofs.text.put_contours.Given as goal

abbrev pub invariant-loop-line : goal.invariant-loop-line
invariant-loop-line g l =
    HasStaged (g.K.Sink.seen l.fn.sink) (g.K.Sink.seen l.sink) (contours_text l.padded l.lines) l.waiting.bytes (contours_text l.padded (drop l.line-index l.lines))
