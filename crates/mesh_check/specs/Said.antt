-- The answers of the code.
use Rattle.iso_defs.specs.Verdict as laws
use Rattle.iso_base.specs.declared.verdict.Verdict.{Verdict}
use Rattle.iso_base.specs.declared.verdict.Verdict.TheVariants.{Closed, Border, RepeatedCorner, EdgeTwice, SplitVertex}

-- what an answer says
abbrev pub said : Verdict → laws.Verdict
said Closed = laws.Verdict.Closed
said (Border edges) = laws.Verdict.Border edges
said (RepeatedCorner t) = laws.Verdict.RepeatedCorner t
said (EdgeTwice a b) = laws.Verdict.EdgeTwice a b
said (SplitVertex v) = laws.Verdict.SplitVertex v
