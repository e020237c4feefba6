-- The line that a verdict is told by.
use Rattle.std.specs.Prelude.{ℕ, List, codes}
use Rattle.iso_defs.specs.Texts.{line}
use Rattle.iso_base.specs.declared.verdict.Verdict.{Verdict}
use Rattle.iso_base.specs.declared.verdict.Verdict.TheVariants.{Closed, Border, RepeatedCorner, EdgeTwice, SplitVertex}
use Rattle.iso_defs.specs.Texts.{counted, counted_twice}

-- triangles and vertices are counted from 0
unfoldable pub verdict_words : Verdict → List ℕ
verdict_words Closed = codes "closed"
verdict_words (Border edges) = counted (codes "border ") edges
verdict_words (RepeatedCorner t) = counted (codes "repeated corner ") t
verdict_words (EdgeTwice a b) = counted_twice (codes "edge twice ") a b
verdict_words (SplitVertex v) = counted (codes "split vertex ") v

abbrev pub verdict_text : Verdict → List ℕ
verdict_text verdict = line (verdict_words verdict)
