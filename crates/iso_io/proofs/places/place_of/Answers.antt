use Rattle.std.proofs.Common.{◌≡◌, ◌∙◌, sym, ap, false, true, List, ℕ, arith}
use Rattle.iso_io.proofs.Placing.{lacking_more}
use Rattle.iso_io.proofs.Reserved.{entry_at, count_of}
use Rattle.iso_io.specs.Places.{entries_of}
use Rattle.iso_io.proofs.places.place_of.Goals as goal

no : false ≡ true → ⊥
no e = cc

pub loop-i-preserved : goal.loop-i-preserved
loop-i-preserved c =
    let at = entry_at c.args.places.now c.loop-i.i c.index-places-i.result c.loop-i-test.true c.index-places-i.is in
    lacking_more c.args.name.now (entries_of c.args.places.now) c.loop-i.i (omega (arith, c.loop-i-test.true, count_of c.args.places.now)) c.loop-i.invariant
    (λ e. absurd (no (c.if-is_named.ensures.1 (ap (λ (p : List ℕ × List ℕ). p.0) (sym at) ∙ e))))
