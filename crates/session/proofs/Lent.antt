-- A session keeps its loans.
use Rattle.std.proofs.Common.{refl, ◌∙◌}
use Rattle.session.specs.Worlds.{SameLoans}
use Rattle.session.specs.declared.loans.Session.{Session}

pub same_none : {K H L : Type 0} (s : Session K H L) → SameLoans s s
same_none s = record { bench = refl; shelf = refl; steps = refl; output = refl }

pub same_both : {K H L : Type 0} (s t u : Session K H L) → SameLoans s t → SameLoans t u → SameLoans s u
same_both s t u a b = record { bench = b.bench ∙ a.bench; shelf = b.shelf ∙ a.shelf; steps = b.steps ∙ a.steps; output = b.output ∙ a.output }
