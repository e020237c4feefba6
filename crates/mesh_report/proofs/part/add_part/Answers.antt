use Rattle.std.proofs.Common.{◌≡◌, ℕ, ◌≤◌, List, ◌++◌, ◌∷◌, [], sym, subst, ap, ◌∙◌, nat_eq, All}
use Rattle.std.specs.Map.{keys_of, values_of}
use Rattle.indexmap.proofs.CallerLemmas.{insert_entry-new}
use Rattle.mesh_report.specs.declared.part.Part.{Part}
use Rattle.mesh_report.proofs.PartLaws.{is_new, keys_push, values_push}
use Rattle.mesh_report.proofs.part.add_part.Goals as goal

pub returns-clause-parts : goal.returns-clause-parts
returns-clause-parts c =
    let e : c.insert.new.self.entries ≡ c.args.parts.now.entries ++ (c.args.part.least, c.args.part) ∷ []
    = c.in_ok-insert.ensures.entries ∙ insert_entry-new nat_eq c.args.parts.now c.args.part.least c.args.part (is_new c.args.parts.now.entries c.args.part.least c.requires) in
    ap values_of e ∙ values_push c.args.parts.now.entries c.args.part.least c.args.part

pub returns-clause-below : goal.returns-clause-below
returns-clause-below c =
    let e : c.insert.new.self.entries ≡ c.args.parts.now.entries ++ (c.args.part.least, c.args.part) ∷ []
    = c.in_ok-insert.ensures.entries ∙ insert_entry-new nat_eq c.args.parts.now c.args.part.least c.args.part (is_new c.args.parts.now.entries c.args.part.least c.requires) in
    subst (λ (es : List (ℕ × Part)). All (λ v. v ≤ c.args.part.least) (keys_of es)) (sym e) (keys_push c.args.parts.now.entries c.args.part.least c.args.part c.requires)
