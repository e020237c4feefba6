use Rattle.std.proofs.Common.{◌≡◌, ◌∙◌, ap₂, refl, sym}
use Rattle.commands.specs.Headline.{text_of_volume}
use Rattle.commands.proofs.extracting.write_mesh.Goals as goal

pub returns-in-Ok-put_text : goal.returns-in-Ok-put_text
returns-in-Ok-put_text g c v grid samples padded =
    let same : c.in-Ok.mesh ≡ record { grid = v.grid; samples = v.samples; level = c.args.asked.level }
    = c.in-Ok.ensures ∙ ap₂ (λ grid samples. record { grid = grid; samples = samples; level = c.args.asked.level }) (sym grid) (sym samples) in
    let put = c.in-Ok-put_text.ensures v c.args.asked.level padded same in
    (text_of_volume c.args.asked.format c.args.asked.level v, refl, put.gained, put.beside)

pub returns : goal.returns
returns g c v grid samples padded =
    let same : c.in-Ok.mesh ≡ record { grid = v.grid; samples = v.samples; level = c.args.asked.level }
    = c.in-Ok.ensures ∙ ap₂ (λ grid samples. record { grid = grid; samples = samples; level = c.args.asked.level }) (sym grid) (sym samples) in
    let put = c.in-Err.ensures v c.args.asked.level padded same in
    (text_of_volume c.args.asked.format c.args.asked.level v, refl, put.cause.failed, put.gained, put.beside)
