use Rattle.std.proofs.Common.{◌≡◌, ◌∙◌, None, Ok, Some, ap, refl, rules, sym, subst, to_z, of_z, w64, ℤ}
use Rattle.std.specs.Prelude.{IfSome, Option}
use Rattle.std.proofs.lemmas.Int.{to_z-of_z}
use Rattle.iso_base.specs.Volume.{IsSample, Volume, unpadded}
use Rattle.iso_base.proofs.VolumeLaws.{unpadded_is}
use Rattle.command_terms.specs.Volumes.{with_pad}
use Rattle.command_terms.proofs.Passed.{passed_on}
use Rattle.commands.specs.Volumes.{IsNotTaken}
use Rattle.commands.proofs.Taken.{padded_store, same_padded}
use Rattle.commands.proofs.volumes.bricks_of.Goals as goal

pub returns-in_err-padded-in-Some-clause-fault : goal.returns-in_err-padded-in-Some-clause-fault
returns-in_err-padded-in-Some-clause-fault g c =
    let v : Volume = unpadded (record { grid = c.args.sizes; kind = c.args.kind; samples = g.S.Samples.list c.args.samples.now }) in
    let back : to_z w64 (of_z w64 c.in-Some.pad) ≡ c.in-Some.pad = search (rules, to_z-of_z) in
    let fault = c.in_err-padded-in-Some.field-0.0 in
    passed_on c.from_residual-in_err-padded-in-Some.result (λ reason. reason) fault (IsNotTaken c.args.pad c.args.level v) c.from_residual-in_err-padded-in-Some.ensures.1
    (subst (λ (o : Option ℤ). IsNotTaken o c.args.level v fault) (sym (c.in-Some.is ∙ ap Some (sym back))) (c.in_err-padded-in-Some.ensures.fault v refl))

pub of_samples-requires-in-Some : goal.of_samples-requires-in-Some
of_samples-requires-in-Some g c =
    let v : Volume = unpadded (record { grid = c.args.sizes; kind = c.args.kind; samples = g.S.Samples.list c.args.samples.now }) in
    let pad : ℤ = to_z w64 (of_z w64 c.in-Some.pad) in
    let back : pad ≡ c.in-Some.pad = search (rules, to_z-of_z) in
    let range : IsSample pad = subst (λ (o : Option ℤ). IfSome o IsSample) (c.in-Some.is ∙ ap Some (sym back)) c.requires.range in
    padded_store v c.in_ok-padded-in-Some.padded c.sizes.result pad c.in_ok-padded-in-Some.ensures.view c.sizes.ensures.value
    (unpadded_is (record { grid = c.args.sizes; kind = c.args.kind; samples = g.S.Samples.list c.args.samples.now }) c.requires.voxels) refl range c.sizes.ensures.valid.grid

pub returns-in_ok-store-in-Some-clause-volume : goal.returns-in_ok-store-in-Some-clause-volume
returns-in_ok-store-in-Some-clause-volume g c =
    let v : Volume = unpadded (record { grid = c.args.sizes; kind = c.args.kind; samples = g.S.Samples.list c.args.samples.now }) in
    let pad : ℤ = to_z w64 (of_z w64 c.in-Some.pad) in
    let back : pad ≡ c.in-Some.pad = search (rules, to_z-of_z) in
    let same = same_padded v c.in_ok-padded-in-Some.padded c.sizes.result pad c.in_ok-padded-in-Some.ensures.view c.sizes.ensures.value in
    ap (λ (o : Option ℤ). with_pad o c.args.level v) (c.in-Some.is ∙ ap Some (sym back)) ∙ c.in_ok-padded-in-Some.ensures.volume v refl
    ∙ ap Ok (sym (c.in_ok-store-in-Some.ensures ∙ same))
