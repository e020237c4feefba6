use Rattle.std.proofs.Common.{All, ◌∙◌, subst, sym}
use Rattle.std.proofs.lemmas.List.{map-id}
use Rattle.packed_samples.proofs.numbers.pack.Goals as goal

pub copy_all-requires-clause-fits : goal.copy_all-requires-clause-fits
copy_all-requires-clause-fits g c = subst (All g.T.Packed.Fits) (sym (map-id c.args.samples.now)) c.requires.fits

pub returns : goal.returns
returns g c = c.copy_all.ensures ∙ map-id c.args.samples.now
