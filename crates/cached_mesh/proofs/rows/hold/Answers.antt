use Rattle.std.proofs.Common.{◌≡◌, ◌%◌, ◌∙◌, false, length-set, subst, sym, arith}
use Rattle.std.proofs.lemmas.List.{get_or_default}
use Rattle.std.proofs.lemmas.List.Elements.{All-set}
use Rattle.brick_mesh.specs.Slices.{IsSliceOf}
use Rattle.mesh_cache.specs.Economy.{is_fresh}
use Rattle.cached_mesh.specs.Held.{MaySign}
use Rattle.cached_mesh.specs.Slices.{HaveSlice}
use Rattle.cached_mesh.proofs.Filled.{fresh_held}
use Rattle.cached_mesh.proofs.Signing.{signed_here, waits_held}
use Rattle.cached_mesh.proofs.rows.hold.Goals as goal

pub returns-then-has_slice-clause-cased : goal.returns-then-has_slice-clause-cased
returns-then-has_slice-clause-cased c = λ _. record {
  here = λ other.
      subst (HaveSlice c.args.brick.0 c.args.z) (get_or_default c.args.held.now.slices.now (c.args.brick.0 % 256) _ other (omega (arith, c.requires.held.places)))
      c.if-has_slice.ensures;
}

pub returns-then-has_slice-clause-kept : goal.returns-then-has_slice-clause-kept
returns-then-has_slice-clause-kept c =
    sym (fresh_held c.args.store.now c.args.level c.args.cache.now.items c.args.brick.0 c.args.z _
    (c.requires.held.slices (c.args.brick.0 % 256) _ (omega (arith, c.requires.held.places))) c.if-has_slice.ensures)

pub returns-then-has-clause-signed : goal.returns-then-has-clause-signed
returns-then-has-clause-signed c = λ _. record {
  here = λ other.
      subst (IsSliceOf c.args.brick.0 c.args.z) (get_or_default c.args.held.now.signed.now (c.args.brick.0 % 256) _ other (omega (arith, c.requires.held.signs)))
      c.if-has.ensures;
}

pub returns-then-has-clause-kept : goal.returns-then-has-clause-kept
returns-then-has-clause-kept c =
    sym (waits_held c.args.store.now c.args.level c.args.cache.now.items c.args.brick.0 c.args.z _
    (c.requires.held.signed (c.args.brick.0 % 256) _ (omega (arith, c.requires.held.signs))) c.if-has.ensures c.requires.z)

pub returns-clause-held : goal.returns-clause-held
returns-clause-held c = record {
  places = c.if-hold_anew.ensures.places;
  signs = length-set c.args.held.now.signed.now (c.args.brick.0 % 256) _ ∙ c.requires.held.signs;
  slices = c.if-hold_anew.ensures.held;
  signed = All-set (MaySign c.args.store.now c.args.level c.args.cache.now.items) c.args.held.now.signed.now (c.args.brick.0 % 256) _
      (λ low. record {
        waits = subst (λ n. is_fresh n c.args.level c.args.cache.now.items ≡ false) (sym c.move_to.ensures.here.same_brick) (sym c.hold_anew.ensures.kept ∙ c.if-hold_anew.false);
        signs = c.move_to.ensures.signed;
      }) c.requires.held.signed;
}

pub returns-clause-signed : goal.returns-clause-signed
returns-clause-signed c = λ _. signed_here c.args.brick.0 c.args.z c.args.held.now.signed.now _ c.requires.held.signs c.move_to.ensures.here
