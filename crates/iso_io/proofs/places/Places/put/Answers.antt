use Rattle.std.proofs.Common.{◌≡◌, ◌∙◌, sym, ap, inl, refl, arith, length, ◌<◌}
use Rattle.iso_io.specs.Places.{Places, has_place, placed}
use Rattle.iso_io.proofs.Placing.{on_ok}
use Rattle.iso_io.proofs.Reserved.{no_free, fails_found, fails_new, placed_found, placed_new, is_within}
use Rattle.iso_io.proofs.places.Places.put.Goals as goal

pub returns-then-self-len-clause-fails : goal.returns-then-self-len-clause-fails
returns-then-self-len-clause-fails c =
    let none = rw c.deref.ensures.value at c.in-None.ensures in
    let no = no_free c.self.inside.all.items c.self.inside.used c.self.inside.room c.args.name.now (omega (arith, c.if-self-len.true)) none in
    (λ _. inl (ap (λ (p : Places). has_place p c.args.name.now) (sym c.self.view_is) ∙ no), λ _. refl)

pub returns-in_err-fill-in-None-clause-fails : goal.returns-in_err-fill-in-None-clause-fails
returns-in_err-fill-in-None-clause-fails c =
    let none = rw c.deref.ensures.value at c.in-None.ensures in
    let lt : c.self.inside.used < length c.self.inside.all.items = omega (arith, c.if-self-len.false, c.self.invariant.used) in
    let own : c.index_mut-in-None.result.now.room ≡ c.self.inside.room = rw (← c.index_mut-in-None.ensures.value) at (c.self.invariant.rooms c.self.inside.used c.index_mut-in-None.result.now lt) in
    fails_new c.self.inside.all.items c.self.inside.used c.self.inside.room c.args.self.now c.args.name.now (length c.args.bytes.now) c.index_mut-in-None.result.now c.self.view_is none lt own
    (λ _. c.in_err-fill-in-None.ensures.fails.0 refl, λ _. c.from_residual.ensures.0)

pub returns-in-Some-clause-fails : goal.returns-in-Some-clause-fails
returns-in-Some-clause-fails c =
    let found = rw c.deref.ensures.value at c.in-Some.ensures in
    let lt = is_within c.self.inside.all.items c.args.name.now c.in-Some.i c.self.inside.used found in
    let own : c.index_mut.result.now.room ≡ c.self.inside.room = rw (← c.index_mut.ensures.value) at (c.self.invariant.rooms c.in-Some.i c.index_mut.result.now lt.1) in
    fails_found c.self.inside.all.items c.self.inside.used c.self.inside.room c.args.self.now c.args.name.now (length c.args.bytes.now) c.in-Some.i c.index_mut.result.now c.self.view_is found c.index_mut.ensures.value own c.replace.ensures.fails

pub returns-in-Some-clause-placed : goal.returns-in-Some-clause-placed
returns-in-Some-clause-placed c =
    let found = rw c.deref.ensures.value at c.in-Some.ensures in
    on_ok c.replace.result _ _
    (λ new. placed_found c.self.inside.all.items c.self.inside.used c.self.inside.room c.args.name.now c.args.bytes.now c.in-Some.i c.index_mut.result.now c.replace.new.self found c.index_mut.ensures.value (ap (λ p. p.name) new) (ap (λ p. p.bytes) new)
    ∙ ap (λ (p : Places). placed p c.args.name.now c.args.bytes.now) c.self.view_is)
    c.replace.ensures.replaced

pub returns-in_ok-fill-in-None-clause-placed : goal.returns-in_ok-fill-in-None-clause-placed
returns-in_ok-fill-in-None-clause-placed c =
    let none = rw c.deref.ensures.value at c.in-None.ensures in
    let lt : c.self.inside.used < length c.self.inside.all.items = omega (arith, c.if-self-len.false, c.self.invariant.used) in
    let new = c.in_ok-fill-in-None.ensures.filled in
    placed_new c.self.inside.all.items c.self.inside.used c.self.inside.room c.args.name.now c.args.bytes.now c.fill.new.self none lt (ap (λ p. p.name) new) (ap (λ p. p.bytes) new)
    ∙ ap (λ (p : Places). placed p c.args.name.now c.args.bytes.now) c.self.view_is
