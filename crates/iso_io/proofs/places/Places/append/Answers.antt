use Rattle.std.proofs.Common.{◌≡◌, ap, length, zero-add}
use Rattle.iso_io.proofs.Placing.{on_ok}
use Rattle.iso_io.proofs.Reserved.{fails_grown, no_content, placed_grown, is_within}
use Rattle.iso_io.proofs.places.Places.append.Goals as goal

pub returns-in-Some-clause-fails : goal.returns-in-Some-clause-fails
returns-in-Some-clause-fails c =
    let found = rw c.deref.ensures.value at c.in-Some.ensures in
    let lt = is_within c.self.inside.all.items c.args.name.now c.in-Some.i c.self.inside.used found in
    let own : c.index_mut.result.now.room ≡ c.self.inside.room = rw (← c.index_mut.ensures.value) at (c.self.invariant.rooms c.in-Some.i c.index_mut.result.now lt.1) in
    fails_grown c.self.inside.all.items c.self.inside.used c.self.inside.room c.args.self.now c.args.name.now (length c.args.bytes.now) c.in-Some.i c.index_mut.result.now c.self.view_is found c.index_mut.ensures.value own c.append.ensures.fails

pub returns-in-Some-clause-placed : goal.returns-in-Some-clause-placed
returns-in-Some-clause-placed c =
    let found = rw c.deref.ensures.value at c.in-Some.ensures in
    on_ok c.append.result _ _
    (λ new. placed_grown c.self.inside.all.items c.self.inside.used c.self.inside.room c.args.self.now c.args.name.now c.args.bytes.now c.in-Some.i c.index_mut.result.now c.append.new.self c.self.view_is found c.index_mut.ensures.value
    (ap (λ p. p.name) new) (ap (λ p. p.bytes) new))
    c.append.ensures.appended

pub returns-in-None-clause-fails : goal.returns-in-None-clause-fails
returns-in-None-clause-fails c =
    let none = rw c.deref.ensures.value at c.in-None.ensures in
    let nothing = no_content c.self.inside.all.items c.self.inside.used c.self.inside.room c.args.self.now c.args.name.now c.self.view_is none in
    rw (nothing, zero-add (length c.args.bytes.now)) c.put.ensures.fails

pub returns-in-None-clause-placed : goal.returns-in-None-clause-placed
returns-in-None-clause-placed c =
    let none = rw c.deref.ensures.value at c.in-None.ensures in
    let nothing = no_content c.self.inside.all.items c.self.inside.used c.self.inside.room c.args.self.now c.args.name.now c.self.view_is none in
    rw nothing c.put.ensures.placed
