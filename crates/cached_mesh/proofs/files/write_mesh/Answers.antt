use Rattle.std.proofs.Common.{◌≡◌, subst, sym, rules}
use Rattle.mesh_cache.specs.Economy.{IsRight}
use Rattle.span_tree.specs.Spans.{IsRightFor}
use Rattle.cached_mesh.specs.declared.files.KeptVolume.{KeptVolume}
use Rattle.cached_mesh.specs.declared.room.MeshRoom.{MeshRoom}
use Rattle.cached_mesh.specs.Rooms.{IsRoomFor}
use Rattle.cached_mesh.proofs.files.write_mesh.Goals as goal

-- the room of the text is the one that was lent
still_fits : (v u : KeptVolume) (lent room : MeshRoom) → u ≡ v → room ≡ lent → IsRoomFor v.store.now v.level lent → IsRoomFor u.store.now u.level room
still_fits v u lent room same_volume same_room fits =
    subst (λ (v : KeptVolume). IsRoomFor v.store.now v.level room) (sym same_volume) (subst (IsRoomFor v.store.now v.level) (sym same_room) fits)

pub write_file-requires-clause-text : goal.write_file-requires-clause-text
write_file-requires-clause-text g c =
    let text = c.new-text.ensures in
    record {
      tree = subst (λ (v : KeptVolume). IsRightFor v.tree.now v.store.now) (sym text.volume) c.requires.tree;
      items = subst (λ (v : KeptVolume). IsRight v.store.now.grid v.store.now.samples v.cache.now.items) (sym text.volume) c.requires.items;
      room = still_fits c.args.volume.now c.new-text.result.volume.now c.args.room.now c.new-text.result.room.now text.volume text.room c.requires.room;
    }

pub returns-clause-written : goal.returns-clause-written
returns-clause-written g c =
    rw (c.new-text.ensures.volume, c.new-text.ensures.format) at c.write_file.ensures.tells

pub returns-clause-room : goal.returns-clause-room
returns-clause-room g c =
    let v = c.args.volume.now in
    let kept : IsRoomFor v.store.now v.level c.write_file.new.text.room.now
    = subst (λ (v : KeptVolume). IsRoomFor v.store.now v.level c.write_file.new.text.room.now) c.new-text.ensures.volume
    (c.write_file.ensures.keeps.room
    (still_fits v c.new-text.result.volume.now c.args.room.now c.new-text.result.room.now c.new-text.ensures.volume c.new-text.ensures.room c.requires.room)) in
    subst (IsRoomFor v.store.now v.level) (sym (c.room-1.given.1 (search (rules, c.write_file.ensures.keeps.same_room, c.new-text.ensures.same_room)))) kept

pub returns-clause-most : goal.returns-clause-most
returns-clause-most g c =
    let most = rw (c.new-text.ensures.volume, c.new-text.ensures.steps) at c.write_file.ensures.keeps.most in
    search (rules, most)
