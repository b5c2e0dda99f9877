use Rattle.std.proofs.Common.{◌+◌, ◌≤◌, length, ap, arith, vec_capacity}
use Rattle.std.proofs.lemmas.List.{length-map}
use Rattle.cs_store.specs.Images.{complement}
use Rattle.cs_store.specs.MemFile.{Content}
use Rattle.cs_store.specs.MemParts.{room_of}
use Rattle.cs_store.proofs.MemLemmas.{written_sound}
use Rattle.cs_store.proofs.mem_file.MemFile.write_at.Goals as goal

pub invariant_of-self : goal.invariant_of-self
invariant_of-self c =
    let old = c.self.inside in
    let bytes = c.args.bytes.now in
    let size = ap (λ (x : Content). length x.images.kept) c.self.view_is in
    let room = ap (λ (x : Content). x.room) c.self.view_is in
    let before = room_of (vec_capacity old.kept) (vec_capacity old.lost) (vec_capacity old.torn) in
    let after = room_of (vec_capacity c.overwrite.new.there) (vec_capacity old.lost) (vec_capacity c.overwrite_torn.new.there) in
    let within : c.args.at ≤ length old.kept.items = omega (arith, size, c.requires.place) in
    let fits : c.args.at + length bytes ≤ before = omega (arith, room, c.requires.room) in
    let more : before ≤ after = omega (arith, c.overwrite.ensures.room, c.overwrite_torn.ensures.room) in
    rw (c.overwrite.ensures.items, c.overwrite_torn.ensures.items, c.min-self-inside.ensures)
    (written_sound old.kept.items old.lost.items old.torn.items old.settled before after c.args.at bytes (complement bytes) c.self.invariant within fits more (length-map bytes _))
