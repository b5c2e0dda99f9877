use Rattle.std.proofs.Common.{◌≡◌, ◌+◌, ◌++◌, length, map, vec_len}
use Rattle.std.specs.Prelude.{vec_capacity}
use Rattle.std.specs.Vec.Iter.{into_iter_items}
use Rattle.served_assembly.specs.declared.parting.Apart.{Apart}
use Rattle.served_assembly.proofs.parting.part.Given as goal

-- what each list has so far, with what the rest will give it, and the room for this
abbrev pub invariant-loop-apart : goal.invariant-loop-apart
invariant-loop-apart g l =
    let rest = into_iter_items l.apart-iterator in
    record {
      nodes : l.nodes.items ++ map (λ (a : Apart g.row.R.Denot g.row.D.Denot g.row.R-Disk.Denot). a.node) rest ≡ map (λ (a : Apart g.row.R.Denot g.row.D.Denot g.row.R-Disk.Denot). a.node) l.fn.aparts.items;
      links : l.links.items ++ map (λ (a : Apart g.row.R.Denot g.row.D.Denot g.row.R-Disk.Denot). a.links) rest ≡ map (λ (a : Apart g.row.R.Denot g.row.D.Denot g.row.R-Disk.Denot). a.links) l.fn.aparts.items;
      doors : l.doors.items ++ map (λ (a : Apart g.row.R.Denot g.row.D.Denot g.row.R-Disk.Denot). a.doors) rest ≡ map (λ (a : Apart g.row.R.Denot g.row.D.Denot g.row.R-Disk.Denot). a.doors) l.fn.aparts.items;
      node_room : vec_len l.nodes + length rest ≡ vec_capacity l.nodes;
      link_room : vec_len l.links + length rest ≡ vec_capacity l.links;
      door_room : vec_len l.doors + length rest ≡ vec_capacity l.doors;
    }
