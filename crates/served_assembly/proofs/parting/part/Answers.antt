use Rattle.std.proofs.Common.{◌∙◌, ap, map, sym}
use Rattle.std.specs.List.{list_any, position}
use Rattle.std.specs.Vec.Iter.{into_iter_items}
use Rattle.served_assembly.specs.declared.parting.Apart.{Apart}
use Rattle.served_assembly.proofs.Endings.{maps_end}
use Rattle.served_assembly.proofs.parting.part.Goals as goal

pub returns : goal.returns
returns g c =
    let A = Apart g.row.R.Denot g.row.D.Denot g.row.R-Disk.Denot in
    let was = c.loop-apart.invariant in
    let rest = into_iter_items c.loop-apart.apart-iterator in
    let none = sym c.loop-apart.apart-iterator.rest.ok.0 ∙ c.in-None.ensures.steps.0 in
    record {
      nodes = maps_end (λ (a : A). a.node) (map (λ (a : A). a.node) c.args.aparts.items) rest c.loop-apart.nodes.items was.nodes none;
      links = maps_end (λ (a : A). a.links) (map (λ (a : A). a.links) c.args.aparts.items) rest c.loop-apart.links.items was.links none;
      doors = maps_end (λ (a : A). a.doors) (map (λ (a : A). a.doors) c.args.aparts.items) rest c.loop-apart.doors.items was.doors none;
      full = c.first_full-full.ensures ∙ ap (position (λ (a : A). a.is_full)) c.deref.ensures.value;
      door_failed = c.door_failed_of-door_failed.ensures ∙ ap (list_any (λ (a : A). a.door_failed)) c.deref-2.ensures.value;
      unstarted = c.unstarted_of-unstarted.ensures ∙ ap (list_any (λ (a : A). a.unstarted)) c.deref-3.ensures.value;
    }
