use Rattle.std.proofs.Common.{rules, ◌∙◌, sym}
use Rattle.std.specs.Vec.Iter.{into_iter_items}
use Rattle.served_doors.specs.Ledger.{ledger}
use Rattle.served_doors.proofs.Ledgers.{takes_none, next_split, one_lent, one_back, all_lent}
use Rattle.served_doors.proofs.closing.return_doors_of.Goals as goal

pub loop-door-init : goal.loop-door-init
loop-door-init g c = record {
  split = search rules;
  back = takes_none g.L.Door.Door.faults (ledger g.L.Doors.given g.L.Doors.returned g.L.Doors.faults c.args.doors.now);
}

pub back-requires : goal.back-requires
back-requires g c =
    let book = ledger g.L.Doors.given g.L.Doors.returned g.L.Doors.faults in
    one_lent g.L.Door.Door.faults c.args.node c.args.of_node.items c.loop-door.yielded (into_iter_items c.loop-door.door-iterator) (into_iter_items c.next.new.self) c.in-Some.door (book c.args.doors.now) (book c.loop-door.doors)
    c.loop-door.invariant.split c.in-Some.ensures.steps.0 c.loop-door.invariant.back (rw c.args.of_node.ok.0 at c.requires)

pub loop-door-preserved : goal.loop-door-preserved
loop-door-preserved g c =
    let book = ledger g.L.Doors.given g.L.Doors.returned g.L.Doors.faults in
    record {
      split = next_split c.args.of_node.items c.loop-door.yielded (into_iter_items c.loop-door.door-iterator) (into_iter_items c.next.new.self) c.in-Some.door c.loop-door.invariant.split c.in-Some.ensures.steps.0;
      back = one_back g.L.Door.Door.faults c.args.node c.loop-door.yielded c.in-Some.door (book c.args.doors.now) (book c.loop-door.doors) (book c.back.new.self) c.loop-door.invariant.back
          (record { given = c.back.ensures.given; returned = c.back.ensures.returned; later = c.back.ensures.counted; counted = (c.back.ensures.faults, tt) });
    }

pub returns-clause-lent : goal.returns-clause-lent
returns-clause-lent g c k lent =
    let book = ledger g.L.Doors.given g.L.Doors.returned g.L.Doors.faults in
    all_lent g.L.Door.Door.faults c.args.node c.args.of_node.items c.loop-door.yielded (into_iter_items c.loop-door.door-iterator) (book c.args.doors.now) (book c.loop-door.doors)
    c.loop-door.invariant.split (sym c.loop-door.door-iterator.rest.ok.0 ∙ c.in-None.ensures.steps.0) c.loop-door.invariant.back k (rw c.args.of_node.ok.0 at lent)
