use Rattle.std.proofs.Common.{rules, ℕ, ◌+◌, List, length, refl, ap, subst, ◌∙◌, sym}
use Rattle.std.specs.Prelude.{Vec}
use Rattle.std.specs.List.{AllByRecursion}
use Rattle.std.specs.Vec.Iter.{into_iter_items}
use Rattle.std.specs.declared.alloc.Global.{Global}
use Rattle.served_doors.specs.Ledger.{ledger}
use Rattle.served_doors.specs.Opening.{AreOpen, AreSome, HasRoom, IsFresh}
use Rattle.served_doors.proofs.Ledgers.{next_split, next_count, node_gives, all_some, all_more}
use Rattle.served_doors.proofs.opening.fill_all.Goals as goal

pub returns-then-not-is_full-clause-gives : goal.returns-then-not-is_full-clause-gives
returns-then-not-is_full-clause-gives g c =
    let book = ledger g.L.Doors.given g.L.Doors.returned g.L.Doors.faults in
    node_gives c.unwrap-node.result c.loop-room.opened.items c.push_reserved.new.self.items c.fill-of_node.result.0 (book c.args.doors.now) (book c.loop-room.doors) (book c.fill-of_node.new.doors) c.push_reserved.ensures.items c.loop-room.invariant.gives c.fill-of_node.ensures.gives

pub returns-then-not-is_full-clause-some : goal.returns-then-not-is_full-clause-some
returns-then-not-is_full-clause-some g c =
    let Fresh = IsFresh g.L.Door.Door.given g.L.Door.Door.returned g.L.Door.Door.faults in
    subst (λ (lists : List (Vec g.row.L-Door.Denot Global)). AllByRecursion (AreSome Fresh c.args.each) lists) (sym c.push_reserved.ensures.items)
    (all_more (AreSome Fresh c.args.each) c.loop-room.opened.items c.fill-of_node.result.0 (all_some Fresh c.args.each c.loop-room.opened.items c.loop-room.invariant.all) c.fill-of_node.ensures.some)

pub returns-clause-some : goal.returns-clause-some
returns-clause-some g c =
    all_some (IsFresh g.L.Door.Door.given g.L.Door.Door.returned g.L.Door.Door.faults) c.args.each c.loop-room.opened.items c.loop-room.invariant.all

pub loop-room-preserved : goal.loop-room-preserved
loop-room-preserved g c =
    let book = ledger g.L.Doors.given g.L.Doors.returned g.L.Doors.faults in
    let Fresh = IsFresh g.L.Door.Door.given g.L.Door.Door.returned g.L.Door.Door.faults in
    let full = c.fill-of_node.ensures.all (search rules) in
    let count = next_count c.loop-room.yielded c.in-Some.room (length c.loop-room.yielded) refl in
    let left = subst (λ (lists : List (Vec g.row.L-Door.Denot Global)). AllByRecursion (HasRoom c.args.each) lists) c.in-Some.ensures.steps.0 c.loop-room.invariant.left in
    record {
      split = next_split c.args.rooms.items c.loop-room.yielded (into_iter_items c.loop-room.room-iterator) (into_iter_items c.next.new.self) c.in-Some.room c.loop-room.invariant.split c.in-Some.ensures.steps.0;
      count = next_count c.loop-room.yielded c.in-Some.room c.loop-room.number c.loop-room.invariant.count;
      opened = c.push_reserved.ensures.len ∙ ap (λ (n : ℕ). n + 1) c.loop-room.invariant.opened ∙ count;
      room = search rules;
      left = left.1;
      all = subst (λ (lists : List (Vec g.row.L-Door.Denot Global)). AllByRecursion (AreOpen Fresh c.args.each) lists) (sym c.push_reserved.ensures.items)
          (all_more (AreOpen Fresh c.args.each) c.loop-room.opened.items c.fill-of_node.result.0 c.loop-room.invariant.all (record { all = full; fresh = c.fill-of_node.ensures.some.fresh }));
      gives = node_gives c.unwrap-node.result c.loop-room.opened.items c.push_reserved.new.self.items c.fill-of_node.result.0 (book c.args.doors.now) (book c.loop-room.doors) (book c.fill-of_node.new.doors) c.push_reserved.ensures.items c.loop-room.invariant.gives c.fill-of_node.ensures.gives;
    }
