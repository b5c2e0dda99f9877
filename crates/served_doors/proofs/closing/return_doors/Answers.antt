use Rattle.std.proofs.Common.{rules, ◌≡◌, ◌∙◌, sym}
use Rattle.std.specs.Vec.Iter.{into_iter_items}
use Rattle.served_doors.specs.Ledger.{ledger}
use Rattle.served_doors.proofs.Ledgers.{next_split, next_count, node_lent, node_back, nodes_lent}
use Rattle.served_doors.proofs.closing.return_doors.Goals as goal

pub return_doors_of-requires : goal.return_doors_of-requires
return_doors_of-requires g c =
    let book = ledger g.L.Doors.given g.L.Doors.returned g.L.Doors.faults in
    node_lent g.L.Door.Door.faults c.args.of_nodes.items c.loop-of_node.yielded (into_iter_items c.loop-of_node.of_node-iterator) (into_iter_items c.next.new.self) c.in-Some.of_node (book c.args.doors.now) (book c.loop-of_node.doors)
    c.loop-of_node.invariant.split c.in-Some.ensures.steps.0 c.loop-of_node.invariant.back c.requires.lent

pub loop-of_node-preserved : goal.loop-of_node-preserved
loop-of_node-preserved g c =
    let book = ledger g.L.Doors.given g.L.Doors.returned g.L.Doors.faults in
    let here : c.unwrap-node.result ≡ c.loop-of_node.number = search rules in
    record {
      split = next_split c.args.of_nodes.items c.loop-of_node.yielded (into_iter_items c.loop-of_node.of_node-iterator) (into_iter_items c.next.new.self) c.in-Some.of_node c.loop-of_node.invariant.split c.in-Some.ensures.steps.0;
      count = next_count c.loop-of_node.yielded c.in-Some.of_node c.loop-of_node.number c.loop-of_node.invariant.count;
      back = node_back g.L.Door.Door.faults c.unwrap-node.result c.loop-of_node.yielded c.in-Some.of_node (book c.args.doors.now) (book c.loop-of_node.doors) (book c.return_doors_of.new.doors) (here ∙ c.loop-of_node.invariant.count) c.loop-of_node.invariant.back c.return_doors_of.ensures.back;
    }

pub returns-clause-lent : goal.returns-clause-lent
returns-clause-lent g c k lent =
    let book = ledger g.L.Doors.given g.L.Doors.returned g.L.Doors.faults in
    nodes_lent g.L.Door.Door.faults c.args.of_nodes.items c.loop-of_node.yielded (into_iter_items c.loop-of_node.of_node-iterator) (book c.args.doors.now) (book c.loop-of_node.doors)
    c.loop-of_node.invariant.split (sym c.loop-of_node.of_node-iterator.rest.ok.0 ∙ c.in-None.ensures.steps.0) c.loop-of_node.invariant.back k lent
