use Rattle.std.proofs.Common.{sym, subst, ◌∙◌, arith}
use Rattle.std.specs.List.{AllByRecursion}
use Rattle.std.specs.Vec.Iter.{into_iter_items}
use Rattle.served_links.specs.declared.ends.NodeLinks.{NodeLinks}
use Rattle.wired_node.specs.Sending.{AreDistinct}
use Rattle.served_assembly.specs.Assembling.{IsAssembled, Runs}
use Rattle.served_assembly.proofs.Places.{count_a, have_more, have_none}
use Rattle.served_assembly.proofs.assembling.assemble.Goals as goal

pub loop-node-init : goal.loop-node-init
loop-node-init g c =
    let nodes = c.into_iter-node-iterator.ensures.into_iter_gives.0 in
    let ends = c.into_iter-links.ensures.rest in
    record {
      have = have_none IsAssembled c.args.nodes.items c.args.links.items c.args.doors.items (into_iter_items c.into_iter-node-iterator.result) (into_iter_items c.into_iter-links.result) (into_iter_items c.into_iter-doors.result) c.in_ok-parts.parts.items
          nodes ends c.into_iter-doors.ensures.rest c.in_ok-parts.ensures.items;
      runs = subst (λ xs. AllByRecursion (Runs g.R.Replica.is_whole g.R.Replica.durable g.R.Disk.Store.is_honest) xs) (sym nodes) c.requires.runs;
      distinct = subst (λ xs. AllByRecursion (λ (a : NodeLinks). AreDistinct a.senders.items) xs) (sym ends) c.requires.distinct;
      room = c.in_ok-parts.ensures.exact ∙ c.len.ensures;
    }

pub loop-node-preserved : goal.loop-node-preserved
loop-node-preserved g c =
    let was = c.loop-node.invariant in
    let node = c.in-Some.ensures.steps.0 in
    let ends = c.in-Some-next.ensures.cases.0 in
    record {
      have = have_more IsAssembled c.args.nodes.items c.args.links.items c.args.doors.items (into_iter_items c.loop-node.node-iterator) (into_iter_items c.next.new.self) (into_iter_items c.loop-node.links) (into_iter_items c.next-in-loop-node.new.self)
          (into_iter_items c.loop-node.doors) (into_iter_items c.next-in-loop-node-2.new.self) c.loop-node.parts.items c.push_reserved.new.self.items c.in-Some.node c.in-Some-next.ends c.in-Some-next-2.of_node c.in_ok-assemble_one.field-0
          was.have node ends c.in-Some-next-2.ensures.cases.0 c.push_reserved.ensures.items c.in_ok-assemble_one.ensures;
      runs = (subst (λ xs. AllByRecursion (Runs g.R.Replica.is_whole g.R.Replica.durable g.R.Disk.Store.is_honest) xs) node was.runs).1;
      distinct = (subst (λ xs. AllByRecursion (λ (a : NodeLinks). AreDistinct a.senders.items) xs) ends was.distinct).1;
      room = c.push_reserved.ensures.capacity ∙ was.room;
    }

pub returns : goal.returns
returns g c =
    let was = c.loop-node.invariant in
    let none = sym c.loop-node.node-iterator.rest.ok.0 ∙ c.in-None.ensures.steps.0 in
    let count = count_a IsAssembled c.args.nodes.items c.args.links.items c.args.doors.items (into_iter_items c.loop-node.node-iterator) (into_iter_items c.loop-node.links) (into_iter_items c.loop-node.doors) c.loop-node.parts.items was.have in
    record { count = omega (arith, none, count); each = was.have.each }
