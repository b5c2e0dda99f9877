use Rattle.std.proofs.Common.{rules, ◌≡◌, ◌≢◌, ℕ, List, length, ap, subst, ◌∙◌, sym, arith}
use Rattle.std.specs.Vec.Iter.{into_iter_items}
use Rattle.node_core.specs.declared.node.Node.{Node}
use Rattle.served_stores.specs.Releasing.{AreBackFrom, IsBackAt}
use Rattle.served_stores.specs.Shown.{shown}
use Rattle.served_stores.proofs.Backing.{more_back, same_on}
use Rattle.served_stores.proofs.Lists.{next_split, next_count, all_passed}
use Rattle.served_stores.proofs.releasing.release_nodes.Goals as goal

pub loop-node-preserved : goal.loop-node-preserved
loop-node-preserved g c =
    let show = shown g.D.Stores.holds g.D.Stores.faults g.D.Stores.taken g.D.Stores.is_out in
    let me : c.unwrap-me.result ≡ c.loop-node.number = search rules in
    let seen_of = λ (node : Node g.row.R.Denot g.row.R-Disk.Denot). (g.R.Disk.Store.disk (g.R.Replica.disk node.replica)).seen in
    let count_of = λ (node : Node g.row.R.Denot g.row.R-Disk.Denot). g.R.Disk.Store.faults (g.R.Replica.disk node.replica) in
    let one = subst (λ (n : ℕ). IsBackAt g.R.Disk.Store.is_honest (seen_of c.in-Some.node) (count_of c.in-Some.node) n (show c.loop-node.stores) (show c.release_node.new.stores)) me c.release_node.ensures.back in
    let others = λ (k : ℕ) (apart : k ≢ c.loop-node.number). c.release_node.ensures.others k (λ e. apart (e ∙ me)) in
    record {
      split = next_split c.args.nodes.items c.loop-node.yielded (into_iter_items c.loop-node.node-iterator) (into_iter_items c.next.new.self) c.in-Some.node c.loop-node.invariant.split c.in-Some.ensures.steps.0;
      count = next_count c.loop-node.yielded c.in-Some.node c.loop-node.number c.loop-node.invariant.count;
      back = more_back g.R.Disk.Store.is_honest seen_of count_of c.loop-node.number c.loop-node.yielded c.in-Some.node (show c.args.stores.now) (show c.loop-node.stores) (show c.release_node.new.stores) c.loop-node.invariant.count c.loop-node.invariant.back c.loop-node.invariant.others one others;
      others = λ n le. same_on n (show c.args.stores.now) (show c.loop-node.stores) (show c.release_node.new.stores) (c.loop-node.invariant.others n (omega (arith, le))) (others n (λ e. absurd (omega (arith, le, e))));
    }

pub returns-clause-back : goal.returns-clause-back
returns-clause-back g c =
    let show = shown g.D.Stores.holds g.D.Stores.faults g.D.Stores.taken g.D.Stores.is_out in
    let seen_of = λ (node : Node g.row.R.Denot g.row.R-Disk.Denot). (g.R.Disk.Store.disk (g.R.Replica.disk node.replica)).seen in
    let count_of = λ (node : Node g.row.R.Denot g.row.R-Disk.Denot). g.R.Disk.Store.faults (g.R.Replica.disk node.replica) in
    let all = all_passed c.args.nodes.items c.loop-node.yielded (into_iter_items c.loop-node.node-iterator) c.loop-node.invariant.split (sym c.loop-node.node-iterator.rest.ok.0 ∙ c.in-None.ensures.steps.0) in
    subst (λ (xs : List (Node g.row.R.Denot g.row.R-Disk.Denot)). AreBackFrom g.R.Disk.Store.is_honest seen_of count_of 0 xs (show c.args.stores.now) (show c.loop-node.stores)) all c.loop-node.invariant.back

pub returns-clause-others : goal.returns-clause-others
returns-clause-others g c n le =
    let all = all_passed c.args.nodes.items c.loop-node.yielded (into_iter_items c.loop-node.node-iterator) c.loop-node.invariant.split (sym c.loop-node.node-iterator.rest.ok.0 ∙ c.in-None.ensures.steps.0) in
    let long = ap length all in
    let ok = c.args.nodes.ok.0 in
    let count = c.loop-node.invariant.count in
    c.loop-node.invariant.others n (omega (arith, le, long, ok, count))
