use Rattle.std.proofs.Common.{◌≡◌, ℕ, ◌≤◌, ◌++◌, length}
use Rattle.std.specs.Vec.Iter.{into_iter_items}
use Rattle.node_core.specs.declared.node.Node.{Node}
use Rattle.served_stores.specs.Releasing.{AreBackFrom}
use Rattle.served_stores.specs.Shown.{IsSameAt, shown}
use Rattle.served_stores.proofs.releasing.release_nodes.Given as goal

-- the stores of the nodes so far are back
abbrev pub invariant-loop-node : goal.invariant-loop-node
invariant-loop-node g l =
    let show = shown g.D.Stores.holds g.D.Stores.faults g.D.Stores.taken g.D.Stores.is_out in
    record {
      split : l.yielded ++ into_iter_items l.node-iterator ≡ l.fn.nodes.items;
      count : l.number ≡ length l.yielded;
      back : AreBackFrom g.R.Disk.Store.is_honest (λ (node : Node g.row.R.Denot g.row.R-Disk.Denot). (g.R.Disk.Store.disk (g.R.Replica.disk node.replica)).seen) (λ (node : Node g.row.R.Denot g.row.R-Disk.Denot). g.R.Disk.Store.faults (g.R.Replica.disk node.replica)) 0 l.yielded (show l.fn.stores) (show l.stores);
      others : (n : ℕ) → l.number ≤ n → IsSameAt n (show l.fn.stores) (show l.stores);
    }
