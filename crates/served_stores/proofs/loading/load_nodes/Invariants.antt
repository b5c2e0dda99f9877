use Rattle.std.proofs.Common.{◌≡◌, ℕ, ◌≤◌, length, vec_len}
use Rattle.std.specs.Prelude.{vec_capacity}
use Rattle.served_stores.specs.Loading.{AreTakenFrom, keeper}
use Rattle.served_stores.specs.Shown.{IsSameAt, shown}
use Rattle.served_stores.proofs.loading.load_nodes.Given as goal

-- the nodes so far are loaded
abbrev pub invariant-loop-number : goal.invariant-loop-number
invariant-loop-number g l =
    let show = shown g.D.Stores.holds g.D.Stores.faults g.D.Stores.taken g.D.Stores.is_out in
    let m = keeper g.R.Disk.Store.is_honest g.R.Replica.stands_for g.R.Replica.durable g.R.Replica.is_whole g.R.Replica.disk g.R.Disk.Store.disk g.R.Disk.Store.faults in
    record {
      count : vec_len l.nodes ≡ l.number;
      room : length l.setting.ring ≤ vec_capacity l.nodes;
      taken : AreTakenFrom m l.setting 0 l.nodes.items (show l.fn.stores) (show l.stores);
      past : (n : ℕ) → l.number ≤ n → IsSameAt n (show l.fn.stores) (show l.stores);
    }
