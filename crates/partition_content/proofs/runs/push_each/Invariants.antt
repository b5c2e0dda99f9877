use Rattle.std.proofs.Common.{◌≡◌, ◌+◌, ◌++◌, ◌≤◌, map, vec_len, vec_capacity}
use Rattle.std.specs.Vec.Iter.{into_iter_items, into_iter_len}
use Rattle.partition_content.specs.Runs.{arrived_at}
use Rattle.partition_content.proofs.runs.push_each.Given as goal

-- those so far stand behind the run, and there is room for the others
abbrev pub invariant-loop-x : goal.invariant-loop-x
invariant-loop-x l = record {
  items : l.run.items ++ map (arrived_at l.at) (into_iter_items l.x-iterator) ≡ l.fn.run.items ++ map (arrived_at l.at) l.fn.changes.items;
  room : vec_len l.run + into_iter_len l.x-iterator ≤ vec_capacity l.run;
}
