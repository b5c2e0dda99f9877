use Rattle.std.proofs.Common.{◌≡◌, ◌+◌, ◌++◌, length, vec_len}
use Rattle.std.specs.Prelude.{vec_capacity}
use Rattle.std.specs.Vec.Iter.{into_iter_items}
use Rattle.served_assembly.specs.Parting.{doors_in}
use Rattle.served_assembly.proofs.parting.take_back.Given as goal

-- the doors so far, with those of the jobs that are left, and the room for these
abbrev pub invariant-loop-job : goal.invariant-loop-job
invariant-loop-job g l = record {
  made : l.doors.items ++ doors_in (into_iter_items l.job-iterator) ≡ doors_in l.fn.jobs.items;
  room : vec_len l.doors + length (doors_in (into_iter_items l.job-iterator)) ≡ vec_capacity l.doors;
}
