use Rattle.std.proofs.Common.{◌≡◌, ◌≤◌, ◌++◌, map, vec_len, vec_capacity, vec_items, ◌+◌}
use Rattle.std.specs.Vec.Iter.{into_iter_items, into_iter_len}
use Rattle.std.specs.List.{AllZip}
use Rattle.cs_base.specs.Faults.{HasRisen}
use Rattle.cs_runtime.specs.Begun.{begun_of}
use Rattle.cs_runtime.specs.Jobs.{EndsMarked}
use Rattle.cs_runtime.proofs.starts.end_all.Given as goal

abbrev pub invariant-loop-one : goal.invariant-loop-one
invariant-loop-one g l =
    AllZip (EndsMarked g.J.Job.ends g.J.Job.works g.J.Job.unstarts (HasRisen l.fn.faults l.faults)) (map begun_of l.yielded) (vec_items l.dones)
    × (l.fn.faults ≤ l.faults)
    × (l.yielded ++ into_iter_items l.one-iterator ≡ vec_items l.fn.begun)
    × (vec_len l.dones + into_iter_len l.one-iterator ≡ vec_len l.fn.begun)
    × (vec_len l.fn.begun ≤ vec_capacity l.dones)
