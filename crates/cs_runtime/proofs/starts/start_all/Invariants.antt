use Rattle.std.proofs.Common.{◌≡◌, ◌≤◌, ◌++◌, map, vec_len, vec_capacity, vec_items, ◌+◌}
use Rattle.std.specs.Vec.Iter.{into_iter_items, into_iter_len}
use Rattle.cs_runtime.specs.Begun.{begun_of}
use Rattle.cs_runtime.specs.Jobs.{marked, starts_after}
use Rattle.cs_runtime.proofs.starts.start_all.Given as goal

abbrev pub invariant-loop-job : goal.invariant-loop-job
invariant-loop-job g l =
    (map begun_of (vec_items l.begun) ≡ marked l.failing l.fn.starts l.yielded)
    × (l.number ≡ starts_after l.fn.starts l.yielded)
    × (l.yielded ++ into_iter_items l.job-iterator ≡ vec_items l.fn.jobs)
    × (vec_len l.begun + into_iter_len l.job-iterator ≡ vec_len l.fn.jobs)
    × (vec_len l.fn.jobs ≤ vec_capacity l.begun)
