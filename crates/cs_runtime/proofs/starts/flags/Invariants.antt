use Rattle.std.proofs.Common.{◌≡◌, ◌≤◌, vec_len, vec_capacity}
use Rattle.cs_runtime.proofs.starts.flags.Given as goal

abbrev pub invariant-loop : goal.invariant-loop
invariant-loop l = (vec_len l.flags ≡ l.counter) × (l.count ≤ vec_capacity l.flags)
