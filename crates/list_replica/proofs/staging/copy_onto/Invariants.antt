use Rattle.std.proofs.Common.{◌≡◌, ◌++◌, ◌+◌, ◌≤◌, length, take, vec_len, vec_capacity}
use Rattle.list_replica.proofs.staging.copy_onto.Given as goal

-- those so far, and room for the others
abbrev pub invariant-loop-held : goal.invariant-loop-held
invariant-loop-held l = record {
  copied : l.changes.items ≡ l.fn.changes.items ++ take l.held-index l.more;
  room : vec_len l.fn.changes + length l.more ≤ vec_capacity l.changes;
  len : vec_len l.changes ≡ vec_len l.fn.changes + l.held-index;
}
