use Rattle.std.proofs.Common.{◌≡◌, ◌+◌, ◌++◌, ◌≤◌, Contains, vec_len, vec_capacity}
use Rattle.std.specs.Vec.Iter.{into_iter_items, into_iter_len}
use Rattle.changes.specs.Contents.{Either, IsContent}
use Rattle.cell_merge.proofs.plain.take_all.Given as goal

-- the content with those so far, and room for the others
abbrev pub invariant-loop-x : goal.invariant-loop-x
invariant-loop-x l = record {
  content : IsContent l.kept.items (Either (Contains l.fn.kept.items) (Contains l.yielded));
  all : l.yielded ++ into_iter_items l.x-iterator ≡ l.fn.changes.items;
  room : vec_len l.kept + into_iter_len l.x-iterator ≤ vec_capacity l.kept;
}
