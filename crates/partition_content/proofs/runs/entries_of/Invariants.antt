use Rattle.std.proofs.Common.{◌≡◌, ◌++◌, map}
use Rattle.std.specs.Vec.Iter.{into_iter_items}
use Rattle.partition_content.specs.Runs.{entry_of}
use Rattle.partition_content.proofs.runs.entries_of.Given as goal

-- the entries so far, and those to come
abbrev pub invariant-loop-x : goal.invariant-loop-x
invariant-loop-x l = l.entries.items ++ map entry_of (into_iter_items l.x-iterator) ≡ map entry_of l.fn.run.items
