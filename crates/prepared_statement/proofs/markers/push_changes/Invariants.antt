use Rattle.std.proofs.Common.{◌≡◌, ◌++◌, take}
use Rattle.prepared_statement.specs.Markers.{changes_markers}
use Rattle.prepared_statement.proofs.markers.push_changes.Given as goal

abbrev pub invariant-loop-change : goal.invariant-loop-change
invariant-loop-change l = l.list ≡ l.fn.list ++ changes_markers (take l.change-index l.changes)
