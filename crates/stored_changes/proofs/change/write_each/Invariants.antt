use Rattle.std.proofs.Common.{◌≡◌, ◌++◌, take}
use Rattle.std.specs.List.{flat_map}
use Rattle.stored_changes.specs.Spelling.{change, ChangesInRange}
use Rattle.stored_changes.proofs.change.write_each.Given as goal

abbrev pub invariant-loop-change : goal.invariant-loop-change
invariant-loop-change l =
    (l.out.items ≡ l.initial.out.items ++ flat_map change (take l.change-index l.changes)) × ChangesInRange (take l.change-index l.changes)
