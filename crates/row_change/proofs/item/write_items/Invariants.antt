use Rattle.std.proofs.Common.{◌≡◌, ◌++◌, take}
use Rattle.std.specs.List.{flat_map, AllByRecursion}
use Rattle.row_change.specs.Spelling.{item, ItemInRange}
use Rattle.row_change.proofs.item.write_items.Given as goal

abbrev pub invariant-loop-item : goal.invariant-loop-item
invariant-loop-item l =
    (l.out.items ≡ l.initial.out.items ++ flat_map item (take l.item-index l.items)) × AllByRecursion ItemInRange (take l.item-index l.items)
