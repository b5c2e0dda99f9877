use Rattle.std.proofs.Common.{◌≡◌, ◌++◌, ◌*◌, ◌-◌, ◌≤◌, vec_items, vec_len, vec_capacity}
use Rattle.std.specs.List.{AllByRecursion}
use Rattle.item_groups.specs.Groups.{flat, HasSize}
use Rattle.item_groups.proofs.regroup.Given as goal

abbrev pub invariant-loop : goal.invariant-loop
invariant-loop g l =
    (flat (vec_items l.groups) ++ vec_items l.rest ≡ vec_items l.fn.items)
    × (vec_len l.rest ≡ (l.fn.count - l.counter) * l.fn.size)
    × (vec_len l.groups ≡ l.counter)
    × (l.fn.count ≤ vec_capacity l.groups)
    × AllByRecursion (HasSize l.fn.size) (vec_items l.groups)
