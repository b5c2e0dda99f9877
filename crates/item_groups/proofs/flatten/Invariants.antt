use Rattle.std.proofs.Common.{◌≡◌, ◌++◌, vec_items}
use Rattle.std.specs.Vec.Iter.{into_iter_items}
use Rattle.item_groups.specs.Groups.{flat}
use Rattle.item_groups.proofs.flatten.Given as goal

abbrev pub invariant-loop-group : goal.invariant-loop-group
invariant-loop-group g l =
    (vec_items l.all ≡ flat l.yielded)
    × (l.yielded ++ into_iter_items l.group-iterator ≡ vec_items l.fn.groups)
