-- The content without changes, and that of a part of another's.
use Rattle.std.proofs.Common.{[]}
use Rattle.std.specs.List.Sorted.{IsStrictlySortedBy}
use Rattle.cs_base.proofs.Members.{contains_nil}
use Rattle.cell_merge.specs.Settled.{IsSettled}

pub settled_nil : IsSettled []
unfolding IsStrictlySortedBy
settled_nil = record { ordered = tt; apart = λ x y kx ky over. contains_nil x kx }
