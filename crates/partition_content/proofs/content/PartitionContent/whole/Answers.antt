use Rattle.std.proofs.Common.{◌∙◌, sym, ap, subst}
use Rattle.changes.specs.Contents.{AreApart}
use Rattle.changes.specs.Places.{AreInOrder}
use Rattle.partition_content.specs.Partition.{changes_in}
use Rattle.partition_content.specs.Slots.{helds_in}
use Rattle.partition_content.proofs.HeldLemmas.{stored_changes}
use Rattle.partition_content.proofs.OrderLemmas.{changes_in_order}
use Rattle.partition_content.proofs.content.PartitionContent.whole.Goals as goal

pub from_settled-requires-clause-ordered : goal.from_settled-requires-clause-ordered
from_settled-requires-clause-ordered c =
    subst AreInOrder (sym c.in_ok-changes.ensures) (changes_in_order (helds_in c.self.inside.slots.entries) c.self.invariant.good.filed c.self.invariant.good.sorted)

pub from_settled-requires-clause-apart : goal.from_settled-requires-clause-apart
from_settled-requires-clause-apart c = subst AreApart (sym c.in_ok-changes.ensures) c.self.invariant.good.apart

pub returns : goal.returns
returns c = c.from_settled.ensures ∙ c.in_ok-changes.ensures ∙ sym (stored_changes c.self.inside.slots.entries) ∙ ap changes_in c.self.view_is
