use Rattle.std.proofs.Common.{◌∙◌, sym, ap, subst}
use Rattle.cell_merge.specs.Settled.{IsSettled}
use Rattle.changes.specs.Lengths.{changes_length}
use Rattle.partition_content.specs.Partition.{changes_in}
use Rattle.partition_content.proofs.HeldLemmas.{stored_changes}
use Rattle.partition_content.proofs.OrderLemmas.{changes_in_order}
use Rattle.partition_content.specs.Slots.{helds_in}
use Rattle.partition_content.proofs.content.PartitionContent.encoded_length.Goals as goal

pub returns-clause-length : goal.returns-clause-length
returns-clause-length c = c.self.invariant.long ∙ ap changes_length (sym (stored_changes c.self.inside.slots.entries) ∙ ap changes_in c.self.view_is)

pub returns-clause-settled : goal.returns-clause-settled
returns-clause-settled c =
    subst IsSettled (sym (stored_changes c.self.inside.slots.entries) ∙ ap changes_in c.self.view_is)
    (record { ordered = changes_in_order (helds_in c.self.inside.slots.entries) c.self.invariant.good.filed c.self.invariant.good.sorted; apart = c.self.invariant.good.apart })
