use Rattle.std.proofs.Common.{ap, ◌∙◌, sym, subst}
use Rattle.std.specs.BTreeMap.{is_at}
use Rattle.std.specs.List.Sorted.{IsStrictlySortedBy}
use Rattle.partition_content.specs.Spots.{spot_cmp}
use Rattle.partition_content.specs.Slots.{stored_of, helds_in}
use Rattle.partition_content.proofs.HeldLemmas.{helds-keys, helds-remove_entry}
use Rattle.partition_content.proofs.OrderLemmas.{nothing_removed, removed_filed}
use Rattle.partition_content.proofs.slots.drop_unused.Goals as goal

pub returns-then-is_unused-clause-stored : goal.returns-then-is_unused-clause-stored
returns-then-is_unused-clause-stored c = ap stored_of c.remove.ensures.entries ∙ nothing_removed (is_at (spot_cmp c.args.at.now)) c.args.slots.now.entries (c.is_unused.ensures c.if-is_unused.true)

pub returns-then-is_unused-clause-filed : goal.returns-then-is_unused-clause-filed
returns-then-is_unused-clause-filed c =
    removed_filed (is_at (spot_cmp c.args.at.now)) (helds_in c.args.slots.now.entries) (helds_in c.remove.new.self.entries) (ap helds_in c.remove.ensures.entries ∙ helds-remove_entry (is_at (spot_cmp c.args.at.now)) c.args.slots.now.entries)

pub returns-then-is_unused-clause-sorted : goal.returns-then-is_unused-clause-sorted
returns-then-is_unused-clause-sorted c = λ h. subst (IsStrictlySortedBy spot_cmp) (sym (helds-keys c.remove.new.self.entries)) c.remove.ensures.ordered
