use Rattle.std.proofs.Common.{subst, List}
use Rattle.changes.specs.declared.Held.{Held}
use Rattle.partition_content.specs.Slots.{IsLengthOf, IsNewlyOutranked, helds_in}
use Rattle.partition_content.proofs.OrderLemmas.{none_in_order}
use Rattle.partition_content.proofs.taking.lost_alone.Goals as goal

pub new-none-requires : goal.new-none-requires
new-none-requires c = none_in_order

pub returns : goal.returns
returns c = subst (λ (l : List Held). IsLengthOf (IsNewlyOutranked l c.args.x.now) (helds_in c.args.slots.now.entries) c.lost_by.result) c.new-none.ensures c.lost_by.ensures
