use Rattle.std.proofs.Common.{◌∙◌, ap, rules}
use Rattle.std.specs.BTreeMap.Range.{range_contains}
use Rattle.std.specs.declared.ops.Bound.TheVariants.{Included, Excluded}
use Rattle.partition_content.specs.Spots.{spot_cmp}
use Rattle.partition_content.specs.Slots.{helds_in}
use Rattle.partition_content.proofs.HeldLemmas.{helds-filter}
use Rattle.partition_content.proofs.losing.in_row.Goals as goal

pub returns : goal.returns
returns c = ap helds_in (c.range.ensures.between (search rules)) ∙ helds-filter (λ s. range_contains spot_cmp (Included c.args.at.now) (Excluded c.args.end.now) s) c.args.slots.now.entries
