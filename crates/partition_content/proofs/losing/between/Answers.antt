use Rattle.std.proofs.Common.{◌∙◌, ap, rules}
use Rattle.std.specs.BTreeMap.Range.{range_contains}
use Rattle.std.specs.declared.ops.Bound.TheVariants.{Excluded}
use Rattle.partition_content.specs.Spots.{spot_cmp}
use Rattle.partition_content.specs.Slots.{helds_in}
use Rattle.partition_content.proofs.HeldLemmas.{helds-filter}
use Rattle.partition_content.proofs.losing.between.Goals as goal

pub returns : goal.returns
returns c = ap helds_in (c.range.ensures.between (search rules)) ∙ helds-filter (λ s. range_contains spot_cmp (Excluded c.args.from.now) (Excluded c.args.upto.now) s) c.args.slots.now.entries
