use Rattle.std.proofs.Common.{◌≡◌, ◌++◌, ◌∙◌, ap, subst, OnOk}
use Rattle.std.specs.BTreeMap.Range.{entries_between}
use Rattle.std.specs.declared.ops.Bound.TheVariants.{Excluded}
use Rattle.partition_content.specs.declared.spots.Spot.{Spot}
use Rattle.partition_content.specs.Spots.{spot_cmp}
use Rattle.partition_content.specs.Slots.{changes_of, helds_in}
use Rattle.partition_content.proofs.reading.copy_behind.Goals as goal

pub copy_ahead-copied-requires : goal.copy_ahead-copied-requires
copy_ahead-copied-requires c = ap (λ (s : Spot). spot_cmp c.args.low.now s) c.in_ok-high.ensures ∙ c.requires

pub returns : goal.returns
returns c =
    subst (λ (s : Spot). OnOk c.copy_ahead-copied.result (c.copy_ahead-copied.new.onto.items ≡ c.args.onto.now.items ++ changes_of (entries_between spot_cmp (Excluded c.args.low.now) (Excluded s) (helds_in c.args.slots.now.entries)))) c.in_ok-high.ensures c.copy_ahead-copied.ensures
