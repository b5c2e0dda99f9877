use Rattle.std.proofs.Common.{◌≡◌, ◌++◌, ◌∙◌, ap, subst, OnOk}
use Rattle.std.specs.BTreeMap.Range.{entries_between}
use Rattle.std.specs.declared.ops.Bound.TheVariants.{Excluded}
use Rattle.partition_content.specs.declared.spots.Spot.{Spot}
use Rattle.partition_content.specs.declared.spots.Spot.TheVariants.{Edge}
use Rattle.partition_content.specs.Spots.{spot_cmp}
use Rattle.partition_content.specs.Slots.{changes_of, helds_in}
use Rattle.partition_content.proofs.reading.copy_between.Goals as goal

pub copy_behind-copied-requires : goal.copy_behind-copied-requires
copy_behind-copied-requires c = ap (λ (s : Spot). spot_cmp s (Edge c.args.upto.now)) c.in_ok-low.ensures ∙ c.requires

pub returns : goal.returns
returns c =
    subst (λ (s : Spot). OnOk c.copy_behind-copied.result (c.copy_behind-copied.new.onto.items ≡ c.args.onto.now.items ++ changes_of (entries_between spot_cmp (Excluded s) (Excluded (Edge c.args.upto.now)) (helds_in c.args.slots.now.entries)))) c.in_ok-low.ensures c.copy_behind-copied.ensures
