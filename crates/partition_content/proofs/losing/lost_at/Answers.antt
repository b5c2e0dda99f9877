use Rattle.std.proofs.Common.{ap, subst, arith, List, Option}
use Rattle.std.specs.BTreeMap.Range.{range_contains}
use Rattle.std.specs.List.{sum_by}
use Rattle.std.specs.declared.ops.Bound.TheVariants.{Included}
use Rattle.changes.specs.declared.Held.{Held}
use Rattle.changes.specs.Lengths.{held_length}
use Rattle.partition_content.specs.declared.spots.Spot.{Spot}
use Rattle.partition_content.specs.Spots.{spot_cmp}
use Rattle.partition_content.specs.Slots.{changes_of, helds_in, IsLengthOf, IsNewlyOutranked}
use Rattle.partition_content.proofs.RowLemmas.{sum_filtered}
use Rattle.partition_content.proofs.LossLemmas.{lost_at_own}
use Rattle.partition_content.proofs.losing.lost_at.Goals as goal

pub lost_on-requires : goal.lost_on-requires
lost_on-requires c =
    let sum = ap (λ (l : List (Spot × Option Held)). sum_by held_length (changes_of l)) c.at_key.ensures in
    let most = sum_filtered (λ (d : Spot × Option Held). range_contains spot_cmp (Included c.args.at.now) (Included c.args.at.now) d.0) (helds_in c.args.slots.now.entries) in
    let fits = c.requires.fits in omega (arith, sum, most, fits)

pub returns : goal.returns
returns c =
    lost_at_own c.args.others.now c.args.x.now c.args.at.now (helds_in c.args.slots.now.entries) c.lost_on.result c.requires.at c.requires.narrow c.requires.good.filed
    (subst (λ (l : List (Spot × Option Held)). IsLengthOf (IsNewlyOutranked c.args.others.now c.args.x.now) l c.lost_on.result) c.at_key.ensures c.lost_on.ensures)
