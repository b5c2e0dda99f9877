use Rattle.std.proofs.Common.{ap, subst, arith, List, Option}
use Rattle.std.specs.BTreeMap.Range.{range_contains}
use Rattle.std.specs.List.{sum_by}
use Rattle.std.specs.declared.ops.Bound.TheVariants.{Excluded, Unbounded}
use Rattle.changes.specs.declared.Held.{Held}
use Rattle.changes.specs.Lengths.{held_length}
use Rattle.partition_content.specs.declared.spots.Spot.{Spot}
use Rattle.partition_content.specs.Spots.{spot_cmp}
use Rattle.partition_content.specs.Reading.{first_row}
use Rattle.partition_content.specs.Slots.{changes_of, helds_in, IsLengthOf, IsNewlyOutranked}
use Rattle.partition_content.proofs.RowLemmas.{sum_filtered}
use Rattle.partition_content.proofs.losing.lost_wide.Goals as goal

pub lost_on-requires : goal.lost_on-requires
lost_on-requires c =
    let sum = ap (λ (l : List (Spot × Option Held)). sum_by held_length (changes_of l)) c.before_rows.ensures in
    let most = sum_filtered (λ (d : Spot × Option Held). range_contains spot_cmp Unbounded (Excluded first_row) d.0) (helds_in c.args.slots.now.entries) in
    let fits = c.requires in omega (arith, sum, most, fits)

pub returns : goal.returns
returns c = subst (λ (l : List (Spot × Option Held)). IsLengthOf (IsNewlyOutranked c.args.others.now c.args.x.now) l c.lost_on.result) c.before_rows.ensures c.lost_on.ensures
