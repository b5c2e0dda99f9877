use Rattle.std.proofs.Common.{ap, subst, arith, List, Option}
use Rattle.std.specs.BTreeMap.Range.{range_contains}
use Rattle.std.specs.List.{sum_by}
use Rattle.std.specs.declared.ops.Bound.TheVariants.{Included, Excluded}
use Rattle.changes.specs.declared.Held.{Held}
use Rattle.changes.specs.Lengths.{held_length}
use Rattle.partition_content.specs.declared.spots.Spot.{Spot}
use Rattle.partition_content.specs.Spots.{spot_cmp}
use Rattle.partition_content.specs.Slots.{changes_of, helds_in, IsLengthOf, IsNewlyOutranked}
use Rattle.partition_content.proofs.RowLemmas.{sum_filtered}
use Rattle.partition_content.proofs.LossLemmas.{row_lengths}
use Rattle.partition_content.proofs.SweepLemmas.{row_goes_on}
use Rattle.partition_content.proofs.losing.lost_in_row.Goals as goal

pub lost_on-requires : goal.lost_on-requires
lost_on-requires c =
    let sum = ap (λ (l : List (Spot × Option Held)). sum_by held_length (changes_of l)) c.in_row.ensures in
    let most = sum_filtered (λ (d : Spot × Option Held). range_contains spot_cmp (Included c.args.own.now.at) (Excluded c.args.end.now) d.0) (helds_in c.args.slots.now.entries) in
    let fits = c.requires.fits in omega (arith, sum, most, fits)

pub in_row-requires : goal.in_row-requires
in_row-requires c = row_goes_on c.args.own.now c.args.x.now.place c.args.end.now c.requires.keys c.requires.span

pub returns : goal.returns
returns c =
    row_lengths c.args.others.now c.args.x.now c.args.own.now c.args.end.now (helds_in c.args.slots.now.entries) c.lost_on.result c.requires.keys c.requires.span c.requires.good.filed
    (subst (λ (l : List (Spot × Option Held)). IsLengthOf (IsNewlyOutranked c.args.others.now c.args.x.now) l c.lost_on.result) c.in_row.ensures c.lost_on.ensures)
