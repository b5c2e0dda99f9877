use Rattle.std.proofs.Common.{◌∙◌, ap, sym, subst, arith, inl, inr, List, Option}
use Rattle.std.specs.BTreeMap.Range.{range_contains}
use Rattle.std.specs.List.{sum_by}
use Rattle.std.specs.declared.cmp.Ordering.TheVariants.{Equal, Greater}
use Rattle.std.specs.declared.ops.Bound.TheVariants.{Excluded}
use Rattle.changes.specs.declared.Held.{Held}
use Rattle.changes.specs.Lengths.{held_length}
use Rattle.partition_content.specs.declared.spots.Spot.{Spot}
use Rattle.partition_content.specs.Spots.{spot_cmp}
use Rattle.partition_content.specs.Slots.{changes_of, helds_in, IsLengthOf, IsNewlyOutranked}
use Rattle.partition_content.proofs.RowLemmas.{sum_filtered}
use Rattle.partition_content.proofs.LossLemmas.{nothing_between}
use Rattle.partition_content.proofs.losing.lost_between.Goals as goal

pub lost_on-requires : goal.lost_on-requires
lost_on-requires c =
    let sum = ap (λ (l : List (Spot × Option Held)). sum_by held_length (changes_of l)) c.between.ensures in
    let most = sum_filtered (λ d. range_contains spot_cmp (Excluded c.args.from.now) (Excluded c.args.upto.now) d.0) (helds_in c.args.slots.now.entries) in
    let fits = c.requires in omega (arith, sum, most, fits)

pub returns-in-Less : goal.returns-in-Less
returns-in-Less c = subst (λ (l : List (Spot × Option Held)). IsLengthOf (IsNewlyOutranked c.args.others.now c.args.x.now) l c.lost_on.result) c.between.ensures c.lost_on.ensures

pub returns-in-Equal : goal.returns-in-Equal
returns-in-Equal c =
    elim c.in-Equal.is [
      | inl e ↦ nothing_between (IsNewlyOutranked c.args.others.now c.args.x.now) c.args.from.now c.args.upto.now (helds_in c.args.slots.now.entries) Equal (sym e ∙ c.cmp.ensures) (λ l. cc)
      | inr g ↦ nothing_between (IsNewlyOutranked c.args.others.now c.args.x.now) c.args.from.now c.args.upto.now (helds_in c.args.slots.now.entries) Greater (sym g ∙ c.cmp.ensures) (λ l. cc)
    ]
