use Rattle.std.proofs.Common.{ap, subst, arith, List, Option}
use Rattle.std.specs.List.{sum_by}
use Rattle.changes.specs.declared.Held.{Held}
use Rattle.changes.specs.Lengths.{held_length}
use Rattle.partition_content.specs.declared.spots.Spot.{Spot}
use Rattle.partition_content.specs.Slots.{changes_of, helds_in, IsLengthOf, IsNewlyOutranked}
use Rattle.partition_content.proofs.losing.lost_of_all.Goals as goal

pub lost_on-requires : goal.lost_on-requires
lost_on-requires c =
    let sum = ap (λ (l : List (Spot × Option Held)). sum_by held_length (changes_of l)) (ap helds_in c.whole.ensures) in
    let fits = c.requires in omega (arith, sum, fits)

pub returns : goal.returns
returns c = subst (λ (l : List (Spot × Option Held)). IsLengthOf (IsNewlyOutranked c.args.others.now c.args.x.now) l c.lost_on.result) (ap helds_in c.whole.ensures) c.lost_on.ensures
