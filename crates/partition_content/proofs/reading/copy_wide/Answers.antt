use Rattle.std.proofs.Common.{◌++◌, ◌↔◌, ◌⊎◌, subst, List, Option, OnOk, Contains}
use Rattle.std.specs.List.Sorted.{IsStrictlySortedBy}
use Rattle.changes.specs.declared.Held.{Held}
use Rattle.partition_content.specs.declared.spots.Spot.{Spot}
use Rattle.changes.specs.Places.{AreInOrder}
use Rattle.changes.specs.Queries.{MeetsBounds}
use Rattle.partition_content.specs.Spots.{spot_cmp}
use Rattle.partition_content.specs.Slots.{changes_of, helds_in, helds_of}
use Rattle.partition_content.specs.Reading.{wide_of}
use Rattle.partition_content.proofs.HeldLemmas.{helds-keys}
use Rattle.partition_content.proofs.ReadLemmas.{adds_nothing}
use Rattle.partition_content.proofs.SliceLemmas.{no_wide_change, order_nothing}
use Rattle.partition_content.proofs.reading.copy_wide.Goals as goal

pub begins_wide-requires : goal.begins_wide-requires
begins_wide-requires c = subst (IsStrictlySortedBy spot_cmp) (helds-keys c.args.slots.now.entries) c.requires.sorted

pub returns-then-not-begins_wide-clause-met : goal.returns-then-not-begins_wide-clause-met
returns-then-not-begins_wide-clause-met c =
    adds_nothing c.args.onto.now.items (λ x. Contains (changes_of (wide_of (helds_in c.args.slots.now.entries))) x × MeetsBounds c.args.from.now c.args.upto.now x.place)
    (λ x p. no_wide_change (helds_of c.args.slots.now) x c.requires.filed
    (λ s h. c.begins_wide.ensures c.if-not-begins_wide.true s (subst (λ (l : List Spot). Contains l s) (helds-keys c.args.slots.now.entries) h)) p.0)

pub returns-then-not-begins_wide-clause-ordered : goal.returns-then-not-begins_wide-clause-ordered
returns-then-not-begins_wide-clause-ordered c = λ h. order_nothing c.args.onto.now.items (changes_of (wide_of (helds_in c.args.slots.now.entries))) h

pub returns-clause-met : goal.returns-clause-met
returns-clause-met c =
    subst (λ (l : List (Spot × Option Held)). OnOk c.copy_met.result ((x : Held) → Contains c.copy_met.new.onto.items x ↔ (Contains c.args.onto.now.items x ⊎ (Contains (changes_of l) x × MeetsBounds c.args.from.now c.args.upto.now x.place)))) c.before_rows.ensures c.copy_met.ensures.met

pub returns-clause-ordered : goal.returns-clause-ordered
returns-clause-ordered c =
    subst (λ (l : List (Spot × Option Held)). OnOk c.copy_met.result (AreInOrder (c.args.onto.now.items ++ changes_of l) → AreInOrder c.copy_met.new.onto.items)) c.before_rows.ensures c.copy_met.ensures.ordered
