use Rattle.std.proofs.Common.{◌∙◌, ◌++◌, ap, sym, List, Option, append-nil}
use Rattle.changes.specs.declared.Held.{Held}
use Rattle.partition_content.specs.declared.spots.Spot.{Spot}
use Rattle.partition_content.specs.Slots.{changes_of, helds_in}
use Rattle.partition_content.proofs.reading.copy_each.Goals as goal

pub returns : goal.returns
returns c = sym (append-nil c.loop-slot.onto.items) ∙ ap (λ (l : List (Spot × Option Held)). c.loop-slot.onto.items ++ changes_of l) (sym (ap helds_in c.in-None.ensures.steps.0)) ∙ c.loop-slot.invariant
