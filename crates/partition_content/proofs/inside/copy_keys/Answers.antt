use Rattle.std.proofs.Common.{◌∙◌, ◌++◌, ap, sym, List, Option, append-nil}
use Rattle.std.specs.Map.{keys_of}
use Rattle.changes.specs.declared.Held.{Held}
use Rattle.partition_content.specs.declared.spots.Spot.{Spot}
use Rattle.partition_content.specs.Slots.{helds_in}
use Rattle.partition_content.proofs.inside.copy_keys.Goals as goal

pub returns : goal.returns
returns c = sym (append-nil c.loop-at.onto.items) ∙ ap (λ (l : List (Spot × Option Held)). c.loop-at.onto.items ++ keys_of l) (sym (ap helds_in c.in-None.ensures.steps.0)) ∙ c.loop-at.invariant
