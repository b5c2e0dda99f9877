use Rattle.std.proofs.Common.{◌≡◌, ◌++◌, subst, List, Option, OnOk}
use Rattle.changes.specs.declared.Held.{Held}
use Rattle.partition_content.specs.declared.spots.Spot.{Spot}
use Rattle.partition_content.specs.Slots.{changes_of}
use Rattle.partition_content.proofs.reading.copy_ahead.Goals as goal

pub returns : goal.returns
returns c = subst (λ (l : List (Spot × Option Held)). OnOk c.copy_each.result (c.copy_each.new.onto.items ≡ c.args.onto.now.items ++ changes_of l)) c.between.ensures c.copy_each.ensures
